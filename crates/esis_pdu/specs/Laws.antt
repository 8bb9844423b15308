-- What holds of the PDUs of ES-IS that are written.
use Rattle.std.specs.Prelude.{◌≡◌, ℕ, List}
use Rattle.esis_pdu.specs.declared.hello.Hello.{Hello}
use Rattle.esis_pdu.specs.Hellos.{IsWritten}

-- the octets that are written of a PDU are one list
abbrev pub OneWriting : Type 0
OneWriting = (hello : Hello) (octets others : List ℕ) → IsWritten hello octets → IsWritten hello others → octets ≡ others
