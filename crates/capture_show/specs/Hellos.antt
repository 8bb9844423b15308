-- The lines of PDUs of ES-IS and of their faults (ISO 9542, structure and encoding of PDUs; PDU header analysis).
use Rattle.std.specs.Prelude.{ℕ, List, [], ◌∷◌, codes}
use Rattle.std.specs.Fmt.{decimal}
use Rattle.hex.specs.Hex.{encode_lower}
use Rattle.pdu_parts.specs.Parameter.{Parameter}
use Rattle.esis_pdu.specs.declared.fault.EsisFault.{EsisFault}
use Rattle.esis_pdu.specs.declared.fault.EsisFault.TheVariants as faults
use Rattle.esis_pdu.specs.declared.hello.Hello.{Hello}
use Rattle.esis_pdu.specs.declared.hello.Hello.TheVariants.{Esh, Ish, Rd}
use Rattle.capture_show.specs.Texts.{line, address_text, addresses_text, title_text, parameters_text}

abbrev pub hello_line : Hello → List Parameter → List ℕ
hello_line (Esh hold addresses) options = line (codes "esh" ∷ decimal hold ∷ addresses_text addresses ∷ parameters_text options ∷ [])
hello_line (Ish hold title) options = line (codes "ish" ∷ decimal hold ∷ address_text title ∷ parameters_text options ∷ [])
hello_line (Rd hold address snpa title) options =
    line (codes "rd" ∷ decimal hold ∷ address_text address ∷ encode_lower snpa ∷ title_text title ∷ parameters_text options ∷ [])

abbrev pub hello_fault_text : EsisFault → List ℕ
hello_fault_text faults.Short = codes "short"
hello_fault_text faults.Length = codes "length"
hello_fault_text faults.Version = codes "version"
hello_fault_text faults.Checksum = codes "checksum"
hello_fault_text faults.Kind = codes "kind"
hello_fault_text faults.Address = codes "address"
hello_fault_text faults.Option = codes "option"

abbrev pub bad_hello_line : EsisFault → List ℕ
bad_hello_line fault = line (codes "badesis" ∷ hello_fault_text fault ∷ [])
