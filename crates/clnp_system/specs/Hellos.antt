-- Hellos and redirects that a system sends (ISO 9542, report configuration, request redirect).
use Rattle.std.specs.Prelude.{◌≡◌, ℕ, ◌==◌, ◌%◌, Bool, true, false, ◌&&◌, nat_lt, List, [], ◌∷◌}
use Rattle.nsap.specs.declared.port.Port.{Port}
use Rattle.esis_pdu.specs.declared.hello.Hello.{Hello}
use Rattle.esis_pdu.specs.declared.hello.Hello.TheVariants.{Esh, Ish}
use Rattle.clnp_system.specs.Setting.{Setting, own_address, all_ends, all_intermediates, is_group}
use Rattle.clnp_system.specs.Node.{Frame}
use Rattle.clnp_system.specs.Written.{IsHelloFrame}

-- an end system tells its addresses for transport and for raw units
abbrev pub own_esh : Setting → Hello
own_esh setting = Esh setting.hold (own_address setting 1 ∷ own_address setting 2 ∷ [])

-- an intermediate system tells its title
abbrev pub own_ish : Setting → Hello
own_ish setting = Ish setting.hold setting.title

-- what a system tells of itself, and to whom: an end system to all intermediate systems, an intermediate system to all end systems
abbrev pub own_hello : Setting → Bool → Hello
own_hello setting true = own_esh setting
own_hello setting false = own_ish setting

abbrev pub hearers : Bool → List ℕ
hearers true = all_intermediates
hearers false = all_ends

-- a hello on each port
abbrev pub AreHellos : Setting → List Port → List Frame → Type 0
AreHellos setting [] frames = frames ≡ []
AreHellos setting (port ∷ ports) frames =
    (frame : Frame) × (rest : List Frame) × IsHelloFrame setting (record { lan = port.lan; snpa = hearers setting.end }) (own_hello setting setting.end) frame
    × AreHellos setting ports rest × (frames ≡ frame ∷ rest)

-- hellos are on, and due at that tick
abbrev pub is_due : Setting → ℕ → Bool
is_due setting now = nat_lt 0 setting.hello && now % setting.hello == 0

abbrev pub HellosIf : Bool → Setting → List Frame → Type 0
HellosIf false setting frames = frames ≡ []
HellosIf true setting frames = AreHellos setting setting.ports frames

-- the sender, on the LAN on which the frame came
abbrev pub sender : Port → Port → Port
sender from at = record { lan = at.lan; snpa = from.snpa }

-- one hello to the sender, or none
abbrev pub ToSenderIf : Bool → Setting → Port → Hello → List Frame → Type 0
ToSenderIf false setting to hello frames = frames ≡ []
ToSenderIf true setting to hello frames = (one : Frame) × IsHelloFrame setting to hello one × (frames ≡ one ∷ [])

-- step 1, last: a DT PDU in a group frame that was not discarded is answered by the ESH
abbrev pub AnswersGroup : Setting → Port → Port → List Frame → Type 0
AnswersGroup setting from at frames = ToSenderIf (is_group at.snpa) setting (sender from at) (own_esh setting) frames
