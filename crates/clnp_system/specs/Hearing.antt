-- A hello that is heard (ISO 9542, record configuration, record redirect).
use Rattle.std.specs.Prelude.{◌≡◌, ℕ, Bool, true, false, List, [], ◌∷◌, Option, Some, None}
use Rattle.nsap.specs.declared.port.Port.{Port}
use Rattle.osi_base.specs.declared.unit.Up.{Up}
use Rattle.osi_base.specs.declared.unit.Up.TheVariants.{Note as Noted}
use Rattle.osi_base.specs.declared.note.Note.TheVariants as notes
use Rattle.osi_base.specs.declared.note.HelloCause.{HelloCause}
use Rattle.osi_base.specs.declared.note.HelloCause.TheVariants as told
use Rattle.osi_base.specs.declared.note.HelloKind.{HelloKind}
use Rattle.osi_base.specs.declared.note.HelloKind.TheVariants as kinds
use Rattle.esis_pdu.specs.declared.fault.EsisFault.{EsisFault}
use Rattle.esis_pdu.specs.declared.fault.EsisFault.TheVariants as faults
use Rattle.esis_pdu.specs.declared.hello.Hello.{Hello}
use Rattle.esis_pdu.specs.declared.hello.Hello.TheVariants.{Esh, Ish, Rd}
use Rattle.esis_tables.specs.Told.{Told, on_lan, told_of}
use Rattle.clnp_system.specs.Tables.{Tables}
use Rattle.clnp_system.specs.Node.{Node, Reaction, at_tick}

-- what the note says of a hello that cannot be read
abbrev pub cause_of : EsisFault → HelloCause
cause_of faults.Short = told.Short
cause_of faults.Length = told.Length
cause_of faults.Version = told.Version
cause_of faults.Checksum = told.Checksum
cause_of faults.Kind = told.Kind
cause_of faults.Address = told.Address
cause_of faults.Option = told.Option

-- only a note comes up
abbrev pub only_note : Up (List ℕ) → Reaction
only_note note = record { ups = note ∷ []; frames = [] }

-- heard by the neighbours
abbrev pub HeardBy : {N : Type 0} → Node N → ℕ → HelloKind → List ℕ → Option N → Reaction → Node N → Type 0
HeardBy old now kind snpa None reaction new = (reaction ≡ only_note (Noted (notes.HelloFull old.setup.system))) × (new ≡ at_tick now old)
HeardBy old now kind snpa (Some table) reaction new =
    (reaction ≡ only_note (Noted (notes.Hello old.setup.system kind snpa))) × (new ≡ record old { clock = now; neighbours = table })

-- heard by the redirects
abbrev pub RedirectedBy : {N : Type 0} → Node N → ℕ → List ℕ → List ℕ → Option N → Reaction → Node N → Type 0
RedirectedBy old now address snpa None reaction new = (reaction ≡ only_note (Noted (notes.HelloFull old.setup.system))) × (new ≡ at_tick now old)
RedirectedBy old now address snpa (Some table) reaction new =
    (reaction ≡ only_note (Noted (notes.Redirect old.setup.system address snpa))) × (new ≡ record old { clock = now; redirects = table })

-- an end system heeds a redirect, an intermediate system only shows it, with the SNPA of the sender
abbrev pub HeedsIf : {N : Type 0} → Bool → Tables N → Node N → ℕ → Port → Told → List ℕ → List ℕ → Reaction → Node N → Type 0
HeedsIf true tables old now from heard address snpa reaction new = RedirectedBy old now address snpa (tables.hear old.redirects heard) reaction new
HeedsIf false tables old now from heard address snpa reaction new =
    (reaction ≡ only_note (Noted (notes.Hello old.setup.system kinds.Rd from.snpa))) × (new ≡ at_tick now old)

-- a hello from that port
abbrev pub Hears : {N : Type 0} → Tables N → Node N → ℕ → Port → Hello → Reaction → Node N → Type 0
Hears tables old now from (Esh hold addresses) reaction new =
    HeardBy old now kinds.Esh from.snpa (tables.hear old.neighbours (told_of now from (Esh hold addresses))) reaction new
Hears tables old now from (Ish hold title) reaction new =
    HeardBy old now kinds.Ish from.snpa (tables.hear old.neighbours (told_of now from (Ish hold title))) reaction new
Hears tables old now from (Rd hold address snpa title) reaction new =
    HeedsIf old.setup.end tables old now from (told_of now (on_lan from.lan) (Rd hold address snpa title)) address snpa reaction new
