-- Where a connection is not refused, the entity is not silent and the request has 32 octets at most.
use Rattle.std.proofs.Common.{◌≡◌, nat_lt, ℕ, ◌≤◌, Bool, true, false, if◌then◌else◌, List, length, Option, Some, None, refl}
use Rattle.std.proofs.lemmas.Bool.{ltb-false}
use Rattle.tp4_entity.specs.declared.refusal.ConnectRefusal.{ConnectRefusal}
use Rattle.tp4_entity.specs.declared.refusal.ConnectRefusal.TheVariants as connects
use Rattle.tp4_entity.specs.Entity.{Entity}
use Rattle.tp4_entity.specs.Silence.{is_silent}
use Rattle.tp4_entity.specs.Step.{connect_refusal}

-- the test that comes first, and the one behind it
abbrev first_of : Bool → ConnectRefusal → Option ConnectRefusal → Option ConnectRefusal
first_of here why rest = if here then Some why else rest

fails : (here : Bool) (why : ConnectRefusal) (rest : Option ConnectRefusal) → first_of here why rest ≡ None → (here ≡ false) × (rest ≡ None)
fails true why rest is = absurd cc
fails false why rest is = (refl, is)

pub audible : (now : ℕ) (e : Entity) (octets : List ℕ) → connect_refusal now e octets ≡ None → is_silent now e ≡ false
audible now e octets is = (fails (is_silent now e) connects.Silent _ is).0

pub short : (now : ℕ) (e : Entity) (octets : List ℕ) → connect_refusal now e octets ≡ None → length octets ≤ 32
short now e octets is =
    let rest = (fails (is_silent now e) connects.Silent _ is).1 in
    ltb-false 32 (length octets) (fails (nat_lt 32 (length octets)) connects.TooLong _ rest).0
