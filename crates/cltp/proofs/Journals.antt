-- Which events show no datagram, and which leave the clock.
use Rattle.std.proofs.Common.{◌≡◌, ℕ, Bool, true, false, List, [], ◌∷◌, ◌++◌, refl, subst}
use Rattle.std.specs.Prelude.{◌==◌, if◌then◌else◌}
use Rattle.std.specs.List.{AllByRecursion}
use Rattle.nsap.specs.Address.{selector_of}
use Rattle.osi_base.specs.declared.note.Note.{Note}
use Rattle.osi_base.specs.declared.unit.Offered.{Offered}
use Rattle.osi_base.specs.declared.unit.Offered.TheVariants.{Taken as WasTaken, Dropped}
use Rattle.osi_base.specs.declared.unit.Picked.{Picked}
use Rattle.osi_base.specs.declared.unit.Picked.TheVariants as picks
use Rattle.osi_base.specs.declared.unit.Up.{Up}
use Rattle.osi_base.specs.declared.unit.Up.TheVariants.{Unit as Came, Note as Noted}
use Rattle.script_journal.specs.declared.event.Event.{Event}
use Rattle.script_journal.specs.declared.event.Event.TheVariants as events
use Rattle.script_journal.specs.RawLawful.{clock_after}
use Rattle.net_world.specs.Told.{told, picked_event}
use Rattle.net_world.proofs.Shown.{picked_still}
use Rattle.cltp.specs.declared.sending.Request.{Request}
use Rattle.cltp.specs.Sending.{send_event}

pub send_clock : (now system : ℕ) (request : Request) (answer : Offered) → clock_after now (send_event system request answer) ≡ now
send_clock now system request WasTaken = refl
send_clock now system request (Dropped cause) = refl

pub picked_clock : (now number system : ℕ) (answer : Picked) → clock_after now (picked_event number system answer) ≡ now
picked_clock now number system answer = (picked_still number system answer).clock now

-- the event shows no datagram
abbrev pub IsOther : Event → Type 0
IsOther (events.Datagram system from calling called octets) = ⊥
IsOther event = Unit {0}

pub send_other : (system : ℕ) (request : Request) (answer : Offered) → IsOther (send_event system request answer)
send_other system request WasTaken = tt
send_other system request (Dropped cause) = tt

pub picked_other : (number system : ℕ) (answer : Picked) → IsOther (picked_event number system answer)
picked_other number system picks.Taken = tt
picked_other number system answer = tt

note_other : (note : Note) → IsOther (events.Net note)
note_other note = tt

raw_other : (shown : Bool) (system : ℕ) (from octets : List ℕ) (more : List Event) → AllByRecursion IsOther more
    → AllByRecursion IsOther ((if shown then events.Unit system from octets ∷ [] else []) ++ more)
raw_other true system from octets more others = (tt, others)
raw_other false system from octets more others = others

-- nothing that a network tells of what came up shows a datagram
pub told_other : (ups : List (Up (List ℕ))) → AllByRecursion IsOther (told ups)
told_other [] = tt
told_other (Noted note ∷ ups) = (note_other note, told_other ups)
told_other (Came arrival ∷ ups) = raw_other (selector_of arrival.unit.to == 2) arrival.system arrival.unit.from arrival.unit.octets (told ups) (told_other ups)

pub no_datagram : (made before after : List Event) (system : ℕ) (from calling called octets : List ℕ) → AllByRecursion IsOther made
    → made ≡ before ++ events.Datagram system from calling called octets ∷ after → ⊥
no_datagram [] [] after system from calling called octets others is = cc
no_datagram [] (event ∷ before) after system from calling called octets others is = cc
no_datagram (e ∷ made) [] after system from calling called octets others is =
    let head : e ≡ events.Datagram system from calling called octets = cc in
    subst IsOther head others.0
no_datagram (e ∷ made) (event ∷ before) after system from calling called octets others is =
    let tail : made ≡ before ++ events.Datagram system from calling called octets ∷ after = cc in
    no_datagram made before after system from calling called octets others.1 tail
