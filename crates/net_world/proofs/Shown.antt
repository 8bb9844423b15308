-- What comes up is told without a tick, and a unit that is shown was sent, where what comes up is lawful.
use Rattle.std.proofs.Common.{◌≡◌, ℕ, ◌+◌, ◌≤◌, Bool, true, false, List, [], ◌∷◌, ◌++◌, refl, ◌∙◌, ap, subst, arith}
use Rattle.std.specs.Prelude.{◌==◌, if◌then◌else◌}
use Rattle.std.specs.List.{All, AllByRecursion}
use Rattle.std.proofs.lemmas.List.Elements.{All-head, All-tail}
use Rattle.nsap.specs.Address.{selector_of}
use Rattle.osi_base.specs.declared.unit.Arrival.{Arrival}
use Rattle.osi_base.specs.declared.unit.Up.{Up}
use Rattle.osi_base.specs.declared.unit.Up.TheVariants.{Unit as Came, Note as Noted}
use Rattle.osi_base.specs.declared.unit.Offered.{Offered}
use Rattle.osi_base.specs.declared.unit.Offered.TheVariants.{Taken as WasTaken, Dropped}
use Rattle.osi_base.specs.declared.unit.Picked.{Picked}
use Rattle.osi_base.specs.declared.unit.Picked.TheVariants as picks
use Rattle.osi_base.specs.declared.note.Note.{Note}
use Rattle.osi_base.specs.Link.{Link, IsNote, IsLawful}
use Rattle.script_journal.specs.declared.event.Event.{Event}
use Rattle.script_journal.specs.declared.event.Event.TheVariants as events
use Rattle.script_journal.specs.RawLawful.{clock_after, clock_from, tick_after, WasSent}
use Rattle.net_world.specs.First.{IsAtHome}
use Rattle.net_world.specs.Told.{shown_at, told, sent_event, picked_event}
use Rattle.net_world.proofs.Journals.{clock_from-append, IsOther}
use Rattle.net_world.proofs.Units.{AllSent, entry_later, was_sent, NewSent, none_new, one_new, both_new}

-- the event shows no unit, and does not move the clock
pub record IsStill (event : Event) : Type 0 where
  pub other : IsOther event
  pub clock : (now : ℕ) → clock_after now event ≡ now

pub note_still : (note : Note) → IsStill (events.Net note)
note_still note = record { other = tt; clock = λ now. refl }

pub sent_still : (system : ℕ) (to octets : List ℕ) (answer : Offered) → IsStill (sent_event system to octets answer)
sent_still system to octets WasTaken = record { other = tt; clock = λ now. refl }
sent_still system to octets (Dropped cause) = record { other = tt; clock = λ now. refl }

pub picked_still : (number system : ℕ) (answer : Picked) → IsStill (picked_event number system answer)
picked_still number system picks.Taken = record { other = tt; clock = λ now. refl }
picked_still number system answer = record { other = tt; clock = λ now. refl }

shown_clock : (shown : Bool) (now system : ℕ) (from octets : List ℕ) → clock_from now (if shown then events.Unit system from octets ∷ [] else []) ≡ now
shown_clock true now system from octets = refl
shown_clock false now system from octets = refl

-- nothing that comes up moves the clock
pub told_clock : (now : ℕ) (ups : List (Up (List ℕ))) → clock_from now (told ups) ≡ now
told_clock now [] = refl
told_clock now (Noted note ∷ ups) = ap (λ (n : ℕ). clock_from n (told ups)) ((note_still note).clock now) ∙ told_clock now ups
told_clock now (Came arrival ∷ ups) =
    clock_from-append now (shown_at arrival.system arrival.unit) (told ups)
    ∙ ap (λ (n : ℕ). clock_from n (told ups)) (shown_clock (selector_of arrival.unit.to == 2) now arrival.system arrival.unit.from arrival.unit.octets)
    ∙ told_clock now ups

-- notes show no unit
pub notes_other : (ups : List (Up (List ℕ))) → All IsNote ups → AllByRecursion IsOther (told ups)
notes_other [] all = tt
notes_other (Noted note ∷ ups) all = ((note_still note).other, notes_other ups (All-tail IsNote (Noted note) ups all))
notes_other (Came arrival ∷ ups) all = absurd (All-head IsNote (Came arrival) ups all)

module _ (life : ℕ) (titles : List (List ℕ)) (link : Link (List ℕ)) (bounds : (to : List ℕ) → link.bound to ≤ life) (home : IsAtHome titles link) where
  -- one arrival, shown or not
  shown_sent : (shown : Bool) (arrival : Arrival (List ℕ)) (journal : List Event) → (selector_of arrival.unit.to == 2) ≡ shown
      → AllSent titles link.floating journal → tick_after journal ≡ link.clock → IsLawful link (Came arrival)
      → NewSent life titles journal (if shown then events.Unit arrival.system arrival.unit.from arrival.unit.octets ∷ [] else [])
  shown_sent false arrival journal is sent clock lawful = none_new life titles journal [] tt
  shown_sent true arrival journal is sent clock lawful =
      let at = home.home arrival.unit.to arrival.system lawful.1 in
      let entry = sent.each (lawful.0.tick, arrival.unit) lawful.0.taken is in
      let recent : tick_after journal ≤ lawful.0.tick + life = omega (arith, clock, lawful.0.live, bounds arrival.unit.to) in
      let here : WasSent life titles journal arrival.system arrival.unit.from arrival.unit.octets =
      was_sent life titles journal arrival.system lawful.0.tick arrival.unit at.0 entry at.1 at.2 recent in
      one_new life titles journal (events.Unit arrival.system arrival.unit.from arrival.unit.octets) (λ system from octets same.
      let system_is : arrival.system ≡ system = cc in
      let from_is : arrival.unit.from ≡ from = cc in
      let octets_is : arrival.unit.octets ≡ octets = cc in
      subst (λ (s : ℕ). WasSent life titles journal s from octets) system_is
      (subst (λ (f : List ℕ). WasSent life titles journal arrival.system f octets) from_is
      (subst (λ (o : List ℕ). WasSent life titles journal arrival.system arrival.unit.from o) octets_is here)))

  -- what comes up, one after another
  pub told_sent : (ups : List (Up (List ℕ))) (journal : List Event) → AllSent titles link.floating journal → tick_after journal ≡ link.clock → All (IsLawful link) ups
      → NewSent life titles journal (told ups)
  told_sent [] journal sent clock all = none_new life titles journal [] tt
  told_sent (Noted note ∷ ups) journal sent clock all =
      let still = note_still note in
      let next : List Event = journal ++ events.Net note ∷ [] in
      let sent_next : AllSent titles link.floating next = record { each = λ entry c s. entry_later titles journal (events.Net note ∷ []) entry (sent.each entry c s) } in
      let clock_next : tick_after next ≡ link.clock = clock_from-append 0 journal (events.Net note ∷ []) ∙ still.clock (tick_after journal) ∙ clock in
      both_new life titles journal (events.Net note ∷ []) (told ups) (none_new life titles journal (events.Net note ∷ []) (still.other, tt))
      (told_sent ups next sent_next clock_next (All-tail (IsLawful link) (Noted note) ups all))
  told_sent (Came arrival ∷ ups) journal sent clock all =
      let made : List Event = shown_at arrival.system arrival.unit in
      let next : List Event = journal ++ made in
      let sent_next : AllSent titles link.floating next = record { each = λ entry c s. entry_later titles journal made entry (sent.each entry c s) } in
      let clock_next : tick_after next ≡ link.clock =
      clock_from-append 0 journal made ∙ shown_clock (selector_of arrival.unit.to == 2) (tick_after journal) arrival.system arrival.unit.from arrival.unit.octets ∙ clock in
      both_new life titles journal made (told ups)
      (shown_sent (selector_of arrival.unit.to == 2) arrival journal refl sent clock (All-head (IsLawful link) (Came arrival) ups all))
      (told_sent ups next sent_next clock_next (All-tail (IsLawful link) (Came arrival) ups all))
