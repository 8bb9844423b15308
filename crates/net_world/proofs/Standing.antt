-- What holds of a network between its lines and of the journal that led to it, and goes on to hold by each call: the clock is the
-- journal's, each raw unit that floats was sent at its tick, and each that was shown was sent.
use Rattle.std.proofs.Common.{◌≡◌, ℕ, ◌+◌, ◌≤◌, true, List, [], ◌∷◌, ◌++◌, Some, refl, sym, ◌∙◌, ap, subst, inl, inr, arith}
use Rattle.std.specs.Prelude.{slice_get, IsTrue}
use Rattle.std.specs.List.{All, Contains}
use Rattle.osi_base.specs.declared.unit.Up.{Up}
use Rattle.osi_base.specs.declared.unit.Unit.{Unit as CarriedUnit}
use Rattle.osi_base.specs.declared.unit.Offered.{Offered}
use Rattle.osi_base.specs.declared.unit.Picked.{Picked}
use Rattle.osi_base.specs.Link.{Link, IsNote, IsLawful}
use Rattle.osi_base.specs.Calls.{IsSameLink, NothingNew, Offers, Chooses, Ticks}
use Rattle.osi_base.specs.Gathering.{Stands}
use Rattle.osi_base.proofs.Chains.{same_on}
use Rattle.script_journal.specs.declared.event.Event.{Event}
use Rattle.script_journal.specs.declared.event.Event.TheVariants as events
use Rattle.script_journal.specs.RawLawful.{raw_address, clock_from, tick_after, RawLawful}
use Rattle.net_world.specs.First.{IsAtHome, IsFirst}
use Rattle.net_world.specs.Run.{raw_unit}
use Rattle.net_world.specs.Told.{told, sent_event, picked_event}
use Rattle.net_world.proofs.Journals.{clock_from-append, IsOther, no_unit}
use Rattle.net_world.proofs.Units.{AllSent, EntrySent, entry_later, NewSent, none_new, both_new, lawful_more}
use Rattle.net_world.proofs.Shown.{sent_still, picked_still, told_clock, notes_other, told_sent}

-- what holds of a network and of the journal that led to it
pub record Standing (life : ℕ) (titles : List (List ℕ)) (link : Link (List ℕ)) (journal : List Event) : Type 0 where
  pub clock_is : link.clock ≡ tick_after journal
  pub honest : link.honest ≡ true
  pub bounds : (to : List ℕ) → link.bound to ≤ life
  pub home : IsAtHome titles link
  pub sent : AllSent titles link.floating journal
  pub lawful : RawLawful life titles journal

-- what was called, and what is there once all that waits was taken up
pub record Gathered (called : Link (List ℕ)) (ups : List (Up (List ℕ))) (new : Link (List ℕ)) : Type 0 where
  pub waited : called.waiting ≡ ups
  pub stands : Stands called new
  pub grows : NothingNew called new

-- what a step has to do
pub record Moves (life : ℕ) (titles : List (List ℕ)) (old new : Link (List ℕ)) (journal made : List Event) : Type 0 where
  pub same : IsSameLink old new
  pub honest : new.honest ≡ old.honest
  pub clock : new.clock ≡ clock_from old.clock made
  pub sent : AllSent titles new.floating (journal ++ made)
  pub units : NewSent life titles journal made

at_home : (titles : List (List ℕ)) (old new : Link (List ℕ)) → IsSameLink old new → IsAtHome titles old → IsAtHome titles new
at_home titles old new same home = record { home = λ to system belongs. home.home to system (subst (λ b. IsTrue b) (same.belongs to system) belongs) }

pub moved : (life : ℕ) (titles : List (List ℕ)) (old new : Link (List ℕ)) (journal made : List Event) → Standing life titles old journal → Moves life titles old new journal made
    → Standing life titles new (journal ++ made)
moved life titles old new journal made stands moves = record {
  clock_is = moves.clock ∙ ap (λ (n : ℕ). clock_from n made) stands.clock_is ∙ sym (clock_from-append 0 journal made);
  honest = moves.honest ∙ stands.honest;
  bounds = λ to. subst (λ (n : ℕ). n ≤ life) (sym (moves.same.bound to)) (stands.bounds to);
  home = at_home titles old new moves.same stands.home;
  sent = moves.sent;
  lawful = lawful_more life titles journal made stands.lawful moves.units;
}

-- units that floated go on to have been sent
pub sent_later : (titles : List (List ℕ)) (old new : Link (List ℕ)) (journal made : List Event) → AllSent titles old.floating journal → NothingNew old new
    → AllSent titles new.floating (journal ++ made)
sent_later titles old new journal made sent grows = record { each = λ entry there raw. entry_later titles journal made entry (sent.each entry (grows entry there) raw) }

-- a call that adds notes alone, with an event of its own
noted : (life : ℕ) (titles : List (List ℕ)) (old called new : Link (List ℕ)) (journal : List Event) (event : Event) (ups : List (Up (List ℕ)))
    → Standing life titles old journal → IsSameLink old called → called.honest ≡ old.honest → called.clock ≡ clock_from old.clock (event ∷ []) → IsOther event → All IsNote ups
    → Gathered called ups new → AllSent titles new.floating (journal ++ event ∷ told ups) → Standing life titles new (journal ++ event ∷ told ups)
noted life titles old called new journal event ups stands same honest clock other notes up sent =
    moved life titles old new journal (event ∷ told ups) stands
    (record {
      same = same_on old called new same up.stands.same;
      honest = up.stands.honest ∙ honest;
      clock = up.stands.clock ∙ clock ∙ sym (told_clock (clock_from old.clock (event ∷ [])) ups);
      sent = sent;
      units = none_new life titles journal (event ∷ told ups) (other, notes_other ups notes);
    })

-- these waited after a call that added them to nothing
pub these_waited : (old : Link (List ℕ)) (notes ups waiting : List (Up (List ℕ))) → old.waiting ≡ [] → waiting ≡ old.waiting ++ notes → waiting ≡ ups → notes ≡ ups
these_waited old notes ups waiting quiet added are = sym (ap (λ (w : List (Up (List ℕ))). w ++ notes) quiet) ∙ sym added ∙ are

-- a raw unit that is offered
pub offered : (life : ℕ) (titles : List (List ℕ)) (old called new : Link (List ℕ)) (journal : List Event) (system : ℕ) (sender receiver octets : List ℕ) (answer : Offered)
    (ups : List (Up (List ℕ))) → Standing life titles old journal → old.waiting ≡ [] → slice_get titles system ≡ Some sender
    → Offers old (raw_unit sender receiver octets) answer called → Gathered called ups new
    → Standing life titles new (journal ++ sent_event system (raw_address receiver) octets answer ∷ told ups)
offered life titles old called new journal system sender receiver octets answer ups stands quiet sender_is offers up =
    let event : Event = sent_event system (raw_address receiver) octets answer in
    let still = sent_still system (raw_address receiver) octets answer in
    let notes_are = these_waited old offers.notes.notes ups called.waiting quiet offers.notes.waiting up.waited in
    let sent : AllSent titles new.floating (journal ++ event ∷ told ups) = record {
      each = λ entry there raw.
          elim (offers.grows entry (up.grows entry there)) [
            | inl before ↦ entry_later titles journal (event ∷ told ups) entry (stands.sent.each entry before raw)
            | inr here ↦
                let fresh : EntrySent titles (journal ++ event ∷ told ups) (old.clock, raw_unit sender receiver octets) = record {
                  sender = system;
                  sender_title = sender;
                  receiver_title = receiver;
                  earlier = journal;
                  later = told ups;
                  sender_is = sender_is;
                  from_is = refl;
                  to_is = refl;
                  sent = ap (λ (a : Offered). journal ++ sent_event system (raw_address receiver) octets a ∷ told ups) here.0;
                  tick_is = stands.clock_is;
                } in
                subst (λ (e : ℕ × CarriedUnit (List ℕ)). EntrySent titles (journal ++ event ∷ told ups) e) (sym here.1) fresh
          ];
    } in
    noted life titles old called new journal event ups stands offers.same offers.honest (offers.clock ∙ sym (still.clock old.clock)) still.other
    (subst (λ (n : List (Up (List ℕ))). All IsNote n) notes_are offers.notes.all_notes) up sent

-- a tick
pub ticked : (life : ℕ) (titles : List (List ℕ)) (old called new : Link (List ℕ)) (journal : List Event) (ups : List (Up (List ℕ)))
    → Standing life titles old journal → old.waiting ≡ [] → Ticks old called → Gathered called ups new
    → Standing life titles new (journal ++ events.Tick (old.clock + 1) ∷ told ups)
ticked life titles old called new journal ups stands quiet ticks up =
    let notes_are = these_waited old ticks.notes.notes ups called.waiting quiet ticks.notes.waiting up.waited in
    noted life titles old called new journal (events.Tick (old.clock + 1)) ups stands ticks.same ticks.honest ticks.clock tt
    (subst (λ (n : List (Up (List ℕ))). All IsNote n) notes_are ticks.notes.all_notes) up
    (sent_later titles old new journal (events.Tick (old.clock + 1) ∷ told ups) stands.sent (λ entry there. ticks.grows entry (up.grows entry there)))

-- a choice of what arrives
pub chosen : (life : ℕ) (titles : List (List ℕ)) (old called new : Link (List ℕ)) (journal : List Event) (number system : ℕ) (answer : Picked) (ups : List (Up (List ℕ)))
    → Standing life titles old journal → old.waiting ≡ [] → Chooses old number system answer called → Gathered called ups new
    → Standing life titles new (journal ++ picked_event number system answer ∷ told ups)
chosen life titles old called new journal number system answer ups stands quiet chooses up =
    let event : Event = picked_event number system answer in
    let still = picked_still number system answer in
    let ups_are = these_waited old chooses.ups ups called.waiting quiet chooses.adds.waiting up.waited in
    let lawful : All (IsLawful old) ups = subst (λ (u : List (Up (List ℕ))). All (IsLawful old) u) ups_are (chooses.lawful stands.honest) in
    let clock_next : tick_after (journal ++ event ∷ []) ≡ old.clock =
    clock_from-append 0 journal (event ∷ []) ∙ still.clock (tick_after journal) ∙ sym stands.clock_is in
    let sent_next : AllSent titles old.floating (journal ++ event ∷ []) = sent_later titles old old journal (event ∷ []) stands.sent (λ entry there. there) in
    moved life titles old new journal (event ∷ told ups) stands
    (record {
      same = same_on old called new chooses.same up.stands.same;
      honest = up.stands.honest ∙ chooses.honest;
      clock = up.stands.clock ∙ chooses.clock ∙ sym (ap (λ (n : ℕ). clock_from n (told ups)) (still.clock old.clock) ∙ told_clock old.clock ups);
      sent = sent_later titles old new journal (event ∷ told ups) stands.sent (λ entry there. chooses.grows entry (up.grows entry there));
      units = both_new life titles journal (event ∷ []) (told ups) (none_new life titles journal (event ∷ []) (still.other, tt))
          (told_sent life titles old stands.bounds stands.home ups (journal ++ event ∷ []) sent_next clock_next lawful);
    })

-- a unit without octets, which is refused
pub refused : (life : ℕ) (titles : List (List ℕ)) (old : Link (List ℕ)) (journal : List Event) (event : Event) → Standing life titles old journal → IsOther event
    → clock_from old.clock (event ∷ []) ≡ old.clock → Standing life titles old (journal ++ event ∷ [])
refused life titles old journal event stands other clock =
    moved life titles old old journal (event ∷ []) stands
    (record {
      same = record { bound = λ to. refl; room = λ to. refl; belongs = λ to system. refl };
      honest = refl;
      clock = sym clock;
      sent = sent_later titles old old journal (event ∷ []) stands.sent (λ entry there. there);
      units = none_new life titles journal (event ∷ []) (other, tt);
    })

-- nothing happened yet
first_stands : (life : ℕ) (titles : List (List ℕ)) (link : Link (List ℕ)) → IsFirst life titles link → Standing life titles link []
first_stands life titles link first = record {
  clock_is = first.clock;
  honest = first.honest;
  bounds = first.bounds;
  home = first.home;
  sent = record { each = λ entry there raw. absurd (none_there entry (subst (λ (f : List (ℕ × CarriedUnit (List ℕ))). Contains f entry) first.none there)) };
  lawful = λ before after system from octets is. absurd (no_unit [] before after system from octets tt is);
} where
  none_there : (entry : ℕ × CarriedUnit (List ℕ)) → Contains [] entry → ⊥
  none_there entry there = omega (arith, there.1)

-- the start tells what waits
pub started : (life : ℕ) (titles : List (List ℕ)) (old new : Link (List ℕ)) (ups : List (Up (List ℕ))) → IsFirst life titles old → Gathered old ups new
    → Standing life titles new (events.Tick 0 ∷ told ups)
started life titles old new ups first up =
    let same : IsSameLink old old = record { bound = λ to. refl; room = λ to. refl; belongs = λ to system. refl } in
    let stands : Standing life titles old [] = first_stands life titles old first in
    noted life titles old old new [] (events.Tick 0) ups stands same refl first.clock tt
    (subst (λ (n : List (Up (List ℕ))). All IsNote n) up.waited first.notes) up
    (sent_later titles old new [] (events.Tick 0 ∷ told ups) stands.sent up.grows)
