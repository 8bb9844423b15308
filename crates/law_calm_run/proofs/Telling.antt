-- What is told of a step of one end: the units that its user submitted and it showed are under its number, and no other number has any; each number that
-- is held back has its line.
use Rattle.std.proofs.Common.{◌≡◌, ◌≢◌, ℕ, false, List, [], ◌++◌, Contains, sym, ◌∙◌, ap, subst, append-nil, append_assoc}
use Rattle.std.proofs.lemmas.List.Elements.{All-append, Contains-append_left, Contains-append_right}
use Rattle.script_journal.specs.Lawful.{Marked, shown, submitted}
use Rattle.script_journal.specs.declared.event.Event.{Event as JournalEvent}
use Rattle.script_journal.specs.declared.event.Event.TheVariants as events
use Rattle.script_journal.proofs.Showing.{shown_both, submitted_both}
use Rattle.tp4_flow.specs.declared.step.EndEvent.{EndEvent}
use Rattle.tpdu.specs.declared.service.HeldKind.{HeldKind}
use Rattle.tpdu.specs.declared.service.HeldKind.TheVariants.{Dt, Ed}
use Rattle.tp4_flow.specs.declared.step.What.TheVariants as whats
use Rattle.tp4_conn.specs.Table.{Event}
use Rattle.law_tp4_history.specs.Journals.{IsAside, MakesNone, makes_end}
use Rattle.law_tp4_history.specs.Lines.{given, shown_in}
use Rattle.law_tp4_pair.specs.Pairs.{IsToldIn}
use Rattle.tp4_world.specs.Telling.{events_after}
use Rattle.tp4_world.specs.World.{latest}
use Rattle.tp4_world.specs.declared.place.EndAt.{EndAt}
use Rattle.law_tp4_lawful.proofs.Acting.{first_of}
use Rattle.law_tp4_lawful.proofs.ActsHeld.{held_in}
use Rattle.law_tp4_lawful.proofs.ActsRows.{AreTold}
use Rattle.law_tp4_lawful.proofs.ActsUnits.{given_other, given_own, made_none, shown_other, shown_own}
use Rattle.tpdu.specs.declared.service.EndTold.TheVariants as tells

-- these events tell of the end of that number: it was given these units, showed those, and told this
pub record ActsIn (n : ℕ) (lines : List JournalEvent) (gave showed : List Marked) (told : List EndEvent) : Type 0 where
  pub own_gave : submitted n lines ≡ gave
  pub own_showed : shown n lines ≡ showed
  pub other_gave : (j : ℕ) → j ≢ n → submitted j lines ≡ []
  pub other_showed : (j : ℕ) → j ≢ n → shown j lines ≡ []
  pub none : MakesNone lines
  pub told_in : IsToldIn lines n told

-- ---- a step of an end

pub acts_in : (ends : List EndAt) (system : ℕ) (address : List ℕ) (own n : ℕ) (event : Event) (told : List EndEvent) (aside lines : List JournalEvent) → AreTold own told
    → latest ends system own ≡ n → IsAside aside → lines ≡ first_of n event ++ (events_after ends system address told ++ aside) → ActsIn n lines (given event) (shown_in told) told
acts_in ends system address own n event told aside lines are at quiet is =
    subst (λ (ls : List JournalEvent). ActsIn n ls (given event) (shown_in told) told) (append_assoc (first_of n event) (events_after ends system address told) aside ∙ sym is)
    (record {
      own_gave = gave n ∙ ap (λ (us : List Marked). us ++ []) (given_own ends system address own n event told are at) ∙ append-nil (given event);
      own_showed = showed n ∙ ap (λ (us : List Marked). us ++ []) (shown_own ends system address own n event told are at) ∙ append-nil (shown_in told);
      other_gave = λ j apart. gave j ∙ ap (λ (us : List Marked). us ++ []) (given_other ends system address own n event told are at j apart);
      other_showed = λ j apart. showed j ∙ ap (λ (us : List Marked). us ++ []) (shown_other ends system address own n event told are at j apart);
      none = All-append (λ (x : JournalEvent). makes_end x ≡ false) here aside (made_none ends system address own n event told are at) quiet.ends;
      told_in = record { urgent = λ reference m there. kept reference m Ed there; normal = λ reference m there. kept reference m Dt there };
    })
  where
    here : List JournalEvent
    here = first_of n event ++ events_after ends system address told

    gave : (j : ℕ) → submitted j (here ++ aside) ≡ submitted j here ++ []
    gave j = submitted_both j here aside ∙ ap (λ (us : List Marked). submitted j here ++ us) (quiet.units j).0

    showed : (j : ℕ) → shown j (here ++ aside) ≡ shown j here ++ []
    showed j = shown_both j here aside ∙ ap (λ (us : List Marked). shown j here ++ us) (quiet.units j).1

    kept : (reference m : ℕ) (kind : HeldKind) → Contains told (record { reference = reference; what = whats.End (tells.Held kind m) }) → Contains (here ++ aside) (events.End n (tells.Held kind m))
    kept reference m kind there =
        Contains-append_left here aside (events.End n (tells.Held kind m))
        (Contains-append_right (first_of n event) (events_after ends system address told) (events.End n (tells.Held kind m)) (held_in system address own n told ends reference m kind at are there))
