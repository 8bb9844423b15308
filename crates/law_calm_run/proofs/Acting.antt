-- A step of an end tells of that end alone, under its number, and makes no end; an event that is of no end tells no unit.
use Rattle.std.proofs.Common.{◌≡◌, ℕ, false, List, [], ◌++◌, refl, sym, ◌∙◌, ap, subst, inl, inr}
use Rattle.std.proofs.lemmas.List.Elements.{All-append, All-cons, All-nil}
use Rattle.script_journal.specs.Lawful.{Marked, shown, submitted}
use Rattle.script_journal.specs.declared.event.Event.{Event as JournalEvent}
use Rattle.script_journal.proofs.Showing.{shown_both, submitted_both}
use Rattle.tp4_number.specs.Number.{whole}
use Rattle.tp4_flow.specs.declared.step.EndEvent.{EndEvent}
use Rattle.tp4_conn.specs.End.{End, Moved}
use Rattle.tp4_conn.specs.Table.{Event, stepped}
use Rattle.law_tp4_history.specs.Journals.{IsAside, MakesNone, makes_end}
use Rattle.law_tp4_history.specs.Lines.{given, shown_in}
use Rattle.tp4_world.specs.Telling.{ends_after, events_after}
use Rattle.tp4_world.specs.World.{latest}
use Rattle.tp4_world.specs.declared.place.EndAt.{EndAt}
use Rattle.law_tp4_lawful.proofs.Acting.{first_of}
use Rattle.law_tp4_lawful.proofs.ActsRows.{AreTold}
use Rattle.law_tp4_lawful.proofs.ActsTold.{ends_stay}
use Rattle.law_tp4_associations.specs.Handing.{TellsOfNoEnd}
use Rattle.law_calm_run.proofs.Story.{AreOwn, HasNoUnits}
use Rattle.law_calm_run.proofs.Rows.{row_told}
use Rattle.law_calm_run.proofs.Telling.{ActsIn, acts_in}

module _ (now : ℕ) (end : End) (event : Event) (are : AreOwn end) (ends : List EndAt) (system : ℕ) (address : List ℕ) where
  abbrev M : Moved
  M = stepped whole now end event

  told_own : AreTold end.base.own M.events
  told_own = row_told now end event are

  pub ends_same : ends_after ends system M.events ≡ ends
  ends_same = ends_stay system address ends end.base.own M.events told_own

  pub acts_of : (n : ℕ) (aside lines : List JournalEvent) → latest ends system end.base.own ≡ n → IsAside aside → lines ≡ first_of n event ++ (events_after ends system address M.events ++ aside)
      → ActsIn n lines (given event) (shown_in M.events) M.events
  acts_of n aside lines at quiet is = acts_in ends system address end.base.own n event M.events aside lines told_own at quiet is

-- ---- what is of no end

-- no end is made, and no unit is told of any
pub record AreOfNoEnd (ends : List EndAt) (next : List EndAt) (made : List JournalEvent) : Type 0 where
  pub ends_are : next ≡ ends
  pub none : MakesNone made
  pub silent : (n : ℕ) → HasNoUnits made n

nothing_told : (ends : List EndAt) (system : ℕ) (address : List ℕ) (told : List EndEvent) → TellsOfNoEnd told → AreOfNoEnd ends (ends_after ends system told) (events_after ends system address told)
nothing_told ends system address told (inl none) =
    subst (λ (es : List EndEvent). AreOfNoEnd ends (ends_after ends system es) (events_after ends system address es)) (sym none)
    (record { ends_are = refl; none = All-nil (λ (event : JournalEvent). makes_end event ≡ false); silent = λ n. record { gave = refl; showed = refl } })
nothing_told ends system address told (inr one) =
    subst (λ (es : List EndEvent). AreOfNoEnd ends (ends_after ends system es) (events_after ends system address es)) (sym one.1)
    (record {
      ends_are = refl;
      none = All-cons (λ (event : JournalEvent). makes_end event ≡ false) _ [] refl (All-nil (λ (event : JournalEvent). makes_end event ≡ false));
      silent = λ n. record { gave = refl; showed = refl };
    })

pub aside_of_no_end : (ends : List EndAt) (system : ℕ) (address : List ℕ) (told : List EndEvent) (aside : List JournalEvent) → TellsOfNoEnd told → IsAside aside
    → AreOfNoEnd ends (ends_after ends system told) (events_after ends system address told ++ aside)
aside_of_no_end ends system address told aside of_none quiet =
    let t = nothing_told ends system address told of_none in
    let lines : List JournalEvent = events_after ends system address told in
    record {
      ends_are = t.ends_are;
      none = All-append (λ (event : JournalEvent). makes_end event ≡ false) lines aside t.none quiet.ends;
      silent = λ n. record {
        gave = submitted_both n lines aside ∙ ap (λ (us : List Marked). us ++ submitted n aside) (t.silent n).gave ∙ (quiet.units n).0;
        showed = shown_both n lines aside ∙ ap (λ (us : List Marked). us ++ shown n aside) (t.silent n).showed ∙ (quiet.units n).1;
      };
    }
