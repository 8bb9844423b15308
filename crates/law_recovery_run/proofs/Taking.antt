-- A TPDU of its partner that comes to an end that is Opened or Closing is taken by it.
use Rattle.std.proofs.Common.{◌≡◌, ℕ, ◌+◌, Bool, true, false, ◌||◌, List, Some, refl, sym, ◌∙◌, ap, subst}
use Rattle.std.specs.Prelude.{◌&&◌, if◌then◌else◌}
use Rattle.std.specs.Cmp.Lexicographic.{bytes_decides}
use Rattle.std.proofs.lemmas.Option.{none-some}
use Rattle.osi_base.specs.Link.{Link}
use Rattle.script_journal.specs.Lawful.{shown}
use Rattle.script_journal.specs.declared.event.Event.{Event as JournalEvent}
use Rattle.tpdu.specs.Values.{destination_of}
use Rattle.tpdu.specs.Writing.{is_summed}
use Rattle.tpdu.specs.declared.tpdu.Tpdu.{Tpdu as WireTpdu}
use Rattle.tpdu.specs.declared.tpdu.Tpdu.TheVariants as wires
use Rattle.tp4_number.specs.Number.{whole}
use Rattle.tp4_conn.specs.End.{Moved}
use Rattle.tp4_conn.specs.Matching.{fits, is_source}
use Rattle.tp4_conn.specs.Table.{Event, Took, stepped}
use Rattle.tp4_conn.specs.declared.end_record.EndRecord.{EndRecord}
use Rattle.tp4_conn.specs.declared.states.StateData.{StateData}
use Rattle.tp4_conn.specs.declared.states.StateData.TheVariants as stages
use Rattle.tp4_conn.specs.declared.timers.Timers.{Timers}
use Rattle.tp4_entity.specs.Association.{met, met_at, met_by, unmatched}
use Rattle.tp4_entity.specs.Entity.{Entity, at, end_at, moved}
use Rattle.law_tp4_history.specs.Ends.{Birth}
use Rattle.law_tp4_history.specs.Tracks.{Whole}
use Rattle.law_tp4_history.specs.Lines.{shown_in}
use Rattle.law_tp4_history.specs.Moves.{IsSeenIn}
use Rattle.tp4_world.specs.Telling.{ends_after, events_after}
use Rattle.tp4_world.specs.World.{World, latest}
use Rattle.tp4_world.specs.declared.place.EndAt.{EndAt}
use Rattle.law_tp4_lawful.proofs.Known.{IsKnown}
use Rattle.law_tp4_lawful.proofs.Worlds.{Explains}
use Rattle.law_tp4_lawful.proofs.Acts.{stage_of}
use Rattle.law_tp4_lawful.proofs.ActsRows.{AreTold, row_of}
use Rattle.law_tp4_lawful.proofs.ActsTold.{ends_stay, own_shows}
use Rattle.law_recovery_run.specs.Rivals.{IsGoing}
use Rattle.law_recovery_run.proofs.Rivals.{far}
use Rattle.law_recovery_run.specs.Following.{HasOwn, IsFromPartner, IsLive, Speaks}
use Rattle.law_recovery_run.proofs.Speaking.{row_speaks}

-- ---- a TPDU with a destination

or_false : (b : Bool) → (b || false) ≡ b
or_false true = refl
or_false false = refl

-- it has a checksum exactly where it was sent with one
pub sum_same : (t : WireTpdu) (r : ℕ) (sum : Bool) → destination_of t ≡ Some r → is_summed sum t ≡ sum
sum_same (wires.Cr credit source width calling called size preferred extra version classes ack_time text) r sum is = absurd (none-some r is)
sum_same other r sum is = or_false sum

met_is : (now : ℕ) (e : Entity) (from : List ℕ) (t : WireTpdu) (r : ℕ) (sum : Bool) → destination_of t ≡ Some r → met whole now e from (t, sum) ≡ met_by whole now e from (t, sum) r (end_at e r)
met_is now e from (wires.Cr credit source width calling called size preferred extra version classes ack_time text) r sum is = absurd (none-some r is)
met_is now e from t r sum is = ap (met_at whole now e from (t, sum)) is

fits_live : (b : EndRecord) (stage : StateData) (t : WireTpdu) → IsLive stage → is_source b t ≡ true → fits b stage t ≡ true
fits_live b (stages.Opened o) t live by = by
fits_live b (stages.Closing c) t live by = by
fits_live b stage t live by = absurd live

own_of : (birth : Birth) (took latest : ℕ) (b : EndRecord) (stage : StateData) → IsSeenIn birth took latest b stage → HasOwn b stage
own_of birth took latest b (stages.Opened o) at = at.halves
own_of birth took latest b stage at = tt

-- ---- the rows of an end that stands

module _ {C : Type 0} (link : C → Link (List ℕ)) (titles : List (List ℕ)) (timers : Timers) (w : Whole) (journal : List JournalEvent) (last : World C) (explains : Explains link titles timers w journal last)
    (x : ℕ) (g : IsGoing last x) (event : Event) where
  abbrev now : ℕ
  now = (link last.carrier).clock

  abbrev m : Moved
  m = stepped whole now g.end event

  mine : (is : IsKnown w g.entity.own g.reference g.end) × (is.k + 1 ≡ x)
  mine = far link titles timers w journal last explains x g

  pub own_is : g.end.base.own ≡ g.reference
  own_is = sym mine.0.sees.reference ∙ mine.0.at.reference_is

  told : AreTold g.reference m.events
  told = subst (λ (n : ℕ). AreTold n m.events) own_is
      (row_of whole now g.end.base.own g.end event (refl, stage_of (w.base.end mine.0.k).birth (w.base.end mine.0.k).took (w.base.end mine.0.k).latest g.end.base g.end.stage mine.0.sees.state)).told

  -- the end has its number still
  pub row_number : latest (ends_after last.ends g.system m.events) g.system g.reference ≡ x
  row_number = ap (λ (es : List EndAt). latest es g.system g.reference) (ends_stay g.system g.entity.own last.ends g.reference m.events told) ∙ g.is_end.number

  -- and shows under it
  pub row_showed : shown x (events_after last.ends g.system g.entity.own m.events) ≡ shown_in m.events
  row_showed = own_shows g.system g.entity.own g.reference x last.ends m.events told g.is_end.number

  pub row_says : IsLive g.end.stage → IsFromPartner g.end.base event → Speaks g.end.base m
  row_says live by =
      row_speaks now g.end event live (own_of (w.base.end mine.0.k).birth (w.base.end mine.0.k).took (w.base.end mine.0.k).latest g.end.base g.end.stage mine.0.sees.state) by

-- ---- it is taken

pub met_takes : {C : Type 0} (now x : ℕ) (last : World C) (g : IsGoing last x) (from : List ℕ) (t : WireTpdu) (sum : Bool) → IsLive g.end.stage → destination_of t ≡ Some g.reference → g.end.base.to ≡ from
    → is_source g.end.base t ≡ true → met whole now (at now g.entity) from (t, sum) ≡ moved (at now g.entity) g.reference (stepped whole now g.end (Took t sum))
met_takes {C} now x last g from t sum live target to by =
    met_is now (at now g.entity) from t g.reference sum target
    ∙ ap (met_by whole now (at now g.entity) from (t, sum) g.reference) g.is_end.stands
    ∙ ap (λ (b : Bool). if b then moved (at now g.entity) g.reference (stepped whole now g.end (Took t sum)) else unmatched (at now g.entity) from t)
    (ap (λ (b : Bool). b && fits g.end.base g.end.stage t) ((bytes_decides g.end.base.to from).1 to) ∙ fits_live g.end.base g.end.stage t live by)
