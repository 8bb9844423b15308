-- One delivery after another, until nothing is left or there were as many as there may be.
use Rattle.std.proofs.Common.{◌≡◌, ℕ, ◌+◌, ◌<◌, List, [], ◌∷◌, ◌++◌, Some, None, refl, subst}
use Rattle.std.specs.Prelude.{◌&&◌, not, Bool, true, false, IsTrue}
use Rattle.osi_base.specs.declared.unit.Picked.{Picked}
use Rattle.osi_base.specs.declared.unit.Picked.TheVariants.{Taken as WasPicked}
use Rattle.osi_base.specs.Link.{Link, IsLeastFresh}
use Rattle.osi_base.specs.Calls.{Call}
use Rattle.script_journal.specs.declared.cause.Settled.TheVariants as answers
use Rattle.script_journal.specs.declared.event.Event.{Event}
use Rattle.script_journal.specs.declared.event.Event.TheVariants as events
use Rattle.tp4_world.proofs.Going.{Going, going_next}
use Rattle.tp4_world.specs.Run.{Delivers, NoneLeft, OneMore, Settles, TooMany}
use Rattle.tp4_world.specs.World.{World}
use Rattle.tp4_world.specs.steps.Parts.{SettlesSo, Tells}

takes_first : (takes others : Bool) → IsTrue (takes && others) → IsTrue takes
takes_first true others h = refl
takes_first false others h = h

module _ {C : Type 0} (link : C → Link (List ℕ)) (steps : C → Call (List ℕ) → C → Type 0) (wrap : ℕ → ℕ → ℕ) where
  -- the deliveries so far, and the network
  abbrev pub OfSettling : (ℕ × World C) → List ℕ → List Event → (ℕ × World C) → Type 0
  OfSettling old left made new = Settles link steps wrap old.0 old.1 made new.1

  pub settle_more : (old : World C) (before : List Event) (count : ℕ) (mid : World C) (told : List Event) (pair : ℕ × ℕ) (answer : Picked) (new : World C) (after : List Event)
      → Going OfSettling (0, old) [] before (count, mid) told [] → IsLeastFresh (link mid.carrier) (Some pair) → count < 65536 → (IsTrue ((link mid.carrier).takes pair.0 pair.1) → answer ≡ WasPicked)
      → Tells told after (λ made. Delivers link steps wrap mid pair.0 pair.1 answer made new) → Going OfSettling (0, old) [] before (count + 1, new) after []
  settle_more old before count mid told pair answer new after g fresh low taken tells =
      going_next OfSettling (0, old) [] before (count, mid) told [] (count + 1, new) after tells.made [] g tells.added
      (λ rest last h. OneMore count mid (tells.made ++ rest) last.1 pair new tells.made rest fresh low
      (subst (λ (a : Picked). Delivers link steps wrap mid pair.0 pair.1 a tells.made new) (taken (takes_first ((link mid.carrier).takes pair.0 pair.1) (not ((link mid.carrier).took pair.0 pair.1)) fresh.0)) tells.are) h refl)

  pub settle_none : (old : World C) (before : List Event) (count : ℕ) (mid : World C) (told : List Event) → Going OfSettling (0, old) [] before (count, mid) told []
      → IsLeastFresh (link mid.carrier) None → Tells before told (λ made. SettlesSo link steps wrap old made (answers.Settled count) mid)
  settle_none old before count mid told g fresh = record {
    made = g.made;
    added = g.added;
    are = g.leads (events.Settle (answers.Settled count) ∷ []) (count, mid) (NoneLeft count mid (events.Settle (answers.Settled count) ∷ []) mid fresh refl refl);
  }

  pub settle_many : (old : World C) (before : List Event) (count : ℕ) (mid : World C) (told : List Event) (pair : ℕ × ℕ) → Going OfSettling (0, old) [] before (count, mid) told []
      → IsLeastFresh (link mid.carrier) (Some pair) → count ≡ 65536 → Tells before told (λ made. SettlesSo link steps wrap old made (answers.Stopped count) mid)
  settle_many old before count mid told pair g fresh all = record {
    made = g.made;
    added = g.added;
    are = g.leads (events.Settle (answers.Stopped count) ∷ []) (count, mid) (TooMany count mid (events.Settle (answers.Stopped count) ∷ []) mid pair fresh all refl refl);
  }
