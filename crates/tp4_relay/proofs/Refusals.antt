-- Where a pump's call for the next unit was refused, what that call told stands among the events of the pump: those of each part of it stand among those of
-- the whole.
use Rattle.std.proofs.Common.{◌≡◌, inl, inr, ℕ, Bool, true, false, List, [], ◌∷◌, ◌++◌, Option, Some, None, sym, ◌∙◌, ap, subst, append_assoc}
use Rattle.std.specs.List.{slice_get}
use Rattle.std.proofs.lemmas.List.{append-nil}
use Rattle.script_journal.specs.declared.event.Event.{Event}
use Rattle.tp4_conn.specs.declared.call.ConnectRequest.{ConnectRequest}
use Rattle.tp4_conn.specs.declared.call.UserCall.{UserCall}
use Rattle.tp4_conn.specs.declared.timers.Timers.{Timers}
use Rattle.tp4_relay.specs.declared.pair.Heading.{Heading}
use Rattle.tp4_relay.specs.declared.pair.Heading.TheVariants.{On, Back}
use Rattle.tp4_relay.specs.declared.pair.Pair.{Pair}
use Rattle.tp4_relay.specs.declared.unit.MarkedUnit.{MarkedUnit}
use Rattle.tp4_relay.specs.Kept.{Kept, kept_after}
use Rattle.tp4_relay.specs.Laws.{TellsRefusals}
use Rattle.tp4_relay.specs.Leaving.{EachRefuses, IfRefuses, OpenRefuses, PairRefuses, SubmitRefuses}
use Rattle.tp4_relay.specs.Pairs.{is_open, open_places}
use Rattle.tp4_relay.specs.Pump.{ServesEach, ServesIf, ServesOpen, ServesPair, Submits, far_end, unit_call, way_of}
use Rattle.tp4_relay.specs.Refusing.{IsNextRefused}

module _ {S : Type 0} (connects : S → ℕ → ConnectRequest → Bool → List Event → S → Type 0) (calls : S → ℕ → UserCall → Bool → List Event → S → Type 0) where
  abbrev Refused : List Event → ℕ → List MarkedUnit → Type 0
  Refused made end waiting = IsNextRefused calls made end waiting

  -- ---- among more events

  between : (front made back : List Event) (end : ℕ) (waiting : List MarkedUnit) → Refused made end waiting → Refused (front ++ (made ++ back)) end waiting
  between front made back end waiting r = record {
    unit = r.unit;
    rest = r.rest;
    is = r.is;
    old = r.old;
    new = r.new;
    told = r.told;
    refused = r.refused;
    before = front ++ r.before;
    after = r.after ++ back;
    stands = ap (λ (es : List Event). front ++ (es ++ back)) r.stands
        ∙ ap (λ (es : List Event). front ++ es) (append_assoc r.before (r.told ++ r.after) back ∙ ap (λ (es : List Event). r.before ++ es) (append_assoc r.told r.after back))
        ∙ sym (append_assoc front r.before (r.told ++ (r.after ++ back)));
  }

  -- in the first part of these events
  in_first : (here rest made : List Event) (end : ℕ) (waiting : List MarkedUnit) → made ≡ here ++ rest → Refused here end waiting → Refused made end waiting
  in_first here rest made end waiting is r = subst (λ (es : List Event). Refused es end waiting) (sym is) (between [] here rest end waiting r)

  -- in the second
  in_second : (here rest made : List Event) (end : ℕ) (waiting : List MarkedUnit) → made ≡ here ++ rest → Refused rest end waiting → Refused made end waiting
  in_second here rest made end waiting is r =
      subst (λ (es : List Event). Refused es end waiting) (sym is)
      (subst (λ (es : List Event). Refused (here ++ es) end waiting) (append-nil rest) (between here rest [] end waiting r))

  -- ---- the parts of a pump

  in_submits : (units : List MarkedUnit) (old : S) (end : ℕ) (done : Bool) (made : List Event) (new : S) (left : List MarkedUnit) (s : Submits connects calls old end units done made new left) (at : ℕ) (waiting : List MarkedUnit)
      → SubmitRefuses connects calls old end units done made new left s at waiting → Refused made at waiting
  in_submits [] old end done made new left s at waiting r = absurd r
  in_submits (unit ∷ units) old end done made new left (inl s) at waiting r = record {
    unit = unit;
    rest = units;
    is = r.1;
    old = old;
    new = new;
    told = made;
    refused = subst (λ (n : ℕ). calls old n (unit_call unit) false made new) (sym r.0) s.0;
    before = [];
    after = [];
    stands = sym (append-nil made);
  }
  in_submits (unit ∷ units) old end done made new left (inr s) at waiting r = in_second s.2 s.3 made at waiting s.7 (in_submits units s.0 end s.1 s.3 new left s.5 at waiting r)

  in_open : (opens : Bool) (old : S) (rules : Timers) (heading : Heading) (pair : Pair) (done : Bool) (made : List Event) (new : S) (s : ServesOpen connects calls opens old rules heading pair done made new) (at : ℕ)
      (waiting : List MarkedUnit) → OpenRefuses connects calls opens old rules heading pair done made new s at waiting → Refused made at waiting
  in_open true old rules heading pair done made new s at waiting r =
      in_first s.here s.rest made at waiting s.made_is (in_submits (way_of heading pair).waiting old (far_end heading pair) s.one s.here s.mid s.left s.submits at waiting r)
  in_open false old rules heading pair done made new s at waiting r = absurd r

  in_found : (found : Option Pair) (old : S) (rules : Timers) (heading : Heading) (done : Bool) (made : List Event) (new : S) (s : ServesIf connects calls old rules heading found done made new) (at : ℕ) (waiting : List MarkedUnit)
      → IfRefuses connects calls found old rules heading done made new s at waiting → Refused made at waiting
  in_found None old rules heading done made new s at waiting r = absurd r
  in_found (Some pair) old rules heading done made new s at waiting r = in_open (is_open pair.phase) old rules heading pair done made new s at waiting r

  in_pair : (old : S) (kept : Kept) (place : ℕ) (done : Bool) (made : List Event) (new : S) (s : ServesPair connects calls old kept place done made new) (heading : Heading) (at : ℕ) (waiting : List MarkedUnit)
      → PairRefuses connects calls old kept place done made new s heading at waiting → Refused made at waiting
  in_pair old kept place done made new s On at waiting r =
      in_first s.here s.rest made at waiting s.made_is (in_found (slice_get kept.pairs place) old kept.rules On s.one s.here s.mid s.on at waiting r)
  in_pair old kept place done made new s Back at waiting r =
      let middle : Kept = kept_after kept s.here in
      in_second s.here s.rest made at waiting s.made_is (in_found (slice_get middle.pairs place) s.mid middle.rules Back s.other s.rest new s.back at waiting r)

  in_each : (places : List ℕ) (old : S) (kept : Kept) (done : Bool) (made : List Event) (new : S) (last : Kept) (s : ServesEach connects calls old kept places done made new last) (place : ℕ) (heading : Heading) (at : ℕ)
      (waiting : List MarkedUnit) → EachRefuses connects calls places old kept done made new last s place heading at waiting → Refused made at waiting
  in_each [] old kept done made new last s place heading at waiting r = absurd r
  in_each (first ∷ places) old kept done made new last s place heading at waiting (inl r) =
      in_first s.3 s.4 made at waiting s.8 (in_pair old kept first s.1 s.3 s.0 s.5 heading at waiting r.1)
  in_each (first ∷ places) old kept done made new last s place heading at waiting (inr r) =
      in_second s.3 s.4 made at waiting s.8 (in_each places s.0 (kept_after kept s.3) s.2 s.4 new last s.6 place heading at waiting r)

  -- ---- the whole

  pub refusals_told : TellsRefusals connects calls
  refusals_told old kept line done made new last step place heading end waiting r =
      in_second step.here step.rest made end waiting step.made_is
      (in_each (open_places (step.middle).pairs) step.mid step.middle step.other step.rest new last step.serves place heading end waiting r)
