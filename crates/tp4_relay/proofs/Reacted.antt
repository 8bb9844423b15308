-- One event more of a line: what was noted of it, and what is to be done about it, as they were answered.
use Rattle.std.proofs.Common.{◌≡◌, ℕ, ◌+◌, ◌<◌, ◌≤◌, Bool, ◌||◌, List, length, get_or, sym, ap, subst, arith, length-append}
use Rattle.script_journal.specs.declared.event.Event.{Event}
use Rattle.tp4_conn.specs.declared.call.ConnectRequest.{ConnectRequest}
use Rattle.tp4_conn.specs.declared.call.UserCall.{UserCall}
use Rattle.tp4_relay.specs.declared.reaction.Reaction.{Reaction}
use Rattle.tp4_relay.specs.Allowed.{AreAllowed, AreLine}
use Rattle.tp4_relay.specs.Kept.{Kept, noted}
use Rattle.tp4_relay.specs.Reaction.{reaction}
use Rattle.tp4_relay.specs.Service.{IsService, Tells}
use Rattle.tp4_relay.specs.steps.Making.{AreMadeBy, MayDo}
use Rattle.tp4_relay.specs.steps.Serving.{Did, Reacting}
use Rattle.tp4_relay.specs.steps.Tables.{IsTidy}
use Rattle.tp4_relay.proofs.Carried.{carry_broken, now_may, now_named, reacting_more}

module _ {S : Type 0} (has : S → ℕ → Type 0) (ends : S → ℕ) (honest : S → Bool) (connects : S → ℕ → ConnectRequest → Bool → List Event → S → Type 0)
    (calls : S → ℕ → UserCall → Bool → List Event → S → Type 0) (law : IsService has ends honest connects calls)
    (first : S) (kept : Kept) (line : List Event) (tidy : IsTidy kept) (all : AreLine (ends first) kept line)
    (at : ℕ) (now : S) (current : Kept) (seen : List Event) (done : Bool) (r : Reacting connects calls has ends first kept line at now current seen done) (low : at < length line) where
  -- the event that is taken up is there
  pub event_there : at < length seen
  event_there = let e = ap (λ (es : List Event). length es) r.told in let l = length-append line r.made in omega (arith, e, l, low)

  module _ (event : Event) (event_is : event ≡ get_or seen at event) (middle : Kept) (middle_is : middle ≡ noted current event) (to_do : Reaction) (to_do_is : to_do ≡ reaction current event) where
    pub carry_may : IsTidy current → MayDo (has now) middle to_do
    carry_may current_tidy =
        subst (λ (k : Kept). MayDo (has now) k to_do) (sym middle_is)
        (subst (MayDo (has now) (noted current event)) (sym to_do_is) (now_may has ends honest connects calls law first kept line tidy all at now current seen done r low event event_is current_tidy))

    pub carry_named : middle.named ≤ ends now
    carry_named = subst (λ (k : Kept). k.named ≤ ends now) (sym middle_is) (now_named has ends honest connects calls law first kept line tidy all at now current seen done r low event event_is)

    pub carry_stops : (later : List Event) → Tells seen later (AreMadeBy (ends now) middle) → AreAllowed kept later
    carry_stops later t =
        carry_broken has ends honest connects calls law first kept line tidy all at now current seen done r low event event_is later
        (t.0, t.1, subst (λ (k : Kept). AreMadeBy (ends now) k t.0) middle_is t.2)

    pub carried_on : (new : S) (last : Kept) (later : List Event) (one next : Bool) → next ≡ (done || one) → Tells seen later (λ made. Did connects calls has ends now middle to_do one made new last)
        → Reacting connects calls has ends first kept line (at + 1) new last later next
    carried_on new last later one next next_is t =
        reacting_more has ends honest connects calls law first kept line tidy all at now current seen done r low event event_is new last later one next next_is (
          t.0,
          t.1,
          subst (λ (k : Kept). Did connects calls has ends now k (reaction current event) one t.0 new last) middle_is
              (subst (λ (d : Reaction). Did connects calls has ends now middle d one t.0 new last) to_do_is t.2),
        )
