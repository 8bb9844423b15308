-- A pump: what was done about the events of a line, and then for the open pairs.
use Rattle.std.proofs.Common.{◌≡◌, ℕ, Bool, ◌||◌, List, ◌++◌, refl, sym, ◌∙◌, ap, subst, append_assoc}
use Rattle.script_journal.specs.declared.event.Event.{Event}
use Rattle.tp4_conn.specs.declared.call.ConnectRequest.{ConnectRequest}
use Rattle.tp4_conn.specs.declared.call.UserCall.{UserCall}
use Rattle.tp4_relay.specs.Allowed.{AreAllowed}
use Rattle.tp4_relay.specs.Kept.{Kept, kept_after}
use Rattle.tp4_relay.specs.Leaving.{ServesAll}
use Rattle.tp4_relay.specs.Pairs.{open_places}
use Rattle.tp4_relay.specs.Pump.{PumpStep}
use Rattle.tp4_relay.specs.Service.{IsService, Tells}
use Rattle.tp4_relay.specs.steps.Serving.{Reacted, ServedEach}
use Rattle.tp4_relay.specs.steps.Tables.{IsTidy}
use Rattle.tp4_relay.proofs.Commuting.{allowed_more, kept_more}
use Rattle.tp4_relay.proofs.Leaving.{pump_leaves}
use Rattle.tp4_relay.proofs.Served.{told_more}

module _ {S : Type 0} (has : S → ℕ → Type 0) (ends : S → ℕ) (honest : S → Bool) (connects : S → ℕ → ConnectRequest → Bool → List Event → S → Type 0)
    (calls : S → ℕ → UserCall → Bool → List Event → S → Type 0) (law : IsService has ends honest connects calls)
    (old mid : S) (kept middle : Kept) (line seen : List Event) (one : Bool) (a : Tells line seen (λ made. Reacted connects calls old kept line one made mid middle)) where
  seen_is : (last : Kept) (made : List Event) → last ≡ kept_after middle made → last ≡ kept_after kept (line ++ (a.0 ++ made))
  seen_is last made is =
      is ∙ ap (λ (k : Kept). kept_after k made) (a.2).last_is ∙ sym (kept_more kept (line ++ a.0) made) ∙ ap (kept_after kept) (append_assoc line a.0 made)

  pub pump_broken : (later : List Event) → Tells seen later (AreAllowed middle) → AreAllowed kept later
  pump_broken later t =
      subst (AreAllowed kept) (sym (t.1 ∙ ap (λ (es : List Event). es ++ t.0) a.1))
      (allowed_more kept (line ++ a.0) t.0 (a.2).allowed (subst (λ (k : Kept). AreAllowed k t.0) (a.2).last_is t.2))

  module _ (new : S) (last : Kept) (later : List Event) (other : Bool) (b : Tells seen later (λ made. ServedEach connects calls mid middle (open_places middle.pairs) other made new last)) where
    step : PumpStep connects calls old kept line (one || other) (a.0 ++ b.0) new last
    step = record {
      mid = mid;
      middle = middle;
      one = one;
      other = other;
      here = a.0;
      rest = b.0;
      reacts = (a.2).reacts;
      serves = (b.2).serves;
      done_is = refl;
      made_is = refl;
    }

    pub pump_told : Tells line later (λ made. PumpStep connects calls old kept line (one || other) made new last)
    pump_told = (a.0 ++ b.0, told_more line seen later a.0 b.0 a.1 b.1, step)

    pub pump_stands : last ≡ kept_after kept later
    pump_stands = seen_is last b.0 (b.2).last_is ∙ ap (kept_after kept) (sym (told_more line seen later a.0 b.0 a.1 b.1))

    pub pump_allowed : AreAllowed kept later
    pump_allowed = pump_broken later (b.0, b.1, (b.2).allowed)

    pub pump_served : IsTidy middle → Tells line later (λ made. ServesAll connects calls old kept line (one || other) made new last)
    unfolding step
    pump_served tidy =
        (a.0 ++ b.0, told_more line seen later a.0 b.0 a.1 b.1, record { step = step; served = pump_leaves has ends honest connects calls law old kept line (one || other) (a.0 ++ b.0) new last step tidy })
