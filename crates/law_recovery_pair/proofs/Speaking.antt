-- What is said only rises, over any events; so a sender that knows what it began with or what an AK said knows nothing newer.
use Rattle.std.proofs.Common.{◌≡◌, ℕ, ◌+◌, ◌<◌, ◌≤◌, ◌⊎◌, inl, inr, List, [], ◌∷◌, refl, sym, ap, subst, arith, Contains}
use Rattle.std.proofs.lemmas.List.Elements.{Contains-push_cases}
use Rattle.tp4_number.specs.Number.{wire, ahead}
use Rattle.tp4_number.specs.Receiver.{Receiver, judged, granted}
use Rattle.tp4_number.specs.Traffic.{Rules, Answer, Traffic, Event, Tick, Dt_comes, Grant, Acknowledge, after, answer_of, Leads, start}
use Rattle.tp4_number.proofs.Accounts.{none}
use Rattle.law_recovery_pair.specs.Speaking.{Speaks, Knows, Began, Heard}
use Rattle.law_recovery_pair.specs.Views.{View, view_of, said, known, IsNoOlder, Wider, AreViews}
use Rattle.law_recovery_pair.proofs.Older.{same_view, older_then}
use Rattle.law_recovery_pair.proofs.Receiving.{says}
use Rattle.law_recovery_pair.proofs.Rising.{dt_rises, gives}

module _ (room : ℕ) (rules : Rules) (w : Traffic) (s : Speaks room w) where
  -- the receiver says something no older
  up_to : (new : Receiver) → IsNoOlder (says w.receiver) (says new) → Speaks room (record w { receiver = new })
  up_to new up = record {
    answered = λ a h. older_then (view_of a) (says w.receiver) (says new) (s.answered a h) up;
    rising = s.rising;
    past = s.past;
    least = older_then _ (says w.receiver) (says new) s.least up;
  }

  rise : (a b : Answer) → Contains w.answers a ⊎ (answer_of w ≡ a) → Contains w.answers b ⊎ (answer_of w ≡ b) → a.tick < b.tick → IsNoOlder (view_of a) (view_of b)
  rise a b (inl x) (inl y) l = s.rising a b x y l
  rise a b (inl x) (inr y) l = subst (λ (c : Answer). IsNoOlder (view_of a) (view_of c)) y (s.answered a x)
  rise a b (inr x) (inl y) l = absurd (omega (arith, ap (λ (c : Answer). c.tick) x, s.past b y, l))
  rise a b (inr x) (inr y) l = absurd (omega (arith, ap (λ (c : Answer). c.tick) x, ap (λ (c : Answer). c.tick) y, l))

  speaks_event : (event : Event) → Speaks room (after rules w event)
  speaks_event Tick = record { answered = s.answered; rising = s.rising; past = λ a h. omega (arith, s.past a h); least = s.least }
  speaks_event (Dt_comes n tick piece) =
      let d : ℕ = ahead rules.block (wire rules.block w.receiver.expected) (wire rules.block n) in
      up_to _ (dt_rises rules.block w.receiver d piece (judged rules.block w.receiver.inbox d))
  speaks_event (Grant credit) = up_to (record w.receiver { inbox = granted w.receiver.inbox credit }) (gives w.receiver credit credit (omega arith)).risen
  speaks_event Acknowledge = record {
    answered = λ a h. elim (Contains-push_cases w.answers (answer_of w) a h) [
      | inl old ↦ s.answered a old
      | inr new ↦ subst (λ (c : Answer). IsNoOlder (view_of c) (said w)) new (same_view (said w))
    ];
    rising = λ a b h k l. rise a b (Contains-push_cases w.answers (answer_of w) a h) (Contains-push_cases w.answers (answer_of w) b k) l;
    past = λ a h. elim (Contains-push_cases w.answers (answer_of w) a h) [
      | inl old ↦ s.past a old
      | inr new ↦ omega (arith, ap (λ (c : Answer). c.tick) new)
    ];
    least = s.least;
  }
  speaks_event other = record { answered = s.answered; rising = s.rising; past = s.past; least = s.least }

speaks_start : (tick credit places room : ℕ) → Speaks room (start tick credit places room)
speaks_start tick credit places room = record {
  answered = λ a h. absurd (none _ h);
  rising = λ a b h. absurd (none _ h);
  past = λ a h. absurd (none _ h);
  least = Wider refl refl (omega arith);
}

speaks_leads : (room : ℕ) (rules : Rules) (old new : Traffic) (events : List Event) → Speaks room old → Leads rules old events new → Speaks room new
speaks_leads room rules old new [] s h = subst (Speaks room) (sym h) s
speaks_leads room rules old new (event ∷ events) s h = speaks_leads room rules (after rules old event) new events (speaks_event room rules old s event) h.1

pub all_speak : (rules : Rules) (tick credit places room : ℕ) (events : List Event) (w : Traffic) → Leads rules (start tick credit places room) events w → Speaks room w
all_speak rules tick credit places room events w h = speaks_leads room rules (start tick credit places room) w events (speaks_start tick credit places room) h

pub views_known : (room : ℕ) (w : Traffic) → Speaks room w → Knows room w → w.sender.next ≤ w.sender.base + w.sender.credit → AreViews w
views_known room w s k edge = record { knows = by k; answered = s.answered; rising = s.rising; edge = edge }
  where
    by : Knows room w → IsNoOlder (known w) (said w)
    by (Began base subsequence low) = older_then (known w) (record { number = 0; credit = room; subsequence = 0 }) (said w) (Wider base subsequence low) s.least
    by (Heard a there is) = subst (λ (v : View). IsNoOlder v (said w)) (sym is) (s.answered a there)
