-- Each event keeps the views in order.
use Rattle.std.proofs.Common.{◌≡◌, ℕ, ◌+◌, ◌<◌, ◌≤◌, ◌⊎◌, ◌==◌, inl, inr, nat_lt, List, [], ◌∷◌, ◌++◌, refl, sym, ap, subst, arith, Contains, if◌then◌else◌}
use Rattle.std.proofs.lemmas.Bool.{ltb-false, cases_lt}
use Rattle.std.proofs.lemmas.List.Elements.{Contains-push_cases}
use Rattle.tp4_number.specs.Number.{whole, wire, ahead}
use Rattle.tp4_number.specs.Sender.{Sender}
use Rattle.tp4_number.specs.Window.{Joined, placed}
use Rattle.tp4_number.specs.Receiver.{Inbox, Receiver, judged, in_order, arrived_as, after_dt, granted}
use Rattle.tp4_number.specs.declared.piece.Piece.{Piece}
use Rattle.tp4_number.specs.declared.got.Got.{Got}
use Rattle.tp4_number.specs.declared.got.Got.TheVariants.{Kept}
use Rattle.tp4_number.specs.Traffic.{Rules, IsFit, Answer, Traffic, Event, Tick, Open, Send, Resend, Dt_comes, Grant, Acknowledge, Ak_comes, May, after, answer_of, Leads, start}
use Rattle.tp4_number.proofs.Past.{if_kept}
use Rattle.tp4_number.proofs.Accounts.{none}
use Rattle.tp4_number.proofs.Sound.{Sound}
use Rattle.tp4_number.proofs.Steps.{all_sound, leads_more}
use Rattle.law_recovery_pair.specs.Views.{View, view_of, said, known, IsNoOlder, Further, Later, Wider, AreViews, IsFair, AreFair}
use Rattle.law_recovery_pair.proofs.Older.{same_view, older_then}
use Rattle.law_recovery_pair.proofs.Receiving.{says}
use Rattle.law_recovery_pair.proofs.Telling.{knows, IsTaken, IsLeft, tells}

-- a DT only raises what the receiver says
pub dt_rises : (block : ℕ) (r : Receiver) (d : ℕ) (piece : Piece) (g : Got) → IsNoOlder (says r) (says (after_dt (whole block) r (arrived_as g r.inbox d piece)))
dt_rises block r d piece Kept = elim (cases_lt 0 j.count) [
  | inl some ↦ Further (omega arith)
  | inr none ↦
      (let zero_is : j.count ≡ 0 = omega arith in
      subst (λ (c : ℕ). IsNoOlder (says r) (record { number = r.expected + c; credit = r.inbox.credit; subsequence = if c == 0 then r.inbox.subsequence else 0 })) (sym zero_is) (Wider (omega arith) refl (omega arith)))
]
  where
    j : Joined
    j = in_order (placed r.inbox.held d piece) d
dt_rises block r d piece other = Wider (omega arith) refl (omega arith)

-- and so does a new credit
pub record Gives (r : Receiver) (size : ℕ) (new : Inbox) : Type 0 where
  pub held : new.held ≡ r.inbox.held
  pub risen : IsNoOlder (says r) (record { number = r.expected; credit = new.credit; subsequence = new.subsequence })
  pub room : r.inbox.credit ≤ size → new.credit ≤ size

pub gives : (r : Receiver) (size credit : ℕ) → credit ≤ size → Gives r size (granted r.inbox credit)
gives r size credit fits =
    if_kept (Gives r size) (nat_lt credit r.inbox.credit) _ _
    (λ low. if_kept (Gives r size) (r.inbox.subsequence == 65535) _ _
    (λ _. record { held = refl; risen = same_view (says r); room = λ h. h })
    (λ _. record { held = refl; risen = Later refl (omega arith); room = λ h. fits }))
    (λ high. record { held = refl; risen = Wider refl refl (ltb-false _ _ high); room = λ h. fits })

module _ (rules : Rules) (fit : IsFit rules) (w : Traffic) (s : Sound rules w) (v : AreViews w) where
  -- the receiver says something no older
  rises : (new : Receiver) → IsNoOlder (says w.receiver) (says new) → AreViews (record w { receiver = new })
  rises new up = record {
    knows = older_then (known w) (says w.receiver) (says new) v.knows up;
    answered = λ a h. older_then (view_of a) (says w.receiver) (says new) (v.answered a h) up;
    rising = v.rising;
    edge = v.edge;
  }

  -- the sender knows the same
  keeps : (to : Sender) (sends : List (ℕ × ℕ)) → knows to ≡ known w → to.next ≤ w.sender.base + w.sender.credit → AreViews (record w { sender = to; sends = sends })
  keeps to sends same low = record {
    knows = subst (λ (k : View). IsNoOlder k (said w)) (sym same) v.knows;
    answered = v.answered;
    rising = v.rising;
    edge = omega (arith, low, ap (λ (k : View). k.number) same, ap (λ (k : View). k.credit) same);
  }

  ticked : AreViews (after rules w Tick)
  ticked = record { knows = v.knows; answered = v.answered; rising = v.rising; edge = v.edge }

  opened : (size credit : ℕ) → May rules w (Open credit) → IsFair rules size w (Open credit) → AreViews (after rules w (Open credit))
  opened size credit may fair = record { knows = fair; answered = v.answered; rising = v.rising; edge = omega (arith, may.0, s.order.next_to) }

  sent_new : May rules w Send → AreViews (after rules w Send)
  sent_new may = keeps (after rules w Send).sender (after rules w Send).sends refl (omega (arith, may.0))

  resent : (n : ℕ) → AreViews (after rules w (Resend n))
  resent n = keeps (after rules w (Resend n)).sender (after rules w (Resend n)).sends refl v.edge

  gave : (credit : ℕ) → AreViews (after rules w (Grant credit))
  gave credit = rises (record w.receiver { inbox = granted w.receiver.inbox credit }) (gives w.receiver credit credit (omega arith)).risen

  pub answers_rise : (a b : Answer) → Contains w.answers a ⊎ (answer_of w ≡ a) → Contains w.answers b ⊎ (answer_of w ≡ b) → a.tick < b.tick → IsNoOlder (view_of a) (view_of b)
  answers_rise a b (inl x) (inl y) l = v.rising a b x y l
  answers_rise a b (inl x) (inr y) l = subst (λ (c : Answer). IsNoOlder (view_of a) (view_of c)) y (v.answered a x)
  answers_rise a b (inr x) (inl y) l = absurd (omega (arith, ap (λ (c : Answer). c.tick) x, (s.said b y).past, l))
  answers_rise a b (inr x) (inr y) l = absurd (omega (arith, ap (λ (c : Answer). c.tick) x, ap (λ (c : Answer). c.tick) y, l))

  acknowledged : AreViews (after rules w Acknowledge)
  acknowledged = record {
    knows = v.knows;
    answered = λ a h. elim (Contains-push_cases w.answers (answer_of w) a h) [
      | inl old ↦ v.answered a old
      | inr new ↦ subst (λ (c : Answer). IsNoOlder (view_of c) (said w)) new (same_view (said w))
    ];
    rising = λ a b h k l. answers_rise a b (Contains-push_cases w.answers (answer_of w) a h) (Contains-push_cases w.answers (answer_of w) b k) l;
    edge = v.edge;
  }

  told_views : (to : Sender) (a : Answer) → Contains w.answers a → IsTaken w.sender to a ⊎ IsLeft w.sender to a → AreViews (record w { sender = to })
  told_views to a h (inl t) = record {
    knows = subst (λ (k : View). IsNoOlder k (said w)) (sym t.view) (v.answered a h);
    answered = v.answered;
    rising = v.rising;
    edge = omega (arith, t.next, ap (λ (k : View). k.number) t.view, ap (λ (k : View). k.credit) t.view);
  }
  told_views to a h (inr l) = subst (λ (x : Sender). AreViews (record w { sender = x })) (sym l.same) v

pub views_event : (rules : Rules) (fit : IsFit rules) (size : ℕ) (w : Traffic) (event : Event) → May rules w event → IsFair rules size w event → Sound rules w → AreViews w → AreViews (after rules w event)
views_event rules fit size w Tick may fair s v = ticked rules fit w s v
views_event rules fit size w (Open credit) may fair s v = opened rules fit w s v size credit may fair
views_event rules fit size w Send may fair s v = sent_new rules fit w s v may
views_event rules fit size w (Resend n) may fair s v = resent rules fit w s v n
views_event rules fit size w (Dt_comes n tick piece) may fair s v =
    let d : ℕ = ahead rules.block (wire rules.block w.receiver.expected) (wire rules.block n) in
    rises rules fit w s v _ (dt_rises rules.block w.receiver d piece (judged rules.block w.receiver.inbox d))
views_event rules fit size w (Grant credit) may fair s v = gave rules fit w s v credit
views_event rules fit size w Acknowledge may fair s v = acknowledged rules fit w s v
views_event rules fit size w (Ak_comes a) may fair s v = told_views rules fit w s v _ a may.0 (tells rules fit w s a may)

pub views_start : (tick credit size room : ℕ) → credit ≤ room → AreViews (start tick credit size room)
views_start tick credit size room low = record {
  knows = Wider refl refl low;
  answered = λ a h. absurd (none _ h);
  rising = λ a b h. absurd (none _ h);
  edge = omega arith;
}

-- a world that some events lead to from a start with fit numbers
pub record IsReached (rules : Rules) (w : Traffic) : Type 0 where
  pub tick : ℕ
  pub credit : ℕ
  pub size : ℕ
  pub room : ℕ
  pub events : List Event
  pub credit_low : credit < rules.block
  pub room_low : room < rules.block
  pub leads : Leads rules (start tick credit size room) events w

pub sound_at : (rules : Rules) (fit : IsFit rules) (w : Traffic) → IsReached rules w → Sound rules w
sound_at rules fit w r = all_sound rules r.tick r.credit r.size r.room r.events w fit r.credit_low r.room_low r.leads

pub reached_on : (rules : Rules) (w : Traffic) (event : Event) → IsReached rules w → May rules w event → IsReached rules (after rules w event)
reached_on rules w event r may = record {
  tick = r.tick;
  credit = r.credit;
  size = r.size;
  room = r.room;
  events = r.events ++ event ∷ [];
  credit_low = r.credit_low;
  room_low = r.room_low;
  leads = leads_more rules r.events (start r.tick r.credit r.size r.room) w event r.leads may;
}

views_leads : (rules : Rules) (fit : IsFit rules) (size : ℕ) (old new : Traffic) (events : List Event) → IsReached rules old → AreViews old → Leads rules old events new → AreFair rules size old events → AreViews new
views_leads rules fit size old new [] r v h f = subst AreViews (sym h) v
views_leads rules fit size old new (event ∷ events) r v h f =
    views_leads rules fit size (after rules old event) new events (reached_on rules old event r h.0) (views_event rules fit size old event h.0 f.0 (sound_at rules fit old r) v) h.1 f.1

pub all_views : (rules : Rules) (tick credit size room : ℕ) (events : List Event) (w : Traffic) → IsFit rules → room < rules.block → credit ≤ room
    → Leads rules (start tick credit size room) events w → AreFair rules size (start tick credit size room) events → AreViews w
all_views rules tick credit size room events w fit r c h f =
    views_leads rules fit size (start tick credit size room) w events
    (record { tick = tick; credit = credit; size = size; room = room; events = []; credit_low = omega (arith, c, r); room_low = r; leads = refl })
    (views_start tick credit size room c) h f
