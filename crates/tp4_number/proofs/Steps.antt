-- Each event keeps what is sound.
use Rattle.std.proofs.Common.{◌≡◌, ℕ, ◌+◌, ◌-◌, ◌<◌, ◌≤◌, ◌⊎◌, set, inl, inr, List, [], ◌∷◌, ◌++◌, ◌==◌, nat_lt, max, sym, ap, arith, subst, add-zero, Contains}
use Rattle.std.proofs.Common.{if◌then◌else◌, Some, refl}
use Rattle.std.proofs.lemmas.Bool.{ltb-false, cases_lt}
use Rattle.std.proofs.lemmas.List.Elements.{Contains-push_cases, Contains-append_left}
use Rattle.tp4_number.specs.Number.{whole, wire, ahead, near}
use Rattle.tp4_number.specs.Sender.{Sender, marked, is_newer}
use Rattle.tp4_number.specs.Window.{Held, Joined, placed, slid}
use Rattle.tp4_number.specs.Receiver.{Inbox, judged, in_order, arrived_as, after_dt}
use Rattle.tp4_number.specs.declared.piece.Piece.{Piece}
use Rattle.tp4_number.specs.declared.got.Got.{Got}
use Rattle.tp4_number.specs.declared.got.Got.TheVariants.{Kept, Old, Outside, TooLarge}
use Rattle.tp4_number.specs.Traffic.{Rules, IsFit, Answer, Traffic, Event, Tick, Open, Send, Resend, Dt_comes, Grant, Acknowledge, Ak_comes, May, after, answer_of, Leads, start}
use Rattle.tp4_number.proofs.Past.{if_kept, blank, slid_there, set_there, in_order_first, in_order_there, kept_low}
use Rattle.tp4_number.proofs.Accounts.{accounts_start, accounts_tick, accounts_send, marked_high, opens, none}
use Rattle.tp4_number.proofs.Sound.{IsSaid, Sound, reads}

sound_start : (rules : Rules) (tick credit size room : ℕ) → 0 < rules.block → credit < rules.block → room < rules.block → Sound rules (start tick credit size room)
sound_start rules tick credit size room some c r = record {
  account = accounts_start rules tick;
  order = record { next_from = omega arith; next_to = omega arith; high_low = omega arith; credit_low = c; base_low = omega arith; expected_low = omega arith; room_low = r };
  got = λ d h. absurd (cc (blank size d));
  said = λ a h. absurd (none _ h);
}

module _ (rules : Rules) (fit : IsFit rules) (w : Traffic) (s : Sound rules w) where
  ticked : Sound rules (after rules w Tick)
  ticked = record {
    account = accounts_tick rules w.clock w.sender.blocks w.sends s.account;
    order = s.order;
    got = s.got;
    said = λ a h. let p = s.said a h in record { low = p.low; past = omega (arith, p.past); credit = p.credit; passed = p.passed };
  }

  opened : (credit : ℕ) → May rules w (Open credit) → Sound rules (after rules w (Open credit))
  opened credit may = let o = s.order in record {
    account = s.account;
    got = s.got;
    said = s.said;
    order = record { next_from = o.next_from; next_to = o.next_to; high_low = o.high_low; credit_low = may.1; base_low = o.base_low; expected_low = o.expected_low; room_low = o.room_low };
  }

  -- m is sent now, and next goes on to this
  sending : (m next : ℕ) → w.sender.base ≤ m → m ≤ w.sender.blocks.high → (w.sender.blocks.first + rules.block ≤ m → (w.sender.blocks.first ≤ rules.block) ⊎ (w.sender.blocks.third + rules.limit < w.clock))
      → w.sender.base ≤ next → next ≤ max w.sender.blocks.high (m + 1) → m + 1 < w.sender.base + rules.block
      → Sound rules (record w { sender = record w.sender { next = next; blocks = marked rules.block w.sender.blocks m w.clock }; sends = w.sends ++ (m, w.clock) ∷ [] })
  sending m next low within rule from to top = let o = s.order in
      let e = marked_high rules.block w.sender.blocks m w.clock in
      record {
        account = accounts_send rules w.clock w.sender.blocks w.sends fit.some s.account m within (omega (arith, o.high_low)) rule;
        order = record { next_from = from; next_to = omega arith; high_low = omega (arith, o.high_low); credit_low = o.credit_low; base_low = o.base_low; expected_low = omega (arith, o.expected_low); room_low = o.room_low };
        got = λ d h. omega (arith, s.got d h);
        said = λ a h. let p = s.said a h in record { low = p.low; past = p.past; credit = p.credit; passed = λ old. let q = p.passed old in (q.0, Contains-append_left w.sends _ _ q.1, q.2) };
      }

  sent_new : May rules w Send → Sound rules (after rules w Send)
  sent_new may = let o = s.order in
      sending w.sender.next (w.sender.next + 1) o.next_from o.next_to (λ h. opens _ _ _ _ _ _ h may.1) (omega (arith, o.next_from)) (omega arith) (omega (arith, o.credit_low, may.0))

  resent : (n : ℕ) → May rules w (Resend n) → Sound rules (after rules w (Resend n))
  resent n may = let o = s.order in
      sending n w.sender.next may.0 (omega (arith, may.1, o.next_to)) (λ h. absurd (omega (arith, may.1, o.next_to, s.account.blocks.to))) o.next_from (omega (arith, o.next_to)) (omega (arith, may.1, o.next_to, o.high_low))

  -- a receiver that expects the same numbers and holds the same
  granting : (credit subsequence : ℕ) → credit < rules.block → Sound rules (record w { receiver = record w.receiver { inbox = record w.receiver.inbox { credit = credit; subsequence = subsequence } } })
  granting credit subsequence low = let o = s.order in record {
    account = s.account;
    got = s.got;
    said = s.said;
    order = record { next_from = o.next_from; next_to = o.next_to; high_low = o.high_low; credit_low = o.credit_low; base_low = o.base_low; expected_low = o.expected_low; room_low = low };
  }

  gave : (credit : ℕ) → credit < rules.block → Sound rules (after rules w (Grant credit))
  gave credit low =
      let P = λ (to : Inbox). Sound rules (record w { receiver = record w.receiver { inbox = to } }) in
      if_kept P (nat_lt credit w.receiver.inbox.credit) _ _
      (λ _. if_kept P (w.receiver.inbox.subsequence == 65535) _ _ (λ _. s) (λ _. granting credit _ low))
      (λ _. granting credit _ low)

  acknowledged : Sound rules (after rules w Acknowledge)
  acknowledged = record {
    account = s.account;
    order = s.order;
    got = s.got;
    said = λ a h. elim (Contains-push_cases w.answers (answer_of w) a h) [
      | inl old ↦ s.said a old
      | inr new ↦ subst (IsSaid rules w.clock w.receiver.expected w.sends) new (record { low = omega arith; past = omega arith; credit = s.order.room_low; passed = λ h. absurd (omega arith) })
    ];
  }

  -- the receiver goes on by k, by a DT that it took for the number at distance d
  receiving : (d k subsequence : ℕ) (begun : List ℕ) (piece : Piece) → w.receiver.expected + d < w.sender.blocks.high → w.receiver.expected + k ≤ w.sender.blocks.high
      → ((a : Answer) → Contains w.answers a → w.receiver.expected ≤ a.number → a.number < w.receiver.expected + k → (tick : ℕ) × Contains w.sends (a.number, tick) × (a.tick ≤ tick + rules.life))
      → Sound rules (record w { receiver = record w.receiver { expected = w.receiver.expected + k; inbox = record w.receiver.inbox { subsequence = subsequence; held = record { places = slid (set w.receiver.inbox.held.places d (Some piece)) k; begun = begun } } } })
  receiving d k subsequence begun piece within top new = let o = s.order in record {
    account = s.account;
    order = record { next_from = o.next_from; next_to = o.next_to; high_low = o.high_low; credit_low = o.credit_low; base_low = omega (arith, o.base_low); expected_low = top; room_low = o.room_low };
    got = λ j h. elim (set_there w.receiver.inbox.held.places d (k + j) piece (slid_there (set w.receiver.inbox.held.places d (Some piece)) k j h)) [ inl here ↦ omega arith | inr old ↦ omega (arith, s.got (k + j) old) ];
    said = λ a h. let p = s.said a h in record {
      low = omega (arith, p.low);
      past = p.past;
      credit = p.credit;
      passed = λ low. elim (cases_lt a.number w.receiver.expected) [ inl old ↦ p.passed old | inr here ↦ new a h here low ];
    };
  }

  -- the sender goes on to n, by an AK that it took for n
  telling : (n credit subsequence next : ℕ) → w.sender.base ≤ n → n ≤ w.receiver.expected → credit < rules.block → n ≤ next → next ≤ w.sender.blocks.high
      → Sound rules (record w { sender = record w.sender { base = n; credit = credit; subsequence = subsequence; next = next } })
  telling n credit subsequence next up low short from to = let o = s.order in record {
    account = s.account;
    got = s.got;
    said = s.said;
    order = record { next_from = from; next_to = to; high_low = omega (arith, o.high_low); credit_low = short; base_low = low; expected_low = o.expected_low; room_low = o.room_low };
  }

  ak_came : (a : Answer) → May rules w (Ak_comes a) → Sound rules (after rules w (Ak_comes a))
  ak_came a may =
      let n = near rules.block w.sender.base (wire rules.block a.number) in
      let P = λ (to : Sender). Sound rules (record w { sender = to }) in
      if_kept P (nat_lt w.sender.blocks.high n) _ _ (λ _. s)
      (λ f.
      let low = ltb-false _ _ f in
      let is : n ≡ a.number = elim (cases_lt a.number w.sender.base) [
        | inl old ↦ absurd (omega (arith, (reads rules w fit s).old_ak a may.0 may.1 old))
        | inr new ↦ (reads rules w fit s).new_ak a may.0 may.1 new
      ] in
      let p = s.said a may.0 in
      if_kept P (is_newer w.sender n a.credit a.subsequence) _ _
      (λ _. telling n a.credit a.subsequence _ (omega arith) (omega (arith, p.low)) p.credit (omega arith) (omega (arith, s.order.next_to)))
      (λ _. s))

  -- within the credit a DT afloat is read as its own number
  in_room : (n tick : ℕ) (piece : Piece) → May rules w (Dt_comes n tick piece) → near rules.block w.receiver.expected (wire rules.block n) - w.receiver.expected < w.receiver.inbox.credit
      → near rules.block w.receiver.expected (wire rules.block n) ≡ n
  in_room n tick piece may low = elim (cases_lt n w.receiver.expected) [
    | inl old ↦ absurd (omega (arith, (reads rules w fit s).old_dt n tick may.0 may.1 old, s.order.room_low))
    | inr new ↦ (reads rules w fit s).new_dt n tick may.0 may.1 new
  ]

  -- where it is kept
  dt_kept : (n tick d : ℕ) (piece : Piece) → May rules w (Dt_comes n tick piece) → w.receiver.expected + d ≡ n → d < w.receiver.inbox.credit
      → Sound rules (record w { receiver = after_dt (whole rules.block) w.receiver (arrived_as Kept w.receiver.inbox d piece) })
  dt_kept n tick d piece may is room =
      let held : Held = placed w.receiver.inbox.held d piece in
      let j : Joined = in_order held d in
      let low : w.receiver.expected + d < w.sender.blocks.high = omega (arith, is, (s.account.marks n tick may.0).below) in
      let top : w.receiver.expected + j.count ≤ w.sender.blocks.high = elim (cases_lt 0 j.count) [
        | inl some ↦
            (let e : j.count - 1 < j.count = omega arith in
            elim (set_there w.receiver.inbox.held.places d (j.count - 1) piece (in_order_there held d (j.count - 1) e)) [ inl here ↦ omega (arith, in_order_first held d some) | inr old ↦ omega (arith, s.got (j.count - 1) old) ])
        | inr none ↦ omega (arith, s.order.expected_low)
      ] in
      receiving d j.count (if j.count == 0 then w.receiver.inbox.subsequence else 0) j.begun piece low top
      (λ a h from below.
      let first : d ≡ 0 = in_order_first held d (omega (arith, from, below)) in
      let same : n ≡ a.number = omega (arith, is, first, from, (s.said a h).low) in
      (tick, subst (λ (m : ℕ). Contains w.sends (m, tick)) same may.0, omega (arith, (s.said a h).past, may.1)))

  unmoved : Sound rules (record w { receiver = record w.receiver { expected = w.receiver.expected + 0 } })
  unmoved = subst (λ (k : ℕ). Sound rules (record w { receiver = record w.receiver { expected = k } })) (sym (add-zero w.receiver.expected)) s

  dt_came : (n tick : ℕ) (piece : Piece) → May rules w (Dt_comes n tick piece) → Sound rules (after rules w (Dt_comes n tick piece))
  dt_came n tick piece may = by (judged rules.block w.receiver.inbox d) refl
    where
      d : ℕ
      d = ahead rules.block (wire rules.block w.receiver.expected) (wire rules.block n)

      by : (g : Got) → judged rules.block w.receiver.inbox d ≡ g → Sound rules (record w { receiver = after_dt (whole rules.block) w.receiver (arrived_as g w.receiver.inbox d piece) })
      by Kept e =
          let room : d < w.receiver.inbox.credit = kept_low rules.block w.receiver.inbox d e in
          dt_kept n tick d piece may (in_room n tick piece may (omega (arith, room))) room
      by Old e = unmoved
      by Outside e = unmoved
      by TooLarge e = unmoved

sound_event : (rules : Rules) (fit : IsFit rules) (w : Traffic) (event : Event) → May rules w event → Sound rules w → Sound rules (after rules w event)
sound_event rules fit w Tick may s = ticked rules fit w s
sound_event rules fit w (Open credit) may s = opened rules fit w s credit may
sound_event rules fit w Send may s = sent_new rules fit w s may
sound_event rules fit w (Resend n) may s = resent rules fit w s n may
sound_event rules fit w (Dt_comes n tick piece) may s = dt_came rules fit w s n tick piece may
sound_event rules fit w (Grant credit) may s = gave rules fit w s credit may
sound_event rules fit w Acknowledge may s = acknowledged rules fit w s
sound_event rules fit w (Ak_comes a) may s = ak_came rules fit w s a may

sound_leads : (rules : Rules) (fit : IsFit rules) (old new : Traffic) (events : List Event) → Leads rules old events new → Sound rules old → Sound rules new
sound_leads rules fit old new [] h s = subst (Sound rules) (sym h) s
sound_leads rules fit old new (event ∷ events) h s = sound_leads rules fit (after rules old event) new events h.1 (sound_event rules fit old event h.0 s)

pub all_sound : (rules : Rules) (tick credit size room : ℕ) (events : List Event) (w : Traffic) → IsFit rules → credit < rules.block → room < rules.block
    → Leads rules (start tick credit size room) events w → Sound rules w
all_sound rules tick credit size room events w fit c r h = sound_leads rules fit (start tick credit size room) w events h (sound_start rules tick credit size room fit.some c r)

pub leads_more : (rules : Rules) (events : List Event) (old w : Traffic) (event : Event) → Leads rules old events w → May rules w event → Leads rules old (events ++ event ∷ []) (after rules w event)
leads_more rules [] old w event h may = (subst (λ (x : Traffic). May rules x event) h may, ap (λ (x : Traffic). after rules x event) h)
leads_more rules (e ∷ events) old w event h may = (h.0, leads_more rules events (after rules old e) w event h.1 may)
