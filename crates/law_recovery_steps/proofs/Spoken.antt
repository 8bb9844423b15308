-- What was sent since a tick waits, or the receiver spoke since.
use Rattle.std.proofs.Common.{◌≡◌, ◌⊎◌, inl, inr, ◌<◌, ◌≤◌, ◌-◌, ℕ, ◌+◌, List, [], ◌∷◌, ◌++◌, length, refl, sym, ap, subst, arith, Contains}
use Rattle.std.proofs.lemmas.List.Elements.{Contains-append_left, Contains-push, Contains-push_cases}
use Rattle.tp4_number.specs.Traffic.{Answer, Dt_comes, Grant, Rules, Tick, Traffic, after, answer_of}
use Rattle.tp4_number.proofs.Accounts.{none}
use Rattle.tp4_number.proofs.Sound.{Sound}
use Rattle.tp4_number.proofs.Steps.{all_sound}
use Rattle.tp4_flow.specs.ReceivingHalf.{Half}
use Rattle.tp4_sending.specs.SendingHalf.{FlowSender}
use Rattle.tp4_sending.specs.declared.tries.Tries.{Tries}
use Rattle.law_recovery_pair.specs.Recovering.{Dt_arrives, Grants, IsLevel, Late_dt, Move, Moves, Repeats, Resends, Road, Sends, Ticks, moved}
use Rattle.law_recovery_pair.proofs.Chains.{views_recover}
use Rattle.law_recovery_pair.specs.Riding.{Aside, road_of, rules_by}
use Rattle.law_recovery_ends.specs.Due.{AreTried, AreYoung}
use Rattle.law_recovery_ends.specs.Resting.{IsNow, IsPast}
use Rattle.law_recovery_ends.proofs.Due.{numbers_sent}

-- what was sent since the tick u waits, or the receiver spoke since
record IsAnswered (u : ℕ) (r : Road) : Type 0 where
  from : u ≤ r.traffic.clock
  is : ((n tick : ℕ) → Contains r.traffic.sends (n, tick) → u ≤ tick → Contains r.dts (n, tick)) ⊎ ((a : Answer) × Contains r.traffic.answers a × (u ≤ a.tick))

module _ (rules : Rules) (u : ℕ) where
  -- the receiver speaks
  speaks : (w : Traffic) (dts : List (ℕ × ℕ)) (aks : List Answer) → u ≤ w.clock → IsAnswered u (record { traffic = record w { answers = w.answers ++ answer_of w ∷ [] }; dts = dts; aks = aks })
  speaks w dts aks from = record { from = from; is = inr (answer_of w, Contains-push w.answers (answer_of w), from) }

  -- a number is sent
  sends : (old : Road) (n : ℕ) → IsAnswered u old
      → ((m tick : ℕ) → Contains (old.traffic.sends ++ (n, old.traffic.clock) ∷ []) (m, tick) → u ≤ tick → Contains (old.dts ++ (n, old.traffic.clock) ∷ []) (m, tick))
      ⊎ ((a : Answer) × Contains old.traffic.answers a × (u ≤ a.tick))
  sends old n h = elim h.is [
    | inl waits ↦ inl (λ m tick c since. elim (Contains-push_cases old.traffic.sends (n, old.traffic.clock) (m, tick) c) [
      | inl before ↦ Contains-append_left old.dts _ _ (waits m tick before since)
      | inr here ↦ subst (λ (e : ℕ × ℕ). Contains (old.dts ++ (n, old.traffic.clock) ∷ []) e) here (Contains-push old.dts (n, old.traffic.clock))
    ])
    | inr said ↦ inr said
  ]

  answered_on : (old : Road) (move : Move) → IsAnswered u old → IsAnswered u (moved rules old move)
  answered_on old Ticks h = record { from = omega (arith, h.from); is = h.is }
  answered_on old Sends h = record { from = h.from; is = sends old old.traffic.sender.next h }
  answered_on old (Resends n) h = record { from = h.from; is = sends old n h }
  answered_on old (Grants credit) h = speaks (after rules old.traffic (Grant credit)) old.dts _ h.from
  answered_on old Repeats h = speaks old.traffic old.dts _ h.from
  answered_on old (Dt_arrives before n tick rest piece) h = speaks (after rules old.traffic (Dt_comes n tick piece)) (before ++ rest) _ h.from
  answered_on old (Late_dt n tick piece) h = speaks (after rules old.traffic (Dt_comes n tick piece)) old.dts _ h.from
  answered_on old other h = record { from = h.from; is = h.is }

  answered_after : (size : ℕ) (old new : Road) (moves : List Move) → IsAnswered u old → Moves rules size u old moves new → IsAnswered u new
  answered_after size old new [] h m = subst (IsAnswered u) (sym m) h
  answered_after size old new (move ∷ moves) h m = answered_after size (moved rules old move) new moves (answered_on old move h) m.1

module _ (life size t1 now : ℕ) (w : Traffic) (s : FlowSender) (h : Half) (x : Aside) (past : IsPast life size s w) (here : IsNow life size w now s h x)
    (tried : AreTried (w.clock + 1) s.numbers.base s.window x.sends) (young : AreYoung t1 now s.window) (late : w.clock + t1 ≤ now) where
  abbrev rules : Rules
  rules = rules_by life s.rules

  sound : Sound rules w
  sound = all_sound rules past.tick past.credit past.places past.room past.events w past.fit past.credit_low past.room_low past.leads

  answered : IsAnswered (w.clock + 1) (road_of now s.numbers h x)
  answered = answered_after rules (w.clock + 1) size (record { traffic = after rules w Tick; dts = []; aks = [] }) (road_of now s.numbers h x) here.goes.moves
      (record { from = omega arith; is = inl (λ n tick c since. absurd (omega (arith, (sound.account.marks n tick c).past, since))) }) here.goes.are

  young_at : (n : ℕ) → s.numbers.base ≤ n → n < s.numbers.base + length s.window → (tick : ℕ) × Contains x.sends (n, tick) × (now < tick + t1)
  young_at n low high = numbers_sent (w.clock + 1) t1 now s.numbers.base s.window x.sends tried young (omega (arith, late)) n low high

  said_since : 0 < length s.window → (a : Answer) × Contains x.answers a × (w.clock + 1 ≤ a.tick)
  said_since some =
      let first = young_at s.numbers.base (omega arith) (omega (arith, some)) in
      elim answered.is [
        | inl waits ↦ absurd (none (s.numbers.base, first.0) (subst (λ (l : List (ℕ × ℕ)). Contains l (s.numbers.base, first.0)) here.no_dts (waits s.numbers.base first.0 first.1 (omega (arith, first.2, late)))))
        | inr said ↦ said
      ]

  none_left : (window : List Tries) → s.window ≡ window → window ≡ []
  none_left [] e = refl
  none_left (tries ∷ more) e =
      let some : 0 < length s.window = omega (arith, ap length e) in
      let a = said_since some in
      let level : IsLevel (road_of now s.numbers h x).traffic =
      views_recover rules past.tick past.credit past.places past.room size t1 (now - w.clock) past.events w here.goes.moves (road_of now s.numbers h x) past.fit past.credit_low past.room_low past.leads past.views past.fits
      here.goes.are here.no_dts here.no_aks (record {
        number = λ n low high. young_at n low (omega (arith, high, here.window));
        spoke = (a.0, a.1, omega (arith, a.2, late));
      }) (omega (arith, late)) in
      absurd (omega (arith, level.next, here.window, some))

pub numbers_end : (life size t1 now : ℕ) (w : Traffic) (s : FlowSender) (h : Half) (x : Aside) → IsPast life size s w → IsNow life size w now s h x
    → AreTried (w.clock + 1) s.numbers.base s.window x.sends → AreYoung t1 now s.window → w.clock + t1 ≤ now → s.window ≡ []
numbers_end life size t1 now w s h x past here tried young late = none_left life size t1 now w s h x past here tried young late s.window refl
