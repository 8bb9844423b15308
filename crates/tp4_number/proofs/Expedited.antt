-- The law of EDs and EAs. It stands on the same facts on the sender's four words on blocks.
use Rattle.std.proofs.Common.{◌⊎◌, ◌≡◌, ℕ, ◌+◌, ◌*◌, ◌<◌, ◌≤◌, inl, inr, true, List, [], ◌∷◌, ◌++◌, ◌&&◌, ◌==◌, nat_lt, sym, ◌∙◌, ap, subst, arith, Contains}
use Rattle.std.proofs.lemmas.Bool.{eqb-true, cases_lt}
use Rattle.std.proofs.lemmas.Bool.Decides.{nat_tests}
use Rattle.std.proofs.lemmas.List.Elements.{Contains-push_cases, Contains-append_left}
use Rattle.tp4_number.specs.Number.{wire, near}
use Rattle.tp4_number.specs.Sender.{marked}
use Rattle.tp4_number.specs.Traffic.{Rules, IsFit}
use Rattle.tp4_number.specs.Expedited.{Urgent, UrgentEvent, Ticks, Sends_ed, Resends_ed, Ed_comes, Ea_comes, MayUrgent, urgently, LeadsUrgently, quiet, IsAlone, ObeysRule}
use Rattle.tp4_number.proofs.Numbers.{near_is}
use Rattle.tp4_number.proofs.Past.{if_kept}
use Rattle.tp4_number.proofs.Rule.{below_end, rule}
use Rattle.tp4_number.proofs.Accounts.{Accounts, accounts_start, accounts_tick, accounts_send, marked_high, opens, none}

-- two numbers less than one turn apart that stand alike on the wire are one
same_wire : (block m n : ℕ) → 0 < block → m ≤ n → n < m + 4 * block → wire block m ≡ wire block n → m ≡ n
same_wire block m n some low high e = sym (near_is block m m some (omega arith) (omega arith)) ∙ ap (near block m) e ∙ near_is block m n some low high

both : (a b c d : ℕ) → (nat_lt a b && c == d) ≡ true → (a < b) × (c ≡ d)
both a b c d t = grind (arith, nat_tests)

pub record IsAnswer (rules : Rules) (u : Urgent) (n tick : ℕ) : Type 0 where
  pub low : n < u.expected
  pub past : tick ≤ u.clock
  pub sent : (t : ℕ) × Contains u.sends (n, t) × (tick ≤ t + rules.life)

pub record Calm (rules : Rules) (u : Urgent) : Type 0 where
  pub account : Accounts rules u.clock u.blocks u.sends
  pub base_low : u.base ≤ u.expected
  pub expected_low : u.expected ≤ u.blocks.high
  pub next_to : u.next ≤ u.blocks.high
  pub next_from : u.base ≤ u.next
  pub one : u.blocks.high ≤ u.base + 1
  pub said : (n tick : ℕ) → Contains u.answers (n, tick) → IsAnswer rules u n tick

module _ (rules : Rules) (u : Urgent) (fit : IsFit rules) (s : Calm rules u) where
  alone : IsAlone rules u
  alone = record {
    ed = λ n tick c live e.
        let k = s.account.marks n tick c in
        elim (cases_lt u.expected n) [
          | inl above ↦ absurd (omega (arith, k.below, s.one, s.base_low))
          | inr low ↦ same_wire rules.block n u.expected fit.some low (omega (arith, k.in_use, fit.long, s.account.blocks.to, s.expected_low, fit.some)) e
        ];
    before = λ n tick c live e.
        let k = s.account.marks n tick c in
        elim (cases_lt u.expected (n + 1)) [
          | inl above ↦ sym (same_wire rules.block u.expected (n + 1) fit.some (omega arith) (omega (arith, k.below, s.one, s.base_low, fit.some)) (sym e))
          | inr low ↦ same_wire rules.block (n + 1) u.expected fit.some low (omega (arith, k.in_use, fit.long, s.account.blocks.to, s.expected_low, fit.some)) e
        ];
    ea = λ n tick c live out e.
        let a = s.said n tick c in
        let k = s.account.marks n a.sent.0 a.sent.1 in
        same_wire rules.block n u.base fit.some (omega (arith, a.low, s.one, s.expected_low)) (omega (arith, k.in_use, a.sent.2, fit.long, s.account.blocks.to, s.next_to, fit.some)) e;
  }

  obeys : ObeysRule rules u
  obeys = record {
    rule = rule rules u.clock u.blocks u.sends fit s.account u.next s.next_to;
    again = λ n low. below_end rules u.clock u.blocks u.sends fit s.account n (omega (arith, s.account.blocks.to));
    sent = λ n tick c. (s.account.marks n tick c).below;
  }

  ticked : Calm rules (urgently rules u Ticks)
  ticked = record {
    account = accounts_tick rules u.clock u.blocks u.sends s.account;
    base_low = s.base_low;
    expected_low = s.expected_low;
    next_to = s.next_to;
    next_from = s.next_from;
    one = s.one;
    said = λ n tick c. let a = s.said n tick c in record { low = a.low; past = omega (arith, a.past); sent = a.sent };
  }

  -- base is sent now, for the first time or again
  sending : (next : ℕ) → u.base ≤ next → next ≤ u.base + 1 → u.base ≤ u.blocks.high → (u.blocks.first + rules.block ≤ u.base → (u.blocks.first ≤ rules.block) ⊎ (u.blocks.third + rules.limit < u.clock))
      → Calm rules (record u { next = next; blocks = marked rules.block u.blocks u.base u.clock; sends = u.sends ++ (u.base, u.clock) ∷ [] })
  sending next from to top rule =
      let e = marked_high rules.block u.blocks u.base u.clock in
      record {
        account = accounts_send rules u.clock u.blocks u.sends fit.some s.account u.base top (omega (arith, s.one, fit.some)) rule;
        base_low = s.base_low;
        expected_low = omega (arith, s.expected_low);
        next_to = omega arith;
        next_from = from;
        one = omega (arith, s.one);
        said = λ n tick c. let a = s.said n tick c in record { low = a.low; past = a.past; sent = (a.sent.0, Contains-append_left u.sends _ _ a.sent.1, a.sent.2) };
      }

  sent_new : MayUrgent rules u Sends_ed → Calm rules (urgently rules u Sends_ed)
  sent_new may = subst (λ (n : ℕ). Calm rules (record u { next = n + 1; blocks = marked rules.block u.blocks n u.clock; sends = u.sends ++ (n, u.clock) ∷ [] })) (sym may.0)
      (sending (u.base + 1) (omega arith) (omega arith) (omega (arith, s.base_low, s.expected_low)) (λ h. opens _ _ _ _ _ _ (omega (arith, may.0)) may.1))

  sent_again : MayUrgent rules u Resends_ed → Calm rules (urgently rules u Resends_ed)
  sent_again may = sending u.next s.next_from (omega (arith, s.next_to, s.one)) (omega (arith, s.base_low, s.expected_low)) (λ h. absurd (omega (arith, may, s.next_to, s.account.blocks.to)))

  answering : (n tick to : ℕ) → Contains u.sends (n, tick) → u.clock ≤ tick + rules.life → n < to → u.expected ≤ to → to ≤ u.blocks.high
      → Calm rules (record u { expected = to; answers = u.answers ++ (n, u.clock) ∷ [] })
  answering n tick to c live low up top = record {
    account = s.account;
    base_low = omega (arith, s.base_low);
    expected_low = top;
    next_to = s.next_to;
    next_from = s.next_from;
    one = s.one;
    said = λ m t d. elim (Contains-push_cases u.answers (n, u.clock) (m, t) d) [
      | inl old ↦ (let a = s.said m t old in record { low = omega (arith, a.low); past = a.past; sent = a.sent })
      | inr new ↦ subst (λ (p : ℕ × ℕ). IsAnswer rules (record u { expected = to; answers = u.answers ++ (n, u.clock) ∷ [] }) p.0 p.1) new (record { low = low; past = omega arith; sent = (tick, c, live) })
    ];
  }

  ed_came : (n tick : ℕ) → MayUrgent rules u (Ed_comes n tick) → Calm rules (urgently rules u (Ed_comes n tick))
  ed_came n tick may =
      if_kept (Calm rules) (wire rules.block n == wire rules.block u.expected) _ _
      (λ t.
      let e = alone.ed n tick may.0 may.1 (eqb-true _ _ t) in
      answering n tick (u.expected + 1) may.0 may.1 (omega arith) (omega arith) (omega (arith, (s.account.marks n tick may.0).below)))
      (λ _. if_kept (Calm rules) (wire rules.block (n + 1) == wire rules.block u.expected) _ _
      (λ t.
      let e = alone.before n tick may.0 may.1 (eqb-true _ _ t) in
      answering n tick u.expected may.0 may.1 (omega arith) (omega arith) s.expected_low)
      (λ _. s))

  ea_came : (n tick : ℕ) → MayUrgent rules u (Ea_comes n tick) → Calm rules (urgently rules u (Ea_comes n tick))
  ea_came n tick may =
      if_kept (Calm rules) (nat_lt u.base u.next && wire rules.block n == wire rules.block u.base) _ _
      (λ t.
      let b = both _ _ _ _ t in
      let e = alone.ea n tick may.0 may.1 b.0 b.1 in
      record {
        account = s.account;
        base_low = omega (arith, (s.said n tick may.0).low);
        expected_low = s.expected_low;
        next_to = s.next_to;
        next_from = omega (arith, b.0);
        one = omega (arith, s.one);
        said = λ n tick c. let a = s.said n tick c in record { low = a.low; past = a.past; sent = a.sent };
      })
      (λ _. s)

pub calm_event : (rules : Rules) (fit : IsFit rules) (u : Urgent) (event : UrgentEvent) → MayUrgent rules u event → Calm rules u → Calm rules (urgently rules u event)
calm_event rules fit u Ticks may s = ticked rules u fit s
calm_event rules fit u Sends_ed may s = sent_new rules u fit s may
calm_event rules fit u Resends_ed may s = sent_again rules u fit s may
calm_event rules fit u (Ed_comes n tick) may s = ed_came rules u fit s n tick may
calm_event rules fit u (Ea_comes n tick) may s = ea_came rules u fit s n tick may

pub calm_quiet : (rules : Rules) (tick : ℕ) → Calm rules (quiet tick)
calm_quiet rules tick = record { account = accounts_start rules tick; base_low = omega arith; expected_low = omega arith; next_to = omega arith; next_from = omega arith; one = omega arith; said = λ n tick h. absurd (none _ h) }

pub calm_leads : (rules : Rules) (fit : IsFit rules) (old new : Urgent) (events : List UrgentEvent) → LeadsUrgently rules old events new → Calm rules old → Calm rules new
calm_leads rules fit old new [] h s = subst (Calm rules) (sym h) s
calm_leads rules fit old new (event ∷ events) h s = calm_leads rules fit (urgently rules old event) new events h.1 (calm_event rules fit old event h.0 s)

pub all_alone : (rules : Rules) (tick : ℕ) (events : List UrgentEvent) (u : Urgent) → IsFit rules → LeadsUrgently rules (quiet tick) events u → IsAlone rules u
all_alone rules tick events u fit h = alone rules u fit (calm_leads rules fit (quiet tick) u events h (calm_quiet rules tick))

pub all_obey : (rules : Rules) (tick : ℕ) (events : List UrgentEvent) (u : Urgent) → IsFit rules → LeadsUrgently rules (quiet tick) events u → ObeysRule rules u
all_obey rules tick events u fit h = obeys rules u fit (calm_leads rules fit (quiet tick) u events h (calm_quiet rules tick))
