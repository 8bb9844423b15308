-- An ED that is outstanding waits, or its EA does (`IsAsking`), along any moves.
use Rattle.std.proofs.Common.{◌≡◌, ℕ, ◌+◌, ◌<◌, ◌≤◌, List, [], ◌∷◌, sym, subst, arith, Contains, ◌&&◌, ◌==◌, nat_lt}
use Rattle.tp4_number.specs.Number.{wire}
use Rattle.tp4_number.specs.Traffic.{Rules, IsFit}
use Rattle.tp4_number.proofs.Accounts.{marked_high}
use Rattle.tp4_number.proofs.Past.{if_kept}
use Rattle.tp4_number.specs.Expedited.{Urgent, UrgentEvent, Ticks, Sends_ed, Resends_ed, Ed_comes, Ea_comes, MayUrgent, LeadsUrgently, quiet, urgently}
use Rattle.tp4_number.proofs.Expedited.{Calm, calm_event, calm_leads, calm_quiet}
use Rattle.law_recovery_pair.specs.Urgent.{UrgentRoad, UrgentMove, Passes, Asks, Asks_again, Ed_arrives, Ea_arrives, Late_ed, Late_ea, MayGo, gone_on, GoOn, IsAsking}
use Rattle.law_recovery_pair.proofs.Asking.{asks_on, no_ed}

-- no ED was ever sent beyond the next one
high_event : (rules : Rules) (u : Urgent) (event : UrgentEvent) → MayUrgent rules u event → u.blocks.high ≤ u.next → (urgently rules u event).blocks.high ≤ (urgently rules u event).next
high_event rules u Ticks may h = h
high_event rules u Sends_ed may h = omega (arith, h, marked_high rules.block u.blocks u.next u.clock)
high_event rules u Resends_ed may h = omega (arith, h, may, marked_high rules.block u.blocks u.base u.clock)
high_event rules u (Ed_comes n t) may h =
    let P = λ (x : Urgent). x.blocks.high ≤ x.next in
    if_kept P (wire rules.block n == wire rules.block u.expected) _ _ (λ _. h)
    (λ _. if_kept P (wire rules.block (n + 1) == wire rules.block u.expected) _ _ (λ _. h) (λ _. h))
high_event rules u (Ea_comes n t) may h = if_kept (λ (x : Urgent). x.blocks.high ≤ x.next) (nat_lt u.base u.next && wire rules.block n == wire rules.block u.base) _ _ (λ _. h) (λ _. h)

high_leads : (rules : Rules) (old new : Urgent) (events : List UrgentEvent) → LeadsUrgently rules old events new → old.blocks.high ≤ old.next → new.blocks.high ≤ new.next
high_leads rules old new [] h s = subst (λ (u : Urgent). u.blocks.high ≤ u.next) (sym h) s
high_leads rules old new (event ∷ events) h s = high_leads rules (urgently rules old event) new events h.1 (high_event rules old event h.0 s)

high_on : (rules : Rules) (tick : ℕ) (r : UrgentRoad) (move : UrgentMove) → MayGo rules tick r move → r.urgent.blocks.high ≤ r.urgent.next → (gone_on rules r move).urgent.blocks.high ≤ (gone_on rules r move).urgent.next
high_on rules tick r Passes may s = s
high_on rules tick r Asks may s = high_event rules r.urgent Sends_ed may s
high_on rules tick r Asks_again may s = high_event rules r.urgent Resends_ed may s
high_on rules tick r (Ed_arrives n t rest) may s = high_event rules r.urgent (Ed_comes n t) may.1 s
high_on rules tick r (Ea_arrives n t rest) may s = high_event rules r.urgent (Ea_comes n t) may.1 s
high_on rules tick r (Late_ed n t) may s = high_event rules r.urgent (Ed_comes n t) may.1 s
high_on rules tick r (Late_ea n t) may s = high_event rules r.urgent (Ea_comes n t) may.1 s

calm_on : (rules : Rules) (fit : IsFit rules) (tick : ℕ) (r : UrgentRoad) (move : UrgentMove) → MayGo rules tick r move → Calm rules r.urgent → Calm rules (gone_on rules r move).urgent
calm_on rules fit tick r Passes may s = calm_event rules fit r.urgent Ticks tt s
calm_on rules fit tick r Asks may s = calm_event rules fit r.urgent Sends_ed may s
calm_on rules fit tick r Asks_again may s = calm_event rules fit r.urgent Resends_ed may s
calm_on rules fit tick r (Ed_arrives n t rest) may s = calm_event rules fit r.urgent (Ed_comes n t) may.1 s
calm_on rules fit tick r (Ea_arrives n t rest) may s = calm_event rules fit r.urgent (Ea_comes n t) may.1 s
calm_on rules fit tick r (Late_ed n t) may s = calm_event rules fit r.urgent (Ed_comes n t) may.1 s
calm_on rules fit tick r (Late_ea n t) may s = calm_event rules fit r.urgent (Ea_comes n t) may.1 s

go_on : (rules : Rules) (fit : IsFit rules) (tick t1 : ℕ) (old new : UrgentRoad) (moves : List UrgentMove) → Calm rules old.urgent → old.urgent.blocks.high ≤ old.urgent.next → IsAsking tick old → GoOn rules tick old moves new
    → new.eds ≡ [] → new.eas ≡ [] → (new.urgent.base < new.urgent.next → (t : ℕ) × Contains new.urgent.sends (new.urgent.base, t) × (new.urgent.clock < t + t1))
    → tick + t1 ≤ new.urgent.clock + 1 → (new.urgent.next ≡ new.urgent.base) × (new.urgent.expected ≡ new.urgent.next)
go_on rules fit tick t1 old new [] s high j h no_eds no_eas idle late =
    let c : Calm rules new.urgent = subst (λ (r : UrgentRoad). Calm rules r.urgent) (sym h) s in
    let low : new.urgent.blocks.high ≤ new.urgent.next = subst (λ (r : UrgentRoad). r.urgent.blocks.high ≤ r.urgent.next) (sym h) high in
    let done : new.urgent.next ≡ new.urgent.base = no_ed rules fit tick new c (subst (IsAsking tick) (sym h) j) t1 no_eds no_eas idle late in
    (done, omega (arith, done, low, c.base_low, c.expected_low))
go_on rules fit tick t1 old new (move ∷ moves) s high j h no_eds no_eas idle late =
    go_on rules fit tick t1 (gone_on rules old move) new moves (calm_on rules fit tick old move h.0 s) (high_on rules tick old move h.0 high) (asks_on rules fit tick old s j move h.0) h.1 no_eds no_eas idle late

pub all_urgent : (rules : Rules) (tick t1 : ℕ) (events : List UrgentEvent) (u : Urgent) (moves : List UrgentMove) (r : UrgentRoad) → IsFit rules
    → LeadsUrgently rules (quiet tick) events u
    → GoOn rules (u.clock + 1) (record { urgent = urgently rules u Ticks; eds = []; eas = [] }) moves r
    → r.eds ≡ [] → r.eas ≡ [] → (r.urgent.base < r.urgent.next → (t : ℕ) × Contains r.urgent.sends (r.urgent.base, t) × (r.urgent.clock < t + t1))
    → u.clock + t1 ≤ r.urgent.clock → (r.urgent.next ≡ r.urgent.base) × (r.urgent.expected ≡ r.urgent.next)
all_urgent rules tick t1 events u moves r fit leads going no_eds no_eas idle late =
    let s : Calm rules u = calm_leads rules fit (quiet tick) u events leads (calm_quiet rules tick) in
    go_on rules fit (u.clock + 1) t1 (record { urgent = urgently rules u Ticks; eds = []; eas = [] }) r moves (calm_event rules fit u Ticks tt s) (high_leads rules (quiet tick) u events leads (omega arith))
    (λ t c since out. absurd (omega (arith, (s.account.marks u.base t c).past, since))) going no_eds no_eas idle (omega (arith, late))
