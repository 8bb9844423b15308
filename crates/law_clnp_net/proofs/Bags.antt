-- Each call of the LANs has one answer: it is a function of the state and of what is asked. So has each call of the network over them.
use Rattle.std.proofs.Common.{◌≡◌, ℕ, List, refl, sym, ◌∙◌, ap, subst}
use Rattle.nsap.specs.declared.port.Port.{Port}
use Rattle.osi_base.specs.declared.unit.Injected.{Injected}
use Rattle.osi_base.specs.declared.unit.Offered.{Offered}
use Rattle.osi_base.specs.declared.unit.Picked.{Picked}
use Rattle.osi_base.specs.declared.unit.Unit.{Unit as CarriedUnit}
use Rattle.osi_base.specs.declared.unit.Up.{Up}
use Rattle.osi_base.specs.declared.unit.Wish.{Wish}
use Rattle.osi_base.specs.Calls.{Offer, Choose, Inject, NextUp, Tick}
use Rattle.law_carrier_answers.specs.Answers.{Asked, Offering, Choosing, Injecting, OneStep}
use Rattle.lan_step.specs.Bag.{Bag, BagStep, after_choose, after_inject, after_offer, link_of}
use Rattle.clnp_system.specs.Tables.{rows_tables}
use Rattle.law_clnp_net.specs.Laws.{OneNetAnswer, OneNetBeginning}
use Rattle.law_clnp_net.proofs.Steps.{one_answer, one_beginning, one_front}

one_offer : (old : Bag) (unit : CarriedUnit Port) (wish : Wish) (answer other : Offered) (new next : Bag) → BagStep old (Offer unit wish answer) new → BagStep old (Offer unit wish other) next
    → (answer ≡ other) × (new ≡ next)
one_offer old unit wish answer other new next a b =
    let same : answer ≡ other = a.0 ∙ sym b.0 in
    (same, a.1 ∙ ap (λ (o : Offered). after_offer old unit o) same ∙ sym b.1)

one_choice : (old : Bag) (pick system : ℕ) (answer other : Picked) (new next : Bag) → BagStep old (Choose pick system answer) new → BagStep old (Choose pick system other) next
    → (answer ≡ other) × (new ≡ next)
one_choice old pick system answer other new next a b =
    let same : answer ≡ other = a.0 ∙ sym b.0 in
    (same, a.1 ∙ ap (λ (p : Picked). after_choose old pick system p) same ∙ sym b.1)

one_injection : (old : Bag) (lan system : ℕ) (octets : List ℕ) (answer other : Injected) (new next : Bag) → BagStep old (Inject lan system octets answer) new
    → BagStep old (Inject lan system octets other) next → (answer ≡ other) × (new ≡ next)
one_injection old lan system octets answer other new next a b =
    let same : answer ≡ other = a.0 ∙ sym b.0 in
    (same, a.1 ∙ ap (λ (i : Injected). after_inject old lan system octets i) same ∙ sym b.1)

same_choice : (pick system other more : ℕ) → ◌≡◌ {A = Asked Port} (Choosing pick system) (Choosing other more) → (pick ≡ other) × (system ≡ more)
same_choice pick system other more e = (cc e, cc e)

same_injection : (lan system other more : ℕ) (octets others : List ℕ) → ◌≡◌ {A = Asked Port} (Injecting lan system octets) (Injecting other more others)
    → (lan ≡ other) × (system ≡ more) × (octets ≡ others)
same_injection lan system other more octets others e = (cc e, cc e, cc e)

same_offer : (unit other : CarriedUnit Port) (wish more : Wish) → Offering unit wish ≡ Offering other more → (unit ≡ other) × (wish ≡ more)
same_offer unit other wish more e = (cc e, cc e)

pub one_bag_answer : OneStep BagStep
one_bag_answer old (Offer unit wish answer) (Offer other more offered) new next asked a b =
    let same = same_offer unit other wish more asked in
    let there : BagStep old (Offer unit wish offered) next = subst (λ (u : CarriedUnit Port). BagStep old (Offer u wish offered) next) (sym same.0) b in
    let both = one_offer old unit wish answer offered new next a there in
    (λ i. Offer (same.0 i) (same.1 i) (both.0 i), both.1)
one_bag_answer old (Choose pick system answer) (Choose other more picked) new next asked a b =
    let same = same_choice pick system other more asked in
    let there : BagStep old (Choose pick system picked) next =
    subst (λ (p : ℕ). BagStep old (Choose p system picked) next) (sym same.0) (subst (λ (s : ℕ). BagStep old (Choose other s picked) next) (sym same.1) b) in
    let both = one_choice old pick system answer picked new next a there in
    (λ i. Choose (same.0 i) (same.1 i) (both.0 i), both.1)
one_bag_answer old (Inject lan system octets answer) (Inject other more others injected) new next asked a b =
    let same = same_injection lan system other more octets others asked in
    let P : ℕ → ℕ → List ℕ → Type 0 = λ l s os. BagStep old (Inject l s os injected) next in
    let there : P lan system octets =
    subst (λ (l : ℕ). P l system octets) (sym same.0) (subst (λ (s : ℕ). P other s octets) (sym same.1) (subst (λ (os : List ℕ). P other more os) (sym same.2) b)) in
    let both = one_injection old lan system octets answer injected new next a there in
    (λ i. Inject (same.0 i) (same.1 i) (same.2 i) (both.0 i), both.1)
one_bag_answer old (NextUp answer) (NextUp other) new next asked a b =
    let both = one_front answer other old.waiting new.waiting next.waiting a.0 b.0 a.1 b.1 in
    (ap NextUp both.0, a.2 ∙ ap (λ (ups : List (Up Port)). let bag : Bag = record old { waiting = ups } in bag) both.1 ∙ sym b.2)
one_bag_answer old Tick Tick new next asked a b = (refl, a ∙ sym b)
one_bag_answer old one other new next asked a b = absurd cc

-- ---- the network

pub one_net_answer : OneNetAnswer
one_net_answer = one_answer link_of BagStep one_bag_answer rows_tables

pub one_net_beginning : OneNetBeginning
one_net_beginning = one_beginning link_of BagStep one_bag_answer rows_tables
