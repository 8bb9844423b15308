-- What each call keeps, a chain keeps.
use Rattle.std.proofs.Common.{◌≡◌, ℕ, ◌+◌, ◌≤◌, true, List, [], ◌∷◌, ◌++◌, inl, inr, refl, sym, ◌∙◌, ap, subst, arith}
use Rattle.std.specs.Prelude.{min, Bool, false, ◌&&◌, ◌||◌, IsTrue}
use Rattle.std.specs.List.{All}
use Rattle.std.proofs.lemmas.List.Elements.{All-head, All-tail}
use Rattle.osi_base.specs.declared.unit.Up.{Up}
use Rattle.osi_base.specs.declared.unit.Up.TheVariants.{Unit as Came, Note as Noted}
use Rattle.osi_base.specs.declared.unit.Injected.{Injected}
use Rattle.osi_base.specs.declared.unit.Injected.TheVariants.{Taken as WasInjected, NotThere}
use Rattle.osi_base.specs.Link.{Link, IsNote, IsLawful, AreStrays, IsSpent}
use Rattle.osi_base.specs.Calls.{Call, Offer, Choose, Inject, NextUp, Tick, Keeps, Chain, IsSameLink, GivesPicks, pair_of, Injects}

clock_kept : {A : Type 0} (old : Link A) (call : Call A) (new : Link A) → Keeps old call new → old.clock ≤ new.clock
clock_kept old (Offer unit wish answer) new k = omega (arith, k.clock)
clock_kept old (Choose pick system answer) new k = omega (arith, k.clock)
clock_kept old (Inject lan system octets answer) new k = omega (arith, k.clock)
clock_kept old (NextUp answer) new k = omega (arith, k.clock)
clock_kept old Tick new k = omega (arith, k.clock)

same_kept : {A : Type 0} (old : Link A) (call : Call A) (new : Link A) → Keeps old call new → IsSameLink old new
same_kept old (Offer unit wish answer) new k = k.same
same_kept old (Choose pick system answer) new k = k.same
same_kept old (Inject lan system octets answer) new k = k.same
same_kept old (NextUp answer) new k = k.same
same_kept old Tick new k = k.same

inject_honest : {A : Type 0} (old : Link A) (answer : Injected) (new : Link A) → Injects old answer new → new.honest ≡ true → old.honest ≡ true
inject_honest old WasInjected new k h = let e = k.injected refl in cc
inject_honest old NotThere new k h = sym (k.honest (λ e. cc)) ∙ h

honest_kept : {A : Type 0} (old : Link A) (call : Call A) (new : Link A) → Keeps old call new → new.honest ≡ true → old.honest ≡ true
honest_kept old (Offer unit wish answer) new k h = sym k.honest ∙ h
honest_kept old (Choose pick system answer) new k h = sym k.honest ∙ h
honest_kept old (Inject lan system octets answer) new k h = inject_honest old answer new k h
honest_kept old (NextUp answer) new k h = sym k.honest ∙ h
honest_kept old Tick new k h = sym k.honest ∙ h

-- lawful arrivals are no strays
pub no_strays : {A : Type 0} (link : Link A) (ups : List (Up A)) (count : ℕ) → All (IsLawful link) ups → AreStrays link ups count → count ≡ 0
no_strays link [] count h s = s
no_strays link (Noted note ∷ ups) count h s = no_strays link ups count (All-tail (IsLawful link) (Noted note) ups h) s
no_strays {A} link (Came arrival ∷ ups) count h s =
    elim s [
      | inl a ↦ no_strays link ups count (All-tail (IsLawful link) (Came arrival) ups h) a.1
      | inr b ↦ absurd (b.1 (All-head (IsLawful link) (Came arrival) ups h).0)
    ]

-- notes are no strays
pub notes_no_strays : {A : Type 0} (link : Link A) (ups : List (Up A)) (count : ℕ) → All IsNote ups → AreStrays link ups count → count ≡ 0
notes_no_strays link [] count h s = s
notes_no_strays link (Noted note ∷ ups) count h s = notes_no_strays link ups count (All-tail IsNote (Noted note) ups h) s
notes_no_strays link (Came arrival ∷ ups) count h s = absurd (All-head IsNote (Came arrival) ups h)

none_more : (before now more : ℕ) → now ≡ min (before + more) 4294967295 → more ≡ 0 → before ≡ 0 → now ≡ 0
none_more before now more e m z = grind arith

inject_strays : {A : Type 0} (old : Link A) (answer : Injected) (new : Link A) → Injects old answer new → new.honest ≡ true → old.strays ≡ 0 → new.strays ≡ 0
inject_strays old WasInjected new k h z = let e = k.injected refl in cc
inject_strays old NotThere new k h z =
    none_more old.strays new.strays k.adds.strays_among k.adds.strays (notes_no_strays old k.ups k.adds.strays_among (k.refused (λ e. cc)) k.adds.are_strays) z

strays_kept : {A : Type 0} (old : Link A) (call : Call A) (new : Link A) → Keeps old call new → new.honest ≡ true → old.strays ≡ 0 → new.strays ≡ 0
strays_kept old (Offer unit wish answer) new k h z = k.strays ∙ z
strays_kept old (Choose pick system answer) new k h z =
    none_more old.strays new.strays k.adds.strays_among k.adds.strays (no_strays old k.ups k.adds.strays_among (k.lawful (sym k.honest ∙ h)) k.adds.are_strays) z
strays_kept old (Inject lan system octets answer) new k h z = inject_strays old answer new k h z
strays_kept old (NextUp answer) new k h z = k.strays ∙ z
strays_kept old Tick new k h z = k.strays ∙ z

picks_kept : {A : Type 0} (old : Link A) (call : Call A) (new : Link A) → Keeps old call new → GivesPicks old new
picks_kept old (Offer unit wish answer) new k = k.picks
picks_kept old (Choose pick system answer) new k = k.picks
picks_kept old (Inject lan system octets answer) new k = k.picks
picks_kept old (NextUp answer) new k = k.picks
picks_kept old Tick new k = k.picks

also : (a b this now : Bool) → now ≡ (a && b || this) → IsTrue a → IsTrue b → IsTrue now
also true true this now e h k = e
also true false this now e h k = cc
also false b this now e h k = cc

took_kept : {A : Type 0} (old : Link A) (call : Call A) (new : Link A) → Keeps old call new → (pick system : ℕ) → IsTrue (new.takes pick system) → IsTrue (old.takes pick system) → IsTrue (old.took pick system) → IsTrue (new.took pick system)
took_kept old (Offer unit wish answer) new k p s t may was = also (old.takes p s) (old.took p s) false (new.took p s) (k.took p s t) may was
took_kept old (Choose pick system answer) new k p s t may was = also (old.takes p s) (old.took p s) (pair_of pick system answer p s) (new.took p s) (k.took p s t) may was
took_kept old (Inject lan system octets answer) new k p s t may was = also (old.takes p s) (old.took p s) false (new.took p s) (k.took p s t) may was
took_kept old (NextUp answer) new k p s t may was = also (old.takes p s) (old.took p s) false (new.took p s) (k.took p s t) may was
took_kept old Tick new k p s t may was = also (old.takes p s) (old.took p s) false (new.took p s) (k.took p s t) may was

spent_kept : {A : Type 0} (old : Link A) (call : Call A) (new : Link A) → Keeps old call new → (pick system : ℕ) → IsSpent old pick system → IsSpent new pick system
spent_kept old call new k pick system spent = (
  omega (arith, spent.0, (picks_kept old call new k).given),
  λ t. elim ((picks_kept old call new k).again pick system t) [
    | inl may ↦ took_kept old call new k pick system t may (spent.1 may)
    | inr later ↦ absurd (omega (arith, later, spent.0))
  ],
)

pub same_on : {A : Type 0} (first mid last : Link A) → IsSameLink first mid → IsSameLink mid last → IsSameLink first last
same_on first mid last h k = record {
  bound = λ to. k.bound to ∙ h.bound to;
  room = λ to. k.room to ∙ h.room to;
  belongs = λ to system. k.belongs to system ∙ h.belongs to system;
}

pub picks_on : {A : Type 0} (first mid last : Link A) → GivesPicks first mid → GivesPicks mid last → GivesPicks first last
picks_on first mid last h k = record {
  given = omega (arith, h.given, k.given);
  again = λ pick system t. elim (k.again pick system t) [ inl may ↦ h.again pick system may | inr later ↦ inr (omega (arith, later, h.given)) ];
}

-- one chain behind another
pub chain_on : {S A : Type 0} (steps : S → Call A → S → Type 0) (old : S) (before : List (Call A)) (mid : S) (after : List (Call A)) (new : S) → Chain steps old before mid → Chain steps mid after new → Chain steps old (before ++ after) new
chain_on {S} steps old [] mid after new h k = subst (λ (s : S). Chain steps s after new) h k
chain_on steps old (call ∷ before) mid after new h k = (h.0, h.1, chain_on steps h.0 before mid after new h.2 k)

module _ {S A : Type 0} (link : S → Link A) (steps : S → Call A → S → Type 0) (law : (old : S) (call : Call A) (new : S) → steps old call new → Keeps (link old) call (link new)) where
  pub clock_runs : (old new : S) (calls : List (Call A)) → Chain steps old calls new → (link old).clock ≤ (link new).clock
  clock_runs old new [] h = omega (arith, ap (λ (s : S). (link s).clock) h)
  clock_runs old new (call ∷ calls) h = omega (arith, clock_kept (link old) call (link h.0) (law old call h.0 h.1), clock_runs h.0 new calls h.2)

  pub same_runs : (old new : S) (calls : List (Call A)) → Chain steps old calls new → IsSameLink (link old) (link new)
  same_runs old new [] h = subst (λ (s : S). IsSameLink (link old) (link s)) (sym h) (record { bound = λ to. refl; room = λ to. refl; belongs = λ to system. refl })
  same_runs old new (call ∷ calls) h = same_on (link old) (link h.0) (link new) (same_kept (link old) call (link h.0) (law old call h.0 h.1)) (same_runs h.0 new calls h.2)

  pub honest_runs : (old new : S) (calls : List (Call A)) → Chain steps old calls new → (link new).honest ≡ true → (link old).honest ≡ true
  honest_runs old new [] h e = sym (ap (λ (s : S). (link s).honest) h) ∙ e
  honest_runs old new (call ∷ calls) h e = honest_kept (link old) call (link h.0) (law old call h.0 h.1) (honest_runs h.0 new calls h.2 e)

  pub strays_runs : (old new : S) (calls : List (Call A)) → Chain steps old calls new → (link new).honest ≡ true → (link old).strays ≡ 0 → (link new).strays ≡ 0
  strays_runs old new [] h e z = ap (λ (s : S). (link s).strays) h ∙ z
  strays_runs old new (call ∷ calls) h e z =
      strays_runs h.0 new calls h.2 e (strays_kept (link old) call (link h.0) (law old call h.0 h.1) (honest_runs h.0 new calls h.2 e) z)

  pub picks_runs : (old new : S) (calls : List (Call A)) → Chain steps old calls new → GivesPicks (link old) (link new)
  picks_runs old new [] h = subst (λ (s : S). GivesPicks (link old) (link s)) (sym h) (record { given = omega arith; again = λ pick system t. inl t })
  picks_runs old new (call ∷ calls) h = picks_on (link old) (link h.0) (link new) (picks_kept (link old) call (link h.0) (law old call h.0 h.1)) (picks_runs h.0 new calls h.2)

  pub spent_runs : (old new : S) (calls : List (Call A)) → Chain steps old calls new → (pick system : ℕ) → IsSpent (link old) pick system → IsSpent (link new) pick system
  spent_runs old new [] h pick system spent = subst (λ (s : S). IsSpent (link s) pick system) (sym h) spent
  spent_runs old new (call ∷ calls) h pick system spent =
      spent_runs h.0 new calls h.2 pick system (spent_kept (link old) call (link h.0) (law old call h.0 h.1) pick system spent)
