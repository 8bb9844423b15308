-- All that expires can be given up, one after another: of some units one is the first of least deadline.
use Rattle.std.proofs.Common.{◌≡◌, ℕ, zero, suc, ◌+◌, ◌<◌, ◌≤◌, List, [], ◌∷◌, ◌++◌, length, Some, refl, sym, ◌∙◌, ap, subst, arith, inl, inr, length-append}
use Rattle.std.specs.List.{AllByRecursion}
use Rattle.std.proofs.lemmas.Bool.{cases_lt}
use Rattle.clnp_segment.specs.Store.{Expires, Holding, Partial}
use Rattle.clnp_segment.specs.declared.store.Expired.{Expired}
use Rattle.clnp_system.specs.Ticking.{ExpiresAll}
use Rattle.law_clnp_net.specs.Standing.{FitsHeld}
use Rattle.law_clnp_net.proofs.written.Fitting.{FitsExpired}
use Rattle.law_clnp_step.proofs.Lists.{all_back, all_both, all_front, all_weaker}

-- the first of least deadline
record Least (units : List Partial) : Type 0 where
  before : List Partial
  one : Partial
  rest : List Partial
  stands : units ≡ before ++ one ∷ rest
  sooner : AllByRecursion (λ other. one.deadline < other.deadline) before
  first : AllByRecursion (λ other. one.deadline ≤ other.deadline) rest

all_least : (units : List Partial) (l : Least units) → AllByRecursion (λ other. l.one.deadline ≤ other.deadline) units
all_least units l =
    subst (AllByRecursion (λ (other : Partial). l.one.deadline ≤ other.deadline)) (sym l.stands)
    (all_both (λ (other : Partial). l.one.deadline ≤ other.deadline) l.before (l.one ∷ l.rest)
    (all_weaker (λ (other : Partial). l.one.deadline < other.deadline) (λ (other : Partial). l.one.deadline ≤ other.deadline) l.before (λ other h. omega (arith, h)) l.sooner)
    (omega arith, l.first))

least : (unit : Partial) (units : List Partial) → Least (unit ∷ units)
least unit [] = record { before = []; one = unit; rest = []; stands = refl; sooner = tt; first = tt }
least unit (next ∷ units) = by (least next units)
  where
    by : Least (next ∷ units) → Least (unit ∷ next ∷ units)
    by l = elim (cases_lt l.one.deadline unit.deadline) [
      | inl later ↦ record {
        before = unit ∷ l.before;
        one = l.one;
        rest = l.rest;
        stands = ap (λ (us : List Partial). unit ∷ us) l.stands;
        sooner = (later, l.sooner);
        first = l.first;
      }
      | inr sooner ↦ record {
        before = [];
        one = unit;
        rest = next ∷ units;
        stands = refl;
        sooner = tt;
        first = all_weaker (λ (other : Partial). l.one.deadline ≤ other.deadline) (λ (other : Partial). unit.deadline ≤ other.deadline) (next ∷ units) (λ other h. omega (arith, h, sooner))
            (all_least (next ∷ units) l);
      }
    ]

pub record GivenUp (store : Holding) (now : ℕ) : Type 0 where
  pub list : List Expired
  pub after : Holding
  pub expires : ExpiresAll store now list after
  pub held : AllByRecursion FitsHeld after.held
  pub each : AllByRecursion FitsExpired list

abbrev holding : ℕ → ℕ → ℕ → List Partial → Holding
holding clock units octets held = record { clock = clock; units = units; octets = octets; held = held }

-- the least expires, where its deadline is past, and then the others
give_least : (n now clock units octets : ℕ) (unit : Partial) (held : List Partial) → length (unit ∷ held) ≤ suc n → AllByRecursion FitsHeld (unit ∷ held)
    → ((left : List Partial) → length left ≤ n → AllByRecursion FitsHeld left → GivenUp (holding now units octets left) now)
    → Least (unit ∷ held) → GivenUp (holding clock units octets (unit ∷ held)) now
give_least n now clock units octets unit held few all goes l = elim (cases_lt l.one.deadline now) [
  | inr still ↦ record {
    list = [];
    after = holding now units octets (unit ∷ held);
    expires = (
      all_weaker (λ (other : Partial). l.one.deadline ≤ other.deadline) (λ (other : Partial). now ≤ other.deadline) (unit ∷ held) (λ other h. omega (arith, h, still)) (all_least (unit ∷ held) l),
      refl,
    );
    held = all;
    each = tt;
  }
  | inl past ↦
      let parts : AllByRecursion FitsHeld (l.before ++ l.one ∷ l.rest) = subst (AllByRecursion FitsHeld) l.stands all in
      let back = all_back FitsHeld l.before (l.one ∷ l.rest) parts in
      let left : AllByRecursion FitsHeld (l.before ++ l.rest) = all_both FitsHeld l.before l.rest (all_front FitsHeld l.before (l.one ∷ l.rest) parts) back.1 in
      let whole : length (unit ∷ held) ≡ length l.before + length (l.one ∷ l.rest) = ap length l.stands ∙ length-append l.before (l.one ∷ l.rest) in
      let fewer : length (l.before ++ l.rest) ≤ n = omega (arith, whole, few, length-append l.before l.rest) in
      let mid : Holding = holding now units octets (l.before ++ l.rest) in
      let rest = goes (l.before ++ l.rest) fewer left in
      let one : Expired = record { source = l.one.source; reportable = l.one.reportable; header = l.one.first } in
      let expires : Expires (holding clock units octets (unit ∷ held)) now (Some one) mid = record {
        before = l.before;
        unit = l.one;
        rest = l.rest;
        stands = l.stands;
        past = past;
        sooner = l.sooner;
        first = l.first;
        expired_is = refl;
        after_is = refl;
      } in
      record { list = one ∷ rest.list; after = rest.after; expires = (mid, expires, rest.expires); held = rest.held; each = (record { source = back.0.source; header = back.0.first }, rest.each) }
]

-- what is held at that tick, and no more than so many units
at_most : (n now clock units octets : ℕ) (held : List Partial) → length held ≤ n → AllByRecursion FitsHeld held → GivenUp (holding clock units octets held) now
at_most n now clock units octets [] few all = record { list = []; after = holding now units octets []; expires = (tt, refl); held = tt; each = tt }
at_most zero now clock units octets (unit ∷ held) few all = absurd (omega (arith, few))
at_most (suc n) now clock units octets (unit ∷ held) few all =
    give_least n now clock units octets unit held few all (λ left less fits. at_most n now now units octets left less fits) (least unit held)

pub given_up : (store : Holding) (now : ℕ) → AllByRecursion FitsHeld store.held → GivenUp store now
given_up store now all = at_most (length store.held) now store.clock store.units store.octets store.held (omega arith) all
