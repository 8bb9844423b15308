-- Which pairs can be taken and were, over one call and calls after it that take no pair: so a carrier over a carrier may make
-- many calls below in one of its own.
use Rattle.std.proofs.Common.{◌≡◌, ℕ, ◌<◌, Bool, true, false, refl, ◌∙◌, inl, inr, Option}
use Rattle.std.specs.Prelude.{IsTrue, ◌&&◌, ◌||◌, ◌==◌}
use Rattle.std.proofs.lemmas.Bool.Decides.{nat_tests}
use Rattle.std.proofs.Common.{arith}
use Rattle.osi_base.specs.declared.unit.Unit.{Unit as CarriedUnit}
use Rattle.osi_base.specs.declared.unit.Up.{Up}
use Rattle.osi_base.specs.declared.unit.Offered.{Offered}
use Rattle.osi_base.specs.declared.unit.Picked.{Picked}
use Rattle.osi_base.specs.declared.unit.Picked.TheVariants.{Taken as WasPicked, NoSuch, Late, NotThere, NotOurs}
use Rattle.osi_base.specs.Link.{Link, IsGiven}
use Rattle.osi_base.specs.Calls.{StillTakes, TookAlso, no_pair, pair_of, Offers, Chooses, TakesUp, Ticks}
use Rattle.osi_base.specs.Gathering.{Stands}
use Rattle.osi_base.proofs.Chains.{same_on, picks_on}

or_false : (tb tc x : Bool) → tc ≡ (true && tb || false) → tb ≡ x → tc ≡ x
or_false true tc x e f = e ∙ f
or_false false tc x e f = e ∙ f

took_on : (a ta b tb c tc this : Bool)
    → (IsTrue a → IsTrue b) → (IsTrue this → IsTrue b)
    → (IsTrue b → tb ≡ (a && ta || this)) → (IsTrue c → tc ≡ (b && tb || false)) → IsTrue c → tc ≡ (a && ta || this)
took_on a ta true tb c tc this h t k l is =
    let e = l is in let f = k refl in or_false tb tc (a && ta || this) e f
took_on true ta false tb c tc this h t k l is = let e = h refl in cc
took_on false ta false tb c tc true h t k l is = let e = t refl in cc
took_on false ta false tb c tc false h t k l is = l is

-- what was taken first counts where no pair was taken since
pub took_after : {A : Type 0} (old mid new : Link A) (this : ℕ → ℕ → Bool) → StillTakes old mid → ((pick system : ℕ) → IsTrue (this pick system) → IsTrue (mid.takes pick system)) → TookAlso old this mid → TookAlso mid no_pair new → TookAlso old this new
took_after old mid new this h t k l pick system is =
    took_on (old.takes pick system) (old.took pick system) (mid.takes pick system) (mid.took pick system) (new.takes pick system) (new.took pick system) (this pick system)
    (h pick system) (t pick system) (k pick system) (l pick system) is

pub takes_on : {A : Type 0} (old mid new : Link A) → StillTakes old mid → StillTakes mid new → StillTakes old new
takes_on old mid new h k pick system is = k pick system (h pick system is)

pub took_same : (a ta : Bool) → IsTrue a → ta ≡ (a && ta || false)
took_same true true h = refl
took_same true false h = refl
took_same false ta h = cc

pub stands_same : {A : Type 0} (link : Link A) → Stands link link
stands_same link = record {
  same = record { bound = λ to. refl; room = λ to. refl; belongs = λ to system. refl };
  clock = refl;
  honest = refl;
  takes = λ pick system is. is;
  took = λ pick system is. took_same (link.takes pick system) (link.took pick system) is;
  picks = record { given = omega arith; again = λ pick system is. inl is };
}

pub no_takes : {A : Type 0} (mid : Link A) (pick system : ℕ) → IsTrue (no_pair pick system) → IsTrue (mid.takes pick system)
no_takes mid pick system e = cc

-- after a tick, a pair that was taken does not come again
pub tick_took : {A : Type 0} (old mid new : Link A) → IsGiven old → Ticks old mid → Stands mid new → TookAlso old no_pair new
tick_took old mid new w t k pick system is =
    by_mid (old.takes pick system) (old.took pick system) (mid.takes pick system) (mid.took pick system) (new.took pick system) refl refl
    (t.took pick system) (k.took pick system is)
  where
    gone : mid.takes pick system ≡ false → old.takes pick system ≡ false
    gone f = elim (k.picks.again pick system is) [
      | inl before ↦ cc
      | inr behind ↦ never (old.takes pick system) refl behind
    ]
      where
        never : (a : Bool) → old.takes pick system ≡ a → mid.given < pick → old.takes pick system ≡ false
        never false e b = e
        never true e b = absurd (omega (arith, w pick system e, t.picks.given, b))

    by_mid : (a ta b tb tc : Bool) → old.takes pick system ≡ a → mid.takes pick system ≡ b
        → (IsTrue b → tb ≡ (a && ta || false)) → tc ≡ (b && tb || false) → tc ≡ (a && ta || false)
    by_mid a ta true tb tc e f h l = or_false tb tc (a && ta || false) l (h refl)
    by_mid true ta false tb tc e f h l = let g = gone f in cc
    by_mid false ta false tb tc e f h l = l

pub stands_on : {A : Type 0} (first mid last : Link A) → Stands first mid → Stands mid last → Stands first last
stands_on first mid last h k = record {
  same = same_on first mid last h.same k.same;
  clock = k.clock ∙ h.clock;
  honest = k.honest ∙ h.honest;
  takes = takes_on first mid last h.takes k.takes;
  took = took_after first mid last no_pair h.takes (no_takes mid) h.took k.took;
  picks = picks_on first mid last h.picks k.picks;
}

pub stands_offer : {A : Type 0} (old : Link A) (unit : CarriedUnit A) (answer : Offered) (new : Link A) → Offers old unit answer new → Stands old new
stands_offer old unit answer new o = record { same = o.same; clock = o.clock; honest = o.honest; takes = o.takes; took = o.took; picks = o.picks }

pub stands_next : {A : Type 0} (old : Link A) (answer : Option (Up A)) (new : Link A) → TakesUp old answer new → Stands old new
stands_next old answer new t = record { same = t.same; clock = t.clock; honest = t.honest; takes = t.takes; took = t.took; picks = t.picks }

-- the pair chosen is one that can be taken
pair_taken : (at chosen : ℕ) (answer : Picked) (pick system : ℕ) → IsTrue (pair_of chosen at answer pick system) → (answer ≡ WasPicked) × (pick ≡ chosen) × (system ≡ at)
pair_taken at chosen WasPicked pick system h =
    both (pick == chosen) (system == at) refl refl h
  where
    both : (a b : Bool) → (pick == chosen) ≡ a → (system == at) ≡ b → IsTrue (a && b) → (WasPicked ≡ WasPicked) × (pick ≡ chosen) × (system ≡ at)
    both true true e f h = (refl, grind (arith, nat_tests), grind (arith, nat_tests))
    both true false e f h = cc
    both false b e f h = cc
pair_taken at chosen NoSuch pick system h = cc
pair_taken at chosen Late pick system h = cc
pair_taken at chosen NotThere pick system h = cc
pair_taken at chosen NotOurs pick system h = cc

-- after a choice, the pairs taken are those of the choice
pub choice_took : {A : Type 0} (old : Link A) (pick system : ℕ) (answer : Picked) (mid new : Link A) → Chooses old pick system answer mid → Stands mid new → TookAlso old (pair_of pick system answer) new
choice_took old pick system answer mid new o k =
    took_after old mid new (pair_of pick system answer) o.takes
    (λ p s is. let e = pair_taken system pick answer p s is in
    rw e.1 (rw e.2 (o.takes pick system (o.answers.0 e.0))))
    o.took k.took
