-- What the entity does with what waits first for an end that stands in it: by reference for all but a CR, by calling address and reference for a CR.
use Rattle.std.proofs.Common.{◌≡◌, ℕ, zero, suc, ◌-◌, ◌<◌, Bool, true, false, not, ◌&&◌, ◌||◌, ◌==◌, nat_eq, if◌then◌else◌, List, [], ◌∷◌, ◌++◌, slice_get, Option, Some, None, refl, sym, ◌∙◌, ap, subst}
use Rattle.std.specs.List.{list_any}
use Rattle.std.specs.Cmp.Lexicographic.{pointwise}
use Rattle.std.proofs.lemmas.Bool.{eq-eqb}
use Rattle.tpdu.specs.declared.tpdu.Tpdu.{Tpdu}
use Rattle.tpdu.specs.declared.tpdu.Tpdu.TheVariants.{Cr, Cc, Dr, Dc, Dt, Ed, Ak, Ea, Er}
use Rattle.tp4_flow.specs.declared.step.Sent.{Sent}
use Rattle.tp4_number.specs.Number.{whole}
use Rattle.tp4_conn.specs.declared.states.StateData.{StateData}
use Rattle.tp4_conn.specs.declared.states.StateData.TheVariants.{UserWait, Frozen}
use Rattle.tp4_conn.specs.End.{End, end_of}
use Rattle.tp4_conn.specs.Matching.{fits, is_called_by, is_match}
use Rattle.tp4_conn.specs.Table.{Took, stepped}
use Rattle.tp4_entity.specs.Association.{answers, is_called, is_frozen, is_registered, met, met_at, met_by, new_end, refusal, requested, unmatched}
use Rattle.tp4_entity.specs.Entity.{Acted, Entity, end_at, moved, there}
use Rattle.tp4_entity.specs.References.{least_free}
use Rattle.law_tp4_associations.specs.Phase.{AreParting, IsConfirm, IsFrozen, IsReleaseOf, MayCome}
use Rattle.law_tp4_associations.proofs.Parting.{ignores_it, leaves_it, takes_it}

same_octets : (l : List ℕ) → pointwise nat_eq l l ≡ true
same_octets [] = refl
same_octets (n ∷ l) = λ i. eq-eqb n n refl i && same_octets l i

pub same_address : (l m : List ℕ) → l ≡ m → pointwise nat_eq l m ≡ true
same_address l m e = subst (λ (x : List ℕ). pointwise nat_eq l x ≡ true) e (same_octets l)

-- ---- by reference

abbrev pub IsNoRequest : Tpdu → Type 0
IsNoRequest (Cr credit source width calling called size preferred extra version classes ack_time text) = ⊥
IsNoRequest other = Unit {0}

-- it has a destination
abbrev pub IsFor : ℕ → Tpdu → Type 0
IsFor own (Cr credit source width calling called size preferred extra version classes ack_time text) = ⊥
IsFor own (Cc credit destination source width calling called size preferred extra version classes ack_time text) = destination ≡ own
IsFor own (Dr destination source reason info text) = destination ≡ own
IsFor own (Dc destination source) = destination ≡ own
IsFor own (Dt destination last number text) = destination ≡ own
IsFor own (Ed destination last number text) = destination ≡ own
IsFor own (Ak destination number credit subsequence confirmation) = destination ≡ own
IsFor own (Ea destination number) = destination ≡ own
IsFor own (Er destination cause rejected) = destination ≡ own

pub for_end : (z : End) (other : ℕ) (tpdu : Tpdu) → MayCome z other tpdu → IsNoRequest tpdu → IsFor z.base.own tpdu
for_end z other (Cr credit source width calling called size preferred extra version classes ack_time text) m never = absurd never
for_end z other (Er destination cause rejected) m never = absurd m
for_end z other another m never = m.0

module _ (now : ℕ) (e : Entity) (from : List ℕ) (sum : Bool) where
  at_reference : (tpdu : Tpdu) (n m : ℕ) → n ≡ m → met_at whole now e from (tpdu, sum) (Some n) ≡ met_at whole now e from (tpdu, sum) (Some m)
  at_reference tpdu n m is = ap (λ (x : ℕ). met_at whole now e from (tpdu, sum) (Some x)) is

  met_there : (own : ℕ) (tpdu : Tpdu) → IsFor own tpdu → met whole now e from (tpdu, sum) ≡ met_at whole now e from (tpdu, sum) (Some own)
  met_there own (Cr credit source width calling called size preferred extra version classes ack_time text) is = absurd is
  met_there own (Cc credit destination source width calling called size preferred extra version classes ack_time text) is = at_reference (Cc credit destination source width calling called size preferred extra version classes ack_time text) destination own is
  met_there own (Dr destination source reason info text) is = at_reference (Dr destination source reason info text) destination own is
  met_there own (Dc destination source) is = at_reference (Dc destination source) destination own is
  met_there own (Dt destination last number text) is = at_reference (Dt destination last number text) destination own is
  met_there own (Ed destination last number text) is = at_reference (Ed destination last number text) destination own is
  met_there own (Ak destination number credit subsequence confirmation) is = at_reference (Ak destination number credit subsequence confirmation) destination own is
  met_there own (Ea destination number) is = at_reference (Ea destination number) destination own is
  met_there own (Er destination cause rejected) is = at_reference (Er destination cause rejected) destination own is

  by_match : (z : End) (tpdu : Tpdu) (b : Bool) → end_at e z.base.own ≡ Some z → IsFor z.base.own tpdu → z.base.to ≡ from → fits z.base z.stage tpdu ≡ b
      → met whole now e from (tpdu, sum) ≡ (if b then moved e z.base.own (stepped whole now z (Took tpdu sum)) else unmatched e from tpdu)
  by_match z tpdu b stands is to fit =
      let matches : is_match z.base z.stage from tpdu ≡ b = λ i. same_address z.base.to from to i && fit i in
      met_there z.base.own tpdu is
      ∙ ap (λ (end : Option End). met_by whole now e from (tpdu, sum) z.base.own end) stands
      ∙ ap (λ (x : Bool). if x then moved e z.base.own (stepped whole now z (Took tpdu sum)) else unmatched e from tpdu) matches

  pub taken_by : (z : End) (tpdu : Tpdu) → end_at e z.base.own ≡ Some z → IsFor z.base.own tpdu → z.base.to ≡ from → fits z.base z.stage tpdu ≡ true
      → met whole now e from (tpdu, sum) ≡ moved e z.base.own (stepped whole now z (Took tpdu sum))
  taken_by z tpdu stands is to fit = by_match z tpdu true stands is to fit

  pub left_by : (z : End) (tpdu : Tpdu) → end_at e z.base.own ≡ Some z → IsFor z.base.own tpdu → z.base.to ≡ from → fits z.base z.stage tpdu ≡ false → met whole now e from (tpdu, sum) ≡ unmatched e from tpdu
  left_by z tpdu stands is to fit = by_match z tpdu false stands is to fit

-- ---- a CR

any_at : {A : Type 0} (p : A → Bool) (xs : List A) (k : ℕ) (x : A) → slice_get xs k ≡ Some x → p x ≡ true → list_any p xs ≡ true
any_at p [] k x is so = absurd (cc is)
any_at p (y ∷ xs) zero x is so = let same : y ≡ x = cc in ap (λ (b : Bool). b || list_any p xs) (ap p same ∙ so)
any_at p (y ∷ xs) (suc k) x is so = or_true (p y) (list_any p xs) (any_at p xs k x is so)
  where
    or_true : (a b : Bool) → b ≡ true → (a || b) ≡ true
    or_true true b e = refl
    or_true false b e = e

-- the end stands among the ends
pub stands_among : (e : Entity) (reference : ℕ) (z : End) → end_at e reference ≡ Some z → slice_get e.ends (reference - 1) ≡ Some (Some z)
stands_among e reference z is = by (reference == 0) is
  where
    found : (o : Option (Option End)) → there o ≡ Some z → o ≡ Some (Some z)
    found None e = absurd (cc e)
    found (Some end) e = ap Some e

    by : (b : Bool) → (if b then None else there (slice_get e.ends (reference - 1))) ≡ Some z → slice_get e.ends (reference - 1) ≡ Some (Some z)
    by true is = absurd (cc is)
    by false is = found (slice_get e.ends (reference - 1)) is

pub called_there : (e : Entity) (from : List ℕ) (source reference : ℕ) (z : End) (frozen : Bool) → end_at e reference ≡ Some z → z.base.to ≡ from → z.base.partner ≡ source → z.base.is_called ≡ true
    → is_called frozen from source (Some z) ≡ true → list_any (is_called frozen from source) e.ends ≡ true
called_there e from source reference z frozen stands to partner called is = any_at (is_called frozen from source) e.ends (reference - 1) (Some z) (stands_among e reference z stands) is

is_by : (z : End) (from : List ℕ) (source : ℕ) → z.base.to ≡ from → z.base.partner ≡ source → z.base.is_called ≡ true → is_called_by z.base from source ≡ true
is_by z from source to partner called = λ i. called i && (same_address z.base.to from to i && eq-eqb z.base.partner source partner i)

frozen_is : (stage : StateData) → IsFrozen stage → is_frozen stage ≡ true
frozen_is (Frozen when) f = refl
frozen_is other f = absurd f

module _ (now : ℕ) (e : Entity) (from : List ℕ) (source : ℕ) (called : List ℕ) (cr : Tpdu) where
  -- the called end waits for its user: nothing comes of a copy
  pub copy_ignored : (z : End) (since : ℕ) → end_at e z.base.own ≡ Some z → z.base.to ≡ from → z.base.partner ≡ source → z.base.is_called ≡ true → z.stage ≡ UserWait since → requested now e from source called cr ≡ answers e []
  copy_ignored z since stands to partner is stage =
      let waits : is_called false from source (Some z) ≡ true = λ i. is_by z from source to partner is i && not (is_frozen (stage i)) in
      ap (λ (b : Bool). if b then answers e [] else if list_any (is_called true from source) e.ends then answers e (refusal from source 131 ∷ [])
      else if not (is_registered e.selectors called) then answers e (refusal from source 3 ∷ []) else new_end now e from source cr (least_free now e))
      (called_there e from source z.base.own z false stands to partner is waits)

  -- it is frozen: DR 131, or nothing
  pub copy_refused : (z : End) → end_at e z.base.own ≡ Some z → z.base.to ≡ from → z.base.partner ≡ source → z.base.is_called ≡ true → IsFrozen z.stage
      → (answered : Bool) × (requested now e from source called cr ≡ answers e (if answered then refusal from source 131 ∷ [] else []))
  copy_refused z stands to partner is frozen =
      let waits : is_called true from source (Some z) ≡ true = λ i. is_by z from source to partner is i && frozen_is z.stage frozen i in
      by (list_any (is_called false from source) e.ends) (called_there e from source z.base.own z true stands to partner is waits)
    where
      by : (b : Bool) → list_any (is_called true from source) e.ends ≡ true
          → (answered : Bool) × ((if b then answers e [] else if list_any (is_called true from source) e.ends then answers e (refusal from source 131 ∷ [])
          else if not (is_registered e.selectors called) then answers e (refusal from source 3 ∷ []) else new_end now e from source cr (least_free now e)) ≡ answers e (if answered then refusal from source 131 ∷ [] else []))
      by true there_is = (false, refl)
      by false there_is = (
        true,
        ap (λ (x : Bool). if x then answers e (refusal from source 131 ∷ [])
            else if not (is_registered e.selectors called) then answers e (refusal from source 3 ∷ []) else new_end now e from source cr (least_free now e)) there_is,
      )

  -- no end of that caller that is not frozen is there: a new end, or a refusal
  pub data Asked (acted : Acted) : Type 0 where
    Answers : (reason : ℕ) → acted ≡ answers e (refusal from source reason ∷ []) → Asked acted
    Makes : (reference : ℕ) → least_free now e ≡ Some reference → acted ≡ new_end now e from source cr (Some reference) → Asked acted

  pub first_asked : list_any (is_called false from source) e.ends ≡ false → Asked (requested now e from source called cr)
  first_asked none =
      subst (λ (b : Bool). Asked (if b then answers e [] else if list_any (is_called true from source) e.ends then answers e (refusal from source 131 ∷ [])
      else if not (is_registered e.selectors called) then answers e (refusal from source 3 ∷ []) else new_end now e from source cr (least_free now e))) (sym none)
      (by (list_any (is_called true from source) e.ends) (not (is_registered e.selectors called)) (least_free now e) refl)
    where
      by : (b c : Bool) (free : Option ℕ) → least_free now e ≡ free
          → Asked (if b then answers e (refusal from source 131 ∷ []) else if c then answers e (refusal from source 3 ∷ []) else new_end now e from source cr free)
      by true c free is = Answers 131 refl
      by false true free is = Answers 3 refl
      by false false None is = Answers 129 refl
      by false false (Some reference) is = Makes reference is refl

-- ---- two ends of which one has left

pub data IsHeard (now : ℕ) (e : Entity) (z w : End) (here there : List ℕ) (sent : Sent) (rest out : List Sent) (acted : Acted) : Type 0 where
  -- the end takes it
  Takes_it : acted ≡ moved e z.base.own (stepped whole now z (Took sent.tpdu sent.sum)) → AreParting (end_of (stepped whole now z (Took sent.tpdu sent.sum))) w here there rest (out ++ acted.tpdus)
      → IsHeard now e z w here there sent rest out acted
  -- the entity answers, or nothing comes of it
  Unmatched : acted ≡ unmatched e there sent.tpdu → AreParting z w here there rest (out ++ acted.tpdus) → IsHeard now e z w here there sent rest out acted
  Answered_so : acted.entity ≡ e → acted.events ≡ [] → AreParting z w here there rest (out ++ acted.tpdus) → IsHeard now e z w here there sent rest out acted

module _ (now : ℕ) (e : Entity) (z w : End) (here there : List ℕ) (sent : Sent) (rest out : List Sent) (low : 0 < w.base.own) (mine : 0 < z.base.own) (stands : end_at e z.base.own ≡ Some z)
    (p : AreParting z w here there (sent ∷ rest) out) where
  by_reference : IsNoRequest sent.tpdu → IsHeard now e z w here there sent rest out (met whole now e there (sent.tpdu, sent.sum))
  by_reference never = by (fits z.base z.stage sent.tpdu) refl
    where
      is : IsFor z.base.own sent.tpdu
      is = for_end z w.base.own sent.tpdu p.one.into_are.0.kind never

      by : (b : Bool) → fits z.base z.stage sent.tpdu ≡ b → IsHeard now e z w here there sent rest out (met whole now e there (sent.tpdu, sent.sum))
      by true fit =
          let taken = taken_by now e there sent.sum z sent.tpdu stands is p.one.knows.to fit in
          Takes_it taken (subst (λ (l : List Sent). AreParting (end_of (stepped whole now z (Took sent.tpdu sent.sum))) w here there rest (out ++ l)) (sym (ap (λ (x : Acted). x.tpdus) taken))
          (takes_it z.base w here there now sent rest out low mine z.stage p fit))
      by false fit =
          let left = left_by now e there sent.sum z sent.tpdu stands is p.one.knows.to fit in
          Unmatched left (subst (λ (l : List Sent). AreParting z w here there rest (out ++ l)) (sym (ap (λ (x : Acted). x.tpdus) left)) (leaves_it z.base w here there now sent rest out low mine z.stage p fit))

  a_request : (tpdu : Tpdu) → sent.tpdu ≡ tpdu → MayCome z w.base.own tpdu → IsHeard now e z w here there sent rest out (met whole now e there (tpdu, sent.sum))
  a_request (Cr credit source width calling called size preferred extra version classes ack_time text) is m =
      let r = copy_refused now e there source called (Cr credit source width calling called size preferred extra version classes ack_time text) z stands p.one.knows.to (m.1 ∙ sym m.0) m.2 m.3 in
      subst (IsHeard now e z w here there sent rest out) (sym r.1) (Answered_so refl refl (by z.stage m.3 refl r.0))
    where
      by : (stage : StateData) → IsFrozen stage → z.stage ≡ stage → (answered : Bool) → AreParting z w here there rest (out ++ (if answered then refusal there source 131 ∷ [] else []))
      by (Frozen t) f same answered =
          subst (λ (s : StateData). AreParting (record { base = z.base; stage = s }) w here there rest (out ++ (if answered then refusal there source 131 ∷ [] else []))) (sym same)
          (ignores_it z.base w here there now sent rest out low mine t (subst (λ (s : StateData). AreParting (record { base = z.base; stage = s }) w here there (sent ∷ rest) out) same p) source m.0
          (λ r. subst (IsReleaseOf w.base.own) is r) (λ c. subst IsConfirm is c) answered)
      by other f same answered = absurd f
  a_request other is m = subst (λ (t : Tpdu). IsHeard now e z w here there sent rest out (met whole now e there (t, sent.sum))) is (by_reference (subst IsNoRequest (sym is) tt))

  pub heard : IsHeard now e z w here there sent rest out (met whole now e there (sent.tpdu, sent.sum))
  heard = a_request sent.tpdu refl p.one.into_are.0.kind
