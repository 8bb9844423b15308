-- Taking up what waits, one by one.
use Rattle.std.proofs.Common.{◌≡◌, List, [], ◌∷◌, ◌++◌, refl, sym, ◌∙◌, ap, subst, append_assoc, Some, None}
use Rattle.std.proofs.lemmas.List.{append-nil}
use Rattle.osi_base.specs.declared.unit.Up.{Up}
use Rattle.osi_base.specs.Link.{Link}
use Rattle.osi_base.specs.Calls.{Call, NextUp, Chain, NothingNew, TakesUp}
use Rattle.osi_base.specs.Gathering.{takings, Gathers, Stands}
use Rattle.osi_base.proofs.Standings.{stands_on, stands_next}

-- so far these were taken up, in order
pub record Gathering {C A : Type 0} (link : C → Link A) (steps : C → Call A → C → Type 0) (old : C) (ups : List (Up A)) (new : C) : Type 0 where
  pub waited : (link old).waiting ≡ ups ++ (link new).waiting
  pub stands : Stands (link old) (link new)
  pub grows : NothingNew (link old) (link new)
  pub chain : Chain steps old (takings ups) new

chain_last : {C A : Type 0} (steps : C → Call A → C → Type 0) (old : C) (ups : List (Up A)) (mid new : C) (up : Up A) → Chain steps old (takings ups) mid → steps mid (NextUp (Some up)) new → Chain steps old (takings (ups ++ up ∷ [])) new
chain_last {C} steps old [] mid new up h s = (new, subst (λ (c : C). steps c (NextUp (Some up)) new) h s, refl)
chain_last steps old (x ∷ ups) mid new up h s = (h.0, h.1, chain_last steps h.0 ups mid new up h.2 s)

chain_end : {C A : Type 0} (steps : C → Call A → C → Type 0) (old : C) (ups : List (Up A)) (mid new : C) → Chain steps old (takings ups) mid → steps mid (NextUp None) new → Chain steps old (takings ups ++ NextUp None ∷ []) new
chain_end {C} steps old [] mid new h s = (new, subst (λ (c : C). steps c (NextUp None) new) h s, refl)
chain_end steps old (x ∷ ups) mid new h s = (h.0, h.1, chain_end steps h.0 ups mid new h.2 s)

pub gathering_next : {C A : Type 0} (link : C → Link A) (steps : C → Call A → C → Type 0) (old : C) (ups : List (Up A)) (mid new : C) (up : Up A) → Gathering link steps old ups mid → steps mid (NextUp (Some up)) new → TakesUp (link mid) (Some up) (link new) → Gathering link steps old (ups ++ up ∷ []) new
gathering_next {C} {A} link steps old ups mid new up d s t = record {
  waited = d.waited ∙ (ap (λ (rest : List (Up A)). ups ++ rest) t.waiting ∙ sym (append_assoc ups (up ∷ []) (link new).waiting));
  stands = stands_on (link old) (link mid) (link new) d.stands (stands_next (link mid) (Some up) (link new) t);
  grows = λ entry h. d.grows entry (t.grows entry h);
  chain = chain_last steps old ups mid new up d.chain s;
}

pub gathered : {C A : Type 0} (link : C → Link A) (steps : C → Call A → C → Type 0) (old : C) (ups : List (Up A)) (mid new : C) → Gathering link steps old ups mid → steps mid (NextUp None) new → TakesUp (link mid) None (link new) → Gathers link steps old ups new
gathered {C} {A} link steps old ups mid new d s t = record {
  waited = d.waited ∙ (ap (λ (rest : List (Up A)). ups ++ rest) (t.none refl) ∙ append-nil ups);
  quiet = sym t.waiting ∙ t.none refl;
  stands = stands_on (link old) (link mid) (link new) d.stands (stands_next (link mid) None (link new) t);
  grows = λ entry h. d.grows entry (t.grows entry h);
  chain = chain_end steps old ups mid new d.chain s;
}
