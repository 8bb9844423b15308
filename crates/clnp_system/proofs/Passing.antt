-- What is done to the options of a PDU that goes onward.
use Rattle.std.proofs.Common.{◌≡◌, ◌⊎◌, ℕ, zero, suc, ◌+◌, ◌<◌, ◌≤◌, List, [], ◌∷◌, ◌++◌, length, map, take, drop, Some, slice_get, slice_set, refl, sym, ◌∙◌, ap, subst, inl, inr, arith, add-one}
use Rattle.std.proofs.lemmas.Grind.{common_steps}
use Rattle.std.proofs.lemmas.List.{append-nil, drop_all, take_all}
use Rattle.clnp_options.specs.Recording.{Recording, IsOpen, IsEnded, IsRecording, recording_octets, with_title}
use Rattle.pdu_parts.specs.Parameter.{Parameter}
use Rattle.clnp_header.specs.declared.pdu.OwnOpt.{OwnOpt}
use Rattle.clnp_header.specs.Values.{own}
use Rattle.clnp_system.specs.Setting.{Setting}
use Rattle.clnp_system.specs.Forwarding.{AreOptionsOnward, IsOptionOnward, Records, Written, Full, Ended}

fits_or_not : (m n : ℕ) → (m ≤ n) ⊎ (n < m)
fits_or_not m n = grind arith

-- what recording here does, by its three cases
pub records_from : (title old new : List ℕ) → IsRecording old
    → ((recording : Recording) → IsOpen old recording → 1 + length title ≤ length recording.space → new ≡ recording_octets (with_title recording title))
    → ((recording : Recording) → IsOpen old recording → length recording.space < 1 + length title → new ≡ slice_set old 1 255)
    → ((kind : ℕ) (rest : List ℕ) → IsEnded old kind rest → new ≡ old) → Records title old new
records_from title old new (inl h) written full ended = elim (fits_or_not (1 + length title) (length h.0.space)) [
  | inl room ↦ Written h.0 h.1 room (written h.0 h.1 room)
  | inr room ↦ Full h.0 h.1 room (full h.0 h.1 room)
]
records_from title old new (inr h) written full ended = Ended h.0 h.1 h.2 (ended h.0 h.1 h.2)

-- one option more
pub onward_snoc : (setting : Setting) (old new : List OwnOpt) (x y : OwnOpt) → AreOptionsOnward setting old new → IsOptionOnward setting x y
    → AreOptionsOnward setting (old ++ x ∷ []) (new ++ y ∷ [])
onward_snoc setting [] new x y h k = (y, [], k, refl, ap (λ (os : List OwnOpt). os ++ y ∷ []) h)
onward_snoc setting (o ∷ os) new x y h k =
    (h.0, h.1 ++ y ∷ [], h.2, onward_snoc setting os h.1 x y h.3 k, ap (λ (xs : List OwnOpt). xs ++ y ∷ []) h.4)

no_element : {X : Type 0} (i : ℕ) (x : X) → slice_get [] i ≡ Some x → ⊥
no_element i x e = cc e

pub take_snoc : {X : Type 0} (xs : List X) (i : ℕ) (x : X) → slice_get xs i ≡ Some x → take (i + 1) xs ≡ take i xs ++ x ∷ []
take_snoc [] i x e = absurd (no_element i x e)
take_snoc (y ∷ ys) zero x e = grind (arith, common_steps, e)
take_snoc (y ∷ ys) (suc i) x e =
    let h : take (suc i) ys ≡ take i ys ++ x ∷ [] = subst (λ (n : ℕ). take n ys ≡ take i ys ++ x ∷ []) (add-one i) (take_snoc ys i x e) in
    subst (λ (n : ℕ). take n (y ∷ ys) ≡ y ∷ (take i ys ++ x ∷ [])) (sym (add-one (suc i))) (ap (λ (zs : List _). y ∷ zs) h)

-- a list that was written over from the front, as long as it was
pub written_over : (count : ℕ) (new old : List ℕ) → length new ≡ length old → count ≡ length old → take count (new ++ drop (length new) old) ≡ new
written_over count new old same all =
    let nothing : drop (length new) old ≡ [] = drop_all (length new) old (omega (arith, same)) in
    ap (λ (xs : List ℕ). take count (new ++ xs)) nothing ∙ ap (take count) (append-nil new) ∙ take_all count new (omega (arith, same, all))

pub map_snoc : {X Y : Type 0} (f : X → Y) (xs : List X) (x : X) → map f (xs ++ x ∷ []) ≡ map f xs ++ f x ∷ []
map_snoc f [] x = refl
map_snoc f (y ∷ ys) x = ap (λ (zs : List _). f y ∷ zs) (map_snoc f ys x)

-- the options so far and one more, each owned
pub onward_more : (setting : Setting) (done : List Parameter) (onward new : List OwnOpt) (x : Parameter) (y : OwnOpt) → AreOptionsOnward setting (map own done) onward
    → IsOptionOnward setting (own x) y → new ≡ onward ++ y ∷ [] → AreOptionsOnward setting (map own (done ++ x ∷ [])) new
onward_more setting done onward new x y h k e =
    subst (λ (os : List OwnOpt). AreOptionsOnward setting os new) (sym (map_snoc own done x))
    (subst (λ (os : List OwnOpt). AreOptionsOnward setting (map own done ++ own x ∷ []) os) (sym e) (onward_snoc setting (map own done) onward (own x) y h k))
