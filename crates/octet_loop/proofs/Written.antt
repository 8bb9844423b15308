-- One write after another, and a text that is written to its end or to a front of it.
use Rattle.std.proofs.Common.{◌≡◌, ◌⊎◌, ℕ, ◌+◌, ◌-◌, ◌≤◌, List, [], ◌++◌, length, take, drop, inl, inr, refl, sym, ◌∙◌, ap, subst, append_assoc, arith, length-drop, Option, Some, None}
use Rattle.std.proofs.lemmas.List.{append-nil, take-append-drop, take_all, take_rest}
use Rattle.std.proofs.Math.Seq.{take-add}
use Rattle.osi_base.specs.declared.status.Status.{Status}
use Rattle.osi_base.specs.declared.status.Status.TheVariants.{WriteFault, NoMemory}
use Rattle.osi_base.specs.Ends.{Took, Put}
use Rattle.octet_loop.specs.Writing.{IsWritten}

pub took_none : (o : Option (List ℕ)) → Took o [] o
took_none None = refl
took_none (Some all) = (all, refl, refl)

pub took_on : (a : Option (List ℕ)) (xs : List ℕ) (b : Option (List ℕ)) (ys : List ℕ) (c : Option (List ℕ)) → Took a xs b → Took b ys c → Took a (xs ++ ys) c
took_on None xs b ys c h k = subst (λ (o : Option (List ℕ)). Took o ys c) h k
took_on (Some all) xs b ys c h k =
    let m : Took (Some h.0) ys c = subst (λ (o : Option (List ℕ)). Took o ys c) h.1 k in
    (m.0, m.1, h.2 ∙ (ap (λ (zs : List ℕ). xs ++ zs) m.2 ∙ sym (append_assoc xs ys m.0)))

pub put_none : (o : Option (List ℕ)) → Put o [] o
put_none None = refl
put_none (Some before) = ap Some (sym (append-nil before))

pub put_on : (a : Option (List ℕ)) (xs : List ℕ) (b : Option (List ℕ)) (ys : List ℕ) (c : Option (List ℕ)) → Put a xs b → Put b ys c → Put a (xs ++ ys) c
put_on None xs b ys c h k = subst (λ (o : Option (List ℕ)). Put o ys c) h k
put_on (Some before) xs b ys c h k =
    let m : Put (Some (before ++ xs)) ys c = subst (λ (o : Option (List ℕ)). Put o ys c) h k in
    m ∙ ap Some (append_assoc before xs ys)

module _ {K : Type 0} (held : K → Option (List ℕ)) where
  pub more_written : (words : List ℕ) (at count : ℕ) (first mid last : K) → Put (held first) (take at words) (held mid)
      → Put (held mid) (take count (take (length words - at) (drop at words))) (held last) → Put (held first) (take (at + count) words) (held last)
  more_written words at count first mid last p q =
      let here : Put (held mid) (take count (drop at words)) (held last) = subst (λ (xs : List ℕ). Put (held mid) (take count xs) (held last)) (take_rest words at) q in
      subst (λ (xs : List ℕ). Put (held first) xs (held last)) (sym (take-add at count words)) (put_on (held first) (take at words) (held mid) (take count (drop at words)) (held last) p here)

  -- the write failed
  pub broken : (words : List ℕ) (at : ℕ) (first mid last : K) (end status : Status) → (status ≡ WriteFault) ⊎ (status ≡ NoMemory) → Put (held first) (take at words) (held mid) → held last ≡ held mid
      → IsWritten held first words end last status
  broken words at first mid last end status cause p same = inr (record {
    front = take at words;
    begins = (drop at words, take-append-drop at words);
    put = subst (λ (o : Option (List ℕ)). Put (held first) (take at words) o) (sym same) p;
    cause = cause;
  })

  -- nothing was taken
  pub nothing_taken : (words : List ℕ) (at count : ℕ) (first mid last : K) (end : Status) → Put (held first) (take at words) (held mid) → count ≡ 0
      → Put (held mid) (take count (take (length words - at) (drop at words))) (held last) → IsWritten held first words end last WriteFault
  nothing_taken words at count first mid last end p zero q = inr (record {
    front = take (at + count) words;
    begins = (drop (at + count) words, take-append-drop (at + count) words);
    put = more_written words at count first mid last p q;
    cause = inl refl;
  })

  pub all_written : (words : List ℕ) (at : ℕ) (first last : K) (status : Status) → length words ≤ at → Put (held first) (take at words) (held last) → IsWritten held first words status last status
  all_written words at first last status past p = inl (refl, subst (λ (xs : List ℕ). Put (held first) xs (held last)) (take_all at words past) p)

pub more_within : (words : List ℕ) (at count : ℕ) → at ≤ length words → count ≤ length (take (length words - at) (drop at words)) → at + count ≤ length words
more_within words at count h k =
    let n : count ≤ length (drop at words) = subst (λ (xs : List ℕ). count ≤ length xs) (take_rest words at) k in
    omega (arith, length-drop at words)
