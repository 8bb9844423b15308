-- The number expected is never held, as long as no unit is too large.
use Rattle.std.proofs.Common.{◌≡◌, ℕ, suc, ◌+◌, ◌⊎◌, ◌==◌, inl, inr, Bool, true, false, List, [], ◌∷◌, ◌++◌, set, Option, Some, None, refl, sym, ◌∙◌, subst, arith, add-zero, if◌then◌else◌, true≢false}
use Rattle.std.proofs.lemmas.Bool.{cases_Bool, cases_eq, eq-eqb, eqb-true}
use Rattle.tp4_number.specs.Number.{whole, wire, ahead}
use Rattle.tp4_number.specs.Window.{Joined, joined, joined_by, begun_by, is_larger, is_held, placed, slid}
use Rattle.tp4_number.specs.Receiver.{Inbox, judged, in_order, arrived_as, arrival, after_dt}
use Rattle.tp4_number.specs.declared.piece.Piece.{Piece}
use Rattle.tp4_number.specs.declared.got.Got.{Got}
use Rattle.tp4_number.specs.declared.got.Got.TheVariants.{Kept, TooLarge}
use Rattle.tp4_number.specs.Traffic.{Rules, Traffic}
use Rattle.tp4_number.proofs.Past.{there, slid_there, set_there}
use Rattle.law_recovery_pair.specs.Views.{IsWithin}

-- what was joined ends at a place with no piece
joined_stops : (begun : List ℕ) (places : List (Option Piece)) → (joined begun places).is_large ≡ false → there places (joined begun places).count ≡ false
joined_stops begun [] e = refl
joined_stops begun (None ∷ places) e = refl
joined_stops begun (Some piece ∷ places) e = by (is_larger begun piece) (joined_stops (begun_by piece (begun ++ piece.octets)) places) e
  where
    rest : Joined
    rest = joined (begun_by piece (begun ++ piece.octets)) places

    by : (b : Bool) → (rest.is_large ≡ false → there places rest.count ≡ false)
        → (if b then record { count = 0; units = []; begun = begun; is_large = true } else joined_by piece (begun ++ piece.octets) rest).is_large ≡ false
        → there (Some piece ∷ places) (if b then record { count = 0; units = []; begun = begun; is_large = true } else joined_by piece (begun ++ piece.octets) rest).count ≡ false
    by true stop e = absurd (true≢false e)
    by false stop e =
        let one : rest.count + 1 ≡ suc rest.count = omega arith in
        subst (λ (k : ℕ). there (Some piece ∷ places) k ≡ false) (sym one) (stop e)

-- and slides to the front
front : (places : List (Option Piece)) (k : ℕ) → there places k ≡ false → there (slid places k) 0 ≡ false
front places k e = elim (cases_Bool (there (slid places k) 0)) [
  | inr free ↦ free
  | inl held ↦ absurd (true≢false (sym (slid_there places k 0 held) ∙ subst (λ (m : ℕ). there places m ≡ false) (sym (add-zero k)) e))
]

pub free_after : (inbox : Inbox) (d : ℕ) (piece : Piece) → (e : (d ≡ 0) ⊎ (d ≡ 0 → ⊥)) → (in_order (placed inbox.held d piece) d).is_large ≡ false → is_held inbox.held 0 ≡ false
    → there (slid (set inbox.held.places d (Some piece)) (in_order (placed inbox.held d piece) d).count) 0 ≡ false
free_after inbox d piece (inl same) large free =
    front (set inbox.held.places d (Some piece)) (in_order (placed inbox.held d piece) d).count (by (d == 0) (eq-eqb _ _ same) large)
  where
    by : (b : Bool) → b ≡ true → (if b then joined inbox.held.begun (set inbox.held.places d (Some piece)) else record { count = 0; units = []; begun = inbox.held.begun; is_large = false }).is_large ≡ false
        → there (set inbox.held.places d (Some piece)) (if b then joined inbox.held.begun (set inbox.held.places d (Some piece)) else record { count = 0; units = []; begun = inbox.held.begun; is_large = false }).count ≡ false
    by true e large = joined_stops inbox.held.begun (set inbox.held.places d (Some piece)) large
    by false e large = absurd (true≢false (sym e))
free_after inbox d piece (inr other) large free =
    front (set inbox.held.places d (Some piece)) (in_order (placed inbox.held d piece) d).count (by (d == 0) refl)
  where
    old : there (set inbox.held.places d (Some piece)) 0 ≡ false
    old = elim (cases_Bool (there (set inbox.held.places d (Some piece)) 0)) [
      | inr no_piece ↦ no_piece
      | inl held ↦ elim (set_there inbox.held.places d 0 piece held) [ inl here ↦ absurd (other (sym here)) | inr before ↦ absurd (true≢false (sym before ∙ free)) ]
    ]

    by : (b : Bool) → (d == 0) ≡ b → there (set inbox.held.places d (Some piece)) (if b then joined inbox.held.begun (set inbox.held.places d (Some piece)) else record { count = 0; units = []; begun = inbox.held.begun; is_large = false }).count ≡ false
    by true e = absurd (other (eqb-true _ _ e))
    by false e = old

pub stays_free : (rules : Rules) (w : Traffic) (n : ℕ) (piece : Piece) → IsWithin rules w n piece → is_held w.receiver.inbox.held 0 ≡ false
    → is_held (after_dt (whole rules.block) w.receiver (arrival rules.block w.receiver (wire rules.block n) piece)).inbox.held 0 ≡ false
stays_free rules w n piece within free = by (judged rules.block w.receiver.inbox d) within
  where
    d : ℕ
    d = ahead rules.block (wire rules.block w.receiver.expected) (wire rules.block n)

    small : (b : Bool) → ((if b then TooLarge else Kept) ≡ TooLarge → ⊥) → b ≡ false
    small true h = absurd (h refl)
    small false h = refl

    by : (g : Got) → ((arrived_as g w.receiver.inbox d piece).got ≡ TooLarge → ⊥) → is_held (after_dt (whole rules.block) w.receiver (arrived_as g w.receiver.inbox d piece)).inbox.held 0 ≡ false
    by Kept h = free_after w.receiver.inbox d piece (cases_eq d 0) (small _ h) free
    by other h = free
