-- Pieces of units that are not too large join to no unit that is.
use Rattle.std.proofs.Common.{◌≡◌, ◌⊎◌, inl, inr, ℕ, suc, ◌+◌, ◌*◌, ◌-◌, ◌<◌, ◌≤◌, ◌==◌, Bool, true, false, if◌then◌else◌, List, [], ◌∷◌, ◌++◌, length, get_or, set, Option, Some, None, refl, sym, ◌∙◌, ap, subst, arith, add-zero, length-append}
use Rattle.std.proofs.lemmas.Bool.{cases_lt, ltb-true}
use Rattle.std.proofs.lemmas.List.{length-take-le}
use Rattle.tp4_number.specs.Number.{ahead, wire}
use Rattle.tp4_number.specs.Receiver.{Receiver, arrival, arrived_as, in_order, judged}
use Rattle.tp4_number.specs.Window.{Joined, begun_by, is_larger, joined, joined_by, placed}
use Rattle.tp4_number.specs.declared.got.Got.{Got}
use Rattle.tp4_number.specs.declared.got.Got.TheVariants.{Kept, Old, Outside, TooLarge}
use Rattle.tp4_number.specs.declared.piece.Piece.{Piece}
use Rattle.tp4_number.specs.Traffic.{Dt_comes, Event, IsFit, Leads, May, Rules, Traffic, start}
use Rattle.tp4_number.proofs.Past.{if_kept, kept_low}
use Rattle.tp4_number.proofs.Sound.{Sound, reads}
use Rattle.tp4_number.proofs.Steps.{all_sound}
use Rattle.tp4_flow.proofs.Arrivals.{never_large}
use Rattle.tp4_sending.specs.Pieces.{count_in, cut_at}
use Rattle.law_tp4_history.specs.Complete.{AllFull, Complete}
use Rattle.law_tp4_history.proofs.Complete.{one_piece, shown_on}
use Rattle.law_tp4_history.proofs.Lines.{set_same}
use Rattle.law_recovery_pair.specs.Views.{IsWithin}
use Rattle.law_recovery_steps.specs.Fitting.{AllShort, HasPieces, IsReadIn}

-- what has begun is no longer than its unit
begun_short : (size : ℕ) (units : List (List ℕ)) (n : ℕ) (shown : List (List ℕ)) (begun : List ℕ) → AllShort units → Complete size units n shown begun → length begun ≤ 16384
begun_short size [] n [] begun short c = omega (arith, ap length c.1)
begun_short size (unit ∷ units) n [] begun short c = omega (arith, ap length c.1, length-take-le (n * size) unit (omega (arith, c.0)), c.0, short.0)
begun_short size [] n (s ∷ shown) begun short c = absurd c
begun_short size (unit ∷ units) n (s ∷ shown) begun short c = begun_short size units (n - count_in size unit) shown begun short.1 c.2

-- nor is what was shown last
shown_short : (size : ℕ) (units : List (List ℕ)) (n : ℕ) (shown : List (List ℕ)) (last begun : List ℕ) → AllShort units → Complete size units n (shown ++ last ∷ []) begun → length last ≤ 16384
shown_short size [] n [] last begun short c = absurd c
shown_short size (unit ∷ units) n [] last begun short c = omega (arith, ap length c.0, short.0)
shown_short size [] n (s ∷ shown) last begun short c = absurd c
shown_short size (unit ∷ units) n (s ∷ shown) last begun short c = shown_short size units (n - count_in size unit) shown last begun short.1 c.2

next_short : (size : ℕ) (units : List (List ℕ)) (n : ℕ) (shown : List (List ℕ)) (octets : List ℕ) (last : Bool) → AllShort units → Complete size units n (shown_on last shown octets) (if last then [] else octets) → length octets ≤ 16384
next_short size units n shown octets true short c = shown_short size units n shown octets [] short c
next_short size units n shown octets false short c = begun_short size units n shown octets short c

none_large : (size : ℕ) → 0 < size → (units : List (List ℕ)) → AllFull units → AllShort units → (places : List (Option Piece)) (n : ℕ) (shown : List (List ℕ)) (begun : List ℕ) → Complete size units n shown begun
    → ((d : ℕ) (piece : Piece) → get_or places d None ≡ Some piece → cut_at size units (n + d) ≡ Some piece) → (joined begun places).is_large ≡ false
none_large size some units full short [] n shown begun c held = refl
none_large size some units full short (None ∷ places) n shown begun c held = refl
none_large size some units full short (Some piece ∷ places) n shown begun c held = by (is_larger begun piece) refl
    (none_large size some units full short places (n + 1) (shown_on piece.last shown (begun ++ piece.octets)) (begun_by piece (begun ++ piece.octets)) step
    (λ d p is. subst (λ (k : ℕ). cut_at size units k ≡ Some p) (omega arith) (held (suc d) p is)))
  where
    step : Complete size units (n + 1) (shown_on piece.last shown (begun ++ piece.octets)) (begun_by piece (begun ++ piece.octets))
    step = (one_piece size some units full n shown begun piece c (subst (λ (k : ℕ). cut_at size units k ≡ Some piece) (add-zero n) (held 0 piece refl))).0

    by : (b : Bool) → is_larger begun piece ≡ b → (joined (begun_by piece (begun ++ piece.octets)) places).is_large ≡ false
        → (if b then record { count = 0; units = []; begun = begun; is_large = true } else joined_by piece (begun ++ piece.octets) (joined (begun_by piece (begun ++ piece.octets)) places)).is_large ≡ false
    by true e rest = absurd (omega (arith, ltb-true _ _ e, length-append begun piece.octets, next_short size units (n + 1) shown (begun ++ piece.octets) piece.last short step))
    by false e rest = rest

small : (g : Got) → (g ≡ Kept) ⊎ ((g ≡ Old) ⊎ (g ≡ Outside)) → g ≡ TooLarge → ⊥
small g (inl e) f = cc (sym e ∙ f)
small g (inr (inl e)) f = cc (sym e ∙ f)
small g (inr (inr e)) f = cc (sym e ∙ f)

pub pieces_fit : (size : ℕ) (units : List (List ℕ)) (block : ℕ) (r : Receiver) (n : ℕ) (piece : Piece) → HasPieces size units r → cut_at size units n ≡ Some piece → IsReadIn block r n
    → (arrival block r (wire block n) piece).got ≡ TooLarge → ⊥
pieces_fit size units block r n piece h cut reads = by (judged block r.inbox (ahead block (wire block r.expected) (wire block n))) refl
  where
    in_order_small : judged block r.inbox (ahead block (wire block r.expected) (wire block n)) ≡ Kept
        → (in_order (placed r.inbox.held (ahead block (wire block r.expected) (wire block n)) piece) (ahead block (wire block r.expected) (wire block n))).is_large ≡ false
    in_order_small e =
        if_kept (λ (j : Joined). j.is_large ≡ false) (ahead block (wire block r.expected) (wire block n) == 0) _ _
        (λ _. none_large size h.some units h.full h.short (set r.inbox.held.places (ahead block (wire block r.expected) (wire block n)) (Some piece)) r.expected h.shown r.inbox.held.begun h.complete
        (λ j other is. elim (set_same r.inbox.held.places (ahead block (wire block r.expected) (wire block n)) j piece other is) [
          | inl here ↦ (let at : n ≡ r.expected + j = omega (arith, reads e, here.0) in sym (ap (λ (k : ℕ). cut_at size units k) at) ∙ cut ∙ ap (λ (p : Piece). Some p) here.1)
          | inr old ↦ h.held j other old
        ]))
        (λ _. refl)

    by : (g : Got) → judged block r.inbox (ahead block (wire block r.expected) (wire block n)) ≡ g → (arrived_as g r.inbox (ahead block (wire block r.expected) (wire block n)) piece).got ≡ TooLarge → ⊥
    by Kept e f = small _ (inl (ap (λ (b : Bool). if b then TooLarge else Kept) (in_order_small e))) f
    by TooLarge e f = never_large block r.inbox (ahead block (wire block r.expected) (wire block n)) e
    by other e f = cc f

-- a DT afloat that is kept is read for what it is
pub dts_fit : (rules : Rules) (tick credit places room : ℕ) (events : List Event) (w : Traffic) → IsFit rules → credit < rules.block → room < rules.block → Leads rules (start tick credit places room) events w
    → (size : ℕ) (units : List (List ℕ)) → HasPieces size units w.receiver → (n sent : ℕ) (piece : Piece) → May rules w (Dt_comes n sent piece) → cut_at size units n ≡ Some piece → IsWithin rules w n piece
dts_fit rules tick credit places room events w fit small low leads size units h n sent piece may cut = pieces_fit size units rules.block w.receiver n piece h cut (λ kept. is_read (kept_low rules.block w.receiver.inbox _ kept))
  where
    s : Sound rules w
    s = all_sound rules tick credit places room events w fit small low leads

    is_read : ahead rules.block (wire rules.block w.receiver.expected) (wire rules.block n) < w.receiver.inbox.credit → w.receiver.expected + ahead rules.block (wire rules.block w.receiver.expected) (wire rules.block n) ≡ n
    is_read within = elim (cases_lt n w.receiver.expected) [
      | inl old ↦ absurd (omega (arith, (reads rules w fit s).old_dt n sent may.0 may.1 old, s.order.room_low, within))
      | inr new ↦ (reads rules w fit s).new_dt n sent may.0 may.1 new
    ]
