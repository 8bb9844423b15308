-- What is kept of a frame is the whole frame of its network PDU.
use Rattle.std.proofs.Common.{◌≡◌, ℕ, ◌≤◌, List, [], ◌∷◌, length, drop, sym, ◌∙◌, ap, subst, arith}
use Rattle.lan_frame.specs.Frame.{whole_frame}
use Rattle.lan_frame.proofs.Header.{header_long, header_dropped}
use Rattle.lan_bag.specs.steps.Store.{IsWhole}

-- the header has six octets of each address, two of the length and three of the LLC
frame_short : (to from pdu : List ℕ) → length to ≡ 6 → length from ≡ 6 → length pdu ≤ 1497 → length (whole_frame to from pdu) ≤ 1514
frame_short (a ∷ b ∷ c ∷ d ∷ e ∷ f ∷ []) (g ∷ h ∷ i ∷ j ∷ k ∷ l ∷ []) pdu six other most = omega arith
frame_short to from pdu six other most = absurd (omega arith)

pub is_whole : (to from pdu whole : List ℕ) → whole ≡ whole_frame to from pdu → length to ≡ 6 → length from ≡ 6 → length pdu ≤ 1497 → IsWhole to from whole
is_whole to from pdu whole e h k most =
    let dropped : drop 17 whole ≡ pdu = ap (λ (xs : List ℕ). drop 17 xs) e ∙ header_dropped to from pdu h k in
    record {
      long = subst (λ (xs : List ℕ). 17 ≤ length xs) (sym e) (header_long to from pdu h k);
      most = subst (λ (xs : List ℕ). length xs ≤ 1514) (sym e) (frame_short to from pdu h k most);
      framed = e ∙ ap (λ (xs : List ℕ). whole_frame to from xs) (sym dropped);
    }
