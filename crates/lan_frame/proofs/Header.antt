-- The header of a frame has 17 octets, and its network PDU is what follows them.
-- Both addresses have six octets, so their lists are written out, and the rest computes.
use Rattle.std.proofs.Common.{◌≡◌, ℕ, ◌≤◌, List, [], ◌∷◌, length, drop, refl, arith}
use Rattle.lan_frame.specs.Frame.{whole_frame}

pub header_long : (to from pdu : List ℕ) → length to ≡ 6 → length from ≡ 6 → 17 ≤ length (whole_frame to from pdu)
header_long (a ∷ b ∷ c ∷ d ∷ e ∷ f ∷ []) (g ∷ h ∷ i ∷ j ∷ k ∷ l ∷ []) pdu six other = omega arith
header_long to from pdu six other = absurd (omega arith)

pub header_dropped : (to from pdu : List ℕ) → length to ≡ 6 → length from ≡ 6 → drop 17 (whole_frame to from pdu) ≡ pdu
header_dropped (a ∷ b ∷ c ∷ d ∷ e ∷ f ∷ []) (g ∷ h ∷ i ∷ j ∷ k ∷ l ∷ []) pdu six other = refl
header_dropped to from pdu six other = absurd (omega arith)
