-- A half looks at the two numbers that it expects only as they stand on the wire. So the half on the wire does what the half with whole
-- numbers does: all comes down to the wire number of a wire number, and of a sum with one.
use Rattle.std.proofs.Common.{◌≡◌, ℕ, ◌+◌, ◌*◌, ◌<◌, ◌∙◌, Bool, true, false, ◌==◌, ◌||◌, List, [], ◌∷◌, None, refl, ap, sym, subst, if◌then◌else◌}
use Rattle.std.proofs.Math.Nat.{mod-mod, mod-add-mod, mod-eq_of_lt}
use Rattle.tpdu.specs.declared.tpdu.Tpdu.TheVariants.{Ak}
use Rattle.tp4_number.specs.declared.got.Got.{Got}
use Rattle.tp4_number.specs.declared.got.Got.TheVariants.{TooLarge}
use Rattle.tp4_number.specs.declared.piece.Piece.{Piece}
use Rattle.tp4_number.specs.Number.{whole, wire, ahead}
use Rattle.tp4_number.specs.Receiver.{Arrived, arrived}
use Rattle.tp4_flow.specs.declared.step.Sent.{Sent}
use Rattle.tp4_flow.specs.declared.step.What.TheVariants as whats
use Rattle.tpdu.specs.declared.service.EndTold.TheVariants.{Urgent}
use Rattle.tp4_flow.specs.ReceivingHalf.{Half, Received, IsOnWire, on_wire, block_in, ak, aks, ea, dt_arrival, half_after, taken_dt, taken_ed, is_next, half_granted}
use Rattle.tp4_flow.specs.Told.{gots}

pub wire_low : (block n : ℕ) → n < 4 * block → wire block n ≡ n
unfolding wire
wire_low block n low = mod-eq_of_lt low

wire_wire : (block n : ℕ) → wire block (wire block n) ≡ wire block n
unfolding wire
wire_wire block n = mod-mod n (4 * block)

wire_add : (block n k : ℕ) → wire block (wire block n + k) ≡ wire block (n + k)
unfolding wire
wire_add block n k = mod-add-mod n (4 * block) k

abbrev ak_at : Half → ℕ → Sent
ak_at h n = record {
  to = h.rules.to;
  tpdu = Ak h.rules.partner n h.receiver.inbox.credit h.receiver.inbox.subsequence None;
  format = h.rules.format;
  sum = h.rules.sum;
}

pub ak_on : (h : Half) → ak (on_wire h) ≡ ak h
ak_on h = ap (λ (n : ℕ). ak_at h n) (wire_wire (block_in h) h.receiver.expected)

aks_on : (got : Got) (h : Half) → aks got (on_wire h) ≡ aks got h
aks_on TooLarge h = refl
aks_on got h = ap (λ (s : Sent). s ∷ []) (ak_on h)

pub arrival_on : (h : Half) (w : ℕ) (piece : Piece) → dt_arrival (on_wire h) w piece ≡ dt_arrival h w piece
arrival_on h w piece = ap (λ (n : ℕ). arrived (block_in h) h.receiver.inbox (ahead (block_in h) n w) piece) (wire_wire (block_in h) h.receiver.expected)

abbrev half_at : Half → Arrived → ℕ → Half
half_at h a n = record h { receiver = record { expected = n; urgent = wire (block_in h) h.receiver.urgent; inbox = a.inbox } }

after_on : (h : Half) (a : Arrived) → half_after wire (on_wire h) a ≡ on_wire (half_after whole h a)
after_on h a = ap (λ (n : ℕ). half_at h a n) (wire_add (block_in h) h.receiver.expected a.count)

-- what a DT does, given what came of it
abbrev pub dt_by : (ℕ → ℕ → ℕ) → Half → Arrived → Received
dt_by wrap h a = record { half = half_after wrap h a; events = gots h.rules.own a.units; tpdus = aks a.got (half_after wrap h a) }

dt_by_on : (h : Half) (a : Arrived) → IsOnWire (dt_by whole h a) (dt_by wire (on_wire h) a)
dt_by_on h a = record {
  half = after_on h a;
  events = refl;
  tpdus = ap (λ (x : Half). aks a.got x) (after_on h a) ∙ aks_on a.got (half_after whole h a);
}

pub dt_on : (h : Half) (w : ℕ) (piece : Piece) → IsOnWire (taken_dt whole h w piece) (taken_dt wire (on_wire h) w piece)
dt_on h w piece = subst (λ (a : Arrived). IsOnWire (taken_dt whole h w piece) (dt_by wire (on_wire h) a)) (sym (arrival_on h w piece)) (dt_by_on h (dt_arrival h w piece))

abbrev ed_at : Half → ℕ → List ℕ → ℕ → Received
ed_at h w octets u = record {
  half = if w == u then record h { receiver = record h.receiver { expected = wire (block_in h) h.receiver.expected; urgent = wire (block_in h) (wire (block_in h) h.receiver.urgent + 1) } } else on_wire h;
  events = if w == u then record { reference = h.rules.own; what = whats.End (Urgent octets) } ∷ [] else [];
  tpdus = if (w == u) || (wire (block_in h) (w + 1) == u) then ea h w ∷ [] else [];
}

ed_half : (h : Half) (c : Bool)
    → (if c then record h { receiver = record h.receiver { expected = wire (block_in h) h.receiver.expected; urgent = wire (block_in h) (wire (block_in h) h.receiver.urgent + 1) } } else on_wire h)
    ≡ on_wire (if c then record h { receiver = record h.receiver { urgent = h.receiver.urgent + 1 } } else h)
ed_half h true = ap (λ (n : ℕ). record h { receiver = record h.receiver { expected = wire (block_in h) h.receiver.expected; urgent = n } }) (wire_add (block_in h) h.receiver.urgent 1)
ed_half h false = refl

pub ed_on : (h : Half) (w : ℕ) (octets : List ℕ) → IsOnWire (taken_ed whole h w octets) (taken_ed wire (on_wire h) w octets)
ed_on h w octets =
    subst (λ (u : ℕ). IsOnWire (taken_ed whole h w octets) (ed_at h w octets u)) (sym (wire_wire (block_in h) h.receiver.urgent))
    (record { half = ed_half h (is_next h w); events = refl; tpdus = refl })

pub granted_on : (h : Half) (credit : ℕ) → half_granted (on_wire h) credit ≡ on_wire (half_granted h credit)
granted_on h credit = refl
