-- Where no pair is fresh, each frame that is still there was taken by all that can take it.
use Rattle.std.proofs.Common.{◌≡◌, ℕ, zero, suc, Bool, true, false, not, ◌&&◌, if◌then◌else◌, List, [], ◌∷◌, refl, sym, ◌∙◌, ap, Option, Some, None, slice_get}
use Rattle.std.specs.List.{AllByRecursion}
use Rattle.std.proofs.lemmas.List.{append-nil}
use Rattle.osi_base.specs.declared.unit.Picked.{Picked}
use Rattle.osi_base.specs.declared.unit.Picked.TheVariants.{Late}
use Rattle.osi_base.specs.Link.{IsLeastFresh}
use Rattle.lan_step.specs.declared.row.Lan.{Lan}
use Rattle.lan_step.specs.declared.row.PortRow.{PortRow}
use Rattle.lan_step.specs.Bag.{Bag, link_of, took_by}
use Rattle.lan_step.specs.Frames.{Frame, has_taken, is_live, is_taken, kept, picked_of}
use Rattle.lan_bag.specs.steps.Openings.{is_open_to}
use Rattle.lan_step.proofs.Places.{takes_at, takes_in}
use Rattle.law_clnp_net.specs.Frames.{HasWaiting, IsSpent}
use Rattle.law_clnp_net.proofs.Spent.{any_never}

by_live : (live has : Bool) (picked : Picked) → (is_taken (if not live then Late else picked) && not has) ≡ false → (live && is_taken picked && not has) ≡ false
by_live true has picked h = h
by_live false has picked h = refl

slot_spent : (clock : ℕ) (lans : List Lan) (rows : List PortRow) (slot : Option Frame) → ((system : ℕ) → (takes_in clock lans rows slot system && not (took_by slot system)) ≡ false)
    → IsSpent clock lans rows slot
slot_spent clock lans rows None h = refl
slot_spent clock lans rows (Some frame) h =
    any_never (λ (row : PortRow). is_open_to clock lans rows frame row.system)
    (λ row. by_live (is_live clock lans frame) (has_taken frame row.system) (picked_of rows row.system frame) (h row.system)) rows

slots_spent : (clock : ℕ) (lans : List Lan) (rows : List PortRow) (slots : List (Option Frame))
    → ((k system : ℕ) → (takes_in clock lans rows (kept (slice_get slots k)) system && not (took_by (kept (slice_get slots k)) system)) ≡ false)
    → AllByRecursion (IsSpent clock lans rows) slots
slots_spent clock lans rows [] h = tt
slots_spent clock lans rows (slot ∷ slots) h = (slot_spent clock lans rows slot (λ system. h zero system), slots_spent clock lans rows slots (λ k system. h (suc k) system))

pub all_spent : (bag : Bag) → IsLeastFresh (link_of bag) None → AllByRecursion (IsSpent bag.clock bag.lans bag.rows) bag.frames
all_spent bag none =
    slots_spent bag.clock bag.lans bag.rows bag.frames
    (λ k system.
    ap (λ (b : Bool). b && not (took_by (kept (slice_get bag.frames k)) system)) (sym (takes_at bag.clock bag.lans bag.rows bag.frames k system)) ∙ none (suc k) system)

-- so none waits
pub none_waits_then : (bag : Bag) → bag.waiting ≡ [] → IsLeastFresh (link_of bag) None → HasWaiting bag []
none_waits_then bag quiet none = record { spent = bag.frames; stands = sym (append-nil bag.frames); are_spent = all_spent bag none; quiet = quiet }
