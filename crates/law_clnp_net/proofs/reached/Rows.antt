-- The ports of the LANs stay, whatever is called.
use Rattle.std.proofs.Common.{◌≡◌, ℕ, List, [], ◌∷◌, Option, Some, None, refl, ◌∙◌, ap}
use Rattle.osi_base.specs.declared.unit.Injected.{Injected}
use Rattle.osi_base.specs.declared.unit.Injected.TheVariants.{Taken as WasInjected, NotThere as InjectedNowhere}
use Rattle.osi_base.specs.declared.unit.Offered.{Offered}
use Rattle.osi_base.specs.declared.unit.Offered.TheVariants.{Taken as WasTaken, Dropped}
use Rattle.osi_base.specs.declared.unit.Picked.{Picked}
use Rattle.osi_base.specs.declared.unit.Picked.TheVariants.{Taken as WasPicked}
use Rattle.osi_base.specs.declared.unit.Unit.{Unit as CarriedUnit}
use Rattle.osi_base.specs.declared.unit.Up.{Up}
use Rattle.osi_base.specs.declared.unit.Up.TheVariants.{Unit as Came, Note as Noted}
use Rattle.osi_base.specs.Calls.{Call, Offer, Choose, Inject, NextUp, Tick}
use Rattle.osi_base.specs.Gathering.{Gathers}
use Rattle.nsap.specs.declared.port.Port.{Port}
use Rattle.lan_step.specs.Bag.{Bag, BagStep, after_choose, after_inject, after_offer, after_pick, link_of}
use Rattle.lan_step.specs.Frames.{Frame as LanFrame, frame_of}
use Rattle.lan_step.specs.declared.row.PortRow.{PortRow}
use Rattle.esis_tables.specs.Rows.{Rows}
use Rattle.clnp_system.specs.Node.{Frame, Node}
use Rattle.clnp_system.specs.Tables.{rows_tables}
use Rattle.law_clnp_step.specs.Handling.{Handles, OffersFrame, OffersFrames, TicksAll, plain_wish}
use Rattle.law_clnp_net.proofs.Gathered.{bag_gathered}

abbrev rows_of : Bag → List PortRow
rows_of bag = bag.rows

offer_rows : (bag : Bag) (unit : CarriedUnit Port) (answer : Offered) → rows_of (after_offer bag unit answer) ≡ bag.rows
offer_rows bag unit WasTaken = refl
offer_rows bag unit (Dropped cause) = refl

pick_rows : (bag : Bag) (pick system : ℕ) (found : Option LanFrame) → rows_of (after_pick bag pick system found) ≡ bag.rows
pick_rows bag pick system (Some frame) = refl
pick_rows bag pick system None = refl

choose_rows : (bag : Bag) (pick system : ℕ) (answer : Picked) → rows_of (after_choose bag pick system answer) ≡ bag.rows
choose_rows bag pick system WasPicked = pick_rows bag pick system (frame_of bag.frames pick)
choose_rows bag pick system other = refl

inject_rows : (bag : Bag) (lan system : ℕ) (octets : List ℕ) (answer : Injected) → rows_of (after_inject bag lan system octets answer) ≡ bag.rows
inject_rows bag lan system octets InjectedNowhere = refl
inject_rows bag lan system octets WasInjected = refl

pub step_rows : (old : Bag) (call : Call Port) (new : Bag) → BagStep old call new → new.rows ≡ old.rows
step_rows old (Offer unit wish answer) new h = ap rows_of h.1 ∙ offer_rows old unit answer
step_rows old (Choose pick system answer) new h = ap rows_of h.1 ∙ choose_rows old pick system answer
step_rows old (Inject lan system octets answer) new h = ap rows_of h.1 ∙ inject_rows old lan system octets answer
step_rows old (NextUp answer) new h = ap rows_of h.2
step_rows old Tick new h = ap rows_of h

pub gathers_rows : (old new : Bag) (ups : List (Up Port)) → Gathers link_of BagStep old ups new → new.rows ≡ old.rows
gathers_rows old new ups g = ap rows_of (bag_gathered old new ups g)

offered_rows : (old new : Bag) (system : ℕ) (frame : Frame) (told : List (Up (List ℕ))) → OffersFrame link_of BagStep old system frame new told → new.rows ≡ old.rows
offered_rows old new system frame told o = gathers_rows o.offered new o.notes o.gathers ∙ step_rows old (Offer frame plain_wish o.answer) o.offered o.offers

pub offers_rows : (frames : List Frame) (old new : Bag) (system : ℕ) (told : List (Up (List ℕ))) → OffersFrames link_of BagStep old system frames new told → new.rows ≡ old.rows
offers_rows [] old new system told o = ap rows_of o.0
offers_rows (frame ∷ frames) old new system told o = offers_rows frames o.0 new system o.2 o.4 ∙ offered_rows old o.0 system frame o.1 o.3

pub handles_rows : (now : ℕ) (ups : List (Up Port)) (old new : Bag) (nodes after : List (Node Rows)) (told : List (Up (List ℕ)))
    → Handles link_of BagStep rows_tables now old nodes ups new after told → new.rows ≡ old.rows
handles_rows now [] old new nodes after told h = ap rows_of h.0
handles_rows now (Noted note ∷ ups) old new nodes after told h = handles_rows now ups old new nodes after h.0 h.1
handles_rows now (Came arrival ∷ ups) old new nodes after told h =
    handles_rows now ups h.1 new h.2 after h.4 h.7 ∙ offers_rows h.0.frames old h.1 arrival.system h.3 h.6

pub ticks_rows : (now : ℕ) (nodes : List (Node Rows)) (old new : Bag) (after : List (Node Rows)) (told : List (Up (List ℕ)))
    → TicksAll link_of BagStep rows_tables now old nodes new after told → new.rows ≡ old.rows
ticks_rows now [] old new after told h = ap rows_of h.0
ticks_rows now (node ∷ nodes) old new after told h = ticks_rows now nodes h.1 new h.3 h.5 h.8 ∙ offers_rows h.0.frames old h.1 node.setup.system h.4 h.7
