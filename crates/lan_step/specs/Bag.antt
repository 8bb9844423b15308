-- What the LANs are, and what each call does to them (IEEE 802.3; X.233, underlying subnetworks).
use Rattle.std.specs.Prelude.{◌≡◌, ℕ, ◌+◌, min, Bool, true, false, if◌then◌else◌, List, [], ◌∷◌, ◌++◌, length, map, Option, Some, None}
use Rattle.std.specs.List.{flat_map}
use Rattle.osi_base.specs.declared.unit.Unit.{Unit as CarriedUnit}
use Rattle.osi_base.specs.declared.unit.Up.{Up}
use Rattle.osi_base.specs.declared.unit.Up.TheVariants.{Unit as Came, Note as Noted}
use Rattle.osi_base.specs.declared.note.Note.TheVariants.{Frame as FrameSent}
use Rattle.osi_base.specs.declared.unit.Offered.{Offered}
use Rattle.osi_base.specs.declared.unit.Offered.TheVariants.{Taken as WasTaken, Dropped}
use Rattle.osi_base.specs.declared.unit.Picked.{Picked}
use Rattle.osi_base.specs.declared.unit.Picked.TheVariants.{Taken as WasPicked, NoSuch, Late, NotThere, NotOurs}
use Rattle.osi_base.specs.declared.unit.Injected.{Injected}
use Rattle.osi_base.specs.declared.unit.Injected.TheVariants.{Taken as WasInjected, NotThere as InjectedNowhere}
use Rattle.osi_base.specs.Link.{Link}
use Rattle.osi_base.specs.Calls.{Call, Offer, Choose, Inject, NextUp, Tick, after_first}
use Rattle.nsap.specs.declared.port.Port.{Port}
use Rattle.lan_step.specs.declared.row.Lan.{Lan}
use Rattle.lan_step.specs.declared.row.PortRow.{PortRow}
use Rattle.lan_step.specs.Rows.{bound_on, room_on, is_on, sender_of}
use Rattle.lan_step.specs.Receivers.{goes_to}
use Rattle.lan_step.specs.Frames.{Frame, frame_of, has_taken, marked_at, is_taken, picked, kept_at, strays_of}
use Rattle.lan_step.specs.Offers.{offered}
use Rattle.lan_step.specs.Reading.{ups_of}

-- the LANs: the frame of number n stands at place n - 1, and nothing once it is late
pub record Bag : Type 0 where
  pub clock : ℕ
  pub lans : List Lan
  pub rows : List PortRow
  pub frames : List (Option Frame)
  pub waiting : List (Up Port)
  pub honest : Bool
  pub strays : ℕ

abbrev pub new_bag : List Lan → List PortRow → Bag
new_bag lans rows = record { clock = 0; lans = lans; rows = rows; frames = []; waiting = []; honest = true; strays = 0 }

-- the unit of a frame, with its tick
abbrev pub entry_of : Option Frame → List (ℕ × CarriedUnit Port)
entry_of None = []
entry_of (Some frame) = (frame.tick, frame.unit) ∷ []

abbrev pub picked_in : Bag → ℕ → ℕ → Picked
picked_in bag pick system = picked bag.clock bag.lans bag.rows bag.frames pick system

abbrev pub took_by : Option Frame → ℕ → Bool
took_by None system = false
took_by (Some frame) system = has_taken frame system

-- what those above see of the LANs; a count of strays above its greatest value is no state of theirs
abbrev pub link_of : Bag → Link Port
link_of bag = record {
  clock = bag.clock;
  floating = flat_map entry_of bag.frames;
  waiting = bag.waiting;
  honest = bag.honest;
  strays = min bag.strays 4294967295;
  bound = λ to. bound_on bag.lans to.lan;
  room = λ to. room_on bag.lans to.lan;
  belongs = goes_to bag.rows;
  given = length bag.frames;
  takes = λ pick system. is_taken (picked_in bag pick system);
  took = λ pick system. took_by (frame_of bag.frames pick) system;
}

-- the note of a frame: its number, LAN, sender, destination and length in all
abbrev pub frame_note : ℕ → Option ℕ → CarriedUnit Port → List (Up Port)
frame_note number None unit = []
frame_note number (Some system) unit = Noted (FrameSent number unit.to.lan system unit.to.snpa (length unit.octets + 17)) ∷ []

abbrev pub after_offer : Bag → CarriedUnit Port → Offered → Bag
after_offer bag unit WasTaken = record bag {
  frames = bag.frames ++ Some (record { tick = bag.clock; unit = unit; taken = [] }) ∷ [];
  waiting = bag.waiting ++ frame_note (length bag.frames + 1) (sender_of bag.rows unit.from) unit;
}
after_offer bag unit (Dropped cause) = bag

-- a frame that was picked comes, unaltered, and is taken
abbrev pub after_pick : Bag → ℕ → ℕ → Option Frame → Bag
after_pick bag pick system (Some frame) = record bag {
  frames = marked_at bag.frames pick system;
  waiting = bag.waiting ++ Came (record { system = system; unit = frame.unit }) ∷ [];
}
after_pick bag pick system None = bag

abbrev pub after_choose : Bag → ℕ → ℕ → Picked → Bag
after_choose bag pick system WasPicked = after_pick bag pick system (frame_of bag.frames pick)
after_choose bag pick system NoSuch = bag
after_choose bag pick system Late = bag
after_choose bag pick system NotThere = bag
after_choose bag pick system NotOurs = bag

abbrev pub after_inject : Bag → ℕ → ℕ → List ℕ → Injected → Bag
after_inject bag lan system octets InjectedNowhere = bag
after_inject bag lan system octets WasInjected = record bag {
  waiting = bag.waiting ++ ups_of lan system octets ∷ [];
  honest = false;
  strays = min (bag.strays + strays_of bag.clock bag.lans bag.frames (ups_of lan system octets)) 4294967295;
}

-- what each call answers and does
abbrev pub BagStep : Bag → Call Port → Bag → Type 0
BagStep old (Offer unit wish answer) new =
    (answer ≡ offered old.lans old.rows old.frames unit) × (new ≡ after_offer old unit answer)
BagStep old (Choose pick system answer) new =
    (answer ≡ picked_in old pick system) × (new ≡ after_choose old pick system answer)
BagStep old (Inject lan system octets answer) new =
    (answer ≡ (if is_on old.rows system lan then WasInjected else InjectedNowhere)) × (new ≡ after_inject old lan system octets answer)
BagStep old (NextUp answer) new =
    (old.waiting ≡ after_first answer new.waiting) × (answer ≡ None → old.waiting ≡ []) × (new ≡ record old { waiting = new.waiting })
BagStep old Tick new =
    new ≡ record old { clock = old.clock + 1; frames = map (kept_at (old.clock + 1) old.lans) old.frames }
