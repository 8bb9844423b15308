-- A unit as one frame, an octet 0 before it, and what a frame that comes is (X.233, Inactive Network Layer Protocol subset,
-- Inactive Network Layer Protocol identifier).
use Rattle.std.specs.Prelude.{ℕ, ◌==◌, if◌then◌else◌, List, [], ◌∷◌, Option, Some, None}
use Rattle.nsap.specs.declared.port.Port.{Port}
use Rattle.osi_base.specs.declared.note.Note.TheVariants.{Alien}
use Rattle.osi_base.specs.declared.unit.Unit.{Unit as CarriedUnit}
use Rattle.osi_base.specs.declared.unit.Up.{Up}
use Rattle.osi_base.specs.declared.unit.Up.TheVariants.{Unit as Came, Note as Noted}
use Rattle.inactive_step.specs.declared.row.InactiveRow.{InactiveRow}
use Rattle.inactive_step.specs.declared.row.Way.{Way}
use Rattle.inactive_step.specs.Rows.{row_on}

-- the frame of a unit on its way: the octet 0, and the unit's octets
abbrev pub frame_on : Way → List ℕ → CarriedUnit Port
frame_on way octets = record { from = way.source.port; to = way.goal.port; octets = 0 ∷ octets }

-- a unit between the addresses of two ports; a frame of another port is alien
abbrev pub unit_between : ℕ → Option InactiveRow → Option InactiveRow → List ℕ → Up (List ℕ)
unit_between system None goal octets = Noted (Alien system)
unit_between system (Some source) None octets = Noted (Alien system)
unit_between system (Some source) (Some goal) octets = Came (record { system = system; unit = record { from = source.address; to = goal.address; octets = octets } })

-- what a frame is that comes to a system: a unit where its first octet is 0, else alien
abbrev pub unit_in : List InactiveRow → ℕ → Port → Port → List ℕ → Up (List ℕ)
unit_in rows system from to [] = Noted (Alien system)
unit_in rows system from to (first ∷ octets) = if first == 0 then unit_between system (row_on rows from) (row_on rows to) octets else Noted (Alien system)

-- what comes up from the carrier of frames; a note is told as it is
abbrev pub read_up : List InactiveRow → Up Port → Up (List ℕ)
read_up rows (Noted note) = Noted note
read_up rows (Came arrival) = unit_in rows arrival.system arrival.unit.from arrival.unit.to arrival.unit.octets

abbrev pub read_ups : List InactiveRow → List (Up Port) → List (Up (List ℕ))
read_ups rows [] = []
read_ups rows (up ∷ ups) = read_up rows up ∷ read_ups rows ups
