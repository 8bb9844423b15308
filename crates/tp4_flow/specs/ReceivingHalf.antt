-- What a receiving half does with a DT, an ED and a new credit (X.224, class 4: explicit flow control, expedited data).
use Rattle.std.specs.Prelude.{◌≡◌, ℕ, ◌+◌, ◌*◌, ◌<◌, ◌≤◌, length, Bool, ◌||◌, ◌==◌, List, [], ◌∷◌, min, None, replicate, if◌then◌else◌}
use Rattle.tpdu.specs.declared.tpdu.Format.{Format}
use Rattle.tpdu.specs.declared.tpdu.Tpdu.TheVariants.{Ak, Ea}
use Rattle.tp4_flow.specs.declared.rules.FlowRules.{FlowRules}
use Rattle.tp4_number.specs.declared.got.Got.{Got}
use Rattle.tp4_number.specs.declared.got.Got.TheVariants.{Kept, Old, Outside, TooLarge}
use Rattle.tp4_number.specs.declared.piece.Piece.{Piece}
use Rattle.tp4_flow.specs.declared.step.EndEvent.{EndEvent}
use Rattle.tp4_flow.specs.declared.step.Sent.{Sent}
use Rattle.tp4_flow.specs.declared.step.What.TheVariants as whats
use Rattle.tpdu.specs.declared.service.EndTold.TheVariants.{Urgent}
use Rattle.tp4_number.specs.Formats.{block_of, most_of}
use Rattle.tp4_number.specs.Number.{wire}
use Rattle.tp4_flow.specs.Told.{Told, Grows, gots}
use Rattle.tp4_number.specs.Receiver.{Receiver, Arrived, arrival, after_dt, granted}

-- The numbers of `receiver` are whole, or as they stand on the wire
pub record Half : Type 0 where
  pub rules : FlowRules
  pub receiver : Receiver

-- the numbers are those of the wire, and there is a place for each number within the greatest credit
pub record IsHalf (format : Format) (r : Receiver) : Type 0 where
  pub expected_low : r.expected < 4 * block_of format
  pub urgent_low : r.urgent < 4 * block_of format
  pub credit_low : r.inbox.credit ≤ most_of format
  pub room : length r.inbox.held.places ≡ most_of format

-- what a call of a half does
pub record Received : Type 0 where
  pub half : Half
  pub events : List EndEvent
  pub tpdus : List Sent

-- nothing came yet
abbrev pub empty : FlowRules → ℕ → Half
empty rules credit = record {
  rules = rules;
  receiver = record { expected = 0; urgent = 0; inbox = record { credit = credit; subsequence = 0; held = record { places = replicate (most_of rules.format) None; begun = [] } } };
}

-- the numbers in a block
abbrev pub block_in : Half → ℕ
block_in h = block_of h.rules.format

-- the AK that it sends
abbrev pub ak : Half → Sent
ak h = record {
  to = h.rules.to;
  tpdu = Ak h.rules.partner (wire (block_in h) h.receiver.expected) h.receiver.inbox.credit h.receiver.inbox.subsequence None;
  format = h.rules.format;
  sum = h.rules.sum;
}

-- one AK for each DT, but for one that makes a unit too large
abbrev pub aks : Got → Half → List Sent
aks Kept h = ak h ∷ []
aks Old h = ak h ∷ []
aks Outside h = ak h ∷ []
aks TooLarge h = []

-- what a DT with this wire number is
abbrev pub dt_arrival : Half → ℕ → Piece → Arrived
dt_arrival h w piece = arrival (block_in h) h.receiver w piece

-- `wrap` is what a half keeps of a number, by its block: the number itself, or its wire number
abbrev pub half_after : (ℕ → ℕ → ℕ) → Half → Arrived → Half
half_after wrap h a = record h { receiver = after_dt (wrap (block_in h)) h.receiver a }

-- a DT came with this wire number
abbrev pub taken_dt : (ℕ → ℕ → ℕ) → Half → ℕ → Piece → Received
taken_dt wrap h w piece = record {
  half = half_after wrap h (dt_arrival h w piece);
  events = gots h.rules.own (dt_arrival h w piece).units;
  tpdus = aks (dt_arrival h w piece).got (half_after wrap h (dt_arrival h w piece));
}

-- the EA of an ED
abbrev pub ea : Half → ℕ → Sent
ea h w = record { to = h.rules.to; tpdu = Ea h.rules.partner w; format = h.rules.format; sum = h.rules.sum }

-- the ED is the next one, or the one before it on the wire
abbrev pub is_next : Half → ℕ → Bool
is_next h w = w == wire (block_in h) h.receiver.urgent

abbrev pub is_before : Half → ℕ → Bool
is_before h w = wire (block_in h) (w + 1) == wire (block_in h) h.receiver.urgent

-- an ED came
abbrev pub taken_ed : (ℕ → ℕ → ℕ) → Half → ℕ → List ℕ → Received
taken_ed wrap h w octets = record {
  half = if is_next h w then record h { receiver = record h.receiver { urgent = wrap (block_in h) (h.receiver.urgent + 1) } } else h;
  events = if is_next h w then record { reference = h.rules.own; what = whats.End (Urgent octets) } ∷ [] else [];
  tpdus = if is_next h w || is_before h w then ea h w ∷ [] else [];
}

-- the credit that a user gets
abbrev pub allowed : Format → ℕ → ℕ
allowed format credit = min credit (most_of format)

-- the user wants this credit
abbrev pub half_granted : Half → ℕ → Half
half_granted h credit = record h { receiver = record h.receiver { inbox = granted h.receiver.inbox (allowed h.rules.format credit) } }

-- a call did this
pub record Receives (x : Received) (new : Half) (was is : Told) : Type 0 where
  pub half_is : new ≡ x.half
  pub told : Grows was x.events x.tpdus is

-- the half as it stands on the wire
abbrev pub on_wire : Half → Half
on_wire h = record h { receiver = record h.receiver { expected = wire (block_in h) h.receiver.expected; urgent = wire (block_in h) h.receiver.urgent } }

-- a half on the wire did what the half with whole numbers does
pub record IsOnWire (x on : Received) : Type 0 where
  pub half : on.half ≡ on_wire x.half
  pub events : on.events ≡ x.events
  pub tpdus : on.tpdus ≡ x.tpdus
