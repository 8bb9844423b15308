-- What a receiving half does with numbers and pieces (X.224, class 4: sequencing, explicit flow control, expedited data).
use Rattle.std.specs.Prelude.{ℕ, ◌+◌, ◌||◌, ◌==◌, nat_lt, nat_le, false, List, [], if◌then◌else◌}
use Rattle.tp4_number.specs.declared.piece.Piece.{Piece}
use Rattle.tp4_number.specs.declared.got.Got.{Got}
use Rattle.tp4_number.specs.declared.got.Got.TheVariants.{Kept, Old, Outside, TooLarge}
use Rattle.tp4_number.specs.Number.{wire, ahead}
use Rattle.tp4_number.specs.Window.{Held, Joined, is_held, placed, joined, slid}

-- what lies ahead, by distance from the number expected
pub record Inbox : Type 0 where
  pub credit : ℕ
  pub subsequence : ℕ
  pub held : Held

-- the numbers of the next DT and of the next ED: whole, or as they stand on the wire
pub record Receiver : Type 0 where
  pub expected : ℕ
  pub urgent : ℕ
  pub inbox : Inbox

-- a DT at that distance from the number expected, before its piece is looked at
abbrev pub judged : ℕ → Inbox → ℕ → Got
judged block inbox d =
    if is_held inbox.held d || nat_le block d then Old
    else if nat_le inbox.credit d then Outside
    else Kept

-- what comes in order once the piece stands at that distance
abbrev pub in_order : Held → ℕ → Joined
in_order held d = if d == 0 then joined held.begun held.places else record { count = 0; units = []; begun = held.begun; is_large = false }

-- the number expected went on by so many
abbrev pub advanced : Inbox → Held → Joined → Inbox
advanced inbox held j = record inbox { subsequence = if j.count == 0 then inbox.subsequence else 0; held = record { places = slid held.places j.count; begun = j.begun } }

-- what a DT does: the answer, the units that it shows, and the half after it
pub record Arrived : Type 0 where
  pub got : Got
  pub units : List (List ℕ)
  pub count : ℕ
  pub inbox : Inbox

abbrev pub kept : Inbox → Held → Joined → Arrived
kept inbox held j =
    record {
      got = if j.is_large then TooLarge else Kept;
      units = j.units;
      count = j.count;
      inbox = advanced inbox held j;
    }

abbrev pub arrived_as : Got → Inbox → ℕ → Piece → Arrived
arrived_as Kept inbox d piece = kept inbox (placed inbox.held d piece) (in_order (placed inbox.held d piece) d)
arrived_as Old inbox d piece = record { got = Old; units = []; count = 0; inbox = inbox }
arrived_as Outside inbox d piece = record { got = Outside; units = []; count = 0; inbox = inbox }
arrived_as TooLarge inbox d piece = record { got = TooLarge; units = []; count = 0; inbox = inbox }

abbrev pub arrived : ℕ → Inbox → ℕ → Piece → Arrived
arrived block inbox d piece = arrived_as (judged block inbox d) inbox d piece

-- a DT came with this wire number
abbrev pub arrival : ℕ → Receiver → ℕ → Piece → Arrived
arrival block r w piece = arrived block r.inbox (ahead block (wire block r.expected) w) piece

-- `wrap` is what the half keeps of a number: the number itself, or its wire number
abbrev pub after_dt : (ℕ → ℕ) → Receiver → Arrived → Receiver
after_dt wrap r a = record r { expected = wrap (r.expected + a.count); inbox = a.inbox }

-- the user wants this credit
abbrev pub granted : Inbox → ℕ → Inbox
granted inbox credit =
    if nat_lt credit inbox.credit
    then if inbox.subsequence == 65535 then inbox else record inbox { credit = credit; subsequence = inbox.subsequence + 1 }
    else record inbox { credit = credit }
