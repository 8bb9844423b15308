-- How a capture is read part by part: its header, and of each record the numbers and the captured octets.
use Rattle.std.specs.Prelude.{◌≡◌, ◌+◌, ◌*◌, ◌<◌, ◌≤◌, ℕ, List, [], ◌++◌, length}
use Rattle.octet_loop.specs.steps.Taking.{Progress}
use Rattle.capture_decode.specs.Capture.{number_at, Record, Begins}
use Rattle.capture_decode.specs.Course.{Refuses}
use Rattle.capture_decode.specs.Faults.{IsLasting}
use Rattle.capture_decode.specs.Show.{field, ShowsRecord, ShowsFrom}
use Rattle.capture_decode.specs.declared.cause.Cause.{Cause}
use Rattle.capture_decode.specs.declared.decoder.Decoder.{Decoder}
use Rattle.capture_decode.specs.declared.order.Order.{Order}
use Rattle.capture_decode.specs.declared.reader.Part.{Part}
use Rattle.capture_decode.specs.declared.reader.Part.TheVariants as parts
use Rattle.capture_decode.specs.declared.reader.Reader.{Reader}
use Rattle.capture_decode.specs.declared.record.Numbers.{Numbers}
use Rattle.capture_show.specs.declared.ends.End.{End}

-- sixteen octets are the numbers of a record
pub record AreNumbers (order : Order) (octets : List ℕ) (numbers : Numbers) : Type 0 where
  pub whole : length octets ≡ 16
  pub seconds : numbers.seconds ≡ number_at order 0 4 octets
  pub fraction : numbers.fraction ≡ number_at order 4 4 octets
  pub captured : numbers.captured ≡ number_at order 8 4 octets
  pub original : numbers.original ≡ number_at order 12 4 octets
  pub most : numbers.captured ≤ 65535
  pub within : numbers.captured ≤ numbers.original

-- the record with these numbers and octets
abbrev pub record_of : Numbers → List ℕ → Record
record_of numbers octets = record { seconds = numbers.seconds; fraction = numbers.fraction; original = numbers.original; octets = octets }

-- what stands in front of the line of a record with these numbers
abbrev pub head_of : ℕ → Numbers → List ℕ
head_of number numbers = field number ++ (field numbers.seconds ++ (field numbers.fraction ++ field numbers.captured))

-- the lines of a record were appended, which has no more octets than its frame
pub record AppendsRecord (number : ℕ) (one : Record) (ends : List End) (before : List ℕ) (after : List End) (now : List ℕ) : Type 0 where
  pub told : List ℕ
  pub shows : length one.octets ≤ one.original → ShowsRecord number one ends told after
  pub appended : now ≡ before ++ told

-- how many octets a part has
abbrev pub wanted : Part → ℕ
wanted parts.Header = 24
wanted (parts.Numbers order) = 16
wanted (parts.Captured order numbers) = numbers.captured

-- how many octets of its record stand in front of a part
abbrev pub behind : Part → ℕ
behind parts.Header = 0
behind (parts.Numbers order) = 0
behind (parts.Captured order numbers) = 16

-- a part comes next, behind these octets with these records
abbrev pub ComesNext : Part → List ℕ → List Record → Type 0
ComesNext parts.Header front records = (front ≡ []) × (records ≡ [])
ComesNext (parts.Numbers order) front records = Begins front order records []
ComesNext (parts.Captured order numbers) front records = (sixteen : List ℕ) × AreNumbers order sixteen numbers × Begins front order records sixteen

-- the parts of these octets were read, with this text
pub record IsAt (front text : List ℕ) (reader : Reader) : Type 0 where
  pub records : List Record
  pub next : ComesNext reader.next front records
  pub shows : ShowsFrom 1 records [] text reader.ends
  pub counted : length records ≡ reader.records

-- a record was shown, and the numbers of the next come
pub record ShowsOne (order : Order) (one : Record) (old : Reader) (before : List ℕ) (new : Reader) (after : List ℕ) : Type 0 where
  pub next : new.next ≡ parts.Numbers order
  pub counted : new.records ≡ old.records + 1
  pub appends : AppendsRecord (old.records + 1) one old.ends before new.ends after

-- a part was read, whatever was read before
pub record ReadsPart (part : List ℕ) (old : Reader) (before : List ℕ) (new : Reader) (after : List ℕ) : Type 0 where
  pub told : List ℕ
  pub appended : after ≡ before ++ told
  pub goes_on : (front text : List ℕ) → IsAt front text old → IsAt (front ++ part) (text ++ told) new

-- a part is refused, whatever was read before in so many octets
pub record RefusesPart (part : List ℕ) (start : ℕ) (old : Reader) (before after : List ℕ) : Type 0 where
  pub offset : ℕ
  pub cause : Cause
  pub lasting : IsLasting cause
  pub told : List ℕ
  pub appended : after ≡ before ++ told
  pub refused : (front text : List ℕ) → IsAt front text old → length front ≡ start → Refuses (front ++ part) (text ++ told) offset cause

-- these octets were taken, with this text: whole parts, and the octets that are held
pub record IsLed (read text : List ℕ) (now : Decoder) : Type 0 where
  pub front : List ℕ
  pub place : read ≡ front ++ now.held.items
  pub at : IsAt front text now.reader
  pub counted : now.octets ≡ length read

-- some octets of the next part are still to come, and the counts fit: those of the octets within the limit of an input, of
-- which each record has sixteen and more
pub record Fits (now : Decoder) : Type 0 where
  pub held : length now.held.items < wanted now.reader.next
  pub octets : now.octets ≤ 16777216
  pub parts : 16 * now.reader.records + behind now.reader.next + length now.held.items ≤ now.octets

abbrev pub decoding : Progress Decoder
decoding = record {
  ready = Fits;
  octets = λ now. now.octets;
  led = λ first read text now. IsLed read text now × Fits now;
}

-- octets were taken, whatever was taken before
pub record Goes (octets : List ℕ) (old : Decoder) (before : List ℕ) (new : Decoder) (after : List ℕ) : Type 0 where
  pub told : List ℕ
  pub appended : after ≡ before ++ told
  pub goes_on : (read text : List ℕ) → IsLed read text old → IsLed (read ++ octets) (text ++ told) new

-- one of the octets shows a fault, whatever was taken before
pub record Fails (octets : List ℕ) (old : Decoder) (before after : List ℕ) : Type 0 where
  pub offset : ℕ
  pub cause : Cause
  pub lasting : IsLasting cause
  pub told : List ℕ
  pub appended : after ≡ before ++ told
  pub refused : (read text : List ℕ) → IsLed read text old
      → (front : List ℕ) × (more : List ℕ) × (read ++ octets ≡ front ++ more) × Refuses front (text ++ told) offset cause
