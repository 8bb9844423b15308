-- The capture of a script: the frames that its lines make.
use Rattle.std.specs.Prelude.{◌≡◌, ℕ, ◌+◌, ◌≤◌, List, [], ◌∷◌, ◌++◌, Option, Some, None, length, drop, take, map, flat_map}
use Rattle.std.specs.List.{AllByRecursion, count_by}
use Rattle.osi_base.specs.declared.status.Status.{Status}
use Rattle.lan_frame.specs.Frame.{whole_frame}
use Rattle.lan_step.specs.Bag.{Bag}
use Rattle.lan_step.specs.Frames.{Frame}
use Rattle.lan_step.specs.Rows.{sender_of}
use Rattle.lan_step.specs.declared.row.PortRow.{PortRow}
use Rattle.capture_write.specs.Written.{IsWritable, SentFrame, capture_of, header_octets, record_of, records_octets}
use Rattle.line_loop.specs.Course.{Runs}
use Rattle.line_loop.specs.Limits.{most_octets, most_read}
use Rattle.line_loop.specs.Meaning.{Meaning}
use Rattle.line_loop.specs.Outcome.{Asks}
use Rattle.octet_loop.specs.ByStatus as by_status
use Rattle.capture_decode.specs.Capture.{IsCapture}
use Rattle.capture_decode.specs.Course.{Finishes}
use Rattle.capture_decode.specs.Show.{Shows, done_line}
use Rattle.script_lines.specs.declared.cause.LineFault.{LineFault}
use Rattle.script_lines.specs.declared.cause.LineCause.TheVariants as causes
use Rattle.script_lines.specs.Grammar.{fault}
use Rattle.script_journal.specs.RawLawful.{clock_after}
use Rattle.script_journal.specs.declared.event.Event.{Event}
use Rattle.script_journal.specs.declared.event.Event.TheVariants as events
use Rattle.script_storm.specs.Counted.{is_frame}
use Rattle.law_run.specs.Bench.{Bench, RunsText, RefusesLine, FillsJournal, bench_meaning, first_bench}
use Rattle.law_run.specs.Transcript.{ShowsSentUnits, ShowsSilence, ShowsWhatWasSubmitted}
use Rattle.law_run.specs.World.{World}
use Rattle.script_world.specs.declared.play.World.TheVariants.{SettingUp, Running}
use Rattle.osi_base.specs.declared.note.Note.TheVariants as notes

-- the LANs of a network that runs
abbrev pub bag_of : World → Option Bag
bag_of (SettingUp setup) = None
bag_of (Running run) = Some run.ends.carrier.link

-- the frames by their numbers, and nothing for one that is late
abbrev pub slots_of : World → List (Option Frame)
slots_of (SettingUp setup) = []
slots_of (Running run) = run.ends.carrier.link.frames

-- a frame as it stands on its LAN, and the tick at which it was sent
abbrev pub sent_of : Option Frame → List SentFrame
sent_of None = []
sent_of (Some frame) = record { tick = frame.tick; octets = whole_frame frame.unit.to.snpa frame.unit.from.snpa frame.unit.octets } ∷ []

abbrev pub sent_in : List (Option Frame) → List SentFrame
sent_in slots = flat_map sent_of slots

-- the frames that were numbered after those of the network before
abbrev pub new_slots : World → World → List (Option Frame)
new_slots old new = drop (length (slots_of old)) (slots_of new)

-- the frames of a line: those that the network after it has, each of them short and early enough for a capture
pub record AreMade (slots : List (Option Frame)) (frames : List SentFrame) : Type 0 where
  pub are : frames ≡ sent_in slots
  pub fit : AllByRecursion IsWritable frames

-- a line is run, and makes these frames
pub record MakesFrames (old : Bench) (octets : List ℕ) (frames : List SentFrame) (new : Bench) : Type 0 where
  pub made : List Event
  pub runs : RunsText old octets made new
  pub frames_are : AreMade (new_slots old.world new.world) frames

-- the journal has no room for all events of a line: these are as many of its frames as were told
pub record FillsWithFrames (old : Bench) (octets : List ℕ) (frames : List SentFrame) (new : Bench) : Type 0 where
  pub made : List Event
  pub fills : FillsJournal old octets made new
  pub frames_are : AreMade (take (count_by is_frame made) (new_slots old.world new.world)) frames

-- the bench, where lines are told by the frames that they make, and nothing closes what is told
abbrev pub frames_meaning : Meaning Bench SentFrame LineFault
frames_meaning = record {
  step = MakesFrames;
  refuses = RefusesLine;
  fills = FillsWithFrames;
  too_long = λ bench. fault causes.Long 40001;
  text = λ bench frames. records_octets frames;
  tells = λ bench frames. Unit {0};
  lines = λ bench. bench.lines;
  done = λ bench. [];
  refused = λ bench line found. [];
  too_much = λ bench. [];
}

-- the capture that octets ask for: the header, and behind it what `Asks` of `line_loop` says for frames. `end` says that the input ends after them
pub record AsksCapture (end : Type 0) (read capture : List ℕ) (status : Status) : Type 0 where
  pub records : List ℕ
  pub asks : Asks frames_meaning end first_bench read records status
  pub capture_is : capture ≡ header_octets ++ records

-- what was written, by the status: the definitions that every command has, for captures
abbrev pub AsksForCapture : List ℕ → List ℕ → Status → Type 0
AsksForCapture = by_status.AsksFor AsksCapture

abbrev pub IsCutCapture : Type 0 → List ℕ → List ℕ → Type 0
IsCutCapture = by_status.IsCut AsksCapture

abbrev pub CaptureOutcome : Type 0 → List ℕ → List ℕ → Status → Type 0
CaptureOutcome = by_status.Outcome AsksCapture

abbrev pub AsksSomeCapture : List ℕ → Type 0
AsksSomeCapture = by_status.AsksSomething AsksCapture

-- of the octets read, what was written is told as the status says; whatever part of them was run, each raw unit that is shown was sent, and
-- each end shows what its partner submitted, unless a frame was injected; a system that began again is silent; and no more was read than an input may have, and one read more
pub record IsFramesRun (end : Type 0) (read written : List ℕ) (status : Status) : Type 0 where
  pub outcome : CaptureOutcome end read written status
  pub sent : ShowsSentUnits read
  pub lawful : ShowsWhatWasSubmitted read
  pub silent : ShowsSilence read
  pub within : length read ≤ most_octets + most_read

-- the ports of the systems on the LANs
abbrev pub ports_of : World → List PortRow
ports_of (SettingUp setup) = setup.ports
ports_of (Running run) = run.ends.carrier.link.rows

-- a frame that a `frame` event tells: the tick at which the event stands, the number, the LAN, the system that sent it, the SNPA that it goes to, and its octets
-- in all
pub record ToldFrame : Type 0 where
  pub tick : ℕ
  pub number : ℕ
  pub lan : ℕ
  pub system : ℕ
  pub snpa : List ℕ
  pub size : ℕ

-- by an event at that tick
abbrev pub told_by : ℕ → Event → List ToldFrame
told_by now (events.Net (notes.Frame number lan system snpa size)) = record { tick = now; number = number; lan = lan; system = system; snpa = snpa; size = size } ∷ []
told_by now event = []

-- the frames that events tell, in order, from a tick on
abbrev pub told_from : ℕ → List Event → List ToldFrame
told_from now [] = []
told_from now (event ∷ journal) = told_by now event ++ told_from (clock_after now event) journal

-- the frame was sent at that tick, from the port of that system on that LAN to that SNPA, and is whole; its PDU stands behind 17 octets
pub record IsTold (ports : List PortRow) (number : ℕ) (told : ToldFrame) (frame : SentFrame) : Type 0 where
  pub number_is : told.number ≡ number
  pub tick : frame.tick ≡ told.tick
  pub from : List ℕ
  pub sender : sender_of ports (record { lan = told.lan; snpa = from }) ≡ Some told.system
  pub pdu : List ℕ
  pub octets : frame.octets ≡ whole_frame told.snpa from pdu
  pub size : told.size ≡ length pdu + 17

-- the frames are those that were told, one for one and in order, numbered on from there
abbrev pub AreTold : List PortRow → ℕ → List ToldFrame → List SentFrame → Type 0
AreTold ports number [] [] = Unit {0}
AreTold ports number [] (frame ∷ frames) = ⊥
AreTold ports number (told ∷ others) [] = ⊥
AreTold ports number (told ∷ others) (frame ∷ frames) = IsTold ports number told frame × AreTold ports (number + 1) others frames

-- the frames are those of the journal, one for each `frame` event, in order; and what is written of them is a capture, whose records they are, and of which
-- `decode` shows them
pub record IsCaptureOf (journal : List Event) (frames : List SentFrame) (last : Bench) : Type 0 where
  pub told : AreTold (ports_of last.world) 1 (told_from 0 journal) frames
  pub capture : IsCapture (capture_of frames) (map record_of frames)
  pub decoded : (lines : List ℕ) → Shows (map record_of frames) lines → Finishes (capture_of frames) (lines ++ done_line)

-- the frames of lines are those of one journal of these lines
pub record IsFramesOf (texts : List (List ℕ)) (frames : List SentFrame) (last : Bench) : Type 0 where
  pub journal : List Event
  pub runs : Runs bench_meaning first_bench texts journal last
  pub is_capture : IsCaptureOf journal frames last
