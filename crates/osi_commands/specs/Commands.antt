-- The commands of the program: the words that ask for each, what it writes of what it reads, and what it is asked for. The networks of those
-- that read a script beside `run` stand in Kinds.antt.
use Rattle.std.specs.Prelude.{◌≡◌, ◌⊎◌, ℕ, ◌+◌, ◌≤◌, List, [], ◌∷◌, Option, Some, length, codes}
use Rattle.law_run.specs.Bench.{bench_meaning, first_bench}
use Rattle.law_run.specs.Transcript.{IsTranscript}
use Rattle.line_loop.specs.Limits.{most_octets, most_read}
use Rattle.line_loop.specs.Outcome.{AsksFor, IsAccepted}
use Rattle.octet_loop.specs.ByStatus.{IsFailure}
use Rattle.octet_loop.specs.Outcome.{AsksFor as CaptureAsksFor, Outcome}
use Rattle.osi_base.specs.Ends.{HasRisen, IsAtEnd, Put, Took}
use Rattle.osi_base.specs.declared.status.Status.{Status}
use Rattle.osi_base.specs.declared.status.Status.TheVariants.{Done, NoMemory}
use Rattle.capture_decode.specs.Course.{capture_course, Finishes, IsAccepted as IsCaptureAccepted}
use Rattle.script_storm.specs.declared.request.Storm.{Storm}
use Rattle.script_storm.specs.Request.{Asks as AsksStorm}
use Rattle.script_frames.specs.Frames.{AsksForCapture, IsFramesRun, frames_meaning}
use Rattle.osi_kinds.specs.Kinds.{AsksOf, IsAcceptedBy, IsToldBy, name_of}
use Rattle.osi_storm.specs.Storm.{AsksSummary, IsStormRun}
use Rattle.osi_commands.specs.declared.command.Command.{Command}
use Rattle.osi_commands.specs.declared.command.Command.TheVariants as commands

-- ---- the words

-- the words are `storm`, a seed and a count
pub record IsStorm (words : List (List ℕ)) (storm : Storm) : Type 0 where
  pub seed : List ℕ
  pub count : List ℕ
  pub words_are : words ≡ codes "storm" ∷ seed ∷ count ∷ []
  pub asks : AsksStorm seed count storm

-- the words ask for the command
abbrev pub IsCalled : List (List ℕ) → Command → Type 0
IsCalled words commands.Run = words ≡ codes "run" ∷ []
IsCalled words commands.Frames = words ≡ codes "frames" ∷ []
IsCalled words commands.Decode = words ≡ codes "decode" ∷ []
IsCalled words (commands.Storm storm) = IsStorm words storm
IsCalled words (commands.Script kind) = words ≡ name_of kind ∷ []

-- ---- what is read

-- the octets, the next of the source, were read; of a generated script nothing is
abbrev pub Reads : Command → Option (List ℕ) → List ℕ → Option (List ℕ) → Type 0
Reads (commands.Storm storm) left read left_now = (read ≡ []) × (left_now ≡ left)
Reads command left read left_now = Took left read left_now

-- all octets of the source; a generated script needs none
abbrev pub IsInput : Command → Option (List ℕ) → List ℕ → Type 0
IsInput (commands.Storm storm) left all = Unit {0}
IsInput command left all = left ≡ Some all

-- the count of faults of the source does not rise and does not stand at its last value; of a generated script nothing is read
abbrev pub ReadsWell : Command → ℕ → ℕ → Type 0
ReadsWell (commands.Storm storm) faults faults_now = Unit {0}
ReadsWell command faults faults_now = ¬ HasRisen faults faults_now

-- ---- what is written

-- of the octets read: the transcript; the capture of the frames that the lines make; the lines of the records of a capture; the summary of a generated
-- script; each as the status says
abbrev pub Tells : Command → Type 0 → List ℕ → List ℕ → Status → Type 0
Tells commands.Run end read written status = IsTranscript end read written status
Tells commands.Frames end read written status = IsFramesRun end read written status
Tells commands.Decode end read written status = Outcome capture_course end read written status × (length read ≤ most_octets + most_read)
Tells (commands.Storm storm) end read written status = IsStormRun storm written status
Tells (commands.Script kind) end read written status = IsToldBy kind end read written status

-- what all octets ask for
abbrev pub Asks : Command → List ℕ → List ℕ → Status → Type 0
Asks commands.Run all text status = AsksFor bench_meaning first_bench all text status
Asks commands.Frames all text status = AsksForCapture all text status
Asks commands.Decode all text status = CaptureAsksFor capture_course all text status
Asks (commands.Storm storm) all text status = AsksSummary storm text status
Asks (commands.Script kind) all text status = AsksOf kind all text status

-- no line is refused and no limit passed; a capture has no fault
abbrev pub Accepts : Command → List ℕ → Type 0
Accepts commands.Run all = IsAccepted bench_meaning first_bench all
Accepts commands.Frames all = IsAccepted frames_meaning first_bench all
Accepts commands.Decode all = IsCaptureAccepted all
Accepts (commands.Storm storm) all = Unit {0}
Accepts (commands.Script kind) all = IsAcceptedBy kind all

-- what comes of such octets: the call is Done, and the text is that; a generated script may also fill the journal
abbrev pub Completes : Command → List ℕ → List ℕ → Status → Type 0
Completes commands.Run all text status = (status ≡ Done) × AsksFor bench_meaning first_bench all text Done
Completes commands.Frames all text status = (status ≡ Done) × AsksForCapture all text Done
Completes commands.Decode all text status = (status ≡ Done) × Finishes all text
Completes (commands.Storm storm) all text status = AsksSummary storm text status
Completes (commands.Script kind) all text status = (status ≡ Done) × AsksOf kind all text Done

-- ---- what a command does, by what is left of the source and what the sink holds, each before and now, and by the status

-- octets were read and octets were written, and these are told of those as the status says
abbrev pub Moves : Command → (left left_now held held_now : Option (List ℕ)) → Status → Type 0
Moves command left left_now held held_now status =
    (read : List ℕ) × (written : List ℕ) × Reads command left read left_now × Put held written held_now × Tells command (IsAtEnd left_now) read written status

-- what all octets of the source ask for comes, or a failure in its place
abbrev pub Gives : Command → (left held held_now : Option (List ℕ)) → Status → Type 0
Gives command left held held_now status = (all text : List ℕ) (asked : Status) → IsInput command left all → Asks command all text asked
    → ((status ≡ asked) × Put held text held_now) ⊎ IsFailure status

-- and by the counts of faults of both, before and now
pub record Does (command : Command) (left left_now held held_now : Option (List ℕ)) (reads reads_now writes writes_now : ℕ) (status : Status) : Type 0 where
  pub told : Moves command left left_now held held_now status
  pub exact : Gives command left held held_now status
  -- octets of which nothing is refused and no limit passed are Done, unless memory runs out, where neither count of faults rises or stands at its last value
  pub complete : (all : List ℕ) → IsInput command left all → Accepts command all → ReadsWell command reads reads_now → ¬ HasRisen writes writes_now
      → ((text : List ℕ) × Completes command all text status × Put held text held_now) ⊎ (status ≡ NoMemory)
