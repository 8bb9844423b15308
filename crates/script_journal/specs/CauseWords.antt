-- The words of causes, states and options in a line of a transcript.
use Rattle.std.specs.Prelude.{ℕ, if◌then◌else◌, List, [], ◌∷◌, length, codes}
use Rattle.osi_base.specs.declared.note.HelloCause.{HelloCause}
use Rattle.osi_base.specs.declared.note.HelloCause.TheVariants as hello_causes
use Rattle.osi_base.specs.declared.note.HelloKind.{HelloKind}
use Rattle.osi_base.specs.declared.note.HelloKind.TheVariants as hellos
use Rattle.osi_base.specs.declared.unit.DropCause.{DropCause}
use Rattle.osi_base.specs.declared.unit.DropCause.TheVariants as drops
use Rattle.tpdu.specs.declared.tpdu.Format.{Format}
use Rattle.tpdu.specs.declared.tpdu.Format.TheVariants as formats
use Rattle.tpdu.specs.declared.service.HeldKind.{HeldKind}
use Rattle.tpdu.specs.declared.service.HeldKind.TheVariants as helds
use Rattle.tpdu.specs.declared.service.Options.{Options}
use Rattle.tpdu.specs.declared.service.GoneCause.{GoneCause}
use Rattle.tpdu.specs.declared.service.GoneCause.TheVariants as gone
use Rattle.script_journal.specs.declared.cause.Refused.{Refused}
use Rattle.script_journal.specs.declared.cause.Refused.TheVariants as refused
use Rattle.tpdu.specs.declared.service.State.{State}
use Rattle.tpdu.specs.declared.service.State.TheVariants as states
use Rattle.tpdu.specs.declared.fault.TpduCause.{TpduCause}
use Rattle.tpdu.specs.declared.fault.TpduCause.TheVariants as tpdu_causes
use Rattle.tpdu.specs.declared.kind.Kind.{Kind}
use Rattle.tpdu.specs.declared.kind.Kind.TheVariants as kinds
use Rattle.script_journal.specs.declared.cause.UdCause.{UdCause}
use Rattle.script_journal.specs.declared.cause.UdCause.TheVariants as ud_causes
use Rattle.script_journal.specs.Cells.{Cell, Word, Number, Preferred}

abbrev pub gone_cell : GoneCause → Cell
gone_cell (gone.Reason reason) = Number reason
gone_cell gone.Exhausted = Word (codes "exhausted")
gone_cell gone.Inactive = Word (codes "inactive")
gone_cell gone.Protocol = Word (codes "protocol")
gone_cell gone.AnswerTime = Word (codes "answertime")

abbrev pub state_text : State → List ℕ
state_text states.CrWait = codes "crwait"
state_text states.WaitBeforeClose = codes "waitbeforeclose"
state_text states.UserWait = codes "userwait"
state_text states.AkWait = codes "akwait"
state_text states.Opened = codes "opened"
state_text states.Closing = codes "closing"
state_text states.Frozen = codes "frozen"

abbrev pub format_text : Format → List ℕ
format_text formats.Normal = codes "normal"
format_text formats.Extended = codes "extended"

abbrev pub held_text : HeldKind → List ℕ
held_text helds.Dt = codes "dt"
held_text helds.Ed = codes "ed"

abbrev pub drop_text : DropCause → List ℕ
drop_text drops.TooLong = codes "toolong"
drop_text drops.NoRoute = codes "noroute"
drop_text drops.Full = codes "full"
drop_text drops.IdsSpent = codes "idsspent"

abbrev pub hello_cause_text : HelloCause → List ℕ
hello_cause_text hello_causes.Short = codes "short"
hello_cause_text hello_causes.Length = codes "length"
hello_cause_text hello_causes.Version = codes "version"
hello_cause_text hello_causes.Checksum = codes "checksum"
hello_cause_text hello_causes.Kind = codes "kind"
hello_cause_text hello_causes.Address = codes "address"
hello_cause_text hello_causes.Option = codes "option"

abbrev pub hello_text : HelloKind → List ℕ
hello_text hellos.Esh = codes "esh"
hello_text hellos.Ish = codes "ish"
hello_text hellos.Rd = codes "rd"

abbrev pub tpdu_cause_text : TpduCause → List ℕ
tpdu_cause_text tpdu_causes.Short = codes "short"
tpdu_cause_text tpdu_causes.Length = codes "length"
tpdu_cause_text tpdu_causes.Code = codes "code"
tpdu_cause_text tpdu_causes.Fixed = codes "fixed"
tpdu_cause_text tpdu_causes.Class = codes "class"
tpdu_cause_text tpdu_causes.Param = codes "param"
tpdu_cause_text tpdu_causes.Unknown = codes "unknown"
tpdu_cause_text tpdu_causes.Checksum = codes "checksum"
tpdu_cause_text tpdu_causes.Body = codes "body"

abbrev pub ud_cause_text : UdCause → List ℕ
ud_cause_text ud_causes.Short = codes "short"
ud_cause_text ud_causes.Length = codes "length"
ud_cause_text ud_causes.Code = codes "code"
ud_cause_text ud_causes.Param = codes "param"
ud_cause_text ud_causes.Unknown = codes "unknown"
ud_cause_text ud_causes.Missing = codes "missing"
ud_cause_text ud_causes.Checksum = codes "checksum"

abbrev pub tpdu_text : Kind → List ℕ
tpdu_text kinds.Cr = codes "cr"
tpdu_text kinds.Cc = codes "cc"
tpdu_text kinds.Dr = codes "dr"
tpdu_text kinds.Dc = codes "dc"
tpdu_text kinds.Dt = codes "dt"
tpdu_text kinds.Ed = codes "ed"
tpdu_text kinds.Ak = codes "ak"
tpdu_text kinds.Ea = codes "ea"
tpdu_text kinds.Er = codes "er"

abbrev pub refused_cells : Refused → List Cell
refused_cells refused.NoSuchEnd = Word (codes "nosuchend") ∷ []
refused_cells (refused.WrongState state) = Word (codes "wrongstate") ∷ Word (state_text state) ∷ []
refused_cells refused.Ended = Word (codes "wrongstate") ∷ Word (codes "ended") ∷ []
refused_cells refused.EmptyUnit = Word (codes "emptyunit") ∷ []
refused_cells refused.TooLong = Word (codes "toolong") ∷ []
refused_cells refused.NoExpedited = Word (codes "noexpedited") ∷ []
refused_cells refused.QueueFull = Word (codes "queuefull") ∷ []
refused_cells refused.RefsSpent = Word (codes "refsspent") ∷ []
refused_cells refused.Silent = Word (codes "silent") ∷ []
refused_cells refused.NoRoute = Word (codes "noroute") ∷ []
refused_cells refused.Full = Word (codes "full") ∷ []
refused_cells refused.IdsSpent = Word (codes "idsspent") ∷ []
refused_cells refused.Relayed = Word (codes "relayed") ∷ []

abbrev pub size_cell : Options → Cell
size_cell options = if options.preferred then Preferred options.size else Number options.size

abbrev pub option_cells : Options → List Cell → List Cell
option_cells options cells =
    Word (format_text options.format) ∷ size_cell options
    ∷ Word (if options.expedited then codes "exp" else codes "noexp") ∷ Word (if options.sum then codes "sum" else codes "nosum") ∷ cells
