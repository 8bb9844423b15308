-- The cells of an event tell it: the word in front names a row, and the row makes an event of the cells behind it.
use Rattle.std.proofs.Common.{◌≡◌, ℕ, Bool, true, false, List, [], ◌∷◌, refl, sym, ap, Some, None}
use Rattle.std.specs.Prelude.{if◌then◌else◌, Option, codes}
use Rattle.osi_base.specs.declared.note.HelloCause.{HelloCause}
use Rattle.osi_base.specs.declared.note.HelloCause.TheVariants as hello_causes
use Rattle.osi_base.specs.declared.note.HelloKind.{HelloKind}
use Rattle.osi_base.specs.declared.note.HelloKind.TheVariants as hellos
use Rattle.osi_base.specs.declared.unit.DropCause.{DropCause}
use Rattle.osi_base.specs.declared.unit.DropCause.TheVariants as drops
use Rattle.script_lines.specs.Field.{is_word}
use Rattle.tpdu.specs.declared.service.Options.{Options}
use Rattle.script_journal.specs.declared.event.Event.{Event}
use Rattle.script_journal.specs.declared.event.Event.TheVariants as events
use Rattle.script_journal.specs.declared.event.Indication.{Indication}
use Rattle.tpdu.specs.declared.service.GoneCause.{GoneCause}
use Rattle.tpdu.specs.declared.service.GoneCause.TheVariants as gone
use Rattle.script_journal.specs.declared.cause.Refused.TheVariants as refused
use Rattle.script_journal.specs.declared.cause.Settled.TheVariants as settled
use Rattle.tpdu.specs.declared.service.State.{State}
use Rattle.tpdu.specs.declared.service.State.TheVariants as states
use Rattle.tpdu.specs.declared.fault.TpduCause.{TpduCause}
use Rattle.tpdu.specs.declared.fault.TpduCause.TheVariants as tpdu_causes
use Rattle.tpdu.specs.declared.kind.Kind.{Kind}
use Rattle.tpdu.specs.declared.kind.Kind.TheVariants as tpdus
use Rattle.script_journal.specs.declared.cause.UdCause.{UdCause}
use Rattle.script_journal.specs.declared.cause.UdCause.TheVariants as ud_causes
use Rattle.script_journal.specs.Told.{cells_of}
use Rattle.script_journal.specs.CauseWords.{option_cells, size_cell, format_text}
use Rattle.script_journal.specs.Cells.{Cell, Word, Number, Preferred, System, Lan, Digits, Octets}
use Rattle.tpdu.specs.declared.service.EndTold.TheVariants as tells
use Rattle.tpdu.specs.declared.service.HeldKind.{HeldKind}
use Rattle.tpdu.specs.declared.service.HeldKind.TheVariants as helds
use Rattle.tpdu.specs.declared.tpdu.Format.{Format}
use Rattle.tpdu.specs.declared.tpdu.Format.TheVariants as formats
use Rattle.osi_base.specs.declared.note.Note.TheVariants as notes

-- the words of causes and kinds
state_of : List ℕ → State
state_of text =
    if is_word (codes "crwait") text then states.CrWait
    else if is_word (codes "waitbeforeclose") text then states.WaitBeforeClose
    else if is_word (codes "userwait") text then states.UserWait
    else if is_word (codes "akwait") text then states.AkWait
    else if is_word (codes "opened") text then states.Opened
    else if is_word (codes "closing") text then states.Closing
    else states.Frozen

drop_cause_of : List ℕ → DropCause
drop_cause_of text =
    if is_word (codes "toolong") text then drops.TooLong
    else if is_word (codes "noroute") text then drops.NoRoute
    else if is_word (codes "full") text then drops.Full
    else drops.IdsSpent

hello_cause_of : List ℕ → HelloCause
hello_cause_of text =
    if is_word (codes "short") text then hello_causes.Short
    else if is_word (codes "length") text then hello_causes.Length
    else if is_word (codes "version") text then hello_causes.Version
    else if is_word (codes "checksum") text then hello_causes.Checksum
    else if is_word (codes "kind") text then hello_causes.Kind
    else if is_word (codes "address") text then hello_causes.Address
    else hello_causes.Option

hello_of : List ℕ → HelloKind
hello_of text =
    if is_word (codes "esh") text then hellos.Esh
    else if is_word (codes "ish") text then hellos.Ish
    else hellos.Rd

tpdu_cause_of : List ℕ → TpduCause
tpdu_cause_of text =
    if is_word (codes "short") text then tpdu_causes.Short
    else if is_word (codes "length") text then tpdu_causes.Length
    else if is_word (codes "code") text then tpdu_causes.Code
    else if is_word (codes "fixed") text then tpdu_causes.Fixed
    else if is_word (codes "class") text then tpdu_causes.Class
    else if is_word (codes "param") text then tpdu_causes.Param
    else if is_word (codes "unknown") text then tpdu_causes.Unknown
    else if is_word (codes "checksum") text then tpdu_causes.Checksum
    else tpdu_causes.Body

ud_cause_of : List ℕ → UdCause
ud_cause_of text =
    if is_word (codes "short") text then ud_causes.Short
    else if is_word (codes "length") text then ud_causes.Length
    else if is_word (codes "code") text then ud_causes.Code
    else if is_word (codes "param") text then ud_causes.Param
    else if is_word (codes "unknown") text then ud_causes.Unknown
    else if is_word (codes "missing") text then ud_causes.Missing
    else ud_causes.Checksum

tpdu_of : List ℕ → Kind
tpdu_of text =
    if is_word (codes "cr") text then tpdus.Cr
    else if is_word (codes "cc") text then tpdus.Cc
    else if is_word (codes "dr") text then tpdus.Dr
    else if is_word (codes "dc") text then tpdus.Dc
    else if is_word (codes "dt") text then tpdus.Dt
    else if is_word (codes "ed") text then tpdus.Ed
    else if is_word (codes "ak") text then tpdus.Ak
    else if is_word (codes "ea") text then tpdus.Ea
    else tpdus.Er

-- the event of cells, by the word in front
gone_of : Cell → Option GoneCause
gone_of (Number reason) = Some (gone.Reason reason)
gone_of (Word text) =
    if is_word (codes "exhausted") text then Some gone.Exhausted
    else if is_word (codes "inactive") text then Some gone.Inactive
    else if is_word (codes "protocol") text then Some gone.Protocol
    else Some gone.AnswerTime
gone_of cell = None

told_gone : ℕ → List ℕ → Option GoneCause → Option Event
told_gone end octets (Some cause) = Some (events.End end (tells.Gone cause octets))
told_gone end octets None = None

refused_of : List Cell → Option Event
refused_of (Word cause ∷ []) =
    if is_word (codes "nosuchend") cause then Some (events.No refused.NoSuchEnd)
    else if is_word (codes "emptyunit") cause then Some (events.No refused.EmptyUnit)
    else if is_word (codes "toolong") cause then Some (events.No refused.TooLong)
    else if is_word (codes "noexpedited") cause then Some (events.No refused.NoExpedited)
    else if is_word (codes "queuefull") cause then Some (events.No refused.QueueFull)
    else if is_word (codes "refsspent") cause then Some (events.No refused.RefsSpent)
    else if is_word (codes "silent") cause then Some (events.No refused.Silent)
    else if is_word (codes "noroute") cause then Some (events.No refused.NoRoute)
    else if is_word (codes "full") cause then Some (events.No refused.Full)
    else if is_word (codes "idsspent") cause then Some (events.No refused.IdsSpent)
    else Some (events.No refused.Relayed)
refused_of (Word cause ∷ Word state ∷ []) = if is_word (codes "ended") state then Some (events.No refused.Ended) else Some (events.No (refused.WrongState (state_of state)))
refused_of cells = None

-- cells by their kinds, each kind with the event that it makes
number_of : (ℕ → Event) → List Cell → Option Event
number_of make (Number n ∷ []) = Some (make n)
number_of make cells = None

system_of : (ℕ → Event) → List Cell → Option Event
system_of make (System s ∷ []) = Some (make s)
system_of make cells = None

answer_of : (ℕ → ℕ → Event) → List Cell → Option Event
answer_of make (Number n ∷ System s ∷ []) = Some (make n s)
answer_of make cells = None

octets_of : (ℕ → List ℕ → Event) → List Cell → Option Event
octets_of make (Number n ∷ Octets o ∷ []) = Some (make n o)
octets_of make cells = None

raw_of : (ℕ → List ℕ → List ℕ → Event) → List Cell → Option Event
raw_of make (System s ∷ Digits a ∷ Octets o ∷ []) = Some (make s a o)
raw_of make cells = None

format_of : List ℕ → Format
format_of text = if is_word (codes "extended") text then formats.Extended else formats.Normal

held_kind_of : List ℕ → HeldKind
held_kind_of text = if is_word (codes "ed") text then helds.Ed else helds.Dt

options_of : List ℕ → Bool → ℕ → List ℕ → List ℕ → Options
options_of format preferred size expedited sum =
    record { format = format_of format; size = size; preferred = preferred; expedited = is_word (codes "exp") expedited; sum = is_word (codes "sum") sum }

-- the cells of a line with options, by the cell of the size
abbrev sized_cells : Options → Cell → List Cell → List Cell
sized_cells options size cells =
    Word (format_text options.format) ∷ size
    ∷ Word (if options.expedited then codes "exp" else codes "noexp") ∷ Word (if options.sum then codes "sum" else codes "nosum") ∷ cells

abbrev indication_cells : Indication → Cell → List Cell
indication_cells heard size =
    Number heard.end ∷ System heard.system ∷ Number heard.reference ∷ Digits heard.calling ∷ Number heard.partner ∷ Octets heard.calling_selector
    ∷ Digits heard.called ∷ Octets heard.called_selector ∷ sized_cells heard.options size (Octets heard.octets ∷ [])

agreed_of : (ℕ → Options → List ℕ → Event) → List Cell → Option Event
agreed_of make (Number n ∷ Word format ∷ Number size ∷ Word expedited ∷ Word sum ∷ Octets o ∷ []) = Some (make n (options_of format false size expedited sum) o)
agreed_of make (Number n ∷ Word format ∷ Preferred size ∷ Word expedited ∷ Word sum ∷ Octets o ∷ []) = Some (make n (options_of format true size expedited sum) o)
agreed_of make cells = None

connect_of : List Cell → Option Event
connect_of (Number n ∷ System s ∷ Number r ∷ Digits a ∷ Octets b ∷ Digits c ∷ Octets d ∷ Octets o ∷ []) = Some (events.Connect (record { end = n; system = s; reference = r; calling = a; calling_selector = b; called = c; called_selector = d; octets = o }))
connect_of cells = None

abbrev indicated : ℕ → ℕ → ℕ → List ℕ → ℕ → List ℕ → List ℕ → List ℕ → Options → List ℕ → Option Event
indicated n s r a p b c d options o =
    Some (events.Incoming (record { end = n; system = s; reference = r; calling = a; partner = p; calling_selector = b; called = c; called_selector = d; options = options; octets = o }))

incoming_of : List Cell → Option Event
incoming_of (Number n ∷ System s ∷ Number r ∷ Digits a ∷ Number p ∷ Octets b ∷ Digits c ∷ Octets d ∷ Word format ∷ Number size ∷ Word expedited ∷ Word sum ∷ Octets o ∷ []) = indicated n s r a p b c d (options_of format false size expedited sum) o
incoming_of (Number n ∷ System s ∷ Number r ∷ Digits a ∷ Number p ∷ Octets b ∷ Digits c ∷ Octets d ∷ Word format ∷ Preferred size ∷ Word expedited ∷ Word sum ∷ Octets o ∷ []) = indicated n s r a p b c d (options_of format true size expedited sum) o
incoming_of cells = None

gone_line_of : List Cell → Option Event
gone_line_of (Number n ∷ cause ∷ Octets o ∷ []) = told_gone n o (gone_of cause)
gone_line_of cells = None

held_of : List Cell → Option Event
held_of (Number n ∷ Word kind ∷ Number m ∷ []) = Some (events.End n (tells.Held (held_kind_of kind) m))
held_of cells = None

frame_of : List Cell → Option Event
frame_of (Number n ∷ Lan l ∷ System s ∷ Digits a ∷ Number m ∷ []) = Some (events.Net (notes.Frame n l s a m))
frame_of cells = None

drop_of : List Cell → Option Event
drop_of (Word text ∷ System s ∷ []) = Some (events.Net (notes.DropFrame s))
drop_of (System s ∷ Word cause ∷ []) = Some (events.Dropped s (drop_cause_of cause))
drop_of cells = None

inject_of : List Cell → Option Event
inject_of (System s ∷ []) = Some (events.Inject s)
inject_of (Word text ∷ System s ∷ []) = Some (events.InjectNotThere s)
inject_of cells = None

discard_of : (ℕ → ℕ → ℕ → Event) → List Cell → Option Event
discard_of make (System s ∷ Digits (reason ∷ []) ∷ Number place ∷ []) = Some (make s reason place)
discard_of make cells = None

numbers_of : (ℕ → ℕ → Event) → List Cell → Option Event
numbers_of make (Number n ∷ Number m ∷ []) = Some (make n m)
numbers_of make cells = None

told_of : (ℕ → List ℕ → Event) → List Cell → Option Event
told_of make (System s ∷ Word told ∷ []) = Some (make s told)
told_of make cells = None

hello_line_of : List Cell → Option Event
hello_line_of (System s ∷ Word kind ∷ Digits a ∷ []) = Some (events.Net (notes.Hello s (hello_of kind) a))
hello_line_of cells = None

redirect_of : List Cell → Option Event
redirect_of (System s ∷ Digits a ∷ Digits b ∷ []) = Some (events.Net (notes.Redirect s a b))
redirect_of cells = None

badtpdu_of : List Cell → Option Event
badtpdu_of (System s ∷ Word cause ∷ Number place ∷ []) = Some (events.BadTpdu s (tpdu_cause_of cause) place)
badtpdu_of cells = None

send_of : List Cell → Option Event
send_of (System s ∷ Octets a ∷ Digits b ∷ Octets c ∷ Octets o ∷ []) = Some (events.Send s a b c o)
send_of cells = None

datagram_of : List Cell → Option Event
datagram_of (System s ∷ Digits a ∷ Octets b ∷ Octets c ∷ Octets o ∷ []) = Some (events.Datagram s a b c o)
datagram_of cells = None

badud_of : List Cell → Option Event
badud_of (System s ∷ Word cause ∷ Number place ∷ []) = Some (events.BadUd s (ud_cause_of cause) place)
badud_of cells = None

-- the rows of the transcript: a word and what the cells behind it make
abbrev Row : Type 0
Row = List ℕ × (List Cell → Option Event)

rows : List Row
rows =
    (codes "tick", number_of events.Tick)
    ∷ (codes "connect", connect_of)
    ∷ (codes "incoming", incoming_of)
    ∷ (codes "accept", agreed_of (λ n o t. events.End n (tells.Accept o t)))
    ∷ (codes "confirm", agreed_of (λ n o t. events.End n (tells.Confirm o t)))
    ∷ (codes "data", octets_of events.Data)
    ∷ (codes "got", octets_of (λ n o. events.End n (tells.Got o)))
    ∷ (codes "expedite", octets_of events.Expedite)
    ∷ (codes "urgent", octets_of (λ n o. events.End n (tells.Urgent o)))
    ∷ (codes "refuse", octets_of events.Refuse)
    ∷ (codes "disconnect", octets_of events.Disconnect)
    ∷ (codes "gone", gone_line_of)
    ∷ (codes "window", numbers_of (λ n c. events.End n (tells.Window c)))
    ∷ (codes "held", held_of)
    ∷ (codes "no", refused_of)
    ∷ (codes "sent", raw_of events.Sent)
    ∷ (codes "unit", raw_of events.Unit)
    ∷ (codes "frame", frame_of)
    ∷ (codes "drop", drop_of)
    ∷ (codes "deliver", answer_of events.Deliver)
    ∷ (codes "nosuch", answer_of events.NoSuch)
    ∷ (codes "late", answer_of events.Late)
    ∷ (codes "notthere", answer_of events.NotThere)
    ∷ (codes "notours", answer_of events.NotOurs)
    ∷ (codes "settled", number_of (λ n. events.Settle (settled.Settled n)))
    ∷ (codes "stopped", number_of (λ n. events.Settle (settled.Stopped n)))
    ∷ (codes "inject", inject_of)
    ∷ (codes "discard", discard_of (λ s r p. events.Net (notes.Discard s r p)))
    ∷ (codes "report", discard_of (λ s r p. events.Net (notes.Report s r p)))
    ∷ (codes "alien", system_of (λ s. events.Net (notes.Alien s)))
    ∷ (codes "badhello", told_of (λ s cause. events.Net (notes.BadHello s (hello_cause_of cause))))
    ∷ (codes "hellofull", system_of (λ s. events.Net (notes.HelloFull s)))
    ∷ (codes "hello", hello_line_of)
    ∷ (codes "redirect", redirect_of)
    ∷ (codes "badtpdu", badtpdu_of)
    ∷ (codes "unknown", told_of (λ s kind. events.Unknown s (tpdu_of kind)))
    ∷ (codes "restart", system_of events.Restart)
    ∷ (codes "silent", system_of events.Silent)
    ∷ (codes "send", send_of)
    ∷ (codes "datagram", datagram_of)
    ∷ (codes "badud", badud_of)
    ∷ (codes "nouser", system_of events.NoUser)
    ∷ (codes "joined", numbers_of events.Joined)
    ∷ []

by_row : List Row → List ℕ → List Cell → Option Event
by_row [] word cells = None
by_row (row ∷ more) word cells = if is_word row.0 word then row.1 cells else by_row more word cells

pub event_of : List Cell → Option Event
event_of (Word word ∷ cells) = by_row rows word cells
event_of cells = None

-- no cells make no event
pub nothing_made : (event : Event) → event_of [] ≡ Some event → ⊥
unfolding event_of
nothing_made event is = absurd (cc)

format_back : (format : Format) → format_of (format_text format) ≡ format
unfolding format_of
format_back formats.Normal = refl
format_back formats.Extended = refl

expedited_back : (b : Bool) → is_word (codes "exp") (if b then codes "exp" else codes "noexp") ≡ b
expedited_back true = refl
expedited_back false = refl

sum_back : (b : Bool) → is_word (codes "sum") (if b then codes "sum" else codes "nosum") ≡ b
sum_back true = refl
sum_back false = refl

options_back : (o : Options) (preferred : Bool) → o.preferred ≡ preferred
    → options_of (format_text o.format) preferred o.size (if o.expedited then codes "exp" else codes "noexp") (if o.sum then codes "sum" else codes "nosum") ≡ o
unfolding options_of
options_back o preferred is =
    λ i. record { format = format_back o.format i; size = o.size; preferred = sym is i; expedited = expedited_back o.expedited i; sum = sum_back o.sum i }

-- the two forms of a size
agreed_back : (make : ℕ → Options → List ℕ → Event) (end : ℕ) (o : Options) (octets : List ℕ) → agreed_of make (Number end ∷ option_cells o (Octets octets ∷ [])) ≡ Some (make end o octets)
unfolding agreed_of
agreed_back make end o octets = by o.preferred refl
  where
    by : (preferred : Bool) → o.preferred ≡ preferred → agreed_of make (Number end ∷ sized_cells o (if preferred then Preferred o.size else Number o.size) (Octets octets ∷ [])) ≡ Some (make end o octets)
    by true is = ap (λ (p : Options). Some (make end p octets)) (options_back o true is)
    by false is = ap (λ (p : Options). Some (make end p octets)) (options_back o false is)

indicated_back : (heard : Indication) → incoming_of (indication_cells heard (size_cell heard.options)) ≡ Some (events.Incoming heard)
unfolding incoming_of
indicated_back heard = by heard.options.preferred refl
  where
    by : (preferred : Bool) → heard.options.preferred ≡ preferred
        → incoming_of (indication_cells heard (if preferred then Preferred heard.options.size else Number heard.options.size)) ≡ Some (events.Incoming heard)
    by true is = ap (λ (p : Options). Some (events.Incoming (record heard { options = p }))) (options_back heard.options true is)
    by false is = ap (λ (p : Options). Some (events.Incoming (record heard { options = p }))) (options_back heard.options false is)

-- the cells of an event make it
pub told_back : (event : Event) → event_of (cells_of event) ≡ Some event
unfolding event_of by_row rows number_of system_of answer_of octets_of raw_of agreed_of options_of format_of held_kind_of connect_of incoming_of gone_line_of gone_of told_gone numbers_of held_of refused_of
    state_of frame_of drop_of drop_cause_of inject_of discard_of told_of hello_cause_of hello_line_of hello_of redirect_of badtpdu_of tpdu_cause_of tpdu_of
    send_of datagram_of badud_of ud_cause_of
told_back (events.Tick now) = refl
told_back (events.Connect asked) = refl
told_back (events.Incoming heard) = indicated_back heard
told_back (events.End end (tells.Accept options octets)) = agreed_back (λ n o t. events.End n (tells.Accept o t)) end options octets
told_back (events.End end (tells.Confirm options octets)) = agreed_back (λ n o t. events.End n (tells.Confirm o t)) end options octets
told_back (events.Data end octets) = refl
told_back (events.End end (tells.Got octets)) = refl
told_back (events.Expedite end octets) = refl
told_back (events.End end (tells.Urgent octets)) = refl
told_back (events.Refuse end octets) = refl
told_back (events.Disconnect end octets) = refl
told_back (events.End end (tells.Gone (gone.Reason reason) octets)) = refl
told_back (events.End end (tells.Gone gone.Exhausted octets)) = refl
told_back (events.End end (tells.Gone gone.Inactive octets)) = refl
told_back (events.End end (tells.Gone gone.Protocol octets)) = refl
told_back (events.End end (tells.Gone gone.AnswerTime octets)) = refl
told_back (events.End end (tells.Window credit)) = refl
told_back (events.End end (tells.Held helds.Ed number)) = refl
told_back (events.End end (tells.Held helds.Dt number)) = refl
told_back (events.No refused.NoSuchEnd) = refl
told_back (events.No refused.EmptyUnit) = refl
told_back (events.No refused.TooLong) = refl
told_back (events.No refused.NoExpedited) = refl
told_back (events.No refused.QueueFull) = refl
told_back (events.No refused.RefsSpent) = refl
told_back (events.No refused.Silent) = refl
told_back (events.No refused.NoRoute) = refl
told_back (events.No refused.Full) = refl
told_back (events.No refused.IdsSpent) = refl
told_back (events.No refused.Relayed) = refl
told_back (events.No (refused.WrongState states.CrWait)) = refl
told_back (events.No (refused.WrongState states.WaitBeforeClose)) = refl
told_back (events.No (refused.WrongState states.UserWait)) = refl
told_back (events.No (refused.WrongState states.AkWait)) = refl
told_back (events.No (refused.WrongState states.Opened)) = refl
told_back (events.No (refused.WrongState states.Closing)) = refl
told_back (events.No (refused.WrongState states.Frozen)) = refl
told_back (events.No refused.Ended) = refl
told_back (events.Sent system to octets) = refl
told_back (events.Unit system from octets) = refl
told_back (events.Net (notes.Frame number lan system snpa length)) = refl
told_back (events.Net (notes.DropFrame system)) = refl
told_back (events.Dropped system drops.TooLong) = refl
told_back (events.Dropped system drops.NoRoute) = refl
told_back (events.Dropped system drops.Full) = refl
told_back (events.Dropped system drops.IdsSpent) = refl
told_back (events.Deliver number system) = refl
told_back (events.NoSuch number system) = refl
told_back (events.Late number system) = refl
told_back (events.NotThere number system) = refl
told_back (events.NotOurs number system) = refl
told_back (events.Settle (settled.Settled count)) = refl
told_back (events.Settle (settled.Stopped count)) = refl
told_back (events.Inject system) = refl
told_back (events.InjectNotThere system) = refl
told_back (events.Net (notes.Discard system reason place)) = refl
told_back (events.Net (notes.Report system reason place)) = refl
told_back (events.Net (notes.Alien system)) = refl
told_back (events.Net (notes.BadHello system hello_causes.Short)) = refl
told_back (events.Net (notes.BadHello system hello_causes.Length)) = refl
told_back (events.Net (notes.BadHello system hello_causes.Version)) = refl
told_back (events.Net (notes.BadHello system hello_causes.Checksum)) = refl
told_back (events.Net (notes.BadHello system hello_causes.Kind)) = refl
told_back (events.Net (notes.BadHello system hello_causes.Address)) = refl
told_back (events.Net (notes.BadHello system hello_causes.Option)) = refl
told_back (events.Net (notes.HelloFull system)) = refl
told_back (events.Net (notes.Hello system hellos.Esh snpa)) = refl
told_back (events.Net (notes.Hello system hellos.Ish snpa)) = refl
told_back (events.Net (notes.Hello system hellos.Rd snpa)) = refl
told_back (events.Net (notes.Redirect system address snpa)) = refl
told_back (events.BadTpdu system tpdu_causes.Short place) = refl
told_back (events.BadTpdu system tpdu_causes.Length place) = refl
told_back (events.BadTpdu system tpdu_causes.Code place) = refl
told_back (events.BadTpdu system tpdu_causes.Fixed place) = refl
told_back (events.BadTpdu system tpdu_causes.Class place) = refl
told_back (events.BadTpdu system tpdu_causes.Param place) = refl
told_back (events.BadTpdu system tpdu_causes.Unknown place) = refl
told_back (events.BadTpdu system tpdu_causes.Checksum place) = refl
told_back (events.BadTpdu system tpdu_causes.Body place) = refl
told_back (events.Unknown system tpdus.Cr) = refl
told_back (events.Unknown system tpdus.Cc) = refl
told_back (events.Unknown system tpdus.Dr) = refl
told_back (events.Unknown system tpdus.Dc) = refl
told_back (events.Unknown system tpdus.Dt) = refl
told_back (events.Unknown system tpdus.Ed) = refl
told_back (events.Unknown system tpdus.Ak) = refl
told_back (events.Unknown system tpdus.Ea) = refl
told_back (events.Unknown system tpdus.Er) = refl
told_back (events.Restart system) = refl
told_back (events.Silent system) = refl
told_back (events.Send system selector to called octets) = refl
told_back (events.Datagram system from calling called octets) = refl
told_back (events.BadUd system ud_causes.Short place) = refl
told_back (events.BadUd system ud_causes.Length place) = refl
told_back (events.BadUd system ud_causes.Code place) = refl
told_back (events.BadUd system ud_causes.Param place) = refl
told_back (events.BadUd system ud_causes.Unknown place) = refl
told_back (events.BadUd system ud_causes.Missing place) = refl
told_back (events.BadUd system ud_causes.Checksum place) = refl
told_back (events.NoUser system) = refl
told_back (events.Joined inbound outbound) = refl
