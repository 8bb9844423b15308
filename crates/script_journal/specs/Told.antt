-- The transcript: each event is a line of cells, and each cell has its text.
use Rattle.std.specs.Prelude.{ℕ, List, [], ◌∷◌, length, map, flat_map, codes}
use Rattle.osi_base.specs.declared.note.Note.{Note}
use Rattle.tpdu.specs.declared.service.EndTold.{EndTold}
use Rattle.script_lines.specs.Tags.{Tags}
use Rattle.script_journal.specs.declared.event.Event.{Event}
use Rattle.script_journal.specs.declared.event.Event.TheVariants as events
use Rattle.script_journal.specs.declared.cause.Settled.{Settled}
use Rattle.script_journal.specs.declared.cause.Settled.TheVariants as settled
use Rattle.tpdu.specs.declared.service.EndTold.TheVariants as tells
use Rattle.osi_base.specs.declared.note.Note.TheVariants as notes
use Rattle.script_journal.specs.Cells.{Cell, Word, Number, System, Lan, Digits, Octets, cell_text, line}
use Rattle.script_journal.specs.CauseWords.{gone_cell, held_text, drop_text, hello_cause_text, hello_text, tpdu_cause_text, ud_cause_text, tpdu_text, refused_cells, option_cells}

-- the line of what an end tells
abbrev pub end_cells : ℕ → EndTold → List Cell
end_cells number (tells.Accept options octets) = Word (codes "accept") ∷ Number number ∷ option_cells options (Octets octets ∷ [])
end_cells number (tells.Confirm options octets) = Word (codes "confirm") ∷ Number number ∷ option_cells options (Octets octets ∷ [])
end_cells number (tells.Got octets) = Word (codes "got") ∷ Number number ∷ Octets octets ∷ []
end_cells number (tells.Urgent octets) = Word (codes "urgent") ∷ Number number ∷ Octets octets ∷ []
end_cells number (tells.Gone cause octets) = Word (codes "gone") ∷ Number number ∷ gone_cell cause ∷ Octets octets ∷ []
end_cells number (tells.Window credit) = Word (codes "window") ∷ Number number ∷ Number credit ∷ []
end_cells number (tells.Held kind held) = Word (codes "held") ∷ Number number ∷ Word (held_text kind) ∷ Number held ∷ []

-- the line of what the network tells of itself
abbrev pub note_cells : Note → List Cell
note_cells (notes.Frame number lan system snpa length) = Word (codes "frame") ∷ Number number ∷ Lan lan ∷ System system ∷ Digits snpa ∷ Number length ∷ []
note_cells (notes.DropFrame system) = Word (codes "drop") ∷ Word (codes "frame") ∷ System system ∷ []
note_cells (notes.Discard system reason place) = Word (codes "discard") ∷ System system ∷ Digits (reason ∷ []) ∷ Number place ∷ []
note_cells (notes.Report system reason place) = Word (codes "report") ∷ System system ∷ Digits (reason ∷ []) ∷ Number place ∷ []
note_cells (notes.Alien system) = Word (codes "alien") ∷ System system ∷ []
note_cells (notes.BadHello system cause) = Word (codes "badhello") ∷ System system ∷ Word (hello_cause_text cause) ∷ []
note_cells (notes.HelloFull system) = Word (codes "hellofull") ∷ System system ∷ []
note_cells (notes.Hello system kind snpa) = Word (codes "hello") ∷ System system ∷ Word (hello_text kind) ∷ Digits snpa ∷ []
note_cells (notes.Redirect system address snpa) = Word (codes "redirect") ∷ System system ∷ Digits address ∷ Digits snpa ∷ []

abbrev pub settled_cells : Settled → List Cell
settled_cells (settled.Settled count) = Word (codes "settled") ∷ Number count ∷ []
settled_cells (settled.Stopped count) = Word (codes "stopped") ∷ Number count ∷ []

-- the line of each event
abbrev pub cells_of : Event → List Cell
cells_of (events.Tick now) = Word (codes "tick") ∷ Number now ∷ []
cells_of (events.Connect asked) =
    Word (codes "connect") ∷ Number asked.end ∷ System asked.system ∷ Number asked.reference
    ∷ Digits asked.calling ∷ Octets asked.calling_selector ∷ Digits asked.called ∷ Octets asked.called_selector ∷ Octets asked.octets ∷ []
cells_of (events.Incoming heard) =
    Word (codes "incoming") ∷ Number heard.end ∷ System heard.system ∷ Number heard.reference
    ∷ Digits heard.calling ∷ Number heard.partner ∷ Octets heard.calling_selector
    ∷ Digits heard.called ∷ Octets heard.called_selector ∷ option_cells heard.options (Octets heard.octets ∷ [])
cells_of (events.End number what) = end_cells number what
cells_of (events.Data end octets) = Word (codes "data") ∷ Number end ∷ Octets octets ∷ []
cells_of (events.Expedite end octets) = Word (codes "expedite") ∷ Number end ∷ Octets octets ∷ []
cells_of (events.Refuse end octets) = Word (codes "refuse") ∷ Number end ∷ Octets octets ∷ []
cells_of (events.Disconnect end octets) = Word (codes "disconnect") ∷ Number end ∷ Octets octets ∷ []
cells_of (events.No cause) = Word (codes "no") ∷ refused_cells cause
cells_of (events.Sent system to octets) = Word (codes "sent") ∷ System system ∷ Digits to ∷ Octets octets ∷ []
cells_of (events.Unit system from octets) = Word (codes "unit") ∷ System system ∷ Digits from ∷ Octets octets ∷ []
cells_of (events.Net note) = note_cells note
cells_of (events.Dropped system cause) = Word (codes "drop") ∷ System system ∷ Word (drop_text cause) ∷ []
cells_of (events.Deliver number system) = Word (codes "deliver") ∷ Number number ∷ System system ∷ []
cells_of (events.NoSuch number system) = Word (codes "nosuch") ∷ Number number ∷ System system ∷ []
cells_of (events.Late number system) = Word (codes "late") ∷ Number number ∷ System system ∷ []
cells_of (events.NotThere number system) = Word (codes "notthere") ∷ Number number ∷ System system ∷ []
cells_of (events.NotOurs number system) = Word (codes "notours") ∷ Number number ∷ System system ∷ []
cells_of (events.Settle answer) = settled_cells answer
cells_of (events.Inject system) = Word (codes "inject") ∷ System system ∷ []
cells_of (events.InjectNotThere system) = Word (codes "inject") ∷ Word (codes "notthere") ∷ System system ∷ []
cells_of (events.BadTpdu system cause place) = Word (codes "badtpdu") ∷ System system ∷ Word (tpdu_cause_text cause) ∷ Number place ∷ []
cells_of (events.Unknown system kind) = Word (codes "unknown") ∷ System system ∷ Word (tpdu_text kind) ∷ []
cells_of (events.Restart system) = Word (codes "restart") ∷ System system ∷ []
cells_of (events.Silent system) = Word (codes "silent") ∷ System system ∷ []
cells_of (events.Send system selector to called octets) = Word (codes "send") ∷ System system ∷ Octets selector ∷ Digits to ∷ Octets called ∷ Octets octets ∷ []
cells_of (events.Datagram system from calling called octets) =
    Word (codes "datagram") ∷ System system ∷ Digits from ∷ Octets calling ∷ Octets called ∷ Octets octets ∷ []
cells_of (events.BadUd system cause place) = Word (codes "badud") ∷ System system ∷ Word (ud_cause_text cause) ∷ Number place ∷ []
cells_of (events.NoUser system) = Word (codes "nouser") ∷ System system ∷ []
cells_of (events.Joined inbound outbound) = Word (codes "joined") ∷ Number inbound ∷ Number outbound ∷ []

abbrev pub texts_of : Tags → Event → List (List ℕ)
texts_of tags event = map (cell_text tags) (cells_of event)

-- the line of an event, and the lines of events
abbrev pub event_text : Tags → Event → List ℕ
event_text tags event = line (texts_of tags event)

abbrev pub journal_text : Tags → List Event → List ℕ
journal_text tags events = flat_map (event_text tags) events
