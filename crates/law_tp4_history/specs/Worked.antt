-- A history worked by hand: an end connects, and sends a unit of three octets in two pieces, of which the second comes first and comes again (X.224,
-- class 4 procedures).
use Rattle.std.specs.Prelude.{ℕ, true, false, List, [], ◌∷◌, Some, None}
use Rattle.script_journal.specs.declared.event.Event.{Event}
use Rattle.script_journal.specs.declared.event.Event.TheVariants as events
use Rattle.script_journal.specs.declared.event.Indication.{Indication}
use Rattle.script_journal.specs.declared.event.Request.{Request}
use Rattle.tpdu.specs.declared.service.Options.{Options}
use Rattle.tp4_number.specs.declared.piece.Piece.{Piece}
use Rattle.tp4_number.specs.Traffic.{Open, Send, Dt_comes, Acknowledge}
use Rattle.script_journal.specs.Lawful.{Normal}
use Rattle.law_tp4_history.specs.Ends.{Times, Kind, Cr, Cc, Flow, Words, Terms, Body, Plain, Dt, Ak, Sent, Offer, CrWait, UserWait, AkWait, Opened, End}
use Rattle.law_tp4_history.specs.History.{nothing, Tick, Connect, Indicate, Take, Act}
use Rattle.law_tp4_history.specs.Line.{Happening, Submit, Flows, next as next_line, empty}
use Rattle.law_tp4_history.specs.Tracks.{Track, Whole, Nothing, Start, Go, Moment, onward}
use Rattle.law_tp4_history.specs.Journals.{Written}
use Rattle.tpdu.specs.declared.service.EndTold.TheVariants as tells

-- a lifetime of 4 ticks, and so on
abbrev pub times : Times
times = record { life = 4; idle = 20; span = 12; most = 8 }

-- the two systems, and an address of each
abbrev pub titles : List (List ℕ)
titles = (73 ∷ 1 ∷ 0 ∷ []) ∷ (73 ∷ 2 ∷ 0 ∷ []) ∷ []

abbrev pub here : List ℕ
here = 73 ∷ 1 ∷ 1 ∷ []

abbrev pub there : List ℕ
there = 73 ∷ 2 ∷ 1 ∷ []

-- what is asked for, and agreed on
abbrev pub words : Words
words = record { calling = 5 ∷ []; called = 6 ∷ []; octets = [] }

abbrev pub terms : Terms
terms = record { is_extended = false; has_expedited = true; is_summed = false; size = 2 }

-- the calling end, with the reference 1, and the called end, with the reference 7
abbrev pub calling : End
calling =
    record {
      birth = record { address = here; reference = 1; is_called = false; caller = 0; partner = there; words = words; made = 0; event = 0 };
      phase = CrWait;
      took = 0;
      latest = 12;
      is_parted = false;
      known = 0;
      agreed = None;
      stop = None;
      is_out = false;
    }

abbrev pub called : End
called =
    record {
      birth = record { address = there; reference = 7; is_called = true; caller = 0; partner = here; words = words; made = 1; event = 2 };
      phase = UserWait;
      took = 1;
      latest = 33;
      is_parted = false;
      known = 1;
      agreed = None;
      stop = None;
      is_out = false;
    }

-- as they go on
abbrev pub accepts : End
accepts = record called { phase = AkWait; latest = 13; agreed = Some terms }

abbrev pub confirmed : End
confirmed = record calling { phase = Opened; took = 1; latest = 33; known = 7; agreed = Some terms }

abbrev pub opened : End
opened = record accepts { phase = Opened; latest = 33 }

-- an offer of the calling end, and of the called one
abbrev pub by_calling : ℕ → Kind → ℕ → ℕ → Body → Offer
by_calling tick kind target source body =
    record {
      tick = tick;
      from = here;
      to = there;
      tpdu = record { kind = kind; target = target; source = source; words = words; terms = terms; body = body };
      is_extended = false;
      origin = Sent 0;
    }

abbrev pub by_called : Kind → ℕ → Body → Offer
by_called kind source body =
    record {
      tick = 1;
      from = there;
      to = here;
      tpdu = record { kind = kind; target = 1; source = source; words = words; terms = terms; body = body };
      is_extended = false;
      origin = Sent 1;
    }

-- the unit, and its pieces
abbrev pub unit : List ℕ
unit = 7 ∷ 8 ∷ 9 ∷ []

abbrev pub first : Piece
first = record { last = false; octets = 7 ∷ 8 ∷ [] }

abbrev pub second : Piece
second = record { last = true; octets = 9 ∷ [] }

-- the TPDUs
abbrev pub cr : Offer
cr = by_calling 0 Cr 0 1 Plain

abbrev pub confirm : Offer
confirm = by_called Cc 7 Plain

abbrev pub dt0 : Offer
dt0 = by_calling 1 Flow 7 0 (Dt 0 first)

abbrev pub dt1 : Offer
dt1 = by_calling 1 Flow 7 0 (Dt 1 second)

abbrev pub ak : ℕ → Offer
ak n = by_called Flow 0 (Ak n 5 0)

-- the line of either end, with a credit and with room for five
abbrev pub begun : Track
begun =
    record {
      is_begun = true;
      rules = record { block = 32; life = 4; limit = 16 };
      size = 2;
      tick = 1;
      credit = 5;
      places = 5;
      room = 5;
      line = empty 1 5 5 5;
    }

abbrev pub not_begun : Track
not_begun = record begun { is_begun = false }

-- the moments, and what is after each: the connect request, a tick, the connect indication, the accept, the CC, the unit, the second DT, the first, and
-- the second again
abbrev pub w0 : Whole
w0 = record { base = nothing (λ k. calling); track = (λ k. not_begun) }

abbrev pub m1 : Moment
m1 = record { step = Connect calling (cr ∷ []); doing = Nothing }

abbrev pub w1 : Whole
w1 = onward times w0 m1

abbrev pub m2 : Moment
m2 = record { step = Tick; doing = Nothing }

abbrev pub w2 : Whole
w2 = onward times w1 m2

abbrev pub m3 : Moment
m3 = record { step = Indicate cr called; doing = Nothing }

abbrev pub w3 : Whole
w3 = onward times w2 m3

abbrev pub m4 : Moment
m4 = record { step = Act 1 accepts (confirm ∷ []); doing = Start 0 begun begun }

abbrev pub w4 : Whole
w4 = onward times w3 m4

-- a line after something happened
abbrev pub then_on : Track → List Happening → Track
then_on t [] = t
then_on t (happening ∷ happenings) = then_on (record t { line = next_line t.rules t.line happening }) happenings

abbrev pub ak0 : Offer
ak0 = by_calling 1 Flow 7 0 (Ak 0 5 0)

-- what happens to lines: the credit of the CC, an AK, the unit and its DTs, and each DT as it comes
abbrev pub opens : List Happening
opens = Flows (Open 5) ∷ []

abbrev pub answers : List Happening
answers = Flows Acknowledge ∷ []

abbrev pub m5 : Moment
m5 = record { step = Take 0 confirm confirm.tpdu confirmed (ak0 ∷ []); doing = Go 1 (then_on (w4.track 0) opens) (then_on (w4.track 1) answers) }

abbrev pub w5 : Whole
w5 = onward times w4 m5

abbrev pub sends : List Happening
sends = Submit (Normal unit) ∷ Flows Send ∷ Flows Send ∷ []

abbrev pub m6 : Moment
m6 = record { step = Act 0 confirmed (dt0 ∷ dt1 ∷ []); doing = Go 1 (then_on (w5.track 0) sends) (w5.track 1) }

abbrev pub w6 : Whole
w6 = onward times w5 m6

abbrev pub hears1 : List Happening
hears1 = Flows (Dt_comes 1 1 second) ∷ Flows Acknowledge ∷ []

abbrev pub hears0 : List Happening
hears0 = Flows (Dt_comes 0 1 first) ∷ Flows Acknowledge ∷ []

abbrev pub m7 : Moment
m7 = record { step = Take 1 dt1 dt1.tpdu opened (ak 0 ∷ []); doing = Go 0 (w6.track 1) (then_on (w6.track 0) hears1) }

abbrev pub w7 : Whole
w7 = onward times w6 m7

abbrev pub m8 : Moment
m8 = record { step = Take 1 dt0 dt0.tpdu opened (ak 2 ∷ []); doing = Go 0 (w7.track 1) (then_on (w7.track 0) hears0) }

abbrev pub w8 : Whole
w8 = onward times w7 m8

abbrev pub m9 : Moment
m9 = record { step = Take 1 dt1 dt1.tpdu opened (ak 2 ∷ []); doing = Go 0 (w8.track 1) (then_on (w8.track 0) hears1) }

abbrev pub w9 : Whole
w9 = onward times w8 m9

-- what the journal tells
abbrev pub asked : Request
asked = record { end = 1; system = 0; reference = 1; calling = here; calling_selector = 5 ∷ []; called = there; called_selector = 6 ∷ []; octets = [] }

abbrev pub heard : Options → Indication
heard options =
    record {
      end = 2;
      system = 1;
      reference = 7;
      calling = here;
      partner = 1;
      calling_selector = 5 ∷ [];
      called = there;
      called_selector = 6 ∷ [];
      options = options;
      octets = [];
    }

abbrev pub journal : Options → List Event
journal options = events.Connect asked ∷ events.Tick 1 ∷ events.Incoming (heard options) ∷ events.Data 1 unit ∷ events.End 2 (tells.Got unit) ∷ []

-- this journal is written
abbrev pub IsWorked : Type 0
IsWorked = (options : Options) → Written times titles w9 (journal options)
