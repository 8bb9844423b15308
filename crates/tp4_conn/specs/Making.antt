-- The two ways in which an end is made (X.224, class 4: connection establishment).
use Rattle.std.specs.Prelude.{ℕ, true, false, List, [], ◌∷◌, Option, Some, None}
use Rattle.tpdu.specs.declared.tpdu.Tpdu.{Tpdu}
use Rattle.tpdu.specs.declared.tpdu.Tpdu.TheVariants.{Cr}
use Rattle.tp4_conn.specs.declared.proposed.Proposed.{Proposed}
use Rattle.tp4_flow.specs.declared.step.What.TheVariants.{Incoming}
use Rattle.tp4_sending.specs.Pieces.{once}
use Rattle.tp4_conn.specs.declared.end_record.EndRecord.{EndRecord}
use Rattle.tp4_conn.specs.declared.call.ConnectCall.{ConnectCall}
use Rattle.tp4_conn.specs.declared.states.StateData.TheVariants.{CrWait, UserWait}
use Rattle.tp4_conn.specs.declared.timers.Timers.{Timers}
use Rattle.tp4_conn.specs.Agreeing.{proposed_by, proposed_in, request}
use Rattle.tp4_conn.specs.End.{Moved}

-- connect: CR, its first sending
abbrev pub caller : ℕ → ConnectCall → EndRecord
caller now call = record {
  own = call.own;
  to = call.request.to;
  is_called = false;
  calling = call.request.from_selector;
  called = call.request.to_selector;
  proposed = proposed_by call.request.options;
  timers = call.rules;
  partner = 0;
  credit = 0;
  agreed = None;
  clock = now;
}

abbrev pub connected : ℕ → ConnectCall → Moved
connected now call = record {
  base = caller now call;
  stage = CrWait (record { octets = call.request.octets; tries = once now });
  events = [];
  tpdus = request (caller now call) call.request.octets ∷ [];
}

-- a CR came: the indication
abbrev pub indicated : EndRecord → List ℕ → Moved
indicated b text = record {
  base = b;
  stage = UserWait b.clock;
  events = record { reference = b.own; what = Incoming b.to b.partner b.calling b.called b.proposed.options text } ∷ [];
  tpdus = [];
}

abbrev pub called_end : ℕ → ℕ → List ℕ → Timers → ℕ → ℕ → List ℕ → List ℕ → Proposed → EndRecord
called_end now own from rules credit source calling called proposed = record {
  own = own;
  to = from;
  is_called = true;
  calling = calling;
  called = called;
  proposed = proposed;
  timers = rules;
  partner = source;
  credit = credit;
  agreed = None;
  clock = now;
}

abbrev pub on_cr : ℕ → ℕ → List ℕ → Timers → Tpdu → Option Moved
on_cr now own from rules (Cr credit source width calling called size preferred extra version classes ack_time text) =
    Some (indicated (called_end now own from rules credit source calling called (proposed_in width size preferred extra)) text)
on_cr now own from rules other = None
