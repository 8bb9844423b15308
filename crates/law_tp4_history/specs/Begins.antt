-- How an end that begins is seen in a history (X.224, class 4: connection establishment).
use Rattle.std.specs.Prelude.{◌≡◌, ℕ, ◌+◌, ◌<◌, true, false, List, length, None}
use Rattle.tp4_conn.specs.declared.call.ConnectCall.{ConnectCall}
use Rattle.tp4_conn.specs.declared.timers.Timers.{Timers}
use Rattle.tp4_conn.specs.End.{span}
use Rattle.law_tp4_history.specs.Ends.{Offer, CrWait, UserWait, End}
use Rattle.law_tp4_history.specs.History.{History}

-- by a connect request at that address
abbrev pub begun : History → List ℕ → ConnectCall → End
begun h address call = record {
  birth = record {
    address = address;
    reference = call.own;
    is_called = false;
    caller = 0;
    partner = call.request.to;
    words = record { calling = call.request.from_selector; called = call.request.to_selector; octets = call.request.octets };
    made = h.clock;
    event = length h.events;
  };
  phase = CrWait;
  took = h.clock;
  latest = h.clock + span call.rules;
  is_parted = false;
  known = 0;
  agreed = None;
  stop = None;
  is_out = false;
}

-- with that reference, by a CR that was offered and that the end `caller` sent
abbrev pub indicated_by : History → ℕ → Timers → ℕ → Offer → End
indicated_by h own rules caller o = record {
  birth = record { address = o.to; reference = own; is_called = true; caller = caller; partner = o.from; words = o.tpdu.words; made = h.clock; event = length h.events };
  phase = UserWait;
  took = h.clock;
  latest = h.clock + rules.inactive + span rules;
  is_parted = false;
  known = o.tpdu.source;
  agreed = None;
  stop = None;
  is_out = false;
}

-- no called end stands at the destination of a CR for its source address and source reference
abbrev pub HasNoEnd : History → Offer → Type 0
HasNoEnd h o = (k : ℕ) → k < h.count → (h.end k).birth.is_called ≡ true → (h.end k).birth.address ≡ o.to → (h.end k).birth.partner ≡ o.from → (h.end k).known ≡ o.tpdu.source
    → (h.end k).is_out ≡ true
