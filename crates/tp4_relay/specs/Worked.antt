-- A connection through a relay, worked out: from 490a01 (selector aa) at the row cc of 490c01, on to bb of 490b01.
use Rattle.std.specs.Prelude.{◌≡◌, true, false, [], ◌∷◌}
use Rattle.tpdu.specs.declared.service.Options.{Options}
use Rattle.tpdu.specs.declared.service.GoneCause.TheVariants as gone
use Rattle.script_journal.specs.declared.event.Event.TheVariants as events
use Rattle.script_journal.specs.declared.event.Indication.{Indication}
use Rattle.script_journal.specs.declared.event.Request.{Request}
use Rattle.tpdu.specs.declared.tpdu.Format.TheVariants.{Normal as NormalFormat}
use Rattle.tp4_conn.specs.declared.call.UserCall.TheVariants as asks
use Rattle.tp4_conn.specs.declared.timers.Timers.{Timers}
use Rattle.tp4_relay.specs.declared.pair.Phase.TheVariants.{Open, Closed}
use Rattle.tp4_relay.specs.declared.reaction.Reaction.TheVariants.{Nothing, Begin, Ask}
use Rattle.tp4_relay.specs.declared.row.RelayRow.{RelayRow}
use Rattle.tp4_relay.specs.declared.unit.MarkedUnit.TheVariants.{Normal}
use Rattle.tp4_relay.specs.Kept.{Kept, kept_after, nothing_kept, owns}
use Rattle.tp4_relay.specs.Pairs.{new_way, open_places}
use Rattle.tp4_relay.specs.Reaction.{reaction}
use Rattle.tpdu.specs.declared.service.EndTold.TheVariants as tells

abbrev pub row : RelayRow
row = record { system = 1; selector = 0xcc ∷ []; to = 0x49 ∷ 0x0b ∷ 0x01 ∷ []; to_selector = 0xbb ∷ [] }

abbrev pub rules : Timers
rules = record { life = 2; t1 = 8; sendings = 3; window = 20; inactive = 60; credit = 8 }

abbrev pub options : Options
options = record { format = NormalFormat; size = 1024; preferred = false; expedited = true; sum = true }

-- incoming 2 r 1 490a01 1 aa 490c01 cc normal 1024 exp sum -
abbrev pub heard : Indication
heard = record {
  end = 2;
  system = 1;
  reference = 1;
  calling = 0x49 ∷ 0x0a ∷ 0x01 ∷ [];
  partner = 1;
  calling_selector = 0xaa ∷ [];
  called = 0x49 ∷ 0x0c ∷ 0x01 ∷ [];
  called_selector = 0xcc ∷ [];
  options = options;
  octets = [];
}

-- connect 3 r 2 490c01 cc 490b01 bb -
abbrev pub asked : Request
asked = record {
  end = 3;
  system = 1;
  reference = 2;
  calling = 0x49 ∷ 0x0c ∷ 0x01 ∷ [];
  calling_selector = 0xcc ∷ [];
  called = 0x49 ∷ 0x0b ∷ 0x01 ∷ [];
  called_selector = 0xbb ∷ [];
  octets = [];
}

abbrev pub before : Kept
before = nothing_kept (row ∷ []) rules

abbrev pub joined : Kept
joined = kept_after before (events.Incoming heard ∷ events.Connect asked ∷ events.Joined 2 3 ∷ [])

abbrev pub opened : Kept
opened = kept_after joined (events.End 3 (tells.Confirm options []) ∷ events.End 2 (tells.Accept options []) ∷ [])

abbrev pub waits : Kept
waits = kept_after opened (events.End 2 (tells.Got (0x01 ∷ [])) ∷ [])

pub record WorkedRows : Type 0 where
  -- the indication has the second connection asked for, from the row's selector
  pub begins : reaction before (events.Incoming heard) ≡ Begin 2 1 (record {
    from_selector = 0xcc ∷ [];
    to = 0x49 ∷ 0x0b ∷ 0x01 ∷ [];
    to_selector = 0xbb ∷ [];
    options = record { format = NormalFormat; size = 1024; expedited = true; sum = true; preferred = false };
    octets = [];
  })
  -- the confirm of the outbound end has the inbound end accepted, and opens the pair
  pub accepts : reaction joined (events.End 3 (tells.Confirm options [])) ≡ Ask 2 (asks.Accept options [])
  pub begun : open_places joined.pairs ≡ []
  pub opens : open_places opened.pairs ≡ 0 ∷ []
  -- a unit that the one end shows waits for the other, and is gone once it was submitted
  pub one_waits : waits.pairs ≡ record { inbound = 2; outbound = 3; phase = Open; accepted = true; on = record { waiting = Normal (0x01 ∷ []) ∷ []; lowered = false }; back = new_way } ∷ []
  pub none_waits : (kept_after waits (events.Data 3 (0x01 ∷ []) ∷ [])).pairs ≡ opened.pairs
  -- before the pair is open no unit waits
  pub early : (kept_after joined (events.End 2 (tells.Got (0x01 ∷ [])) ∷ [])).pairs ≡ joined.pairs
  -- the outbound end goes: an inbound end that was not accepted is refused, another one is disconnected; at a closed pair nothing is done
  pub refuses : reaction joined (events.End 3 (tells.Gone gone.Exhausted [])) ≡ Ask 2 (asks.Refuse [])
  pub disconnects : reaction waits (events.End 3 (tells.Gone gone.Exhausted [])) ≡ Ask 2 (asks.Disconnect [])
  pub passes_on : reaction joined (events.End 2 (tells.Gone gone.Exhausted [])) ≡ Ask 3 (asks.Disconnect [])
  pub closed : reaction (kept_after waits (events.Disconnect 3 [] ∷ [])) (events.End 2 (tells.Gone gone.Exhausted [])) ≡ Nothing
  -- an end that went before it was joined makes a closed pair
  pub late : (kept_after before (events.Incoming heard ∷ events.End 2 (tells.Gone gone.Exhausted []) ∷ events.Joined 2 3 ∷ [])).pairs
      ≡ record { inbound = 2; outbound = 3; phase = Closed; accepted = false; on = new_way; back = new_way } ∷ []
  -- the ends of the relay
  pub owns_first : owns joined 2 ≡ true
  pub owns_second : owns joined 3 ≡ true
  pub owns_no_other : owns joined 1 ≡ false
