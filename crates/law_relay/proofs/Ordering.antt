-- What a network does leaves it in order: nothing waits to be taken up, and each end is of its reference.
use Rattle.std.proofs.Common.{◌≡◌, ℕ, false, List, [], refl, arith}
use Rattle.std.proofs.lemmas.Bool.{false≢true}
use Rattle.osi_base.specs.Link.{Link}
use Rattle.osi_base.specs.Calls.{Call}
use Rattle.script_journal.specs.declared.event.Event.{Event}
use Rattle.script_lines.specs.Commands.{HasLine}
use Rattle.script_lines.specs.declared.words.Dialect.TheVariants as dialects
use Rattle.script_lines.specs.declared.line.Line.{Line}
use Rattle.script_lines.specs.declared.line.Line.TheVariants as lines
use Rattle.tp4_number.specs.Number.{wire}
use Rattle.tp4_conn.specs.declared.call.ConnectRequest.{ConnectRequest}
use Rattle.tp4_conn.specs.declared.call.UserCall.{UserCall}
use Rattle.tp4_conn.specs.declared.states.StateData.{StateData}
use Rattle.tp4_conn.specs.declared.timers.Timers.{Timers}
use Rattle.tp4_relay.specs.Kept.{Kept, nothing_kept}
use Rattle.tp4_world.specs.Run.{Calls, Connects, RunsLine, Settles}
use Rattle.tp4_world.specs.World.{World}
use Rattle.law_relay.specs.Asked.{is_relayed}
use Rattle.law_relay.specs.Services.{IsInOrder}
use Rattle.law_relay.proofs.Linking.{IsAny, call_kepts, connect_ran, line_ran}
use Rattle.law_relay.proofs.Quieting.{call_quiet, connect_quiet, line_quiet}
use Rattle.law_relay.proofs.Waits.{Waits}
use Rattle.law_relay.proofs.Walks.{Linked}

-- a relay without rows keeps nothing, so that each end waits as it has to
no_rules : Timers
no_rules = record { life = 0; t1 = 0; sendings = 0; window = 0; inactive = 0; credit = 0 }

abbrev none_kept : Kept
none_kept = nothing_kept [] no_rules

none_waits : (number : ℕ) (stage : StateData) → Waits none_kept.claims none_kept.pairs number stage
none_waits number stage = record { unjoined = λ has out. absurd (false≢true has); paired = tt }

none_relayed : (line : Line) → is_relayed none_kept line ≡ false
none_relayed (lines.Connect system selector to called options octets) = refl
none_relayed line = refl

module _ {C : Type 0} (link : C → Link (List ℕ)) (steps : C → Call (List ℕ) → C → Type 0) where
  none_linked : (world : World C) → IsInOrder link world → Linked world.entities world.ends none_kept
  none_linked world order = record {
    named = omega arith;
    tidy = record { claims_low = tt; outbounds = tt; inbounds = tt };
    of = order.of;
    waits = λ system r e end is stands. none_waits _ end.stage;
  }

  pub call_order : (old new : World C) (end : ℕ) (call : UserCall) (made : List Event) → Calls link steps wire old end call made new → IsInOrder link old → IsInOrder link new
  call_order old new end call made c order = record {
    quiet = call_quiet link steps wire old new made end call c order.quiet;
    of = (call_kepts link steps wire old new made end call c none_kept (IsAny (λ stage. none_waits end stage)) (none_linked old order)).linked.of;
  }

  pub connect_order : (old new : World C) (system : ℕ) (request : ConnectRequest) (made : List Event) → Connects link steps old system request made new → IsInOrder link old → IsInOrder link new
  connect_order old new system request made c order = record {
    quiet = connect_quiet link steps old new made system request c order.quiet;
    of = (connect_ran link steps old new made system request c none_kept (none_linked old order)).linked.of;
  }

  pub line_order : (titles : List (List ℕ)) (line : Line) (old new : World C) (made : List Event) → HasLine dialects.Relay line → RunsLine link steps wire titles old line made new → IsInOrder link old → IsInOrder link new
  line_order titles line old new made has s order = record {
    quiet = line_quiet link steps wire titles line old new made s order.quiet;
    of = (line_ran link steps wire titles line old new made has s none_kept (none_relayed line) (none_linked old order)).linked.of;
  }

  pub settle_order : (old new : World C) (made : List Event) → Settles link steps wire 0 old made new → IsInOrder link old → IsInOrder link new
  settle_order old new made s order = line_order [] lines.Settle old new made tt s order
