-- A segment that was taken into the store, and what comes of it, is the whole step of a segment: what a report looks up is the same before and after.
use Rattle.std.proofs.Common.{◌≡◌, ℕ, Bool, true, false, List, Option, Some, None, refl, subst}
use Rattle.std.specs.Prelude.{IsSome}
use Rattle.clnp_header.specs.declared.pdu.Pdu.{Pdu}
use Rattle.clnp_segment.specs.Store.{Holding}
use Rattle.clnp_segment.specs.declared.store.Joined.{Joined}
use Rattle.clnp_segment.specs.declared.store.Joined.TheVariants as joined
use Rattle.esis_tables.specs.Rows.{Rows}
use Rattle.clnp_system.specs.Node.{Frame, Node, Reaction}
use Rattle.clnp_system.specs.Receiving.{JoinGives, Joins}
use Rattle.clnp_system.specs.Reporting.{Discarded, Discards, ReportsIf}
use Rattle.clnp_system.specs.Tables.{rows_tables}
use Rattle.clnp_entity.specs.declared.received_frame.ReceivedFrame.{ReceivedFrame}
use Rattle.clnp_entity.specs.steps.Came.{Puts, frame_of}

pub some_is : {X : Type 0} (option : Option X) → IsSome option → (x : X) × (option ≡ Some x)
some_is None h = absurd cc
some_is (Some x) h = (x, refl)

reports_alike : (node : Node Rows) (tick : ℕ) (store : Holding) (now : ℕ) (wanted : Bool) (discarded : Discarded) (frames : List Frame)
    → ReportsIf wanted rows_tables (record node { clock = tick; store = store }) now discarded frames → ReportsIf wanted rows_tables node now discarded frames
reports_alike node tick store now true discarded frames h = h
reports_alike node tick store now false discarded frames h = h

discards_alike : (node : Node Rows) (tick : ℕ) (store : Holding) (now : ℕ) (discarded : Discarded) (reaction : Reaction)
    → Discards rows_tables (record node { clock = tick; store = store }) now discarded reaction → Discards rows_tables node now discarded reaction
discards_alike node tick store now discarded reaction h =
    record { told = h.told; reports = reports_alike node tick store now discarded.report discarded reaction.frames h.reports }

gives_alike : (node : Node Rows) (tick : ℕ) (store : Holding) (now : ℕ) (frame : Frame) (pdu : Pdu) (answer : Joined) (reaction : Reaction)
    → JoinGives rows_tables (record node { clock = tick; store = store }) now frame pdu answer reaction → JoinGives rows_tables node now frame pdu answer reaction
gives_alike node tick store now frame pdu joined.Held reaction h = h
gives_alike node tick store now frame pdu (joined.Whole octets) reaction h = h
gives_alike node tick store now frame pdu joined.Full reaction h = discards_alike node tick store now _ reaction h
gives_alike node tick store now frame pdu joined.Interference reaction h = discards_alike node tick store now _ reaction h

pub joins_of : (old mid : Node Rows) (came : ReceivedFrame) (pdu : Pdu) (answer : Joined) (reaction : Reaction) → IsSome pdu.segment → Puts old came pdu answer mid
    → JoinGives rows_tables mid came.tick (frame_of came) pdu answer reaction → Joins rows_tables old came.tick (frame_of came) pdu reaction mid
joins_of old mid came pdu answer reaction some puts gives =
    let there = some_is pdu.segment some in record {
      part = there.0;
      is = there.1;
      answer = answer;
      store = mid.store;
      takes = puts.takes there.0 there.1;
      gives = gives_alike old came.tick mid.store came.tick (frame_of came) pdu answer reaction
          (subst (λ (node : Node Rows). JoinGives rows_tables node came.tick (frame_of came) pdu answer reaction) puts.after gives);
      after = puts.after;
    }
