-- Lines that are settled: before each line that asks something nothing waits, and each settle leaves nothing.
use Rattle.std.proofs.Common.{◌≡◌, ◌⊎◌, ℕ, ◌≤◌, List, [], ◌∷◌, length, refl, sym, subst, inl, inr}
use Rattle.std.specs.List.{AllByRecursion}
use Rattle.osi_base.specs.Calls.{Call, Keeps}
use Rattle.osi_base.specs.Link.{Link}
use Rattle.osi_base.specs.declared.unit.Unit.{Unit as CarriedUnit}
use Rattle.script_journal.specs.declared.event.Event.{Event}
use Rattle.script_lines.specs.declared.line.Line.{Line}
use Rattle.script_lines.specs.declared.line.Line.TheVariants as lines
use Rattle.net_world.specs.Fifo.{IsFifo}
use Rattle.tp4_number.specs.Number.{whole}
use Rattle.tpdu.specs.declared.service.Options.{Options}
use Rattle.tp4_conn.specs.End.{IsSized}
use Rattle.tp4_conn.specs.declared.call.UserCall.TheVariants as asks
use Rattle.law_tp4_pair.specs.CalmScript.{IsSettledScript, Settles as IsSettledNext}
use Rattle.law_tp4_pair.specs.Claim.{IsUndropped}
use Rattle.tp4_world.specs.Run.{RunsLine, RunsLines}
use Rattle.tp4_world.specs.World.{World}
use Rattle.law_tp4_lawful.specs.Limits.{IsProperLine}
use Rattle.law_calm_run.specs.Run.{IsUnrouted}
use Rattle.law_calm_run.proofs.Hall.{Done, Hall}
use Rattle.law_calm_run.proofs.Posting.{IsHall}
use Rattle.law_calm_run.proofs.Asking.{called, connected, raw}
use Rattle.law_calm_run.proofs.Going.{HasSettled, Stands, Went, settled, stands_then, went_then}
use Rattle.law_calm_run.proofs.Queueing.{all_parts}
use Rattle.law_calm_run.proofs.Ticking.{ticked}

module _ {C : Type 0} (link : C → Link (List ℕ)) (steps : C → Call (List ℕ) → C → Type 0)
    (law : (old : C) (call : Call (List ℕ)) (new : C) → steps old call new → Keeps (link old) call (link new))
    (titles : List (List ℕ)) (Waits : C → List (CarriedUnit (List ℕ)) → Type 0) (fifo : IsFifo link steps titles Waits) where
  abbrev Known : World C → Hall → List (CarriedUnit (List ℕ)) → Type 0
  Known world hall queue = Stands link steps law titles Waits fifo world hall queue

  abbrev Goes_on : Hall → List Event → World C → Type 0
  Goes_on old made new = Went link steps law titles Waits fifo old made new

  -- nothing happened
  abbrev nowhere : (old new : World C) (hall : Hall) (queue : List (CarriedUnit (List ℕ))) (made : List Event) → Known old hall queue → made ≡ [] → new ≡ old → Goes_on hall made new
  nowhere old new hall queue made s none same = record {
    next = hall;
    queue = queue;
    goes = Done hall made hall none refl;
    shows = subst (λ (x : World C). IsHall link titles Waits x hall queue) (sym same) s.shows;
    kept = s.kept;
    have = s.have;
    rest = s.rest;
  }

  -- nothing waits, or the next line that does anything settles
  abbrev pub MayGo : List (CarriedUnit (List ℕ)) → List Line → Type 0
  MayGo queue script = (queue ≡ []) ⊎ IsSettledNext script

  -- a line but `settle`, where nothing waits
  asked : (line : Line) (script : List Line) (old new : World C) (hall : Hall) (queue : List (CarriedUnit (List ℕ))) (made : List Event) → Known old hall queue → queue ≡ [] → IsSettledScript (line ∷ script)
      → IsProperLine line → IsUnrouted line → AllByRecursion IsUndropped made → RunsLine link steps whole titles old line made new → (line ≡ lines.Settle → ⊥) → Goes_on hall made new
  asked lines.Nothing script old new hall queue made s none calm proper path all step other = nowhere old new hall queue made s step.0 step.1
  asked (lines.Connect system selector to called_selector options octets) script old new hall queue made s none calm proper path all step other =
      let asks = step.4 in
      connected link steps law titles Waits fifo old new hall queue made system step.1 s none all
      (record {
        size = subst (λ (o : Options). IsSized o) (sym step.3) proper.0;
        calling = subst (λ (o : List ℕ). length o ≤ 32) (sym asks.0) proper.1;
        called = subst (λ (o : List ℕ). length o ≤ 32) (sym asks.2) proper.2;
        address = record { system = to; title = step.0; title_is = step.2; address_is = asks.1 };
      }) asks.4
  asked (lines.Accept end options octets) script old new hall queue made s none calm proper path all step other = called link steps law titles Waits fifo old new hall queue made end _ s none all proper step
  asked (lines.Refuse end octets) script old new hall queue made s none calm proper path all step other = called link steps law titles Waits fifo old new hall queue made end (asks.Refuse octets) s none all tt step
  asked (lines.Disconnect end octets) script old new hall queue made s none calm proper path all step other = called link steps law titles Waits fifo old new hall queue made end (asks.Disconnect octets) s none all tt step
  asked (lines.Data end octets) script old new hall queue made s none calm proper path all step other = called link steps law titles Waits fifo old new hall queue made end (asks.Normal octets) s none all tt step
  asked (lines.Expedite end octets) script old new hall queue made s none calm proper path all step other = called link steps law titles Waits fifo old new hall queue made end (asks.Urgent octets) s none all tt step
  asked (lines.Window end credit) script old new hall queue made s none calm proper path all step other = called link steps law titles Waits fifo old new hall queue made end (asks.Window credit) s none all proper step
  asked (lines.Unit system to wish octets) script old new hall queue made s none calm proper path all step other =
      raw link steps law titles Waits fifo old new hall queue made system to step.0 step.1 wish octets s all step.2 step.3 path step.4
  asked lines.Tick script old new hall queue made s none calm proper path all step other = ticked link steps law titles Waits fifo old new made hall queue s none all step
  asked (lines.Deliver number system) script old new hall queue made s none calm proper path all step other = absurd calm
  asked lines.Settle script old new hall queue made s none calm proper path all step other = absurd (other refl)
  asked (lines.Inject lan system octets) script old new hall queue made s none calm proper path all step other = absurd calm
  asked (lines.Restart system) script old new hall queue made s none calm proper path all step other = absurd calm
  asked another script old new hall queue made s none calm proper path all step other = absurd step

  -- a line, and whether the next one may go
  record Passed (old : Hall) (made : List Event) (new : World C) (script : List Line) : Type 0 where
    went : Goes_on old made new
    may : MayGo went.queue script
    calm : IsSettledScript script

  line_goes : (line : Line) (script : List Line) (old new : World C) (hall : Hall) (queue : List (CarriedUnit (List ℕ))) (made : List Event) → Known old hall queue → MayGo queue (line ∷ script)
      → IsSettledScript (line ∷ script) → IsProperLine line → IsUnrouted line → AllByRecursion IsUndropped made → RunsLine link steps whole titles old line made new → Passed hall made new script
  line_goes lines.Nothing script old new hall queue made s may calm proper path all step = record { went = nowhere old new hall queue made s step.0 step.1; may = may; calm = calm }
  line_goes lines.Settle script old new hall queue made s may calm proper path all step =
      let done = settled link steps law titles Waits fifo 0 old made new step hall queue s all in
      record { went = done.went; may = inl done.none; calm = calm }
  line_goes (lines.Deliver number system) script old new hall queue made s may calm proper path all step = absurd calm
  line_goes (lines.Inject lan system octets) script old new hall queue made s may calm proper path all step = absurd calm
  line_goes (lines.Restart system) script old new hall queue made s may calm proper path all step = absurd calm
  line_goes line script old new hall queue made s (inl none) calm proper path all step = record {
    went = asked line script old new hall queue made s none calm proper path all step (λ is. absurd cc);
    may = inr calm.0;
    calm = calm.1;
  }
  line_goes line script old new hall queue made s (inr next) calm proper path all step = absurd next

  -- the lines, one after another, leave nothing that waits
  pub lines_go : (script : List Line) (old last : World C) (hall : Hall) (queue : List (CarriedUnit (List ℕ))) (journal : List Event) → Known old hall queue → MayGo queue script → IsSettledScript script
      → AllByRecursion IsProperLine script → AllByRecursion IsUnrouted script → AllByRecursion IsUndropped journal → RunsLines link steps whole titles old script journal last
      → HasSettled link steps law titles Waits fifo hall journal last
  lines_go [] old last hall queue journal s (inl none) calm proper path all run = record { went = nowhere old last hall queue journal s run.0 run.1; none = none }
  lines_go [] old last hall queue journal s (inr next) calm proper path all run = absurd next
  lines_go (line ∷ script) old last hall queue journal s may calm proper path all run =
      let parts = all_parts IsUndropped run.1 run.2 (subst (λ (es : List Event). AllByRecursion IsUndropped es) run.4 all) in
      let first : Passed hall run.1 run.0 script = line_goes line script old run.0 hall queue run.1 s may calm proper.0 path.0 parts.0 run.3 in
      let rest = lines_go script run.0 last first.went.next first.went.queue run.2 (stands_then link steps law titles Waits fifo hall run.1 run.0 first.went) first.may first.calm proper.1 path.1 parts.1 run.5 in
      record { went = went_then link steps law titles Waits fifo hall run.0 last journal run.1 run.2 first.went rest.went run.4; none = rest.none }
