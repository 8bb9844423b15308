-- From a state in which nothing is left to deliver: lines that are settled and lose nothing, and what is kept by them; and so of two ends that know each other.
use Rattle.std.proofs.Common.{◌≡◌, ℕ, List, [], ◌++◌, None, refl, sym, inl, inr, append-nil, subst}
use Rattle.osi_base.specs.Calls.{Call, Keeps}
use Rattle.osi_base.specs.Link.{Link}
use Rattle.osi_base.specs.declared.unit.Unit.{Unit as CarriedUnit}
use Rattle.script_journal.specs.declared.event.Event.{Event}
use Rattle.script_lines.specs.declared.line.Line.{Line}
use Rattle.net_world.specs.Fifo.{IsFifo}
use Rattle.net_world.specs.Prompt.{IsPrompt}
use Rattle.tp4_conn.specs.End.{IsTimed}
use Rattle.tp4_conn.specs.declared.timers.Timers.{Timers}
use Rattle.tp4_entity.specs.Step.{first_due}
use Rattle.law_tp4_history.specs.Tracks.{Whole, IsNothing}
use Rattle.law_tp4_proper.specs.Rest.{AreProper}
use Rattle.law_tp4_pair.specs.Pair.{Pair}
use Rattle.tp4_world.specs.World.{World}
use Rattle.law_tp4_lawful.proofs.Worlds.{Explains, Followed, Rests}
use Rattle.law_tp4_associations.proofs.EndedWorlds.{IsFitWorld}
use Rattle.law_calm_run.proofs.Hall.{Post}
use Rattle.law_recovery_run.specs.Ordered.{InOrder, IsReady, ReachedFrom, RunsInOrder, hall_of}
use Rattle.law_recovery_run.proofs.Aiming.{Going}
use Rattle.law_recovery_run.proofs.Ordered.{HaveRun, is_fifo, keeps_order, runs_ordered, undropped}
use Rattle.law_recovery_run.specs.Following.{IsFollowed, IsLive}
use Rattle.law_recovery_run.proofs.Settling.{IsExplained, timed as timed_by}
use Rattle.law_recovery.specs.Moving.{HasLastedTold}
use Rattle.law_recovery.proofs.Asking.{idle_of}
use Rattle.law_recovery.proofs.Deeds.{HasReached, IsKept}
use Rattle.law_recovery.proofs.Lasting.{lines_reach}
use Rattle.law_recovery.proofs.Lines.{have_left, kept}
use Rattle.law_recovery.proofs.Stepping.{HasMoved}
use Rattle.law_recovery.proofs.Ticking.{later_of}
use Rattle.tp4_number.specs.Number.{whole}
use Rattle.law_tp4_history.specs.Ends.{Times}
use Rattle.law_tp4_history.specs.Journals.{Written}
use Rattle.law_tp4_lawful.specs.Called.{AreHonestCalls}
use Rattle.law_tp4_lawful.proofs.ActsLines.{Flowing}
use Rattle.law_tp4_lawful.proofs.CalledStarts.{on_whole}
use Rattle.law_tp4_lawful.proofs.MeetsOthers.{KnowsTaken}
use Rattle.law_recovery_run.proofs.Fitting.{calls_fit}

-- after honest calls a history explains the network
pub explained_by : {C : Type 0} (link : C → Link (List ℕ)) (steps : C → Call (List ℕ) → C → Type 0) (law : (old : C) (call : Call (List ℕ)) (new : C) → steps old call new → Keeps (link old) call (link new))
    (flowing : Flowing) (knows : KnowsTaken) (begun : (times : Times) (titles : List (List ℕ)) (w : Whole) → IsNothing w → Written times titles w []) (titles : List (List ℕ)) (timers : Timers) (early : List Event)
    (old : World C) → AreHonestCalls link steps whole titles timers early old → IsExplained link early old
explained_by {C} link steps law flowing knows begun titles timers early old calls =
    on_whole link steps law flowing knows begun (λ (journal : List Event) world. IsFitWorld link world → IsExplained link journal world)
    (λ titles timers w journal world explains fit. record { titles = titles; timers = timers; w = w; explains = explains; fit = fit }) titles timers early old calls (calls_fit link steps law titles timers early old calls)

module _ {C : Type 0} (link : C → Link (List ℕ)) (steps : C → Call (List ℕ) → C → Type 0)
    (law : (old : C) (call : Call (List ℕ)) (new : C) → steps old call new → Keeps (link old) call (link new))
    (titles : List (List ℕ)) (first : C) (Waits : C → List (CarriedUnit (List ℕ)) → Type 0) (prompt : IsPrompt link steps titles (ReachedFrom link steps titles first) Waits) (going : Going)
    (follow : (titles : List (List ℕ)) (timers : Timers) → Followed titles timers) where
  abbrev ordered : C → Call (List ℕ) → C → Type 0
  ordered = InOrder link steps

  abbrev keeps : (old : C) (call : Call (List ℕ)) (new : C) → ordered old call new → Keeps (link old) call (link new)
  keeps = keeps_order link steps law

  abbrev fifo : IsFifo link ordered titles Waits
  fifo = is_fifo link steps titles (ReachedFrom link steps titles first) Waits prompt

  -- what is kept holds after them
  pub runs_reach : (names : List (List ℕ)) (timers : Timers) → IsTimed timers → (w : Whole) (journal early late more : List Event) (old last : World C) (script : List Line) → Explains link names timers w journal old
      → IsFitWorld link old → IsReady link steps titles first old → RunsInOrder link steps titles old script more last → journal ≡ early ++ late → (P : List Event → World C → List Post → Type 0)
      (T : List Event → World C → List Event → World C → List Post → Type 0) → IsKept link ordered keeps titles Waits fifo names timers early P T → P late old []
      → HasReached link names timers early P (late ++ more) last
  runs_reach names timers timed w journal early late more old last script explains fit ready run journal_is P T all holds =
      lines_reach link ordered keeps titles Waits fifo names timers going follow timed early P T all script old last late more (hall_of link old) []
      (record {
        shows = record { clock = refl; entities = refl; ends = refl; waits = prompt.begins old.carrier ready.reached ready.none_left; units = refl };
        kept = ready.kept;
        have = ready.have;
        rest = ready.rest;
      }) (subst (λ (es : List Event). Rests link AreProper names timers es old) journal_is rests) fit (inl refl) run.settled run.proper run.unrouted (undropped more run.kept) holds have_run.runs
    where
      rests : Rests link AreProper names timers journal old
      rests = record {
        w = w;
        explains = explains;
        rest = λ system e is. ((ready.kept system e is).proper, subst (λ (n : ℕ). first_due n e ≡ None) explains.carries.clock (ready.rest system e is));
      }

      have_run : HaveRun link steps titles script old last more
      have_run = runs_ordered link steps titles script old last more (inl ready.none_left) run.settled run.kept run.runs

  pub runs_told : (early late : List Event) (old last : World C) (script : List Line) (x y : ℕ) (p : Pair) → IsExplained link early old → IsReady link steps titles first old → IsFollowed link early old [] x y p
      → IsLive p.calling.stage → IsLive p.called.stage → RunsInOrder link steps titles old script late last → HasLastedTold link early late last x y p
  runs_told early late old last script x y p ex ready f live live_there run = record {
    lasted = record {
      happenings = on.happenings;
      next = on.next;
      leads = on.leads;
      ticked = on.ticked;
      goes = elim on.goes [
        | inl g ↦ inl (idle_of link (early ++ late) last x y on.next g, later_of link (early ++ late) last x y on.next reached.waiting g, g)
        | inr out ↦ inr out.0
      ];
      over = λ both. elim on.goes [
        | inl g ↦ have_left link ordered keeps titles Waits fifo ex.titles ex.timers going follow timed early x y p reached.w late last [] on.next reached.explains g both
        | inr out ↦ out.1 both
      ];
    };
    told = on.told;
  }
    where
      -- the timers of an end are those of the network
      timed : IsTimed ex.timers
      timed = timed_by link ordered keeps titles Waits fifo going follow early old ex x p.calling f.calling

      begun : HasMoved link early [] old [] x y p
      begun = record { happenings = []; next = p; leads = refl; ticked = tt; told = tt; goes = inl (subst (λ (es : List Event). IsFollowed link es old [] x y p) (sym (append-nil early)) f) }

      reached : HasReached link ex.titles ex.timers early (λ (es : List Event) (world : World C) (posts : List Post). HasMoved link early es world posts x y p) late last
      reached = runs_reach ex.titles ex.timers timed ex.w early early [] late old last script ex.explains ex.fit ready run (sym (append-nil early)) _ _
          (kept link ordered keeps titles Waits fifo ex.titles ex.timers going follow timed early x y p) begun

      on : HasMoved link early late last [] x y p
      on = reached.holds
