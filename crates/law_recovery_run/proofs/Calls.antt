-- A line is a call, or nothing; so lines without an injection lead from a network after some calls to one after some calls.
use Rattle.std.proofs.Common.{◌≡◌, ℕ, List, [], ◌∷◌, ◌++◌, ◌∙◌, ap, append_assoc}
use Rattle.std.specs.List.{AllByRecursion}
use Rattle.osi_base.specs.Calls.{Call, Keeps}
use Rattle.osi_base.specs.Link.{Link}
use Rattle.osi_base.proofs.Members.{all_both}
use Rattle.script_journal.specs.declared.event.Event.{Event}
use Rattle.script_lines.specs.Injecting.{HasNoInject}
use Rattle.script_lines.specs.declared.line.Line.{Line}
use Rattle.script_lines.specs.declared.line.Line.TheVariants as lines
use Rattle.tp4_conn.specs.declared.call.UserCall.TheVariants as asks
use Rattle.tp4_conn.specs.declared.timers.Timers.{Timers}
use Rattle.tp4_world.specs.Called.{DidAll, KeepsLimits, WorldCall}
use Rattle.tp4_world.specs.Called as requests
use Rattle.tp4_world.specs.Run.{RunsLine, RunsLines}
use Rattle.tp4_world.specs.World.{World}
use Rattle.tp4_world.proofs.Lined.{line_alike}
use Rattle.law_tp4_lawful.specs.Called.{AreHonestCalls}
use Rattle.law_tp4_lawful.specs.Limits.{IsProperLine}
use Rattle.law_tp4_lawful.proofs.CalledLines.{both_did, line_called as call_of, lines_called as calls_of}
use Rattle.law_recovery_run.specs.Laws.{LinesAreCalls}

module _ {C : Type 0} (link : C → Link (List ℕ)) (steps : C → Call (List ℕ) → C → Type 0) (wrap : ℕ → ℕ → ℕ) (titles : List (List ℕ)) where
  -- these calls have the same events, and keep their limits
  pub record HaveCalls (old : World C) (made : List Event) (new : World C) : Type 0 where
    pub calls : List WorldCall
    pub did : DidAll link steps wrap old calls made new
    pub limits : AllByRecursion KeepsLimits calls

  -- both, one behind the other
  pub both_called : (old mid new : World C) (here rest : List Event) → HaveCalls old here mid → HaveCalls mid rest new → HaveCalls old (here ++ rest) new
  both_called old mid new here rest a b = record {
    calls = a.calls ++ b.calls;
    did = both_did link steps wrap a.calls b.calls old mid new here rest a.did b.did;
    limits = all_both KeepsLimits a.calls b.calls a.limits b.limits;
  }

  -- a line is a call, or nothing
  pub line_called : (line : Line) (old new : World C) (made : List Event) → IsProperLine line → RunsLine link steps wrap titles old line made new → HaveCalls old made new
  line_called line old new made proper s = let c = call_of link steps wrap titles line old new made s in record { calls = c.calls; did = c.did; limits = c.limits proper }

  pub lines_called : (script : List Line) (first last : World C) (journal : List Event) → AllByRecursion IsProperLine script → RunsLines link steps wrap titles first script journal last → HaveCalls first journal last
  lines_called script first last journal proper s = let c = calls_of link steps wrap titles script first last journal s in record { calls = c.calls; did = c.did; limits = c.limits proper }

module _ {C : Type 0} (link : C → Link (List ℕ)) (steps : C → Call (List ℕ) → C → Type 0)
    (law : (old : C) (call : Call (List ℕ)) (new : C) → steps old call new → Keeps (link old) call (link new)) (wrap : ℕ → ℕ → ℕ) (titles : List (List ℕ)) (timers : Timers) where
  -- no line makes the carrier less honest, or more
  lines_alike : (script : List Line) (old new : World C) (made : List Event) → HasNoInject script → RunsLines link steps wrap titles old script made new → (link new.carrier).honest ≡ (link old.carrier).honest
  lines_alike [] old new made none run = ap (λ (w : World C). (link w.carrier).honest) run.1
  lines_alike (line ∷ script) old new made none run = lines_alike script run.0 new run.2 none.1 run.5 ∙ line_alike link steps law wrap titles line old run.0 run.1 none.0 run.3

  -- calls behind others
  calls_more : (early made : List Event) (old new : World C) → AreHonestCalls link steps wrap titles timers early old → HaveCalls link steps wrap titles old made new → (link new.carrier).honest ≡ (link old.carrier).honest
      → AreHonestCalls link steps wrap titles timers (early ++ made) new
  calls_more early made old new a h alike =
      let r = a.run in
      record {
        run = record {
          made = r.made;
          placed = r.placed;
          begun = r.begun;
          first = r.first;
          calls = r.calls ++ h.calls;
          later = r.later ++ made;
          is_first = r.is_first;
          untouched = r.untouched;
          starts = r.starts;
          did = both_did link steps wrap r.calls h.calls r.first old new r.later made r.did h.did;
          journal_is = ap (λ (es : List Event). es ++ made) r.journal_is ∙ append_assoc r.begun r.later made;
        };
        timed = a.timed;
        distinct = a.distinct;
        limits = all_both KeepsLimits r.calls h.calls a.limits h.limits;
        honest = alike ∙ a.honest;
      }

pub lines_are_calls : {C : Type 0} (link : C → Link (List ℕ)) (steps : C → Call (List ℕ) → C → Type 0)
    → ((old : C) (call : Call (List ℕ)) (new : C) → steps old call new → Keeps (link old) call (link new)) → (wrap : ℕ → ℕ → ℕ) → LinesAreCalls link steps wrap
lines_are_calls link steps law wrap titles timers early made old new script a proper none run =
    calls_more link steps law wrap titles timers early made old new a (lines_called link steps wrap titles script old new made proper run) (lines_alike link steps law wrap titles timers script old new made none run)
