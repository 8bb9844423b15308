-- Lines in two parts: what they say, and how they run.
use Rattle.std.proofs.Common.{◌≡◌, ℕ, List, [], ◌∷◌, ◌++◌, refl, sym, ◌∙◌, ap, subst, append_assoc}
use Rattle.std.proofs.lemmas.List.{append-nil}
use Rattle.script_journal.specs.declared.event.Event.{Event}
use Rattle.script_lines.specs.Known.{Declared}
use Rattle.script_lines.specs.Script.{Says}
use Rattle.script_lines.specs.declared.line.Line.{Line}
use Rattle.script_lines.specs.declared.line.Line.TheVariants as lines
use Rattle.script_setup.specs.SetUp.{SetUp, set_up}
use Rattle.script_world.specs.Transports.{TransportRun}
use Rattle.script_world.specs.declared.play.World.TheVariants.{Running}
use Rattle.tp4_conn.specs.declared.timers.Timers.{Timers}
use Rattle.tp4_number.specs.Number.{wire}
use Rattle.tp4_world.specs.Run.{RunsLine, RunsLines}
use Rattle.law_run.specs.World.{Net, NetDoes, TransportNet, link_of_net}
use Rattle.law_run.proofs.CalmDrawn.{SetBy}
use Rattle.law_recovery_scripts.specs.Ordered.{set_up_by}

-- ---- what lines say

pub record SaysBoth (names : Declared) (before after : List Line) (last : Declared) : Type 0 where
  pub front : List (List ℕ)
  pub back : List (List ℕ)
  pub mid : Declared
  pub first : Says names front before mid
  pub second : Says mid back after last

pub says_parts : (names last : Declared) (texts : List (List ℕ)) (before after : List Line) → Says names texts (before ++ after) last → SaysBoth names before after last
says_parts names last texts [] after says = record { front = []; back = texts; mid = names; first = refl; second = says }
says_parts names last [] (line ∷ before) after says = absurd says
says_parts names last (text ∷ texts) (line ∷ before) after says =
    let rest = says_parts says.0 last texts before after says.2 in
    record { front = text ∷ rest.front; back = rest.back; mid = rest.mid; first = (says.0, says.1, rest.first); second = rest.second }

pub says_joined : (names mid last : Declared) (front back : List (List ℕ)) (before after : List Line) → Says names front before mid → Says mid back after last → Says names (front ++ back) (before ++ after) last
says_joined names mid last [] back [] after first second = subst (λ (n : Declared). Says n back after last) first second
says_joined names mid last [] back (line ∷ before) after first second = absurd first
says_joined names mid last (text ∷ front) back [] after first second = absurd first
says_joined names mid last (text ∷ front) back (line ∷ before) after first second = (first.0, first.1, says_joined first.0 mid last front back before after first.2 second)

-- ---- how they run

pub record RunsBoth (titles : List (List ℕ)) (first : TransportNet) (before after : List Line) (journal : List Event) (last : TransportNet) : Type 0 where
  pub mid : TransportNet
  pub early : List Event
  pub late : List Event
  pub front : RunsLines link_of_net NetDoes wire titles first before early mid
  pub back : RunsLines link_of_net NetDoes wire titles mid after late last
  pub is : journal ≡ early ++ late

pub lines_parts : (titles : List (List ℕ)) (first : TransportNet) (before after : List Line) (journal : List Event) (last : TransportNet)
    → RunsLines link_of_net NetDoes wire titles first (before ++ after) journal last → RunsBoth titles first before after journal last
lines_parts titles first [] after journal last run = record { mid = first; early = []; late = journal; front = (refl, refl); back = run; is = refl }
lines_parts titles first (line ∷ before) after journal last run =
    let rest = lines_parts titles run.0 before after run.2 last run.5 in
    record {
      mid = rest.mid;
      early = run.1 ++ rest.early;
      late = rest.late;
      front = (run.0, run.1, rest.early, run.3, refl, rest.front);
      back = rest.back;
      is = run.4 ∙ ap (λ (events : List Event). run.1 ++ events) rest.is ∙ sym (append_assoc run.1 rest.early rest.late);
    }

pub settle_alone : (titles : List (List ℕ)) (old : TransportNet) (made : List Event) (new : TransportNet) → RunsLines link_of_net NetDoes wire titles old (lines.Settle ∷ []) made new
    → RunsLine link_of_net NetDoes wire titles old lines.Settle made new
settle_alone titles old made new run =
    let same : made ≡ run.1 = run.4 ∙ ap (λ (rest : List Event). run.1 ++ rest) run.5.0 ∙ append-nil run.1 in
    subst (λ (w : TransportNet). RunsLine link_of_net NetDoes wire titles old lines.Settle made w) (sym run.5.1)
    (subst (λ (events : List Event). RunsLine link_of_net NetDoes wire titles old lines.Settle events run.0) (sym same) run.3)

-- what runs, with these titles and times
abbrev pub run_of : List (List ℕ) → Timers → TransportNet → TransportRun Net
run_of titles timers ends = record { titles = titles; timers = timers; ends = ends }

pub same_run : (one other : TransportRun Net) → Running one ≡ Running other → one ≡ other
same_run one other is = cc is

-- ---- what they set up

pub set_by : (old new : SetUp) (script : List Line) → SetBy old script new → new ≡ set_up_by old script
set_by old new [] sets = sets
set_by old new (line ∷ script) sets = set_by (set_up old line) new script sets.1
