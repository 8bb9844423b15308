-- A script of two end systems on one LAN, of which the first lines after the start have run: what was set up is such a network, with timers of which W is less than I, and these lines ran on it.
use Rattle.std.proofs.Common.{◌≡◌, ◌<◌, ℕ, List, ◌∷◌, ◌++◌, sym, ◌∙◌, ap, subst, append_assoc}
use Rattle.std.specs.List.{AllByRecursion}
use Rattle.script_journal.specs.declared.event.Event.{Event}
use Rattle.script_lines.specs.Known.{Declared, nothing_declared}
use Rattle.script_lines.specs.Script.{Says}
use Rattle.script_lines.specs.declared.line.Line.{Line}
use Rattle.script_lines.specs.declared.line.Line.TheVariants as lines
use Rattle.script_lines.specs.declared.words.Dialect.TheVariants as dialects
use Rattle.script_setup.specs.Fitting.{IsWell}
use Rattle.script_setup.specs.SetUp.{SetUp, nothing_said, timers_of, titles_of as titles_said}
use Rattle.tp4_conn.specs.declared.timers.Timers.{Timers}
use Rattle.tp4_number.specs.Number.{wire}
use Rattle.tp4_world.specs.Run.{RunsLines}
use Rattle.law_tp4_pair.specs.CalmScript.{IsOneLan}
use Rattle.law_tp4_lawful.specs.Limits.{IsProperLine}
use Rattle.law_calm_run.specs.Run.{IsUnrouted}
use Rattle.law_setup.proofs.Proper.{script_proper}
use Rattle.law_recovery_scripts.specs.Laws.{ScriptsAreOrdered}
use Rattle.script_world.specs.Transports.{TransportRun}
use Rattle.law_run.specs.World.{Net, NetDoes, Started, TransportNet, World, WorldRun, WorldRuns, link_of_net, running}
use Rattle.law_run.proofs.CalmNet.{MakesCalm, makes_calm}
use Rattle.law_run.proofs.CalmRun.{all_unrouted, starts_from_nothing}
use Rattle.law_run.proofs.Lawful.{runs_on}
use Rattle.law_recovery_scripts.proofs.Parts.{run_of, same_run, says_joined, says_parts, set_by}

-- lines of a running network are lines of its ends, with titles that are its own
pub lines_on : (titles others : List (List ℕ)) (timers : Timers) (old : TransportNet) (script : List Line) (journal : List Event) (last : TransportNet) → titles ≡ others
    → WorldRuns (running titles timers old) script journal (running titles timers last) → RunsLines link_of_net NetDoes wire others old script journal last
lines_on titles others timers old script journal last same run =
    let on = runs_on titles timers old script journal (running titles timers last) run in
    subst (λ (t : List (List ℕ)). RunsLines link_of_net NetDoes wire t old script journal last) same
    (subst (λ (w : TransportNet). RunsLines link_of_net NetDoes wire titles old script journal w)
    (sym (ap (λ (r : TransportRun Net). r.ends) (same_run (run_of titles timers last) (run_of titles timers on.end) on.is))) on.runs)

-- what was set up, what it made at its start, and the lines `front` from there on; `after`: the lines behind these
pub record HasRunTo (titles : List (List ℕ)) (timers : Timers) (early : List Event) (there : TransportNet) (front after : List Line) : Type 0 where
  pub setup : SetUp
  pub well : IsWell setup
  pub calm : MakesCalm setup
  pub order : (timers_of setup.life setup.limits).window < (timers_of setup.life setup.limits).inactive
  pub titles_are : titles ≡ titles_said setup
  pub timers_are : timers ≡ timers_of setup.life setup.limits
  pub made : List Event
  pub rest : List Event
  pub early_is : early ≡ made ++ rest
  pub mid : World
  pub starts : Started setup made mid
  pub front_run : RunsLines link_of_net NetDoes wire (titles_said setup) starts.1 front rest there
  pub proper : AllByRecursion IsProperLine (front ++ after)
  pub unrouted : AllByRecursion IsUnrouted (front ++ after)

pub has_run_to : ScriptsAreOrdered → (texts : List (List ℕ)) (script : List Line) (names : Declared) (setup front after : List Line) (titles : List (List ℕ)) (timers : Timers) (early : List Event) (there : TransportNet)
    → Says (nothing_declared dialects.Run) texts script names → script ≡ setup ++ lines.Start ∷ (front ++ after) → IsOneLan setup
    → WorldRun (setup ++ lines.Start ∷ front) early (running titles timers there) → HasRunTo titles timers early there front after
has_run_to law texts script names setup front after titles timers early there says script_is one_lan run =
    let said = says_parts (nothing_declared dialects.Run) names texts (setup ++ lines.Start ∷ front) after
    (subst (λ (s : List Line). Says (nothing_declared dialects.Run) texts s names) (script_is ∙ sym (append_assoc setup (lines.Start ∷ front) after)) says) in
    let before = says_parts (nothing_declared dialects.Run) said.mid said.front setup (lines.Start ∷ front) said.first in
    let found = starts_from_nothing said.front setup front said.mid early (running titles timers there) said.first run one_lan.none in
    let times : Timers = timers_of found.setup.life found.setup.limits in
    let on = runs_on (titles_said found.setup) times found.starts.1 front found.rest (running titles timers there)
    (subst (λ (w : World). WorldRuns w front found.rest (running titles timers there)) found.starts.4 found.runs) in
    let same = same_run (run_of titles timers there) (run_of (titles_said found.setup) times on.end) on.is in
    let run_said = says_joined found.names said.mid names found.texts said.back front after found.says said.second in
    record {
      setup = found.setup;
      well = found.well;
      calm = makes_calm setup found.setup found.sets found.well one_lan found.lives;
      order = subst (λ (s : SetUp). (timers_of s.life s.limits).window < (timers_of s.life s.limits).inactive) (sym (set_by nothing_said found.setup setup found.sets))
          (law dialects.Run before.front setup (before.mid, before.first));
      titles_are = ap (λ (r : TransportRun Net). r.titles) same;
      timers_are = ap (λ (r : TransportRun Net). r.timers) same;
      made = found.made;
      rest = found.rest;
      early_is = found.journal_is;
      mid = found.mid;
      starts = found.starts;
      front_run = subst (λ (w : TransportNet). RunsLines link_of_net NetDoes wire (titles_said found.setup) found.starts.1 front found.rest w)
          (sym (ap (λ (r : TransportRun Net). r.ends) same)) on.runs;
      proper = script_proper found.names (found.texts ++ said.back) (front ++ after) names found.begins run_said;
      unrouted = all_unrouted found.names names (found.texts ++ said.back) (front ++ after) found.begins found.ends run_said;
    }
