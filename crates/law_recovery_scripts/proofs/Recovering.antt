-- What was set up by a script of two end systems on one LAN is such a network, and its lines after the start are a run that recovers. So what is claimed of each run of such networks is claimed of
-- the script.
use Rattle.std.proofs.Common.{◌≡◌, ◌<◌, ℕ, List, [], ◌∷◌, ◌++◌, refl, sym, ◌∙◌, ap, subst, append_assoc}
use Rattle.lan_step.specs.Bag.{BagStep, link_of, new_bag}
use Rattle.esis_tables.specs.Rows.{Rows}
use Rattle.clnp_system.specs.Node.{Node}
use Rattle.clnp_system.specs.Tables.{rows_tables}
use Rattle.law_clnp_step.specs.Step.{Begins}
use Rattle.law_clnp_net.specs.Calm.{titles_of}
use Rattle.law_clnp_net.specs.Reached.{Reached}
use Rattle.law_clnp_net.proofs.reached.Begun.{begins_reached}
use Rattle.script_journal.specs.declared.event.Event.{Event}
use Rattle.script_lines.specs.Known.{Declared, nothing_declared}
use Rattle.script_lines.specs.Script.{Says}
use Rattle.script_lines.specs.declared.line.Line.{Line}
use Rattle.script_lines.specs.declared.line.Line.TheVariants as lines
use Rattle.script_lines.specs.declared.words.Dialect.TheVariants as dialects
use Rattle.script_setup.specs.Fitting.{IsWell}
use Rattle.script_setup.specs.SetUp.{SetUp, timers_of, titles_of as titles_said}
use Rattle.script_setup.proofs.Entities.{are_timed}
use Rattle.tp4_conn.specs.declared.timers.Timers.{Timers}
use Rattle.tp4_number.specs.Number.{whole, wire}
use Rattle.law_setup.specs.Entities.{entities_of}
use Rattle.law_setup.proofs.Made.{begins_first}
use Rattle.law_setup.proofs.Peopled.{entities_new}
use Rattle.law_recovery_scripts.specs.Laws.{ScriptsAreOrdered, NetsAsk, NetsFollow, NetsRecover, ScriptsRecover}
use Rattle.script_world.proofs.Headline.{distinct, untouched}
use Rattle.law_recovery.specs.Laws.{AsksOnWire, FollowsOnWire, RunsEndIndications, RecoversOnWire}
use Rattle.law_recovery_run.specs.Ready.{HasStarted}
use Rattle.law_recovery_run.specs.Run.{RunsOn}
use Rattle.law_run.specs.World.{Net, NetDoes, Started, TransportNet, World, link_of_net}
use Rattle.law_run.specs.Recovery.{RunsRecovering}
use Rattle.law_run.specs.Serving.{ServesAgain}
use Rattle.law_run.proofs.Calm.{have}
use Rattle.law_run.proofs.CalmNet.{MakesCalm}
use Rattle.law_recovery_scripts.specs.Nets.{OnNets}
use Rattle.law_recovery_scripts.proofs.Parts.{lines_parts, settle_alone}
use Rattle.law_recovery_scripts.proofs.Starting.{HasRunTo, has_run_to, lines_on}

-- what is promised of each run that recovers, from its start on, over the numbers of the wire: a claim of the times, of the network at the recovering `settle` and now, and of the events up to it and since
abbrev pub Promised : (Timers → TransportNet → TransportNet → List Event → List Event → Type 0) → List (List ℕ) → Net → Type 0
Promised Claims titles begins = (timers : Timers) (begun early late : List Event) (script : List Line) (first at_t0 last : TransportNet) → first.carrier ≡ begins
    → HasStarted link_of_net NetDoes titles timers begun first → timers.window < timers.inactive → RunsOn link_of_net NetDoes wire titles first at_t0 last script early late
    → Claims timers at_t0 last (begun ++ early) late

module _ (recovers_on_wire : RecoversOnWire link_of_net NetDoes) (asks_on_wire : AsksOnWire link_of_net NetDoes) (follows_on_wire : FollowsOnWire link_of_net NetDoes)
    (ends : RunsEndIndications link_of_net NetDoes wire) (recovers : NetsRecover whole) (asks : NetsAsk whole) (follows : NetsFollow whole) where
  -- what is claimed of networks of two end systems on one LAN is promised of each run
  pub nets_serve : OnNets (Promised ServesAgain)
  nets_serve rows first second here there begins calm reached timers begun early late script start at_t0 last is s order run =
      let titles = titles_of first second in
      record {
        recovered = recovers_on_wire titles begins (recovers rows first second here there begins calm reached) timers s.made s.placed begun early late script start at_t0 last is s.timed order s.distinct s.have s.is_first
            s.untouched s.starts run;
        asked = asks_on_wire titles begins (asks rows first second here there begins calm reached) timers s.made s.placed begun early late script start at_t0 last is s.timed s.distinct s.have s.is_first s.untouched
            s.starts run;
        followed = follows_on_wire titles begins (follows rows first second here there begins calm reached) timers begun early late script start at_t0 last is s run;
        indications = ends titles timers begun early late script start at_t0 last s run;
      }

-- ---- what was set up

module _ (setup : SetUp) (calm : MakesCalm setup) (made : List Event) (mid : World) (starts : Started setup made mid) where
  -- what is known of each state of such a network is known of it once it has started
  pub begins_known : Reached setup.ports calm.first calm.second starts.1.carrier
  begins_known =
      let starting = starts.3 in
      subst (λ (w : TransportNet). Reached setup.ports calm.first calm.second w.carrier) (sym starting.becomes)
      (begins_reached setup.lans setup.ports calm.first calm.second calm.here calm.there setup.life starts.0 starting.below starting.ups calm.calm
      (subst (λ (nodes : List (Node Rows)). Begins link_of BagStep rows_tables (new_bag setup.lans setup.ports) nodes setup.life starts.0) calm.nodes starts.2) starting.gathers)

  -- so is what is claimed from a state on
  pub holds_from : (Holds : List (List ℕ) → Net → Type 0) → OnNets Holds → Holds (titles_said setup) starts.1.carrier
  holds_from Holds nets =
      subst (λ (titles : List (List ℕ)). Holds titles starts.1.carrier) (sym calm.titles) (nets setup.ports calm.first calm.second calm.here calm.there starts.1.carrier calm.calm begins_known)

  -- and it started as a network does
  pub started : IsWell setup → HasStarted link_of_net NetDoes (titles_said setup) (timers_of setup.life setup.limits) made starts.1
  started well = record {
    made = starts.0;
    placed = entities_of setup;
    timed = are_timed setup.life setup.limits well.limits well.times.most_life;
    distinct = distinct (titles_said setup) well.distinct;
    have = have setup calm;
    is_first = record { carrier_is = begins_first setup starts.0 starts.2; entities = entities_new setup };
    untouched = untouched setup;
    starts = starts.3;
  }

-- ---- a script that runs so

module _ (law : ScriptsAreOrdered) (texts : List (List ℕ)) (script : List Line) (names : Declared) (titles : List (List ℕ)) (timers : Timers) (early late : List Event) (at_t0 last : TransportNet)
    (says : Says (nothing_declared dialects.Run) texts script names) (runs : RunsRecovering script titles timers early late at_t0 last) where
  abbrev before : List Line
  before = runs.parts.recovers.before

  abbrev after : List Line
  after = runs.parts.recovers.after

  -- the lines after the start up to that `settle`
  abbrev front : List Line
  front = before ++ lines.Settle ∷ []

  to_t0 : HasRunTo titles timers early at_t0 front after
  to_t0 =
      has_run_to law texts script names runs.parts.setup front after titles timers early at_t0 says
      (runs.parts.script_is ∙ ap (λ (run : List Line). runs.parts.setup ++ lines.Start ∷ run) (runs.parts.recovers.script_is ∙ sym (append_assoc before (lines.Settle ∷ []) after)))
      runs.parts.one_lan runs.early_run

  abbrev setup : SetUp
  setup = to_t0.setup

  abbrev first : TransportNet
  first = to_t0.starts.1

  -- the lines after the start
  on : RunsOn link_of_net NetDoes wire (titles_said setup) first at_t0 last (front ++ after) to_t0.rest late
  on =
      let parts = lines_parts (titles_said setup) first before (lines.Settle ∷ []) to_t0.rest at_t0 to_t0.front_run in
      record {
        recovers = record {
          before = before;
          after = after;
          script_is = append_assoc before (lines.Settle ∷ []) after;
          no_inject = runs.parts.recovers.no_inject;
          settled = runs.parts.recovers.settled;
        };
        old = parts.mid;
        front = parts.early;
        here = parts.late;
        early_is = parts.is;
        early_run = parts.front;
        settle_run = settle_alone (titles_said setup) parts.mid parts.late at_t0 parts.back;
        none_left = runs.none_left;
        late_run = lines_on titles (titles_said setup) timers at_t0 after late last to_t0.titles_are runs.late_run;
        kept = runs.kept;
        proper = to_t0.proper;
        unrouted = to_t0.unrouted;
      }

  -- what is promised of each run that recovers holds of this one
  promised : (Claims : Timers → TransportNet → TransportNet → List Event → List Event → Type 0) → OnNets (Promised Claims) → Claims timers at_t0 last early late
  promised Claims nets =
      subst (λ (events : List Event). Claims timers at_t0 last events late) (sym to_t0.early_is)
      (subst (λ (t : Timers). Claims t at_t0 last (to_t0.made ++ to_t0.rest) late) (sym to_t0.timers_are)
      (holds_from setup to_t0.calm to_t0.made to_t0.mid to_t0.starts (Promised Claims) nets (timers_of setup.life setup.limits) to_t0.made to_t0.rest late (front ++ after) first at_t0 last refl
      (started setup to_t0.calm to_t0.made to_t0.mid to_t0.starts to_t0.well) to_t0.order on))

pub scripts_recover : OnNets (Promised ServesAgain) → ScriptsAreOrdered → ScriptsRecover
scripts_recover nets law texts script names titles timers early late at_t0 last says runs = promised law texts script names titles timers early late at_t0 last says runs ServesAgain nets
