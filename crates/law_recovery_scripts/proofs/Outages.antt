-- A script with an outage: its lines after the start are a run with an outage, of a network that keeps its connections through a short one. Such a network does so since the ends of each run of it
-- that recovers do so, and since its lines go in order from a state on in which nothing is left to deliver; at its start nothing is.
use Rattle.std.proofs.Common.{ℕ, List, [], ◌∷◌, ◌++◌, None, refl, sym, ◌∙◌, ap, subst, append_assoc}
use Rattle.std.specs.List.{AllByRecursion}
use Rattle.nsap.specs.declared.port.Port.{Port}
use Rattle.osi_base.specs.Link.{IsLeastFresh}
use Rattle.lan_step.specs.Bag.{BagStep, link_of, new_bag}
use Rattle.lan_step.specs.declared.row.PortRow.{PortRow}
use Rattle.esis_tables.specs.Rows.{Rows}
use Rattle.clnp_system.specs.Node.{Node}
use Rattle.clnp_system.specs.Setting.{Setting}
use Rattle.clnp_system.specs.Tables.{rows_tables}
use Rattle.law_clnp_step.specs.Step.{Begins}
use Rattle.net_world.specs.Told.{told}
use Rattle.law_clnp_net.specs.Calm.{IsCalmNet, titles_of}
use Rattle.law_clnp_net.specs.Reached.{Reached}
use Rattle.law_clnp_net.specs.Waiting.{Waits}
use Rattle.script_journal.specs.declared.event.Event.{Event}
use Rattle.script_lines.specs.Known.{Declared, nothing_declared}
use Rattle.script_lines.specs.Script.{Says}
use Rattle.script_lines.specs.declared.line.Line.{Line}
use Rattle.script_lines.specs.declared.line.Line.TheVariants as lines
use Rattle.script_lines.specs.declared.words.Dialect.TheVariants as dialects
use Rattle.script_setup.specs.SetUp.{SetUp, timers_of, titles_of as titles_said}
use Rattle.script_setup.proofs.Entities.{are_timed}
use Rattle.tp4_conn.specs.declared.timers.Timers.{Timers}
use Rattle.tp4_number.specs.Number.{whole, wire}
use Rattle.law_tp4_pair.specs.CalmScript.{IsSettledScript}
use Rattle.law_tp4_pair.specs.Claim.{IsUndropped}
use Rattle.law_calm_run.proofs.Queueing.{all_parts, none_dropped}
use Rattle.law_recovery_run.specs.Losses.{IsKept}
use Rattle.law_recovery_run.proofs.Going.{has_gone}
use Rattle.law_recovery_run.proofs.Ordered.{undropped}
use Rattle.law_recovery.specs.Laws.{OutagesOnWire, RecoveringIsKept}
use Rattle.law_recovery.specs.Outage.{AreKept, AreKeptCalm, AreOrdered, CalmOutagesFrom, OutagesFrom, RunsThrough}
use Rattle.law_recovery.proofs.Joining.{are_ordered}
use Rattle.law_setup.specs.Entities.{entities_of}
use Rattle.law_setup.proofs.Made.{begins_first, net_law}
use Rattle.law_setup.proofs.Peopled.{entities_new}
use Rattle.law_recovery_scripts.specs.Laws.{ScriptsAreOrdered, NetsRecover, ScriptsKept}
use Rattle.script_world.proofs.Headline.{distinct, untouched}
use Rattle.law_run.specs.Outage.{KeepsThrough, RunsThroughOutage}
use Rattle.law_run.specs.World.{Net, NetDoes, Started, TransportNet, World, link_of_net}
use Rattle.law_run.proofs.Calm.{have}
use Rattle.law_run.proofs.CalmNet.{MakesCalm}
use Rattle.law_recovery_scripts.proofs.Parts.{lines_parts, settle_alone}
use Rattle.law_recovery_scripts.proofs.Prompt.{nets_prompt}
use Rattle.law_recovery_scripts.proofs.Quiet.{begins_quiet}
use Rattle.law_recovery_scripts.proofs.Recovering.{begins_known}
use Rattle.law_recovery_scripts.proofs.Starting.{HasRunTo, has_run_to, lines_on}

-- ---- networks

-- each run with an outage from there on keeps its connections, over the numbers of the wire
record KeepsFrom (titles : List (List ℕ)) (begins : Net) : Type 0 where
  outages : OutagesFrom link_of_net NetDoes wire titles begins
  calm : CalmOutagesFrom link_of_net NetDoes wire titles begins

-- lines that are settled and lose nothing go in order
nets_ordered : (rows : List PortRow) (first second : Setting) (here there : Port) (begins : Net) → IsCalmNet rows first second here there → Reached rows first second begins
    → AreOrdered link_of_net NetDoes (titles_of first second) begins
nets_ordered rows first second here there begins calm reached =
    are_ordered link_of_net NetDoes (titles_of first second) begins (Waits rows first second here there)
    (has_gone link_of_net NetDoes net_law (titles_of first second) begins (Waits rows first second here there) (nets_prompt rows first second here there begins calm reached))

nets_keep : RecoveringIsKept link_of_net NetDoes → OutagesOnWire link_of_net NetDoes → NetsRecover whole → (rows : List PortRow) (first second : Setting) (here there : Port) (begins : Net)
    → IsCalmNet rows first second here there → Reached rows first second begins → KeepsFrom (titles_of first second) begins
nets_keep keeps on_wire nets rows first second here there begins calm reached =
    let kept = keeps (titles_of first second) begins (nets rows first second here there begins calm reached) in
    let below = on_wire (titles_of first second) begins in
    record { outages = below.0 kept.0; calm = below.1 (kept.1 (nets_ordered rows first second here there begins calm reached)) }

-- ---- what was set up

-- at its start, where nothing was dropped
quiet_start : (setup : SetUp) (calm : MakesCalm setup) (made : List Event) (mid : World) (starts : Started setup made mid) → AllByRecursion IsUndropped made
    → IsLeastFresh (link_of_net starts.1.carrier) None
quiet_start setup calm made mid starts none =
    let starting = starts.3 in
    let told_none : AllByRecursion IsUndropped (told starting.ups) = (subst (AllByRecursion IsUndropped) starting.made_is none).1 in
    subst (λ (w : TransportNet). IsLeastFresh (link_of_net w.carrier) None) (sym starting.becomes)
    (begins_quiet setup.lans setup.ports calm.first calm.second calm.here calm.there setup.life starts.0 starting.below starting.ups calm.calm
    (subst (λ (nodes : List (Node Rows)). Begins link_of BagStep rows_tables (new_bag setup.lans setup.ports) nodes setup.life starts.0) calm.nodes starts.2) starting.gathers
    (none_dropped starting.ups told_none))

-- ---- a script that runs so

module _ (law : ScriptsAreOrdered) (keeps : RecoveringIsKept link_of_net NetDoes) (on_wire : OutagesOnWire link_of_net NetDoes) (nets : NetsRecover whole) where
  module _ (texts : List (List ℕ)) (script : List Line) (names : Declared) (titles : List (List ℕ)) (timers : Timers) (early lost late : List Event) (at_s at_t0 last : TransportNet)
      (says : Says (nothing_declared dialects.Run) texts script names) (runs : RunsThroughOutage script titles timers early lost late at_s at_t0 last) where
    abbrev behind : List Line
    behind = runs.parts.between ++ lines.Settle ∷ runs.parts.after

    to_s : HasRunTo titles timers early at_s runs.parts.front behind
    to_s =
        has_run_to law texts script names runs.parts.setup runs.parts.front behind titles timers early at_s says
        (runs.parts.script_is
        ∙ ap (λ (run : List Line). runs.parts.setup ++ lines.Start ∷ run) (append_assoc runs.parts.front runs.parts.between (lines.Settle ∷ runs.parts.after)))
        runs.parts.one_lan runs.early_run

    abbrev setup : SetUp
    setup = to_s.setup

    abbrev times : Timers
    times = timers_of setup.life setup.limits

    abbrev first : TransportNet
    first = to_s.starts.1

    -- the lines after the start
    through : RunsThrough link_of_net NetDoes wire (titles_said setup) first at_s at_t0 last (runs.parts.front ++ behind) to_s.rest lost late
    through =
        let parts =
        lines_parts (titles_said setup) at_s runs.parts.between (lines.Settle ∷ []) lost at_t0
        (lines_on titles (titles_said setup) timers at_s (runs.parts.between ++ lines.Settle ∷ []) lost at_t0 to_s.titles_are runs.lost_run) in
        record {
          front = runs.parts.front;
          between = runs.parts.between;
          after = runs.parts.after;
          script_is = sym (append_assoc runs.parts.front runs.parts.between (lines.Settle ∷ runs.parts.after));
          no_inject = runs.parts.no_inject;
          settled = runs.parts.settled;
          front_run = to_s.front_run;
          old = parts.mid;
          made = parts.early;
          here = parts.late;
          lost_is = parts.is;
          between_run = parts.front;
          settle_run = settle_alone (titles_said setup) parts.mid parts.late at_t0 parts.back;
          none_left = runs.none_left;
          late_run = lines_on titles (titles_said setup) timers at_t0 runs.parts.after late last to_s.titles_are runs.late_run;
          kept = runs.kept;
          proper = to_s.proper;
          unrouted = to_s.unrouted;
        }

    keeps_from : KeepsFrom (titles_said setup) first.carrier
    keeps_from =
        subst (λ (t : List (List ℕ)). KeepsFrom t first.carrier) (sym to_s.calm.titles)
        (nets_keep keeps on_wire nets setup.ports to_s.calm.first to_s.calm.second to_s.calm.here to_s.calm.there first.carrier to_s.calm.calm
        (begins_known setup to_s.calm to_s.made to_s.mid to_s.starts))

    kept : AreKept link_of_net times at_s at_t0 last (to_s.made ++ to_s.rest) lost late
    kept =
        keeps_from.outages times to_s.starts.0 (entities_of setup) to_s.made to_s.rest lost late (runs.parts.front ++ behind) first at_s at_t0 last refl
        (are_timed setup.life setup.limits to_s.well.limits to_s.well.times.most_life) to_s.order (distinct (titles_said setup) to_s.well.distinct) (have setup to_s.calm)
        (record { carrier_is = begins_first setup to_s.starts.0 to_s.starts.2; entities = entities_new setup }) (untouched setup) to_s.starts.3 through

    calm : IsSettledScript runs.parts.front → AllByRecursion IsKept (to_s.made ++ to_s.rest) → AreKeptCalm link_of_net times at_s at_t0 last (to_s.made ++ to_s.rest) lost late
    unfolding through
    calm settled all =
        let parts = all_parts IsKept to_s.made to_s.rest all in
        keeps_from.calm times to_s.starts.0 (entities_of setup) to_s.made to_s.rest lost late (runs.parts.front ++ behind) first at_s at_t0 last refl
        (are_timed setup.life setup.limits to_s.well.limits to_s.well.times.most_life) to_s.order (distinct (titles_said setup) to_s.well.distinct) (have setup to_s.calm)
        (record { carrier_is = begins_first setup to_s.starts.0 to_s.starts.2; entities = entities_new setup }) (untouched setup) to_s.starts.3 through
        (quiet_start setup to_s.calm to_s.made to_s.mid to_s.starts (undropped to_s.made parts.0)) settled parts.1

    keeps_through : KeepsThrough timers runs.parts.front early lost late at_s at_t0 last
    keeps_through =
        subst (λ (events : List Event). KeepsThrough timers runs.parts.front events lost late at_s at_t0 last) (sym to_s.early_is)
        (subst (λ (t : Timers). KeepsThrough t runs.parts.front (to_s.made ++ to_s.rest) lost late at_s at_t0 last) (sym to_s.timers_are) (record { kept = kept; calm = calm }))

  pub scripts_kept : ScriptsKept
  scripts_kept texts script names titles timers early lost late at_s at_t0 last says runs =
      keeps_through texts script names titles timers early lost late at_s at_t0 last says runs
