-- The raw units of a run are lawful, where no strays are told: until the start none is shown, and from then on the network is a carrier that keeps its law.
use Rattle.std.proofs.Common.{◌≡◌, ℕ, Bool, true, false, List, [], ◌∷◌, ◌++◌, None, refl, sym, ◌∙◌, ap, subst}
use Rattle.tp4_number.specs.Number.{wire}
use Rattle.tp4_world.specs.Run.{RunsLines}
use Rattle.tp4_world.proofs.Shown.{sent_where_honest}
use Rattle.script_journal.specs.declared.event.Event.{Event}
use Rattle.script_journal.specs.declared.event.Event.TheVariants as events
use Rattle.script_journal.specs.RawLawful.{RawLawful}
use Rattle.script_lines.specs.declared.words.Dialect.TheVariants as dialects
use Rattle.script_lines.specs.declared.line.Line.{Line}
use Rattle.script_lines.specs.Injecting.{HasNoInject}
use Rattle.script_lines.specs.Known.{Declared, nothing_declared}
use Rattle.script_lines.specs.Script.{Says}
use Rattle.script_setup.specs.SetUp.{SetUp, nothing_said, set_up, timers_of, titles_of as titles_said}
use Rattle.law_setup.specs.Entities.{entities_of}
use Rattle.law_run.specs.World.{TransportNet, NetDoes, SetsUp, StartsUp, World, WorldRun, WorldRuns, is_start, life_of, link_of_net, running, strays_of, titles_of}
use Rattle.law_setup.specs.ClnpNets.{MakesNet}
use Rattle.script_world.proofs.Headline.{script_unstrayed, still_honest}
use Rattle.script_world.specs.declared.play.World.TheVariants.{SettingUp}
use Rattle.law_setup.proofs.Made.{begins_first, net_law, net_laws}
use Rattle.law_setup.proofs.Peopled.{entities_new}
use Rattle.law_run.proofs.WorldLaws.{ran_line, started}
use Rattle.tp4_conn.specs.declared.timers.Timers.{Timers}

-- ---- a running network

-- the lines of a run of the network, by which it came to this state
pub record RunsOn (titles : List (List ℕ)) (timers : Timers) (first : TransportNet) (script : List Line) (journal : List Event) (last : World) : Type 0 where
  pub end : TransportNet
  pub runs : RunsLines link_of_net NetDoes wire titles first script journal end
  pub is : last ≡ running titles timers end

pub runs_on : (titles : List (List ℕ)) (timers : Timers) (first : TransportNet) (script : List Line) (journal : List Event) (last : World) → WorldRuns (running titles timers first) script journal last
    → RunsOn titles timers first script journal last
runs_on titles timers first [] journal last h = record { end = first; runs = (h.0, refl); is = h.1 }
runs_on titles timers first (line ∷ script) journal last h =
    let step = ran_line titles timers first line h.1 h.0 h.3 in
    let rest = runs_on titles timers step.0 script h.2 last (subst (λ (w : World). WorldRuns w script h.2 last) step.2 h.5) in
    record { end = rest.end; runs = (step.0, h.1, h.2, step.1, h.4, rest.runs); is = rest.is }

-- ---- the set-up and the start

none_lawful : (life : ℕ) (titles : List (List ℕ)) (journal : List Event) → journal ≡ [] → RawLawful life titles journal
none_lawful life titles journal none = λ before after system from octets is. absurd (no_event (events.Unit system from octets) after before (sym none ∙ is))
  where
    no_event : (event : Event) (after before : List Event) → [] ≡ before ++ event ∷ after → ⊥
    no_event event after [] is = cc
    no_event event after (first ∷ before) is = cc

-- where no strays are told the network is honest
honest_at : (titles : List (List ℕ)) (timers : Timers) (end : TransportNet) (last : World) → last ≡ running titles timers end → strays_of last ≡ None → (link_of_net end.carrier).honest ≡ true
honest_at titles timers end last is none = still_honest (link_of_net end.carrier).honest (link_of_net end.carrier).strays (sym (ap (λ (w : World). strays_of w) is) ∙ none)

started_lawful : (setup : SetUp) (script : List Line) (made rest journal : List Event) (mid last : World) → StartsUp setup made mid → WorldRuns mid script rest last → journal ≡ made ++ rest → strays_of last ≡ None
    → RawLawful (life_of last) (titles_of last) journal
started_lawful setup script made rest journal mid last starts runs is none =
    let h = started setup made mid starts in
    let on = runs_on (titles_said setup) (timers_of setup.life setup.limits) h.1 script rest last (subst (λ (w : World). WorldRuns w script rest last) h.4 runs) in
    let lawful : RawLawful setup.life (titles_said setup) (made ++ rest) =
    sent_where_honest link_of_net NetDoes net_law wire setup.life (titles_said setup) h.0 (entities_of setup) made rest script h.1 on.end (record { carrier_is = begins_first setup h.0 h.2; entities = entities_new setup }) h.3 on.runs
    (honest_at (titles_said setup) (timers_of setup.life setup.limits) on.end last on.is none) in
    subst (λ (w : World). RawLawful (life_of w) (titles_of w) journal) (sym on.is) (subst (RawLawful setup.life (titles_said setup)) (sym is) lawful)

module _ (line : Line) (script : List Line)
    (others : (setup : SetUp) (journal : List Event) (last : World) → WorldRuns (SettingUp setup) script journal last → strays_of last ≡ None → RawLawful (life_of last) (titles_of last) journal) where
  by_line : (start : Bool) (setup : SetUp) (made rest journal : List Event) (mid last : World) → SetsUp start setup line made mid → WorldRuns mid script rest last → journal ≡ made ++ rest → strays_of last ≡ None
      → RawLawful (life_of last) (titles_of last) journal
  by_line true setup made rest journal mid last h runs is none = started_lawful setup script made rest journal mid last h runs is none
  by_line false setup made rest journal mid last h runs is none =
      let all : rest ≡ journal = sym (is ∙ ap (λ (m : List Event). m ++ rest) h.0) in
      subst (RawLawful (life_of last) (titles_of last)) all (others (set_up setup line) rest last (subst (λ (w : World). WorldRuns w script rest last) h.1 runs) none)

set_up_lawful : (script : List Line) (setup : SetUp) (journal : List Event) (last : World) → WorldRuns (SettingUp setup) script journal last → strays_of last ≡ None → RawLawful (life_of last) (titles_of last) journal
set_up_lawful [] setup journal last h none = none_lawful (life_of last) (titles_of last) journal h.0
set_up_lawful (line ∷ script) setup journal last h none =
    by_line line script (λ more rest end runs unstrayed. set_up_lawful script more rest end runs unstrayed) (is_start line) setup h.1 h.2 journal h.0 last h.3.1 h.5 h.4 none

pub raw_lawful : (script : List Line) (journal : List Event) (last : World) → WorldRun script journal last → strays_of last ≡ None → RawLawful (life_of last) (titles_of last) journal
raw_lawful script journal last h none = set_up_lawful script nothing_said journal last h none

-- ---- strays

-- none are told where no line of the script is an `inject` line
pub unstrayed : (texts : List (List ℕ)) (script : List Line) (names : Declared) (journal : List Event) (last : World) → Says (nothing_declared dialects.Run) texts script names → WorldRun script journal last
    → HasNoInject script → strays_of last ≡ None
unstrayed = script_unstrayed link_of_net NetDoes MakesNet dialects.Run net_laws net_law
