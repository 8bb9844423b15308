-- What the lines of a script ask stands in its journal: until the start there is no event, at the start none by which a user asks, and then each line has
-- what it asks.
use Rattle.std.proofs.Common.{◌≡◌, ◌∙◌, ℕ, Bool, true, false, List, [], ◌∷◌, ◌++◌, sym, ap, subst}
use Rattle.script_journal.specs.declared.event.Event.{Event}
use Rattle.script_journal.specs.declared.event.Event.TheVariants as events
use Rattle.script_lines.specs.declared.line.Line.{Line}
use Rattle.script_lines.specs.declared.line.Line.TheVariants as lines
use Rattle.script_setup.specs.SetUp.{SetUp, nothing_said, set_up, timers_of, titles_of as titles_said}
use Rattle.script_world.specs.Plays.{IsOfSetUp}
use Rattle.script_world.specs.declared.play.World.TheVariants.{SettingUp}
use Rattle.law_setup.proofs.Made.{net_law}
use Rattle.tp4_number.specs.Number.{wire}
use Rattle.tp4_world.specs.Asked.{AreAsked, IsAsked, asked_in}
use Rattle.tp4_world.proofs.Lined.{tells_asked, told_none}
use Rattle.law_run.specs.World.{NetDoes, SetsUp, StartsUp, World, WorldRun, WorldRuns, is_start, link_of_net, titles_of}
use Rattle.law_run.proofs.WorldLaws.{started}
use Rattle.law_run.proofs.Lawful.{runs_on}

-- ---- a line of the set-up

idle_line : (titles : List (List ℕ)) (line : Line) (made : List Event) → IsOfSetUp line → asked_in made ≡ [] → IsAsked titles line made
idle_line titles lines.Nothing made is none = none
idle_line titles (lines.Version version) made is none = none
idle_line titles (lines.Set key value) made is none = none
idle_line titles (lines.Lan name bound room) made is none = none
idle_line titles (lines.Es name title) made is none = none
idle_line titles (lines.Is name title) made is none = none
idle_line titles (lines.Port system lan snpa) made is none = none
idle_line titles (lines.Route system prefix next lan) made is none = none
idle_line titles (lines.Path name kind systems) made is none = none
idle_line titles (lines.Tsap system selector) made is none = none
idle_line titles (lines.Relay system selector to called) made is none = none
idle_line titles lines.Start made is none = none
idle_line titles (lines.Connect system selector to called options octets) made is none = absurd is
idle_line titles (lines.Accept end options octets) made is none = absurd is
idle_line titles (lines.Refuse end octets) made is none = absurd is
idle_line titles (lines.Disconnect end octets) made is none = absurd is
idle_line titles (lines.Data end octets) made is none = absurd is
idle_line titles (lines.Expedite end octets) made is none = absurd is
idle_line titles (lines.Window end credit) made is none = absurd is
idle_line titles (lines.Unit system to wish octets) made is none = absurd is
idle_line titles lines.Tick made is none = absurd is
idle_line titles lines.Settle made is none = absurd is
idle_line titles (lines.Deliver number system) made is none = absurd is
idle_line titles (lines.Inject lan system octets) made is none = absurd is
idle_line titles (lines.Restart system) made is none = absurd is
idle_line titles (lines.Send system selector to called octets) made is none = absurd is

start_asked : (setup : SetUp) (line : Line) (script : List Line) (made rest journal : List Event) (mid last : World) → IsOfSetUp line → StartsUp setup made mid → WorldRuns mid script rest last → journal ≡ made ++ rest
    → AreAsked (titles_of last) (line ∷ script) journal
start_asked setup line script made rest journal mid last of starts runs is =
    let h = started setup made mid starts in
    let on = runs_on (titles_said setup) (timers_of setup.life setup.limits) h.1 script rest last (subst (λ (w : World). WorldRuns w script rest last) h.4 runs) in
    let titles : titles_of last ≡ titles_said setup = ap (λ (w : World). titles_of w) on.is in
    let none : asked_in made ≡ [] = ap asked_in h.3.made_is ∙ told_none h.3.ups in
    let others : AreAsked (titles_said setup) script rest = tells_asked link_of_net NetDoes net_law wire (titles_said setup) h.1 script rest on.end on.runs in
    (made, rest, is, idle_line (titles_of last) line made of none, subst (λ (t : List (List ℕ)). AreAsked t script rest) (sym titles) others)

set_up_asked : (script : List Line) (setup : SetUp) (journal : List Event) (last : World) → WorldRuns (SettingUp setup) script journal last → AreAsked (titles_of last) script journal
set_up_asked [] setup journal last h = h.0
set_up_asked (line ∷ script) setup journal last h = by (is_start line) h.3.1 (λ more rest runs. set_up_asked script more rest last runs)
  where
    by : (b : Bool) → SetsUp b setup line h.1 h.0 → ((more : SetUp) (rest : List Event) → WorldRuns (SettingUp more) script rest last → AreAsked (titles_of last) script rest) → AreAsked (titles_of last) (line ∷ script) journal
    by true up others = start_asked setup line script h.1 h.2 journal h.0 last h.3.0 up h.5 h.4
    by false up others =
        (h.1, h.2, h.4, idle_line (titles_of last) line h.1 h.3.0 (ap asked_in up.0), others (set_up setup line) h.2 (subst (λ (w : World). WorldRuns w script h.2 last) up.1 h.5))

pub lines_asked : (script : List Line) (journal : List Event) (last : World) → WorldRun script journal last → AreAsked (titles_of last) script journal
lines_asked script journal last run = set_up_asked script nothing_said journal last run
