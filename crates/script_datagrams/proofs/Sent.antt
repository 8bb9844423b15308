-- Each datagram that a script shows was sent: until the start nothing is told, and what holds of a network of users and of its journal holds at its
-- start and after each line.
use Rattle.std.proofs.Common.{◌≡◌, ℕ, Bool, true, false, List, [], ◌∷◌, ◌++◌, refl, sym, ◌∙◌, ap, subst, append_assoc}
use Rattle.std.proofs.lemmas.List.{append-nil}
use Rattle.osi_base.specs.Link.{Link}
use Rattle.osi_base.specs.Calls.{Call, Keeps}
use Rattle.net_world.specs.First.{IsFirst}
use Rattle.cltp.specs.First.{IsNew}
use Rattle.cltp.specs.Lawful.{DatagramLawful}
use Rattle.cltp.specs.Systems.{World}
use Rattle.cltp.specs.declared.system.ClSystem.{ClSystem}
use Rattle.cltp.proofs.Runs.{Rests, call_rests, first_rests}
use Rattle.script_journal.specs.declared.event.Event.{Event}
use Rattle.script_journal.specs.declared.event.Event.TheVariants as events
use Rattle.script_lines.specs.declared.words.Dialect.TheVariants as dialects
use Rattle.script_lines.specs.declared.line.Line.{Line}
use Rattle.script_lines.specs.declared.line.Line.TheVariants as lines
use Rattle.script_lines.specs.Known.{Declared, nothing_declared}
use Rattle.script_lines.specs.Script.{Says}
use Rattle.script_setup.specs.Fitting.{Fits, IsWell}
use Rattle.script_setup.specs.SetUp.{SetUp, nothing_said, set_up, titles_of}
use Rattle.script_setup.proofs.Wellness.{nothing_well, well_after}
use Rattle.law_setup.specs.Agreeing.{AreOne}
use Rattle.law_setup.specs.Lines.{Kept}
use Rattle.law_setup.proofs.Kept.{line_kept}
use Rattle.script_bench.specs.Acts.{RunsScript}
use Rattle.script_bench.specs.Claims.{IsLaw}
use Rattle.script_bench.specs.Script.{started_after}
use Rattle.script_bench.specs.steps.Moves.{line_moves, start_only, starts_not}
use Rattle.law_setup.specs.Networks.{NetworkLaws}
use Rattle.script_world.specs.Plays.{SetsUp, StartsUp, is_start, world_acts}
use Rattle.script_world.specs.declared.play.World.{World as ScriptWorld}
use Rattle.script_world.specs.declared.play.World.TheVariants.{SettingUp, Running}
use Rattle.script_datagrams.specs.Claims.{IsSent, ShownWasSent}
use Rattle.law_datagram_run.specs.Datagrams.{DatagramRun, RunsLine, cl_play}
use Rattle.law_datagram_run.specs.Users.{users_of}
use Rattle.law_datagram_run.proofs.Played.{Called, Idle, Ran, ran}

module _ {N : Type 0} (link : N → Link (List ℕ)) (steps : N → Call (List ℕ) → N → Type 0) (keeps : (old : N) (call : Call (List ℕ)) (new : N) → steps old call new → Keeps (link old) call (link new))
    (makes : SetUp → N → Type 0) where
  -- ---- a running network

  module _ (life : ℕ) (systems : List ClSystem) where
    abbrev RestsOn : World N → List Event → Type 0
    RestsOn = Rests link steps keeps life systems

    line_rests : (titles : List (List ℕ)) (old : World N) (line : Line) (made : List Event) (new : World N) (journal : List Event) → RestsOn old journal → RunsLine link steps titles old line made new
        → RestsOn new (journal ++ made)
    line_rests titles old line made new journal rests h = by (ran link steps titles old line made new h)
      where
        by : Ran link steps old made new → RestsOn new (journal ++ made)
        by (Idle none same) =
            subst (λ (w : World N). RestsOn w (journal ++ made)) (sym same)
            (subst (λ (j : List Event). RestsOn old j) (sym (append-nil journal) ∙ ap (λ (m : List Event). journal ++ m) (sym none)) rests)
        by (Called call runs) = call_rests link steps keeps life systems call old new journal made rests runs

    lines_sent : (script : List Line) (run : DatagramRun N) (before journal : List Event) (last : ScriptWorld (DatagramRun N)) → run.life ≡ life → RestsOn run.world before
        → RunsScript (world_acts (cl_play link steps makes)) (Running run) script journal last → IsSent (before ++ journal) last
    lines_sent [] run before journal last lives rests h =
        let lawful : DatagramLawful run.life run.world.systems before =
        subst (λ (l : ℕ). DatagramLawful l run.world.systems before) (sym lives) (subst (λ (ss : List ClSystem). DatagramLawful life ss before) (sym rests.systems_are) rests.stands.lawful) in
        subst (λ (w : ScriptWorld (DatagramRun N)). IsSent (before ++ journal) w) (sym h.1)
        (subst (λ (j : List Event). DatagramLawful run.life run.world.systems j) (sym (append-nil before) ∙ ap (λ (m : List Event). before ++ m) (sym h.0)) lawful)
    lines_sent (line ∷ script) run before journal last lives rests h =
        let step = h.3 in
        let next : DatagramRun N = step.0 in
        let ran_line = step.1 in
        let same_life : next.life ≡ life = ap (λ (r : DatagramRun N). r.life) ran_line.2 ∙ lives in
        let moved : RestsOn next.world (before ++ h.1) =
        subst (λ (r : DatagramRun N). RestsOn r.world (before ++ h.1)) (sym ran_line.2) (line_rests run.titles run.world line h.1 ran_line.0 before rests ran_line.1) in
        let rest = lines_sent script next (before ++ h.1) h.2 last same_life moved (subst (λ (w : ScriptWorld (DatagramRun N)). RunsScript (world_acts (cl_play link steps makes)) w script h.2 last) step.2 h.5) in
        subst (λ (j : List Event). IsSent j last) (append_assoc before h.1 h.2 ∙ ap (λ (m : List Event). before ++ m) (sym h.4)) rest

  -- ---- the start

  module _ (laws : NetworkLaws link steps makes) where
    is_new : (setup : SetUp) (net : N) → IsFirst setup.life (titles_of setup) (link net) → IsNew setup.life (link net)
    is_new setup net f = record { clock = f.clock; none = f.none; notes = f.notes; honest = f.honest; bounds = f.bounds }

    started_sent : (setup : SetUp) (script : List Line) (made rest journal : List Event) (mid last : ScriptWorld (DatagramRun N)) → IsWell setup → Fits setup lines.Start
        → StartsUp (cl_play link steps makes) setup made mid → RunsScript (world_acts (cl_play link steps makes)) mid script rest last → journal ≡ made ++ rest → IsSent journal last
    started_sent setup script made rest journal mid last well within starts runs is =
        let run : DatagramRun N = starts.0 in
        let h = starts.1 in
        let first = first_rests link steps keeps setup.life (users_of setup) h.0 h.1 made (is_new setup h.0 (laws.first setup h.0 well within h.2)) h.3 in
        let here : Rests link steps keeps setup.life (users_of setup) run.world made = subst (λ (r : DatagramRun N). Rests link steps keeps setup.life (users_of setup) r.world made) (sym h.4) first in
        let sent = lines_sent setup.life (users_of setup) script run made rest last (ap (λ (r : DatagramRun N). r.life) h.4) here
        (subst (λ (w : ScriptWorld (DatagramRun N)). RunsScript (world_acts (cl_play link steps makes)) w script rest last) starts.2 runs) in
        subst (λ (j : List Event). IsSent j last) (sym is) sent

    -- while it is set up
    abbrev FromHere : List (List ℕ) → List Line → Type 0
    FromHere texts script = (names last_names : Declared) (setup : SetUp) (journal : List Event) (last : ScriptWorld (DatagramRun N)) → AreOne names setup → IsWell setup → names.started ≡ false
        → Says names texts script last_names → RunsScript (world_acts (cl_play link steps makes)) (SettingUp setup) script journal last → IsSent journal last

    by_line : (start : Bool) (setup : SetUp) (line : Line) (names new last_names : Declared) (texts : List (List ℕ)) (script : List Line) (made rest journal : List Event) (mid last : ScriptWorld (DatagramRun N))
        → is_start line ≡ start → new.started ≡ started_after names.started line → names.started ≡ false → IsWell setup → Kept setup line new → Says new texts script last_names
        → SetsUp (cl_play link steps makes) start setup line made mid → RunsScript (world_acts (cl_play link steps makes)) mid script rest last → journal ≡ made ++ rest → FromHere texts script → IsSent journal last
    by_line true setup line names new last_names texts script made rest journal mid last start moves begun well kept says h runs is others =
        started_sent setup script made rest journal mid last well (subst (λ (l : Line). Fits setup l) (start_only line start) kept.fits) h runs is
    by_line false setup line names new last_names texts script made rest journal mid last start moves begun well kept says h runs is others =
        let all : rest ≡ journal = sym (is ∙ ap (λ (m : List Event). m ++ rest) h.0) in
        subst (λ (j : List Event). IsSent j last) all
        (others new last_names (set_up setup line) rest last kept.one (well_after setup line well kept.fits) (moves ∙ starts_not names.started line start ∙ begun) says
        (subst (λ (w : ScriptWorld (DatagramRun N)). RunsScript (world_acts (cl_play link steps makes)) w script rest last) h.1 runs))

    set_up_sent : (texts : List (List ℕ)) (script : List Line) → FromHere texts script
    set_up_sent [] [] names last_names setup journal last one well begun says h = subst (λ (w : ScriptWorld (DatagramRun N)). IsSent journal w) (sym h.1) h.0
    set_up_sent [] (line ∷ script) names last_names setup journal last one well begun says h = absurd says
    set_up_sent (text ∷ texts) [] names last_names setup journal last one well begun says h = absurd says
    set_up_sent (text ∷ texts) (line ∷ script) names last_names setup journal last one well begun says h =
        by_line (is_start line) setup line names says.0 last_names texts script h.1 h.2 journal h.0 last refl (line_moves names text line says.0 says.1).started begun well
        (line_kept names setup text line says.0 one well begun says.1) says.2 h.3.1 h.5 h.4 (set_up_sent texts script)

    -- ---- the law

    none_before : (before after : List Event) → before ++ after ≡ [] → before ≡ []
    none_before [] after is = refl
    none_before (event ∷ before) after is = absurd (cc)

    front_sent : (before after : List Event) (last : ScriptWorld (DatagramRun N)) → IsSent (before ++ after) last → IsSent before last
    front_sent before after (SettingUp setup) h = none_before before after h
    front_sent before after (Running run) h = λ first then system from calling called octets is.
        h first (then ++ after) system from calling called octets
        (ap (λ (j : List Event). j ++ after) is ∙ append_assoc first (events.Datagram system from calling called octets ∷ then) after)

    pub shows_sent : IsLaw (world_acts (cl_play link steps makes)) ShownWasSent
    shows_sent = record {
      runs = λ texts script names journal last says run.
          set_up_sent texts script (nothing_declared dialects.Datagrams) names nothing_said journal last
          (record { lans = refl; bounds = refl; life = refl; systems = refl; ports = λ n. refl; selectors = λ n s. refl }) nothing_well refl says run;
      front = λ script before after last h. front_sent before after last h;
    }
