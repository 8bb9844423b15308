-- What was set up by a calm script is a calm network, which loses nothing and keeps order, and begins with nothing on its way; so the laws of calm runs over such
-- a carrier speak of it: nothing is missing, a connect request has its indication, and an accept its confirm.
use Rattle.std.proofs.Common.{◌≡◌, ℕ, true, List, [], ◌∷◌, ◌++◌, length, Option, Some, None, Ok, refl, sym, ◌∙◌, ap, subst, arith}
use Rattle.std.specs.Prelude.{IsSome}
use Rattle.std.specs.List.{AllByRecursion}
use Rattle.std.proofs.lemmas.List.{append-nil}
use Rattle.std.proofs.lemmas.Option.{slice_get_within}
use Rattle.osi_base.specs.declared.unit.Unit.{Unit as CarriedUnit}
use Rattle.lan_step.specs.Bag.{BagStep, link_of, new_bag}
use Rattle.esis_tables.specs.Rows.{Rows}
use Rattle.clnp_system.specs.Node.{Node}
use Rattle.clnp_system.specs.Tables.{rows_tables}
use Rattle.law_clnp_step.specs.Step.{Begins}
use Rattle.law_clnp_net.specs.Waiting.{WaitsIn}
use Rattle.law_clnp_net.proofs.Carried.{begins_empty, is_fifo}
use Rattle.net_world.specs.Fifo.{IsFifo}
use Rattle.net_world.specs.Told.{told}
use Rattle.tp4_number.specs.Number.{whole, wire}
use Rattle.script_journal.specs.declared.event.Event.{Event}
use Rattle.script_journal.specs.declared.event.Event.TheVariants as events
use Rattle.script_lines.specs.declared.line.Line.{Line}
use Rattle.script_lines.specs.declared.line.Line.TheVariants as lines
use Rattle.script_lines.specs.Grammar.{line_read}
use Rattle.script_lines.specs.Known.{Declared}
use Rattle.script_lines.specs.Script.{Says}
use Rattle.script_journal.specs.Partner.{AreEnds}
use Rattle.law_tp4_history.specs.Journals.{IsAside}
use Rattle.law_tp4_pair.specs.Claim.{AllShown, IsUndropped}
use Rattle.law_tp4_lawful.proofs.WorldAsides.{AreQuiet, are_aside, told_quiet}
use Rattle.tp4_entity.specs.Entity.{Entity}
use Rattle.law_tp4_lawful.specs.Limits.{IsProperLine}
use Rattle.tp4_world.specs.Laws.{WholeLine, WholeRun}
use Rattle.tp4_world.specs.Run.{RunsLine, RunsLines}
use Rattle.tp4_world.specs.World.{entity_at}
use Rattle.law_calm_run.specs.Run.{HaveEntities, IsCalmRun, IsStart}
use Rattle.law_calm_run.specs.Service.{end_at_number}
use Rattle.law_calm_run.proofs.Indicating.{all_indicated}
use Rattle.law_calm_run.proofs.Queueing.{all_parts, none_dropped}
use Rattle.law_calm_run.proofs.Accepting.{all_confirmed}
use Rattle.law_calm_run.proofs.Ending.{all_have_pairs, none_due}
use Rattle.law_calm_run.specs.Pairs.{ShowAll}
use Rattle.law_tp4_pair.proofs.ShownIn.{claims}
use Rattle.law_calm_run.proofs.Wired.{indicated_on_wire}
use Rattle.law_calm_run.proofs.WiredEnds.{confirmed_on_wire, shown_on_wire}
use Rattle.script_setup.specs.Fitting.{IsWell}
use Rattle.script_setup.specs.SetUp.{SetUp, timers_of, titles_of as titles_said}
use Rattle.law_setup.specs.Entities.{entities_of}
use Rattle.script_setup.proofs.Entities.{are_timed}
use Rattle.law_run.specs.Calm.{AcceptsAreConfirmed, ActsCalmly, ConnectsAreIndicated, RunsCalmly}
use Rattle.law_run.specs.Laws.{ServesCalmScripts}
use Rattle.law_run.specs.World.{TransportNet, Net, NetDoes, Started, World, WorldRuns, WorldStep, link_of_net, running, titles_of}
use Rattle.script_world.specs.declared.play.World.TheVariants.{SettingUp, Running}
use Rattle.script_bench.specs.steps.Moves.{line_moves}
use Rattle.law_setup.proofs.Started.{still_started}
use Rattle.law_setup.proofs.Made.{net_law}
use Rattle.law_setup.proofs.Peopled.{entities_new}
use Rattle.law_run.proofs.WorldLaws.{ran_line}
use Rattle.law_run.proofs.CalmNet.{MakesCalm}
use Rattle.law_run.proofs.CalmRun.{runs_calm}
use Rattle.script_world.proofs.Headline.{distinct, untouched}
use Rattle.law_run.proofs.Lawful.{RunsOn, runs_on}
use Rattle.law_setup.proofs.Placing.{present}
use Rattle.law_setup.proofs.Proper.{script_proper}
use Rattle.tp4_conn.specs.declared.timers.Timers.{Timers}
use Rattle.tpdu.specs.declared.service.EndTold.TheVariants as tells

-- ---- networks that run

-- the ends of a network that runs
abbrev ends_in : World → TransportNet → TransportNet
ends_in (SettingUp setup) ends = ends
ends_in (Running run) ends = run.ends

same_running : (titles others : List (List ℕ)) (timers left : Timers) (one other : TransportNet) → running titles timers one ≡ running others left other → (titles ≡ others) × (one ≡ other)
same_running titles others timers left one other is = (ap titles_of is, ap (λ (w : World). ends_in w one) is)

-- where the start was read, it was for the lines behind it
says_started : (names last : Declared) (texts : List (List ℕ)) (script : List Line) → names.started ≡ true → Says names texts script last → last.started ≡ true
says_started names last [] [] begun says = ap (λ (n : Declared). n.started) says ∙ begun
says_started names last [] (line ∷ script) begun says = absurd says
says_started names last (text ∷ texts) [] begun says = absurd says
says_started names last (text ∷ texts) (line ∷ script) begun says =
    says_started says.0 last texts script ((line_moves names text line says.0 says.1).started ∙ still_started names.started line begun) says.2

-- lines that do nothing, and then a `settle`
record HasSettled (titles : List (List ℕ)) (timers : Timers) (old : TransportNet) (settled : List Event) (last : World) : Type 0 where
  new : TransportNet
  runs : RunsLine link_of_net NetDoes wire titles old lines.Settle settled new
  is : last ≡ running titles timers new

idle_settles : (titles : List (List ℕ)) (timers : Timers) (old : TransportNet) (idle : List Line) (settled : List Event) (last : World) → AllByRecursion (λ line. line ≡ lines.Nothing) idle
    → WorldRuns (running titles timers old) (idle ++ lines.Settle ∷ []) settled last → HasSettled titles timers old settled last
idle_settles titles timers old [] settled last all h =
    let step = ran_line titles timers old lines.Settle h.1 h.0 h.3 in
    let same : settled ≡ h.1 = h.4 ∙ ap (λ (rest : List Event). h.1 ++ rest) h.5.0 ∙ append-nil h.1 in
    record {
      new = step.0;
      runs = subst (λ (made : List Event). RunsLine link_of_net NetDoes wire titles old lines.Settle made step.0) (sym same) step.1;
      is = h.5.1 ∙ step.2;
    }
idle_settles titles timers old (line ∷ idle) settled last all h =
    let step = ran_line titles timers old lines.Nothing h.1 h.0 (subst (λ (l : Line). WorldStep (running titles timers old) l h.1 h.0) all.0 h.3) in
    let there : h.0 ≡ running titles timers old = step.2 ∙ ap (λ (ends : TransportNet). running titles timers ends) step.1.1 in
    let same : settled ≡ h.2 = h.4 ∙ ap (λ (made : List Event). made ++ h.2) step.1.0 in
    subst (λ (made : List Event). HasSettled titles timers old made last) (sym same)
    (idle_settles titles timers old idle h.2 last all.1 (subst (λ (w : World). WorldRuns w (idle ++ lines.Settle ∷ []) h.2 last) there h.5))

-- ---- the start of a calm network

record IsThere (found : Option Entity) : Type 0 where
  entity : Entity
  is : found ≡ Some entity

is_there : (found : Option Entity) → IsSome found → IsThere found
is_there None some = absurd (cc)
is_there (Some entity) some = record { entity = entity; is = refl }

module _ (setup : SetUp) (calm : MakesCalm setup) where
  abbrev queue_of : Net → List (CarriedUnit (List ℕ)) → Type 0
  queue_of = WaitsIn setup.ports calm.first calm.second calm.here calm.there

  fifo : IsFifo link_of_net NetDoes (titles_said setup) queue_of
  fifo = subst (λ (titles : List (List ℕ)). IsFifo link_of_net NetDoes titles queue_of) (sym calm.titles) (is_fifo setup.ports calm.first calm.second calm.here calm.there calm.calm)

  pub have : HaveEntities (titles_said setup) (entities_of setup)
  have system title is =
      let few : length (titles_said setup) ≡ 2 = ap (λ (titles : List (List ℕ)). length titles) calm.titles in
      let within = slice_get_within (titles_said setup) system title is in
      let found = is_there (entity_at (entities_of setup) system) (present setup system (calm.ends system (omega (arith, few, within)))) in
      (found.entity, found.is)

  -- at the start nothing waits, and each end system has an entity without ends
  begins : IsWell setup → (made : List Event) (mid : World) (starts : Started setup made mid) → AllByRecursion IsUndropped made → IsStart (titles_said setup) (timers_of setup.life setup.limits) queue_of starts.1
  begins w made mid starts none =
      let first : TransportNet = starts.1 in
      let begun = starts.2 in
      let starting = starts.3 in
      let told_none : AllByRecursion IsUndropped (told starting.ups) = (subst (AllByRecursion IsUndropped) starting.made_is none).1 in
      let waits = begins_empty setup.lans setup.ports calm.first calm.second calm.here calm.there setup.life starts.0 starting.below starting.ups calm.calm
      (subst (λ (nodes : List (Node Rows)). Begins link_of BagStep rows_tables (new_bag setup.lans setup.ports) nodes setup.life starts.0) calm.nodes begun) starting.gathers
      (none_dropped starting.ups told_none) in
      let start : IsStart (titles_said setup) (timers_of setup.life setup.limits) queue_of (record { carrier = starting.below; entities = entities_of setup; ends = [] }) = record {
        timed = are_timed setup.life setup.limits w.limits w.times.most_life;
        inactive = w.limits.least_inactive;
        distinct = distinct (titles_said setup) w.distinct;
        entities = entities_new setup;
        untouched = untouched setup;
        have = have;
        none = refl;
        waits = waits.1;
      } in
      subst (λ (world : TransportNet). IsStart (titles_said setup) (timers_of setup.life setup.limits) queue_of world) (sym starting.becomes) start

-- ---- a calm script that runs

-- a run of a calm script, as the laws over a carrier that loses nothing speak of it
record IsCalmly (journal : List Event) (titles : List (List ℕ)) (last : TransportNet) : Type 0 where
  setup : SetUp
  calm : MakesCalm setup
  first : TransportNet
  script : List Line
  begun : List Event
  rest : List Event
  titles_are : titles ≡ titles_said setup
  start : IsStart (titles_said setup) (timers_of setup.life setup.limits) (queue_of setup calm) first
  aside : IsAside begun
  run : IsCalmRun link_of_net NetDoes wire (titles_said setup) first script rest last
  journal_is : journal ≡ begun ++ rest

started_names : (texts : List (List ℕ)) (script : List Line) (names : Declared) (journal : List Event) (titles : List (List ℕ)) (last : TransportNet) → RunsCalmly texts script names journal titles last → names.started ≡ true
started_names texts script names journal titles last r =
    let c = runs_calm texts script names journal (running titles r.timers last) r.says r.run r.calm in
    says_started c.names names c.texts c.after c.begins c.says

calmly : (texts : List (List ℕ)) (script : List Line) (names : Declared) (journal : List Event) (titles : List (List ℕ)) (last : TransportNet) → RunsCalmly texts script names journal titles last
    → AllByRecursion IsUndropped journal → IsCalmly journal titles last
calmly texts script names journal titles last r none =
    let c = runs_calm texts script names journal (running titles r.timers last) r.says r.run r.calm in
    let starts = c.starts in
    let on : RunsOn (titles_said c.setup) (timers_of c.setup.life c.setup.limits) starts.1 c.after c.rest (running titles r.timers last) =
    runs_on (titles_said c.setup) (timers_of c.setup.life c.setup.limits) starts.1 c.after c.rest (running titles r.timers last) (subst (λ (w : World). WorldRuns w c.after c.rest (running titles r.timers last)) starts.4 c.runs) in
    let same = same_running titles (titles_said c.setup) r.timers (timers_of c.setup.life c.setup.limits) last on.end on.is in
    let parts = all_parts IsUndropped c.made c.rest (subst (AllByRecursion IsUndropped) c.journal_is none) in
    let quiet : AreQuiet c.made = subst AreQuiet (sym starts.3.made_is) (record { submits = λ end. refl; shows = λ end. refl; makes = refl }, told_quiet starts.3.ups) in
    record {
      setup = c.setup;
      calm = c.calm;
      first = starts.1;
      script = c.after;
      begun = c.made;
      rest = c.rest;
      titles_are = same.0;
      start = begins c.setup c.calm c.well c.made c.mid starts parts.0;
      aside = are_aside c.made quiet;
      run = record {
        settled = c.settled;
        proper = script_proper c.names c.texts c.after names c.begins c.says;
        unrouted = c.unrouted;
        undropped = parts.1;
        runs = subst (λ (e : TransportNet). RunsLines link_of_net NetDoes wire (titles_said c.setup) starts.1 c.after c.rest e) (sym same.1) on.runs;
      };
      journal_is = c.journal_is;
    }

-- ---- a line and the `settle` behind it

record HasActed (titles : List (List ℕ)) (old : TransportNet) (line : Line) (own : Event) (later : List Event) (between : TransportNet) (settled : List Event) : Type 0 where
  proper : IsProperLine line
  acts : RunsLine link_of_net NetDoes wire titles old line (own ∷ later) between
  new : TransportNet
  settles : RunsLine link_of_net NetDoes wire titles between lines.Settle settled new
  undropped : AllByRecursion IsUndropped (later ++ settled)

has_acted : (texts : List (List ℕ)) (script : List Line) (names new : Declared) (before : List Event) (titles others : List (List ℕ)) (old between : TransportNet) → RunsCalmly texts script names before titles old → titles ≡ others
    → (text : List ℕ) (line : Line) → line_read names text ≡ Ok (record { line = line; names = new }) → (own : Event) (later settled : List Event) (last : World)
    → ActsCalmly titles before old line own later between settled last → HasActed others old line own later between settled
has_acted texts script names new before titles others old between r same text line read own later settled last a =
    let step = ran_line titles a.timers old line (own ∷ later) (running titles a.timers between) a.acts in
    let now = same_running titles titles a.timers a.timers between step.0 step.2 in
    let settle = idle_settles titles a.timers between a.idle settled last a.are_idle a.settles in
    let all = all_parts IsUndropped before (own ∷ (later ++ settled)) a.undropped in
    record {
      proper = (script_proper names (text ∷ []) (line ∷ []) new (started_names texts script names before titles old r) (new, read, refl)).0;
      acts = subst (λ (t : List (List ℕ)). RunsLine link_of_net NetDoes wire t old line (own ∷ later) between) same
          (subst (λ (e : TransportNet). RunsLine link_of_net NetDoes wire titles old line (own ∷ later) e) (sym now.1) step.1);
      new = settle.new;
      settles = subst (λ (t : List (List ℕ)). RunsLine link_of_net NetDoes wire t between lines.Settle settled settle.new) same settle.runs;
      undropped = all.1.1;
    }

-- ---- the laws

-- over whole numbers, each two partner ends are a pair, and so have shown all
all_shown : (titles : List (List ℕ)) (Waits : Net → List (CarriedUnit (List ℕ)) → Type 0) → IsFifo link_of_net NetDoes titles Waits → ShowAll link_of_net NetDoes whole titles Waits
all_shown titles Waits fifo_is timers first last script begun journal start aside run =
    claims (link_of_net last.carrier).clock (begun ++ journal) (end_at_number last) (all_have_pairs link_of_net NetDoes net_law titles Waits fifo_is timers first last script begun journal start aside run)
    (none_due link_of_net NetDoes net_law titles Waits fifo_is timers first last script journal start run)

module _ (whole_run : WholeRun link_of_net NetDoes) (whole_line : WholeLine link_of_net NetDoes) where
  connects_indicated : (texts : List (List ℕ)) (script : List Line) (names : Declared) (before : List Event) (titles : List (List ℕ)) (old : TransportNet) → RunsCalmly texts script names before titles old
      → ConnectsAreIndicated names before titles old
  connects_indicated texts script names before titles old r new between text system to selector called octets options read asked later settled last a entity there may =
      let c = calmly texts script names before titles old r (all_parts IsUndropped before (events.Connect asked ∷ (later ++ settled)) a.undropped).0 in
      let h = has_acted texts script names new before titles (titles_said c.setup) old between r c.titles_are text (lines.Connect system selector to called options octets) read (events.Connect asked) later settled last a in
      indicated_on_wire link_of_net NetDoes (titles_said c.setup) (queue_of c.setup c.calm) whole_run whole_line
      (all_indicated link_of_net NetDoes net_law (titles_said c.setup) (queue_of c.setup c.calm) (fifo c.setup c.calm))
      (timers_of c.setup.life c.setup.limits) c.first old h.new c.script c.rest settled system to selector called octets options asked c.start c.run
      (record {
        later = later;
        between = between;
        proper = h.proper;
        connects = h.acts;
        settles = h.settles;
        undropped = h.undropped;
        entity = entity;
        entity_is = there;
        may = may;
      })

  ends_shown : (texts : List (List ℕ)) (script : List Line) (names : Declared) (journal : List Event) (titles : List (List ℕ)) (last : TransportNet) → RunsCalmly texts script names journal titles last
      → AllByRecursion IsUndropped journal → AllShown (link_of_net last.carrier).clock journal (end_at_number last)
  ends_shown texts script names journal titles last r none =
      let c = calmly texts script names journal titles last r none in
      subst (λ (j : List Event). AllShown (link_of_net last.carrier).clock j (end_at_number last)) (sym c.journal_is)
      (shown_on_wire link_of_net NetDoes (titles_said c.setup) (queue_of c.setup c.calm) whole_run
      (all_shown (titles_said c.setup) (queue_of c.setup c.calm) (fifo c.setup c.calm))
      (timers_of c.setup.life c.setup.limits) c.first last c.script c.begun c.rest c.start c.aside c.run)

  accepts_confirmed : (texts : List (List ℕ)) (script : List Line) (names : Declared) (before : List Event) (titles : List (List ℕ)) (old : TransportNet) → RunsCalmly texts script names before titles old
      → AcceptsAreConfirmed names before titles old
  accepts_confirmed texts script names before titles old r new between text calling called options agreed octets read partners waits later settled last a =
      let c = calmly texts script names before titles old r (all_parts IsUndropped before (events.End called (tells.Accept agreed octets) ∷ (later ++ settled)) a.undropped).0 in
      let h = has_acted texts script names new before titles (titles_said c.setup) old between r c.titles_are text (lines.Accept called options octets) read (events.End called (tells.Accept agreed octets)) later settled last a in
      confirmed_on_wire link_of_net NetDoes (titles_said c.setup) (queue_of c.setup c.calm) whole_run whole_line
      (all_confirmed link_of_net NetDoes net_law (titles_said c.setup) (queue_of c.setup c.calm) (fifo c.setup c.calm))
      (timers_of c.setup.life c.setup.limits) c.first old h.new c.script c.begun c.rest settled calling called options agreed octets c.start c.aside c.run
      (subst (λ (j : List Event). AreEnds j calling called) c.journal_is partners)
      (record {
        unanswered = waits;
        later = later;
        between = between;
        proper = h.proper;
        accepts = h.acts;
        settles = h.settles;
        undropped = h.undropped;
      })

  pub serves : ServesCalmScripts
  serves texts script names journal titles last r = record {
    shown = ends_shown texts script names journal titles last r;
    indicated = connects_indicated texts script names journal titles last r;
    confirmed = accepts_confirmed texts script names journal titles last r;
  }
