-- What holds of every run of a script over a network that a set-up makes: where no injection was taken, and so no strays are told, its journal is lawful; and
-- a system that began again is silent, also where octets are injected.
use Rattle.std.proofs.Common.{◌≡◌, ◌⊎◌, ℕ, zero, suc, Bool, true, false, if◌then◌else◌, List, [], ◌∷◌, ◌++◌, Option, Some, None, inl, inr, refl, sym, ◌∙◌, ap, subst, arith, append_assoc}
use Rattle.std.specs.Prelude.{slice_get}
use Rattle.std.specs.List.{AllByRecursion}
use Rattle.nsap.specs.Address.{is_same_system, system_part}
use Rattle.nsap.proofs.AddressLemmas.{is_same_system-Decides}
use Rattle.osi_base.specs.Link.{Link}
use Rattle.osi_base.specs.Calls.{Call, Keeps}
use Rattle.tp4_conn.specs.End.{frozen_for}
use Rattle.tp4_conn.specs.declared.timers.Timers.{Timers}
use Rattle.tp4_number.specs.Number.{wire}
use Rattle.tp4_world.specs.First.{IsFirst}
use Rattle.tp4_world.proofs.Lined.{lines_alike}
use Rattle.tp4_world.proofs.Shown.{first_honest}
use Rattle.script_journal.specs.declared.event.Event.{Event}
use Rattle.script_journal.specs.declared.event.Event.TheVariants as events
use Rattle.script_journal.specs.Lawful.{IsLawful, Lawful}
use Rattle.script_journal.specs.Silence.{KeepsSilence}
use Rattle.script_lines.specs.declared.line.Line.{Line}
use Rattle.script_lines.specs.Injecting.{HasNoInject, IsNoInjection}
use Rattle.script_lines.specs.Known.{Declared, nothing_declared}
use Rattle.script_lines.specs.Script.{Says}
use Rattle.script_lines.specs.declared.words.Dialect.{Dialect}
use Rattle.law_tp4_lawful.specs.First.{AreDistinct, IsUntouched}
use Rattle.law_tp4_lawful.specs.Laws.{ReceivesWhatWasSubmitted, StaysSilent}
use Rattle.script_setup.specs.Fitting.{AreTitlesApart, IsWell}
use Rattle.script_setup.specs.SetUp.{SetUp, timers_of, titles_of as titles_said}
use Rattle.law_setup.specs.Entities.{entities_of}
use Rattle.script_setup.proofs.Entities.{are_timed}
use Rattle.law_setup.proofs.Proper.{script_proper}
use Rattle.script_bench.specs.Acts.{RunsScript}
use Rattle.law_setup.specs.Networks.{NetworkLaws}
use Rattle.script_world.specs.Plays.{first_world, strays_of, world_acts}
use Rattle.script_world.specs.Transports.{TransportRun, frozen_of, strays_in, titles_of, tp_play}
use Rattle.script_world.specs.declared.play.World.{World}
use Rattle.script_world.specs.declared.play.World.TheVariants.{Running, SettingUp}
use Rattle.law_setup.proofs.Peopled.{entities_new, of_systems}
use Rattle.script_world.proofs.Ends.{EndsRan, ends_ran}
use Rattle.script_world.proofs.Went.{HasStarted, IsSettingUp, PlayRuns, Went, went}

-- ---- where nothing was told

none_left : (front back : List Event) → [] ≡ front ++ back → front ≡ []
none_left [] back is = refl
none_left (event ∷ front) back is = absurd (cc)

no_event : (event : Event) (before after : List Event) → [] ≡ before ++ event ∷ after → ⊥
no_event event [] after is = cc
no_event event (first ∷ before) after is = cc

nothing_silent : (frozen : ℕ) → KeepsSilence frozen []
nothing_silent frozen = record {
  lost = λ front middle rest back making event end system is makes of. no_event making front _ is;
  late = λ front middle back making end system is makes. absurd (no_event (events.Restart system) front _ is);
}

nothing_lawful : (frozen : ℕ) (titles : List (List ℕ)) → IsLawful frozen titles []
nothing_lawful frozen titles = record {
  queues = record {
    made = λ p again end event other is was makes remakes. absurd (nowhere p is);
    one = λ p other q heard again asked first second. absurd (nowhere p first.is);
    some = λ p heard is. absurd (nowhere p is);
    there = λ calling called ends. absurd (nowhere ends.p ends.partner.is);
    back = λ calling called ends. absurd (nowhere ends.p ends.partner.is);
    none = λ end calls called. refl;
  };
  silence = nothing_silent frozen;
}
  where
    nowhere : {A : Type 0} {x : A} (p : ℕ) → slice_get [] p ≡ Some x → ⊥
    nowhere p is = cc

pub none_lawful : (frozen : ℕ) (titles : List (List ℕ)) (journal : List Event) → journal ≡ [] → Lawful frozen titles journal
none_lawful frozen titles journal none = λ front back is. subst (IsLawful frozen titles) (sym (none_left front back (sym none ∙ is))) (nothing_lawful frozen titles)

-- ---- what was set up

-- no title of a system is that of another but for the selectors
same_title : (title next : List ℕ) → is_same_system title next ≡ false → system_part title ≡ system_part next → ⊥
same_title title next apart same = grind (arith, is_same_system-Decides)

none_after : (first : List ℕ) (titles : List (List ℕ)) (other : ℕ) (next : List ℕ) → AllByRecursion (λ title. is_same_system first title ≡ false) titles → slice_get titles other ≡ Some next
    → is_same_system first next ≡ false
none_after first [] other next all is = absurd (cc)
none_after first (title ∷ titles) zero next all is = let same : title ≡ next = cc in subst (λ (t : List ℕ). is_same_system first t ≡ false) same all.0
none_after first (title ∷ titles) (suc other) next all is = none_after first titles other next all.1 is

pub distinct : (titles : List (List ℕ)) → AreTitlesApart titles → AreDistinct titles
distinct [] apart one other title next is at same = absurd (cc)
distinct (first ∷ titles) apart zero zero title next is at same = refl
distinct (first ∷ titles) apart zero (suc other) title next is at same =
    let here : first ≡ title = cc in
    absurd (same_title first next (none_after first titles other next apart.0 at) (ap system_part here ∙ same))
distinct (first ∷ titles) apart (suc one) zero title next is at same =
    let here : first ≡ next = cc in
    absurd (same_title first title (none_after first titles one title apart.0 is) (ap system_part here ∙ sym same))
distinct (first ∷ titles) apart (suc one) (suc other) title next is at same = ap (λ (n : ℕ). suc n) (distinct titles apart.1 one other title next is at same)

pub untouched : (setup : SetUp) → AllByRecursion (IsUntouched (timers_of setup.life setup.limits)) (entities_of setup)
untouched setup = of_systems (IsUntouched (timers_of setup.life setup.limits)) setup.life setup.limits 0 setup.systems (λ place system is. record { timers_are = refl; clock = refl })

-- ---- the run

all_behind : (P : Line → Type 0) (before after script : List Line) → script ≡ before ++ after → AllByRecursion P script → AllByRecursion P after
all_behind P [] after script is all = subst (AllByRecursion P) is all
all_behind P (line ∷ before) after [] is all = absurd (cc)
all_behind P (line ∷ before) after (other ∷ script) is all = let same : script ≡ before ++ after = cc in all_behind P before after script same all.1

-- strays are told where the network is not honest
pub still_honest : (honest : Bool) (strays : ℕ) → (if honest then None else Some strays) ≡ None → honest ≡ true
still_honest true strays none = refl
still_honest false strays none = absurd (cc)

module _ {N : Type 0} (link : N → Link (List ℕ)) (steps : N → Call (List ℕ) → N → Type 0) (makes : SetUp → N → Type 0) (dialect : Dialect) (laws : NetworkLaws link steps makes) where
  -- no strays are told, since no injection was taken
  abbrev NoStrays : World (TransportRun N) → Type 0
  NoStrays last = strays_of (tp_play link steps makes dialect) last ≡ None

  -- ---- what started

  abbrev Started : List Line → Declared → List Event → World (TransportRun N) → Type 0
  Started script names journal last = HasStarted (tp_play link steps makes dialect) script names journal last

  module _ (script : List Line) (names : Declared) (journal : List Event) (last : World (TransportRun N)) (s : Started script names journal last) where
    abbrev run : TransportRun N
    run = record { titles = titles_said s.setup; timers = timers_of s.setup.life s.setup.limits; ends = s.starts.1 }

    on : EndsRan link steps makes dialect run s.after s.rest s.end
    on = ends_ran link steps makes dialect s.after run s.rest s.end (subst (λ (r : TransportRun N). PlayRuns (tp_play link steps makes dialect) r s.after s.rest s.end) s.starts.4 s.runs)

    -- what holds of all events, with the times and titles of the set-up, holds of the journal with those of the last state
    carry : (F : Timers → List (List ℕ) → List Event → Type 0) → F run.timers run.titles (s.made ++ s.rest) → F s.end.timers s.end.titles journal
    carry F holds =
        subst (λ (j : List Event). F s.end.timers s.end.titles j) (sym s.journal_is)
        (subst (λ (t : Timers). F t s.end.titles (s.made ++ s.rest)) (sym on.timers) (subst (λ (t : List (List ℕ)). F run.timers t (s.made ++ s.rest)) (sym on.titles) holds))

    first_is : IsFirst s.setup.life (titles_said s.setup) (link s.starts.0) (entities_of s.setup)
    first_is = record { carrier_is = laws.first s.setup s.starts.0 s.well s.within s.starts.2; entities = entities_new s.setup }

    none_told : strays_in link s.end.ends.carrier ≡ None → NoStrays last
    none_told none = ap (λ (w : World (TransportRun N)). strays_of (tp_play link steps makes dialect) w) s.last_is ∙ none

    honest : NoStrays last → (link s.end.ends.carrier).honest ≡ true
    honest none = still_honest (link s.end.ends.carrier).honest (link s.end.ends.carrier).strays (sym (ap (λ (w : World (TransportRun N)). strays_of (tp_play link steps makes dialect) w) s.last_is) ∙ none)

    started_unstrayed : ((old : N) (call : Call (List ℕ)) (new : N) → steps old call new → Keeps (link old) call (link new)) → HasNoInject script → NoStrays last
    started_unstrayed keeps none =
        none_told (ap (λ (h : Bool). if h then None else Some (link s.end.ends.carrier).strays)
        (lines_alike link steps keeps wire run.titles s.after s.starts.1 s.end.ends s.rest (all_behind IsNoInjection s.before s.after script s.script_is none) on.runs
        ∙ first_honest link steps s.setup.life (titles_said s.setup) s.starts.0 (entities_of s.setup) s.made s.starts.1 first_is s.starts.3))

    started_lawful : ReceivesWhatWasSubmitted link steps → NoStrays last → Lawful (frozen_of last) (titles_of last) journal
    started_lawful law none =
        subst (λ (w : World (TransportRun N)). Lawful (frozen_of w) (titles_of w) journal) (sym s.last_is)
        (carry (λ timers titles events. Lawful (frozen_for timers) titles events)
        (law (titles_said s.setup) run.timers s.starts.0 (entities_of s.setup) s.made s.rest s.after s.starts.1 s.end.ends
        (are_timed s.setup.life s.setup.limits s.well.limits s.well.times.most_life) s.well.limits.least_inactive (distinct (titles_said s.setup) s.well.distinct) first_is (untouched s.setup) s.starts.3
        (honest none) (script_proper s.declared s.texts s.after names s.begun s.says) on.runs))

    started_silent : StaysSilent link steps → KeepsSilence (frozen_of last) journal
    started_silent law =
        subst (λ (w : World (TransportRun N)). KeepsSilence (frozen_of w) journal) (sym s.last_is)
        (carry (λ timers titles events. KeepsSilence (frozen_for timers) events)
        (law (titles_said s.setup) run.timers s.starts.0 (entities_of s.setup) s.made s.rest s.after s.starts.1 s.end.ends first_is (untouched s.setup) s.starts.3 on.runs))

  -- ---- each run

  by_lawful : ReceivesWhatWasSubmitted link steps → (script : List Line) (names : Declared) (journal : List Event) (last : World (TransportRun N)) → Went (tp_play link steps makes dialect) script names journal last
      → NoStrays last → Lawful (frozen_of last) (titles_of last) journal
  by_lawful law script names journal last (inl s) none = none_lawful (frozen_of last) (titles_of last) journal s.journal_is
  by_lawful law script names journal last (inr s) none = started_lawful script names journal last s law none

  by_unstrayed : ((old : N) (call : Call (List ℕ)) (new : N) → steps old call new → Keeps (link old) call (link new)) → (script : List Line) (names : Declared) (journal : List Event) (last : World (TransportRun N))
      → Went (tp_play link steps makes dialect) script names journal last → HasNoInject script → NoStrays last
  by_unstrayed keeps script names journal last (inl s) none = ap (λ (w : World (TransportRun N)). strays_of (tp_play link steps makes dialect) w) s.last_is
  by_unstrayed keeps script names journal last (inr s) none = started_unstrayed script names journal last s keeps none

  by_silent : StaysSilent link steps → (script : List Line) (names : Declared) (journal : List Event) (last : World (TransportRun N)) → Went (tp_play link steps makes dialect) script names journal last
      → KeepsSilence (frozen_of last) journal
  by_silent law script names journal last (inl s) = subst (KeepsSilence (frozen_of last)) (sym s.journal_is) (nothing_silent (frozen_of last))
  by_silent law script names journal last (inr s) = started_silent script names journal last s law

  abbrev OfScripts : (List Line → List Event → World (TransportRun N) → Type 0) → Type 0
  OfScripts Claim = (texts : List (List ℕ)) (script : List Line) (names : Declared) (journal : List Event) (last : World (TransportRun N)) → Says (nothing_declared dialect) texts script names
      → RunsScript (world_acts (tp_play link steps makes dialect)) first_world script journal last → Claim script journal last

  -- no strays are told where no line of the script is an `inject` line
  pub script_unstrayed : ((old : N) (call : Call (List ℕ)) (new : N) → steps old call new → Keeps (link old) call (link new)) → OfScripts (λ script journal last. HasNoInject script → NoStrays last)
  script_unstrayed keeps texts script names journal last says runs none = by_unstrayed keeps script names journal last (went (tp_play link steps makes dialect) texts script names journal last says runs) none

  pub script_lawful : ReceivesWhatWasSubmitted link steps → OfScripts (λ script journal last. NoStrays last → Lawful (frozen_of last) (titles_of last) journal)
  script_lawful law texts script names journal last says runs none = by_lawful law script names journal last (went (tp_play link steps makes dialect) texts script names journal last says runs) none

  pub script_silent : StaysSilent link steps → OfScripts (λ script journal last. KeepsSilence (frozen_of last) journal)
  script_silent law texts script names journal last says runs = by_silent law script names journal last (went (tp_play link steps makes dialect) texts script names journal last says runs)

-- ---- fronts

-- a front of what is lawful is lawful
pub front_lawful : (frozen : ℕ) (titles : List (List ℕ)) (front back : List Event) → Lawful frozen titles (front ++ back) → Lawful frozen titles front
front_lawful frozen titles front back lawful = λ before after is. lawful before (after ++ back) (ap (λ (journal : List Event). journal ++ back) is ∙ append_assoc before after back)
