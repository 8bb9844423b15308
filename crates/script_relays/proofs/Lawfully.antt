-- Whatever script with relays was run: its journal is lawful, and the two connections of a pair are two queues together.
use Rattle.std.proofs.Common.{◌≡◌, inl, inr, true, ℕ, List, [], ◌∷◌, ◌++◌, refl, sym, ◌∙◌, ap, subst, append_assoc}
use Rattle.std.specs.List.{AllByRecursion}
use Rattle.osi_base.specs.Link.{Link}
use Rattle.osi_base.specs.Calls.{Call, Keeps}
use Rattle.script_journal.specs.Lawful.{Lawful}
use Rattle.script_journal.specs.RawLawful.{RawLawful}
use Rattle.script_journal.specs.declared.event.Event.{Event}
use Rattle.script_journal.specs.declared.event.Event.TheVariants as events
use Rattle.script_lines.proofs.CommandLines.{line_has, line_stays}
use Rattle.script_lines.specs.Commands.{HasLine}
use Rattle.script_lines.specs.declared.words.Dialect.{Dialect}
use Rattle.script_lines.specs.declared.words.Dialect.TheVariants as dialects
use Rattle.script_lines.specs.declared.line.Line.{Line}
use Rattle.script_lines.specs.Known.{Declared}
use Rattle.script_lines.specs.Script.{Says}
use Rattle.script_setup.specs.SetUp.{SetUp, timers_of, titles_of as titles_said}
use Rattle.law_setup.specs.Entities.{entities_of}
use Rattle.script_setup.proofs.Entities.{are_timed}
use Rattle.law_setup.proofs.Proper.{script_proper}
use Rattle.law_relay.proofs.Chained.{goes_through}
use Rattle.law_relay.proofs.Noting.{noted, plain_more, raw_noted}
use Rattle.law_relay.specs.Notes.{plain}
use Rattle.script_bench.specs.Claims.{IsLaw}
use Rattle.law_setup.specs.Networks.{NetworkLaws}
use Rattle.script_world.specs.Plays.{world_acts}
use Rattle.script_world.specs.declared.play.World.{World as ScriptWorld}
use Rattle.law_setup.proofs.Peopled.{entities_new}
use Rattle.script_world.proofs.Headline.{distinct, front_lawful, none_lawful, untouched}
use Rattle.script_world.proofs.Went.{HasStarted, PlayRuns, Went, went}
use Rattle.tp4_conn.specs.End.{frozen_for}
use Rattle.tp4_conn.specs.declared.timers.Timers.{Timers}
use Rattle.law_tp4_lawful.specs.Limits.{IsProperLine}
use Rattle.law_tp4_lawful.specs.Laws.{ReceivesWhatWasSubmitted}
use Rattle.tp4_number.specs.Number.{wire}
use Rattle.tp4_relay.specs.Kept.{Kept, nothing_kept}
use Rattle.tp4_relay.proofs.Telling.{rules_stay}
use Rattle.tp4_world.specs.First.{IsFirst}
use Rattle.tp4_world.specs.Run.{Starts}
use Rattle.tp4_world.specs.World.{World}
use Rattle.tp4_world.proofs.Lined.{lines_alike}
use Rattle.tp4_world.proofs.Shown.{first_honest, sent_where_honest}
use Rattle.script_relays.specs.Claims.{RelaysLawfully, frozen_of, life_of, titles_of}
use Rattle.law_relay.specs.Relays.{RelayRun, part_of, relay_play}
use Rattle.law_relay.specs.Rows.{rows_of}
use Rattle.law_relay.proofs.Begun.{first_plays}
use Rattle.law_relay.proofs.Leading.{rows_lead}
use Rattle.law_relay.proofs.Playing.{Plays}
use Rattle.law_relay.proofs.Running.{line_plays}
use Rattle.script_relays.proofs.Rebuilt.{Leads, Rebuilt, part_rebuilt, rebuilt_none, rebuilt_then, told_plain}
use Rattle.script_relays.proofs.Units.{script_relays, script_units}

module _ {N : Type 0} (link : N → Link (List ℕ)) (steps : N → Call (List ℕ) → N → Type 0) (keeps : (old : N) (call : Call (List ℕ)) (new : N) → steps old call new → Keeps (link old) call (link new))
    (makes : SetUp → N → Type 0) where
  -- ---- the lines of a running network

  record LinesRan (old : RelayRun N) (journal : List Event) (end : RelayRun N) : Type 0 where
    built : Rebuilt link steps old.titles old.ends journal end.ends
    titles : end.titles ≡ old.titles
    rules : end.relay.rules ≡ old.relay.rules

  lines_ran : (texts : List (List ℕ)) (script : List Line) (names last_names : Declared) (run : RelayRun N) (journal : List Event) (end : RelayRun N) → names.dialect ≡ dialects.Relay → Says names texts script last_names
      → AllByRecursion IsProperLine script → Plays link run.ends run.relay → Leads link steps run.titles run.relay → PlayRuns (relay_play link steps makes) run script journal end → LinesRan run journal end
  lines_ran [] [] names last_names run journal end reads says proper p l h = record {
    built = rebuilt_none link steps run.titles run.ends end.ends journal (ap plain h.0) (ap (λ (r : RelayRun N). r.ends) h.1);
    titles = ap (λ (r : RelayRun N). r.titles) h.1;
    rules = ap (λ (r : RelayRun N). r.relay.rules) h.1;
  }
  lines_ran [] (line ∷ script) names last_names run journal end reads says proper p l h = absurd says
  lines_ran (text ∷ texts) [] names last_names run journal end reads says proper p l h = absurd says
  lines_ran (text ∷ texts) (line ∷ script) names last_names run journal end reads says proper p l h =
      let made : List Event = h.1 in
      let step = h.3 in
      let next : RelayRun N = record run { ends = step.0; relay = step.1 } in
      let listed : HasLine dialects.Relay line = subst (λ (d : Dialect). HasLine d line) reads (line_has names text (record { line = line; names = says.0 }) says.1) in
      let after = line_plays link steps keeps run line made step.0 step.1 listed step.2 p in
      let here = part_rebuilt link steps run.titles keeps (part_of line) run line made step.0 step.1 refl listed proper.0 p l step.2 in
      let rest = lines_ran texts script says.0 last_names next h.2 end (line_stays names text (record { line = line; names = says.0 }) says.1 ∙ reads) says.2 proper.1 after.plays here.leads
      (subst (λ (r : RelayRun N). PlayRuns (relay_play link steps makes) r script h.2 end) step.3 h.5) in
      record {
        built = rebuilt_then link steps run.titles run.ends step.0 end.ends journal made h.2 here.built rest.built h.4;
        titles = rest.titles;
        rules = rest.rules ∙ ap (λ (k : Kept). k.rules) after.last_is ∙ rules_stay run.relay made;
      }

  -- ---- what started

  module _ (laws : NetworkLaws link steps makes) (law : ReceivesWhatWasSubmitted link steps) where
    module _ (script : List Line) (names : Declared) (journal : List Event) (last : ScriptWorld (RelayRun N)) (s : HasStarted (relay_play link steps makes) script names journal last) where
      abbrev net : N
      net = s.starts.0

      abbrev first : World N
      first = s.starts.1

      abbrev timers : Timers
      timers = timers_of s.setup.life s.setup.limits

      abbrev titles : List (List ℕ)
      titles = titles_said s.setup

      abbrev run : RelayRun N
      run = record { titles = titles; ends = first; relay = nothing_kept (rows_of s.setup) timers }

      begins : Starts link steps net (entities_of s.setup) s.made first
      begins = s.starts.3

      plays : Plays link run.ends run.relay
      plays = first_plays link steps s.setup net first s.made s.well begins

      on : LinesRan run s.rest s.end
      on =
          lines_ran s.texts s.after s.declared names run s.rest s.end s.reads s.says (script_proper s.declared s.texts s.after names s.begun s.says) plays (record { rows = rows_lead s.setup s.well; credit = plays.credit })
          (subst (λ (r : RelayRun N). PlayRuns (relay_play link steps makes) r s.after s.rest s.end) s.starts.4 s.runs)

      first_is : IsFirst s.setup.life titles (link net) (entities_of s.setup)
      first_is = record { carrier_is = laws.first s.setup net s.well s.within s.starts.2; entities = entities_new s.setup }

      made_plain : plain s.made ≡ s.made
      made_plain = ap plain begins.made_is ∙ told_plain begins.ups ∙ sym begins.made_is

      -- nothing was injected
      still_honest : (link s.end.ends.carrier).honest ≡ true
      still_honest =
          lines_alike link steps keeps wire titles on.built.script first s.end.ends (plain s.rest) on.built.honest on.built.runs
          ∙ first_honest link steps s.setup.life titles net (entities_of s.setup) s.made first first_is begins

      plain_lawful : Lawful (frozen_for timers) titles (s.made ++ plain s.rest)
      plain_lawful =
          law titles timers net (entities_of s.setup) s.made (plain s.rest) on.built.script first s.end.ends (are_timed s.setup.life s.setup.limits s.well.limits s.well.times.most_life) s.well.limits.least_inactive
          (distinct titles s.well.distinct) first_is (untouched s.setup) begins still_honest on.built.proper on.built.runs

      journal_lawful : Lawful (frozen_for timers) titles journal
      journal_lawful =
          noted (frozen_for timers) titles journal
          (subst (Lawful (frozen_for timers) titles) (sym (ap plain s.journal_is ∙ plain_more s.made s.rest ∙ ap (λ (es : List Event). es ++ plain s.rest) made_plain)) plain_lawful)

      started_lawful : Lawful (frozen_of last) (titles_of last) journal
      started_lawful =
          subst (λ (w : ScriptWorld (RelayRun N)). Lawful (frozen_of w) (titles_of w) journal) (sym s.last_is)
          (subst (λ (t : Timers). Lawful (frozen_for t) s.end.titles journal) (sym on.rules) (subst (λ (ts : List (List ℕ)). Lawful (frozen_for timers) ts journal) (sym on.titles) journal_lawful))

      -- what holds of all events but the notes
      journal_plain : plain journal ≡ s.made ++ plain s.rest
      journal_plain = ap plain s.journal_is ∙ plain_more s.made s.rest ∙ ap (λ (es : List Event). es ++ plain s.rest) made_plain

      plain_raw : RawLawful s.setup.life titles (s.made ++ plain s.rest)
      plain_raw = sent_where_honest link steps keeps wire s.setup.life titles net (entities_of s.setup) s.made (plain s.rest) on.built.script first s.end.ends first_is begins on.built.runs still_honest

      started_raw : RawLawful (life_of last) (titles_of last) journal
      started_raw =
          raw_noted (life_of last) (titles_of last) journal
          (subst (λ (w : ScriptWorld (RelayRun N)). RawLawful (life_of w) (titles_of w) (plain journal)) (sym s.last_is)
          (subst (λ (t : Timers). RawLawful t.life s.end.titles (plain journal)) (sym on.rules)
          (subst (λ (ts : List (List ℕ)). RawLawful s.setup.life ts (plain journal)) (sym on.titles) (subst (RawLawful s.setup.life titles) (sym journal_plain) plain_raw))))

    by_lawful : (script : List Line) (names : Declared) (journal : List Event) (last : ScriptWorld (RelayRun N)) → Went (relay_play link steps makes) script names journal last → Lawful (frozen_of last) (titles_of last) journal
    by_lawful script names journal last (inl s) = none_lawful (frozen_of last) (titles_of last) journal s.journal_is
    by_lawful script names journal last (inr s) = started_lawful script names journal last s

    no_event : (event : Event) (before after : List Event) → [] ≡ before ++ event ∷ after → ⊥
    no_event event [] after is = cc
    no_event event (first ∷ before) after is = cc

    by_raw : (script : List Line) (names : Declared) (journal : List Event) (last : ScriptWorld (RelayRun N)) → Went (relay_play link steps makes) script names journal last → RawLawful (life_of last) (titles_of last) journal
    by_raw script names journal last (inl s) = λ before after system from octets is. absurd (no_event (events.Unit system from octets) before after (sym s.journal_is ∙ is))
    by_raw script names journal last (inr s) = started_raw script names journal last s

    raw_front : (life : ℕ) (titles : List (List ℕ)) (front back : List Event) → RawLawful life titles (front ++ back) → RawLawful life titles front
    raw_front life titles front back raw before after system from octets is =
        raw before (after ++ back) system from octets (ap (λ (j : List Event). j ++ back) is ∙ append_assoc before (events.Unit system from octets ∷ after) back)

    -- ---- the law

    pub relays_lawfully : IsLaw (world_acts (relay_play link steps makes)) RelaysLawfully
    relays_lawfully = record {
      runs = λ texts script names journal last says run.
          (let lawful = by_lawful script names journal last (went (relay_play link steps makes) texts script names journal last says run) in
          record {
            lawful = lawful;
            raw = by_raw script names journal last (went (relay_play link steps makes) texts script names journal last says run);
            units = λ front back is. script_units link steps keeps makes texts script names journal last says run front back is;
            through = λ front back is.
                goes_through (titles_of last) front (lawful front back is).queues (script_relays link steps keeps makes texts script names journal last says run front back is);
          });
      front = λ script before after last h. record {
        lawful = front_lawful (frozen_of last) (titles_of last) before after h.lawful;
        raw = raw_front (life_of last) (titles_of last) before after h.raw;
        units = λ front back is. h.units front (back ++ after) (ap (λ (j : List Event). j ++ after) is ∙ append_assoc front back after);
        through = λ front back is. h.through front (back ++ after) (ap (λ (j : List Event). j ++ after) is ∙ append_assoc front back after);
      };
    }
