-- A generated script is a script in which nothing is injected, and its run is that of the network; so its journal is lawful, whatever front of its lines ran.
use Rattle.std.proofs.Common.{◌≡◌, ℕ, ◌+◌, ◌<◌, ◌≤◌, List, [], ◌∷◌, ◌++◌, length, map, take, drop, None, refl, sym, ◌∙◌, ap, subst, append_assoc, length-append, arith}
use Rattle.std.specs.Prelude.{Ok, Result}
use Rattle.std.specs.List.{count_by}
use Rattle.std.proofs.lemmas.List.{append-nil, take-append-drop}
use Rattle.std.proofs.lemmas.List.Sums.{count_by-le-length}
use Rattle.line_loop.specs.Course.{Runs}
use Rattle.script_journal.specs.declared.event.Event.{Event}
use Rattle.script_journal.specs.Lawful.{Lawful}
use Rattle.script_lines.specs.declared.cause.LineFault.{LineFault}
use Rattle.script_lines.specs.declared.words.Dialect.TheVariants as dialects
use Rattle.script_lines.specs.declared.line.Line.{Line}
use Rattle.script_lines.specs.Grammar.{Reading, line_read}
use Rattle.script_lines.specs.Injecting.{HasNoInject, IsNoInjection}
use Rattle.script_lines.specs.Known.{Declared, nothing_declared}
use Rattle.script_lines.specs.Script.{Says}
use Rattle.script_storm.specs.Counted.{is_frame, makes_end}
use Rattle.script_storm.specs.Line.{line_text, set_up_lines}
use Rattle.script_storm.specs.Words.{words}
use Rattle.script_storm.specs.declared.request.Storm.{Storm}
use Rattle.script_storm.proofs.EachLine.{are_read}
use Rattle.script_world.proofs.Headline.{front_lawful}
use Rattle.law_run.specs.Bench.{Bench, RunsText, bench_meaning, first_bench, most_events}
use Rattle.law_run.specs.Transcript.{IsFilledRun, IsScriptRun}
use Rattle.law_run.specs.World.{World, WorldRun, frozen_of, strays_of, titles_of}
use Rattle.law_run.proofs.Lawful.{unstrayed}
use Rattle.law_run.proofs.ScriptRuns.{filled_run, script_run}
use Rattle.osi_storm.specs.Storm.{IsLawfulRun, IsLawfulStorm, StormRuns, as_it_stands, line_after, storm_lines}
use Rattle.osi_storm.proofs.Storming.{few_frames, read_by}

abbrev pub Lines : Type 0
Lines = List (List Event → List ℕ)

-- ---- the lines inject nothing

-- each line is read by the names of those before it and injects nothing, whatever journal stands before it
abbrev pub AreClear : Lines → Declared → Type 0
AreClear [] names = Unit {0}
AreClear (line ∷ lines) names =
    (before : List Event) → length before ≤ most_events
    → (read : Reading) × (line_read names (line before) ≡ Ok read) × IsNoInjection read.line × AreClear lines read.names

-- the line of each word is read by these names, declares nothing and injects nothing
abbrev AreWords : Declared → Type 0
AreWords names =
    (word frames ends : ℕ) → frames < 1000000000 → ends < 1000000000
    → (line : Line) × (line_read names (line_text word frames ends) ≡ Ok (record { line = line; names = names })) × IsNoInjection line

words_clear : (all : List ℕ) (names : Declared) → AreWords names → AreClear (map line_after all) names
words_clear [] names each = tt
words_clear (word ∷ all) names each = λ before few.
    let r = each word (count_by is_frame before) (count_by makes_end before)
    (few_frames (count_by is_frame before) (length before) (count_by-le-length is_frame before) few)
    (few_frames (count_by makes_end before) (length before) (count_by-le-length makes_end before) few) in
    (record { line = r.0; names = names }, r.1, r.2, words_clear all names each)

set_up_clear : (texts : List (List ℕ)) (script : List Line) (names last : Declared) (rest : Lines) → Says names texts script last → HasNoInject script → AreClear rest last
    → AreClear (map as_it_stands texts ++ rest) names
set_up_clear [] [] names last rest says none clear = subst (λ (n : Declared). AreClear rest n) says clear
set_up_clear [] (line ∷ script) names last rest says none clear = absurd says
set_up_clear (text ∷ texts) [] names last rest says none clear = absurd says
set_up_clear (text ∷ texts) (line ∷ script) names last rest says none clear = λ before few.
    (record { line = line; names = says.0 }, says.1, none.0, set_up_clear texts script says.0 last rest says.2 none.1 clear)

pub storm_clear : (storm : Storm) → AreClear (storm_lines storm) (nothing_declared dialects.Run)
storm_clear storm =
    let h = are_read dialects.Run read_by in
    set_up_clear set_up_lines h.said (nothing_declared dialects.Run) h.names (map line_after (words storm.seed storm.count)) h.set_up h.none_injects
    (words_clear (words storm.seed storm.count) h.names h.each)

one_read : (read : Result Reading LineFault) (first second : Reading) → read ≡ Ok first → read ≡ Ok second → first ≡ second
one_read read first second a b = cc

-- the first of the lines that are said is the one that is read
none_first : (text : List ℕ) (texts : List (List ℕ)) (script : List Line) (names : Declared) (read : Reading) (end : Declared) → line_read names text ≡ Ok read → IsNoInjection read.line
    → Says names (text ∷ texts) script end → ((others : List Line) → Says read.names texts others end → HasNoInject others) → HasNoInject script
none_first text texts [] names read end is none says others = absurd says
none_first text texts (line ∷ script) names read end is none says others =
    let same : record { line = line; names = says.0 } ≡ read = one_read (line_read names text) (record { line = line; names = says.0 }) read says.1 is in
    (subst (λ (r : Reading). IsNoInjection r.line) (sym same) none, others script (subst (λ (r : Reading). Says r.names texts script end) same says.2))

none_behind : (names end : Declared) (script : List Line) → Says names [] script end → HasNoInject script
none_behind names end [] says = tt
none_behind names end (line ∷ script) says = absurd says

-- ---- a front of the lines ran

record Generated (rest : Lines) (first : Bench) (before journal : List Event) (last : Bench) : Type 0 where
  texts : List (List ℕ)
  made : List Event
  is : journal ≡ before ++ made
  runs : Runs bench_meaning first texts made last
  left : AreClear rest last.names
  room : length journal ≤ most_events
  none : (more : List (List ℕ)) (script : List Line) (end : Declared) → Says first.names (texts ++ more) script end
      → ((behind : List Line) → Says last.names more behind end → HasNoInject behind) → HasNoInject script

generated : (lines rest : Lines) (first : Bench) (before journal : List Event) (last : Bench) → AreClear (lines ++ rest) first.names → first.events ≡ length before → length before ≤ most_events
    → StormRuns first before lines journal last → Generated rest first before journal last
generated [] rest first before journal last clear events room h = record {
  texts = [];
  made = [];
  is = h.0 ∙ sym (append-nil before);
  runs = (refl, h.1);
  left = subst (λ (b : Bench). AreClear rest b.names) (sym h.1) clear;
  room = subst (λ (j : List Event). length j ≤ most_events) (sym h.0) room;
  none = λ more script end says behind. behind script (subst (λ (b : Bench). Says b.names more script end) (sym h.1) says);
}
generated (line ∷ lines) rest first before journal last clear events room h =
    let c = clear before room in
    let ran : RunsText first (line before) h.0 h.1 = h.2 in
    let same : c.0 ≡ record { line = ran.line; names = h.1.names } = one_read (line_read first.names (line before)) c.0 (record { line = ran.line; names = h.1.names }) c.1 ran.meaning in
    let size : length (before ++ h.0) ≡ length before + length h.0 = length-append before h.0 in
    let events_on : h.1.events ≡ length (before ++ h.0) = ran.events ∙ ap (λ (n : ℕ). n + length h.0) events ∙ sym size in
    let g = generated lines rest h.1 (before ++ h.0) journal last (subst (λ (r : Reading). AreClear (lines ++ rest) r.names) same c.3) events_on
    (subst (λ (n : ℕ). n ≤ most_events) events_on ran.room) h.3 in
    record {
      texts = line before ∷ g.texts;
      made = h.0 ++ g.made;
      is = g.is ∙ append_assoc before h.0 g.made;
      runs = (h.0, h.1, g.made, h.2, refl, g.runs);
      left = g.left;
      room = g.room;
      none = λ more script end says behind. none_first (line before) (g.texts ++ more) script first.names c.0 end c.1 c.2 says
          (λ others said. g.none more others end (subst (λ (r : Reading). Says r.names (g.texts ++ more) others end) same said) behind);
    }

ran_front : (storm : Storm) (lines rest : Lines) (journal : List Event) (last : Bench) → storm_lines storm ≡ lines ++ rest → StormRuns first_bench [] lines journal last
    → Generated rest first_bench [] journal last
ran_front storm lines rest journal last is h =
    generated lines rest first_bench [] journal last (subst (λ (all : Lines). AreClear all (nothing_declared dialects.Run)) is (storm_clear storm)) refl (omega arith) h

front_run : (storm : Storm) (lines rest : Lines) (journal : List Event) (last : Bench) → storm_lines storm ≡ lines ++ rest → StormRuns first_bench [] lines journal last
    → (texts : List (List ℕ)) × (run : IsScriptRun texts journal last) × HasNoInject run.script
front_run storm lines rest journal last is h =
    let g = ran_front storm lines rest journal last is h in
    let run = script_run g.texts journal last (subst (λ (j : List Event). Runs bench_meaning first_bench g.texts j last) (sym g.is) g.runs) in (
      g.texts,
      run,
      g.none [] run.script last.names (subst (λ (texts : List (List ℕ)). Says (nothing_declared dialects.Run) texts run.script last.names) (sym (append-nil g.texts)) run.lines)
          (λ behind says. none_behind last.names last.names behind says),
    )

pub generated_run : (storm : Storm) (journal : List Event) (last : Bench) → StormRuns first_bench [] (storm_lines storm) journal last
    → (texts : List (List ℕ)) × (run : IsScriptRun texts journal last) × HasNoInject run.script
generated_run storm journal last h = front_run storm (storm_lines storm) [] journal last (sym (append-nil (storm_lines storm))) h

-- ---- and is lawful

none_strayed : (texts : List (List ℕ)) (journal : List Event) (last : Bench) (run : IsScriptRun texts journal last) → HasNoInject run.script → strays_of last.world ≡ None
none_strayed texts journal last run none = unstrayed texts run.script last.names journal last.world run.lines run.run none

module _ (law : (texts : List (List ℕ)) (script : List Line) (names : Declared) (journal : List Event) (last : World) → Says (nothing_declared dialects.Run) texts script names
    → WorldRun script journal last → strays_of last ≡ None → Lawful (frozen_of last) (titles_of last) journal) where
  filled_front : (texts : List (List ℕ)) (journal : List Event) (last : Bench) (f : IsFilledRun texts journal last) → HasNoInject f.run.script → IsLawfulRun last journal
  filled_front texts journal last f none =
      let frozen = frozen_of last.world in
      let titles = titles_of last.world in
      let clear = none_strayed texts f.whole last f.run none in
      let whole : Lawful frozen titles f.whole = law texts f.run.script last.names f.whole last.world f.run.lines f.run.run clear in (
        f.sent clear,
        subst (λ (j : List Event). Lawful frozen titles j) (sym f.journal_is)
            (front_lawful frozen titles (take most_events f.whole) (drop most_events f.whole)
            (subst (λ (j : List Event). Lawful frozen titles j) (sym (take-append-drop most_events f.whole)) whole)),
      )

  pub lawful_storm : (storm : Storm) → IsLawfulStorm storm
  lawful_storm storm = record {
    ran = λ lines rest journal last is h.
        let r = front_run storm lines rest journal last is h in
        let clear = none_strayed r.0 journal last r.1 r.2 in
        (r.1.sent clear, law r.0 r.1.script last.names journal last.world r.1.lines r.1.run clear);
    filled = λ lines rest line journal made state last is h fills.
        let g = ran_front storm lines (line ∷ rest) journal state is h in
        let c = g.left journal g.room in
        let runs = subst (λ (j : List Event). Runs bench_meaning first_bench g.texts j state) (sym g.is) g.runs in
        let f = filled_run g.texts journal state (line journal) made (journal ++ made) last runs fills refl in
        filled_front (g.texts ++ line journal ∷ []) (journal ++ made) last f
        (g.none (line journal ∷ []) f.run.script last.names f.run.lines
        (λ behind says. none_first (line journal) [] behind state.names c.0 last.names c.1 c.2 says (λ others said. none_behind c.0.names last.names others said)));
  }
