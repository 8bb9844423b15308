-- Whatever part of a script was run, its events are told, where each line that is read keeps it so and nothing is told until all names are declared. So
-- its text tells them.
use Rattle.std.proofs.Common.{◌≡◌, inl, inr, ◌≤◌, ◌<◌, ◌∙◌, ℕ, ◌+◌, ◌-◌, Bool, true, false, List, [], ◌∷◌, ◌++◌, length, take, Ok, refl, sym, ap, subst, arith, length-append}
use Rattle.std.proofs.lemmas.Bool.{false≢true}
use Rattle.std.proofs.lemmas.List.{append-nil, length-map}
use Rattle.line_loop.specs.Course.{IsOver, Runs}
use Rattle.line_loop.specs.Lines.{last_line, most_lines, open_line, whole_lines, without_return}
use Rattle.script_journal.specs.Injective.{EachTold}
use Rattle.script_journal.specs.Told.{journal_text}
use Rattle.script_journal.proofs.OneText.{journal_same}
use Rattle.script_journal.specs.declared.event.Event.{Event}
use Rattle.script_lines.specs.declared.line.Line.{Line}
use Rattle.script_lines.specs.Grammar.{line_read}
use Rattle.script_lines.specs.Known.{Declared, nothing_declared}
use Rattle.script_lines.specs.Tags.{HaveNames, Tags, tags_of}
use Rattle.script_lines.proofs.FreshNames.{script_names}
use Rattle.law_setup.proofs.Started.{names_kept}
use Rattle.script_bench.specs.Acts.{Acts, Keeping, StageLaws}
use Rattle.script_bench.specs.Bench.{Bench, FillsJournal, RunsText, bench_meaning, first_bench, most_events}
use Rattle.script_bench.specs.Claims.{AllLines, IsRun, Shows, ToLimit, ToLimitAtEnd, WholeLines, lines_handled, texts_in}
use Rattle.script_bench.specs.steps.Moves.{line_moves}
use Rattle.script_bench.proofs.Runs.{filled_run, script_run}
use Rattle.law_told.specs.Reading.{HasOneReading, IsLegible, IsReading, IsReadBack, ReadsClaim, TellsItsEvents}
use Rattle.law_told.proofs.Events.{EachFrom, told_all, told_front}

both_told : (tags : Tags) (xs ys : List Event) → EachTold tags xs → EachTold tags ys → EachTold tags (xs ++ ys)
both_told tags [] ys h k = k
both_told tags (x ∷ xs) ys h k = (h.0, both_told tags xs ys h.1 k)

-- what was told by names is told by the last ones
carried : (declared last : Declared) (made : List Event) → (declared.started ≡ true → last ≡ declared) → (declared.started ≡ false → made ≡ []) → EachTold (tags_of declared) made → EachTold (tags_of last) made
carried declared last made kept quiet told = by declared.started refl
  where
    by : (b : Bool) → declared.started ≡ b → EachTold (tags_of last) made
    by true is = subst (λ (d : Declared). EachTold (tags_of d) made) (sym (kept is)) told
    by false is = subst (EachTold (tags_of last)) (sym (quiet is)) tt

none_made : (declared last : Declared) (made : List Event) → (declared.started ≡ true → last ≡ declared) → (declared.started ≡ false → made ≡ []) → last.started ≡ false → made ≡ []
none_made declared last made kept quiet idle = by declared.started refl
  where
    by : (b : Bool) → declared.started ≡ b → made ≡ []
    by true is = absurd (false≢true (sym idle ∙ (ap (λ (d : Declared). d.started) (kept is) ∙ is)))
    by false is = quiet is

stays_names : (names declared : Declared) (octets : List ℕ) (line : Line) → line_read names octets ≡ Ok (record { line = line; names = declared }) → names.started ≡ true → declared ≡ names
stays_names names declared octets line is begun = names_kept names declared begun (line_moves names octets line declared is).kept

no_octets : (octets : List ℕ) → (octets ≡ [] → ⊥) → length (last_line octets) ≡ 1
no_octets [] some = absurd (some refl)
no_octets (octet ∷ octets) some = refl

texts_count : (octets : List ℕ) → length (texts_in octets) ≡ length (whole_lines octets)
texts_count octets = length-map (whole_lines octets) without_return

-- what is so of a state after so many events, by the names
module _ {W : Type 0} (acts : Acts W) (keeping : Keeping W) (laws : StageLaws acts keeping) (WorldTold : Declared → W → ℕ → Type 0) where
  -- the events of a line are told by the names after it, and none is told until all are declared
  pub record StepTold (declared : Declared) (n : ℕ) (made : List Event) (new : W) : Type 0 where
    pub events : EachFrom (tags_of declared) n made
    pub world : WorldTold declared new (n + length made)
    pub quiet : declared.started ≡ false → made ≡ []

  pub record StageTells : Type 0 where
    pub begins : WorldTold (nothing_declared acts.dialect) acts.first 0
    pub steps : (names declared : Declared) (old : W) (count n : ℕ) (octets : List ℕ) (line : Line) (made : List Event) (new : W) → keeping.agrees names old count → WorldTold names old n → count < most_lines
        → line_read names octets ≡ Ok (record { line = line; names = declared }) → acts.step old line made new → StepTold declared n made new

module _ {W : Type 0} (acts : Acts W) (keeping : Keeping W) (laws : StageLaws acts keeping) (WorldTold : Declared → W → ℕ → Type 0) (tells : StageTells acts keeping laws WorldTold) where
  -- ---- lines, one after another

  record BenchTold (bench : Bench W) : Type 0 where
    agrees : keeping.agrees bench.names bench.world bench.lines
    world : WorldTold bench.names bench.world bench.events
    room : bench.events ≤ most_events

  -- the events are told by the names at the end: none is declared once there are some
  record RunsTold (old : Bench W) (texts : List (List ℕ)) (journal : List Event) (last : Bench W) : Type 0 where
    bench : BenchTold last
    told : EachTold (tags_of last.names) journal
    lines : last.lines ≡ old.lines + length texts
    kept : old.names.started ≡ true → last.names ≡ old.names
    quiet : last.names.started ≡ false → journal ≡ []

  ran : (texts : List (List ℕ)) (old last : Bench W) (journal : List Event) → Runs (bench_meaning acts) old texts journal last → BenchTold old → old.lines + length texts ≤ most_lines → RunsTold old texts journal last
  ran [] old last journal runs b few = record {
    bench = subst BenchTold (sym runs.1) b;
    told = subst (EachTold (tags_of last.names)) (sym runs.0) tt;
    lines = let same = ap (λ (x : Bench W). x.lines) runs.1 in omega (arith, same);
    kept = λ begun. ap (λ (x : Bench W). x.names) runs.1;
    quiet = λ idle. runs.0;
  }
  ran (text ∷ texts) old last journal runs b few =
      let made : List Event = runs.0 in
      let mid : Bench W = runs.1 in
      let one : RunsText acts old text made mid = runs.3 in
      let s = tells.steps old.names mid.names old.world old.lines old.events text one.line made mid.world b.agrees b.world (omega (arith, few)) one.meaning one.steps in
      let lines = one.lines in
      let events = one.events in
      let room = one.room in
      let after : BenchTold mid = record {
        agrees = subst (λ (count : ℕ). keeping.agrees mid.names mid.world count) (sym lines)
            (laws.read_agrees old.names mid.names old.world old.lines text one.line made mid.world b.agrees (omega (arith, few)) one.meaning one.steps);
        world = subst (λ (n : ℕ). WorldTold mid.names mid.world n) (sym events) s.world;
        room = room;
      } in
      let rest = ran texts mid last runs.2 runs.5 after (omega (arith, few, lines)) in
      let here : EachTold (tags_of mid.names) made = told_all (tags_of mid.names) old.events made (omega (arith, events, room)) s.events in
      let count = rest.lines in
      record {
        bench = rest.bench;
        told = subst (EachTold (tags_of last.names)) (sym runs.4) (both_told (tags_of last.names) made runs.2 (carried mid.names last.names made rest.kept s.quiet here) rest.told);
        lines = omega (arith, lines, count);
        kept = λ begun.
            let same : mid.names ≡ old.names = stays_names old.names mid.names text one.line one.meaning begun in
            rest.kept (ap (λ (d : Declared). d.started) same ∙ begun) ∙ same;
        quiet = λ idle. runs.4 ∙ (λ i. none_made mid.names last.names made rest.kept s.quiet idle i ++ rest.quiet idle i);
      }

  first_told : BenchTold (first_bench acts)
  first_told = record { agrees = laws.begins; world = tells.begins; room = omega arith }

  -- the lines that ran, from nothing on
  from_first : (texts : List (List ℕ)) (journal : List Event) (last : Bench W) → Runs (bench_meaning acts) (first_bench acts) texts journal last → length texts ≤ most_lines
      → RunsTold (first_bench acts) texts journal last
  from_first texts journal last runs few = ran texts (first_bench acts) last journal runs first_told (omega (arith, few))

  -- a line that fills the journal: its events that have room are told too
  filled : (texts : List (List ℕ)) (before : List Event) (state last : Bench W) (text : List ℕ) (part journal : List Event) → RunsTold (first_bench acts) texts before state → state.lines < most_lines
      → FillsJournal acts state text part last → journal ≡ before ++ part → EachTold (tags_of last.names) journal
  filled texts before state last text part journal run few f is =
      let s = tells.steps state.names last.names state.world state.lines state.events text f.line f.whole last.world run.bench.agrees run.bench.world few f.meaning f.steps in
      let room = run.bench.room in
      let front : EachTold (tags_of last.names) (take (most_events - state.events) f.whole) = told_front (tags_of last.names) state.events (most_events - state.events) f.whole (omega (arith, room)) s.events in
      let here : EachTold (tags_of last.names) before =
      carried state.names last.names before (λ begun. stays_names state.names last.names text f.line f.meaning begun) run.quiet run.told in
      subst (EachTold (tags_of last.names)) (sym is) (both_told (tags_of last.names) before part here (subst (EachTold (tags_of last.names)) (sym f.made_is) front))

  -- ---- whatever part of the octets was run

  run_told : (octets : List ℕ) (journal : List Event) (last : Bench W) → IsRun acts octets journal last → EachTold (tags_of last.names) journal
  run_told octets journal last (WholeLines read) =
      let fits = read.fits.lines in
      let count = texts_count octets in
      (from_first (texts_in octets) journal last read.runs (omega (arith, fits, count))).told
  run_told octets journal last (AllLines whole) =
      let fits = whole.fits.lines in
      let count = texts_count octets in
      let both = length-append (texts_in octets) (last_line (open_line octets)) in
      (from_first (texts_in octets ++ last_line (open_line octets)) journal last whole.runs (omega (arith, fits, count, both))).told
  run_told octets journal last (ToLimit here) =
      let fits = here.so_far.fits.lines in
      let count = texts_count here.front in
      let run = from_first (texts_in here.front) here.before here.state here.so_far.runs (omega (arith, fits, count)) in
      by run here.over
    where
      by : RunsTold (first_bench acts) (texts_in here.front) here.before here.state → IsOver (bench_meaning acts) here.state here.front here.octet here.events last → EachTold (tags_of last.names) journal
      by run (inl limit) =
          let parts = subst (EachTold (tags_of here.state.names)) (sym limit.1) tt in
          let all = both_told (tags_of here.state.names) here.before here.events run.told parts in
          subst (λ (b : Bench W). EachTold (tags_of b.names) journal) (sym limit.2) (subst (EachTold (tags_of here.state.names)) (sym here.journal_is) all)
      by run (inr fills) =
          let count = texts_count here.front in
          let lines = run.lines in
          let within = fills.1.1 in
          filled (texts_in here.front) here.before here.state last (without_return (open_line here.front)) here.events journal run (omega (arith, count, lines, within)) fills.2 here.journal_is
  run_told octets journal last (ToLimitAtEnd at_end) =
      let fits = at_end.so_far.fits.lines in
      let count = texts_count octets in
      let one = no_octets (open_line octets) at_end.begun in
      let run = from_first (texts_in octets) at_end.before at_end.state at_end.so_far.runs (omega (arith, fits, count)) in
      let lines = run.lines in
      filled (texts_in octets) at_end.before at_end.state last (open_line octets) at_end.events journal run (omega (arith, fits, count, one, lines)) at_end.fills at_end.journal_is

  -- the names at the end are names, no two alike
  run_named : (octets : List ℕ) (journal : List Event) (last : Bench W) → IsRun acts octets journal last → HaveNames last.names
  run_named octets journal last (WholeLines read) =
      let r = script_run acts (texts_in octets) journal last read.runs in script_names acts.dialect (texts_in octets) r.script last.names r.lines
  run_named octets journal last (AllLines whole) =
      let texts = texts_in octets ++ last_line (open_line octets) in
      let r = script_run acts texts journal last whole.runs in
      script_names acts.dialect texts r.script last.names r.lines
  run_named octets journal last (ToLimit here) = by here.over
    where
      by : IsOver (bench_meaning acts) here.state here.front here.octet here.events last → HaveNames last.names
      by (inl limit) =
          let r = script_run acts (texts_in here.front) here.before here.state here.so_far.runs in
          subst (λ (b : Bench W). HaveNames b.names) (sym limit.2) (script_names acts.dialect (texts_in here.front) r.script here.state.names r.lines)
      by (inr fills) =
          let text = without_return (open_line here.front) in
          let r = filled_run acts (texts_in here.front) here.before here.state text here.events journal last here.so_far.runs fills.2 here.journal_is in
          script_names acts.dialect (texts_in here.front ++ text ∷ []) r.run.script last.names r.run.lines
  run_named octets journal last (ToLimitAtEnd at_end) =
      let r = filled_run acts (texts_in octets) at_end.before at_end.state (open_line octets) at_end.events journal last at_end.so_far.runs at_end.fills at_end.journal_is in
      script_names acts.dialect (texts_in octets ++ open_line octets ∷ []) r.run.script last.names r.run.lines

  -- ---- what a reader may conclude

  tells_events : TellsItsEvents acts
  tells_events octets journal last run = (run_named octets journal last run, run_told octets journal last run)

  read_back : IsReadBack acts
  read_back octets journal read last run is =
      let named = run_named octets journal last run in journal_same (tags_of last.names) read journal named.0 named.1 is.told (run_told octets journal last run) is.text

  one_text : HasOneReading acts
  one_text octets others journal other last end run next names text =
      let told = run_told octets journal last run in
      let there : EachTold (tags_of last.names) other = subst (λ (t : Tags). EachTold t other) (sym names) (run_told others other end next) in
      let named = run_named octets journal last run in
      let same : journal_text (tags_of last.names) journal ≡ journal_text (tags_of last.names) other = text ∙ ap (λ (t : Tags). journal_text t other) (sym names) in
      journal_same (tags_of last.names) journal other named.0 named.1 told there same

  module _ (Claim : List Line → List Event → W → Type 0) where
    reads_claim : ReadsClaim acts Claim
    reads_claim octets journal read last run shows is =
        subst (λ (events : List Event). Claim (lines_handled acts octets journal last run) events last.world) (sym (read_back octets journal read last run is))
        (shows octets journal last ([], append-nil octets) run)

    pub legible : IsLegible acts Claim
    legible = record { tells = tells_events; reads = read_back; one = one_text; claims = reads_claim }
