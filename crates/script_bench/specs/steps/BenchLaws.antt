-- A line has one course on the bench, and events that were told stay told.
use Rattle.std.proofs.Common.{◌≡◌, ◌⊎◌, ℕ, ◌+◌, ◌-◌, ◌<◌, ◌≤◌, Bool, true, false, List, [], ◌++◌, length, take, Result, Ok, Err, inl, inr, refl, sym, ◌∙◌, ap, subst, arith}
use Rattle.std.proofs.lemmas.Bool.{false≢true}
use Rattle.std.proofs.lemmas.List.Concat.{flat_map-append}
use Rattle.script_lines.specs.declared.cause.LineFault.{LineFault}
use Rattle.script_lines.specs.declared.line.Line.{Line}
use Rattle.script_lines.specs.Grammar.{Reading, line_read}
use Rattle.script_lines.specs.Known.{Declared}
use Rattle.script_lines.specs.Tags.{Tags, tags_of}
use Rattle.script_journal.specs.declared.event.Event.{Event}
use Rattle.script_journal.specs.Told.{event_text, journal_text}
use Rattle.line_loop.specs.Meaning.{Laws}
use Rattle.script_bench.specs.Acts.{Acts, Keeping, StageLaws}
use Rattle.script_bench.specs.Bench.{Bench, FillsJournal, RunsText, bench_meaning, most_events}
use Rattle.script_bench.specs.Script.{IsPlaced, is_start, started_after}
use Rattle.script_bench.specs.steps.Moves.{Moves, line_moves, start_only, starts_not}

-- ---- one course

one_reading : (read : Result Reading LineFault) (first second : Reading) → read ≡ Ok first → read ≡ Ok second → first ≡ second
one_reading read first second a b = cc

one_fault : (read : Result Reading LineFault) (first second : LineFault) → read ≡ Err first → read ≡ Err second → first ≡ second
one_fault read first second a b = cc

not_both : (read : Result Reading LineFault) (reading : Reading) (found : LineFault) → read ≡ Ok reading → read ≡ Err found → ⊥
not_both read reading found a b = absurd (cc)

no_room : (most events now size other : ℕ) → now ≡ events + size → now ≤ most → size ≡ other → most < events + other → ⊥
no_room most events now size other now-is room same over = omega arith

-- a line that is read has one step
record OneLine {W : Type 0} (made other : List Event) (names declared : Declared) (new next : W) : Type 0 where
  made_is : made ≡ other
  names_are : names ≡ declared
  world_is : new ≡ next

-- ---- what was told stays told

text-append : (tags : Tags) (first second : List Event) → journal_text tags (first ++ second) ≡ journal_text tags first ++ journal_text tags second
text-append tags first second = flat_map-append (event_text tags) first second

said_on : (names new : Declared) (journal made : List Event) → (names.started ≡ false) ⊎ (new ≡ names) → (names.started ≡ false → journal ≡ [])
    → journal_text (tags_of new) (journal ++ made) ≡ journal_text (tags_of names) journal ++ journal_text (tags_of new) made
said_on names new journal made (inl not_yet) tells =
    let none : journal ≡ [] = tells not_yet in
    ap (λ (j : List Event). journal_text (tags_of new) (j ++ made)) none ∙ ap (λ (j : List Event). journal_text (tags_of names) j ++ journal_text (tags_of new) made) (sym none)
said_on names new journal made (inr same) tells =
    text-append (tags_of new) journal made ∙ ap (λ (n : Declared). journal_text (tags_of n) journal ++ journal_text (tags_of new) made) same

module _ {W : Type 0} (acts : Acts W) (keeping : Keeping W) (laws : StageLaws acts keeping) where
  one_line : (old : Bench W) (octets : List ℕ) (line second : Line) (names declared : Declared) (made other : List Event) (new next : W)
      → line_read old.names octets ≡ Ok (record { line = line; names = names }) → line_read old.names octets ≡ Ok (record { line = second; names = declared })
      → acts.step old.world line made new → acts.step old.world second other next → OneLine made other names declared new next
  one_line old octets line second names declared made other new next first_is second_is a b =
      let same = one_reading (line_read old.names octets) (record { line = line; names = names }) (record { line = second; names = declared }) first_is second_is in
      let lines : line ≡ second = ap (λ (r : Reading). r.line) same in
      let steps : acts.step old.world second made new = subst (λ (l : Line). acts.step old.world l made new) lines a in
      let one = laws.one_step second old.world made other new next steps b in
      record { made_is = one.0; names_are = ap (λ (r : Reading). r.names) same; world_is = one.1 }

  one_course : (old : Bench W) (octets : List ℕ) (made other : List Event) (new next : Bench W) → RunsText acts old octets made new → RunsText acts old octets other next → (made ≡ other) × (new ≡ next)
  one_course old octets made other new next a b =
      let one = one_line old octets a.line b.line new.names next.names made other new.world next.world a.meaning b.meaning a.steps b.steps in
      let lines : new.lines ≡ next.lines = a.lines ∙ sym b.lines in
      let events : new.events ≡ next.events = a.events ∙ ap (λ (m : List Event). old.events + length m) one.made_is ∙ sym b.events in
      (one.made_is, λ i. record { names = one.names_are i; world = one.world_is i; lines = lines i; events = events i })

  one_filling : (old : Bench W) (octets : List ℕ) (made other : List Event) (new next : Bench W) → FillsJournal acts old octets made new → FillsJournal acts old octets other next → (made ≡ other) × (new ≡ next)
  one_filling old octets made other new next a b =
      let one = one_line old octets a.line b.line new.names next.names a.whole b.whole new.world next.world a.meaning b.meaning a.steps b.steps in
      let lines : new.lines ≡ next.lines = a.lines ∙ sym b.lines in
      let events : new.events ≡ next.events = a.events ∙ sym b.events in
      let same : made ≡ other = a.made_is ∙ ap (λ (w : List Event). take (most_events - old.events) w) one.made_is ∙ sym b.made_is in
      (same, λ i. record { names = one.names_are i; world = one.world_is i; lines = lines i; events = events i })

  not_filled : (old : Bench W) (octets : List ℕ) (made other : List Event) (new next : Bench W) → RunsText acts old octets made new → FillsJournal acts old octets other next → ⊥
  not_filled old octets made other new next a b =
      let one = one_line old octets a.line b.line new.names next.names made b.whole new.world next.world a.meaning b.meaning a.steps b.steps in
      no_room most_events old.events new.events (length made) (length b.whole) a.events a.room (ap (λ (m : List Event). length m) one.made_is) b.over

  -- while the set-up goes on nothing happens
  tells_on : (names new : Declared) (line : Line) (world next : W) (journal made : List Event) → Moves names line new → acts.step world line made next
      → (names.started ≡ false → journal ≡ []) → new.started ≡ false → journal ++ made ≡ []
  tells_on names new line world next journal made moves step tells later = by (is_start line) refl
    where
      by : (start : Bool) → is_start line ≡ start → journal ++ made ≡ []
      by true is =
          let after : new.started ≡ true = moves.started ∙ ap (λ (l : Line). started_after names.started l) (start_only line is) in
          absurd (false≢true (sym later ∙ after))
      by false is =
          let before : names.started ≡ false = sym (moves.started ∙ starts_not names.started line is) ∙ later in
          let none : made ≡ [] = laws.quiet line world made next (subst (λ (b : Bool). IsPlaced b line) before moves.placed) is step in
          ap (λ (j : List Event). j ++ made) (tells before) ∙ none

  pub bench_laws : Laws (bench_meaning acts)
  bench_laws = record {
    one_step = one_course;
    one_refusal = λ state octets said other a b. one_fault (line_read state.names octets) said other a b;
    one_filling = one_filling;
    step_or_refusal = λ old octets made new said a found. not_both (line_read old.names octets) (record { line = a.line; names = new.names }) said a.meaning found;
    step_or_filling = not_filled;
    refusal_or_filling = λ old octets said made new found a. not_both (line_read old.names octets) (record { line = a.line; names = new.names }) said a.meaning found;
    counted = λ old octets made new a. a.lines;
    none_told = λ state. (λ _. refl, refl);
    told = λ old octets made new journal a tells.
        let moves = line_moves old.names octets a.line new.names a.meaning in
        (tells_on old.names new.names a.line old.world new.world journal made moves a.steps tells, said_on old.names new.names journal made moves.kept tells);
    told_full = λ old octets made new journal a tells. said_on old.names new.names journal made (line_moves old.names octets a.line new.names a.meaning).kept tells;
  }
