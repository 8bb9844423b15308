-- The lines of a generated script run one after another: a front of them, and one line more.
use Rattle.std.proofs.Common.{◌≡◌, ◌⊎◌, ℕ, zero, suc, ◌+◌, ◌<◌, ◌≤◌, List, [], ◌∷◌, ◌++◌, length, map, take, drop, inl, inr, refl, sym, ◌∙◌, ap, subst, arith, append_assoc, length-append, Option}
use Rattle.std.specs.Prelude.{Ok, Result, get_or}
use Rattle.std.proofs.lemmas.List.{map-append, take-append-drop, take_all}
use Rattle.std.proofs.Math.ListN.{drop_of_length-le}
use Rattle.std.specs.List.{count_by}
use Rattle.rand_core.specs.Steps.{first_words}
use Rattle.line_loop.specs.Writing.{IsPrefix, IsWritten}
use Rattle.osi_base.specs.Ends.{Put}
use Rattle.osi_base.specs.declared.status.Status.{Status}
use Rattle.osi_base.specs.declared.status.Status.TheVariants.{Done, RefusedLine, RefusedWords, ReadFault, WriteFault, NoMemory, RefusedCapture, TooMuch}
use Rattle.script_journal.specs.declared.event.Event.{Event}
use Rattle.script_lines.specs.declared.line.Line.{Line}
use Rattle.script_lines.specs.declared.cause.LineFault.{LineFault}
use Rattle.script_lines.specs.Grammar.{Reading, line_read}
use Rattle.script_lines.specs.Known.{Declared, nothing_declared}
use Rattle.script_lines.specs.Script.{Says}
use Rattle.std.proofs.lemmas.List.{length-map}
use Rattle.std.proofs.lemmas.List.Sums.{count_by-le-length}
use Rattle.script_storm.specs.Counted.{counts_of, is_frame, makes_end}
use Rattle.script_storm.specs.declared.counts.Counts.{Counts}
use Rattle.script_storm.specs.declared.request.Storm.{Storm}
use Rattle.script_storm.specs.Line.{line_text, set_up_lines}
use Rattle.script_storm.specs.Read.{RunsStorms}
use Rattle.script_storm.specs.Summary.{summary_line}
use Rattle.script_storm.proofs.EachLine.{are_read}
use Rattle.script_lines.specs.declared.words.Dialect.TheVariants as dialects
use Rattle.law_run.specs.Bench.{Bench, FillsJournal, RunsText, first_bench, most_events}
use Rattle.osi_storm.specs.Storm.{AsksSummary, StormFills, StormRuns, SummaryOutcome, as_it_stands, line_after, storm_lines}
use Rattle.script_bench.specs.Text.{done_line, toomuch_line}
use Rattle.osi_storm.specs.steps.Storming.{Fills, Goes, HasJournal, IsKnown, IsReady, Stands}

abbrev Lines : Type 0
Lines = List (List Event → List ℕ)

-- ---- one after another

pub runs_on : (lines rest : Lines) (first state last : Bench) (before mid journal : List Event) → StormRuns first before lines mid state → StormRuns state mid rest journal last
    → StormRuns first before (lines ++ rest) journal last
runs_on [] rest first state last before mid journal h k =
    subst (λ (b : Bench). StormRuns b before rest journal last) h.1 (subst (λ (j : List Event). StormRuns state j rest journal last) h.0 k)
runs_on (line ∷ lines) rest first state last before mid journal h k = (h.0, h.1, h.2, runs_on lines rest h.1 state last (before ++ h.0) mid journal h.3 k)

pub fills_on : (lines rest : Lines) (first state : Bench) (before mid : List Event) → StormRuns first before lines mid state → StormFills state mid rest → StormFills first before (lines ++ rest)
fills_on [] rest first state before mid h k =
    subst (λ (b : Bench). StormFills b before rest) h.1 (subst (λ (j : List Event). StormFills state j rest) h.0 k)
fills_on (line ∷ lines) rest first state before mid h k = inr (h.0, h.1, h.2, fills_on lines rest h.1 state (before ++ h.0) mid h.3 k)

pub fills_more : (lines rest : Lines) (first : Bench) (before : List Event) → StormFills first before lines → StormFills first before (lines ++ rest)
fills_more [] rest first before h = absurd h
fills_more (line ∷ lines) rest first before (inl here) = inl here
fills_more (line ∷ lines) rest first before (inr later) = inr (later.0, later.1, later.2, fills_more lines rest later.1 (before ++ later.0) later.3)

-- ---- with what is counted

few_enough : (journal size : ℕ) → journal ≤ most_events → journal + size ≤ most_events → journal + size < 4294967296
few_enough journal size few room = omega arith

-- what is counted of one line more
abbrev pub CountsOn : Counts → List Event → Counts → Type 0
CountsOn counts made after = (journal : List Event) → length journal + length made < 4294967296 → counts ≡ counts_of journal → after ≡ counts_of (journal ++ made)

stands_on : (bench next : Bench) (counts after : Counts) (before made : List Event) (text : List ℕ) → Stands bench counts before → RunsText bench text made next → CountsOn counts made after
    → Stands next after (before ++ made)
stands_on bench next counts after before made text h runs on =
    let size : length (before ++ made) ≡ length before + length made = length-append before made in
    let events : next.events ≡ length before + length made = runs.events ∙ ap (λ (n : ℕ). n + length made) h.events in
    let room : length before + length made ≤ most_events = subst (λ (n : ℕ). n ≤ most_events) events runs.room in
    record {
      counted = on before (few_enough (length before) (length made) h.room room) h.counted;
      events = events ∙ sym size;
      room = subst (λ (n : ℕ). n ≤ most_events) (sym size) room;
    }

-- the text of the next line is that of the script, whatever journal there was
abbrev pub IsNext : Bench → Counts → List ℕ → (List Event → List ℕ) → Type 0
IsNext bench counts text line = (journal : List Event) → Stands bench counts journal → text ≡ line journal

pub goes_on : (lines : Lines) (line : List Event → List ℕ) (first bench next : Bench) (start counts after : Counts) (text : List ℕ) (made : List Event) → Goes lines first start bench counts
    → IsNext bench counts text line → RunsText bench text made next → CountsOn counts made after → Goes (lines ++ line ∷ []) first start next after
goes_on lines line first bench next start counts after text made goes is runs on = λ before stands.
    let h = goes before stands in
    let runs_so : RunsText bench (line h.0) made next = subst (λ (t : List ℕ). RunsText bench t made next) (is h.0 h.1) runs in
    (h.0 ++ made, stands_on bench next counts after h.0 made text h.1 runs on, runs_on lines (line ∷ []) first bench next before h.0 (h.0 ++ made) h.2 (made, next, runs_so, (refl, refl)))

pub none_goes : (first : Bench) (start : Counts) → Goes [] first start first start
none_goes first start = λ before stands. (before, stands, (refl, refl))

pub fills_at : (lines rest : Lines) (line : List Event → List ℕ) (first bench last : Bench) (start counts : Counts) (text : List ℕ) (made : List Event) → Goes lines first start bench counts
    → IsNext bench counts text line → FillsJournal bench text made last → Fills (lines ++ line ∷ rest) first start
fills_at lines rest line first bench last start counts text made goes is fills = λ before stands.
    let h = goes before stands in
    fills_on lines (line ∷ rest) first bench before h.0 h.2 (inl (made, last, subst (λ (t : List ℕ). FillsJournal bench t made last) (is h.0 h.1) fills))

-- ---- the lines of the set-up

one_reading : (read : Result Reading LineFault) (first second : Reading) → read ≡ Ok first → read ≡ Ok second → first.names ≡ second.names
one_reading read first second a b = let same : first ≡ second = cc in ap (λ (r : Reading). r.names) same

pub read_by : RunsStorms dialects.Run
read_by = (refl, (refl, (refl, (refl, (refl, (refl, (refl, (refl, (refl, (refl, (refl, (refl, (refl, (refl, (refl, (refl, tt))))))))))))))))

-- the lines of the set-up from one on are read by these names, and leave names that are ready for words
pub record AreLeft (texts : List (List ℕ)) (names : Declared) : Type 0 where
  pub script : List Line
  pub last : Declared
  pub says : Says names texts script last
  pub ready : IsReady last

pub all_left : AreLeft set_up_lines (nothing_declared dialects.Run)
all_left = let h = are_read dialects.Run read_by in record { script = h.said; last = h.names; says = h.set_up; ready = λ word frames ends few made. let r = h.each word frames ends few made in (r.0, r.1) }

known_first : (text : List ℕ) (texts : List (List ℕ)) (names last : Declared) (script : List Line) → Says names (text ∷ texts) script last → IsKnown names text
known_first text texts names last [] h = absurd h
known_first text texts names last (line ∷ script) h = record { line = line; after = h.0; meaning = h.1 }

pub first_known : (text : List ℕ) (texts : List (List ℕ)) (names : Declared) → AreLeft (text ∷ texts) names → IsKnown names text
first_known text texts names h = known_first text texts names h.last h.script h.says

rest_says : (text : List ℕ) (texts : List (List ℕ)) (names after last : Declared) (line : Line) (script : List Line) → Says names (text ∷ texts) script last
    → line_read names text ≡ Ok (record { line = line; names = after }) → (rest : List Line) × Says after texts rest last
rest_says text texts names after last line [] h read = absurd h
rest_says text texts names after last line (first ∷ script) h read =
    let same : h.0 ≡ after = one_reading (line_read names text) (record { line = first; names = h.0 }) (record { line = line; names = after }) h.1 read in
    (script, subst (λ (n : Declared). Says n texts script last) same h.2)

pub rest_left : (text : List ℕ) (texts : List (List ℕ)) (old new : Bench) (made : List Event) → AreLeft (text ∷ texts) old.names → RunsText old text made new → AreLeft texts new.names
rest_left text texts old new made h runs =
    let r = rest_says text texts old.names new.names h.last runs.line h.script h.says runs.meaning in
    record { script = r.0; last = h.last; says = r.1; ready = h.ready }

none_says : (names last : Declared) (script : List Line) → Says names [] script last → last ≡ names
none_says names last [] h = h
none_says names last (line ∷ script) h = absurd h

pub none_left : (names : Declared) → AreLeft [] names → IsReady names
none_left names h = subst IsReady (none_says names h.last h.script h.says) h.ready

-- the text at a place of the lines, which a slice has as its items
pub record IsAt (texts : List (List ℕ)) (place : ℕ) (text : List ℕ) : Type 0 where
  pub front : take (place + 1) texts ≡ take place texts ++ text ∷ []
  pub rest : drop place texts ≡ text ∷ drop (place + 1) texts

front_at : {A : Type 0} (f : A → List ℕ) (items : List A) (place : ℕ) (other : A) → place < length items
    → take (suc place) (map f items) ≡ take place (map f items) ++ f (get_or items place other) ∷ []
front_at f [] place other below = absurd (omega arith)
front_at f (item ∷ items) zero other below = refl
front_at f (item ∷ items) (suc place) other below = ap (λ (texts : List (List ℕ)). f item ∷ texts) (front_at f items place other (omega arith))

rest_at : {A : Type 0} (f : A → List ℕ) (items : List A) (place : ℕ) (other : A) → place < length items
    → drop place (map f items) ≡ f (get_or items place other) ∷ drop (suc place) (map f items)
rest_at f [] place other below = absurd (omega arith)
rest_at f (item ∷ items) zero other below = refl
rest_at f (item ∷ items) (suc place) other below = rest_at f items place other (omega arith)

pub is_at : {A : Type 0} (f : A → List ℕ) (items : List A) (texts : List (List ℕ)) (place : ℕ) (other : A) (text : List ℕ) → map f items ≡ texts → place < length items
    → text ≡ f (get_or items place other) → IsAt texts place text
is_at f items texts place other text all below is =
    let next : suc place ≡ place + 1 = omega arith in
    let front : take (place + 1) (map f items) ≡ take place (map f items) ++ text ∷ [] =
    ap (λ (n : ℕ). take n (map f items)) (sym next) ∙ front_at f items place other below ∙ ap (λ (t : List ℕ). take place (map f items) ++ t ∷ []) (sym is) in
    let rest : drop place (map f items) ≡ text ∷ drop (place + 1) (map f items) =
    rest_at f items place other below ∙ ap (λ (n : ℕ). f (get_or items place other) ∷ drop n (map f items)) next ∙ ap (λ (t : List ℕ). t ∷ drop (place + 1) (map f items)) (sym is) in
    subst (λ (ts : List (List ℕ)). IsAt ts place text) all (record { front = front; rest = rest })

pub goes_texts : (texts : List (List ℕ)) (place : ℕ) (text : List ℕ) (first bench next : Bench) (start counts after : Counts) (made : List Event) → IsAt texts place text
    → Goes (map as_it_stands (take place texts)) first start bench counts → RunsText bench text made next → CountsOn counts made after
    → Goes (map as_it_stands (take (place + 1) texts)) first start next after
goes_texts texts place text first bench next start counts after made here goes runs on =
    let same : map as_it_stands (take (place + 1) texts) ≡ map as_it_stands (take place texts) ++ as_it_stands text ∷ [] =
    ap (λ (ts : List (List ℕ)). map as_it_stands ts) here.front ∙ map-append as_it_stands (take place texts) (text ∷ []) in
    subst (λ (lines : Lines). Goes lines first start next after) (sym same)
    (goes_on (map as_it_stands (take place texts)) (as_it_stands text) first bench next start counts after text made goes (λ journal stands. refl) runs on)

pub fills_texts : (texts : List (List ℕ)) (place : ℕ) (text : List ℕ) (first bench last : Bench) (start counts : Counts) (made : List Event) → IsAt texts place text
    → Goes (map as_it_stands (take place texts)) first start bench counts → FillsJournal bench text made last → Fills (map as_it_stands texts) first start
fills_texts texts place text first bench last start counts made here goes fills =
    let whole : texts ≡ take place texts ++ text ∷ drop (place + 1) texts =
    sym (take-append-drop place texts) ∙ ap (λ (ts : List (List ℕ)). take place texts ++ ts) here.rest in
    let same : map as_it_stands texts ≡ map as_it_stands (take place texts) ++ as_it_stands text ∷ map as_it_stands (drop (place + 1) texts) =
    ap (λ (ts : List (List ℕ)). map as_it_stands ts) whole ∙ map-append as_it_stands (take place texts) (text ∷ drop (place + 1) texts) in
    subst (λ (lines : Lines). Fills lines first start) (sym same)
    (fills_at (map as_it_stands (take place texts)) (map as_it_stands (drop (place + 1) texts)) (as_it_stands text) first bench last start counts text made goes (λ journal stands. refl) fills)

pub known_at : (texts : List (List ℕ)) (place : ℕ) (text : List ℕ) (names : Declared) → IsAt texts place text → AreLeft (drop place texts) names → IsKnown names text
known_at texts place text names here left = first_known text (drop (place + 1) texts) names (subst (λ (ts : List (List ℕ)). AreLeft ts names) here.rest left)

pub left_at : (texts : List (List ℕ)) (place : ℕ) (text : List ℕ) (old new : Bench) (made : List Event) → IsAt texts place text → AreLeft (drop place texts) old.names → RunsText old text made new
    → AreLeft (drop (place + 1) texts) new.names
left_at texts place text old new made here left runs = rest_left text (drop (place + 1) texts) old new made (subst (λ (ts : List (List ℕ)). AreLeft ts old.names) here.rest left) runs

long_as : {A : Type 0} (f : A → List ℕ) (items : List A) (texts : List (List ℕ)) (place : ℕ) → map f items ≡ texts → length items ≤ place → length texts ≤ place
long_as f items texts place all past = subst (λ (n : ℕ). n ≤ place) (sym (length-map items f) ∙ ap (λ (ts : List (List ℕ)). length ts) all) past

pub goes_all : {A : Type 0} (f : A → List ℕ) (items : List A) (texts : List (List ℕ)) (place : ℕ) (first next : Bench) (start after : Counts) → map f items ≡ texts → length items ≤ place
    → Goes (map as_it_stands (take place texts)) first start next after → Goes (map as_it_stands texts) first start next after
goes_all f items texts place first next start after all past goes =
    subst (λ (ts : List (List ℕ)). Goes (map as_it_stands ts) first start next after) (take_all place texts (long_as f items texts place all past)) goes

pub ready_all : {A : Type 0} (f : A → List ℕ) (items : List A) (texts : List (List ℕ)) (place : ℕ) (names : Declared) → map f items ≡ texts → length items ≤ place
    → AreLeft (drop place texts) names → IsReady names
ready_all f items texts place names all past left =
    none_left names (subst (λ (ts : List (List ℕ)). AreLeft ts names) (drop_of_length-le texts (long_as f items texts place all past)) left)

-- ---- the line of a word

pub word_length : {S : Type 0} (step : S → ℕ × S) (count : ℕ) (state : S) → length (first_words step count state) ≡ count
unfolding first_words
word_length step zero state = refl
word_length step (suc count) state = ap suc (word_length step count ((step state).1))

pub few_frames : (count size : ℕ) → count ≤ size → size ≤ most_events → count < 1000000000
few_frames count size few most = omega arith

ready_read : (names : Declared) (bench : Bench) (counts : Counts) (word : ℕ) → IsReady names → HasJournal bench counts
    → (line : Line) × (line_read names (line_text word counts.frames counts.ends) ≡ Ok (record { line = line; names = names }))
ready_read names bench counts word ready has =
    let journal = has.0 in
    let frames : counts.frames ≡ count_by is_frame journal = ap (λ (c : Counts). c.frames) has.1.counted in
    let ends : counts.ends ≡ count_by makes_end journal = ap (λ (c : Counts). c.ends) has.1.counted in
    ready word counts.frames counts.ends
    (subst (λ (n : ℕ). n < 1000000000) (sym frames) (few_frames (count_by is_frame journal) (length journal) (count_by-le-length is_frame journal) has.1.room))
    (subst (λ (n : ℕ). n < 1000000000) (sym ends) (few_frames (count_by makes_end journal) (length journal) (count_by-le-length makes_end journal) has.1.room))

pub ready_known : (bench : Bench) (counts : Counts) (word : ℕ) (text : List ℕ) → IsReady bench.names → HasJournal bench counts → text ≡ line_text word counts.frames counts.ends
    → IsKnown bench.names text
ready_known bench counts word text ready has is =
    let r = ready_read bench.names bench counts word ready has in
    record { line = r.0; after = bench.names; meaning = ap (λ (t : List ℕ). line_read bench.names t) is ∙ r.1 }

pub ready_on : (bench next : Bench) (counts : Counts) (word : ℕ) (text : List ℕ) (made : List Event) → IsReady bench.names → HasJournal bench counts → text ≡ line_text word counts.frames counts.ends
    → RunsText bench text made next → IsReady next.names
ready_on bench next counts word text made ready has is runs =
    let r = ready_read bench.names bench counts word ready has in
    let one : line_read bench.names text ≡ Ok (record { line = r.0; names = bench.names }) = ap (λ (t : List ℕ). line_read bench.names t) is ∙ r.1 in
    let same : bench.names ≡ next.names =
    one_reading (line_read bench.names text) (record { line = r.0; names = bench.names }) (record { line = runs.line; names = next.names }) one runs.meaning in
    subst IsReady same ready

pub word_next : (bench : Bench) (counts : Counts) (word : ℕ) (text : List ℕ) → text ≡ line_text word counts.frames counts.ends → IsNext bench counts text (line_after word)
word_next bench counts word text is = λ journal stands. is ∙ ap (λ (c : Counts). line_text word c.frames c.ends) stands.counted

pub journal_on : (bench next : Bench) (counts after : Counts) (text : List ℕ) (made : List Event) → HasJournal bench counts → RunsText bench text made next → CountsOn counts made after → HasJournal next after
journal_on bench next counts after text made has runs on = (has.0 ++ made, stands_on bench next counts after has.0 made text has.1 runs on)

-- the words so far and those that are left
pub words_on : (all done left rest : List ℕ) (word : ℕ) → all ≡ done ++ left → left ≡ word ∷ rest → all ≡ (done ++ word ∷ []) ++ rest
words_on all done left rest word is left-is = is ∙ ap (λ (ws : List ℕ). done ++ ws) left-is ∙ sym (append_assoc done (word ∷ []) rest)

pub goes_words : (done : List ℕ) (word : ℕ) (first next : Bench) (start after : Counts) → Goes (map line_after done ++ line_after word ∷ []) first start next after
    → Goes (map line_after (done ++ word ∷ [])) first start next after
goes_words done word first next start after goes = subst (λ (lines : Lines). Goes lines first start next after) (sym (map-append line_after done (word ∷ []))) goes

pub fills_words : (all done left rest : List ℕ) (word : ℕ) (first : Bench) (start : Counts) → all ≡ done ++ left → left ≡ word ∷ rest
    → Fills (map line_after done ++ line_after word ∷ map line_after rest) first start → Fills (map line_after all) first start
fills_words all done left rest word first start is left-is fills =
    let same : map line_after all ≡ map line_after done ++ line_after word ∷ map line_after rest =
    ap (λ (ws : List ℕ). map line_after ws) (is ∙ ap (λ (ws : List ℕ). done ++ ws) left-is) ∙ map-append line_after done (word ∷ rest) in
    subst (λ (lines : Lines). Fills lines first start) (sym same) fills

pub lines_on : (old new start count : ℕ) (left rest : List ℕ) (word : ℕ) → new ≡ old + 1 → left ≡ word ∷ rest → old + length left ≡ start + count → new + length rest ≡ start + count
lines_on old new start count left rest word more is so_far =
    let size : length left ≡ length rest + 1 = ap (λ (ws : List ℕ). length ws) is ∙ (omega arith) in
    omega (arith, size)

-- ---- the first line

pub left_first : (bench : Bench) → bench ≡ first_bench → AreLeft set_up_lines bench.names
left_first bench fresh = subst (λ (names : Declared). AreLeft set_up_lines names) (sym (ap (λ (b : Bench). b.names) fresh)) all_left

pub stands_first : (bench : Bench) (counts : Counts) → bench ≡ first_bench → counts ≡ counts_of [] → Stands bench counts []
stands_first bench counts fresh none = record { counted = none; events = ap (λ (b : Bench). b.events) fresh; room = omega arith }

pub first_stands : (bench : Bench) (counts : Counts) → bench ≡ first_bench → counts ≡ counts_of [] → HasJournal bench counts
first_stands bench counts fresh none = ([], stands_first bench counts fresh none)

-- ---- the whole

pub goes_both : (lines rest : Lines) (first bench next : Bench) (start counts after : Counts) → Goes lines first start bench counts → Goes rest bench counts next after → Goes (lines ++ rest) first start next after
goes_both lines rest first bench next start counts after one two = λ before stands.
    let h = one before stands in
    let k = two h.0 h.1 in
    (k.0, k.1, runs_on lines rest first bench next before h.0 k.0 h.2 k.2)

pub fills_first : (lines rest : Lines) (first : Bench) (start : Counts) → Fills lines first start → Fills (lines ++ rest) first start
fills_first lines rest first start fills = λ before stands. fills_more lines rest first before (fills before stands)

pub fills_second : (lines rest : Lines) (first bench : Bench) (start counts : Counts) → Goes lines first start bench counts → Fills rest bench counts → Fills (lines ++ rest) first start
fills_second lines rest first bench start counts one fills = λ before stands.
    let h = one before stands in
    fills_on lines rest first bench before h.0 h.2 (fills h.0 h.1)

-- what is written of a whole run, and of one that stopped at a line that fills the journal
pub summary_asked : (storm : Storm) (first last : Bench) (start after : Counts) (old new : List ℕ) → first ≡ first_bench → start ≡ counts_of [] → Goes (storm_lines storm) first start last after
    → old ≡ [] → new ≡ old ++ summary_line storm after ++ done_line → AsksSummary storm new Done
summary_asked storm first last start after old new fresh none goes empty is =
    let h = goes [] (stands_first first start fresh none) in
    let runs : StormRuns first_bench [] (storm_lines storm) h.0 last = subst (λ (b : Bench). StormRuns b [] (storm_lines storm) h.0 last) fresh h.2 in (
      h.0,
      last,
      runs,
      is ∙ ap (λ (o : List ℕ). o ++ summary_line storm after ++ done_line) empty ∙ ap (λ (c : Counts). summary_line storm c ++ done_line) h.1.counted,
    )

pub too_much_asked : (storm : Storm) (first : Bench) (start : Counts) (old new : List ℕ) → first ≡ first_bench → start ≡ counts_of [] → Fills (storm_lines storm) first start
    → old ≡ [] → new ≡ old ++ toomuch_line → AsksSummary storm new TooMuch
too_much_asked storm first start old new fresh none fills empty is =
    (subst (λ (b : Bench). StormFills b [] (storm_lines storm)) fresh (fills [] (stands_first first start fresh none)), is ∙ ap (λ (o : List ℕ). o ++ toomuch_line) empty)

summary_cut : (storm : Storm) (text front : List ℕ) (end status : Status) → AsksSummary storm text end → (status ≡ WriteFault) ⊎ (status ≡ NoMemory) → IsPrefix front text → SummaryOutcome storm front status
summary_cut storm text front end status asked (inl is) begins =
    subst (λ (s : Status). SummaryOutcome storm front s) (sym is) (record { front = []; text = text; status = end; begins = ([], refl); asked = asked; cut = begins })
summary_cut storm text front end status asked (inr is) begins =
    subst (λ (s : Status). SummaryOutcome storm front s) (sym is) (record { front = []; text = text; status = end; begins = ([], refl); asked = asked; cut = begins })

asked_outcome : (storm : Storm) (text : List ℕ) (status : Status) → AsksSummary storm text status → SummaryOutcome storm text status
asked_outcome storm text Done h = h
asked_outcome storm text TooMuch h = h
asked_outcome storm text RefusedLine h = h
asked_outcome storm text ReadFault h = h
asked_outcome storm text WriteFault h = absurd h
asked_outcome storm text NoMemory h = absurd h
asked_outcome storm text RefusedWords h = h
asked_outcome storm text RefusedCapture h = h

pub summary_written : {K : Type 0} (held : K → Option (List ℕ)) (old new : K) (storm : Storm) (text : List ℕ) (end status : Status) → AsksSummary storm text end → IsWritten held old text end new status
    → (written : List ℕ) × Put (held old) written (held new) × SummaryOutcome storm written status
summary_written held old new storm text end status asked (inl all) =
    (text, all.1, subst (λ (s : Status). SummaryOutcome storm text s) (sym all.0) (asked_outcome storm text end asked))
summary_written held old new storm text end status asked (inr h) = (h.front, h.put, summary_cut storm text h.front end status asked h.cause h.begins)
