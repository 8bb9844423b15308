-- The frames of a run are those that its journal tells, and fit the records of a capture; also where the last line fills the journal.
use Rattle.std.proofs.Common.{◌≡◌, ℕ, ◌+◌, ◌-◌, cond, List, [], ◌∷◌, ◌++◌, length, map, take, drop, inl, inr, refl, sym, ◌∙◌, ap, subst, arith, append_assoc, length-append}
use Rattle.std.specs.List.{AllByRecursion, count_by}
use Rattle.std.proofs.lemmas.List.{append-nil, take-append-drop}
use Rattle.std.proofs.lemmas.List.Sums.{sum_by-cons}
use Rattle.capture_write.specs.Written.{IsWritable, SentFrame, record_of}
use Rattle.capture_write.proofs.Records.{writes_capture}
use Rattle.line_loop.specs.Course.{IsOver, IsTooMuch, IsTooMuchAtEnd, Runs}
use Rattle.line_loop.specs.Lines.{open_line, whole_lines, without_return}
use Rattle.lan_step.specs.declared.row.PortRow.{PortRow}
use Rattle.script_journal.specs.RawLawful.{clock_after, clock_from}
use Rattle.script_journal.specs.declared.event.Event.{Event}
use Rattle.script_journal.specs.declared.event.Event.TheVariants as events
use Rattle.script_storm.specs.Counted.{is_frame}
use Rattle.law_run.specs.Bench.{Bench, FillsJournal, bench_meaning, first_bench, most_events}
use Rattle.law_run.specs.World.{World}
use Rattle.script_world.specs.declared.play.World.TheVariants.{SettingUp, Running}
use Rattle.script_frames.specs.Frames.{AreTold, FillsWithFrames, IsCaptureOf, IsFramesOf, MakesFrames, ToldFrame, frames_meaning, new_slots, ports_of, sent_in, slots_of, told_by, told_from}
use Rattle.script_frames.specs.Laws.{CapturesTooMuch}
use Rattle.script_frames.proofs.ToldFrames.{told_append, told_from-append}
use Rattle.script_frames.proofs.ToldLines.{HasPorts, IsQuietWorld, WorldTells, clock_in, world_tells}
use Rattle.osi_base.specs.declared.note.Note.TheVariants as notes
use Rattle.osi_base.proofs.Members.{all_both}

record Framed (ports : List PortRow) (first : Bench) (texts : List (List ℕ)) (frames : List SentFrame) (last : Bench) : Type 0 where
  journal : List Event
  runs : Runs bench_meaning first texts journal last
  has : HasPorts ports first.world
  told : AreTold ports (length (slots_of first.world) + 1) (told_from (clock_in first.world) journal) frames
  fit : AllByRecursion IsWritable frames
  clock : (now : ℕ) (rest : List Event) → now ≡ clock_in first.world → told_from now (journal ++ rest) ≡ told_from now journal ++ told_from (clock_in last.world) rest
  count : length (slots_of last.world) ≡ length (slots_of first.world) + length frames

-- the frames of a line are told by its events, and those of the lines behind it by theirs
lines_told : (ports : List PortRow) (first mid : Bench) (text : List ℕ) (frames later : List SentFrame) (one : MakesFrames first text frames mid) (rest : List Event) → HasPorts ports mid.world
    → WorldTells first.world mid.world one.made → AreTold ports (length (slots_of mid.world) + 1) (told_from (clock_in mid.world) rest) later
    → AreTold ports (length (slots_of first.world) + 1) (told_from (clock_in first.world) (one.made ++ rest)) (frames ++ later)
lines_told ports first mid text frames later one rest has t are =
    let all : told_from (clock_in first.world) (one.made ++ rest) ≡ told_from (clock_in first.world) one.made ++ told_from (clock_in mid.world) rest =
    told_from-append (clock_in first.world) one.made rest ∙ ap (λ (now : ℕ). told_from (clock_in first.world) one.made ++ told_from now rest) t.clock in
    let here : AreTold ports (length (slots_of first.world) + 1) (told_from (clock_in first.world) one.made) frames =
    subst (λ (fs : List SentFrame). AreTold ports (length (slots_of first.world) + 1) (told_from (clock_in first.world) one.made) fs) (sym one.frames_are.are) (t.told ports has) in
    let count : length (slots_of mid.world) + 1 ≡ length (slots_of first.world) + 1 + length frames = omega (arith, t.count, ap length one.frames_are.are) in
    subst (λ (fs : List ToldFrame). AreTold ports (length (slots_of first.world) + 1) fs (frames ++ later)) (sym all)
    (told_append ports (length (slots_of first.world) + 1) (length (slots_of mid.world) + 1) (told_from (clock_in first.world) one.made) (told_from (clock_in mid.world) rest) frames later count here are)

-- what a line tells, and what is told behind it
clocks_on : (first mid last : World) (made journal : List Event) → WorldTells first mid made
    → ((now : ℕ) (rest : List Event) → now ≡ clock_in mid → told_from now (journal ++ rest) ≡ told_from now journal ++ told_from (clock_in last) rest)
    → (now : ℕ) (rest : List Event) → now ≡ clock_in first → told_from now ((made ++ journal) ++ rest) ≡ told_from now (made ++ journal) ++ told_from (clock_in last) rest
clocks_on first mid last made journal t behind now rest is =
    let at : clock_from now made ≡ clock_in mid = ap (λ (n : ℕ). clock_from n made) is ∙ t.clock in
    ap (told_from now) (append_assoc made journal rest) ∙ told_from-append now made (journal ++ rest) ∙ ap (λ (fs : List ToldFrame). told_from now made ++ fs) (behind (clock_from now made) rest at)
    ∙ sym (append_assoc (told_from now made) (told_from (clock_from now made) journal) (told_from (clock_in last) rest))
    ∙ ap (λ (fs : List ToldFrame). fs ++ told_from (clock_in last) rest) (sym (told_from-append now made journal))

-- nothing waits after lines either
quiet_after : (first : Bench) (texts : List (List ℕ)) (frames : List SentFrame) (last : Bench) → IsQuietWorld first.world → Runs frames_meaning first texts frames last → IsQuietWorld last.world
quiet_after first [] frames last quiet h = subst (λ (b : Bench). IsQuietWorld b.world) (sym h.1) quiet
quiet_after first (text ∷ texts) frames last quiet h =
    let one : MakesFrames first text h.0 h.1 = h.3 in
    quiet_after h.1 texts h.2 last (world_tells first.world one.runs.line one.made h.1.world quiet one.runs.steps).quiet h.5

framed : (ports : List PortRow) (first : Bench) (texts : List (List ℕ)) (frames : List SentFrame) (last : Bench) → HasPorts ports last.world → IsQuietWorld first.world → Runs frames_meaning first texts frames last
    → Framed ports first texts frames last
framed ports first [] frames last has quiet h = record {
  journal = [];
  runs = (refl, h.1);
  has = subst (λ (b : Bench). HasPorts ports b.world) h.1 has;
  told = subst (λ (fs : List SentFrame). AreTold ports (length (slots_of first.world) + 1) [] fs) (sym h.0) tt;
  fit = subst (λ (fs : List SentFrame). AllByRecursion IsWritable fs) (sym h.0) tt;
  clock = λ now rest is. ap (λ (n : ℕ). told_from n rest) (is ∙ ap (λ (b : Bench). clock_in b.world) (sym h.1));
  count = ap (λ (b : Bench). length (slots_of b.world)) h.1 ∙ none (length (slots_of first.world)) ∙ ap (λ (fs : List SentFrame). length (slots_of first.world) + length fs) (sym h.0);
}
  where
    none : (n : ℕ) → n ≡ n + 0
    none n = omega arith
framed ports first (text ∷ texts) frames last has quiet h =
    let one : MakesFrames first text h.0 h.1 = h.3 in
    let t = world_tells first.world one.runs.line one.made h.1.world quiet one.runs.steps in
    let rest = framed ports h.1 texts h.2 last has t.quiet h.5 in
    record {
      journal = one.made ++ rest.journal;
      runs = (one.made, h.1, rest.journal, one.runs, refl, rest.runs);
      has = t.ports ports rest.has;
      told = subst (λ (fs : List SentFrame). AreTold ports (length (slots_of first.world) + 1) (told_from (clock_in first.world) (one.made ++ rest.journal)) fs) (sym h.4)
          (lines_told ports first h.1 text h.0 h.2 one rest.journal rest.has t rest.told);
      fit = subst (λ (fs : List SentFrame). AllByRecursion IsWritable fs) (sym h.4) (all_both IsWritable h.0 h.2 one.frames_are.fit rest.fit);
      clock = clocks_on first.world h.1.world last.world one.made rest.journal t rest.clock;
      count = omega (arith, rest.count, t.count, ap length one.frames_are.are, ap length h.4, length-append h.0 h.2);
    }

-- the ports of the last state
own_ports : (world : World) → HasPorts (ports_of world) world
own_ports (SettingUp setup) = tt
own_ports (Running run) = refl

captured : (journal : List Event) (frames : List SentFrame) (last : Bench) → AreTold (ports_of last.world) 1 (told_from 0 journal) frames → AllByRecursion IsWritable frames → IsCaptureOf journal frames last
captured journal frames last told fit =
    let capture = writes_capture frames fit in
    record {
      told = told;
      capture = capture;
      decoded = λ lines shows. record { records = map record_of frames; capture = capture; shown = lines; shows = shows; text_is = refl };
    }

pub frames_of : (texts : List (List ℕ)) (frames : List SentFrame) (last : Bench) → Runs frames_meaning first_bench texts frames last → IsFramesOf texts frames last
frames_of texts frames last h =
    let f = framed (ports_of last.world) first_bench texts frames last (own_ports last.world) tt h in
    record { journal = f.journal; runs = f.runs; is_capture = captured f.journal frames last f.told f.fit }

-- ---- a line that fills the journal

-- as many are told as there are frames among the events
one_told : (now : ℕ) (event : Event) → length (told_by now event) ≡ cond (is_frame event) 1 0
one_told now (events.Net (notes.Frame number lan system snpa size)) = refl
one_told now event = refl

told_count : (now : ℕ) (made : List Event) → length (told_from now made) ≡ count_by is_frame made
told_count now [] = refl
told_count now (event ∷ made) =
    length-append (told_by now event) (told_from (clock_after now event) made) ∙ ap (λ (n : ℕ). length (told_by now event) + n) (told_count (clock_after now event) made)
    ∙ ap (λ (n : ℕ). n + count_by is_frame made) (one_told now event) ∙ sym (sum_by-cons (λ (e : Event). cond (is_frame e) 1 0) event made)

-- what stands of a line that fills the journal is told, and the frames of that are told
front_told : (ports : List PortRow) (state last : Bench) (line : List ℕ) (later : List SentFrame) → HasPorts ports last.world → (fills : FillsWithFrames state line later last)
    → WorldTells state.world last.world fills.fills.whole → AreTold ports (length (slots_of state.world) + 1) (told_from (clock_in state.world) fills.made) later
front_told ports state last line later has fills t =
    let now : ℕ = clock_in state.world in
    let most : ℕ = most_events - state.events in
    let whole : List Event = fills.fills.whole in
    let made : List Event = fills.made in
    let front : List ToldFrame = told_from now made in
    let whole_is : whole ≡ made ++ drop most whole = sym (take-append-drop most whole) ∙ ap (λ (es : List Event). es ++ drop most whole) (sym fills.fills.made_is) in
    let parts : told_from now whole ≡ front ++ told_from (clock_from now made) (drop most whole) = ap (told_from now) whole_is ∙ told_from-append now made (drop most whole) in
    let first : AreTold ports (length (slots_of state.world) + 1) front (sent_in (take (length front) (new_slots state.world last.world))) =
    t.first ports has front (told_from (clock_from now made) (drop most whole)) parts in
    subst (λ (fs : List SentFrame). AreTold ports (length (slots_of state.world) + 1) front fs)
    (ap (λ (n : ℕ). sent_in (take n (new_slots state.world last.world))) (told_count now made) ∙ sym fills.frames_are.are) first

filled : (texts : List (List ℕ)) (line : List ℕ) (before later : List SentFrame) (state last : Bench) → Runs frames_meaning first_bench texts before state → (fills : FillsWithFrames state line later last)
    → (journal : List Event) × Runs bench_meaning first_bench texts journal state × IsCaptureOf (journal ++ fills.made) (before ++ later) last
filled texts line before later state last runs fills =
    let ports : List PortRow = ports_of last.world in
    let has : HasPorts ports last.world = own_ports last.world in
    let quiet : IsQuietWorld state.world = quiet_after first_bench texts before state tt runs in
    let t : WorldTells state.world last.world fills.fills.whole = world_tells state.world fills.fills.line fills.fills.whole last.world quiet fills.fills.steps in
    let f : Framed ports first_bench texts before state = framed ports first_bench texts before state (t.ports ports has) tt runs in
    let here : AreTold ports (length (slots_of state.world) + 1) (told_from (clock_in state.world) fills.made) later = front_told ports state last line later has fills t in
    let none : length (slots_of first_bench.world) ≡ 0 = refl in
    let count : length (slots_of state.world) + 1 ≡ 1 + length before = omega (arith, f.count, none) in
    let all : AreTold ports 1 (told_from 0 f.journal ++ told_from (clock_in state.world) fills.made) (before ++ later) =
    told_append ports 1 (length (slots_of state.world) + 1) (told_from 0 f.journal) (told_from (clock_in state.world) fills.made) before later count f.told here in (
      f.journal,
      f.runs,
      captured (f.journal ++ fills.made) (before ++ later) last (subst (λ (fs : List ToldFrame). AreTold ports 1 fs (before ++ later)) (sym (f.clock 0 fills.made refl)) all)
          (all_both IsWritable before later f.fit fills.frames_are.fit),
    )

-- ---- too much

too_much : (read : List ℕ) (frames : List SentFrame) (last : Bench) → IsTooMuch frames_meaning first_bench read frames last
    → (journal : List Event) × IsTooMuch bench_meaning first_bench read journal last × IsCaptureOf journal frames last
too_much read frames last h = by h.over
  where
    by : IsOver frames_meaning h.state h.front h.octet h.events last → (journal : List Event) × IsTooMuch bench_meaning first_bench read journal last × IsCaptureOf journal frames last
    by (inl limit) =
        let f = frames_of (map without_return (whole_lines h.front)) h.before h.state h.so_far.runs in
        let all : frames ≡ h.before = h.journal_is ∙ ap (λ (es : List SentFrame). h.before ++ es) limit.1 ∙ append-nil h.before in (
          f.journal,
          record {
            front = h.front;
            octet = h.octet;
            more = h.more;
            before = f.journal;
            state = h.state;
            events = [];
            place = h.place;
            so_far = record { fits = h.so_far.fits; runs = f.runs };
            over = inl (limit.0, refl, limit.2);
            journal_is = sym (append-nil f.journal);
          },
          subst (λ (fs : List SentFrame). IsCaptureOf f.journal fs last) (sym all) (subst (λ (b : Bench). IsCaptureOf f.journal h.before b) (sym limit.2) f.is_capture),
        )
    by (inr filling) =
        let fills : FillsWithFrames h.state (without_return (open_line h.front)) h.events last = filling.2 in
        let f = filled (map without_return (whole_lines h.front)) (without_return (open_line h.front)) h.before h.events h.state last h.so_far.runs fills in (
          f.0 ++ fills.made,
          record {
            front = h.front;
            octet = h.octet;
            more = h.more;
            before = f.0;
            state = h.state;
            events = fills.made;
            place = h.place;
            so_far = record { fits = h.so_far.fits; runs = f.1 };
            over = inr (filling.0, filling.1, fills.fills);
            journal_is = refl;
          },
          subst (λ (fs : List SentFrame). IsCaptureOf (f.0 ++ fills.made) fs last) (sym h.journal_is) f.2,
        )

too_much_at_end : (read : List ℕ) (frames : List SentFrame) (last : Bench) → IsTooMuchAtEnd frames_meaning first_bench read frames last
    → (journal : List Event) × IsTooMuchAtEnd bench_meaning first_bench read journal last × IsCaptureOf journal frames last
too_much_at_end read frames last h =
    let fills : FillsWithFrames h.state (open_line read) h.events last = h.fills in
    let f = filled (map without_return (whole_lines read)) (open_line read) h.before h.events h.state last h.so_far.runs fills in (
      f.0 ++ fills.made,
      record { before = f.0; state = h.state; events = fills.made; so_far = record { fits = h.so_far.fits; runs = f.1 }; begun = h.begun; fills = fills.fills; journal_is = refl },
      subst (λ (fs : List SentFrame). IsCaptureOf (f.0 ++ fills.made) fs last) (sym h.journal_is) f.2,
    )

pub captures_too_much : CapturesTooMuch
captures_too_much = record { here = too_much; at_end = too_much_at_end }
