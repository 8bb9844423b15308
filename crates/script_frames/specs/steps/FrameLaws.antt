-- A line makes one list of frames, and what was told of frames stays told.
use Rattle.std.proofs.Common.{◌≡◌, ℕ, List, [], ◌∷◌, ◌++◌, ◌∙◌, refl, sym, ap, append_assoc, take}
use Rattle.std.specs.List.{count_by}
use Rattle.capture_write.specs.Written.{SentFrame, record_octets, records_octets}
use Rattle.line_loop.specs.Meaning.{Laws}
use Rattle.script_journal.specs.declared.event.Event.{Event}
use Rattle.script_storm.specs.Counted.{is_frame}
use Rattle.law_run.specs.Bench.{Bench}
use Rattle.script_frames.specs.Frames.{MakesFrames, FillsWithFrames, frames_meaning, new_slots, sent_in}
use Rattle.law_run.proofs.WorldLaws.{bench_laws}

one_list : (old : Bench) (octets : List ℕ) (frames other : List SentFrame) (new next : Bench) → MakesFrames old octets frames new → MakesFrames old octets other next
    → (frames ≡ other) × (new ≡ next)
one_list old octets frames other new next a b =
    let one = bench_laws.one_step old octets a.made b.made new next a.runs b.runs in
    (a.frames_are.are ∙ ap (λ (bench : Bench). sent_in (new_slots old.world bench.world)) one.1 ∙ sym b.frames_are.are, one.1)

one_filling : (old : Bench) (octets : List ℕ) (frames other : List SentFrame) (new next : Bench) → FillsWithFrames old octets frames new → FillsWithFrames old octets other next
    → (frames ≡ other) × (new ≡ next)
one_filling old octets frames other new next a b =
    let one = bench_laws.one_filling old octets a.made b.made new next a.fills b.fills in
    let slots = ap (λ (bench : Bench). take (count_by is_frame a.made) (new_slots old.world bench.world)) one.1
    ∙ ap (λ (made : List Event). take (count_by is_frame made) (new_slots old.world next.world)) one.0 in
    (a.frames_are.are ∙ ap sent_in slots ∙ sym b.frames_are.are, one.1)

pub told_after : (frames more : List SentFrame) → records_octets (frames ++ more) ≡ records_octets frames ++ records_octets more
told_after [] more = refl
told_after (frame ∷ frames) more =
    ap (λ (octets : List ℕ). record_octets frame ++ octets) (told_after frames more) ∙ sym (append_assoc (record_octets frame) (records_octets frames) (records_octets more))

pub frames_laws : Laws frames_meaning
frames_laws = record {
  one_step = one_list;
  one_refusal = bench_laws.one_refusal;
  one_filling = one_filling;
  step_or_refusal = λ old octets frames new said a found. bench_laws.step_or_refusal old octets a.made new said a.runs found;
  step_or_filling = λ old octets frames other new next a b. bench_laws.step_or_filling old octets a.made b.made new next a.runs b.fills;
  refusal_or_filling = λ old octets said frames new found b. bench_laws.refusal_or_filling old octets said b.made new found b.fills;
  counted = λ old octets frames new a. a.runs.lines;
  none_told = λ state. (tt, refl);
  told = λ old octets frames new before a tells. (tt, told_after before frames);
  told_full = λ old octets frames new before a tells. told_after before frames;
}
