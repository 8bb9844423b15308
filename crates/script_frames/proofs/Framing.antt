-- The frames of a line are written one after another: those between two numbers are those up to one less, and one more.
use Rattle.std.proofs.Common.{◌≡◌, ◌⊎◌, ℕ, zero, suc, ◌+◌, ◌-◌, ◌≤◌, List, [], ◌∷◌, ◌++◌, Option, length, take, drop, inl, inr, refl, sym, ◌∙◌, ap, subst, arith, append_assoc, slice_get}
use Rattle.std.proofs.lemmas.List.{append-nil, length-drop, take_all}
use Rattle.std.specs.List.{AllByRecursion}
use Rattle.std.specs.Prelude.{OnOk, Result}
use Rattle.osi_base.proofs.Members.{all_both}
use Rattle.capture_write.specs.Written.{IsWritable, SentFrame, records_octets}
use Rattle.lan_step.specs.Frames.{Frame, frame_of, kept}
use Rattle.line_loop.proofs.Calls.{on_ok}
use Rattle.line_loop.specs.Meaning.{HasRun}
use Rattle.line_loop.specs.declared.machine.LineError.{LineError}
use Rattle.script_lines.specs.declared.cause.LineFault.{LineFault}
use Rattle.script_journal.specs.declared.event.Event.{Event}
use Rattle.law_run.specs.Bench.{Bench, RunsText}
use Rattle.script_frames.specs.Frames.{AreMade, frames_meaning, sent_in, sent_of, slots_of}
use Rattle.law_run.specs.World.{World}
use Rattle.script_frames.specs.steps.FrameLaws.{told_after}

get_dropped : (slots : List (Option Frame)) (before n : ℕ) → slice_get slots (before + n) ≡ slice_get (drop before slots) n
get_dropped slots zero n =
    let same : 0 + n ≡ n = omega arith in
    ap (λ (place : ℕ). slice_get slots place) same
get_dropped [] (suc before) n = refl
get_dropped (slot ∷ slots) (suc before) n =
    let same : suc before + n ≡ suc (before + n) = omega arith in
    ap (λ (place : ℕ). slice_get (slot ∷ slots) place) same ∙ get_dropped slots before n

-- the frame of a number is that at the place before
pub numbered_at : (slots : List (Option Frame)) (place : ℕ) → frame_of slots (place + 1) ≡ kept (slice_get slots place)
numbered_at slots place =
    let same : place + 1 ≡ suc place = omega arith in
    ap (λ (number : ℕ). frame_of slots number) same

-- one place more
more_sent : (slots : List (Option Frame)) (n : ℕ) → sent_in (take (suc n) slots) ≡ sent_in (take n slots) ++ sent_of (kept (slice_get slots n))
more_sent [] zero = refl
more_sent [] (suc n) = refl
more_sent (slot ∷ slots) zero = append-nil (sent_of slot)
more_sent (slot ∷ slots) (suc n) =
    ap (λ (frames : List SentFrame). sent_of slot ++ frames) (more_sent slots n)
    ∙ sym (append_assoc (sent_of slot) (sent_in (take n slots)) (sent_of (kept (slice_get slots n))))

none_dropped : (before : ℕ) → drop {A = Option Frame} before [] ≡ []
none_dropped zero = refl
none_dropped (suc before) = refl

none_taken : (most : ℕ) → take {A = Option Frame} most [] ≡ []
none_taken zero = refl
none_taken (suc most) = refl

-- what was written of the frames from one number up to another
pub record AreWritten (slots : List (Option Frame)) (before place : ℕ) (old new : List ℕ) : Type 0 where
  pub frames : List SentFrame
  pub made : AreMade (take (place - before) (drop before slots)) frames
  pub told : new ≡ old ++ records_octets frames

abbrev pub Written : List (Option Frame) → ℕ → List ℕ → List ℕ → Type 0
Written slots most old new = (frames : List SentFrame) × AreMade (take most slots) frames × (new ≡ old ++ records_octets frames)

pub none_written : (slots : List (Option Frame)) (before : ℕ) (old : List ℕ) → AreWritten slots before before old old
none_written slots before old =
    let none : before - before ≡ 0 = omega arith in
    record {
      frames = [];
      made = record { are = ap (λ (n : ℕ). sent_in (take n (drop before slots))) (sym none); fit = tt };
      told = sym (append-nil old);
    }

-- one frame more, where there is one
pub one_written : (slots : List (Option Frame)) (before place : ℕ) (frame : Option Frame) (old now new : List ℕ) → before ≤ place → AreWritten slots before place old now
    → frame ≡ kept (slice_get slots place) → AllByRecursion IsWritable (sent_of frame) → new ≡ now ++ records_octets (sent_of frame) → AreWritten slots before (place + 1) old new
one_written slots before place frame old now new behind h is fit told =
    let n : ℕ = place - before in
    let more : (place + 1) - before ≡ suc n = omega arith in
    let at : before + n ≡ place = omega arith in
    let here : kept (slice_get (drop before slots) n) ≡ frame = sym (is ∙ ap (λ (p : ℕ). kept (slice_get slots p)) (sym at) ∙ ap kept (get_dropped slots before n)) in
    let all : sent_in (take ((place + 1) - before) (drop before slots)) ≡ h.frames ++ sent_of frame =
    ap (λ (m : ℕ). sent_in (take m (drop before slots))) more ∙ more_sent (drop before slots) n
    ∙ ap (λ (f : Option Frame). sent_in (take n (drop before slots)) ++ sent_of f) here
    ∙ ap (λ (frames : List SentFrame). frames ++ sent_of frame) (sym h.made.are) in
    record {
      frames = h.frames ++ sent_of frame;
      made = record { are = sym all; fit = all_both IsWritable h.frames (sent_of frame) h.made.fit fit };
      told = told ∙ ap (λ (octets : List ℕ). octets ++ records_octets (sent_of frame)) h.told ∙ append_assoc old (records_octets h.frames) (records_octets (sent_of frame))
          ∙ ap (λ (octets : List ℕ). old ++ octets) (sym (told_after h.frames (sent_of frame)));
    }

-- up to the last of so many, or of all
up_to : (slots : List (Option Frame)) (n most : ℕ) → (n ≡ most) ⊎ ((length slots ≤ n) × (length slots ≤ most)) → take n slots ≡ take most slots
up_to slots n most (inl same) = ap (λ (m : ℕ). take m slots) same
up_to slots n most (inr both) = take_all n slots both.0 ∙ sym (take_all most slots both.1)

pub all_written : (slots : List (Option Frame)) (before place most : ℕ) (old new : List ℕ) → AreWritten slots before place old new
    → (place - before ≡ most) ⊎ ((length slots - before ≤ place - before) × (length slots - before ≤ most)) → Written (drop before slots) most old new
all_written slots before place most old new h enough =
    let long : length (drop before slots) ≡ length slots - before = length-drop before slots in
    let fits : (place - before ≡ most) ⊎ ((length (drop before slots) ≤ place - before) × (length (drop before slots) ≤ most)) =
    subst (λ (n : ℕ). (place - before ≡ most) ⊎ ((n ≤ place - before) × (n ≤ most))) (sym long) enough in
    (h.frames, record { are = h.made.are ∙ ap sent_in (up_to (drop before slots) (place - before) most fits); fit = h.made.fit }, h.told)

-- where there are no LANs
pub nothing_written : (slots : List (Option Frame)) (before most : ℕ) (old : List ℕ) → slots ≡ [] → Written (drop before slots) most old old
nothing_written slots before most old none =
    let same : take most (drop before slots) ≡ [] = ap (λ (s : List (Option Frame)). take most (drop before s)) none ∙ ap (λ (s : List (Option Frame)). take most s) (none_dropped before) ∙ none_taken most in
    ([], record { are = sym (ap sent_in same); fit = tt }, sym (append-nil old))

-- a line that ran, where all frames after the first `before` were written
pub has_run : (old new : Bench) (octets : List ℕ) (made : List Event) (before : ℕ) (out after : List ℕ) (result : Result Unit (LineError LineFault)) → RunsText old octets made new
    → before ≡ length (slots_of old.world) → length (slots_of new.world) ≤ 4294967295 → OnOk result (Written (drop before (slots_of new.world)) 4294967295 out after)
    → OnOk result (HasRun frames_meaning old octets out new after)
has_run old new octets made before out after result runs is numbers written =
    let long : length (drop before (slots_of new.world)) ≤ 4294967295 = subst (λ (n : ℕ). n ≤ 4294967295) (sym (length-drop before (slots_of new.world))) (omega arith) in
    on_ok result (λ w. record {
      events = w.0;
      steps = record {
        made = made;
        runs = runs;
        frames_are = record {
          are = w.1.are ∙ ap sent_in (take_all 4294967295 (drop before (slots_of new.world)) long ∙ ap (λ (n : ℕ). drop n (slots_of new.world)) is);
          fit = w.1.fit;
        };
      };
      told = w.2;
    }) written

-- the same, by what the calls answered
pub ran_so : (old inside new : Bench) (octets : List ℕ) (made : List Event) (was world : World) (before : ℕ) (out after last : List ℕ) (result answer : Result Unit (LineError LineFault))
    → inside ≡ old → RunsText inside octets made new → was ≡ inside.world → before ≡ length (slots_of was) → world ≡ new.world → length (slots_of world) ≤ 4294967295
    → OnOk result (Written (drop before (slots_of world)) 4294967295 out after) → answer ≡ result → last ≡ after → OnOk answer (HasRun frames_meaning old octets out new last)
ran_so old inside new octets made was world before out after last result answer view runs was-is is world-is numbers written answer-is last-is =
    let counted : before ≡ length (slots_of old.world) = is ∙ ap (λ (w : World). length (slots_of w)) (was-is ∙ ap (λ (b : Bench). b.world) view) in
    let ran : OnOk result (HasRun frames_meaning old octets out new after) =
    has_run old new octets made before out after result (subst (λ (b : Bench). RunsText b octets made new) view runs) counted
    (subst (λ (w : World). length (slots_of w) ≤ 4294967295) world-is numbers)
    (subst (λ (w : World). OnOk result (Written (drop before (slots_of w)) 4294967295 out after)) world-is written) in
    let there : OnOk result (HasRun frames_meaning old octets out new last) = subst (λ (o : List ℕ). OnOk result (HasRun frames_meaning old octets out new o)) (sym last-is) ran in
    subst (λ (r : Result Unit (LineError LineFault)). OnOk r (HasRun frames_meaning old octets out new last)) (sym answer-is) there
