-- What a feed tells the loop over octets: the lines of a piece ran, or one of them, or the end of the input, stops the run.
use Rattle.std.proofs.Common.{◌≡◌, ◌⊎◌, ◌+◌, ℕ, List, [], ◌++◌, length, inl, inr, refl, sym, ◌∙◌, ap, subst, append_assoc, Result, Ok, Err, OnOk, IsErrOf}
use Rattle.std.proofs.lemmas.List.{append-nil}
use Rattle.octet_loop.specs.steps.Taking.{IsStop, IsEnd, Takes, Ends, Overflows, Stops as LoopStops}
use Rattle.osi_base.specs.declared.status.Status.{Status}
use Rattle.osi_base.specs.declared.status.Status.TheVariants.{Done, RefusedLine, NoMemory, TooMuch}
use Rattle.line_loop.specs.Course.{IsWhole, IsTooMuch, IsTooMuchAtEnd, IsRefusedAt, IsRefusedAtEnd}
use Rattle.line_loop.specs.Meaning.{Meaning}
use Rattle.line_loop.specs.steps.Feeding.{Held, IsCounted, Feeds, Stops, StopsAtLine, EndsAtLine, EndsFull}
use Rattle.line_loop.specs.steps.Taking.{IsClosing, line_course, feeding}

pub on_three : {T E : Type 0} {P Q R S : Type 0} (result : Result T E) → (P → Q → R → S) → OnOk result P → OnOk result Q → OnOk result R → OnOk result S
on_three (Ok value) f h k l = f h k l
on_three (Err error) f h k l = h

-- a status that is given as an error
pub as_err : (P : Status → Type 0) (made status : Status) → IsErrOf {T = Unit {0}} (Err made) status → P made → P status
as_err P made status is h = let same : made ≡ status = cc in subst P same h

module _ {M E R : Type 0} (meaning : Meaning M E R) where
  -- a piece was taken
  pub takes_of : (octets : List ℕ) (old : Held M) (before : List ℕ) (new : Held M) (after : List ℕ) → Feeds meaning octets old before new after → IsCounted meaning new → new.octets ≡ old.octets + length octets
      → Takes (feeding meaning) octets old before new after
  takes_of octets old before new after f counted count = record {
    told = f.told;
    appended = f.appended;
    ready = counted;
    counted = count;
    goes_on = λ first read text l.
        let k = f.goes_on first.machine read l.0 l.1 in
        (l.0 ++ f.events, k.0, ap (λ (t : List ℕ). t ++ f.told) l.2 ∙ sym k.1);
  }

  -- the text of a run that stopped, with its closing
  text_is : (S : M → List ℕ → List E → M → Type 0) (octets : List ℕ) (old : Held M) (before : List ℕ) (last : M) (between closing : List ℕ) (s : Stops meaning S octets old before last between)
      (first : Held M) (read text : List ℕ) (l : (feeding meaning).led first read text old) → text ++ (s.told ++ closing) ≡ meaning.text last (l.0 ++ s.events) ++ closing
  text_is S octets old before last between closing s first read text l =
      sym (append_assoc text s.told closing) ∙ ap (λ (t : List ℕ). t ++ closing) (ap (λ (t : List ℕ). t ++ s.told) l.2 ∙ sym (s.stopped first.machine read l.0 l.1).1)

  stops_of : (S : M → List ℕ → List E → M → Type 0) (closing : M → List ℕ) (end : Status) → IsStop end
      → ((first : M) (read : List ℕ) (journal : List E) (last : M) → S first read journal last → (line_course meaning first).stops read (meaning.text last journal ++ closing last) end)
      → (octets : List ℕ) (old : Held M) (before : List ℕ) (last : M) (between after : List ℕ) (status : Status) → Stops meaning S octets old before last between → IsClosing (closing last) end between after status
      → (status ≡ NoMemory) ⊎ LoopStops (λ feed. line_course meaning feed.machine) (feeding meaning) octets old before after status
  stops_of S closing end stop asks octets old before last between after status s (inl memory) = inl memory
  stops_of S closing end stop asks octets old before last between after status s (inr closed) =
      subst (λ (x : Status). (x ≡ NoMemory) ⊎ LoopStops (λ feed. line_course meaning feed.machine) (feeding meaning) octets old before after x) (sym closed.0)
      (inr (record {
        told = s.told ++ closing last;
        appended = closed.1 ∙ ap (λ (t : List ℕ). t ++ closing last) s.appended ∙ append_assoc before s.told (closing last);
        stop = stop;
        stopped = λ first read text l. (
          read ++ octets,
          [],
          sym (append-nil (read ++ octets)),
          subst (λ (t : List ℕ). (line_course meaning first.machine).stops (read ++ octets) t end) (sym (text_is S octets old before last between (closing last) s first read text l))
              (asks first.machine (read ++ octets) (l.0 ++ s.events) last (s.stopped first.machine read l.0 l.1).0),
        );
      }))

  pub stops_refused : (line : ℕ) (said : R) (octets : List ℕ) (old : Held M) (before : List ℕ) (last : M) (between after : List ℕ) (status : Status) → StopsAtLine meaning line said octets old before last between
      → IsClosing (meaning.refused last line said) RefusedLine between after status → (status ≡ NoMemory) ⊎ LoopStops (λ feed. line_course meaning feed.machine) (feeding meaning) octets old before after status
  stops_refused line said octets old before last between after status s c =
      stops_of (λ first read journal last. IsRefusedAt meaning first read line said journal last) (λ m. meaning.refused m line said) RefusedLine tt (λ first read journal last r. (line, said, journal, last, r, refl))
      octets old before last between after status s c

  pub stops_too_much : (octets : List ℕ) (old : Held M) (before : List ℕ) (last : M) (between after : List ℕ) (status : Status) → Stops meaning (IsTooMuch meaning) octets old before last between
      → IsClosing (meaning.too_much last) TooMuch between after status → (status ≡ NoMemory) ⊎ LoopStops (λ feed. line_course meaning feed.machine) (feeding meaning) octets old before after status
  stops_too_much octets old before last between after status s c =
      stops_of (IsTooMuch meaning) meaning.too_much TooMuch tt (λ first read journal last r. (journal, last, r, refl)) octets old before last between after status s c

  ends_of : (S : M → List ℕ → List E → M → Type 0) (closing : M → List ℕ) (end : Status) → IsEnd end
      → ((first : M) (read : List ℕ) (journal : List E) (last : M) → S first read journal last → (line_course meaning first).ends read (meaning.text last journal ++ closing last) end)
      → (old : Held M) (before : List ℕ) (last : M) (between after : List ℕ) (status : Status) → Stops meaning S [] old before last between → IsClosing (closing last) end between after status
      → (status ≡ NoMemory) ⊎ Ends (λ feed. line_course meaning feed.machine) (feeding meaning) old before after status
  ends_of S closing end ends asks old before last between after status s (inl memory) = inl memory
  ends_of S closing end ends asks old before last between after status s (inr closed) =
      subst (λ (x : Status). (x ≡ NoMemory) ⊎ Ends (λ feed. line_course meaning feed.machine) (feeding meaning) old before after x) (sym closed.0)
      (inr (record {
        told = s.told ++ closing last;
        appended = closed.1 ∙ ap (λ (t : List ℕ). t ++ closing last) s.appended ∙ append_assoc before s.told (closing last);
        end = ends;
        ended = λ first read text l.
            subst (λ (t : List ℕ). (line_course meaning first.machine).ends read t end) (sym (text_is S [] old before last between (closing last) s first read text l))
            (asks first.machine read (l.0 ++ s.events) last (subst (λ (r : List ℕ). S first.machine r (l.0 ++ s.events) last) (append-nil read) (s.stopped first.machine read l.0 l.1).0));
      }))

  pub ends_whole : (old : Held M) (before : List ℕ) (last : M) (between after : List ℕ) (status : Status) → Stops meaning (IsWhole meaning) [] old before last between
      → IsClosing (meaning.done last) Done between after status → (status ≡ NoMemory) ⊎ Ends (λ feed. line_course meaning feed.machine) (feeding meaning) old before after status
  ends_whole old before last between after status s c =
      ends_of (IsWhole meaning) meaning.done Done tt (λ first read journal last r. (journal, last, r, refl)) old before last between after status s c

  pub ends_at_line : (line : ℕ) (said : R) (old : Held M) (before : List ℕ) (last : M) (between after : List ℕ) (status : Status) → EndsAtLine meaning line said old before last between
      → IsClosing (meaning.refused last line said) RefusedLine between after status → (status ≡ NoMemory) ⊎ Ends (λ feed. line_course meaning feed.machine) (feeding meaning) old before after status
  ends_at_line line said old before last between after status s c =
      ends_of (λ first read journal last. IsRefusedAtEnd meaning first read line said journal last) (λ m. meaning.refused m line said) RefusedLine tt (λ first read journal last r. (line, said, journal, last, r, refl))
      old before last between after status s c

  pub ends_full : (old : Held M) (before : List ℕ) (last : M) (between after : List ℕ) (status : Status) → EndsFull meaning old before last between
      → IsClosing (meaning.too_much last) TooMuch between after status → (status ≡ NoMemory) ⊎ Ends (λ feed. line_course meaning feed.machine) (feeding meaning) old before after status
  ends_full old before last between after status s c =
      ends_of (IsTooMuchAtEnd meaning) meaning.too_much TooMuch tt (λ first read journal last r. (journal, last, r, refl)) old before last between after status s c

  pub overflows : (now : Held M) (before after : List ℕ) → after ≡ before ++ meaning.too_much now.machine → Overflows (λ feed. line_course meaning feed.machine) (feeding meaning) now before after
  overflows now before after appended = record {
    told = meaning.too_much now.machine;
    appended = appended;
    over = λ first read text l full. (l.0, now.machine, l.1.so_far, ap (λ (t : List ℕ). t ++ meaning.too_much now.machine) l.2);
  }
