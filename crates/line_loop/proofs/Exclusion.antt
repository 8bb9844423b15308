-- What octets come to is one. A front of octets that were read was read too; so the octet at which a run stops is the
-- first that can stop it, and two stops of the same octets are at the same place. The state there is one, as a line has
-- one course.
use Rattle.std.proofs.Common.{◌≡◌, ◌≢◌, ◌⊎◌, ℕ, ◌+◌, List, [], ◌∷◌, ◌++◌, length, map, inl, inr, refl, sym, ◌∙◌, ap, subst, append_assoc, arith, Option, Some}
use Rattle.std.proofs.lemmas.List.{append-nil, length-append, length_push}
pub use Rattle.octet_loop.proofs.Exact.{complete}
use Rattle.osi_base.specs.declared.status.Status.{Status}
use Rattle.osi_base.specs.declared.status.Status.TheVariants.{Done, RefusedLine, RefusedWords, ReadFault, WriteFault, NoMemory, RefusedCapture, TooMuch}
use Rattle.line_loop.specs.Lines.{whole_lines, open_line, last_line, without_return}
use Rattle.line_loop.specs.Meaning.{Meaning, Laws}
use Rattle.line_loop.specs.Course.{Runs, IsRead, IsWhole, IsFull, IsWithin, IsOver, IsTooMuch, IsTooMuchAtEnd, IsRefusal, IsRefusedAt, IsRefusedAtEnd}
use Rattle.line_loop.specs.Outcome.{Asks, AsksFor, Outcome, IsAccepted}
use Rattle.line_loop.specs.Laws.{OneCourse, AsksOne}
use Rattle.octet_loop.specs.ByStatus.{IsFailure}
use Rattle.line_loop.proofs.Lines.{feed_or_other, whole_feed, whole_part, open_part}
use Rattle.osi_base.specs.Ends.{Took, Put, IsAtEnd}
use Rattle.line_loop.proofs.Driving.{Ran}
use Rattle.line_loop.proofs.Reading.{runs_split, one_step_of, refused_more, too_much_more}
use Rattle.line_loop.proofs.ReadFronts.{last_line-push, one_run, one_read, AnyRead, runs_front, front_read}

same_head : (x y : ℕ) (xs ys : List ℕ) → x ∷ xs ≡ y ∷ ys → x ≡ y
same_head x y xs ys h = cc

same_tail : (x y : ℕ) (xs ys : List ℕ) → x ∷ xs ≡ y ∷ ys → xs ≡ ys
same_tail x y xs ys h = cc

-- two places of the same octets
places : (f : List ℕ) (x : ℕ) (m : List ℕ) (g : List ℕ) (y : ℕ) (n : List ℕ) → f ++ x ∷ m ≡ g ++ y ∷ n
    → ((f ≡ g) × (x ≡ y)) ⊎ (((r : List ℕ) × (g ≡ f ++ x ∷ r)) ⊎ ((r : List ℕ) × (f ≡ g ++ y ∷ r)))
places [] x m [] y n h = inl (refl, same_head x y m n h)
places [] x m (z ∷ g) y n h = inr (inl (g, ap (λ (o : ℕ). o ∷ g) (sym (same_head x z m (g ++ y ∷ n) h))))
places (z ∷ f) x m [] y n h = inr (inr (f, ap (λ (o : ℕ). o ∷ f) (same_head z y (f ++ x ∷ m) n h)))
places (w ∷ f) x m (z ∷ g) y n h =
    let head : w ≡ z = same_head w z (f ++ x ∷ m) (g ++ y ∷ n) h in
    elim (places f x m g y n (same_tail w z (f ++ x ∷ m) (g ++ y ∷ n) h)) [
      | inl same ↦ inl (ap (λ (o : ℕ). o ∷ f) head ∙ ap (λ (t : List ℕ). z ∷ t) same.0, same.1)
      | inr (inl later) ↦ inr (inl (later.0, ap (λ (o : ℕ). o ∷ g) (sym head) ∙ ap (λ (t : List ℕ). w ∷ t) later.1))
      | inr (inr sooner) ↦ inr (inr (sooner.0, ap (λ (o : ℕ). o ∷ f) head ∙ ap (λ (t : List ℕ). z ∷ t) sooner.1))
    ]

full_or_room : (front : List ℕ) → IsFull front → IsWithin front → ⊥
full_or_room front (inl octets) room = omega (arith, octets, room.0)
full_or_room front (inr lines) room = omega (arith, lines, room.1)

module _ {M E R : Type 0} (meaning : Meaning M E R) (laws : Laws meaning) where
  -- an octet at which a run stops
  data Halts (front : List ℕ) (last : M) (octet : ℕ) : Type 0 where
    refused : (said : R) → IsRefusal meaning last (open_line front) octet said → Halts front last octet
    over : (events : List E) (next : M) → IsOver meaning last front octet events next → Halts front last octet

  -- the line feed of a line that has no step
  no_step : (first : M) (front : List ℕ) (octet : ℕ) (journal : List E) (last : M) → IsRead meaning first front journal last → octet ≡ 10 → AnyRead meaning laws first (front ++ octet ∷ [])
      → (events : List E) × (next : M) × meaning.step last (without_return (open_line front)) events next
  no_step first front octet journal last f feed r =
      let parts = runs_front meaning laws first front r.0 r.1 (subst (λ (o : ℕ). IsRead meaning first (front ++ o ∷ []) r.0 r.1) feed r.2) in
      let same = one_run meaning laws first (map without_return (whole_lines front)) parts.0 journal parts.1 last parts.3 f.runs in
      (parts.2, r.1, subst (λ (m : M). meaning.step m (without_return (open_line front)) parts.2 r.1) same.1 parts.4)

  -- no octet that was read is one at which the run stops
  not_here : (first : M) (front : List ℕ) (octet : ℕ) (journal : List E) (last : M) → IsRead meaning first front journal last → Halts front last octet → AnyRead meaning laws first (front ++ octet ∷ []) → ⊥
  not_here first front octet journal last f (over events next (inl (inl full, none, same))) r = omega (arith, r.2.fits.in_all, length-append front (octet ∷ []))
  not_here first front octet journal last f (over events next (inl (inr full, none, same))) r = elim (feed_or_other octet) [
    | inl is ↦ omega (arith, r.2.fits.lines, ap (λ (o : ℕ). length (whole_lines (front ++ o ∷ []))) is, ap length (whole_feed front []), length_push (whole_lines front) (open_line front))
    | inr other ↦ omega (arith, r.2.fits.lines, ap length (whole_part front (octet ∷ []) (other, tt)), ap (λ (l : List ℕ). length (last_line l)) (open_part front (octet ∷ []) (other, tt)), last_line-push (open_line front) octet)
  ]
  not_here first front octet journal last f (over events next (inr filled)) r =
      let s = no_step first front octet journal last f filled.0 r in
      laws.step_or_filling last (without_return (open_line front)) s.0 events s.1 next s.2 filled.2
  not_here first front octet journal last f (refused said (inl here)) r =
      let s = no_step first front octet journal last f here.0 r in
      laws.step_or_refusal last (without_return (open_line front)) s.0 s.1 said s.2 here.1
  not_here first front octet journal last f (refused said (inr long)) r =
      omega (arith, r.2.fits.last, ap length (open_part front (octet ∷ []) (long.0, tt)), length-append (open_line front) (octet ∷ []), long.1)

  never_past : (first : M) (front : List ℕ) (octet : ℕ) (more : List ℕ) (journal : List E) (last : M) → IsRead meaning first front journal last → Halts front last octet → AnyRead meaning laws first (front ++ octet ∷ more) → ⊥
  never_past first front octet more journal last f halts r =
      not_here first front octet journal last f halts (front_read meaning laws first (front ++ octet ∷ []) more (subst (λ (xs : List ℕ). AnyRead meaning laws first xs) (sym (append_assoc front (octet ∷ []) more)) r))

  -- two stops of the same octets are at the same place, in the same state
  record OnePlace (f g : List ℕ) (x y : ℕ) (j k : List E) (s t : M) : Type 0 where
    pub front : f ≡ g
    pub octet : x ≡ y
    pub journal : j ≡ k
    pub last : s ≡ t

  one_place : (first : M) (read f : List ℕ) (x : ℕ) (m : List ℕ) (j : List E) (s : M) (g : List ℕ) (y : ℕ) (n : List ℕ) (k : List E) (t : M)
      → read ≡ f ++ x ∷ m → IsRead meaning first f j s → Halts f s x → read ≡ g ++ y ∷ n → IsRead meaning first g k t → Halts g t y → OnePlace f g x y j k s t
  one_place first read f x m j s g y n k t fp fr fh gp gr gh = elim (places f x m g y n (sym fp ∙ gp)) [
    | inl same ↦
        let run = one_read meaning laws first g j k s t (subst (λ (xs : List ℕ). IsRead meaning first xs j s) same.0 fr) gr in
        record { front = same.0; octet = same.1; journal = run.0; last = run.1 }
    | inr (inl later) ↦ absurd (never_past first f x later.0 j s fr fh (k, t, subst (λ (xs : List ℕ). IsRead meaning first xs k t) later.1 gr))
    | inr (inr sooner) ↦ absurd (never_past first g y sooner.0 k t gr gh (j, s, subst (λ (xs : List ℕ). IsRead meaning first xs j s) sooner.1 fr))
  ]

  -- octets that were read have no stop
  pub read_refused : (first : M) (read : List ℕ) (journal : List E) (last : M) (line : ℕ) (said : R) (other : List E) (state : M) → IsRead meaning first read journal last → IsRefusedAt meaning first read line said other state → ⊥
  read_refused first read journal last line said other state r k =
      never_past first k.front k.octet k.more other state k.so_far (refused said k.refused) (journal, last, subst (λ (xs : List ℕ). IsRead meaning first xs journal last) k.place r)

  pub read_too_much : (first : M) (read : List ℕ) (journal : List E) (last : M) (other : List E) (state : M) → IsRead meaning first read journal last → IsTooMuch meaning first read other state → ⊥
  read_too_much first read journal last other state r k =
      never_past first k.front k.octet k.more k.before k.state k.so_far (over k.events state k.over) (journal, last, subst (λ (xs : List ℕ). IsRead meaning first xs journal last) k.place r)

  -- one thing is said of a line that is refused
  one_said : (state : M) (line : List ℕ) (octet : ℕ) (said other : R) → IsRefusal meaning state line octet said → IsRefusal meaning state line octet other → said ≡ other
  one_said state line octet said other (inl h) (inl k) = laws.one_refusal state (without_return line) said other h.1 k.1
  one_said state line octet said other (inl h) (inr k) = absurd (k.0 h.0)
  one_said state line octet said other (inr h) (inl k) = absurd (h.0 k.0)
  one_said state line octet said other (inr h) (inr k) = h.2 ∙ sym k.2

  -- one refused line, and one journal before it
  pub one_refused : (first : M) (read : List ℕ) (line : ℕ) (said : R) (journal : List E) (last : M) (next : ℕ) (heard : R) (other : List E) (state : M)
      → IsRefusedAt meaning first read line said journal last → IsRefusedAt meaning first read next heard other state
      → (line ≡ next) × (said ≡ heard) × (journal ≡ other) × (last ≡ state)
  one_refused first read line said journal last next heard other state h k =
      let p = one_place first read h.front h.octet h.more journal last k.front k.octet k.more other state h.place h.so_far (refused said h.refused) k.place k.so_far (refused heard k.refused) in
      let there : IsRefusal meaning state (open_line k.front) k.octet said =
      subst (λ (m : M). IsRefusal meaning m (open_line k.front) k.octet said) p.last
      (subst (λ (o : ℕ). IsRefusal meaning last (open_line k.front) o said) p.octet
      (subst (λ (xs : List ℕ). IsRefusal meaning last (open_line xs) h.octet said) p.front h.refused)) in
      (h.number ∙ ap (λ (xs : List ℕ). length (whole_lines xs) + 1) p.front ∙ sym k.number, one_said state (open_line k.front) k.octet said heard there k.refused, p.journal, p.last)

  -- an octet that is over has one journal
  one_over : (state : M) (front : List ℕ) (octet : ℕ) (events other : List E) (last next : M)
      → IsOver meaning state front octet events last → IsOver meaning state front octet other next → (events ≡ other) × (last ≡ next)
  one_over state front octet events other last next (inl h) (inl k) = (h.1 ∙ sym k.1, h.2 ∙ sym k.2)
  one_over state front octet events other last next (inl h) (inr k) = absurd (full_or_room front h.0 k.1)
  one_over state front octet events other last next (inr h) (inl k) = absurd (full_or_room front k.0 h.1)
  one_over state front octet events other last next (inr h) (inr k) = laws.one_filling state (without_return (open_line front)) events other last next h.2 k.2

  pub one_too_much : (first : M) (read : List ℕ) (journal : List E) (last : M) (other : List E) (state : M) → IsTooMuch meaning first read journal last → IsTooMuch meaning first read other state → (journal ≡ other) × (last ≡ state)
  one_too_much first read journal last other state h k =
      let p = one_place first read h.front h.octet h.more h.before h.state k.front k.octet k.more k.before k.state h.place h.so_far (over h.events last h.over) k.place k.so_far (over k.events state k.over) in
      let there : IsOver meaning k.state k.front k.octet h.events last =
      subst (λ (m : M). IsOver meaning m k.front k.octet h.events last) p.last
      (subst (λ (o : ℕ). IsOver meaning h.state k.front o h.events last) p.octet
      (subst (λ (xs : List ℕ). IsOver meaning h.state xs h.octet h.events last) p.front h.over)) in
      let one = one_over k.state k.front k.octet h.events k.events last state there k.over in
      (h.journal_is ∙ ap (λ (j : List E). j ++ h.events) p.journal ∙ ap (λ (e : List E). k.before ++ e) one.0 ∙ sym k.journal_is, one.1)

  -- a refused octet is not over
  refusal_or_over : (state : M) (front : List ℕ) (octet : ℕ) (said : R) (events : List E) (last : M) → IsWithin front
      → IsRefusal meaning state (open_line front) octet said → IsOver meaning state front octet events last → ⊥
  refusal_or_over state front octet said events last within h (inl k) = full_or_room front k.0 within
  refusal_or_over state front octet said events last within (inl h) (inr k) = laws.refusal_or_filling state (without_return (open_line front)) said events last h.1 k.2
  refusal_or_over state front octet said events last within (inr h) (inr k) = h.0 k.0

  pub refused_too_much : (first : M) (read : List ℕ) (line : ℕ) (said : R) (journal : List E) (last : M) (other : List E) (state : M)
      → IsRefusedAt meaning first read line said journal last → IsTooMuch meaning first read other state → ⊥
  refused_too_much first read line said journal last other state h k =
      let p = one_place first read h.front h.octet h.more journal last k.front k.octet k.more k.before k.state h.place h.so_far (refused said h.refused) k.place k.so_far (over k.events state k.over) in
      let there : IsRefusal meaning k.state (open_line k.front) k.octet said =
      subst (λ (m : M). IsRefusal meaning m (open_line k.front) k.octet said) p.last
      (subst (λ (o : ℕ). IsRefusal meaning last (open_line k.front) o said) p.octet
      (subst (λ (xs : List ℕ). IsRefusal meaning last (open_line xs) h.octet said) p.front h.refused)) in
      refusal_or_over k.state k.front k.octet said k.events state (subst IsWithin p.front h.within) there k.over

  -- a whole input was read, but for its last line
  whole_read : (first : M) (read : List ℕ) (journal : List E) (last : M) → IsWhole meaning first read journal last
      → (before : List E) × (middle : M) × (events : List E) × IsRead meaning first read before middle × Runs meaning middle (last_line (open_line read)) events last
  whole_read first read journal last r =
      let parts = runs_split meaning first (map without_return (whole_lines read)) (last_line (open_line read)) journal last r.runs in
      (parts.0, parts.1, parts.2, record { fits = r.fits; runs = parts.3 }, parts.4)

  pub one_whole : (first : M) (read : List ℕ) (journal other : List E) (last state : M) → IsWhole meaning first read journal last → IsWhole meaning first read other state → (journal ≡ other) × (last ≡ state)
  one_whole first read journal other last state h k = one_run meaning laws first (map without_return (whole_lines read) ++ last_line (open_line read)) journal other last state h.runs k.runs

  pub whole_refused : (first : M) (read : List ℕ) (journal : List E) (last : M) (line : ℕ) (said : R) (other : List E) (state : M) → IsWhole meaning first read journal last → IsRefusedAt meaning first read line said other state → ⊥
  whole_refused first read journal last line said other state h k = let r = whole_read first read journal last h in read_refused first read r.0 r.1 line said other state r.3 k

  pub whole_too_much : (first : M) (read : List ℕ) (journal : List E) (last : M) (other : List E) (state : M) → IsWhole meaning first read journal last → IsTooMuch meaning first read other state → ⊥
  whole_too_much first read journal last other state h k = let r = whole_read first read journal last h in read_too_much first read r.0 r.1 other state r.3 k

  -- the last line of a whole input has a step
  last_step : (state : M) (line : List ℕ) (events : List E) (last : M) → line ≢ [] → Runs meaning state (last_line line) events last → meaning.step state line events last
  last_step state [] events last begun r = absurd (begun refl)
  last_step state (octet ∷ line) events last begun r = one_step_of meaning state (octet ∷ line) events last r

  whole_step : (first : M) (read : List ℕ) (journal : List E) (last : M) (other : List E) (state : M) → IsWhole meaning first read journal last → IsRead meaning first read other state → open_line read ≢ []
      → (events : List E) × meaning.step state (open_line read) events last
  whole_step first read journal last other state h k begun =
      let r = whole_read first read journal last h in
      let same = one_read meaning laws first read r.0 other r.1 state r.3 k in
      (r.2, last_step state (open_line read) r.2 last begun (subst (λ (m : M). Runs meaning m (last_line (open_line read)) r.2 last) same.1 r.4))

  pub whole_refused_at_end : (first : M) (read : List ℕ) (journal : List E) (last : M) (line : ℕ) (said : R) (other : List E) (state : M) → IsWhole meaning first read journal last → IsRefusedAtEnd meaning first read line said other state → ⊥
  whole_refused_at_end first read journal last line said other state h k =
      let s = whole_step first read journal last other state h k.so_far k.begun in
      laws.step_or_refusal state (open_line read) s.0 last said s.1 k.refused

  pub whole_too_much_at_end : (first : M) (read : List ℕ) (journal : List E) (last : M) (other : List E) (state : M) → IsWhole meaning first read journal last → IsTooMuchAtEnd meaning first read other state → ⊥
  whole_too_much_at_end first read journal last other state h k =
      let s = whole_step first read journal last k.before k.state h k.so_far k.begun in
      laws.step_or_filling k.state (open_line read) s.0 k.events last state s.1 k.fills

  pub one_refused_at_end : (first : M) (read : List ℕ) (line : ℕ) (said : R) (journal : List E) (last : M) (next : ℕ) (heard : R) (other : List E) (state : M)
      → IsRefusedAtEnd meaning first read line said journal last → IsRefusedAtEnd meaning first read next heard other state
      → (line ≡ next) × (said ≡ heard) × (journal ≡ other) × (last ≡ state)
  one_refused_at_end first read line said journal last next heard other state h k =
      let run = one_read meaning laws first read journal other last state h.so_far k.so_far in
      (h.number ∙ sym k.number, laws.one_refusal state (open_line read) said heard (subst (λ (m : M). meaning.refuses m (open_line read) said) run.1 h.refused) k.refused, run.0, run.1)

  pub one_too_much_at_end : (first : M) (read : List ℕ) (journal : List E) (last : M) (other : List E) (state : M)
      → IsTooMuchAtEnd meaning first read journal last → IsTooMuchAtEnd meaning first read other state → (journal ≡ other) × (last ≡ state)
  one_too_much_at_end first read journal last other state h k =
      let run = one_read meaning laws first read h.before k.before h.state k.state h.so_far k.so_far in
      let one = laws.one_filling k.state (open_line read) h.events k.events last state (subst (λ (m : M). meaning.fills m (open_line read) h.events last) run.1 h.fills) k.fills in
      (h.journal_is ∙ ap (λ (j : List E). j ++ h.events) run.0 ∙ ap (λ (e : List E). k.before ++ e) one.0 ∙ sym k.journal_is, one.1)

  pub ends_not_both : (first : M) (read : List ℕ) (line : ℕ) (said : R) (journal : List E) (last : M) (other : List E) (state : M)
      → IsRefusedAtEnd meaning first read line said journal last → IsTooMuchAtEnd meaning first read other state → ⊥
  ends_not_both first read line said journal last other state h k =
      let run = one_read meaning laws first read journal k.before last k.state h.so_far k.so_far in
      laws.refusal_or_filling k.state (open_line read) said k.events state (subst (λ (m : M). meaning.refuses m (open_line read) said) run.1 h.refused) k.fills

  pub one_course : OneCourse meaning
  one_course = record {
    read = one_read meaning laws;
    whole = one_whole;
    refused = one_refused;
    refused_at_end = one_refused_at_end;
    too_much = one_too_much;
    too_much_at_end = one_too_much_at_end;
    read_not_refused = read_refused;
    read_not_too_much = read_too_much;
    refused_not_too_much = refused_too_much;
    whole_not_refused = whole_refused;
    whole_not_refused_at_end = whole_refused_at_end;
    whole_not_too_much = whole_too_much;
    whole_not_too_much_at_end = whole_too_much_at_end;
    ends_not_both = ends_not_both;
  }

  -- one transcript for an input
  abbrev IsRefusedSomewhere : M → List ℕ → ℕ → R → List E → M → Type 0
  IsRefusedSomewhere first all line said journal last = IsRefusedAt meaning first all line said journal last ⊎ (Unit {0} × IsRefusedAtEnd meaning first all line said journal last)

  abbrev IsTooMuchSomewhere : M → List ℕ → List E → M → Type 0
  IsTooMuchSomewhere first all journal last = IsTooMuch meaning first all journal last ⊎ (Unit {0} × IsTooMuchAtEnd meaning first all journal last)

  one_somewhere : (first : M) (all : List ℕ) (line : ℕ) (said : R) (journal : List E) (last : M) (next : ℕ) (heard : R) (other : List E) (state : M)
      → IsRefusedSomewhere first all line said journal last → IsRefusedSomewhere first all next heard other state
      → (line ≡ next) × (said ≡ heard) × (journal ≡ other) × (last ≡ state)
  one_somewhere first all line said journal last next heard other state (inl h) (inl k) = one_refused first all line said journal last next heard other state h k
  one_somewhere first all line said journal last next heard other state (inl h) (inr k) = absurd (read_refused first all other state line said journal last k.1.so_far h)
  one_somewhere first all line said journal last next heard other state (inr h) (inl k) = absurd (read_refused first all journal last next heard other state h.1.so_far k)
  one_somewhere first all line said journal last next heard other state (inr h) (inr k) = one_refused_at_end first all line said journal last next heard other state h.1 k.1

  much_somewhere : (first : M) (all : List ℕ) (journal : List E) (last : M) (other : List E) (state : M)
      → IsTooMuchSomewhere first all journal last → IsTooMuchSomewhere first all other state → (journal ≡ other) × (last ≡ state)
  much_somewhere first all journal last other state (inl h) (inl k) = one_too_much first all journal last other state h k
  much_somewhere first all journal last other state (inl h) (inr k) = absurd (read_too_much first all k.1.before k.1.state journal last k.1.so_far h)
  much_somewhere first all journal last other state (inr h) (inl k) = absurd (read_too_much first all h.1.before h.1.state other state h.1.so_far k)
  much_somewhere first all journal last other state (inr h) (inr k) = one_too_much_at_end first all journal last other state h.1 k.1

  whole_somewhere : (first : M) (all : List ℕ) (journal : List E) (last : M) (next : ℕ) (said : R) (other : List E) (state : M) → IsWhole meaning first all journal last → IsRefusedSomewhere first all next said other state → ⊥
  whole_somewhere first all journal last next said other state h (inl k) = whole_refused first all journal last next said other state h k
  whole_somewhere first all journal last next said other state h (inr k) = whole_refused_at_end first all journal last next said other state h k.1

  whole_or_much : (first : M) (all : List ℕ) (journal : List E) (last : M) (other : List E) (state : M) → IsWhole meaning first all journal last → IsTooMuchSomewhere first all other state → ⊥
  whole_or_much first all journal last other state h (inl k) = whole_too_much first all journal last other state h k
  whole_or_much first all journal last other state h (inr k) = whole_too_much_at_end first all journal last other state h k.1

  refused_or_much : (first : M) (all : List ℕ) (line : ℕ) (said : R) (journal : List E) (last : M) (other : List E) (state : M)
      → IsRefusedSomewhere first all line said journal last → IsTooMuchSomewhere first all other state → ⊥
  refused_or_much first all line said journal last other state (inl h) (inl k) = refused_too_much first all line said journal last other state h k
  refused_or_much first all line said journal last other state (inl h) (inr k) = read_refused first all k.1.before k.1.state line said journal last k.1.so_far h
  refused_or_much first all line said journal last other state (inr h) (inl k) = read_too_much first all journal last other state h.1.so_far k
  refused_or_much first all line said journal last other state (inr h) (inr k) = ends_not_both first all line said journal last other state h.1 k.1

  told_alike : (closing : M → List ℕ) (journal other : List E) (last state : M) → journal ≡ other → last ≡ state → meaning.text last journal ++ closing last ≡ meaning.text state other ++ closing state
  told_alike closing journal other last state j s = ap (λ (e : List E). meaning.text last e ++ closing last) j ∙ ap (λ (m : M). meaning.text m other ++ closing m) s

  asks_one : (first : M) (all text other : List ℕ) (status next : Status) → status ≢ ReadFault → next ≢ ReadFault
      → Asks meaning (Unit {0}) first all text status → Asks meaning (Unit {0}) first all other next → (status ≡ next) × (text ≡ other)
  asks_one first all text other Done Done never nor h k =
      let same = one_whole first all h.journal k.journal h.last k.last h.whole k.whole in (refl, h.text_is ∙ told_alike meaning.done h.journal k.journal h.last k.last same.0 same.1 ∙ sym k.text_is)
  asks_one first all text other Done RefusedLine never nor h k = absurd (whole_somewhere first all h.journal h.last k.line k.said k.journal k.last h.whole k.refused)
  asks_one first all text other Done TooMuch never nor h k = absurd (whole_or_much first all h.journal h.last k.journal k.last h.whole k.passed)
  asks_one first all text other RefusedLine Done never nor h k = absurd (whole_somewhere first all k.journal k.last h.line h.said h.journal h.last k.whole h.refused)
  asks_one first all text other RefusedLine RefusedLine never nor h k =
      let same = one_somewhere first all h.line h.said h.journal h.last k.line k.said k.journal k.last h.refused k.refused in (
        refl,
        h.text_is ∙ told_alike (λ m. meaning.refused m h.line h.said) h.journal k.journal h.last k.last same.2 same.3
            ∙ ap (λ (n : ℕ). meaning.text k.last k.journal ++ meaning.refused k.last n h.said) same.0
            ∙ ap (λ (r : R). meaning.text k.last k.journal ++ meaning.refused k.last k.line r) same.1 ∙ sym k.text_is,
      )
  asks_one first all text other RefusedLine TooMuch never nor h k = absurd (refused_or_much first all h.line h.said h.journal h.last k.journal k.last h.refused k.passed)
  asks_one first all text other TooMuch Done never nor h k = absurd (whole_or_much first all k.journal k.last h.journal h.last k.whole h.passed)
  asks_one first all text other TooMuch RefusedLine never nor h k = absurd (refused_or_much first all k.line k.said k.journal k.last h.journal h.last k.refused h.passed)
  asks_one first all text other TooMuch TooMuch never nor h k =
      let same = much_somewhere first all h.journal h.last k.journal k.last h.passed k.passed in (refl, h.text_is ∙ told_alike meaning.too_much h.journal k.journal h.last k.last same.0 same.1 ∙ sym k.text_is)
  asks_one first all text other ReadFault next never nor h k = absurd (never refl)
  asks_one first all text other status ReadFault never nor h k = absurd (nor refl)
  asks_one first all text other WriteFault next never nor h k = absurd h
  asks_one first all text other NoMemory next never nor h k = absurd h
  asks_one first all text other RefusedWords next never nor h k = absurd h
  asks_one first all text other RefusedCapture next never nor h k = absurd h
  asks_one first all text other status WriteFault never nor h k = absurd k
  asks_one first all text other status NoMemory never nor h k = absurd k
  asks_one first all text other status RefusedWords never nor h k = absurd k
  asks_one first all text other status RefusedCapture never nor h k = absurd k

  pub asks_once : AsksOne meaning
  asks_once first all text other status next h k = asks_one first all text other status next h.0 k.0 h.1 k.1

  -- what a front of an input gave, the input asks for
  outcome_all : (first : M) (read rest written : List ℕ) (status : Status) → Outcome meaning (rest ≡ []) first read written status → ((status ≢ ReadFault) × Asks meaning (Unit {0}) first (read ++ rest) written status) ⊎ IsFailure status
  outcome_all first read rest written Done h =
      let all : read ≡ read ++ rest = sym (ap (λ (xs : List ℕ). read ++ xs) h.ends ∙ append-nil read) in
      inl ((λ is. absurd (cc)), record { journal = h.journal; last = h.last; ends = tt; whole = subst (λ (xs : List ℕ). IsWhole meaning first xs h.journal h.last) all h.whole; text_is = h.text_is })
  outcome_all first read rest written RefusedLine h =
      inl (
        (λ is. absurd (cc)),
        record {
          line = h.line;
          said = h.said;
          journal = h.journal;
          last = h.last;
          refused = elim h.refused [
            | inl here ↦ inl (refused_more meaning first read rest h.line h.said h.journal h.last here)
            | inr last ↦ inr (tt, subst (λ (xs : List ℕ). IsRefusedAtEnd meaning first xs h.line h.said h.journal h.last) (sym (ap (λ (xs : List ℕ). read ++ xs) last.0 ∙ append-nil read)) last.1)
          ];
          text_is = h.text_is;
        },
      )
  outcome_all first read rest written TooMuch h =
      inl (
        (λ is. absurd (cc)),
        record {
          journal = h.journal;
          last = h.last;
          passed = elim h.passed [
            | inl here ↦ inl (too_much_more meaning first read rest h.journal h.last here)
            | inr last ↦ inr (tt, subst (λ (xs : List ℕ). IsTooMuchAtEnd meaning first xs h.journal h.last) (sym (ap (λ (xs : List ℕ). read ++ xs) last.0 ∙ append-nil read)) last.1)
          ];
          text_is = h.text_is;
        },
      )
  outcome_all first read rest written ReadFault h = inr (inl refl)
  outcome_all first read rest written WriteFault h = inr (inr (inl refl))
  outcome_all first read rest written NoMemory h = inr (inr (inr refl))
  outcome_all first read rest written RefusedWords h = absurd h
  outcome_all first read rest written RefusedCapture h = absurd h

  -- whatever front of an input was read, its outcome is what the input asks for, or a failure
  pub one_outcome : (first : M) (read rest text written : List ℕ) (asked status : Status)
      → asked ≢ ReadFault → Asks meaning (Unit {0}) first (read ++ rest) text asked → Outcome meaning (rest ≡ []) first read written status
      → ((status ≡ asked) × (written ≡ text)) ⊎ IsFailure status
  one_outcome first read rest text written asked status never a o = elim (outcome_all first read rest written status o) [
    | inl here ↦ inl (asks_one first (read ++ rest) written text status asked here.0 never here.1 a)
    | inr fails ↦ inr fails
  ]

  -- the same of a run over a source that tells
  pub ran_exact : {S K : Type 0} (left : S → Option (List ℕ)) (held : K → Option (List ℕ)) (source : S) (sink : K) (first : M) (now_source : S) (now_sink : K) (status : Status) → Ran meaning left held source sink first now_source now_sink status
      → (all text : List ℕ) (asked : Status) → left source ≡ Some all → AsksFor meaning first all text asked → ((status ≡ asked) × Put (held sink) text (held now_sink)) ⊎ IsFailure status
  ran_exact {S} {K} left held source sink first now_source now_sink status r all text asked tells asks =
      let took : Took (Some all) r.0 (left now_source) = subst (λ (o : Option (List ℕ)). Took o r.0 (left now_source)) tells r.2 in
      let outcome : Outcome meaning (took.0 ≡ []) first r.0 r.1 status = subst (λ (o : Option (List ℕ)). Outcome meaning (IsAtEnd o) first r.0 r.1 status) took.1 r.4 in
      elim (one_outcome first r.0 took.0 text r.1 asked status asks.0 (subst (λ (xs : List ℕ). Asks meaning (Unit {0}) first xs text asked) took.2 asks.1) outcome) [
        | inl here ↦ inl (here.0, subst (λ (t : List ℕ). Put (held sink) t (held now_sink)) here.1 r.3)
        | inr fails ↦ inr fails
      ]

  -- an accepted input asks for Done alone
  accepted_asks : (first : M) (all text : List ℕ) (status : Status) → IsAccepted meaning first all → status ≢ ReadFault → Asks meaning (Unit {0}) first all text status
      → (status ≡ Done) × Asks meaning (Unit {0}) first all text Done
  accepted_asks first all text Done a never h = (refl, h)
  accepted_asks first all text RefusedLine a never h =
      elim h.refused [ inl here ↦ absurd (a.read h.line h.said h.journal h.last here) | inr last ↦ absurd (a.ended h.line h.said h.journal h.last last.1) ]
  accepted_asks first all text TooMuch a never h = elim h.passed [ inl here ↦ absurd (a.within h.journal h.last here) | inr last ↦ absurd (a.within_at_end h.journal h.last last.1) ]
  accepted_asks first all text ReadFault a never h = absurd (never refl)
  accepted_asks first all text WriteFault a never h = absurd h
  accepted_asks first all text NoMemory a never h = absurd h
  accepted_asks first all text RefusedWords a never h = absurd h
  accepted_asks first all text RefusedCapture a never h = absurd h

  -- its run gives Done and its transcript, or fails
  pub ran_accepted : {S K : Type 0} (left : S → Option (List ℕ)) (held : K → Option (List ℕ)) (source : S) (sink : K) (first : M) (now_source : S) (now_sink : K) (status : Status) → Ran meaning left held source sink first now_source now_sink status
      → (all : List ℕ) → left source ≡ Some all → IsAccepted meaning first all
      → ((status ≡ Done) × (text : List ℕ) × AsksFor meaning first all text Done × Put (held sink) text (held now_sink)) ⊎ IsFailure status
  ran_accepted {S} {K} left held source sink first now_source now_sink status r all tells accepted =
      let took : Took (Some all) r.0 (left now_source) = subst (λ (o : Option (List ℕ)). Took o r.0 (left now_source)) tells r.2 in
      let outcome : Outcome meaning (took.0 ≡ []) first r.0 r.1 status = subst (λ (o : Option (List ℕ)). Outcome meaning (IsAtEnd o) first r.0 r.1 status) took.1 r.4 in
      elim (outcome_all first r.0 took.0 r.1 status outcome) [
        | inl here ↦
            let done = accepted_asks first all r.1 status accepted here.0 (subst (λ (xs : List ℕ). Asks meaning (Unit {0}) first xs r.1 status) (sym took.2) here.1) in
            inl (done.0, r.1, ((λ is. absurd (cc)), done.1), r.3)
        | inr fails ↦ inr fails
      ]
