-- How a feed goes on: whatever was read before, octets of a line, the end of a line, and where the run stops.
use Rattle.std.proofs.Common.{◌≡◌, ◌≢◌, ◌⊎◌, ℕ, ◌+◌, ◌<◌, ◌≤◌, List, [], ◌∷◌, ◌++◌, length, map, inl, inr, refl, sym, ◌∙◌, ap, subst, append_assoc, arith}
use Rattle.std.proofs.lemmas.List.{append-nil, length-append}
use Rattle.line_loop.specs.Limits.{most_octets}
use Rattle.line_loop.specs.Lines.{most_lines, most_in_line, whole_lines, open_line, last_line, without_return}
use Rattle.line_loop.specs.Meaning.{Meaning, Laws, HasRun, HasFilled}
use Rattle.line_loop.specs.Course.{Runs, IsWhole, IsTooMuch, IsTooMuchAtEnd, IsRefusedAt, IsRefusedAtEnd}
use Rattle.line_loop.specs.steps.Feeding.{Held, Fed, Feeds, Stops, StopsAtLine, EndsAtLine, EndsFull}
use Rattle.line_loop.specs.steps.Joined.{HasNoFeed}
use Rattle.line_loop.proofs.Lines.{whole_feed, open_feed, whole_part, open_part}
use Rattle.line_loop.proofs.Reading.{runs_on, runs_one, read_part, read_line, refused_more, too_much_more, refused_line_here, refused_long_here, too_much_here, filled_here}

module _ {M E R : Type 0} (meaning : Meaning M E R) where
  pub feeds_none : (old : Held M) (out : List ℕ) → Feeds meaning [] old out old out
  feeds_none old out = record {
    events = [];
    told = [];
    appended = sym (append-nil out);
    goes_on = λ first read journal f. (
      subst (λ (r : List ℕ). Fed meaning first r (journal ++ []) old) (sym (append-nil read)) (subst (λ (j : List E). Fed meaning first read j old) (sym (append-nil journal)) f),
      ap (meaning.text old.machine) (append-nil journal) ∙ sym (append-nil (meaning.text old.machine journal)),
    );
  }

  pub feeds_on : (xs ys : List ℕ) (old : Held M) (before : List ℕ) (mid : Held M) (between : List ℕ) (new : Held M) (after : List ℕ)
      → Feeds meaning xs old before mid between → Feeds meaning ys mid between new after → Feeds meaning (xs ++ ys) old before new after
  feeds_on xs ys old before mid between new after f h = record {
    events = f.events ++ h.events;
    told = f.told ++ h.told;
    appended = h.appended ∙ ap (λ (t : List ℕ). t ++ h.told) f.appended ∙ append_assoc before f.told h.told;
    goes_on = λ first read journal k.
        let a = f.goes_on first read journal k in
        let b = h.goes_on first (read ++ xs) (journal ++ f.events) a.0 in (
          subst (λ (r : List ℕ). Fed meaning first r (journal ++ (f.events ++ h.events)) new) (append_assoc read xs ys)
              (subst (λ (j : List E). Fed meaning first ((read ++ xs) ++ ys) j new) (append_assoc journal f.events h.events) b.0),
          ap (meaning.text new.machine) (sym (append_assoc journal f.events h.events)) ∙ b.1 ∙ ap (λ (t : List ℕ). t ++ h.told) a.1 ∙ append_assoc (meaning.text old.machine journal) f.told h.told,
        );
  }

  pub feeds_stop : (S : M → List ℕ → List E → M → Type 0) (xs ys : List ℕ) (old : Held M) (before : List ℕ) (mid : Held M) (between : List ℕ) (last : M) (after : List ℕ)
      → Feeds meaning xs old before mid between → Stops meaning S ys mid between last after → Stops meaning S (xs ++ ys) old before last after
  feeds_stop S xs ys old before mid between last after f h = record {
    events = f.events ++ h.events;
    told = f.told ++ h.told;
    appended = h.appended ∙ ap (λ (t : List ℕ). t ++ h.told) f.appended ∙ append_assoc before f.told h.told;
    stopped = λ first read journal k.
        let a = f.goes_on first read journal k in
        let b = h.stopped first (read ++ xs) (journal ++ f.events) a.0 in (
          subst (λ (r : List ℕ). S first r (journal ++ (f.events ++ h.events)) last) (append_assoc read xs ys)
              (subst (λ (j : List E). S first ((read ++ xs) ++ ys) j last) (append_assoc journal f.events h.events) b.0),
          ap (meaning.text last) (sym (append_assoc journal f.events h.events)) ∙ b.1 ∙ ap (λ (t : List ℕ). t ++ h.told) a.1 ∙ append_assoc (meaning.text old.machine journal) f.told h.told,
        );
  }

  stop_more : (S : M → List ℕ → List E → M → Type 0) → ((first : M) (read more : List ℕ) (journal : List E) (last : M) → S first read journal last → S first (read ++ more) journal last)
      → (xs ys : List ℕ) (old : Held M) (before : List ℕ) (last : M) (after : List ℕ) → Stops meaning S xs old before last after → Stops meaning S (xs ++ ys) old before last after
  stop_more S keeps xs ys old before last after h = record {
    events = h.events;
    told = h.told;
    appended = h.appended;
    stopped = λ first read journal k.
        let a = h.stopped first read journal k in
        (subst (λ (r : List ℕ). S first r (journal ++ h.events) last) (append_assoc read xs ys) (keeps first (read ++ xs) ys (journal ++ h.events) last a.0), a.1);
  }

  -- a run that stopped stays stopped
  pub refused_stays : (line : ℕ) (said : R) (xs ys : List ℕ) (old : Held M) (before : List ℕ) (last : M) (after : List ℕ)
      → StopsAtLine meaning line said xs old before last after → StopsAtLine meaning line said (xs ++ ys) old before last after
  refused_stays line said xs ys old before last after h =
      stop_more (λ first read journal last. IsRefusedAt meaning first read line said journal last)
      (λ first read more journal last r. refused_more meaning first read more line said journal last r) xs ys old before last after h

  pub too_much_stays : (xs ys : List ℕ) (old : Held M) (before : List ℕ) (last : M) (after : List ℕ)
      → Stops meaning (IsTooMuch meaning) xs old before last after → Stops meaning (IsTooMuch meaning) (xs ++ ys) old before last after
  too_much_stays xs ys old before last after h =
      stop_more (IsTooMuch meaning) (λ first read more journal last r. too_much_more meaning first read more journal last r) xs ys old before last after h

  -- a stop at which nothing new was told
  stops_here : (S : M → List ℕ → List E → M → Type 0) (octets : List ℕ) (old : Held M) (out : List ℕ)
      → ((first : M) (read : List ℕ) (journal : List E) → Fed meaning first read journal old → S first (read ++ octets) journal old.machine)
      → Stops meaning S octets old out old.machine out
  stops_here S octets old out stops = record {
    events = [];
    told = [];
    appended = sym (append-nil out);
    stopped = λ first read journal f. (
      subst (λ (j : List E). S first (read ++ octets) j old.machine) (sym (append-nil journal)) (stops first read journal f),
      ap (meaning.text old.machine) (append-nil journal) ∙ sym (append-nil (meaning.text old.machine journal)),
    );
  }

  -- octets of the open line
  pub fed_part : (first : M) (read part : List ℕ) (journal : List E) (old : Held M) → Fed meaning first read journal old → HasNoFeed part
      → old.lines < most_lines → length old.line + length part ≤ most_in_line → old.octets + length part ≤ most_octets
      → Fed meaning first (read ++ part) journal (record old { line = old.line ++ part; octets = old.octets + length part })
  fed_part first read part journal old f none lines within octets = record {
    so_far = read_part meaning first read part journal old.machine f.so_far none (omega (arith, f.octets)) (omega (arith, f.lines)) (omega (arith, ap length f.line));
    tells = f.tells;
    line = ap (λ (xs : List ℕ). xs ++ part) f.line ∙ sym (open_part read part none);
    lines = f.lines ∙ sym (ap length (whole_part read part none));
    octets = omega (arith, f.octets, length-append read part);
  }

  pub feeds_part : (part : List ℕ) (old : Held M) (out : List ℕ) → HasNoFeed part
      → old.lines < most_lines → length old.line + length part ≤ most_in_line → old.octets + length part ≤ most_octets
      → Feeds meaning part old out (record old { line = old.line ++ part; octets = old.octets + length part }) out
  feeds_part part old out none lines within octets = record {
    events = [];
    told = [];
    appended = sym (append-nil out);
    goes_on = λ first read journal f. (
      subst (λ (j : List E). Fed meaning first (read ++ part) j (record old { line = old.line ++ part; octets = old.octets + length part })) (sym (append-nil journal)) (fed_part first read part journal old f none lines within octets),
      ap (meaning.text old.machine) (append-nil journal) ∙ sym (append-nil (meaning.text old.machine journal)),
    );
  }

  fed_line : Laws meaning → (first : M) (read : List ℕ) (journal : List E) (old : Held M) (events : List E) (new : M) → Fed meaning first read journal old
      → meaning.step old.machine (without_return old.line) events new → old.octets < most_octets → old.lines < most_lines
      → Fed meaning first (read ++ 10 ∷ []) (journal ++ events) (record { machine = new; line = []; lines = old.lines + 1; octets = old.octets + 1 })
  fed_line laws first read journal old events new f s octets lines = record {
    so_far = read_line meaning first read journal old.machine events new f.so_far (subst (λ (line : List ℕ). meaning.step old.machine (without_return line) events new) f.line s) (omega (arith, f.octets)) (omega (arith, f.lines));
    tells = (laws.told old.machine (without_return old.line) events new journal s f.tells).0;
    line = sym (open_feed read []);
    lines = omega (arith, f.lines, ap length (whole_feed read []), length-append (whole_lines read) (open_line read ∷ []));
    octets = omega (arith, f.octets, length-append read (10 ∷ []));
  }

  feeds_end : Laws meaning → (old : Held M) (before after : List ℕ) (events : List E) (new : M) → meaning.step old.machine (without_return old.line) events new
      → after ≡ before ++ meaning.text new events → old.octets < most_octets → old.lines < most_lines
      → Feeds meaning (10 ∷ []) old before (record { machine = new; line = []; lines = old.lines + 1; octets = old.octets + 1 }) after
  feeds_end laws old before after events new s told octets lines = record {
    events = events;
    told = meaning.text new events;
    appended = told;
    goes_on = λ first read journal f. (fed_line laws first read journal old events new f s octets lines, (laws.told old.machine (without_return old.line) events new journal s f.tells).1);
  }

  -- the rest of a line and its end
  pub feeds_line : Laws meaning → (part : List ℕ) (old : Held M) (before : List ℕ) (new : M) (after : List ℕ) → HasNoFeed part
      → old.lines < most_lines → length old.line + length part ≤ most_in_line → old.octets + length part < most_octets
      → HasRun meaning old.machine (without_return (old.line ++ part)) before new after
      → Feeds meaning (part ++ 10 ∷ []) old before (record { machine = new; line = []; lines = old.lines + 1; octets = old.octets + length part + 1 }) after
  feeds_line laws part old before new after none lines within octets r =
      feeds_on part (10 ∷ []) old before (record old { line = old.line ++ part; octets = old.octets + length part }) before
      (record { machine = new; line = []; lines = old.lines + 1; octets = old.octets + length part + 1 }) after
      (feeds_part part old before none lines within (omega arith))
      (feeds_end laws (record old { line = old.line ++ part; octets = old.octets + length part }) before after r.events new r.steps r.told octets lines)

  -- a line is refused at its end
  pub stops_line : (number : ℕ) (said : R) (part : List ℕ) (old : Held M) (out : List ℕ) → number ≡ old.lines + 1 → HasNoFeed part
      → old.lines < most_lines → length old.line + length part ≤ most_in_line → old.octets + length part < most_octets
      → meaning.refuses old.machine (without_return (old.line ++ part)) said
      → StopsAtLine meaning number said (part ++ 10 ∷ []) old out old.machine out
  stops_line number said part old out is none lines within octets no_line =
      stops_here (λ first read journal last. IsRefusedAt meaning first read number said journal last) (part ++ 10 ∷ []) old out (λ first read journal f.
      let k = fed_part first read part journal old f none lines within (omega arith) in
      let here : IsRefusedAt meaning first ((read ++ part) ++ 10 ∷ []) (length (whole_lines (read ++ part)) + 1) said journal old.machine =
      refused_line_here meaning first (read ++ part) said journal old.machine k.so_far (omega (arith, k.octets)) (omega (arith, k.lines))
      (subst (λ (line : List ℕ). meaning.refuses old.machine (without_return line) said) k.line no_line) in
      subst (λ (r : List ℕ). IsRefusedAt meaning first r number said journal old.machine) (append_assoc read part (10 ∷ []))
      (subst (λ (n : ℕ). IsRefusedAt meaning first ((read ++ part) ++ 10 ∷ []) n said journal old.machine) (ap (λ (n : ℕ). n + 1) (sym k.lines) ∙ sym is) here))

  -- a line fills the journal
  pub stops_filled : Laws meaning → (part : List ℕ) (old : Held M) (before : List ℕ) (last : M) (after : List ℕ) → HasNoFeed part
      → old.lines < most_lines → length old.line + length part ≤ most_in_line → old.octets + length part < most_octets
      → HasFilled meaning old.machine (without_return (old.line ++ part)) before last after
      → Stops meaning (IsTooMuch meaning) (part ++ 10 ∷ []) old before last after
  stops_filled laws part old before last after none lines within octets h = record {
    events = h.events;
    told = meaning.text last h.events;
    appended = h.told;
    stopped = λ first read journal f.
        let k = fed_part first read part journal old f none lines within (omega arith) in (
          subst (λ (r : List ℕ). IsTooMuch meaning first r (journal ++ h.events) last) (append_assoc read part (10 ∷ []))
              (filled_here meaning first (read ++ part) journal old.machine h.events last k.so_far (omega (arith, k.octets)) (omega (arith, k.lines))
              (subst (λ (line : List ℕ). meaning.fills old.machine (without_return line) h.events last) k.line h.fills)),
          laws.told_full old.machine (without_return (old.line ++ part)) h.events last journal h.fills f.tells,
        );
  }

  -- a line is too long
  pub stops_long : (number : ℕ) (said : R) (part : List ℕ) (old : Held M) (out : List ℕ) → number ≡ old.lines + 1 → HasNoFeed part
      → old.lines < most_lines → most_in_line < length old.line + length part → said ≡ meaning.too_long old.machine → old.octets + length part ≤ most_octets
      → StopsAtLine meaning number said part old out old.machine out
  stops_long number said part old out is none lines past said_is octets =
      stops_here (λ first read journal last. IsRefusedAt meaning first read number said journal last) part old out (λ first read journal f.
      subst (λ (r : R). IsRefusedAt meaning first (read ++ part) number r journal old.machine) (sym said_is)
      (subst (λ (n : ℕ). IsRefusedAt meaning first (read ++ part) n (meaning.too_long old.machine) journal old.machine) (ap (λ (n : ℕ). n + 1) (sym f.lines) ∙ sym is)
      (refused_long_here meaning first read part journal old.machine f.so_far none (omega (arith, f.octets)) (omega (arith, f.lines)) (omega (arith, ap length f.line)))))

  -- an octet comes after the last line that an input may have, or is one too many
  pub stops_full : (octet : ℕ) (more : List ℕ) (old : Held M) (out : List ℕ) → (old.octets ≡ most_octets) ⊎ (old.lines ≡ most_lines)
      → Stops meaning (IsTooMuch meaning) (octet ∷ more) old out old.machine out
  stops_full octet more old out full =
      stops_here (IsTooMuch meaning) (octet ∷ more) old out (λ first read journal f.
      too_much_here meaning first read octet more journal old.machine f.so_far
      (elim full [ inl octets ↦ inl (sym f.octets ∙ octets) | inr lines ↦ inr (sym f.lines ∙ lines) ]))

  -- the input ends after a line feed
  pub ends_empty : (old : Held M) (out : List ℕ) → old.line ≡ [] → Stops meaning (IsWhole meaning) [] old out old.machine out
  ends_empty old out none =
      stops_here (IsWhole meaning) [] old out (λ first read journal f.
      subst (λ (r : List ℕ). IsWhole meaning first r journal old.machine) (sym (append-nil read)) (record {
        fits = f.so_far.fits;
        runs = subst (λ (tail : List (List ℕ)). Runs meaning first (map without_return (whole_lines read) ++ tail) journal old.machine)
            (ap last_line (sym none ∙ f.line)) (subst (λ (ls : List (List ℕ)). Runs meaning first ls journal old.machine) (sym (append-nil (map without_return (whole_lines read)))) f.so_far.runs);
      }))

  a_last_line : (line : List ℕ) → line ≢ [] → last_line line ≡ line ∷ []
  a_last_line [] begun = absurd (begun refl)
  a_last_line (octet ∷ line) begun = refl

  -- the input ends in a line, which runs
  pub ends_line : Laws meaning → (old : Held M) (before after : List ℕ) (events : List E) (new : M) → old.line ≢ [] → meaning.step old.machine old.line events new
      → after ≡ before ++ meaning.text new events → Stops meaning (IsWhole meaning) [] old before new after
  ends_line laws old before after events new begun s told = record {
    events = events;
    told = meaning.text new events;
    appended = told;
    stopped = λ first read journal f.
        let here : meaning.step old.machine (open_line read) events new = subst (λ (line : List ℕ). meaning.step old.machine line events new) f.line s in (
          subst (λ (r : List ℕ). IsWhole meaning first r (journal ++ events) new) (sym (append-nil read)) (record {
            fits = f.so_far.fits;
            runs = subst (λ (tail : List (List ℕ)). Runs meaning first (map without_return (whole_lines read) ++ tail) (journal ++ events) new)
                (sym (a_last_line (open_line read) (λ e. begun (f.line ∙ e))))
                (runs_on meaning first (map without_return (whole_lines read)) (open_line read ∷ []) journal events old.machine new f.so_far.runs (runs_one meaning old.machine (open_line read) events new here));
          }),
          (laws.told old.machine old.line events new journal s f.tells).1,
        );
  }

  -- the input ends in a line that is refused
  pub ends_refused : (number : ℕ) (said : R) (old : Held M) (out : List ℕ) → number ≡ old.lines + 1 → old.line ≢ [] → meaning.refuses old.machine old.line said
      → EndsAtLine meaning number said old out old.machine out
  ends_refused number said old out is begun no_line =
      stops_here (λ first read journal last. IsRefusedAtEnd meaning first read number said journal last) [] old out (λ first read journal f.
      subst (λ (r : List ℕ). IsRefusedAtEnd meaning first r number said journal old.machine) (sym (append-nil read)) (record {
        so_far = f.so_far;
        begun = λ e. begun (f.line ∙ e);
        refused = subst (λ (line : List ℕ). meaning.refuses old.machine line said) f.line no_line;
        number = is ∙ ap (λ (n : ℕ). n + 1) f.lines;
      }))

  -- the input ends in a line that fills the journal
  pub ends_filled : Laws meaning → (old : Held M) (before after : List ℕ) (last : M) → old.line ≢ [] → HasFilled meaning old.machine old.line before last after
      → EndsFull meaning old before last after
  ends_filled laws old before after last begun h = record {
    events = h.events;
    told = meaning.text last h.events;
    appended = h.told;
    stopped = λ first read journal f. (
      subst (λ (r : List ℕ). IsTooMuchAtEnd meaning first r (journal ++ h.events) last) (sym (append-nil read)) (record {
        before = journal;
        state = old.machine;
        events = h.events;
        so_far = f.so_far;
        begun = λ e. begun (f.line ∙ e);
        fills = subst (λ (line : List ℕ). meaning.fills old.machine line h.events last) f.line h.fills;
        journal_is = refl;
      }),
      laws.told_full old.machine old.line h.events last journal h.fills f.tells,
    );
  }
