-- What octets come to in the loop over octets is what their lines come to: by the status, what was written is what was asked for.
use Rattle.std.proofs.Common.{◌≡◌, ℕ, List, [], inl, inr, refl, sym, subst, Option, ◌≤◌, ◌+◌, length}
use Rattle.std.proofs.lemmas.List.{append-nil}
use Rattle.octet_loop.specs.Outcome as loop
use Rattle.osi_base.specs.Ends.{Took, Put, IsAtEnd}
use Rattle.osi_base.specs.declared.status.Status.{Status}
use Rattle.osi_base.specs.declared.status.Status.TheVariants.{Done, RefusedLine, RefusedWords, ReadFault, WriteFault, NoMemory, RefusedCapture, TooMuch}
use Rattle.line_loop.specs.Course.{IsTooMuch, IsRefusedAt}
use Rattle.line_loop.specs.Limits.{most_octets, most_read}
use Rattle.line_loop.specs.Meaning.{Meaning, Laws}
use Rattle.line_loop.specs.Outcome.{Asks, IsCut, Outcome}
use Rattle.line_loop.specs.Writing.{IsPrefix}
use Rattle.line_loop.specs.steps.Feeding.{Held, IsCounted}
use Rattle.line_loop.specs.steps.Taking.{line_course, feeding}
use Rattle.line_loop.proofs.Reading.{read_none, refused_more, too_much_more, too_much_here}

itself : (xs : List ℕ) → IsPrefix xs xs
itself xs = ([], append-nil xs)

module _ {M E R : Type 0} (meaning : Meaning M E R) where
  -- a weaker fact about the end
  asks_on : (P Q : Type 0) → (P → Q) → (first : M) (read text : List ℕ) (status : Status) → Asks meaning P first read text status → Asks meaning Q first read text status
  asks_on P Q f first read text Done h = record { journal = h.journal; last = h.last; ends = f h.ends; whole = h.whole; text_is = h.text_is }
  asks_on P Q f first read text RefusedLine h = record {
    line = h.line;
    said = h.said;
    journal = h.journal;
    last = h.last;
    refused = elim h.refused [ inl here ↦ inl here | inr last ↦ inr (f last.0, last.1) ];
    text_is = h.text_is;
  }
  asks_on P Q f first read text TooMuch h = record {
    journal = h.journal;
    last = h.last;
    passed = elim h.passed [ inl here ↦ inl here | inr last ↦ inr (f last.0, last.1) ];
    text_is = h.text_is;
  }
  asks_on P Q f first read text ReadFault h = h
  asks_on P Q f first read text WriteFault h = absurd h
  asks_on P Q f first read text NoMemory h = absurd h
  asks_on P Q f first read text RefusedWords h = absurd h
  asks_on P Q f first read text RefusedCapture h = absurd h

  whole_cut : (P : Type 0) (first : M) (read written : List ℕ) (status : Status) → Asks meaning P first read written status → IsCut meaning P first read written
  whole_cut P first read written status asked = record {
    front = read;
    text = written;
    status = status;
    begins = itself read;
    asked = asks_on P ((read ≡ read) × P) (λ p. (refl, p)) first read written status asked;
    cut = itself written;
  }

  -- memory may run out in the place of any outcome
  pub cut_of : (P : Type 0) (first : M) (read written : List ℕ) (status : Status) → Outcome meaning P first read written status → IsCut meaning P first read written
  cut_of P first read written Done h = whole_cut P first read written Done h
  cut_of P first read written RefusedLine h = whole_cut P first read written RefusedLine h
  cut_of P first read written TooMuch h = whole_cut P first read written TooMuch h
  cut_of P first read written ReadFault h = whole_cut P first read written ReadFault h
  cut_of P first read written WriteFault h = h
  cut_of P first read written NoMemory h = h
  cut_of P first read written RefusedWords h = absurd h
  cut_of P first read written RefusedCapture h = absurd h

  -- ---- from the loop over octets

  asks_lines : (P : Type 0) (first : M) (read text : List ℕ) (status : Status) → loop.Asks (line_course meaning first) P read text status → Asks meaning P first read text status
  asks_lines P first read text Done h = let k = h.1.ends in record { journal = k.0; last = k.1; ends = h.0; whole = k.2; text_is = k.3 }
  asks_lines P first read text RefusedLine (inl s) =
      let k = s.stops in
      record {
        line = k.0;
        said = k.1;
        journal = k.2;
        last = k.3;
        refused = inl (subst (λ (r : List ℕ). IsRefusedAt meaning first r k.0 k.1 k.2 k.3) (sym s.place) (refused_more meaning first s.front s.more k.0 k.1 k.2 k.3 k.4));
        text_is = k.5;
      }
  asks_lines P first read text RefusedLine (inr e) =
      let k = e.1.ends in record { line = k.0; said = k.1; journal = k.2; last = k.3; refused = inr (e.0, k.4); text_is = k.5 }
  asks_lines P first read text TooMuch (inl (inl s)) =
      let k = s.stops in
      record {
        journal = k.0;
        last = k.1;
        passed = inl (subst (λ (r : List ℕ). IsTooMuch meaning first r k.0 k.1) (sym s.place) (too_much_more meaning first s.front s.more k.0 k.1 k.2));
        text_is = k.3;
      }
  asks_lines P first read text TooMuch (inl (inr e)) = let k = e.1.ends in record { journal = k.0; last = k.1; passed = inr (e.0, k.2); text_is = k.3 }
  asks_lines P first read text TooMuch (inr o) =
      let k = o.over in
      record {
        journal = k.0;
        last = k.1;
        passed = inl (subst (λ (r : List ℕ). IsTooMuch meaning first r k.0 k.1) (sym o.place) (too_much_here meaning first o.front o.octet o.more k.0 k.1 k.2 (inl o.full)));
        text_is = k.3;
      }
  asks_lines P first read text ReadFault h = let k = h.1 in record { journal = k.0; last = k.1; so_far = k.2; text_is = k.3 }
  asks_lines P first read text WriteFault h = absurd h
  asks_lines P first read text NoMemory h = absurd h
  asks_lines P first read text RefusedWords h = absurd h
  asks_lines P first read text RefusedCapture (inl s) = absurd s.stops
  asks_lines P first read text RefusedCapture (inr e) = absurd e.1.ends

  cut_lines : (P : Type 0) (first : M) (read written : List ℕ) → loop.IsCut (line_course meaning first) P read written → IsCut meaning P first read written
  cut_lines P first read written h = record {
    front = h.front;
    text = h.text;
    status = h.status;
    begins = h.begins;
    asked = asks_lines ((h.front ≡ read) × P) first h.front h.text h.status h.asked;
    cut = h.cut;
  }

  outcome_lines : (P : Type 0) (first : M) (read written : List ℕ) (status : Status) → loop.Outcome (line_course meaning first) P read written status → Outcome meaning P first read written status
  outcome_lines P first read written Done h = asks_lines P first read written Done h
  outcome_lines P first read written RefusedLine h = asks_lines P first read written RefusedLine h
  outcome_lines P first read written TooMuch h = asks_lines P first read written TooMuch h
  outcome_lines P first read written ReadFault h = asks_lines P first read written ReadFault h
  outcome_lines P first read written WriteFault h = cut_lines P first read written h
  outcome_lines P first read written NoMemory h = cut_lines P first read written h
  outcome_lines P first read written RefusedWords h = absurd h
  outcome_lines P first read written RefusedCapture h = absurd (asks_lines P first read written RefusedCapture h)

  abbrev Starts : M → Held M → Type 0
  Starts first feed = feed ≡ record { machine = first; line = []; lines = 0; octets = 0 }

  pub first_counted : (first : M) (feed : Held M) → Starts first feed → meaning.lines first ≡ 0 → IsCounted meaning feed
  first_counted first feed is none = subst (IsCounted meaning) (sym is) none

  pub first_led : Laws meaning → (first : M) (feed : Held M) → Starts first feed → (feeding meaning).led feed [] [] feed
  first_led laws first feed is =
      subst (λ (h : Held M). (feeding meaning).led h [] [] h) (sym is)
      ([], record { so_far = read_none meaning first; tells = (laws.none_told first).0; line = refl; lines = refl; octets = refl }, sym (laws.none_told first).1)

  module _ {S K : Type 0} (left : S → Option (List ℕ)) (held : K → Option (List ℕ)) (source : S) (sink : K) where
    -- what comes of a run
    abbrev pub Ran : M → S → K → Status → Type 0
    Ran first now_source now_sink status = (read written : List ℕ) × Took (left source) read (left now_source) × Put (held sink) written (held now_sink) × Outcome meaning (IsAtEnd (left now_source)) first read written status
        × (length read ≤ most_octets + most_read)

    pub ran_lines : (first : M) (feed : Held M) (now_source : S) (now_sink : K) (status : Status) → Starts first feed
        → ((read written : List ℕ) × Took (left source) read (left now_source) × Put (held sink) written (held now_sink) × loop.Outcome (line_course meaning feed.machine) (IsAtEnd (left now_source)) read written status
        × (length read ≤ most_octets + most_read))
        → Ran first now_source now_sink status
    ran_lines first feed now_source now_sink status is r = (
      r.0,
      r.1,
      r.2,
      r.3,
      outcome_lines (IsAtEnd (left now_source)) first r.0 r.1 status
          (subst (λ (h : Held M). loop.Outcome (line_course meaning h.machine) (IsAtEnd (left now_source)) r.0 r.1 status) is r.4),
      r.5,
    )
