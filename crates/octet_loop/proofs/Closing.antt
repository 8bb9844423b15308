-- What octets ask for holds under weaker facts of their end, and a front of its text is what is left of a write that failed.
use Rattle.std.proofs.Common.{◌≡◌, ◌≢◌, ◌⊎◌, ◌≤◌, ℕ, List, [], ◌++◌, length, inl, inr, refl, sym, ◌∙◌, ap, subst, append_assoc}
use Rattle.std.proofs.lemmas.List.{append-nil}
use Rattle.osi_base.specs.declared.status.Status.{Status}
use Rattle.osi_base.specs.declared.status.Status.TheVariants.{Done, RefusedLine, RefusedWords, ReadFault, WriteFault, NoMemory, RefusedCapture, TooMuch}
use Rattle.octet_loop.specs.Course.{Course}
use Rattle.octet_loop.specs.Limits.{most_octets}
use Rattle.octet_loop.specs.Outcome.{IsStopped, IsEnded, IsClosed, Asks, IsCut, Outcome}
use Rattle.octet_loop.specs.steps.Taking.{IsStop, IsEnd}
use Rattle.octet_loop.specs.Writing.{IsPrefix}

pub prefix_on : (xs ys zs : List ℕ) → IsPrefix ys zs → IsPrefix (xs ++ ys) (xs ++ zs)
prefix_on xs ys zs h = (h.0, append_assoc xs ys h.0 ∙ ap (λ (t : List ℕ). xs ++ t) h.1)

pub itself : (xs : List ℕ) → IsPrefix xs xs
itself xs = ([], append-nil xs)

pub never_read : (status : Status) → (status ≡ WriteFault) ⊎ (status ≡ NoMemory) → status ≢ ReadFault
never_read status cause is = elim cause [ inl fault ↦ absurd (cc) | inr memory ↦ absurd (cc) ]

pub never_done : (status : Status) → (status ≡ WriteFault) ⊎ (status ≡ NoMemory) → status ≢ Done
never_done status cause is = elim cause [ inl fault ↦ absurd (cc) | inr memory ↦ absurd (cc) ]

pub end_not_read : (status : Status) → IsEnd status → status ≢ ReadFault
end_not_read Done h is = absurd (cc)
end_not_read RefusedLine h is = absurd (cc)
end_not_read RefusedCapture h is = absurd (cc)
end_not_read TooMuch h is = absurd (cc)
end_not_read ReadFault h is = absurd h
end_not_read WriteFault h is = absurd h
end_not_read NoMemory h is = absurd h
end_not_read RefusedWords h is = absurd h

pub stop_ends : (status : Status) → IsStop status → IsEnd status
stop_ends Done h = absurd h
stop_ends RefusedLine h = tt
stop_ends RefusedCapture h = tt
stop_ends TooMuch h = tt
stop_ends ReadFault h = absurd h
stop_ends WriteFault h = absurd h
stop_ends NoMemory h = absurd h
stop_ends RefusedWords h = absurd h

pub stop_not_done : (status : Status) → IsStop status → status ≢ Done
stop_not_done Done h is = absurd h
stop_not_done RefusedLine h is = absurd (cc)
stop_not_done RefusedCapture h is = absurd (cc)
stop_not_done TooMuch h is = absurd (cc)
stop_not_done ReadFault h is = absurd h
stop_not_done WriteFault h is = absurd h
stop_not_done NoMemory h is = absurd h
stop_not_done RefusedWords h is = absurd h

pub end_not_write : (status : Status) → IsEnd status → status ≢ WriteFault
end_not_write Done h is = absurd (cc)
end_not_write RefusedLine h is = absurd (cc)
end_not_write RefusedCapture h is = absurd (cc)
end_not_write TooMuch h is = absurd (cc)
end_not_write ReadFault h is = absurd h
end_not_write WriteFault h is = absurd h
end_not_write NoMemory h is = absurd h
end_not_write RefusedWords h is = absurd h

module _ (course : Course) where
  closed_on : (P Q : Type 0) → (P → Q) → (read text : List ℕ) (status : Status) → IsClosed course P read text status → IsClosed course Q read text status
  closed_on P Q f read text status (inl stopped) = inl stopped
  closed_on P Q f read text status (inr ended) = inr (f ended.0, ended.1)

  -- a weaker fact about the end
  pub asks_on : (P Q : Type 0) → (P → Q) → (read text : List ℕ) (status : Status) → Asks course P read text status → Asks course Q read text status
  asks_on P Q f read text Done h = (f h.0, h.1)
  asks_on P Q f read text RefusedLine h = closed_on P Q f read text RefusedLine h
  asks_on P Q f read text RefusedCapture h = closed_on P Q f read text RefusedCapture h
  asks_on P Q f read text TooMuch h = elim h [ inl closed ↦ inl (closed_on P Q f read text TooMuch closed) | inr over ↦ inr over ]
  asks_on P Q f read text ReadFault h = h
  asks_on P Q f read text WriteFault h = absurd h
  asks_on P Q f read text NoMemory h = absurd h
  asks_on P Q f read text RefusedWords h = absurd h

  cut_on : (P Q : Type 0) → (P → Q) → (read written : List ℕ) → IsCut course P read written → IsCut course Q read written
  cut_on P Q f read written h = record {
    front = h.front;
    text = h.text;
    status = h.status;
    begins = h.begins;
    cut = h.cut;
    asked = asks_on ((h.front ≡ read) × P) ((h.front ≡ read) × Q) (λ p. (p.0, f p.1)) h.front h.text h.status h.asked;
  }

  pub outcome_on : (P Q : Type 0) → (P → Q) → (read written : List ℕ) (status : Status) → Outcome course P read written status → Outcome course Q read written status
  outcome_on P Q f read written Done h = asks_on P Q f read written Done h
  outcome_on P Q f read written RefusedLine h = asks_on P Q f read written RefusedLine h
  outcome_on P Q f read written RefusedCapture h = asks_on P Q f read written RefusedCapture h
  outcome_on P Q f read written TooMuch h = asks_on P Q f read written TooMuch h
  outcome_on P Q f read written ReadFault h = h
  outcome_on P Q f read written WriteFault h = cut_on P Q f read written h
  outcome_on P Q f read written NoMemory h = cut_on P Q f read written h
  outcome_on P Q f read written RefusedWords h = absurd h

  whole_cut : (P : Type 0) (read written : List ℕ) (status : Status) → Asks course P read written status → IsCut course P read written
  whole_cut P read written status asked = record {
    front = read;
    text = written;
    status = status;
    begins = itself read;
    asked = asks_on P ((read ≡ read) × P) (λ p. (refl, p)) read written status asked;
    cut = itself written;
  }

  -- memory may run out in the place of any outcome
  pub cut_of : (P : Type 0) (read written : List ℕ) (status : Status) → Outcome course P read written status → IsCut course P read written
  cut_of P read written Done h = whole_cut P read written Done h
  cut_of P read written RefusedLine h = whole_cut P read written RefusedLine h
  cut_of P read written RefusedCapture h = whole_cut P read written RefusedCapture h
  cut_of P read written TooMuch h = whole_cut P read written TooMuch h
  cut_of P read written ReadFault h = whole_cut P read written ReadFault h
  cut_of P read written WriteFault h = h
  cut_of P read written NoMemory h = h
  cut_of P read written RefusedWords h = absurd h

  pub cut_outcome : (P : Type 0) (read written : List ℕ) (status : Status) → (status ≡ WriteFault) ⊎ (status ≡ NoMemory) → IsCut course P read written → Outcome course P read written status
  cut_outcome P read written status cause cut = elim cause [
    | inl fault ↦ subst (λ (s : Status). Outcome course P read written s) (sym fault) cut
    | inr memory ↦ subst (λ (s : Status). Outcome course P read written s) (sym memory) cut
  ]

  -- a front of the text of what was read
  pub cut_read : (P : Type 0) (read octets text written : List ℕ) → length read ≤ most_octets → course.reads read text → IsPrefix written text → IsCut course P (read ++ octets) written
  cut_read P read octets text written within r cut = record {
    front = read;
    text = text;
    status = ReadFault;
    begins = (octets, refl);
    asked = (within, r);
    cut = cut;
  }

  pub all_read : (P : Type 0) (read written : List ℕ) → IsCut course P (read ++ []) written → IsCut course P read written
  all_read P read written h = subst (λ (r : List ℕ). IsCut course P r written) (append-nil read) h

  asks_outcome : (P : Type 0) (read text : List ℕ) (status : Status) → IsEnd status → Asks course P read text status → Outcome course P read text status
  asks_outcome P read text Done h a = a
  asks_outcome P read text RefusedLine h a = a
  asks_outcome P read text RefusedCapture h a = a
  asks_outcome P read text TooMuch h a = a
  asks_outcome P read text ReadFault h a = absurd h
  asks_outcome P read text WriteFault h a = absurd h
  asks_outcome P read text NoMemory h a = absurd h
  asks_outcome P read text RefusedWords h a = absurd h

  -- the run ends, and all of its text was written
  pub closes_all : (P : Type 0) (read text : List ℕ) (end status : Status) → IsEnd end → status ≡ end → Asks course P read text end → (status ≢ ReadFault) × Outcome course P read text status
  closes_all P read text end status h same a =
      subst (λ (s : Status). (s ≢ ReadFault) × Outcome course P read text s) (sym same) (end_not_read end h, asks_outcome P read text end h a)

  -- the run ends, and a front of its text was written
  pub closes_cut : (P : Type 0) (read text told front : List ℕ) (end status : Status) → (status ≡ WriteFault) ⊎ (status ≡ NoMemory) → IsPrefix front told → Asks course P read (text ++ told) end
      → (status ≢ ReadFault) × Outcome course P read (text ++ front) status
  closes_cut P read text told front end status cause begins a = (
    never_read status cause,
    cut_outcome P read (text ++ front) status cause (record {
      front = read;
      text = text ++ told;
      status = end;
      begins = itself read;
      asked = asks_on P ((read ≡ read) × P) (λ p. (refl, p)) read (text ++ told) end a;
      cut = prefix_on text front told begins;
    }),
  )

  -- an octet stops the run
  pub stop_asks : (P : Type 0) (read text : List ℕ) (status : Status) → IsStop status → IsStopped course read text status → Asks course P read text status
  stop_asks P read text Done h s = absurd h
  stop_asks P read text RefusedLine h s = inl s
  stop_asks P read text RefusedCapture h s = inl s
  stop_asks P read text TooMuch h s = inl (inl s)
  stop_asks P read text ReadFault h s = absurd h
  stop_asks P read text WriteFault h s = absurd h
  stop_asks P read text NoMemory h s = absurd h
  stop_asks P read text RefusedWords h s = absurd h

  -- the input ends
  pub end_asks : (P : Type 0) → P → (read text : List ℕ) (status : Status) → IsEnd status → IsEnded course read text status → Asks course P read text status
  end_asks P p read text Done h e = (p, e)
  end_asks P p read text RefusedLine h e = inr (p, e)
  end_asks P p read text RefusedCapture h e = inr (p, e)
  end_asks P p read text TooMuch h e = inl (inr (p, e))
  end_asks P p read text ReadFault h e = absurd h
  end_asks P p read text WriteFault h e = absurd h
  end_asks P p read text NoMemory h e = absurd h
  end_asks P p read text RefusedWords h e = absurd h
