-- What all octets of a source ask for comes, or a failure in its place, where octets ask for one thing.
use Rattle.std.proofs.Common.{◌≡◌, ◌⊎◌, ◌≤◌, ◌+◌, ℕ, List, [], ◌∷◌, ◌++◌, length, inl, inr, refl, sym, ◌∙◌, ap, subst, append_assoc, Option, Some}
use Rattle.std.proofs.lemmas.List.{append-nil}
use Rattle.osi_base.specs.declared.status.Status.{Status}
use Rattle.osi_base.specs.declared.status.Status.TheVariants.{Done, RefusedLine, RefusedWords, ReadFault, WriteFault, NoMemory, RefusedCapture, TooMuch}
use Rattle.osi_base.specs.Ends.{HasRisen, Took, Put, IsAtEnd}
use Rattle.octet_loop.specs.Course.{Course}
use Rattle.octet_loop.specs.Limits.{most_octets, most_read}
use Rattle.octet_loop.specs.Outcome.{IsStopped, IsEnded, IsOver, IsClosed, AsksFor, AsksOne, IsFailure, Outcome}

module _ (course : Course) where
  stopped_all : (read rest text : List ℕ) (status : Status) → IsStopped course read text status → IsStopped course (read ++ rest) text status
  stopped_all read rest text status s = record {
    front = s.front;
    more = s.more ++ rest;
    place = ap (λ (xs : List ℕ). xs ++ rest) s.place ∙ append_assoc s.front s.more rest;
    within = s.within;
    stops = s.stops;
  }

  over_all : (read rest text : List ℕ) → IsOver course read text → IsOver course (read ++ rest) text
  over_all read rest text s = record {
    front = s.front;
    octet = s.octet;
    more = s.more ++ rest;
    place = ap (λ (xs : List ℕ). xs ++ rest) s.place ∙ append_assoc s.front (s.octet ∷ s.more) rest;
    full = s.full;
    over = s.over;
  }

  ended_all : (read rest text : List ℕ) (status : Status) → rest ≡ [] → IsEnded course read text status → IsEnded course (read ++ rest) text status
  ended_all read rest text status none e = subst (λ (xs : List ℕ). IsEnded course xs text status) (sym (ap (λ (xs : List ℕ). read ++ xs) none ∙ append-nil read)) e

  closed_all : (read rest text : List ℕ) (status : Status) → IsClosed course (rest ≡ []) read text status → IsClosed course (Unit {0}) (read ++ rest) text status
  closed_all read rest text status (inl stopped) = inl (stopped_all read rest text status stopped)
  closed_all read rest text status (inr ended) = inr (tt, ended_all read rest text status ended.0 ended.1)

  -- what a front of an input gave, the input asks for
  pub outcome_all : (read rest written : List ℕ) (status : Status) → Outcome course (rest ≡ []) read written status → AsksFor course (read ++ rest) written status ⊎ IsFailure status
  outcome_all read rest written Done h = inl ((λ is. absurd (cc)), (tt, ended_all read rest written Done h.0 h.1))
  outcome_all read rest written RefusedLine h = inl ((λ is. absurd (cc)), closed_all read rest written RefusedLine h)
  outcome_all read rest written RefusedCapture h = inl ((λ is. absurd (cc)), closed_all read rest written RefusedCapture h)
  outcome_all read rest written TooMuch h =
      inl ((λ is. absurd (cc)), elim h [ inl closed ↦ inl (closed_all read rest written TooMuch closed) | inr over ↦ inr (over_all read rest written over) ])
  outcome_all read rest written ReadFault h = inr (inl refl)
  outcome_all read rest written WriteFault h = inr (inr (inl refl))
  outcome_all read rest written NoMemory h = inr (inr (inr refl))
  outcome_all read rest written RefusedWords h = absurd h

  -- what a run over a source that tells came to
  pub ran_asks : {S K : Type 0} (left : S → Option (List ℕ)) (held : K → Option (List ℕ)) (source : S) (sink : K) (now_source : S) (now_sink : K) (status : Status)
      → ((read written : List ℕ) × Took (left source) read (left now_source) × Put (held sink) written (held now_sink) × Outcome course (IsAtEnd (left now_source)) read written status × (length read ≤ most_octets + most_read))
      → (all : List ℕ) → left source ≡ Some all → ((text : List ℕ) × AsksFor course all text status × Put (held sink) text (held now_sink)) ⊎ IsFailure status
  ran_asks {S} {K} left held source sink now_source now_sink status r all tells =
      let took : Took (Some all) r.0 (left now_source) = subst (λ (o : Option (List ℕ)). Took o r.0 (left now_source)) tells r.2 in
      let outcome : Outcome course (took.0 ≡ []) r.0 r.1 status = subst (λ (o : Option (List ℕ)). Outcome course (IsAtEnd o) r.0 r.1 status) took.1 r.4 in
      elim (outcome_all r.0 took.0 r.1 status outcome) [
        | inl here ↦ inl (r.1, subst (λ (xs : List ℕ). AsksFor course xs r.1 status) (sym took.2) here, r.3)
        | inr fails ↦ inr fails
      ]

  pub ran_exact : AsksOne course → {S K : Type 0} (left : S → Option (List ℕ)) (held : K → Option (List ℕ)) (source : S) (sink : K) (now_source : S) (now_sink : K) (status : Status)
      → ((read written : List ℕ) × Took (left source) read (left now_source) × Put (held sink) written (held now_sink) × Outcome course (IsAtEnd (left now_source)) read written status × (length read ≤ most_octets + most_read))
      → (all text : List ℕ) (asked : Status) → left source ≡ Some all → AsksFor course all text asked → ((status ≡ asked) × Put (held sink) text (held now_sink)) ⊎ IsFailure status
  ran_exact one {S} {K} left held source sink now_source now_sink status r all text asked tells asks =
      elim (ran_asks left held source sink now_source now_sink status r all tells) [
        | inl here ↦
            let same = one all here.0 text status asked here.1 asks in
            inl (same.0, subst (λ (t : List ℕ). Put (held sink) t (held now_sink)) same.1 here.2)
        | inr fails ↦ inr fails
      ]

-- where neither a read nor a write fails, only memory does
pub complete : {T : Type 0} (status : Status) (reads reads_now writes writes_now : ℕ) → T ⊎ IsFailure status → (status ≡ ReadFault → HasRisen reads reads_now) → (status ≡ WriteFault → HasRisen writes writes_now)
    → ¬ HasRisen reads reads_now → ¬ HasRisen writes writes_now → T ⊎ (status ≡ NoMemory)
complete status reads reads_now writes writes_now (inl done) read write no_read no_write = inl done
complete status reads reads_now writes writes_now (inr (inl fault)) read write no_read no_write = absurd (no_read (read fault))
complete status reads reads_now writes writes_now (inr (inr (inl fault))) read write no_read no_write = absurd (no_write (write fault))
complete status reads reads_now writes writes_now (inr (inr (inr memory))) read write no_read no_write = inr memory
