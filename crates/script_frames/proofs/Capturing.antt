-- What is written of the frames of a script is its capture: the header, and then what the loop over its lines told.
use Rattle.std.proofs.Common.{◌≡◌, ◌≢◌, ◌⊎◌, ℕ, List, [], ◌++◌, Option, Some, inl, inr, refl, sym, ◌∙◌, ap, subst, append_assoc, arith}
use Rattle.std.proofs.lemmas.List.{append-nil}
use Rattle.osi_base.specs.declared.status.Status.{Status}
use Rattle.osi_base.specs.declared.status.Status.TheVariants.{Done, RefusedLine, RefusedWords, ReadFault, WriteFault, NoMemory, RefusedCapture, TooMuch}
use Rattle.osi_base.specs.Ends.{Took, Put, IsAtEnd}
use Rattle.octet_loop.proofs.Written.{put_on, took_none}
use Rattle.line_loop.specs.Outcome.{IsAccepted, Asks, IsCut, Outcome}
use Rattle.octet_loop.specs.ByStatus.{IsFailure}
use Rattle.line_loop.specs.Writing.{IsPrefix, IsBroken, IsWritten}
use Rattle.line_loop.proofs.Driving.{Ran}
use Rattle.line_loop.proofs.Exclusion.{asks_once, ran_accepted, ran_exact}
use Rattle.line_loop.proofs.Reading.{read_none}
use Rattle.capture_write.specs.Written.{SentFrame, header_octets}
use Rattle.law_run.specs.Bench.{Bench, first_bench}
use Rattle.script_frames.specs.Frames.{AsksCapture, AsksForCapture, CaptureOutcome, IsCutCapture, IsFramesRun, frames_meaning}
use Rattle.script_frames.specs.Laws.{AsksOneCapture}
use Rattle.script_frames.specs.steps.FrameLaws.{frames_laws}
use Rattle.law_run.specs.Transcript.{ShowsSilence, ShowsWhatWasSubmitted}
use Rattle.law_run.proofs.ScriptRuns.{shows_sent}

-- ---- what octets ask for

capture_asked : (end : Type 0) (read text : List ℕ) (status : Status) → Asks frames_meaning end first_bench read text status → AsksCapture end read (header_octets ++ text) status
capture_asked end read text status asks = record { records = text; asks = asks; capture_is = refl }

-- octets do not ask for two captures
pub one_capture : AsksOneCapture
one_capture all capture other status next h k =
    let one = asks_once frames_meaning frames_laws first_bench all h.1.records k.1.records status next (h.0, h.1.asks) (k.0, k.1.asks) in
    (one.0, h.1.capture_is ∙ ap (λ (records : List ℕ). header_octets ++ records) one.1 ∙ sym k.1.capture_is)

-- ---- what was written

behind_header : (written text : List ℕ) → IsPrefix written text → IsPrefix (header_octets ++ written) (header_octets ++ text)
behind_header written text begins = (begins.0, append_assoc header_octets written begins.0 ∙ ap (λ (octets : List ℕ). header_octets ++ octets) begins.1)

capture_cut : (end : Type 0) (read written : List ℕ) → IsCut frames_meaning end first_bench read written → IsCutCapture end read (header_octets ++ written)
capture_cut end read written h = record {
  front = h.front;
  text = header_octets ++ h.text;
  status = h.status;
  begins = h.begins;
  asked = capture_asked ((h.front ≡ read) × end) h.front h.text h.status h.asked;
  cut = behind_header written h.text h.cut;
}

capture_outcome : (end : Type 0) (read written : List ℕ) (status : Status) → Outcome frames_meaning end first_bench read written status
    → CaptureOutcome end read (header_octets ++ written) status
capture_outcome end read written Done h = capture_asked end read written Done h
capture_outcome end read written RefusedLine h = capture_asked end read written RefusedLine h
capture_outcome end read written TooMuch h = capture_asked end read written TooMuch h
capture_outcome end read written ReadFault h = capture_asked end read written ReadFault h
capture_outcome end read written WriteFault h = capture_cut end read written h
capture_outcome end read written NoMemory h = capture_cut end read written h
capture_outcome end read written RefusedWords h = absurd h
capture_outcome end read written RefusedCapture h = absurd h

-- nothing was read, and a front of the header was written
header_cut : (end : Type 0) (front : List ℕ) → IsPrefix front header_octets → IsCutCapture end [] front
header_cut end front begins = record {
  front = [];
  text = header_octets;
  status = ReadFault;
  begins = ([], refl);
  asked = record { records = []; asks = record { journal = []; last = first_bench; so_far = read_none frames_meaning first_bench; text_is = refl }; capture_is = sym (append-nil header_octets) };
  cut = begins;
}

header_outcome : (end : Type 0) (front : List ℕ) (status : Status) → (status ≡ WriteFault) ⊎ (status ≡ NoMemory) → IsPrefix front header_octets → CaptureOutcome end [] front status
header_outcome end front status (inl is) begins = subst (λ (s : Status). CaptureOutcome end [] front s) (sym is) (header_cut end front begins)
header_outcome end front status (inr is) begins = subst (λ (s : Status). CaptureOutcome end [] front s) (sym is) (header_cut end front begins)

failed : (status : Status) → (status ≡ WriteFault) ⊎ (status ≡ NoMemory) → IsFailure status
failed status (inl is) = inr (inl is)
failed status (inr is) = inr (inr is)

pub header_put : {K : Type 0} (held : K → Option (List ℕ)) (old new : K) (text : List ℕ) (status : Status) → IsWritten held old text Done new status → status ≡ Done → Put (held old) text (held new)
header_put held old new text status (inl all) is = all.1
header_put held old new text status (inr h) is = elim h.cause [ inl fault ↦ absurd (cc) | inr memory ↦ absurd (cc) ]

pub header_broken : {K : Type 0} (held : K → Option (List ℕ)) (old new : K) (text : List ℕ) (status : Status) → IsWritten held old text Done new status → status ≢ Done → IsBroken held old text new status
header_broken held old new text status (inl all) is = absurd (is all.0)
header_broken held old new text status (inr h) is = h

pub broken_fails : {K : Type 0} (held : K → Option (List ℕ)) (old new : K) (text : List ℕ) (status : Status) → IsBroken held old text new status → IsFailure status
broken_fails held old new text status h = failed status h.cause

pub reads_nothing : {K : Type 0} (held : K → Option (List ℕ)) (old new : K) (text : List ℕ) (status : Status) → IsBroken held old text new status → status ≡ ReadFault → ⊥
reads_nothing held old new text status h is = elim h.cause [ inl fault ↦ absurd (cc) | inr memory ↦ absurd (cc) ]

-- what the call answers where it wrote the header, and where it did not
module _ {S K : Type 0} (left : S → Option (List ℕ)) (held : K → Option (List ℕ)) where
  abbrev pub IsRun : S → K → S → K → Status → Type 0
  IsRun source sink now_source now_sink status = (read : List ℕ) × (written : List ℕ) × Took (left source) read (left now_source) × Put (held sink) written (held now_sink)
      × IsFramesRun (IsAtEnd (left now_source)) read written status

  pub framed : (source : S) (sink mid : K) (first : Bench) (now_source : S) (now_sink : K) (status : Status) → ((octets : List ℕ) → ShowsWhatWasSubmitted octets) → ((octets : List ℕ) → ShowsSilence octets) → first ≡ first_bench
      → Put (held sink) header_octets (held mid) → Ran frames_meaning left held source mid first now_source now_sink status → IsRun source sink now_source now_sink status
  framed source sink mid first now_source now_sink status lawful silent fresh put h =
      let r = subst (λ (b : Bench). Ran frames_meaning left held source mid b now_source now_sink status) fresh h in (
        r.0,
        header_octets ++ r.1,
        r.2,
        put_on (held sink) header_octets (held mid) r.1 (held now_sink) put r.3,
        record { outcome = capture_outcome (IsAtEnd (left now_source)) r.0 r.1 status r.4; sent = shows_sent r.0; lawful = lawful r.0; silent = silent r.0; within = r.5 },
      )

  pub not_framed : (source : S) (sink now_sink : K) (status : Status) → ((octets : List ℕ) → ShowsWhatWasSubmitted octets) → ((octets : List ℕ) → ShowsSilence octets) → IsBroken held sink header_octets now_sink status → IsRun source sink source now_sink status
  not_framed source sink now_sink status lawful silent h = (
    [],
    h.front,
    took_none (left source),
    h.put,
    record { outcome = header_outcome (IsAtEnd (left source)) h.front status h.cause h.begins; sent = shows_sent []; lawful = lawful []; silent = silent []; within = omega arith },
  )

  pub framed_exact : (source : S) (sink mid : K) (first : Bench) (now_source : S) (now_sink : K) (status : Status) → first ≡ first_bench
      → Put (held sink) header_octets (held mid) → Ran frames_meaning left held source mid first now_source now_sink status
      → (all capture : List ℕ) (asked : Status) → left source ≡ Some all → AsksForCapture all capture asked → ((status ≡ asked) × Put (held sink) capture (held now_sink)) ⊎ IsFailure status
  framed_exact source sink mid first now_source now_sink status fresh put h all capture asked tells asks =
      let r = subst (λ (b : Bench). Ran frames_meaning left held source mid b now_source now_sink status) fresh h in
      let t : AsksCapture (Unit {0}) all capture asked = asks.1 in
      elim (ran_exact frames_meaning frames_laws left held source mid first_bench now_source now_sink status r all t.records asked tells (asks.0, t.asks)) [
        | inl here ↦ inl (here.0, subst (λ (c : List ℕ). Put (held sink) c (held now_sink)) (sym t.capture_is) (put_on (held sink) header_octets (held mid) t.records (held now_sink) put here.1))
        | inr fails ↦ inr fails
      ]

  pub framed_accepted : (source : S) (sink mid : K) (first : Bench) (now_source : S) (now_sink : K) (status : Status) → first ≡ first_bench
      → Put (held sink) header_octets (held mid) → Ran frames_meaning left held source mid first now_source now_sink status
      → (all : List ℕ) → left source ≡ Some all → IsAccepted frames_meaning first_bench all
      → ((status ≡ Done) × (capture : List ℕ) × AsksForCapture all capture Done × Put (held sink) capture (held now_sink)) ⊎ IsFailure status
  framed_accepted source sink mid first now_source now_sink status fresh put h all tells accepted =
      let r = subst (λ (b : Bench). Ran frames_meaning left held source mid b now_source now_sink status) fresh h in
      elim (ran_accepted frames_meaning frames_laws left held source mid first_bench now_source now_sink status r all tells accepted) [
        | inl here ↦ inl (here.0, header_octets ++ here.1, (here.2.0, capture_asked (Unit {0}) all here.1 Done here.2.1), put_on (held sink) header_octets (held mid) here.1 (held now_sink) put here.3)
        | inr fails ↦ inr fails
      ]
