-- What octets come to that are to be a capture, and what is written then.
use Rattle.std.specs.Prelude.{◌≡◌, ◌⊎◌, ◌≤◌, ℕ, List, [], ◌∷◌, ◌++◌, length}
use Rattle.octet_loop.specs.Course.{Course}
use Rattle.osi_base.specs.declared.status.Status.TheVariants.{Done, RefusedCapture}
use Rattle.capture_decode.specs.Capture.{Record, IsCapture}
use Rattle.capture_decode.specs.Faults.{IsFaultAfter, IsBegun, IsLasting, CaptureFault}
use Rattle.capture_decode.specs.Show.{Shows, done_line, refused_line, toomuch_line}
use Rattle.capture_decode.specs.declared.cause.Cause.{Cause}
use Rattle.capture_decode.specs.declared.cause.Cause.TheVariants.{Short}

-- the octets go on to a capture as far as they go: the lines of their whole records
pub record Reads (octets text : List ℕ) : Type 0 where
  pub records : List Record
  pub begun : IsBegun octets records
  pub shows : Shows records text

-- a fault of the octets: the lines of the records before it, and the refusal
pub record Refuses (octets text : List ℕ) (offset : ℕ) (cause : Cause) : Type 0 where
  pub records : List Record
  pub fault : IsFaultAfter octets records offset cause
  pub shown : List ℕ
  pub shows : Shows records shown
  pub text_is : text ≡ shown ++ refused_line offset cause

-- a capture: the lines of its records, and that it was read to its end
pub record Finishes (octets text : List ℕ) : Type 0 where
  pub records : List Record
  pub capture : IsCapture octets records
  pub shown : List ℕ
  pub shows : Shows records shown
  pub text_is : text ≡ shown ++ done_line

-- as many octets as an input may have, which go on to a capture as far as they go: the lines of their whole records, and that
-- the limit is passed
pub record Overruns (octets text : List ℕ) : Type 0 where
  pub shown : List ℕ
  pub reads : Reads octets shown
  pub text_is : text ≡ shown ++ toomuch_line

-- a fault that no further octets mend stops the run at the octet that shows it; a part of a header or of a record is a fault
-- only at the end of the input
abbrev pub capture_course : Course
capture_course = record {
  reads = Reads;
  stops = λ octets text status. (status ≡ RefusedCapture) × ((offset : ℕ) × (cause : Cause) × IsLasting cause × Refuses octets text offset cause);
  ends = λ octets text status. ((status ≡ Done) × Finishes octets text) ⊎ ((status ≡ RefusedCapture) × ((offset : ℕ) × Refuses octets text offset Short));
  over = Overruns;
}

-- no octet passes the limit of an input, and the octets have no fault
pub record IsAccepted (octets : List ℕ) : Type 0 where
  pub within : length octets ≤ 16777216
  pub faultless : (offset : ℕ) (cause : Cause) → ¬ CaptureFault octets offset cause

-- the fault shows in a front of the octets that is within the limit of an input: one that further octets may mend only where
-- there are none
pub record IsRefused (octets : List ℕ) (offset : ℕ) (cause : Cause) : Type 0 where
  pub front : List ℕ
  pub more : List ℕ
  pub place : octets ≡ front ++ more
  pub within : length front ≤ 16777216
  pub fault : CaptureFault front offset cause
  pub shows : IsLasting cause ⊎ (more ≡ [])

-- an octet comes after as many as an input may have, in which no fault shows
pub record IsPast (octets : List ℕ) : Type 0 where
  pub front : List ℕ
  pub octet : ℕ
  pub more : List ℕ
  pub place : octets ≡ front ++ octet ∷ more
  pub full : length front ≡ 16777216
  pub records : List Record
  pub begun : IsBegun front records
