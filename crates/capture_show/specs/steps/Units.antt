-- A unit line by line, as it is written.
use Rattle.std.specs.Prelude.{◌≡◌, ℕ, List, ◌++◌, Option, Some, None}
use Rattle.capture_show.specs.declared.ends.End.{End}
use Rattle.clnp_header.specs.declared.pdu.Pdu.{Pdu}
use Rattle.capture_show.specs.Pdus.{dt_line, is_transport}
use Rattle.capture_show.specs.Shown.{ShowsTpdu, ShowsFault, ShowsUnit, ShowsData, lines_text}

-- the line of the TPDU at the front is appended, or that of the fault, behind which nothing is left
pub record WritesTpdu (to from : List ℕ) (ends : List End) (octets old rest : List ℕ) (after : List End) (new : List ℕ) : Type 0 where
  pub line : List ℕ
  pub shows : ShowsTpdu to from ends octets line rest after
  pub appended : new ≡ old ++ line

pub record WritesFault (to : List ℕ) (ends : List End) (octets old : List ℕ) (after : List End) (new : List ℕ) : Type 0 where
  pub line : List ℕ
  pub shows : ShowsFault to ends octets line
  pub same : after ≡ ends
  pub appended : new ≡ old ++ line

abbrev pub WritesNext : List ℕ → List ℕ → List End → List ℕ → List ℕ → Option (List ℕ) → List End → List ℕ → Type 0
WritesNext to from ends octets old (Some rest) after new = WritesTpdu to from ends octets old rest after new
WritesNext to from ends octets old None after new = WritesFault to ends octets old after new

-- all lines of a unit are appended
pub record WritesUnit (to from : List ℕ) (ends : List End) (octets old : List ℕ) (after : List End) (new : List ℕ) : Type 0 where
  pub lines : List (List ℕ)
  pub shows : ShowsUnit to from ends octets lines after
  pub appended : new ≡ old ++ lines_text lines

-- what stands, with any lines that show what is left, shows the whole
pub record Writing (to from : List ℕ) (first_ends : List End) (all before : List ℕ) (ends : List End) (left out : List ℕ) : Type 0 where
  pub done : List (List ℕ)
  pub appended : out ≡ before ++ lines_text done
  pub whole : (lines : List (List ℕ)) (after : List End) → ShowsUnit to from ends left lines after → ShowsUnit to from first_ends all (done ++ lines) after

-- the line of a DT PDU is appended, and those of its unit
pub record WritesDt (pdu : Pdu) (ends : List End) (old : List ℕ) (after : List End) (new : List ℕ) : Type 0 where
  pub lines : List (List ℕ)
  pub shows : ShowsData (is_transport pdu) pdu ends lines after
  pub appended : new ≡ old ++ (dt_line pdu ++ lines_text lines)
