-- The lines of a capture: those of each record, and a closing line.
use Rattle.std.specs.Prelude.{◌≡◌, ◌⊎◌, ◌+◌, ◌<◌, ℕ, List, [], ◌∷◌, ◌++◌, length, codes}
use Rattle.std.specs.Fmt.{decimal}
use Rattle.capture_decode.specs.Capture.{Record}
use Rattle.capture_decode.specs.declared.cause.Cause.{Cause}
use Rattle.capture_decode.specs.declared.cause.Cause.TheVariants.{Short, Magic, Version, Link, Length}
use Rattle.capture_show.specs.declared.ends.End.{End}
use Rattle.capture_show.specs.Shown.{ShowsFrame}

-- a field and a blank
abbrev pub field : ℕ → List ℕ
field value = decimal value ++ codes " "

-- what stands in front of a record's line: its number, its seconds and fraction, and how many octets were captured
abbrev pub head_text : ℕ → Record → List ℕ
head_text number one = field number ++ (field one.seconds ++ (field one.fraction ++ field (length one.octets)))

abbrev pub cut_line : List ℕ
cut_line = codes "cut" ++ codes "\n"

-- what is shown behind that: that the frame was cut, or what is shown of the frame, where these ends were named before. The
-- ends named after it
abbrev pub ShowsOctets : Record → List End → List ℕ → List End → Type 0
ShowsOctets one ends text after = ((length one.octets < one.original) × (text ≡ cut_line) × (after ≡ ends))
    ⊎ ((length one.octets ≡ one.original) × ShowsFrame one.octets ends text after)

-- the record of this number
pub record ShowsRecord (number : ℕ) (one : Record) (ends : List End) (text : List ℕ) (after : List End) : Type 0 where
  pub shown : List ℕ
  pub shows : ShowsOctets one ends shown after
  pub text_is : text ≡ head_text number one ++ shown

-- records one after another, the first of this number
abbrev pub ShowsFrom : ℕ → List Record → List End → List ℕ → List End → Type 0
ShowsFrom number [] ends text after = (text ≡ []) × (after ≡ ends)
ShowsFrom number (one ∷ more) ends text after = (line : List ℕ) × (mid : List End) × (lines : List ℕ)
    × ShowsRecord number one ends line mid × ShowsFrom (number + 1) more mid lines after × (text ≡ line ++ lines)

-- the records of a capture, before which no ends were named
abbrev pub Shows : List Record → List ℕ → Type 0
Shows records text = (after : List End) × ShowsFrom 1 records [] text after

abbrev pub cause_text : Cause → List ℕ
cause_text Short = codes "short"
cause_text Magic = codes "magic"
cause_text Version = codes "version"
cause_text Link = codes "link"
cause_text Length = codes "length"

-- ---- closing lines

abbrev pub done_line : List ℕ
done_line = codes "done" ++ codes "\n"

abbrev pub refused_line : ℕ → Cause → List ℕ
refused_line offset cause = codes "refused " ++ (field offset ++ (cause_text cause ++ codes "\n"))

abbrev pub toomuch_line : List ℕ
toomuch_line = codes "toomuch" ++ codes "\n"
