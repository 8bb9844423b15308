-- The lines of TPDUs and of their faults (X.224, structure and encoding of TPDUs; treatment of invalid TPDUs).
use Rattle.std.specs.Prelude.{ℕ, Bool, true, false, List, [], ◌∷◌, ◌++◌, length, filter, is_some, codes}
use Rattle.std.specs.Fmt.{decimal}
use Rattle.pdu_parts.specs.Parameter.{Parameter}
use Rattle.tpdu.specs.declared.fault.TpduCause.{TpduCause}
use Rattle.tpdu.specs.declared.fault.TpduCause.TheVariants as causes
use Rattle.tpdu.specs.declared.fault.TpduFault.{TpduFault}
use Rattle.tpdu.specs.declared.kind.Kind.{Kind}
use Rattle.tpdu.specs.declared.tpdu.Format.{Format}
use Rattle.tpdu.specs.declared.tpdu.Format.TheVariants.{Normal, Extended}
use Rattle.tpdu.specs.declared.tpdu.Tpdu.{Tpdu}
use Rattle.tpdu.specs.declared.tpdu.Tpdu.TheVariants as tpdus
use Rattle.tpdu.specs.Parameters.{lengths_of}
use Rattle.tpdu.specs.Writing.{kind_for, body_for}
use Rattle.capture_show.specs.Texts.{line, parameters_text}

abbrev pub bit : Bool → ℕ
bit false = 0
bit true = 1

abbrev pub format_bit : Format → ℕ
format_bit Normal = 0
format_bit Extended = 1

-- the kind, and what its code and its fixed part hold
abbrev pub fixed_texts : Tpdu → List (List ℕ)
fixed_texts (tpdus.Cr credit source format _ _ _ _ _ _ _ _ _) =
    codes "cr" ∷ decimal credit ∷ decimal source ∷ decimal (format_bit format) ∷ []
fixed_texts (tpdus.Cc credit destination source format _ _ _ _ _ _ _ _ _) =
    codes "cc" ∷ decimal credit ∷ decimal destination ∷ decimal source ∷ decimal (format_bit format) ∷ []
fixed_texts (tpdus.Dr destination source reason _ _) = codes "dr" ∷ decimal destination ∷ decimal source ∷ decimal reason ∷ []
fixed_texts (tpdus.Dc destination source) = codes "dc" ∷ decimal destination ∷ decimal source ∷ []
fixed_texts (tpdus.Dt destination last number _) = codes "dt" ∷ decimal destination ∷ decimal (bit last) ∷ decimal number ∷ []
fixed_texts (tpdus.Ed destination last number _) = codes "ed" ∷ decimal destination ∷ decimal (bit last) ∷ decimal number ∷ []
fixed_texts (tpdus.Ak destination number credit _ _) = codes "ak" ∷ decimal destination ∷ decimal number ∷ decimal credit ∷ []
fixed_texts (tpdus.Ea destination number) = codes "ea" ∷ decimal destination ∷ decimal number ∷ []
fixed_texts (tpdus.Er destination cause _) = codes "er" ∷ decimal destination ∷ decimal cause ∷ []

-- the parameters that the kind knows: a CR and a CC skip others
abbrev pub known : Kind → List Parameter → List Parameter
known kind parameters = filter (λ parameter. is_some (lengths_of kind parameter.code)) parameters

-- the line of a TPDU with these parameters in its header
abbrev pub tpdu_line : Tpdu → List Parameter → List ℕ
tpdu_line tpdu parameters =
    line (codes " tpdu" ∷ (fixed_texts tpdu ++ parameters_text (known (kind_for tpdu) parameters) ∷ decimal (length (body_for tpdu)) ∷ []))

abbrev pub cause_text : TpduCause → List ℕ
cause_text causes.Short = codes "short"
cause_text causes.Length = codes "length"
cause_text causes.Code = codes "code"
cause_text causes.Fixed = codes "fixed"
cause_text causes.Class = codes "class"
cause_text causes.Param = codes "param"
cause_text causes.Unknown = codes "unknown"
cause_text causes.Checksum = codes "checksum"
cause_text causes.Body = codes "body"

abbrev pub bad_tpdu_line : TpduFault → List ℕ
bad_tpdu_line fault = line (codes " tpdu" ∷ codes "bad" ∷ cause_text fault.cause ∷ decimal fault.place ∷ [])
