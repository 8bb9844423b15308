-- What is written is in the grammar: the parts stand one after another, and sealing changes the checksum alone.
use Rattle.std.proofs.Common.{◌≡◌, ℕ, ◌≤◌, Bool, true, false, List, [], ◌∷◌, ◌++◌, length, Option, None, refl, sym, ap, subst, ◌∙◌, arith, length-append}
use Rattle.clnp_options.specs.Grammar.{AreAllowed}
use Rattle.pdu_parts.specs.Parameter.{Parameter, spelled}
use Rattle.clnp_options.specs.declared.reason.PduKind.{PduKind}
use Rattle.clnp_options.specs.declared.reason.PduKind.TheVariants.{Dt, Er}
use Rattle.clnp_header.specs.declared.pdu.Pdu.{Pdu}
use Rattle.clnp_header.specs.declared.pdu.SegmentPart.{SegmentPart}
use Rattle.clnp_header.specs.Flags.{AreFlags, written_flags}
use Rattle.clnp_header.specs.Grammar.{IsPdu, MayBeSegment, fixed_part, variable_part}
use Rattle.pdu_parts.specs.Field.{IsAddress}
use Rattle.pdu_parts.specs.Checksum.{IsChecksum}
use Rattle.clnp_header.specs.Values.{parameters}
use Rattle.clnp_header.specs.Writing.{HasKind, IsWritable, IsWritten, SealsIf, header_length, pdu_length, plain_header}
use Rattle.clnp_header.proofs.Parts.{length-variable}

-- the header of a PDU with these lengths, flags and octets of the checksum
abbrev header_octets : Pdu → ℕ → ℕ → ℕ → ℕ → ℕ → List ℕ → List ℕ
header_octets pdu flags n m first second options = fixed_part n pdu.lifetime flags m first second ++ variable_part pdu options

pub record HasChecksum (used : Bool) (pdu : Pdu) (flags n m : ℕ) (options header : List ℕ) : Type 0 where
  pub first : ℕ
  pub second : ℕ
  pub parts : header ≡ fixed_part n pdu.lifetime flags m first second ++ variable_part pdu options
  pub checksum : IsChecksum used first second header

pub checksum_written : (used : Bool) (pdu : Pdu) (flags n m : ℕ) (options plain header : List ℕ) (x y : ℕ) → plain ≡ fixed_part n pdu.lifetime flags m x y ++ variable_part pdu options
    → (used ≡ false → (x ≡ 0) × (y ≡ 0)) → SealsIf used plain header → HasChecksum used pdu flags n m options header
checksum_written false pdu flags n m options plain header x y plain-is unused h = record { first = x; second = y; parts = h ∙ plain-is; checksum = unused refl }
checksum_written true pdu flags n m options plain header x y plain-is unused h =
    let s = subst (λ (xs : List ℕ). SealsIf true xs header) plain-is h in
    record {
      first = s.first;
      second = s.second;
      parts = s.written;
      checksum = (s.first_used.0, s.first_used.1, s.second_used.0, s.second_used.1, s.sealed);
    }

flags_written : (kind : PduKind) (segment : Option SegmentPart) (report : Bool) → HasKind kind segment report → AreFlags kind (written_flags kind segment report) segment report
flags_written Dt segment report h = refl
flags_written Er segment report h = record { more_bit = false; report_bit = false; parts = refl; whole = h.0; unreported = h.1 }

-- what a value that can be written has beside
pub record Fitting (pdu : Pdu) : Type 0 where
  pub header_fits : header_length pdu ≤ 254
  pub pdu_fits : pdu_length pdu ≤ 65535
  pub destination : IsAddress pdu.destination
  pub source : IsAddress pdu.source

pub is_pdu : (pdu : Pdu) (octets : List ℕ) → IsWritten pdu octets → Fitting pdu → IsWritable pdu → IsPdu octets pdu
is_pdu pdu octets h fits writable =
    let options = spelled (parameters pdu.options) in
    let flags = written_flags pdu.kind pdu.segment pdu.report in
    let n = header_length pdu in
    let m = pdu_length pdu in
    let c = checksum_written pdu.checksum_used pdu flags n m options (plain_header pdu) h.header 0 0 refl (λ unused. (refl, refl)) h.sealed in
    let variable = length-variable pdu options in
    let length_is : length h.header ≡ n = ap length c.parts ∙ omega (arith, variable) in
    let whole_is : length octets ≡ m = ap length h.whole ∙ length-append h.header pdu.body ∙ omega (arith, length_is) in
    let P : ℕ → Type 0 = λ k. MayBeSegment pdu.segment k (length pdu.body) in
    record {
      header = h.header;
      options = options;
      flags = flags;
      first = c.first;
      second = c.second;
      whole = h.whole;
      parts = c.parts ∙ rw (length_is, whole_is) refl;
      flags_part = flags_written pdu.kind pdu.segment pdu.report writable.kind;
      checksum = c.checksum;
      destination = fits.destination;
      source = fits.source;
      segment = subst P (sym whole_is) writable.segment;
      options_part = record { parts = refl; allowed = writable.options };
      header_fits = omega (arith, fits.header_fits, length_is);
      pdu_fits = omega (arith, fits.pdu_fits, whole_is);
    }

-- no options are allowed in a DT PDU
nothing_before : (before after : List Parameter) (option : Parameter) → [] ≡ before ++ option ∷ after → ⊥
nothing_before [] after option e = cc e
nothing_before (x ∷ before) after option e = cc e

no_options : AreAllowed Dt []
no_options = record {
  known = λ k d lt. absurd (omega arith);
  once = λ before after option e stood. absurd (nothing_before before after option e);
  reason = λ er. absurd cc;
}

-- a DT PDU without a segmentation part and without options may be written
pub plain_is_writable : (pdu : Pdu) → pdu.kind ≡ Dt → pdu.segment ≡ None → pdu.options ≡ [] → IsWritable pdu
plain_is_writable pdu kind segment options = record {
  kind = rw kind tt;
  segment = rw segment tt;
  options = rw (kind, options) no_options;
}
