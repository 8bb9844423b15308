-- What is read from octets has octets in each of its fields.
use Rattle.std.proofs.Common.{ℕ, ◌==◌, ◌<◌, Bool, true, false, List, [], ◌∷◌, ◌++◌, length, Option, Some, None, subst, arith}
use Rattle.std.specs.Prelude.{if◌then◌else◌, option_map, unwrap_or}
use Rattle.std.specs.Option.{option_or}
use Rattle.pdu_parts.specs.Parameter.{Parameter, spelled}
use Rattle.law_carrier_answers.specs.Answers.{AreOctets}
use Rattle.tpdu.specs.declared.kind.Kind.{Kind}
use Rattle.tpdu.specs.declared.kind.Kind.TheVariants.{Cr, Cc, Dr, Dc, Dt, Ed, Ak, Ea, Er}
use Rattle.tpdu.specs.declared.tpdu.Format.{Format}
use Rattle.tpdu.specs.declared.tpdu.Format.TheVariants.{Normal, Extended}
use Rattle.tpdu.specs.Grammar.{BeginsWithTpdu, IsTpdu, Spells, header_of}
use Rattle.tpdu.specs.Parameters.{last_value, octet_in, pair_in}
use Rattle.tpdu.specs.Values.{Parts, TpduAndSum, credit_of, destination_of, fields, format_for, value_of}
use Rattle.law_tp4_proper.specs.Octets.{HasOctets, IsPair}
use Rattle.law_tp4_proper.proofs.Octets.{octet_at, octets_back, octets_front, pair_at}

-- ---- parameters

abbrev pub Holds : Option (List ℕ) → Type 0
Holds None = Unit {0}
Holds (Some value) = AreOctets value

either_holds : (one other : Option (List ℕ)) → Holds one → Holds other → Holds (option_or one other)
either_holds None other h k = k
either_holds (Some value) other h k = h

pub last_holds : (code : ℕ) (ps : List Parameter) → AreOctets (spelled ps) → Holds (last_value code ps)
last_holds code [] h = tt
last_holds code (p ∷ ps) h =
    let value : AreOctets p.value = octets_front p.value (spelled ps) h.1.1 in
    either_holds (last_value code ps) _ (last_holds code ps (octets_back p.value (spelled ps) h.1.1)) (here (p.code == code) value)
  where
    here : (b : Bool) → AreOctets p.value → Holds (if b then Some p.value else None)
    here true v = v
    here false v = tt

text_of : (found : Option (List ℕ)) → Holds found → AreOctets (unwrap_or found [])
text_of None h = tt
text_of (Some value) h = h

octet_low : (value : List ℕ) → AreOctets value → octet_in value < 256
octet_low [] h = omega arith
octet_low (octet ∷ []) h = h.0
octet_low (octet ∷ other ∷ rest) h = omega arith

pair_low : (value : List ℕ) → AreOctets value → IsPair (pair_in value)
pair_low [] h = omega arith
pair_low (high ∷ []) h = omega arith
pair_low (high ∷ low ∷ []) h = omega (arith, h.0, h.1.0)
pair_low (high ∷ low ∷ other ∷ rest) h = omega arith

octet_of : (found : Option (List ℕ)) → Holds found → unwrap_or (option_map octet_in found) 1 < 256
octet_of None h = omega arith
octet_of (Some value) h = octet_low value h

pair_of : (found : Option (List ℕ)) → Holds found → IsPair (unwrap_or (option_map pair_in found) 0)
pair_of None h = omega arith
pair_of (Some value) h = pair_low value h

-- ---- the fields

credit_low : (width : Format) (code : ℕ) (fixed : List ℕ) → AreOctets fixed → IsPair (credit_of width code fixed)
credit_low Normal code fixed h = omega arith
credit_low Extended code fixed h = pair_at fixed 6 h

fields_in : (kind : Kind) (width : Format) (code : ℕ) (fixed : List ℕ) (ps : List Parameter) (body : List ℕ) → AreOctets fixed → AreOctets (spelled ps) → AreOctets body
    → HasOctets (fields kind width code fixed ps body)
fields_in Cr width code fixed ps body f p b = (
  pair_at fixed 2 f,
  text_of (last_value 0xC1 ps) (last_holds 0xC1 ps p),
  text_of (last_value 0xC2 ps) (last_holds 0xC2 ps p),
  octet_of (last_value 0xC6 ps) (last_holds 0xC6 ps p),
  b,
)
fields_in Cc width code fixed ps body f p b = (
  pair_at fixed 0 f,
  pair_at fixed 2 f,
  text_of (last_value 0xC1 ps) (last_holds 0xC1 ps p),
  text_of (last_value 0xC2 ps) (last_holds 0xC2 ps p),
  octet_of (last_value 0xC6 ps) (last_holds 0xC6 ps p),
  b,
)
fields_in Dr width code fixed ps body f p b = (pair_at fixed 0 f, pair_at fixed 2 f, octet_at fixed 4 f, b)
fields_in Dc width code fixed ps body f p b = (pair_at fixed 0 f, pair_at fixed 2 f)
fields_in Dt width code fixed ps body f p b = (pair_at fixed 0 f, b)
fields_in Ed width code fixed ps body f p b = (pair_at fixed 0 f, b)
fields_in Ak width code fixed ps body f p b = (pair_at fixed 0 f, credit_low width code fixed f, pair_of (last_value 0x8A ps) (last_holds 0x8A ps p))
fields_in Ea width code fixed ps body f p b = pair_at fixed 0 f
fields_in Er width code fixed ps body f p b = (pair_at fixed 0 f, octet_at fixed 2 f)

pub read_octets : (width : Format) (octets : List ℕ) (tpdu : TpduAndSum) → IsTpdu width octets tpdu → AreOctets octets → HasOctets tpdu.0
unfolding value_of
read_octets width octets tpdu t h =
    let parts : Parts = t.parts in
    let s : Spells parts octets = t.spells in
    let all : AreOctets (length (header_of parts) ∷ (header_of parts ++ parts.body)) = subst AreOctets s.all h in
    let header : AreOctets (header_of parts) = octets_front (header_of parts) parts.body all.1 in
    subst HasOctets t.value_is
    (fields_in parts.kind parts.format parts.code parts.fixed parts.parameters parts.body
    (octets_front parts.fixed (spelled parts.parameters) header.1) (octets_back parts.fixed (spelled parts.parameters) header.1) (octets_back (header_of parts) parts.body all.1))

-- the front, and what is behind it
pub first_octets : (extended octets rest : List ℕ) (tpdu : TpduAndSum) → BeginsWithTpdu extended octets tpdu rest → AreOctets octets → HasOctets tpdu.0 × AreOctets rest
first_octets extended octets rest tpdu begins h =
    let both : AreOctets (begins.begins.front ++ rest) = subst AreOctets begins.begins.whole h in (
      read_octets (format_for extended (destination_of tpdu.0)) begins.begins.front tpdu begins.begins.stands (octets_front begins.begins.front rest both),
      octets_back begins.begins.front rest both,
    )
