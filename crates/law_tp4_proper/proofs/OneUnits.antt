-- Octets that were written for a TPDU and begin with one begin with one of the same kind and destination. It has all of them: its header has the
-- length that the first octet says, and what has no data ends there; all else reaches to the end.
use Rattle.std.proofs.Common.{◌≡◌, inl, inr, ℕ, ◌+◌, ◌≤◌, Bool, true, false, List, [], ◌∷◌, ◌++◌, length, take, slice_index, refl, sym, ap, subst, ◌∙◌, length-append, arith}
use Rattle.std.specs.Prelude.{IsTrue}
use Rattle.std.proofs.lemmas.Bool.{eqb-true}
use Rattle.std.proofs.lemmas.List.{append-nil, take-append-le}
use Rattle.tpdu.specs.declared.kind.Kind.{Kind}
use Rattle.tpdu.specs.declared.kind.Kind.TheVariants.{Dc, Ak, Ea, Er}
use Rattle.tpdu.specs.declared.tpdu.Format.{Format}
use Rattle.tpdu.specs.Grammar.{BeginsWithTpdu, IsTpdu, Spells, header_of}
use Rattle.tpdu.specs.Kinds.{data_suits, takes_rest}
use Rattle.tpdu.specs.Values.{Parts, TpduAndSum, destination_of, format_for, reaches_end}
use Rattle.tpdu.specs.Writing.{IsWritten, is_summed, kind_for}
use Rattle.pdu_parts.specs.Parameter.{spelled}
use Rattle.tpdu.proofs.Allowed.{first_is_allowed}
use Rattle.tpdu.proofs.Formats.{either, kind-value}
use Rattle.tpdu.proofs.ReadLaws.{fixed_count-bounds, reaches_end-value}
use Rattle.tpdu.proofs.Targets.{same-target, same-value}
use Rattle.tpdu.proofs.WriteLaws.{spelled_is}
use Rattle.tp4_flow.specs.declared.step.EndEvent.{EndEvent}
use Rattle.tp4_flow.specs.declared.step.Sent.{Sent}
use Rattle.tp4_conn.specs.Proper.{IsSendable}
use Rattle.tp4_entity.specs.Unit.{EndsWith, Faulty, Separates, Whole}
use Rattle.tp4_entity.proofs.Units.{shorter}
use Rattle.law_tp4_proper.specs.Units.{IsOneOrBad, IsReadAs}

-- ---- lengths

kind_is : (width : Format) (octets : List ℕ) (tpdu : TpduAndSum) (t : IsTpdu width octets tpdu) → t.parts.kind ≡ kind_for tpdu.0
kind_is width octets tpdu t = sym (kind-value t.parts) ∙ ap kind_for t.value_is

-- it has the first four octets
has_four : (width : Format) (octets : List ℕ) (tpdu : TpduAndSum) → IsTpdu width octets tpdu → 4 ≤ length octets
has_four width octets tpdu t =
    let parts : Parts = t.parts in
    let s : Spells parts octets = t.spells in
    let all = ap length s.all in
    let whole = length-append (header_of parts) parts.body in
    let fixed = length-append parts.fixed (spelled parts.parameters) in
    let least = (fixed_count-bounds parts.kind parts.format).0 in
    omega (arith, all, whole, fixed, least, s.fixed)

no_data : (kind : Kind) (count : ℕ) → takes_rest kind ≡ false → IsTrue (data_suits kind count) → count ≡ 0
no_data Dc count ends suits = eqb-true count 0 suits
no_data Ak count ends suits = eqb-true count 0 suits
no_data Ea count ends suits = eqb-true count 0 suits
no_data Er count ends suits = eqb-true count 0 suits
no_data other count ends suits = absurd cc

-- what ends with its header has so many octets as the first one says, and that one
counted : (width : Format) (octets : List ℕ) (tpdu : TpduAndSum) → IsTpdu width octets tpdu → takes_rest (kind_for tpdu.0) ≡ false → length octets ≡ slice_index octets 0 + 1
counted width octets tpdu t ends =
    let parts : Parts = t.parts in
    let s : Spells parts octets = t.spells in
    let all = ap length s.all in
    let first : slice_index octets 0 ≡ length (header_of parts) = ap (λ (l : List ℕ). slice_index l 0) s.all in
    let whole = length-append (header_of parts) parts.body in
    let none : length parts.body ≡ 0 = no_data parts.kind (length parts.body) (ap takes_rest (kind_is width octets tpdu t) ∙ ends) s.body in
    omega (arith, all, first, whole, none)

first_of : (front rest : List ℕ) → 1 ≤ length front → slice_index (front ++ rest) 0 ≡ slice_index front 0
first_of [] rest some = absurd (omega (arith, some))
first_of (octet ∷ front) rest some = refl

empty : (octets : List ℕ) → length octets ≡ 0 → octets ≡ []
empty [] none = refl
empty (octet ∷ octets) none = absurd (omega (arith, none))

-- ---- the front of what was written

module _ (extended octets : List ℕ) (sent : Sent) (tpdu : TpduAndSum) (behind : List ℕ) where
  abbrev read_format : Format
  read_format = format_for extended (destination_of tpdu.0)

  abbrev was : TpduAndSum
  was = (sent.tpdu, is_summed sent.sum sent.tpdu)

  target_is : IsTpdu sent.format octets was → BeginsWithTpdu extended octets tpdu behind → (kind_for tpdu.0 ≡ kind_for sent.tpdu) × (destination_of tpdu.0 ≡ destination_of sent.tpdu)
  target_is t begins =
      let front = begins.begins.front in
      let four : take 4 front ≡ take 4 octets =
      sym (take-append-le 4 front behind (has_four read_format front tpdu begins.begins.stands)) ∙ ap (take 4) (sym begins.begins.whole) in
      same-target read_format sent.format front octets tpdu was begins.begins.stands t four

  -- nothing is left over
  all_of_it : IsTpdu sent.format octets was → BeginsWithTpdu extended octets tpdu behind → behind ≡ []
  all_of_it t begins = by (takes_rest (kind_for tpdu.0)) refl
    where
      front : List ℕ
      front = begins.begins.front

      reaches : reaches_end tpdu.0 ≡ takes_rest (kind_for tpdu.0)
      reaches =
          let parts : Parts = begins.begins.stands.parts in
          ap reaches_end (sym begins.begins.stands.value_is) ∙ reaches_end-value parts ∙ ap takes_rest (kind_is read_format front tpdu begins.begins.stands)

      by : (b : Bool) → takes_rest (kind_for tpdu.0) ≡ b → behind ≡ []
      by true e = begins.end (reaches ∙ e)
      by false e =
          let kind = (target_is t begins).0 in
          let whole : length octets ≡ slice_index octets 0 + 1 = counted sent.format octets was t (ap takes_rest (sym kind) ∙ e) in
          let here : length front ≡ slice_index front 0 + 1 = counted read_format front tpdu begins.begins.stands e in
          let some : 4 ≤ length front = has_four read_format front tpdu begins.begins.stands in
          let first : slice_index octets 0 ≡ slice_index front 0 = ap (λ (l : List ℕ). slice_index l 0) begins.begins.whole ∙ first_of front behind (omega (arith, some)) in
          let both : length octets ≡ length front + length behind = ap length begins.begins.whole ∙ length-append front behind in
          empty behind (omega (arith, whole, here, first, both))

  read_as : IsTpdu sent.format octets was → BeginsWithTpdu extended octets tpdu behind → IsReadAs extended sent tpdu
  read_as t begins =
      let target = target_is t begins in
      let all : octets ≡ begins.begins.front = begins.begins.whole ∙ ap (λ (l : List ℕ). begins.begins.front ++ l) (all_of_it t begins) ∙ append-nil begins.begins.front in
      let stands : IsTpdu read_format octets tpdu = subst (λ (o : List ℕ). IsTpdu read_format o tpdu) (sym all) begins.begins.stands in
      record {
        kind = target.0;
        target = target.1;
        control = λ none. same-value read_format octets tpdu was stands (either sent.format read_format octets was none t);
        flow = λ format. same-value sent.format octets tpdu was
            (subst (λ (f : Format). IsTpdu f octets tpdu) (ap (format_for extended) target.1 ∙ format) stands) t;
        allowed = first_is_allowed extended octets behind tpdu begins;
      }

-- ---- the unit

-- no octets are left
none_left : (extended octets rest : List ℕ) (tpdus : List TpduAndSum) (told : List EndEvent) → octets ≡ [] → Separates extended octets tpdus rest → EndsWith extended rest told
    → (tpdus ≡ []) × (rest ≡ []) × (told ≡ [])
none_left extended octets rest [] told none s (Whole is told_is) = (refl, is, told_is)
none_left extended octets rest [] told none s (Faulty fault some fails told_is) = absurd (some (sym s ∙ none))
none_left extended octets rest (tpdu ∷ tpdus) told none s e =
    let less = shorter extended octets s.0 tpdu s.1 in
    let length_is = ap length none in absurd (omega (arith, less, length_is))

one_or_bad : (extended octets rest : List ℕ) (sent : Sent) (tpdus : List TpduAndSum) (told : List EndEvent) → IsTpdu sent.format octets (sent.tpdu, is_summed sent.sum sent.tpdu)
    → Separates extended octets tpdus rest → EndsWith extended rest told → IsOneOrBad extended sent tpdus rest told
one_or_bad extended octets rest sent [] told t s (Whole none told_is) =
    let some = has_four sent.format octets (sent.tpdu, is_summed sent.sum sent.tpdu) t in
    let length_is = ap length (s ∙ none) in absurd (omega (arith, some, length_is))
one_or_bad extended octets rest sent [] told t s (Faulty fault some fails told_is) =
    inr (record { cause = fault.cause; place = fault.place; tpdus_are = refl; told_is = told_is })
one_or_bad extended octets rest sent (tpdu ∷ tpdus) told t s e =
    let left = none_left extended s.0 rest tpdus told (all_of_it extended octets sent tpdu s.0 t s.1) s.2 e in
    inl (record {
      tpdu = tpdu;
      tpdus_are = ap (λ (l : List TpduAndSum). tpdu ∷ l) left.0;
      rest_is = left.1;
      told_is = left.2;
      read_as = read_as extended octets sent tpdu s.0 t s.1;
    })

pub one_in_unit : (extended octets rest : List ℕ) (sent : Sent) (tpdus : List TpduAndSum) (told : List EndEvent) → IsSendable sent → IsWritten sent.format sent.sum sent.tpdu octets
    → Separates extended octets tpdus rest → EndsWith extended rest told → IsOneOrBad extended sent tpdus rest told
one_in_unit extended octets rest sent tpdus told fits written s e =
    one_or_bad extended octets rest sent tpdus told (spelled_is sent.format sent.sum sent.tpdu octets written fits.0 fits.1) s e
