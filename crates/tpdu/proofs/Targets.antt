-- The code and the destination reference are the second to the fourth octet of every TPDU.
use Rattle.std.proofs.Common.{◌≡◌, ℕ, ◌+◌, ◌*◌, ◌≤◌, false, List, [], ◌∷◌, ◌++◌, length, take, append_assoc, eq-eqb, refl, sym, ◌∙◌, ap, subst, arith, Option, Some, None}
use Rattle.std.proofs.lemmas.List.{append-nil}
use Rattle.tpdu.specs.declared.kind.Kind.{Kind}
use Rattle.tpdu.specs.declared.kind.Kind.TheVariants.{Cr}
use Rattle.tpdu.specs.declared.tpdu.Format.{Format}
use Rattle.tpdu.specs.declared.tpdu.Format.TheVariants.{Normal, Extended}
use Rattle.tpdu.specs.declared.tpdu.Tpdu.{Tpdu}
use Rattle.tpdu.specs.declared.tpdu.Tpdu.TheVariants as tpdus
use Rattle.tpdu.specs.Kinds.{kind_of, has_number}
use Rattle.pdu_parts.specs.Number.{number_at}
use Rattle.pdu_parts.specs.Parameter.{spelled}
use Rattle.tpdu.specs.Values.{TpduAndSum, Parts, destination_of, format_for}
use Rattle.tpdu.specs.Grammar.{Spells, IsTpdu, IsListedTpdu, BeginsWithTpdu, header_of}
use Rattle.tpdu.specs.Writing.{kind_for}
use Rattle.tpdu.proofs.ReadLaws.{shown, destination-value, fixed_count-bounds}
use Rattle.tpdu.proofs.Formats.{kind-value, either}
use Rattle.tpdu.proofs.Fronts.{same_front}

pub record Fronts (octets : List ℕ) (code : ℕ) (fixed : List ℕ) : Type 0 where
  pub count : ℕ
  pub high : ℕ
  pub low : ℕ
  pub four : take 4 octets ≡ count ∷ code ∷ high ∷ low ∷ []
  pub pair : number_at 0 fixed ≡ high * 256 + low

fronts : (count code : ℕ) (fixed after : List ℕ) → 2 ≤ length fixed → Fronts (count ∷ code ∷ (fixed ++ after)) code fixed
fronts count code [] after h = absurd (omega (arith, h))
fronts count code (x ∷ []) after h = absurd (omega (arith, h))
fronts count code (x ∷ y ∷ fixed) after h = record { count = count; high = x; low = y; four = refl; pair = refl }

fronts-of : (parts : Parts) (octets : List ℕ) → Spells parts octets → Fronts octets parts.code parts.fixed
fronts-of parts octets s =
    let same : octets ≡ length (header_of parts) ∷ parts.code ∷ (parts.fixed ++ (spelled parts.parameters ++ parts.body)) =
    s.all ∙ ap (λ (xs : List ℕ). length (header_of parts) ∷ parts.code ∷ xs) (append_assoc parts.fixed (spelled parts.parameters) parts.body) in
    subst (λ (xs : List ℕ). Fronts xs parts.code parts.fixed) (sym same)
    (fronts (length (header_of parts)) parts.code parts.fixed (spelled parts.parameters ++ parts.body) (omega (arith, s.fixed, (fixed_count-bounds parts.kind parts.format).0)))

shown-same : (one other : Kind) (f g : List ℕ) → one ≡ other → number_at 0 f ≡ number_at 0 g → shown one f ≡ shown other g
shown-same one other f g e h = by one ∙ ap (λ (k : Kind). shown k g) e
  where
    by : (k : Kind) → shown k f ≡ shown k g
    by Cr = refl
    by _ = ap Some h

codes-same : (a b : ℕ) (one other : Kind) → a ≡ b → kind_of a ≡ Some one → kind_of b ≡ Some other → one ≡ other
codes-same a b one other e h k = let s : Some one ≡ Some other = sym h ∙ ap kind_of e ∙ k in cc

pub same-target : (one other : Format) (octets others : List ℕ) (tpdu second : TpduAndSum) → IsTpdu one octets tpdu → IsTpdu other others second
    → take 4 octets ≡ take 4 others → (kind_for tpdu.0 ≡ kind_for second.0) × (destination_of tpdu.0 ≡ destination_of second.0)
same-target one other octets others tpdu second s t e =
    let x = fronts-of s.parts octets s.spells in
    let y = fronts-of t.parts others t.spells in
    let four : x.count ∷ s.parts.code ∷ x.high ∷ x.low ∷ [] ≡ y.count ∷ t.parts.code ∷ y.high ∷ y.low ∷ [] = sym x.four ∙ e ∙ y.four in
    let code : s.parts.code ≡ t.parts.code = cc four in
    let high : x.high ≡ y.high = cc four in
    let low : x.low ≡ y.low = cc four in
    let kind : s.parts.kind ≡ t.parts.kind = codes-same s.parts.code t.parts.code s.parts.kind t.parts.kind code s.spells.code t.spells.code in
    let pair : number_at 0 s.parts.fixed ≡ number_at 0 t.parts.fixed = x.pair ∙ (λ i. high i * 256 + low i) ∙ sym y.pair in (
      ap kind_for (sym s.value_is) ∙ kind-value s.parts ∙ kind ∙ sym (kind-value t.parts) ∙ ap kind_for t.value_is,
      ap destination_of (sym s.value_is) ∙ destination-value s.parts ∙ shown-same s.parts.kind t.parts.kind s.parts.fixed t.parts.fixed kind pair ∙ sym (destination-value t.parts) ∙ ap destination_of t.value_is,
    )

-- ---- one value

-- whole octets stand at their own front
whole : (extended octets : List ℕ) (tpdu : TpduAndSum) → IsListedTpdu extended octets tpdu → BeginsWithTpdu extended octets tpdu []
whole extended octets tpdu is = record { begins = record { front = octets; whole = sym (append-nil octets); stands = is }; end = λ _. refl }

-- where the references with extended formats give both the format
listed-value : (width : Format) (extended octets : List ℕ) (tpdu other : TpduAndSum) → width ≡ format_for extended (destination_of tpdu.0) → width ≡ format_for extended (destination_of other.0)
    → IsTpdu width octets tpdu → IsTpdu width octets other → tpdu ≡ other
listed-value width extended octets tpdu other e f s t =
    (same_front extended octets tpdu other [] []
    (whole extended octets tpdu (subst (λ (w : Format). IsTpdu w octets tpdu) e s)) (whole extended octets other (subst (λ (w : Format). IsTpdu w octets other) f t))).0

none-listed : (o : Option ℕ) → Normal ≡ format_for [] o
none-listed None = refl
none-listed (Some destination) = refl

one-listed : (destination : ℕ) → Extended ≡ format_for (destination ∷ []) (Some destination)
one-listed destination = rw (eq-eqb destination destination refl) refl

-- a CR alone has no destination reference
no-target : (tpdu : Tpdu) → destination_of tpdu ≡ None → has_number (kind_for tpdu) ≡ false
no-target (tpdus.Cr _ _ _ _ _ _ _ _ _ _ _ _) e = refl
no-target _ e = absurd cc

normal-value : (octets : List ℕ) (tpdu other : TpduAndSum) → IsTpdu Normal octets tpdu → IsTpdu Normal octets other → tpdu ≡ other
normal-value octets tpdu other s t = listed-value Normal [] octets tpdu other (none-listed (destination_of tpdu.0)) (none-listed (destination_of other.0)) s t

extended-value : (octets : List ℕ) (tpdu other : TpduAndSum) (o : Option ℕ) → destination_of tpdu.0 ≡ o → destination_of other.0 ≡ o
    → IsTpdu Extended octets tpdu → IsTpdu Extended octets other → tpdu ≡ other
extended-value octets tpdu other None e f s t =
    normal-value octets tpdu other (either Extended Normal octets tpdu (no-target tpdu.0 e) s) (either Extended Normal octets other (no-target other.0 f) t)
extended-value octets tpdu other (Some destination) e f s t =
    listed-value Extended (destination ∷ []) octets tpdu other (one-listed destination ∙ ap (format_for (destination ∷ [])) (sym e))
    (one-listed destination ∙ ap (format_for (destination ∷ [])) (sym f)) s t

pub same-value : (format : Format) (octets : List ℕ) (tpdu other : TpduAndSum) → IsTpdu format octets tpdu → IsTpdu format octets other → tpdu ≡ other
same-value Normal octets tpdu other s t = normal-value octets tpdu other s t
same-value Extended octets tpdu other s t =
    let same = same-target Extended Extended octets octets tpdu other s t refl in
    extended-value octets tpdu other (destination_of other.0) same.1 refl s t
