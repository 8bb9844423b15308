-- How a TPDU is found: its format by the ends that were named, and its parameters behind its fixed part.
use Rattle.std.proofs.Common.{◌≡◌, ◌⊎◌, ℕ, suc, ◌+◌, ◌<◌, ◌≤◌, if◌then◌else◌, Bool, true, false, ◌&&◌, ◌||◌, List, [], ◌∷◌, ◌++◌, length, take, drop, Option, Some, None, Result, Ok, Err, inl, inr, refl, sym, ◌∙◌, ◌≢◌, ap, append_assoc, add-one, eq-eqb, arith, length-append, length-drop, length-take}
use Rattle.std.proofs.Math.Seq.{drop-append_seam}
use Rattle.std.specs.Prelude.{filter, map, slice_index, nat_eq, IfOk, IfErr, unwrap_or, ◌==◌}
use Rattle.std.specs.List.{list_any}
use Rattle.std.specs.Cmp.Lexicographic.{pointwise}
use Rattle.pdu_parts.specs.Parameter.{Parameter, parameters_in, spelled}
use Rattle.pdu_parts.proofs.Readings.{◌>>=◌}
use Rattle.tpdu.specs.declared.fault.TpduFault.{TpduFault}
use Rattle.tpdu.specs.declared.kind.Kind.{Kind}
use Rattle.tpdu.specs.declared.kind.Kind.TheVariants.{Cr}
use Rattle.tpdu.specs.declared.tpdu.Format.{Format}
use Rattle.tpdu.specs.declared.tpdu.Format.TheVariants.{Normal, Extended}
use Rattle.tpdu.specs.Faults.{IsTpduFault, header, reference, format_at}
use Rattle.tpdu.specs.Grammar.{BeginsWithTpdu}
use Rattle.tpdu.specs.Kinds.{fixed_count}
use Rattle.tpdu.specs.Values.{TpduAndSum, Parts, destination_of, format_for}
use Rattle.tpdu.specs.Writing.{kind_for}
use Rattle.tpdu.specs.steps.Reading.{Head, head_at, sections_by, sections_at, read_at}
use Rattle.tpdu.proofs.FaultOrder.{fault_of, fault-read}
use Rattle.tpdu.proofs.Formats.{kind-value}
use Rattle.tpdu.proofs.Heads.{Fronted, head_ok, Refront, refront}
use Rattle.tpdu.proofs.ReadLaws.{shown, destination-value, fixed_count-bounds, read_sound, read_complete}
use Rattle.tpdu.proofs.Splits.{parameters-spelled}
use Rattle.capture_show.specs.declared.ends.End.{End}
use Rattle.capture_show.specs.Ends.{end, is_same, references_of}

-- ---- the format

listed_if : (b : Bool) (e : End) (ends : List End) (wanted : ℕ)
    → list_any (λ (r : ℕ). r == wanted) (map (λ (x : End). x.reference) (if b then e ∷ ends else ends))
    ≡ ((nat_eq e.reference wanted && b) || list_any (λ (r : ℕ). r == wanted) (map (λ (x : End). x.reference) ends))
listed_if false e ends wanted = by (nat_eq e.reference wanted)
  where
    by : (a : Bool) → list_any (λ (r : ℕ). r == wanted) (map (λ (x : End). x.reference) ends) ≡ ((a && false) || list_any (λ (r : ℕ). r == wanted) (map (λ (x : End). x.reference) ends))
    by true = refl
    by false = refl
listed_if true e ends wanted = by (nat_eq e.reference wanted)
  where
    by : (a : Bool) → (a || list_any (λ (r : ℕ). r == wanted) (map (λ (x : End). x.reference) ends)) ≡ ((a && true) || list_any (λ (r : ℕ). r == wanted) (map (λ (x : End). x.reference) ends))
    by true = refl
    by false = refl

-- a reference is listed for an address exactly where that end was named
pub listed_end : (to : List ℕ) (wanted : ℕ) (ends : List End)
    → list_any (λ r. r == wanted) (references_of to ends) ≡ list_any (λ other. is_same other (end to wanted)) ends
listed_end to wanted [] = refl
listed_end to wanted (e ∷ ends) =
    listed_if (pointwise nat_eq e.address to) e (filter (λ (x : End). pointwise nat_eq x.address to) ends) wanted
    ∙ ap (λ (b : Bool). is_same e (end to wanted) || b) (listed_end to wanted ends)

pub format_named : (to : List ℕ) (wanted : ℕ) (ends : List End) (b : Bool) → b ≡ list_any (λ other. is_same other (end to wanted)) ends
    → (if b then Extended else Normal) ≡ format_for (references_of to ends) (Some wanted)
format_named to wanted ends b e = ap (λ (x : Bool). if x then Extended else Normal) (e ∙ sym (listed_end to wanted ends))

-- ---- reading depends on nothing but the format

short_reference : (octets : List ℕ) → length octets ≤ 1 → reference octets ≡ None
short_reference [] h = refl
short_reference (x ∷ []) h = refl
short_reference (x ∷ y ∷ octets) h = absurd (omega arith)

-- the reference stands whole in the header, or none does
in_header : (count : ℕ) (octets : List ℕ) → (reference (drop 1 (take count octets)) ≡ reference (drop 1 octets)) ⊎ (reference (drop 1 (take count octets)) ≡ None)
in_header (suc (suc (suc count))) (a ∷ b ∷ c ∷ octets) = inl refl
in_header count octets = inr (short_reference (drop 1 (take count octets)) (omega (arith, length-drop 1 (take count octets), length-take count octets)))

fields_reference : (octets : List ℕ) → (reference (drop 2 (header octets)) ≡ reference (drop 2 octets)) ⊎ (reference (drop 2 (header octets)) ≡ None)
fields_reference [] = inl refl
fields_reference (a ∷ octets) = rw (add-one a) (in_header a octets)

same_format : (one other : List ℕ) (kind : Kind) (octets : List ℕ) → format_for one (reference (drop 2 octets)) ≡ format_for other (reference (drop 2 octets))
    → format_at one kind (drop 2 (header octets)) ≡ format_at other kind (drop 2 (header octets))
same_format one other Cr octets h = refl
same_format one other _ octets h = by (reference (drop 2 (header octets))) (fields_reference octets)
  where
    by : (found : Option ℕ) → (found ≡ reference (drop 2 octets)) ⊎ (found ≡ None) → format_for one found ≡ format_for other found
    by found (inl e) = ap (format_for one) e ∙ h ∙ ap (format_for other) (sym e)
    by found (inr e) = ap (format_for one) e ∙ ap (format_for other) (sym e)

bind_same : {A B : Type 0} (r : Result A TpduFault) (f g : A → Result B TpduFault) → ((x : A) → r ≡ Ok x → f x ≡ g x) → (r >>= f) ≡ (r >>= g)
bind_same (Ok x) f g h = h x refl
bind_same (Err fault) f g h = refl

same_sections : (one other : List ℕ) (kind : Kind) (inside : List ℕ) → format_at one kind inside ≡ format_at other kind inside
    → sections_at one kind inside ≡ sections_at other kind inside
unfolding sections_at
same_sections one other kind inside h = ap (λ (f : Format). sections_by kind inside f (fixed_count kind f)) h

same_read : (one other octets : List ℕ) → format_for one (reference (drop 2 octets)) ≡ format_for other (reference (drop 2 octets))
    → read_at one octets ≡ read_at other octets
unfolding read_at
same_read one other octets h = bind_same (head_at octets) _ _ λ head is.
    let inside : head.fields ≡ drop 2 (header octets) = ap (λ (x : Head). x.fields) (head_ok octets head is).is in
    let format : format_at one head.kind head.fields ≡ format_at other head.kind head.fields =
    ap (format_at one head.kind) inside ∙ same_format one other head.kind octets h ∙ ap (format_at other head.kind) (sym inside) in
    rw (same_sections one other head.kind head.fields format) refl

-- the references to give for a format and a reference
abbrev pub listed_for : Format → Option ℕ → List ℕ
listed_for Normal found = []
listed_for Extended found = unwrap_or found 0 ∷ []

given_format : (extended : List ℕ) (format : Format) (found : Option ℕ) → format_for extended found ≡ format → format_for (listed_for format found) found ≡ format_for extended found
given_format extended Normal None h = refl
given_format extended Normal (Some wanted) h = sym h
given_format extended Extended None h = refl
given_format extended Extended (Some wanted) h = rw (eq-eqb wanted wanted refl) (sym h)

-- octets read with what is given are read alike
given_read : (octets extended listed : List ℕ) (width : Format) → listed ≡ listed_for width (reference (drop 2 octets))
    → format_for extended (reference (drop 2 octets)) ≡ width → read_at listed octets ≡ read_at extended octets
given_read octets extended listed width given e =
    same_read listed extended octets
    (ap (λ (xs : List ℕ). format_for xs (reference (drop 2 octets))) given ∙ given_format extended width (reference (drop 2 octets)) e)

pub read_ok : {X : Type 0} (tpdu_of : X → TpduAndSum) (rest_of : X → List ℕ) (octets extended listed : List ℕ) (width : Format)
    → listed ≡ listed_for width (reference (drop 2 octets)) → format_for extended (reference (drop 2 octets)) ≡ width
    → (result : Result X TpduFault) → IfOk result (λ x. BeginsWithTpdu listed octets (tpdu_of x) (rest_of x))
    → IfOk result (λ x. BeginsWithTpdu extended octets (tpdu_of x) (rest_of x))
read_ok tpdu_of rest_of octets extended listed width given e (Ok found) h =
    read_sound extended octets (tpdu_of found) (rest_of found)
    (sym (given_read octets extended listed width given e) ∙ read_complete listed octets (tpdu_of found) (rest_of found) h)
read_ok tpdu_of rest_of octets extended listed width given e (Err fault) h = tt

pub read_fault : {X : Type 0} (octets extended listed : List ℕ) (width : Format)
    → listed ≡ listed_for width (reference (drop 2 octets)) → format_for extended (reference (drop 2 octets)) ≡ width
    → (result : Result X TpduFault) → IfErr result (IsTpduFault listed octets) → IfErr result (IsTpduFault extended octets)
read_fault octets extended listed width given e (Ok found) h = tt
read_fault octets extended listed width given e (Err fault) h =
    sym (fault-read extended octets) ∙ ap fault_of (sym (given_read octets extended listed width given e)) ∙ fault-read listed octets ∙ h

-- ---- the parameters

-- behind the fixed part of a header that stands whole are these parameters
pub record AreThere (octets : List ℕ) (kind : Kind) (format : Format) (parameters : List Parameter) : Type 0 where
  pub least : 1 + fixed_count kind format ≤ slice_index octets 0
  pub most : slice_index octets 0 < length octets
  pub is : parameters_in (drop (2 + fixed_count kind format) (take (slice_index octets 0 + 1) octets)) ≡ parameters

same_count : (extended : List ℕ) (kind : Kind) (one width : Format) (fixed : List ℕ) (found : Option ℕ) → one ≡ format_for extended (shown kind fixed)
    → (kind ≢ Cr → shown kind fixed ≡ found) → format_for extended found ≡ width → fixed_count kind one ≡ fixed_count kind width
same_count extended Cr one width fixed found e s f = refl
same_count extended kind one width fixed found e s f = ap (fixed_count kind) (e ∙ ap (format_for extended) (s (λ same. cc)) ∙ f)

shown_is : (kind : Kind) (fixed after : List ℕ) → 2 ≤ length fixed → kind ≢ Cr → shown kind fixed ≡ reference (fixed ++ after)
shown_is kind [] after h other = absurd (omega arith)
shown_is kind (x ∷ []) after h other = absurd (omega arith)
shown_is Cr (x ∷ y ∷ fixed) after h other = absurd (other refl)
shown_is _ (x ∷ y ∷ fixed) after h other = refl

behind_fixed : (octets : List ℕ) (code : ℕ) (fixed ps after : List ℕ) (count : ℕ) → Refront octets code (fixed ++ ps) after → length fixed ≡ count
    → drop (2 + count) (header octets) ≡ ps
behind_fixed octets code fixed ps after count r e =
    let two : 2 + count ≡ suc (suc (length fixed)) = omega arith in
    ap (λ (n : ℕ). drop n (header octets)) two ∙ ap (drop (suc (suc (length fixed)))) r.header_is ∙ drop-append_seam fixed ps

pub are_there : (extended octets : List ℕ) (tpdu : TpduAndSum) (rest : List ℕ) (kind : Kind) (width : Format) (f : BeginsWithTpdu extended octets tpdu rest)
    → kind ≡ kind_for tpdu.0 → format_for extended (reference (drop 2 octets)) ≡ width → AreThere octets kind width f.begins.stands.parts.parameters
are_there extended octets tpdu rest kind width f kind_is e =
    let stands = f.begins.stands in
    let parts : Parts = stands.parts in
    let sp = stands.spells in
    let ps : List ℕ = spelled parts.parameters in
    let inside : List ℕ = parts.fixed ++ ps in
    let after : List ℕ = parts.body ++ rest in
    let all : octets ≡ suc (length inside) ∷ parts.code ∷ (inside ++ after) =
    f.begins.whole ∙ ap (λ (xs : List ℕ). xs ++ rest) sp.all
    ∙ ap (λ (xs : List ℕ). suc (length inside) ∷ parts.code ∷ xs) (append_assoc inside parts.body rest) in
    let front : Fronted octets parts.code inside after = record { all = all; short = omega (arith, sp.header) } in
    let r = refront octets parts.code inside after front in
    let same : kind ≡ parts.kind = kind_is ∙ ap kind_for (sym stands.value_is) ∙ kind-value parts in
    let two : 2 ≤ length parts.fixed = omega (arith, sp.fixed, (fixed_count-bounds parts.kind parts.format).0) in
    let target : parts.kind ≢ Cr → shown parts.kind parts.fixed ≡ reference (drop 2 octets) =
    λ other. shown_is parts.kind parts.fixed (ps ++ after) two other ∙ ap reference (sym (append_assoc parts.fixed ps after)) ∙ ap (λ (xs : List ℕ). reference (drop 2 xs)) (sym all) in
    let one : parts.format ≡ format_for extended (shown parts.kind parts.fixed) =
    stands.format_is ∙ ap (format_for extended) (ap destination_of (sym stands.value_is) ∙ destination-value parts) in
    let count : length parts.fixed ≡ fixed_count kind width =
    sp.fixed ∙ same_count extended parts.kind parts.format width parts.fixed (reference (drop 2 octets)) one target e
    ∙ ap (λ (k : Kind). fixed_count k width) (sym same) in
    record {
      least = omega (arith, count, r.indicator_is, length-append parts.fixed ps);
      most = omega (arith, r.indicator_is, r.count_is);
      is = ap parameters_in (behind_fixed octets parts.code parts.fixed ps after (fixed_count kind width) r count) ∙ (parameters-spelled parts.parameters).0;
    }
