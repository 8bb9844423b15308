-- The format in which a TPDU is read depends on one reference alone: that of the octets where a destination reference stands.
use Rattle.std.proofs.Common.{◌≡◌, ◌≢◌, ◌==◌, ◌||◌, ℕ, zero, suc, ◌+◌, ◌<◌, ◌⊎◌, inl, inr, Bool, true, false, cond, List, [], ◌∷◌, drop, take, slice_get, Option, Some, None, Result, Ok, Err, refl, sym, ap, ◌∙◌, arith}
use Rattle.std.specs.List.{list_any}
use Rattle.std.proofs.lemmas.Bool.{ne_eqb}
use Rattle.std.proofs.lemmas.Bool.Decides.{nat_tests}
use Rattle.pdu_parts.proofs.Readings.{◌>>=◌}
use Rattle.tpdu.specs.Faults.{IsTpduFault, format_at, header, indicator, reference}
use Rattle.tpdu.specs.Grammar.{BeginsWithTpdu}
use Rattle.tpdu.specs.Kinds.{is_request}
use Rattle.tpdu.specs.Values.{TpduAndSum, format_for}
use Rattle.tpdu.specs.declared.fault.TpduFault.{TpduFault}
use Rattle.tpdu.specs.declared.tpdu.Format.{Format}
use Rattle.tpdu.specs.declared.tpdu.Format.TheVariants.{Normal, Extended}
use Rattle.tpdu.specs.steps.Reading.{Found, Head, head_at, read_at, sections_at}
use Rattle.tpdu.proofs.FaultOrder.{fault_of, fault-read}
use Rattle.tpdu.proofs.Heads.{head_ok}
use Rattle.tpdu.proofs.ReadLaws.{read_complete, read_sound}
use Rattle.tp4_conn.specs.End.{agreed_format}
use Rattle.tp4_entity.specs.Entity.{Entity, end_at, there}
use Rattle.tp4_entity.specs.Unit.{extended_from, extended_of, listed_if}
use Rattle.tp4_entity.specs.steps.Places.{destination_in, extended_front, format_of, is_extended}
use Rattle.tp4_entity.proofs.PlaceLaws.{Place, end_at_of}

-- ---- the references that are listed

abbrev is_in : ℕ → List ℕ → Bool
is_in wanted references = list_any (λ reference. reference == wanted) references

eq_yes : (a b : ℕ) → a ≡ b → (a == b) ≡ true
eq_yes a b h = grind (arith, nat_tests)

listed_other : (format : Format) (one wanted : ℕ) (others : List ℕ) → one ≢ wanted → is_in wanted (listed_if format one others) ≡ is_in wanted others
listed_other Normal one wanted others apart = refl
listed_other Extended one wanted others apart = ap (λ (b : Bool). b || is_in wanted others) (ne_eqb one wanted apart)

listed_here : (format : Format) (one wanted : ℕ) (others : List ℕ) → one ≡ wanted → is_in wanted others ≡ false → is_in wanted (listed_if format one others) ≡ is_extended format
listed_here Normal one wanted others same none = none
listed_here Extended one wanted others same none = ap (λ (b : Bool). b || is_in wanted others) (eq_yes one wanted same)

below : (from wanted : ℕ) (ends : List Place) → wanted < from → is_in wanted (extended_from from ends) ≡ false
below from wanted [] low = refl
below from wanted (None ∷ ends) low = below (from + 1) wanted ends (omega arith)
below from wanted (Some end ∷ ends) low =
    let apart : from ≢ wanted = omega arith in
    listed_other (agreed_format end.base.agreed) from wanted (extended_from (from + 1) ends) apart ∙ below (from + 1) wanted ends (omega arith)

listed_at : (from wanted at : ℕ) (ends : List Place) → wanted ≡ from + at → is_in wanted (extended_from from ends) ≡ is_extended (format_of (there (slice_get ends at)))
listed_at from wanted at [] is = refl
listed_at from wanted zero (None ∷ ends) is = below (from + 1) wanted ends (omega arith)
listed_at from wanted zero (Some end ∷ ends) is =
    let same : from ≡ wanted = omega arith in
    listed_here (agreed_format end.base.agreed) from wanted (extended_from (from + 1) ends) same (below (from + 1) wanted ends (omega arith))
listed_at from wanted (suc at) (None ∷ ends) is = listed_at (from + 1) wanted at ends (omega arith)
listed_at from wanted (suc at) (Some end ∷ ends) is =
    let apart : from ≢ wanted = omega arith in
    listed_other (agreed_format end.base.agreed) from wanted (extended_from (from + 1) ends) apart ∙ listed_at (from + 1) wanted at ends (omega arith)

back : (format : Format) → cond (is_extended format) Extended Normal ≡ format
back Normal = refl
back Extended = refl

-- the format of a listed reference is that of its end
pub format_is : (e : Entity) (wanted : ℕ) → format_for (extended_of e) (Some wanted) ≡ format_of (end_at e wanted)
format_is e zero = ap (λ (b : Bool). cond b Extended Normal) (below 1 0 e.ends (omega arith))
format_is e (suc at) =
    ap (λ (b : Bool). cond b Extended Normal) (listed_at 1 (suc at) at e.ends (omega arith)) ∙ back (format_of (there (slice_get e.ends at)))
    ∙ ap format_of (sym (end_at_of e (suc at) at (omega arith)))

-- ---- the one that is handed on

abbrev pub handed : Option ℕ → List ℕ
handed None = []
handed (Some reference) = reference ∷ []

one_listed : (one : ℕ) → format_for (one ∷ []) (Some one) ≡ Extended
one_listed one = ap (λ (b : Bool). cond (b || false) Extended Normal) (eq_yes one one refl)

handed_by : (format : Format) (one : ℕ) → format_for (handed (cond (is_extended format) (Some one) None)) (Some one) ≡ format
handed_by Normal one = refl
handed_by Extended one = one_listed one

pub handed_is : (e : Entity) (front : Option ℕ) → format_for (handed (extended_front e front)) front ≡ format_for (extended_of e) front
handed_is e None = refl
handed_is e (Some one) = handed_by (format_of (end_at e one)) one ∙ sym (format_is e one)

-- ---- reading by lists that agree there

looks_at : (count : ℕ) (octets : List ℕ) → (reference (drop 2 (take count octets)) ≡ None) ⊎ (reference (drop 2 (take count octets)) ≡ destination_in octets)
looks_at (suc zero) (a ∷ octets) = inl refl
looks_at (suc (suc zero)) (a ∷ b ∷ octets) = inl refl
looks_at (suc (suc (suc zero))) (a ∷ b ∷ c ∷ octets) = inl refl
looks_at (suc (suc (suc (suc count)))) (a ∷ b ∷ c ∷ d ∷ octets) = inr refl
looks_at count octets = inl refl

alike_for : (one other octets : List ℕ) (front : Option ℕ) → format_for one (destination_in octets) ≡ format_for other (destination_in octets)
    → (front ≡ None) ⊎ (front ≡ destination_in octets) → format_for one front ≡ format_for other front
alike_for one other octets front same (inl is) = ap (format_for one) is ∙ ap (format_for other) (sym is)
alike_for one other octets front same (inr is) = ap (format_for one) is ∙ same ∙ ap (format_for other) (sym is)

alike_at : (one other octets : List ℕ) (head : Head) → format_for one (destination_in octets) ≡ format_for other (destination_in octets) → head_at octets ≡ Ok head
    → format_at one head.kind head.fields ≡ format_at other head.kind head.fields
alike_at one other octets head same is =
    let fields_is : head.fields ≡ drop 2 (header octets) = ap (λ (h : Head). h.fields) (head_ok octets head is).is in
    let front = alike_for one other octets (reference (drop 2 (header octets))) same (looks_at (indicator octets + 1) octets) in
    ap (format_at one head.kind) fields_is ∙ ap (λ (f : Format). cond (is_request head.kind) Normal f) front ∙ ap (format_at other head.kind) (sym fields_is)

bind_alike : {A B : Type 0} (r : Result A TpduFault) (f g : A → Result B TpduFault) → ((x : A) → r ≡ Ok x → f x ≡ g x) → (r >>= f) ≡ (r >>= g)
bind_alike (Ok x) f g h = h x refl
bind_alike (Err fault) f g h = refl

pub read_alike : (one other octets : List ℕ) → format_for one (destination_in octets) ≡ format_for other (destination_in octets) → read_at one octets ≡ read_at other octets
unfolding read_at sections_at
read_alike one other octets same = bind_alike (head_at octets) _ _ (λ head is. let e = alike_at one other octets head same is in rw e refl)

pub begins_alike : (one other octets : List ℕ) (tpdu : TpduAndSum) (rest : List ℕ) → format_for one (destination_in octets) ≡ format_for other (destination_in octets)
    → BeginsWithTpdu one octets tpdu rest → BeginsWithTpdu other octets tpdu rest
begins_alike one other octets tpdu rest same begins =
    read_sound other octets tpdu rest (sym (read_alike one other octets same) ∙ read_complete one octets tpdu rest begins)

pub fault_alike : (one other octets : List ℕ) (fault : TpduFault) → format_for one (destination_in octets) ≡ format_for other (destination_in octets)
    → IsTpduFault one octets fault → IsTpduFault other octets fault
fault_alike one other octets fault same is =
    sym (fault-read other octets) ∙ ap (fault_of {A = Found}) (sym (read_alike one other octets same)) ∙ fault-read one octets ∙ is
