-- One text is shown of a frame: each grammar has one front, and a fault excludes it.
use Rattle.std.proofs.Common.{◌≡◌, ◌⊎◌, ℕ, Bool, true, false, List, [], ◌∷◌, ◌++◌, length, drop, Option, Some, inl, inr, refl, sym, ◌∙◌, ap, subst, arith, length-append}
use Rattle.std.specs.Prelude.{slice_index}
use Rattle.pdu_parts.specs.Parameter.{Parameter, parameters_in, spelled}
use Rattle.clnp_options.specs.declared.reason.PduKind.{PduKind}
use Rattle.clnp_options.specs.declared.reason.PduKind.TheVariants.{Dt, Er}
use Rattle.clnp_header.specs.declared.pdu.Pdu.{Pdu}
use Rattle.clnp_header.proofs.Answered.{one_front as one_pdu, apart as pdu_apart}
use Rattle.esis_pdu.specs.Hellos.{Esis}
use Rattle.esis_pdu.proofs.Grammar.{one_front as one_hello, apart as hello_apart}
use Rattle.tpdu.specs.declared.tpdu.Tpdu.{Tpdu}
use Rattle.tpdu.specs.Faults.{reference}
use Rattle.tpdu.specs.Grammar.{BeginsWithTpdu}
use Rattle.tpdu.specs.Values.{TpduAndSum, format_for}
use Rattle.tpdu.specs.Writing.{kind_for}
use Rattle.tpdu.proofs.Fronts.{same_front, apart as tpdu_apart}
use Rattle.tpdu.proofs.Splits.{parameters-spelled}
use Rattle.capture_show.specs.declared.ends.End.{End}
use Rattle.capture_show.specs.Ends.{references_of, learned}
use Rattle.capture_show.specs.Hellos.{hello_line, bad_hello_line}
use Rattle.capture_show.specs.Pdus.{dt_line, er_line, bad_pdu_line, is_transport}
use Rattle.capture_show.specs.Shown.{Alien, BadHello, BadPdu, Carries, Clnp, EsIs, OfDt, OfEr, OfHello, ShowsCarried, ShowsData, ShowsHello, ShowsPdu, ShowsTpdu, ShowsUnit, is_other, lines_text}
use Rattle.capture_show.specs.Tpdus.{tpdu_line, bad_tpdu_line}
use Rattle.capture_show.proofs.Tpdus.{are_there}

-- ---- TPDUs

-- the parameters of the TPDU at the front are one list
one_parameters : (extended octets : List ℕ) (tpdu other : TpduAndSum) (rest more : List ℕ) (f : BeginsWithTpdu extended octets tpdu rest) (g : BeginsWithTpdu extended octets other more)
    → tpdu ≡ other → f.begins.stands.parts.parameters ≡ g.begins.stands.parts.parameters
one_parameters extended octets tpdu other rest more f g same =
    let one = are_there extended octets tpdu rest (kind_for tpdu.0) (format_for extended (reference (drop 2 octets))) f refl refl in
    let second = are_there extended octets other more (kind_for tpdu.0) (format_for extended (reference (drop 2 octets))) g (ap (λ (x : TpduAndSum). kind_for x.0) same) refl in
    sym one.is ∙ second.is

record OneTpdu (line other rest more : List ℕ) (after last : List End) : Type 0 where
  pub line_is : line ≡ other
  pub rest_is : rest ≡ more
  pub after_is : after ≡ last

one_tpdu : (to from : List ℕ) (ends : List End) (octets line other rest more : List ℕ) (after last : List End)
    → ShowsTpdu to from ends octets line rest after → ShowsTpdu to from ends octets other more last → OneTpdu line other rest more after last
one_tpdu to from ends octets line other rest more after last s t =
    let same = same_front (references_of to ends) octets s.tpdu t.tpdu rest more s.begins t.begins in
    let value : s.tpdu.0 ≡ t.tpdu.0 = ap (λ (x : TpduAndSum). x.0) same.0 in
    let parameters = one_parameters (references_of to ends) octets s.tpdu t.tpdu rest more s.begins t.begins same.0 in
    record {
      line_is = s.line_is ∙ (λ i. tpdu_line (value i) (parameters i)) ∙ sym t.line_is;
      rest_is = same.1;
      after_is = s.after_is ∙ ap (λ (x : Tpdu). learned to from x ends) value ∙ sym t.after_is;
    }

one_found : {F : Type 0} (fault other : F) (found : Option F) → found ≡ Some fault → found ≡ Some other → fault ≡ other
one_found fault other found e f = let same : Some fault ≡ Some other = sym e ∙ f in cc

-- nothing is no TPDU
no_tpdu : (to from : List ℕ) (ends : List End) (octets line rest : List ℕ) (after : List End) → octets ≡ [] → ShowsTpdu to from ends octets line rest after → ⊥
no_tpdu to from ends octets line rest after nil s =
    let f = s.begins.begins in
    let whole : [] ≡ f.front ++ rest = sym nil ∙ f.whole in
    let long = ap length whole ∙ length-append f.front rest in
    let some = ap length f.stands.spells.all in
    omega (arith, long, some)

record OneUnit (lines others : List (List ℕ)) (after last : List End) : Type 0 where
  pub lines_are : lines ≡ others
  pub after_is : after ≡ last

one_unit : (to from : List ℕ) (ends : List End) (octets : List ℕ) (lines others : List (List ℕ)) (after last : List End)
    → ShowsUnit to from ends octets lines after → ShowsUnit to from ends octets others last → OneUnit lines others after last
one_unit to from ends octets [] [] after last s t = record { lines_are = refl; after_is = s.1 ∙ sym t.1 }
one_unit to from ends octets [] (line ∷ others) after last s (inl t) = absurd (let some = t.0.some in let none = ap length s.0 in omega (arith, some, none))
one_unit to from ends octets [] (line ∷ others) after last s (inr t) = absurd (no_tpdu to from ends octets line t.0 t.1 s.0 t.2)
one_unit to from ends octets (line ∷ lines) [] after last (inl s) t = absurd (let some = s.0.some in let none = ap length t.0 in omega (arith, some, none))
one_unit to from ends octets (line ∷ lines) [] after last (inr s) t = absurd (no_tpdu to from ends octets line s.0 s.1 t.0 s.2)
one_unit to from ends octets (line ∷ lines) (other ∷ others) after last (inl s) (inl t) =
    let same : line ≡ other = s.0.line_is ∙ ap bad_tpdu_line (one_found s.0.fault t.0.fault _ s.0.fails t.0.fails) ∙ sym t.0.line_is in
    let more : lines ≡ others = s.1 ∙ sym t.1 in
    record { lines_are = λ i. same i ∷ more i; after_is = s.2 ∙ sym t.2 }
one_unit to from ends octets (line ∷ lines) (other ∷ others) after last (inl s) (inr t) =
    absurd (tpdu_apart (references_of to ends) octets t.0 t.2.tpdu s.0.fault t.2.begins s.0.fails)
one_unit to from ends octets (line ∷ lines) (other ∷ others) after last (inr s) (inl t) =
    absurd (tpdu_apart (references_of to ends) octets s.0 s.2.tpdu t.0.fault s.2.begins t.0.fails)
one_unit to from ends octets (line ∷ lines) (other ∷ others) after last (inr s) (inr t) =
    let one = one_tpdu to from ends octets line other s.0 t.0 s.1 t.1 s.2 t.2 in
    let there : ShowsUnit to from s.1 s.0 others last =
    subst (λ (x : List ℕ). ShowsUnit to from s.1 x others last) (sym one.rest_is) (subst (λ (x : List End). ShowsUnit to from x t.0 others last) (sym one.after_is) t.3) in
    let later = one_unit to from s.1 s.0 lines others after last s.3 there in
    let first = one.line_is in
    let more = later.lines_are in
    record { lines_are = λ i. first i ∷ more i; after_is = later.after_is }

one_data : (b : Bool) (pdu : Pdu) (ends : List End) (lines others : List (List ℕ)) (after last : List End)
    → ShowsData b pdu ends lines after → ShowsData b pdu ends others last → OneUnit lines others after last
one_data true pdu ends lines others after last s t = one_unit pdu.destination pdu.source ends pdu.body lines others after last s t
one_data false pdu ends lines others after last s t = record { lines_are = s.0 ∙ sym t.0; after_is = s.1 ∙ sym t.1 }

-- ---- what is carried

same_carried : (carried : Option (List ℕ)) (one other : ℕ) (pdu second : List ℕ) → Carries carried one pdu → Carries carried other second → pdu ≡ second
same_carried carried one other pdu second s t = let e : Some pdu ≡ Some second = sym s.is ∙ t.is in cc

same_protocol : (carried : Option (List ℕ)) (one other : ℕ) (pdu second : List ℕ) → Carries carried one pdu → Carries carried other second → one ≡ other
same_protocol carried one other pdu second s t = sym s.first ∙ ap (λ (xs : List ℕ). slice_index xs 0) (same_carried carried one other pdu second s t) ∙ t.first

not_other : (carried : Option (List ℕ)) (protocol : ℕ) (pdu : List ℕ) → (protocol ≡ 0x81) ⊎ (protocol ≡ 0x82) → Carries carried protocol pdu → is_other carried ≡ true → ⊥
not_other carried protocol pdu (inl e) s other = let h = ap is_other (sym s.is) ∙ other in let first : slice_index pdu 0 ≡ 0x81 = s.first ∙ e in let k = rw first at h in cc
not_other carried protocol pdu (inr e) s other = let h = ap is_other (sym s.is) ∙ other in let first : slice_index pdu 0 ≡ 0x82 = s.first ∙ e in let k = rw first at h in cc

one_options : (options : List ℕ) (ps others : List Parameter) → options ≡ spelled ps → options ≡ spelled others → ps ≡ others
one_options options ps others e f = sym (parameters-spelled ps).0 ∙ ap parameters_in (sym e ∙ f) ∙ (parameters-spelled others).0

-- ---- PDUs and hellos

record OneText (text other : List ℕ) (after last : List End) : Type 0 where
  pub text_is : text ≡ other
  pub after_is : after ≡ last

not_both : (kind : PduKind) → kind ≡ Dt → kind ≡ Er → ⊥
not_both kind e f = let same : Dt ≡ Er = sym e ∙ f in cc

one_of_pdu : (octets : List ℕ) (ends : List End) (text other : List ℕ) (after last : List End)
    → ShowsPdu octets ends text after → ShowsPdu octets ends other last → OneText text other after last
one_of_pdu octets ends text other after last (BadPdu fault fails e n) (BadPdu second f g m) =
    record { text_is = e ∙ ap bad_pdu_line (one_found fault second _ fails f) ∙ sym g; after_is = n ∙ sym m }
one_of_pdu octets ends text other after last (BadPdu fault fails e n) (OfEr pdu rest begins kind f m) = absurd (pdu_apart octets rest pdu fault begins fails)
one_of_pdu octets ends text other after last (BadPdu fault fails e n) (OfDt pdu rest lines begins kind shows f) = absurd (pdu_apart octets rest pdu fault begins fails)
one_of_pdu octets ends text other after last (OfEr pdu rest begins kind e n) (BadPdu fault fails f m) = absurd (pdu_apart octets rest pdu fault begins fails)
one_of_pdu octets ends text other after last (OfEr pdu rest begins kind e n) (OfEr second more found same f m) =
    record { text_is = e ∙ ap er_line (one_pdu octets pdu second rest more begins found).0 ∙ sym f; after_is = n ∙ sym m }
one_of_pdu octets ends text other after last (OfEr pdu rest begins kind e n) (OfDt second more lines found same shows f) =
    absurd (not_both pdu.kind (ap (λ (x : Pdu). x.kind) (one_pdu octets pdu second rest more begins found).0 ∙ same) kind)
one_of_pdu octets ends text other after last (OfDt pdu rest lines begins kind shows e) (BadPdu fault fails f m) = absurd (pdu_apart octets rest pdu fault begins fails)
one_of_pdu octets ends text other after last (OfDt pdu rest lines begins kind shows e) (OfEr second more found same f m) =
    absurd (not_both pdu.kind kind (ap (λ (x : Pdu). x.kind) (one_pdu octets pdu second rest more begins found).0 ∙ same))
one_of_pdu octets ends text other after last (OfDt pdu rest lines begins kind shows e) (OfDt second more others found same told f) =
    let value = (one_pdu octets pdu second rest more begins found).0 in
    let told_here : ShowsData (is_transport pdu) pdu ends others last = subst (λ (x : Pdu). ShowsData (is_transport x) x ends others last) (sym value) told in
    let one = one_data (is_transport pdu) pdu ends lines others after last shows told_here in
    let lines_are = one.lines_are in
    record { text_is = e ∙ (λ i. dt_line (value i) ++ lines_text (lines_are i)) ∙ sym f; after_is = one.after_is }

one_of_hello : (octets text other : List ℕ) → ShowsHello octets text → ShowsHello octets other → text ≡ other
one_of_hello octets text other (BadHello fault fails e) (BadHello second f g) = e ∙ ap bad_hello_line (one_found fault second _ fails f) ∙ sym g
one_of_hello octets text other (BadHello fault fails e) (OfHello pdu rest options begins o f) = absurd (hello_apart octets rest pdu fault begins fails)
one_of_hello octets text other (OfHello pdu rest options begins o e) (BadHello fault fails f) = absurd (hello_apart octets rest pdu fault begins fails)
one_of_hello octets text other (OfHello pdu rest options begins o e) (OfHello second more others found p f) =
    let value = (one_hello octets pdu second rest more begins found).0 in
    let same = one_options pdu.options options others o (ap (λ (x : Esis). x.options) value ∙ p) in
    e ∙ (λ i. hello_line (value i).hello (same i)) ∙ sym f

one_carried : (carried : Option (List ℕ)) (ends : List End) (text other : List ℕ) (after last : List End)
    → ShowsCarried carried ends text after → ShowsCarried carried ends other last → OneText text other after last
one_carried carried ends text other after last (Alien some e n) (Alien none f m) = record { text_is = e ∙ sym f; after_is = n ∙ sym m }
one_carried carried ends text other after last (Alien none e n) (Clnp pdu c s) = absurd (not_other carried 0x81 pdu (inl refl) c none)
one_carried carried ends text other after last (Alien none e n) (EsIs pdu c s m) = absurd (not_other carried 0x82 pdu (inr refl) c none)
one_carried carried ends text other after last (Clnp pdu c s) (Alien none f m) = absurd (not_other carried 0x81 pdu (inl refl) c none)
one_carried carried ends text other after last (Clnp pdu c s) (Clnp second d t) =
    one_of_pdu pdu ends text other after last s (subst (λ (x : List ℕ). ShowsPdu x ends other last) (sym (same_carried carried 0x81 0x81 pdu second c d)) t)
one_carried carried ends text other after last (Clnp pdu c s) (EsIs second d t m) =
    absurd (let e = same_protocol carried 0x81 0x82 pdu second c d in omega (arith, e))
one_carried carried ends text other after last (EsIs pdu c s n) (Alien none f m) = absurd (not_other carried 0x82 pdu (inr refl) c none)
one_carried carried ends text other after last (EsIs pdu c s n) (Clnp second d t) =
    absurd (let e = same_protocol carried 0x82 0x81 pdu second c d in omega (arith, e))
one_carried carried ends text other after last (EsIs pdu c s n) (EsIs second d t m) =
    let there = subst (λ (x : List ℕ). ShowsHello x other) (sym (same_carried carried 0x82 0x82 pdu second c d)) t in
    record { text_is = one_of_hello pdu text other s there; after_is = n ∙ sym m }

pub one_text : (carried : Option (List ℕ)) (ends : List End) (text other : List ℕ) (after last : List End)
    → ShowsCarried carried ends text after → ShowsCarried carried ends other last → (text ≡ other) × (after ≡ last)
one_text carried ends text other after last s t = let one = one_carried carried ends text other after last s t in (one.text_is, one.after_is)
