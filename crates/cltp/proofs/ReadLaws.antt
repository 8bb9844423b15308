-- What is read is a UD by the grammar, and what is one is read.
use Rattle.std.proofs.Common.{◌≡◌, ℕ, suc, ◌+◌, ◌<◌, ◌≤◌, Bool, true, false, not, leb, ltb, nat_eq, List, ◌∷◌, ◌++◌, length, drop, Option, Some, None, Ok, refl, sym, ap, ◌∙◌, arith}
use Rattle.std.specs.Prelude.{is_some, slice_index, ⊤}
use Rattle.std.specs.List.{AllByRecursion}
use Rattle.std.proofs.lemmas.Bool.{eqb-true, le-ltb, lt-leb, ne_eqb, eq-eqb}
use Rattle.std.proofs.lemmas.List.{append-nil}
use Rattle.osi_base.specs.Fletcher.{is_sealed}
use Rattle.pdu_parts.specs.FirstFault.{first_failing}
use Rattle.pdu_parts.specs.Parameter.{Parameter, spelled, parameters_in, left_in}
use Rattle.tpdu.specs.Faults.{indicator, header, behind}
use Rattle.tpdu.specs.Parameters.{last_value, sum_place}
use Rattle.tpdu.proofs.Heads.{Fronted, bind_ok, cut, guard_ok, is_unusable, ok_is, pass_ok, refront, unless_ok, usable}
use Rattle.tpdu.proofs.Parts.{is_some-sum_place}
use Rattle.tpdu.proofs.Splits.{parameters-spelled, spelled-parameters}
use Rattle.script_journal.specs.declared.cause.UdCause.TheVariants.{Checksum}
use Rattle.cltp.specs.Faults.{fault_at, parameter_steps}
use Rattle.cltp.specs.Parameters.{Suits}
use Rattle.cltp.specs.Ud.{Ud, IsUd}
use Rattle.cltp.specs.steps.Reading.{Values, values_of, checked, Head, head_of, head_at, Selectors, both, close_at, read_at}
use Rattle.cltp.proofs.Parts.{steps-none, none-steps}

-- ---- steps that passed

not_false : (b : Bool) → not b ≡ false → b ≡ true
not_false true e = refl
not_false false e = absurd cc

record HeadIs (octets : List ℕ) (head : Head) : Type 0 where
  pub least : 0 < indicator octets
  pub most : indicator octets < length octets
  pub used : indicator octets ≤ 254
  pub code : slice_index octets 1 ≡ 0x40
  pub is : head_of octets ≡ head

head_ok : (octets : List ℕ) (head : Head) → head_at octets ≡ Ok head → HeadIs octets head
unfolding head_at
head_ok octets head e =
    let a = guard_ok (ltb (length octets) 2) _ _ head e in
    let b = guard_ok (is_unusable octets) _ _ head a.1 in
    let i = usable octets b.0 in
    let h = guard_ok (not (nat_eq (slice_index octets 1) 0x40)) _ _ head b.1 in
    record { least = i.0; most = i.1; used = i.2; code = eqb-true _ _ (not_false _ h.0); is = ok_is (head_of octets) head h.1 }

both_ok : (a b : Option (List ℕ)) (s : Selectors) → both a b ≡ Ok s → (a ≡ Some s.from) × (b ≡ Some s.to)
both_ok None b s e = absurd cc
both_ok (Some from) None s e = absurd cc
both_ok (Some from) (Some to) s e =
    let is : let made : Selectors = record { from = from; to = to } in made ≡ s = ok_is _ s e in
    (ap (λ (t : Selectors). Some t.from) is, ap (λ (t : Selectors). Some t.to) is)

close_ok : (sum : Option ℕ) (octets : List ℕ) (x : ⊤) → close_at sum octets ≡ Ok x → is_some sum ≡ true → is_sealed octets ≡ true
unfolding close_at
close_ok None octets x e h = absurd cc
close_ok (Some place) octets x e h = (pass_ok (is_sealed octets) (fault_at Checksum place) (Ok tt) x e).0

pub read_sound : (octets : List ℕ) (ud : Ud) → read_at octets ≡ Ok ud → IsUd octets ud
unfolding read_at checked
read_sound octets ud e =
    let h = bind_ok (head_at octets) _ ud e in
    let c = bind_ok (checked 3 h.0.parameters) _ ud h.2 in
    let s = bind_ok (both c.0.source c.0.destination) _ ud c.2 in
    let d = bind_ok (close_at c.0.sum octets) _ ud s.2 in
    let head = head_ok octets h.0 h.1 in
    let inside = drop 2 (header octets) in
    let inside_is : inside ≡ h.0.parameters = ap (λ (x : Head). x.parameters) head.is in
    let body_is : behind octets ≡ h.0.body = ap (λ (x : Head). x.body) head.is in
    let ps = parameters_in h.0.parameters in
    let u = unless_ok (first_failing (parameter_steps 3 ps (left_in h.0.parameters))) (values_of 3 ps) c.0 c.1 in
    let n = steps-none 3 ps (left_in h.0.parameters) u.0 in
    let all : h.0.parameters ≡ spelled ps = sym (spelled-parameters h.0.parameters) ∙ ap (λ (t : List ℕ). spelled ps ++ t) n.0 ∙ append-nil (spelled ps) in
    let both_are = both_ok c.0.source c.0.destination s.0 s.1 in
    let made = ok_is _ ud d.2 in
    let part = cut octets head.least head.most in
    let count : length (spelled ps) + 1 ≡ indicator octets = ap (λ (t : List ℕ). length t + 1) (sym all ∙ sym inside_is) ∙ part.count in
    let data_is : behind octets ≡ ud.octets = body_is ∙ ap (λ (x : Ud). x.octets) made in
    record {
      parameters = ps;
      whole = part.parts ∙ λ i. sym count i ∷ head.code i ∷ ((inside_is ∙ all) i ++ data_is i);
      few = omega (arith, count, head.used);
      each = n.1;
      from = ap (λ (v : Values). v.source) u.1 ∙ both_are.0 ∙ ap (λ (x : Ud). Some x.from) made;
      to = ap (λ (v : Values). v.destination) u.1 ∙ both_are.1 ∙ ap (λ (x : Ud). Some x.to) made;
      sealed = λ h. close_ok c.0.sum octets d.0 d.1 (ap (λ (v : Values). is_some v.sum) (sym u.1) ∙ is_some-sum_place 3 ps ∙ h);
    }

-- ---- what is a UD is read

head_again : (octets inside after : List ℕ) → Fronted octets 0x40 inside after → head_at octets ≡ Ok (record { parameters = inside; body = after })
unfolding head_at
head_again octets inside after f =
    let r = refront octets 0x40 inside after f in
    let short : ltb (length octets) 2 ≡ false = le-ltb _ _ (omega (arith, r.count_is)) in
    let zero_not : nat_eq (indicator octets) 0 ≡ false = ne_eqb _ _ (λ e. omega (arith, r.indicator_is, e)) in
    let used : ltb 254 (indicator octets) ≡ false = le-ltb _ _ (omega (arith, r.indicator_is, f.short)) in
    let within : leb (length octets) (indicator octets) ≡ false = lt-leb _ _ (omega (arith, r.indicator_is, r.count_is)) in
    let code : nat_eq (slice_index octets 1) 0x40 ≡ true = eq-eqb _ _ r.code_is in
    rw (short, zero_not, used, within, code) (λ i. Ok (record { parameters = drop 2 (r.header_is i); body = r.behind_is i }))

checked_again : (ps : List Parameter) → AllByRecursion Suits ps → checked 3 (spelled ps) ≡ Ok (values_of 3 ps)
unfolding checked
checked_again ps suit = let again = parameters-spelled ps in rw (again.0, again.1, none-steps 3 ps suit) refl

both_again : (a b : Option (List ℕ)) (from to : List ℕ) → a ≡ Some from → b ≡ Some to → both a b ≡ Ok (record { from = from; to = to })
both_again a b from to e f = rw (e, f) refl

close_again : (sum : Option ℕ) (octets : List ℕ) → (is_some sum ≡ true → is_sealed octets ≡ true) → close_at sum octets ≡ Ok tt
unfolding close_at
close_again None octets h = refl
close_again (Some place) octets h = rw (h refl) refl

pub read_complete : (octets : List ℕ) (ud : Ud) → IsUd octets ud → read_at octets ≡ Ok ud
unfolding read_at
read_complete octets ud is =
    let ps = is.parameters in
    let n : length (spelled ps) + 1 ≡ suc (length (spelled ps)) = omega arith in
    let fronted : Fronted octets 0x40 (spelled ps) ud.octets = record {
      all = is.whole ∙ ap (λ (k : ℕ). k ∷ 0x40 ∷ (spelled ps ++ ud.octets)) n;
      short = omega (arith, is.few);
    } in
    let head = head_again octets (spelled ps) ud.octets fronted in
    let values = checked_again ps is.each in
    let selectors = both_again (last_value 0xC1 ps) (last_value 0xC2 ps) ud.from ud.to is.from is.to in
    let close = close_again (sum_place 3 ps) octets (λ h. is.sealed (sym (is_some-sum_place 3 ps) ∙ h)) in
    rw (head, values, selectors, close) refl
