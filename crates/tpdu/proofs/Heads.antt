-- The front of a TPDU, step by step: what each step of reading gives where it passes, and that it passes
-- where the octets are spelled so.
use Rattle.std.proofs.Common.{◌≡◌, ℕ, suc, ◌+◌, ◌/◌, ◌<◌, ◌≤◌, ◌≢◌, Bool, true, false, cond, not, ◌&&◌, ◌||◌, leb, ltb, nat_eq, List, [], ◌∷◌, ◌++◌, length, take, drop, Option, Some, None, Result, Ok, Err, refl, sym, ap, subst, ◌∙◌, arith}
use Rattle.std.specs.Prelude.{is_some, slice_index, ⊤}
use Rattle.std.proofs.lemmas.Bool.{eqb-true, leb-false, ltb-false, le-ltb, eqb-false, ne_eqb, lt-leb}
use Rattle.std.proofs.lemmas.List.{take_at, drop_at, take-append-drop, length-append, length-take}
use Rattle.osi_base.specs.Fletcher.{is_sealed}
use Rattle.tpdu.specs.declared.kind.Kind.{Kind}
use Rattle.tpdu.specs.declared.tpdu.Format.{Format}
use Rattle.tpdu.specs.Kinds.{kind_of, fixed_count, is_request, is_connect, takes_rest, data_suits}
use Rattle.tpdu.specs.Faults.{indicator, header, behind, format_at}
use Rattle.pdu_parts.proofs.Readings.{◌>>=◌, unless}
use Rattle.tpdu.specs.steps.Reading.{Head, head_for, head_by, head_at, Sections, sections_by, sections_at, close_at}

-- ---- steps that passed

pub bind_ok : {A B F : Type 0} (r : Result A F) (f : A → Result B F) (y : B) → (r >>= f) ≡ Ok y → (x : A) × (r ≡ Ok x) × (f x ≡ Ok y)
bind_ok (Ok x) f y e = (x, refl, e)
bind_ok (Err d) f y e = absurd cc

abbrev pub done : {A F : Type 0} → A → Result A F
done x = Ok x

pub ok_is : {A F : Type 0} (x y : A) → done {F = F} x ≡ done y → x ≡ y
ok_is x y e = cc

pub guard_ok : {A F : Type 0} (b : Bool) (f : F) (r : Result A F) (y : A) → cond b (Err f) r ≡ Ok y → (b ≡ false) × (r ≡ Ok y)
guard_ok true f r y e = absurd cc
guard_ok false f r y e = (refl, e)

pub pass_ok : {A F : Type 0} (b : Bool) (f : F) (r : Result A F) (y : A) → cond b r (Err f) ≡ Ok y → (b ≡ true) × (r ≡ Ok y)
pass_ok true f r y e = (refl, e)
pass_ok false f r y e = absurd cc

pub unless_ok : {A F : Type 0} (o : Option F) (x y : A) → unless o x ≡ Ok y → (o ≡ None) × (x ≡ y)
unless_ok None x y e = (refl, ok_is x y e)
unless_ok (Some f) x y e = absurd cc

pub or_false : (a b : Bool) → (a || b) ≡ false → (a ≡ false) × (b ≡ false)
or_false false b e = (refl, e)
or_false true b e = absurd cc

pub and_false : (a b : Bool) → (a && not b) ≡ false → a ≡ true → b ≡ true
and_false true true e h = refl
and_false true false e h = absurd cc
and_false false b e h = absurd cc

-- ---- the length indicator, the code and the fields of the header

-- the octets up to where the length indicator says, and those behind
pub record Cut (octets : List ℕ) : Type 0 where
  pub parts : octets ≡ indicator octets ∷ slice_index octets 1 ∷ (drop 2 (header octets) ++ behind octets)
  pub front : header octets ≡ indicator octets ∷ slice_index octets 1 ∷ drop 2 (header octets)
  pub count : length (drop 2 (header octets)) + 1 ≡ indicator octets

cut_at : (k code : ℕ) (more : List ℕ) → k ≤ length more → Cut (suc k ∷ code ∷ more)
cut_at k code more le =
    let e : suc k + 1 ≡ suc (suc k) = omega arith in
    let h : header (suc k ∷ code ∷ more) ≡ suc k ∷ code ∷ take k more = ap (λ (n : ℕ). take n (suc k ∷ code ∷ more)) e in
    let b : behind (suc k ∷ code ∷ more) ≡ drop k more = ap (λ (n : ℕ). drop n (suc k ∷ code ∷ more)) e in
    record {
      parts = rw (h, b) (ap (λ (t : List ℕ). suc k ∷ code ∷ t) (sym (take-append-drop k more)));
      front = rw h refl;
      count = rw h (omega (arith, length-take k more));
    }

pub cut : (octets : List ℕ) → 0 < indicator octets → indicator octets < length octets → Cut octets
cut (suc k ∷ code ∷ more) some within = cut_at k code more (omega arith)
cut octets some within = absurd (omega arith)

-- the length indicator is none
abbrev pub is_unusable : List ℕ → Bool
is_unusable octets = nat_eq (indicator octets) 0 || ltb 254 (indicator octets) || leb (length octets) (indicator octets)

pub usable : (octets : List ℕ) → is_unusable octets ≡ false → (0 < indicator octets) × (indicator octets < length octets) × (indicator octets ≤ 254)
usable octets e =
    let i = indicator octets in
    let c = or_false (nat_eq i 0 || ltb 254 i) (leb (length octets) i) e in
    let d = or_false (nat_eq i 0) (ltb 254 i) c.0 in
    let some : i ≢ 0 = eqb-false _ _ d.0 in
    (omega arith, leb-false _ _ c.1, ltb-false _ _ d.1)

pub record HeadIs (octets : List ℕ) (head : Head) : Type 0 where
  pub least : 0 < indicator octets
  pub most : indicator octets < length octets
  pub used : indicator octets ≤ 254
  pub kind : kind_of (slice_index octets 1) ≡ Some head.kind
  pub is : head ≡ head_for head.kind octets

head_by-ok : (octets : List ℕ) (o : Option Kind) (head : Head) → head_by octets o ≡ Ok head
    → (o ≡ Some head.kind) × (head ≡ head_for head.kind octets)
head_by-ok octets None head e = absurd cc
head_by-ok octets (Some kind) head e =
    let is = ok_is (head_for kind octets) head e in
    let k : kind ≡ head.kind = ap (λ (h : Head). h.kind) is in
    (ap Some k, sym is ∙ ap (λ (x : Kind). head_for x octets) k)

pub head_ok : (octets : List ℕ) (head : Head) → head_at octets ≡ Ok head → HeadIs octets head
unfolding head_at
head_ok octets head e =
    let a = guard_ok (ltb (length octets) 2) _ _ head e in
    let b = guard_ok (is_unusable octets) _ _ head a.1 in
    let i = usable octets b.0 in
    let h = head_by-ok octets (kind_of (slice_index octets 1)) head b.1 in
    record { least = i.0; most = i.1; used = i.2; kind = h.0; is = h.1 }

-- octets that are spelled so: a length indicator, a code, fields, and what is behind them
pub record Fronted (octets : List ℕ) (code : ℕ) (inside after : List ℕ) : Type 0 where
  pub all : octets ≡ suc (length inside) ∷ code ∷ (inside ++ after)
  pub short : length inside ≤ 253

fronted-header : (code : ℕ) (inside after : List ℕ) → take (suc (length inside) + 1) (suc (length inside) ∷ code ∷ (inside ++ after)) ≡ suc (length inside) ∷ code ∷ inside
fronted-header code inside after =
    let e : suc (length inside) + 1 ≡ suc (suc (length inside)) = omega arith in
    ap (λ (n : ℕ). take n (suc (length inside) ∷ code ∷ (inside ++ after))) e ∙ ap (λ (t : List ℕ). suc (length inside) ∷ code ∷ t) (take_at inside after (length inside) refl)

fronted-behind : (code : ℕ) (inside after : List ℕ) → drop (suc (length inside) + 1) (suc (length inside) ∷ code ∷ (inside ++ after)) ≡ after
fronted-behind code inside after =
    let e : suc (length inside) + 1 ≡ suc (suc (length inside)) = omega arith in
    ap (λ (n : ℕ). drop n (suc (length inside) ∷ code ∷ (inside ++ after))) e ∙ drop_at inside after (length inside) refl

pub record Refront (octets : List ℕ) (code : ℕ) (inside after : List ℕ) : Type 0 where
  pub indicator_is : indicator octets ≡ suc (length inside)
  pub code_is : slice_index octets 1 ≡ code
  pub header_is : header octets ≡ suc (length inside) ∷ code ∷ inside
  pub behind_is : behind octets ≡ after
  pub count_is : length octets ≡ 2 + length inside + length after

refront_at : (code : ℕ) (inside after : List ℕ) → Refront (suc (length inside) ∷ code ∷ (inside ++ after)) code inside after
refront_at code inside after = record {
  indicator_is = refl;
  code_is = refl;
  header_is = fronted-header code inside after;
  behind_is = fronted-behind code inside after;
  count_is = omega (arith, length-append inside after);
}

pub refront : (octets : List ℕ) (code : ℕ) (inside after : List ℕ) → Fronted octets code inside after → Refront octets code inside after
refront octets code inside after f = subst (λ (o : List ℕ). Refront o code inside after) (sym f.all) (refront_at code inside after)

head_by-again : (octets : List ℕ) (o : Option Kind) (kind : Kind) (made : Head) → o ≡ Some kind
    → head_for kind octets ≡ made → head_by octets o ≡ Ok made
head_by-again octets o kind made e is = rw e (ap done is)

pub head_again : (octets : List ℕ) (code : ℕ) (inside after : List ℕ) (kind : Kind) → Fronted octets code inside after → kind_of code ≡ Some kind
    → head_at octets ≡ Ok (record { kind = kind; code = code; fields = inside; all = cond (takes_rest kind) octets (suc (length inside) ∷ code ∷ inside); body = cond (takes_rest kind) after []; rest = cond (takes_rest kind) [] after })
unfolding head_at
head_again octets code inside after kind f k =
    let r = refront octets code inside after f in
    let short : ltb (length octets) 2 ≡ false = le-ltb _ _ (omega (arith, r.count_is)) in
    let zero_not : nat_eq (indicator octets) 0 ≡ false = ne_eqb _ _ (λ e. omega (arith, r.indicator_is, e)) in
    let used : ltb 254 (indicator octets) ≡ false = le-ltb _ _ (omega (arith, r.indicator_is, f.short)) in
    let within : leb (length octets) (indicator octets) ≡ false = lt-leb _ _ (omega (arith, r.indicator_is, r.count_is)) in
    let known : kind_of (slice_index octets 1) ≡ Some kind = ap kind_of r.code_is ∙ k in
    let is : head_for kind octets ≡ record { kind = kind; code = code; fields = inside; all = cond (takes_rest kind) octets (suc (length inside) ∷ code ∷ inside); body = cond (takes_rest kind) after []; rest = cond (takes_rest kind) [] after }
    = λ i. record {
      kind = kind;
      code = r.code_is i;
      fields = drop 2 (r.header_is i);
      all = cond (takes_rest kind) octets (r.header_is i);
      body = cond (takes_rest kind) (r.behind_is i) [];
      rest = cond (takes_rest kind) [] (r.behind_is i);
    }
    in
    rw (short, zero_not, used, within) (head_by-again octets (kind_of (slice_index octets 1)) kind _ known is)

-- ---- the sections of the header

pub record SectionsAre (extended : List ℕ) (kind : Kind) (inside : List ℕ) (sections : Sections) : Type 0 where
  pub format : sections.format ≡ format_at extended kind inside
  pub fixed : sections.fixed ≡ take (fixed_count kind sections.format) inside
  pub parameters : sections.parameters ≡ drop (fixed_count kind sections.format) inside
  pub count : fixed_count kind sections.format ≤ length inside
  pub class : is_connect kind ≡ true → slice_index inside 4 / 16 ≡ 4

sections_by-ok : (kind : Kind) (inside : List ℕ) (format : Format) (sections : Sections) → sections_by kind inside format (fixed_count kind format) ≡ Ok sections
    → (sections ≡ record { format = format; fixed = take (fixed_count kind format) inside; parameters = drop (fixed_count kind format) inside })
    × (fixed_count kind format ≤ length inside) × (is_connect kind ≡ true → slice_index inside 4 / 16 ≡ 4)
sections_by-ok kind inside format sections e =
    let a = guard_ok (ltb (length inside) (fixed_count kind format)) _ _ sections e in
    let b = guard_ok (is_connect kind && not (nat_eq (slice_index inside 4 / 16) 4)) _ _ sections a.1 in
    (sym (ok_is _ _ b.1), ltb-false _ _ a.0, λ h. eqb-true _ _ (and_false _ _ b.0 h))

pub sections_ok : (extended : List ℕ) (kind : Kind) (inside : List ℕ) (sections : Sections) → sections_at extended kind inside ≡ Ok sections → SectionsAre extended kind inside sections
unfolding sections_at
sections_ok extended kind inside sections e =
    let r = sections_by-ok kind inside (format_at extended kind inside) sections e in
    let format : sections.format ≡ format_at extended kind inside = ap (λ (s : Sections). s.format) r.0 in
    record {
      format = format;
      fixed = ap (λ (s : Sections). s.fixed) r.0 ∙ ap (λ (f : Format). take (fixed_count kind f) inside) (sym format);
      parameters = ap (λ (s : Sections). s.parameters) r.0 ∙ ap (λ (f : Format). drop (fixed_count kind f) inside) (sym format);
      count = rw format r.1;
      class = r.2;
    }

connect_passes : (c : Bool) (octet : ℕ) → (c ≡ true → octet ≡ 4) → (c && not (nat_eq octet 4)) ≡ false
connect_passes true octet h = rw (h refl) refl
connect_passes false octet h = refl

pub sections_again : (extended : List ℕ) (kind : Kind) (fixed parameters : List ℕ) (format : Format)
    → format_at extended kind (fixed ++ parameters) ≡ format → length fixed ≡ fixed_count kind format → (is_connect kind ≡ true → slice_index (fixed ++ parameters) 4 / 16 ≡ 4)
    → sections_at extended kind (fixed ++ parameters) ≡ Ok (record { format = format; fixed = fixed; parameters = parameters })
unfolding sections_at
sections_again extended kind fixed parameters format is count class =
    let enough : ltb (length (fixed ++ parameters)) (fixed_count kind format) ≡ false = le-ltb _ _ (omega (arith, length-append fixed parameters, count)) in
    let passes = connect_passes (is_connect kind) (slice_index (fixed ++ parameters) 4 / 16) class in
    rw (is, enough, passes, take_at fixed parameters (fixed_count kind format) count, drop_at fixed parameters (fixed_count kind format) count) refl

-- ---- the checksum and the data

pub record Closes (kind : Kind) (sum : Option ℕ) (all body : List ℕ) : Type 0 where
  pub sealed : is_some sum ≡ true → is_sealed all ≡ true
  pub summed : is_request kind ≡ true → is_some sum ≡ true
  pub suits : data_suits kind (length body) ≡ true

pub close_ok : (kind : Kind) (sum : Option ℕ) (all : List ℕ) (place : ℕ) (body : List ℕ) (x : ⊤) → close_at kind sum all place body ≡ Ok x → Closes kind sum all body
unfolding close_at
close_ok kind (Some at) all place body x e =
    let a = pass_ok (is_sealed all) _ _ x e in
    let b = pass_ok (data_suits kind (length body)) _ _ x a.1 in
    record { sealed = λ _. a.0; summed = λ _. refl; suits = b.0 }
close_ok kind None all place body x e =
    let a = guard_ok (is_request kind) _ _ x e in
    let b = pass_ok (data_suits kind (length body)) _ _ x a.1 in
    record { sealed = λ h. absurd cc; summed = λ h. absurd cc; suits = b.0 }

is_false : (b c : Bool) → (b ≡ true → c ≡ true) → c ≡ false → b ≡ false
is_false true c h e = absurd (let k = h refl in cc)
is_false false c h e = refl

pub close_again : (kind : Kind) (sum : Option ℕ) (all : List ℕ) (place : ℕ) (body : List ℕ) → Closes kind sum all body → close_at kind sum all place body ≡ Ok tt
unfolding close_at
close_again kind (Some at) all place body c = rw (c.sealed refl, c.suits) refl
close_again kind None all place body c =
    let other : is_request kind ≡ false = is_false (is_request kind) false c.summed refl in
    rw (other, c.suits) refl
