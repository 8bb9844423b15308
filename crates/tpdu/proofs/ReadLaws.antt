-- What is read stands at the front by the grammar, and what stands there is read.
use Rattle.std.proofs.Common.{◌≡◌, ℕ, suc, ◌+◌, ◌/◌, ◌≤◌, Bool, true, false, cond, List, [], ◌∷◌, ◌++◌, length, drop, get_or, Option, Some, None, Ok, refl, sym, ap, ◌∙◌, append_assoc, arith}
use Rattle.std.specs.Prelude.{is_some, IsTrue, slice_index}
use Rattle.std.specs.List.{AllByRecursion}
use Rattle.std.proofs.lemmas.Bool.{eqb-true}
use Rattle.std.proofs.lemmas.List.{append-nil, take-append-drop, length-take, get_or_append_left, nil_from_length}
use Rattle.tpdu.specs.declared.kind.Kind.{Kind}
use Rattle.tpdu.specs.declared.kind.Kind.TheVariants.{Cr, Cc, Dc, Dt, Ed, Ak, Ea, Er}
use Rattle.tpdu.specs.declared.tpdu.Format.{Format}
use Rattle.tpdu.specs.declared.tpdu.Format.TheVariants.{Normal}
use Rattle.tpdu.specs.Kinds.{kind_of, fixed_count, is_request, is_connect, takes_rest, data_suits}
use Rattle.pdu_parts.specs.FirstFault.{first_failing}
use Rattle.pdu_parts.specs.Number.{number_at}
use Rattle.pdu_parts.specs.Parameter.{Parameter, spelled, parameters_in, left_in}
use Rattle.tpdu.specs.Parameters.{sum_place}
use Rattle.tpdu.specs.Values.{TpduAndSum, Parts, value_of, fields, destination_of, reaches_end, format_for}
use Rattle.tpdu.specs.Grammar.{Suits, has_sum, Spells, BeginsWithTpdu}
use Rattle.tpdu.specs.Faults.{indicator, header, behind, whole, body_of, reference, format_at, parameter_steps}
use Rattle.tpdu.specs.steps.Reading.{Head, head_at, Sections, sections_at, close_at, checked, Found, parts_of, read_at}
use Rattle.tpdu.proofs.Splits.{spelled-parameters, parameters-spelled}
use Rattle.tpdu.proofs.Parts.{steps-none, none-steps, is_some-sum_place}
use Rattle.tpdu.proofs.Heads.{bind_ok, ok_is, unless_ok, cut, HeadIs, head_ok, Fronted, head_again, SectionsAre, sections_ok, sections_again, Closes, close_ok, close_again}

-- ---- what a value shows of its kind

-- the destination reference of the fixed part; a CR has none
abbrev pub shown : Kind → List ℕ → Option ℕ
shown Cr fixed = None
shown _ fixed = Some (number_at 0 fixed)

destination-fields : (kind : Kind) (format : Format) (code : ℕ) (fixed : List ℕ) (ps : List Parameter) (body : List ℕ) → destination_of (fields kind format code fixed ps body) ≡ shown kind fixed
destination-fields Cr width code fixed ps body = refl
destination-fields _ width code fixed ps body = refl

pub destination-value : (parts : Parts) → destination_of (value_of parts) ≡ shown parts.kind parts.fixed
unfolding value_of
destination-value parts = destination-fields parts.kind parts.format parts.code parts.fixed parts.parameters parts.body

reaches_end-fields : (kind : Kind) (format : Format) (code : ℕ) (fixed : List ℕ) (ps : List Parameter) (body : List ℕ) → reaches_end (fields kind format code fixed ps body) ≡ takes_rest kind
reaches_end-fields Cr width code fixed ps body = refl
reaches_end-fields _ width code fixed ps body = refl

pub reaches_end-value : (parts : Parts) → reaches_end (value_of parts) ≡ takes_rest parts.kind
unfolding value_of
reaches_end-value parts = reaches_end-fields parts.kind parts.format parts.code parts.fixed parts.parameters parts.body

-- the fixed part has 3 to 8 octets
pub fixed_count-bounds : (kind : Kind) (format : Format) → (3 ≤ fixed_count kind format) × (fixed_count kind format ≤ 8)
fixed_count-bounds Dt Normal = (omega arith, omega arith)
fixed_count-bounds Ed Normal = (omega arith, omega arith)
fixed_count-bounds Ak Normal = (omega arith, omega arith)
fixed_count-bounds Ea Normal = (omega arith, omega arith)
fixed_count-bounds _ _ = (omega arith, omega arith)

fixed_count-connect : (kind : Kind) (format : Format) → is_connect kind ≡ true → fixed_count kind format ≡ 5
fixed_count-connect Cr width h = refl
fixed_count-connect Cc width h = refl
fixed_count-connect _ width h = absurd cc

-- a kind that ends with its header has no data
no_body : (kind : Kind) (n : ℕ) → takes_rest kind ≡ false → data_suits kind n ≡ true → n ≡ 0
no_body Dc n t h = eqb-true _ _ h
no_body Ak n t h = eqb-true _ _ h
no_body Ea n t h = eqb-true _ _ h
no_body Er n t h = eqb-true _ _ h
no_body _ n t h = absurd cc

-- the reference at the front of the fields is that of the fixed part
reference-front : (fixed after : List ℕ) → 2 ≤ length fixed → reference (fixed ++ after) ≡ Some (number_at 0 fixed)
reference-front [] after h = absurd (omega arith)
reference-front (high ∷ []) after h = absurd (omega arith)
reference-front (high ∷ low ∷ more) after h = refl

pub format_at-shown : (extended : List ℕ) (kind : Kind) (fixed after : List ℕ) → 2 ≤ length fixed → format_at extended kind (fixed ++ after) ≡ format_for extended (shown kind fixed)
format_at-shown extended Cr fixed after h = refl
format_at-shown extended _ fixed after h = ap (format_for extended) (reference-front fixed after h)

is_request-is : (kind : Kind) → kind ≡ Cr → is_request kind ≡ true
is_request-is kind e = ap is_request e

request-is : (kind : Kind) → is_request kind ≡ true → kind ≡ Cr
request-is Cr e = refl
request-is _ e = absurd cc

-- ---- the parameters

pub record Checked (kind : Kind) (place : ℕ) (octets : List ℕ) (sum : Option ℕ) : Type 0 where
  pub all : octets ≡ spelled (parameters_in octets)
  pub suit : AllByRecursion (Suits kind) (parameters_in octets)
  pub sum_is : is_some sum ≡ has_sum (parameters_in octets)

pub checked_ok : (kind : Kind) (place : ℕ) (octets : List ℕ) (sum : Option ℕ) → checked kind place octets ≡ Ok sum → Checked kind place octets sum
unfolding checked
checked_ok kind place octets sum e =
    let ps = parameters_in octets in
    let u = unless_ok (first_failing (parameter_steps kind place ps (left_in octets))) (sum_place place ps) sum e in
    let f = steps-none kind place ps (left_in octets) u.0 in
    record {
      all = sym (spelled-parameters octets) ∙ ap (λ (t : List ℕ). spelled ps ++ t) f.0 ∙ append-nil (spelled ps);
      suit = f.1;
      sum_is = ap is_some (sym u.1) ∙ is_some-sum_place place ps;
    }

pub checked_again : (kind : Kind) (place : ℕ) (ps : List Parameter) → AllByRecursion (Suits kind) ps → checked kind place (spelled ps) ≡ Ok (sum_place place ps)
unfolding checked
checked_again kind place ps suit = let again = parameters-spelled ps in rw (again.0, again.1, none-steps kind place ps suit) refl

-- ---- what is read is spelled so

-- the octets of the TPDU, and the rest
fronts : (b : Bool) (octets head after : List ℕ) → octets ≡ head ++ after → octets ≡ cond b octets head ++ cond b [] after
fronts true octets head after e = sym (append-nil octets)
fronts false octets head after e = e

spells_all : (b : Bool) (octets : List ℕ) (n code : ℕ) (inside after : List ℕ) → octets ≡ n ∷ code ∷ (inside ++ after)
    → cond b octets (n ∷ code ∷ inside) ≡ n ∷ ((code ∷ inside) ++ cond b after [])
spells_all true octets n code inside after e = e
spells_all false octets n code inside after e = ap (λ (t : List ℕ). n ∷ code ∷ t) (sym (append-nil inside))

rest_end : (b : Bool) (after : List ℕ) → b ≡ true → cond b [] after ≡ []
rest_end true after e = refl
rest_end false after e = absurd cc

-- the steps of a reading that passed
pub record Steps (extended octets : List ℕ) (head : Head) (sections : Sections) (sum : Option ℕ) : Type 0 where
  pub head_is : HeadIs octets head
  pub sections_are : SectionsAre extended head.kind head.fields sections
  pub checks : Checked head.kind (3 + length sections.fixed) sections.parameters sum
  pub closes : Closes head.kind sum head.all head.body

pub steps_of_read : (extended octets : List ℕ) (x : Found) → read_at extended octets ≡ Ok x
    → (head : Head) × (sections : Sections) × (sum : Option ℕ) × Steps extended octets head sections sum × (x ≡ ((value_of (parts_of head sections), is_some sum), head.rest))
unfolding read_at
steps_of_read extended octets x e =
    let h = bind_ok (head_at octets) _ x e in
    let s = bind_ok (sections_at extended h.0.kind h.0.fields) _ x h.2 in
    let c = bind_ok (checked h.0.kind (3 + length s.0.fixed) s.0.parameters) _ x s.2 in
    let d = bind_ok (close_at h.0.kind c.0 h.0.all (indicator octets + 2) h.0.body) _ x c.2 in (
      h.0,
      s.0,
      c.0,
      record {
        head_is = head_ok octets h.0 h.1;
        sections_are = sections_ok extended h.0.kind h.0.fields s.0 s.1;
        checks = checked_ok h.0.kind (3 + length s.0.fixed) s.0.parameters c.0 c.1;
        closes = close_ok h.0.kind c.0 h.0.all (indicator octets + 2) h.0.body d.0 d.1;
      },
      sym (ok_is _ x d.2),
    )

-- the header behind the code is the fixed part and the parameters
pub inside_is : (extended octets : List ℕ) (head : Head) (sections : Sections) (sum : Option ℕ) → Steps extended octets head sections sum → head.fields ≡ sections.fixed ++ spelled (parameters_in sections.parameters)
inside_is extended octets head sections sum s =
    let n = fixed_count head.kind sections.format in
    let a = s.sections_are in
    sym (take-append-drop n head.fields) ∙ ap (λ (t : List ℕ). t ++ drop n head.fields) (sym a.fixed) ∙ ap (λ (t : List ℕ). sections.fixed ++ t) (sym a.parameters ∙ s.checks.all)

pub fixed_length : (extended octets : List ℕ) (head : Head) (sections : Sections) (sum : Option ℕ) → Steps extended octets head sections sum → length sections.fixed ≡ fixed_count head.kind sections.format
fixed_length extended octets head sections sum s =
    let a = s.sections_are in
    let len = length-take (fixed_count head.kind sections.format) head.fields in
    ap length a.fixed ∙ omega (arith, a.count)

class_is : (extended octets : List ℕ) (head : Head) (sections : Sections) (sum : Option ℕ) → Steps extended octets head sections sum → IsTrue (is_connect head.kind) → slice_index sections.fixed 4 / 16 ≡ 4
class_is extended octets head sections sum s h =
    let count = fixed_length extended octets head sections sum s in
    let five = fixed_count-connect head.kind sections.format h in
    let same : get_or (sections.fixed ++ spelled (parameters_in sections.parameters)) 4 0 ≡ get_or sections.fixed 4 0 = get_or_append_left sections.fixed (spelled (parameters_in sections.parameters)) 0 4 (omega arith) in
    let there : get_or head.fields 4 0 ≡ get_or sections.fixed 4 0 = ap (λ (t : List ℕ). get_or t 4 0) (inside_is extended octets head sections sum s) ∙ same in
    ap (λ (n : ℕ). n / 16) (sym there) ∙ s.sections_are.class h

spells_of : (extended octets : List ℕ) (head : Head) (sections : Sections) (sum : Option ℕ) → Steps extended octets head sections sum → Spells (parts_of head sections) head.all
spells_of extended octets head sections sum s =
    let b = takes_rest head.kind in
    let c = cut octets s.head_is.least s.head_is.most in
    let inside = inside_is extended octets head sections sum s in
    let fields_is : head.fields ≡ drop 2 (header octets) = ap (λ (h : Head). h.fields) s.head_is.is in
    let code_is : head.code ≡ slice_index octets 1 = ap (λ (h : Head). h.code) s.head_is.is in
    let all_is : head.all ≡ whole head.kind octets = ap (λ (h : Head). h.all) s.head_is.is in
    let body_is : head.body ≡ body_of head.kind octets = ap (λ (h : Head). h.body) s.head_is.is in
    let front : whole head.kind octets ≡ cond b octets (indicator octets ∷ slice_index octets 1 ∷ drop 2 (header octets)) = ap (λ (t : List ℕ). cond b octets t) c.front in
    let base = spells_all b octets (indicator octets) (slice_index octets 1) (drop 2 (header octets)) (behind octets) c.parts in
    let count : length head.fields ≡ length (sections.fixed ++ spelled (parameters_in sections.parameters)) = ap length inside in
    let count2 : length head.fields ≡ length (drop 2 (header octets)) = ap length fields_is in
    let n_is : indicator octets ≡ suc (length (sections.fixed ++ spelled (parameters_in sections.parameters))) = omega (arith, c.count) in
    let kind_is : kind_of head.code ≡ Some head.kind = ap kind_of code_is ∙ s.head_is.kind in
    record {
      all = all_is ∙ front ∙ base ∙ λ j. n_is j ∷ ((sym code_is j ∷ (sym fields_is ∙ inside) j) ++ sym body_is j);
      header = omega (arith, s.head_is.most, s.head_is.used);
      code = kind_is;
      fixed = fixed_length extended octets head sections sum s;
      class = class_is extended octets head sections sum s;
      parameters = s.checks.suit;
      sealed = λ h. s.closes.sealed (s.checks.sum_is ∙ h);
      summed = λ h. sym s.checks.sum_is ∙ s.closes.summed (is_request-is head.kind h);
      body = s.closes.suits;
    }

pub read_sound : (extended octets : List ℕ) (tpdu : TpduAndSum) (rest : List ℕ) → read_at extended octets ≡ Ok (tpdu, rest) → BeginsWithTpdu extended octets tpdu rest
read_sound extended octets tpdu rest e =
    let r = steps_of_read extended octets (tpdu, rest) e in
    let head = r.0 in
    let sections = r.1 in
    let s = r.3 in
    let parts = parts_of head sections in
    let value : value_of parts ≡ tpdu.0 = ap (λ (x : Found). x.0.0) (sym r.4) in
    let sum_is : is_some r.2 ≡ tpdu.1 = ap (λ (x : Found). x.0.1) (sym r.4) in
    let rest_is : head.rest ≡ rest = ap (λ (x : Found). x.1) (sym r.4) in
    let head_rest : head.rest ≡ cond (takes_rest head.kind) [] (behind octets) = ap (λ (h : Head). h.rest) s.head_is.is in
    let all_is : head.all ≡ whole head.kind octets = ap (λ (h : Head). h.all) s.head_is.is in
    let halves : octets ≡ header octets ++ behind octets = sym (take-append-drop (indicator octets + 1) octets) in
    let count = fixed_length extended octets head sections r.2 s in
    let least = (fixed_count-bounds head.kind sections.format).0 in
    let format : sections.format ≡ format_for extended (destination_of tpdu.0)
    = s.sections_are.format ∙ ap (format_at extended head.kind) (inside_is extended octets head sections r.2 s)
    ∙ format_at-shown extended head.kind sections.fixed (spelled (parameters_in sections.parameters)) (omega arith)
    ∙ ap (format_for extended) (sym (destination-value parts) ∙ ap destination_of value)
    in
    record {
      begins = record {
        front = head.all;
        whole = fronts (takes_rest head.kind) octets (header octets) (behind octets) halves ∙ λ j. sym all_is j ++ (sym head_rest ∙ rest_is) j;
        stands = record {
          parts = parts;
          spells = spells_of extended octets head sections r.2 s;
          format_is = format;
          value_is = value;
          sum_is = sym s.checks.sum_is ∙ sum_is;
        };
      };
      end = λ h. sym rest_is ∙ head_rest ∙ rest_end (takes_rest head.kind) (behind octets) (sym (reaches_end-value parts) ∙ ap reaches_end value ∙ h);
    }

-- ---- what is spelled so is read

pub record Closing (b : Bool) (octets front inside body rest : List ℕ) (n code : ℕ) : Type 0 where
  pub all : cond b octets (n ∷ code ∷ inside) ≡ front
  pub data_is : cond b (body ++ rest) [] ≡ body
  pub rest_is : cond b [] (body ++ rest) ≡ rest

closing : (b : Bool) (octets front inside body rest : List ℕ) (n code : ℕ) → octets ≡ front ++ rest → front ≡ n ∷ ((code ∷ inside) ++ body)
    → (b ≡ true → rest ≡ []) → (b ≡ false → body ≡ []) → Closing b octets front inside body rest n code
closing true octets front inside body rest n code e f end none =
    let nil = end refl in
    record {
      all = e ∙ ap (λ (t : List ℕ). front ++ t) nil ∙ append-nil front;
      data_is = ap (λ (t : List ℕ). body ++ t) nil ∙ append-nil body;
      rest_is = sym nil;
    }
closing false octets front inside body rest n code e f end none =
    let nil = none refl in
    record {
      all = sym (f ∙ ap (λ (t : List ℕ). n ∷ code ∷ (inside ++ t)) nil ∙ ap (λ (t : List ℕ). n ∷ code ∷ t) (append-nil inside));
      data_is = sym nil;
      rest_is = ap (λ (t : List ℕ). t ++ rest) nil;
    }

pub read_complete : (extended octets : List ℕ) (tpdu : TpduAndSum) (rest : List ℕ) → BeginsWithTpdu extended octets tpdu rest → read_at extended octets ≡ Ok (tpdu, rest)
unfolding read_at
read_complete extended octets tpdu rest f =
    let spelling = f.begins.stands in
    let parts = spelling.parts in
    let sp = spelling.spells in
    let ps = parts.parameters in
    let kind = parts.kind in
    let inside = parts.fixed ++ spelled ps in
    let after = parts.body ++ rest in
    let n = suc (length inside) in
    let whole_is : octets ≡ n ∷ parts.code ∷ (inside ++ after)
    = f.begins.whole ∙ ap (λ (t : List ℕ). t ++ rest) sp.all ∙ ap (λ (t : List ℕ). n ∷ parts.code ∷ t) (append_assoc inside parts.body rest) in
    let fronted : Fronted octets parts.code inside after = record { all = whole_is; short = omega (arith, sp.header) } in
    let again = head_again octets parts.code inside after kind fronted sp.code in
    let end : takes_rest kind ≡ true → rest ≡ [] = λ h. f.end (sym (ap reaches_end spelling.value_is) ∙ reaches_end-value parts ∙ h) in
    let none : takes_rest kind ≡ false → parts.body ≡ [] = λ h. nil_from_length parts.body (no_body kind (length parts.body) h sp.body) in
    let c = closing (takes_rest kind) octets f.begins.front inside parts.body rest n parts.code f.begins.whole sp.all end none in
    let head : Head = record { kind = kind; code = parts.code; fields = inside; all = f.begins.front; body = parts.body; rest = rest } in
    let head_eq : head_at octets ≡ Ok head
    = again ∙ λ j. Ok (record { kind = kind; code = parts.code; fields = inside; all = c.all j; body = c.data_is j; rest = c.rest_is j }) in
    let least = (fixed_count-bounds kind parts.format).0 in
    let format : format_at extended kind inside ≡ parts.format
    = format_at-shown extended kind parts.fixed (spelled ps) (omega (arith, sp.fixed))
    ∙ ap (format_for extended) (sym (destination-value parts) ∙ ap destination_of spelling.value_is) ∙ sym spelling.format_is in
    let class : is_connect kind ≡ true → slice_index inside 4 / 16 ≡ 4
    = λ h. let five = fixed_count-connect kind parts.format h in
    ap (λ (m : ℕ). m / 16) (get_or_append_left parts.fixed (spelled ps) 0 4 (omega (arith, sp.fixed))) ∙ sp.class h in
    let sections_eq = sections_again extended kind parts.fixed (spelled ps) parts.format format sp.fixed class in
    let place = 3 + length parts.fixed in
    let checked_eq = checked_again kind place ps sp.parameters in
    let some = is_some-sum_place place ps in
    let closes : Closes kind (sum_place place ps) f.begins.front parts.body = record {
      sealed = λ h. sp.sealed (sym some ∙ h);
      summed = λ h. some ∙ sp.summed (request-is kind h);
      suits = sp.body;
    } in
    let close_eq = close_again kind (sum_place place ps) f.begins.front (indicator octets + 2) parts.body closes in
    let value : value_of (record { kind = kind; format = parts.format; code = parts.code; fixed = parts.fixed; parameters = parameters_in (spelled ps); body = parts.body }) ≡ tpdu.0
    = ap (λ (t : List Parameter). let p : Parts = record { kind = kind; format = parts.format; code = parts.code; fixed = parts.fixed; parameters = t; body = parts.body } in value_of p) (parameters-spelled ps).0
    ∙ spelling.value_is in
    rw (head_eq, sections_eq, checked_eq, close_eq) (λ j. Ok ((value j, (some ∙ spelling.sum_is) j), rest))
