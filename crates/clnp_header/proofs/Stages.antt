-- Reading by stages: what is still read behind each field, and what each reader found.
use Rattle.std.proofs.Common.{◌≡◌, ◌==◌, ◌&&◌, ◌||◌, not, ℕ, ◌+◌, ◌-◌, ◌%◌, ◌<◌, ◌≤◌, Bool, true, false, cond, ltb, leb, List, ◌++◌, length, get_or, take, drop, map, option_map, Option, Some, None, Result, Ok, Err, refl, sym, ap, subst, ◌∙◌, arith, inl, inr, ◌⊎◌, length-append, length-drop, get_or-drop}
use Rattle.std.proofs.lemmas.Bool.{ltb-false, eqb-true}
use Rattle.std.proofs.lemmas.List.{drop-drop, drop_at}
use Rattle.clnp_options.specs.Faults.{first_fault as first_options_fault}
use Rattle.clnp_options.specs.Grammar.{IsOptions}
use Rattle.pdu_parts.specs.Parameter.{Parameter, parameters_in}
use Rattle.clnp_options.specs.declared.reason.Fault.{Fault}
use Rattle.clnp_options.specs.declared.reason.PduKind.{PduKind}
use Rattle.clnp_options.specs.declared.reason.PduKind.TheVariants.{Dt, Er}
use Rattle.clnp_options.proofs.Allowing.{options_first}
use Rattle.clnp_header.specs.declared.pdu.Pdu.{Pdu}
use Rattle.clnp_header.specs.declared.pdu.SegmentPart.{SegmentPart}
use Rattle.clnp_header.specs.declared.flags.Flags.{Flags}
use Rattle.pdu_parts.specs.Checksum.{IsChecksum}
use Rattle.clnp_header.specs.Grammar.{IsPlaced}
use Rattle.clnp_header.specs.Values.{own}
use Rattle.pdu_parts.specs.Number.{number_at}
use Rattle.clnp_header.specs.Flags.{is_dt, is_er, is_segmented, has_more, wants_report}
use Rattle.clnp_header.specs.Faults.{is_placed}
use Rattle.pdu_parts.proofs.Addresses.{reads_address}
use Rattle.pdu_parts.specs.Checksum.{checksum_in}
use Rattle.pdu_parts.specs.Field.{IsAddress, field, address_at}
use Rattle.clnp_header.specs.Faults.{with_report}
use Rattle.std.proofs.lemmas.Option.{same_Some}
use Rattle.pdu_parts.proofs.Readings.{unless, ◌>>=◌, found_or}
use Rattle.clnp_header.specs.steps.Reading.{header_read, checksum_read, flags_read, address_read, segment_read, segment_octets, options_read, body_read, placed_read, pdu_read}

-- ---- the stages

abbrev pub made : List ℕ → Bool → Flags → List ℕ → List ℕ → Option SegmentPart → List Parameter → List ℕ → Pdu
made header used flags destination source segment options body = record {
  kind = flags.kind;
  destination = destination;
  source = source;
  lifetime = get_or header 3 0;
  checksum_used = used;
  report = flags.report;
  segment = segment;
  options = map own options;
  body = body;
}

abbrev pub from_placed : List ℕ → Bool → Flags → List ℕ → List ℕ → Option SegmentPart → List Parameter → List ℕ → Result (List ℕ × Pdu) Fault
from_placed header used flags destination source segment options body =
    placed_read segment (length header + length body) (11 + length destination + length source + 5) flags.report >>= λ nothing.
    Ok (header, made header used flags destination source segment options body)

abbrev pub from_body : List ℕ → List ℕ → Bool → Flags → List ℕ → List ℕ → Option SegmentPart → List Parameter → Result (List ℕ × Pdu) Fault
from_body octets header used flags destination source segment options =
    body_read octets (length header) flags >>= λ body. from_placed header used flags destination source segment options body

abbrev pub from_options : List ℕ → List ℕ → Bool → Flags → List ℕ → List ℕ → Option SegmentPart → Result (List ℕ × Pdu) Fault
from_options octets header used flags destination source segment =
    options_read header (11 + length destination + length source + segment_octets segment) flags >>= λ options. from_body octets header used flags destination source segment options

abbrev pub from_segment : List ℕ → List ℕ → Bool → Flags → List ℕ → List ℕ → Result (List ℕ × Pdu) Fault
from_segment octets header used flags destination source =
    segment_read header (11 + length destination + length source) flags >>= λ segment. from_options octets header used flags destination source segment

abbrev pub from_source : List ℕ → List ℕ → Bool → Flags → List ℕ → Result (List ℕ × Pdu) Fault
from_source octets header used flags destination =
    address_read header (10 + length destination) >>= λ source. from_segment octets header used flags destination source

abbrev pub from_destination : List ℕ → List ℕ → Bool → Flags → Result (List ℕ × Pdu) Fault
from_destination octets header used flags = address_read header 9 >>= λ destination. from_source octets header used flags destination

abbrev pub from_flags : List ℕ → List ℕ → Bool → Result (List ℕ × Pdu) Fault
from_flags octets header used = flags_read (get_or header 4 0) >>= λ flags. from_destination octets header used flags

abbrev pub from_checksum : List ℕ → List ℕ → Result (List ℕ × Pdu) Fault
from_checksum octets header = checksum_read header >>= λ used. from_flags octets header used

pub in_stages : (octets : List ℕ) → pdu_read octets ≡ (header_read octets >>= λ header. from_checksum octets header)
unfolding pdu_read
in_stages octets = refl

-- the value of a step that did not fail
pub bind_ok : {A B : Type 0} (r : Result A Fault) (f : A → Result B Fault) (y : B) → (r >>= f) ≡ Ok y → (x : A) × (r ≡ Ok x) × (f x ≡ Ok y)
bind_ok (Ok x) f y e = (x, refl, e)
bind_ok (Err fault) f y e = absurd cc

-- a test that did not turn back
pub guard_ok : {A : Type 0} (bad : Bool) (fault : Fault) (r : Result A Fault) (y : A) → cond bad (Err fault) r ≡ Ok y → (bad ≡ false) × (r ≡ Ok y)
guard_ok true fault r y e = absurd cc
guard_ok false fault r y e = (refl, e)

pub choice_ok : {A : Type 0} (good : Bool) (x : A) (r : Result A Fault) (y : A) → cond good (Ok x) r ≡ Ok y → ((good ≡ true) × (x ≡ y)) ⊎ ((good ≡ false) × (r ≡ Ok y))
choice_ok true x r y e = inl (refl, cc)
choice_ok false x r y e = inr (refl, e)

abbrev done : {A : Type 0} → A → Result A Fault
done x = Ok x

pub ok_is : {A : Type 0} (x y : A) → done x ≡ done y → x ≡ y
ok_is x y e = cc

not_false : (b : Bool) → not b ≡ false → b ≡ true
not_false true e = refl
not_false false e = absurd cc

some_of : (more : Bool) (whole header : ℕ) (uneven : Bool) → (more && (leb whole header || uneven)) ≡ false → more ≡ true → header < whole
some_of more whole header uneven e m = grind arith

eights_of : (more few eights : Bool) → (more && (few || not eights)) ≡ false → more ≡ true → eights ≡ true
eights_of more few eights e m = grind arith

options_by : (report : Bool) (fault : Option Fault) (options found : List Parameter) → unless (with_report report fault) options ≡ Ok found → (fault ≡ None) × (options ≡ found)
options_by report None options found e = (refl, ok_is options found e)
options_by report (Some fault) options found e = absurd cc

found_or_ok : {A : Type 0} (found : Option A) (fault : Fault) (x : A) → found_or found fault ≡ Ok x → found ≡ Some x
found_or_ok None fault x e = absurd cc
found_or_ok (Some y) fault x e = ap Some (ok_is y x e)

-- ---- what each reader found

pub record HeaderFound (octets header : List ℕ) : Type 0 where
  pub long : 9 ≤ length octets
  pub identifier : get_or octets 0 0 ≡ 0x81
  pub least : 13 ≤ get_or octets 1 0
  pub most : get_or octets 1 0 ≤ 254
  pub within : get_or octets 1 0 ≤ length octets
  pub version : get_or octets 2 0 ≡ 1
  pub is : header ≡ take (get_or octets 1 0) octets

pub header_found : (octets header : List ℕ) → header_read octets ≡ Ok header → HeaderFound octets header
unfolding header_read
header_found octets header e = record {
  long = grind arith;
  identifier = grind arith;
  least = grind arith;
  most = grind arith;
  within = grind arith;
  version = grind arith;
  is = grind arith;
}

checksum_by : (header : List ℕ) (used : Bool) → get_or header 7 0 < 256 → get_or header 8 0 < 256 → checksum_in header ≡ Some used → IsChecksum used (get_or header 7 0) (get_or header 8 0) header
unfolding checksum_in
checksum_by header true first second e = grind arith
checksum_by header false first second e = grind arith

pub checksum_found : (header : List ℕ) (used : Bool) → get_or header 7 0 < 256 → get_or header 8 0 < 256 → checksum_read header ≡ Ok used → IsChecksum used (get_or header 7 0) (get_or header 8 0) header
checksum_found header used first second e = checksum_by header used first second (found_or_ok (checksum_in header) _ used e)

-- the flags of a DT, or of an ER
pub record FlagsFound (octet : ℕ) (flags : Flags) : Type 0 where
  pub dt : is_dt octet ≡ true
  pub last : (is_segmented octet || not (has_more octet)) ≡ true
  pub is : flags ≡ record { kind = Dt; segmented = is_segmented octet; more = has_more octet; report = wants_report octet }

pub record ErFound (octet : ℕ) (flags : Flags) : Type 0 where
  pub er : is_er octet ≡ true
  pub whole : is_segmented octet ≡ false
  pub is : flags ≡ record { kind = Er; segmented = false; more = false; report = false }

pub flags_found : (octet : ℕ) (flags : Flags) → flags_read octet ≡ Ok flags → FlagsFound octet flags ⊎ ErFound octet flags
unfolding flags_read
flags_found octet flags e =
    elim (choice_ok (is_dt octet && (is_segmented octet || not (has_more octet))) _ _ flags e) [
      | inl h ↦ inl (record { dt = grind arith; last = grind arith; is = sym h.1 })
      | inr h ↦
          elim (choice_ok (is_er octet && not (is_segmented octet)) _ _ flags h.1) [
            | inl k ↦ inr (record { er = grind arith; whole = grind arith; is = sym k.1 })
            | inr k ↦ absurd cc
          ]
    ]

-- an address that was found stands behind its length
pub record AddressFound (header address : List ℕ) (at : ℕ) : Type 0 where
  pub is_address : IsAddress address
  pub within : at + 1 + length address ≤ length header
  pub count : get_or header at 0 ≡ length address
  pub stands : drop at header ≡ field address ++ drop (at + 1 + length address) header

address_stands : (header address rest : List ℕ) (at : ℕ) → IsAddress address → drop at header ≡ field address ++ rest → AddressFound header address at
address_stands header address rest at is there =
    let len : length (drop at header) ≡ 1 + length address + length rest = ap length there ∙ omega (arith, length-append address rest) in
    let behind : drop (at + 1 + length address) header ≡ rest =
    ap (λ (n : ℕ). drop n header) (omega arith) ∙ sym (drop-drop (1 + length address) at header) ∙ ap (drop (1 + length address)) there
    ∙ drop_at (field address) rest (1 + length address) (omega arith) in
    record {
      is_address = is;
      within = omega (arith, len, length-drop at header);
      count = sym (ap (λ (n : ℕ). get_or header n 0) (omega arith)) ∙ sym (get_or-drop at header 0 0) ∙ ap (λ (xs : List ℕ). get_or xs 0 0) there;
      stands = there ∙ ap (λ (xs : List ℕ). field address ++ xs) (sym behind);
    }

pub address_within : (header address rest : List ℕ) (at : ℕ) → Some (address, rest) ≡ address_at (drop at header) → at + 1 + length address ≤ length header
address_within header address rest at found =
    let there = reads_address.found (drop at header) address rest (sym found) in
    (address_stands header address rest at there.0 there.1).within

first_is : (found : Option (List ℕ × List ℕ)) (address : List ℕ) → option_map (λ (x : List ℕ × List ℕ). x.0) found ≡ Some address → (rest : List ℕ) × (found ≡ Some (address, rest))
first_is None address e = absurd cc
first_is (Some found) address e = (found.1, ap (λ (x : List ℕ). let some : Option (List ℕ × List ℕ) = Some (x, found.1) in some) (same_Some found.0 address e))

pub address_found : (header address : List ℕ) (at : ℕ) → address_read header at ≡ Ok address → AddressFound header address at
address_found header address at e =
    let found = first_is (address_at (drop at header)) address (found_or_ok (option_map (λ (x : List ℕ × List ℕ). x.0) (address_at (drop at header))) _ address e) in
    let there = reads_address.found (drop at header) address found.0 found.1 in
    address_stands header address found.0 at there.0 there.1

-- no segmentation part, or one that stands whole
pub record NoSegment (flags : Flags) (segment : Option SegmentPart) : Type 0 where
  pub whole : flags.segmented ≡ false
  pub nothing : segment ≡ None

pub record SegmentFound (header : List ℕ) (at : ℕ) (flags : Flags) (segment : Option SegmentPart) : Type 0 where
  pub permitted : flags.segmented ≡ true
  pub within : at + 6 ≤ length header
  pub aligned : number_at (at + 2) header % 8 ≡ 0
  pub is : segment ≡ Some (record { id = number_at at header; offset = number_at (at + 2) header; total = number_at (at + 4) header; more = flags.more })

segment_by : (header : List ℕ) (at : ℕ) (kind : PduKind) (segmented more report : Bool) (segment : Option SegmentPart)
    → segment_read header at (record { kind = kind; segmented = segmented; more = more; report = report }) ≡ Ok segment
    → NoSegment (record { kind = kind; segmented = segmented; more = more; report = report }) segment
    ⊎ SegmentFound header at (record { kind = kind; segmented = segmented; more = more; report = report }) segment
unfolding segment_read
segment_by header at kind false more report segment e = inl (record { whole = refl; nothing = sym (ok_is _ _ e) })
segment_by header at kind true more report segment e =
    let a = guard_ok (ltb (length header) (at + 6)) _ _ segment e in
    let b = guard_ok (not (number_at (at + 2) header % 8 == 0)) _ _ segment a.1 in
    inr (record { permitted = refl; within = ltb-false _ _ a.0; aligned = eqb-true _ _ (not_false _ b.0); is = sym (ok_is _ _ b.1) })

pub segment_found : (header : List ℕ) (at : ℕ) (flags : Flags) (segment : Option SegmentPart) → segment_read header at flags ≡ Ok segment
    → NoSegment flags segment ⊎ SegmentFound header at flags segment
segment_found header at flags segment e = segment_by header at flags.kind flags.segmented flags.more flags.report segment e

pub options_found : (header : List ℕ) (at : ℕ) (flags : Flags) (options : List Parameter) → options_read header at flags ≡ Ok options
    → IsOptions flags.kind (drop at header) options
options_found header at flags options e =
    let h = options_by flags.report (first_options_fault flags.kind (at + 1) (drop at header)) (parameters_in (drop at header)) options e in
    subst (λ (found : List Parameter). IsOptions flags.kind (drop at header) found) h.1 (options_first flags.kind (at + 1) (drop at header) h.0)

pub record BodyFound (octets body : List ℕ) (header : ℕ) (more : Bool) : Type 0 where
  pub least : header ≤ number_at 5 octets
  pub most : number_at 5 octets ≤ length octets
  pub some : more ≡ true → header < number_at 5 octets
  pub eights : more ≡ true → (number_at 5 octets - header) % 8 ≡ 0
  pub is : body ≡ take (number_at 5 octets - header) (drop header octets)

pub body_found : (octets body : List ℕ) (header : ℕ) (flags : Flags) → body_read octets header flags ≡ Ok body → BodyFound octets body header flags.more
unfolding body_read
body_found octets body header flags e =
    let whole = number_at 5 octets in
    let a = guard_ok (ltb whole header) _ _ body e in
    let b = guard_ok (ltb (length octets) whole) _ _ body a.1 in
    let c = guard_ok (flags.more && (leb whole header || not ((whole - header) % 8 == 0))) _ _ body b.1 in
    record {
      least = ltb-false _ _ a.0;
      most = ltb-false _ _ b.0;
      some = λ more. some_of flags.more whole header _ c.0 more;
      eights = λ more. eqb-true _ _ (eights_of flags.more (leb whole header) _ c.0 more);
      is = sym (ok_is _ _ c.1);
    }

abbrev pub PlacedIf : Option SegmentPart → ℕ → Type 0
PlacedIf None whole = Unit {0}
PlacedIf (Some part) whole = IsPlaced part.more (part.offset + whole) part.total

placed_of : (more : Bool) (end total : ℕ) → is_placed more end total ≡ true → IsPlaced more end total
placed_of true end total e = grind arith
placed_of false end total e = eqb-true _ _ e

pub placed_found : (segment : Option SegmentPart) (whole place : ℕ) (report : Bool) (result : Unit {0}) → placed_read segment whole place report ≡ Ok result → PlacedIf segment whole
unfolding placed_read
placed_found None whole place report result e = tt
placed_found (Some part) whole place report result e =
    elim (choice_ok (is_placed part.more (part.offset + whole) part.total) _ _ result e) [
      | inl h ↦ placed_of part.more (part.offset + whole) part.total h.0
      | inr h ↦ absurd cc
    ]
