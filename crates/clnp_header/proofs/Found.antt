-- What is read is in the grammar: each reader tells what stands at its place, and the places follow one another.
use Rattle.std.proofs.Common.{◌≡◌, ◌||◌, not, ℕ, ◌+◌, ◌-◌, ◌*◌, ◌/◌, ◌%◌, ◌<◌, ◌≤◌, Bool, true, false, List, [], ◌∷◌, ◌++◌, length, get_or, take, drop, map, Option, Some, None, Ok, refl, sym, ap, subst, ◌∙◌, arith, inl, inr, ◌⊎◌, length-append, length-drop, length-take-le, get_or-take}
use Rattle.std.proofs.lemmas.List.{take-append-drop, drop_more}
use Rattle.std.proofs.Math.Seq.{take-add}
use Rattle.clnp_options.specs.Grammar.{IsOptions}
use Rattle.pdu_parts.specs.Parameter.{Parameter}
use Rattle.clnp_options.specs.declared.reason.PduKind.{PduKind}
use Rattle.clnp_options.specs.declared.reason.PduKind.TheVariants.{Dt, Er}
use Rattle.clnp_header.specs.declared.pdu.Pdu.{Pdu}
use Rattle.clnp_header.specs.declared.pdu.SegmentPart.{SegmentPart}
use Rattle.clnp_header.specs.declared.flags.Flags.{Flags}
use Rattle.pdu_parts.specs.Checksum.{IsChecksum}
use Rattle.clnp_header.specs.Grammar.{MayBeSegment, segment_part}
use Rattle.clnp_header.specs.Flags.{AreFlags, AreErFlags, flags_octet, is_segmented, has_more, wants_report}
use Rattle.pdu_parts.specs.Front.{BeginsWith}
use Rattle.pdu_parts.specs.Field.{field}
use Rattle.clnp_header.specs.Values.{is_followed, is_segment, own, parameters}
use Rattle.pdu_parts.specs.Number.{two_octets, number_at}
use Rattle.clnp_header.specs.Writing.{header_length}
use Rattle.clnp_header.specs.Grammar.{IsPdu}
use Rattle.clnp_header.specs.steps.Reading.{header_read, checksum_read, flags_read, address_read, segment_read, segment_octets, options_read, body_read, placed_read, pdu_read}
use Rattle.clnp_header.proofs.FlagBits.{flags_of_dt, flags_of_er}
use Rattle.clnp_header.proofs.Parts.{length-header, AreOctets, AreOctets-take, HasFields, parts_of}
use Rattle.clnp_header.proofs.Stages.{made, from_placed, from_body, from_options, from_segment, from_source, from_destination, from_flags, from_checksum, in_stages, bind_ok, ok_is, HeaderFound, header_found, checksum_found, FlagsFound, ErFound, flags_found, AddressFound, address_found, NoSegment, SegmentFound, segment_found, options_found, BodyFound, body_found, PlacedIf, placed_found}

not_more : (segmented more : Bool) → (segmented || not more) ≡ true → segmented ≡ false → more ≡ false
not_more segmented more e whole = grind arith

-- ---- the flags

bits_of : (flags : Flags) (segment : Option SegmentPart) (header : List ℕ) (at : ℕ) → NoSegment flags segment ⊎ SegmentFound header at flags segment
    → (flags.segmented ≡ false → flags.more ≡ false) → (is_segment segment ≡ flags.segmented) × (is_followed segment ≡ flags.more)
bits_of flags segment header at (inl h) last = (rw (h.nothing, h.whole) refl, rw h.nothing (sym (last h.whole)))
bits_of flags segment header at (inr h) last = (rw (h.is, h.permitted) refl, rw h.is refl)

dt_flags : (octet : ℕ) (flags : Flags) (segment : Option SegmentPart) (header : List ℕ) (at : ℕ) → octet < 256 → FlagsFound octet flags → NoSegment flags segment ⊎ SegmentFound header at flags segment
    → octet ≡ flags_octet (is_segment segment) (is_followed segment) flags.report 0x1c
dt_flags octet flags segment header at fits h found =
    let segmented : flags.segmented ≡ is_segmented octet = ap (λ (f : Flags). f.segmented) h.is in
    let more : flags.more ≡ has_more octet = ap (λ (f : Flags). f.more) h.is in
    let report : flags.report ≡ wants_report octet = ap (λ (f : Flags). f.report) h.is in
    let bits = bits_of flags segment header at found (λ whole. more ∙ not_more (is_segmented octet) (has_more octet) h.last (sym segmented ∙ whole)) in
    flags_of_dt octet fits h.dt ∙ rw (bits.0, bits.1, segmented, more, report) refl

er_flags : (octet : ℕ) (flags : Flags) (segment : Option SegmentPart) (header : List ℕ) (at : ℕ) → octet < 256 → ErFound octet flags → NoSegment flags segment ⊎ SegmentFound header at flags segment
    → AreErFlags octet segment flags.report
er_flags octet flags segment header at fits h (inl found) = record {
  more_bit = has_more octet;
  report_bit = wants_report octet;
  parts = flags_of_er octet fits h.er ∙ ap (λ (b : Bool). flags_octet b (has_more octet) (wants_report octet) 0x01) h.whole;
  whole = found.nothing;
  unreported = ap (λ (f : Flags). f.report) h.is;
}
er_flags octet flags segment header at fits h (inr found) =
    let segmented : flags.segmented ≡ false = ap (λ (f : Flags). f.segmented) h.is in
    absurd (let e : true ≡ false = sym found.permitted ∙ segmented in cc)

flags_part : (octet : ℕ) (flags : Flags) (segment : Option SegmentPart) (header : List ℕ) (at : ℕ) → octet < 256 → FlagsFound octet flags ⊎ ErFound octet flags
    → NoSegment flags segment ⊎ SegmentFound header at flags segment → AreFlags flags.kind octet segment flags.report
flags_part octet flags segment header at fits (inl h) found =
    let kind : flags.kind ≡ Dt = ap (λ (f : Flags). f.kind) h.is in
    let P : PduKind → Type 0 = λ k. AreFlags k octet segment flags.report in
    subst P (sym kind) (dt_flags octet flags segment header at fits h found)
flags_part octet flags segment header at fits (inr h) found =
    let kind : flags.kind ≡ Er = ap (λ (f : Flags). f.kind) h.is in
    let P : PduKind → Type 0 = λ k. AreFlags k octet segment flags.report in
    subst P (sym kind) (er_flags octet flags segment header at fits h found)

-- ---- the segmentation part

-- the number in two octets gives them back
two_octets_of : (higher lower : ℕ) → lower < 256 → (higher ≡ (higher * 256 + lower) / 256) × (lower ≡ (higher * 256 + lower) % 256)
two_octets_of higher lower lt = (omega arith, omega arith)

two_stand : (header : List ℕ) (at : ℕ) → AreOctets header → at + 2 ≤ length header → drop at header ≡ two_octets (number_at at header) ++ drop (at + 2) header
two_stand header at fits within =
    let first : drop at header ≡ get_or header at 0 ∷ drop (at + 1) header = drop_more header at 0 (omega arith) in
    let second : drop (at + 1) header ≡ get_or header (at + 1) 0 ∷ drop (at + 1 + 1) header = drop_more header (at + 1) 0 (omega arith) in
    let parts = two_octets_of (get_or header at 0) (get_or header (at + 1) 0) (fits (at + 1)) in
    first ∙ ap (λ (xs : List ℕ). get_or header at 0 ∷ xs) (second ∙ ap (λ (n : ℕ). get_or header (at + 1) 0 ∷ drop n header) (omega arith))
    ∙ ap (λ (n : ℕ). n ∷ get_or header (at + 1) 0 ∷ drop (at + 2) header) parts.0
    ∙ ap (λ (n : ℕ). number_at at header / 256 ∷ n ∷ drop (at + 2) header) parts.1

segment_some : (header : List ℕ) (at : ℕ) → AreOctets header → at + 6 ≤ length header → (more : Bool)
    → drop at header ≡ segment_part (Some (record { id = number_at at header; offset = number_at (at + 2) header; total = number_at (at + 4) header; more = more })) ++ drop (at + 6) header
segment_some header at fits within more =
    let first = two_stand header at fits (omega arith) in
    let second : drop (at + 2) header ≡ two_octets (number_at (at + 2) header) ++ drop (at + 4) header =
    two_stand header (at + 2) fits (omega arith) ∙ ap (λ (n : ℕ). two_octets (number_at (at + 2) header) ++ drop n header) (omega arith) in
    let third : drop (at + 4) header ≡ two_octets (number_at (at + 4) header) ++ drop (at + 6) header =
    two_stand header (at + 4) fits (omega arith) ∙ ap (λ (n : ℕ). two_octets (number_at (at + 4) header) ++ drop n header) (omega arith) in
    first ∙ ap (λ (xs : List ℕ). two_octets (number_at at header) ++ xs) (second ∙ ap (λ (xs : List ℕ). two_octets (number_at (at + 2) header) ++ xs) third)

segment_stands : (header : List ℕ) (at : ℕ) (flags : Flags) (segment : Option SegmentPart) → AreOctets header → NoSegment flags segment ⊎ SegmentFound header at flags segment
    → drop at header ≡ segment_part segment ++ drop (at + segment_octets segment) header
segment_stands header at flags segment fits (inl h) =
    ap (λ (n : ℕ). drop n header) (omega arith) ∙ ap (λ (s : Option SegmentPart). segment_part s ++ drop (at + segment_octets s) header) (sym h.nothing)
segment_stands header at flags segment fits (inr h) =
    segment_some header at fits h.within flags.more ∙ ap (λ (s : Option SegmentPart). segment_part s ++ drop (at + segment_octets s) header) (sym h.is)

abbrev one : {A : Type 0} → A → Option A
one x = Some x

some_is : {A : Type 0} (x y : A) → one x ≡ one y → x ≡ y
some_is x y e = cc

segment_part_of : (segment : Option SegmentPart) (header : List ℕ) (at : ℕ) (flags : Flags) (whole size : ℕ) → NoSegment flags segment ⊎ SegmentFound header at flags segment → PlacedIf segment whole
    → (flags.more ≡ true → 0 < size) → (flags.more ≡ true → size % 8 ≡ 0) → MayBeSegment segment whole size
segment_part_of None header at flags whole size found placed some eights = tt
segment_part_of (Some part) header at flags whole size (inl h) placed some eights = let e = h.nothing in absurd cc
segment_part_of (Some part) header at flags whole size (inr h) placed some eights =
    let same : part ≡ record { id = number_at at header; offset = number_at (at + 2) header; total = number_at (at + 4) header; more = flags.more } = some_is _ _ h.is in
    let more : part.more ≡ flags.more = ap (λ (p : SegmentPart). p.more) same in
    record {
      aligned = ap (λ (p : SegmentPart). p.offset % 8) same ∙ h.aligned;
      some = λ m. some (sym more ∙ m);
      eights = λ m. eights (sym more ∙ m);
      placed = placed;
    }

-- ---- the whole

-- a header of which all fields were read
pub record AllFound (octets header : List ℕ) (pdu : Pdu) : Type 0 where
  pub options : List ℕ
  pub header_part : HeaderFound octets header
  pub checksum_part : IsChecksum pdu.checksum_used (get_or header 7 0) (get_or header 8 0) header
  pub flags_part : AreFlags pdu.kind (get_or header 4 0) pdu.segment pdu.report
  pub destination_part : AddressFound header pdu.destination 9
  pub source_part : AddressFound header pdu.source (10 + length pdu.destination)
  pub segment_stand : drop (11 + length pdu.destination + length pdu.source) header ≡ segment_part pdu.segment ++ options
  pub options_part : IsOptions pdu.kind options (parameters pdu.options)
  pub lifetime : get_or header 3 0 ≡ pdu.lifetime
  pub more : Bool
  pub body_part : BodyFound octets pdu.body (length header) more
  pub segment_fits : MayBeSegment pdu.segment (length header + length pdu.body) (length pdu.body)

pub parameters_again : (options : List Parameter) → parameters (map own options) ≡ options
parameters_again [] = refl
parameters_again (option ∷ options) = ap (λ (xs : List Parameter). option ∷ xs) (parameters_again options)

length-body : (octets body : List ℕ) (header : ℕ) (more : Bool) → BodyFound octets body header more → length body ≡ number_at 5 octets - header
length-body octets body header more h =
    ap length h.is ∙ length-take-le (number_at 5 octets - header) (drop header octets) (omega (arith, length-drop header octets, h.most, h.least))

all_found : (octets header : List ℕ) (pdu : Pdu) → AreOctets octets → pdu_read octets ≡ Ok (header, pdu) → AllFound octets header pdu
all_found octets header pdu fits e =
    let target : List ℕ × Pdu = (header, pdu) in
    let a = bind_ok (header_read octets) (from_checksum octets) target (sym (in_stages octets) ∙ e) in
    let b = bind_ok (checksum_read a.0) (from_flags octets a.0) target a.2 in
    let c = bind_ok (flags_read (get_or a.0 4 0)) (from_destination octets a.0 b.0) target b.2 in
    let d = bind_ok (address_read a.0 9) (from_source octets a.0 b.0 c.0) target c.2 in
    let s = bind_ok (address_read a.0 (10 + length d.0)) (from_segment octets a.0 b.0 c.0 d.0) target d.2 in
    let at = 11 + length d.0 + length s.0 in
    let g = bind_ok (segment_read a.0 at c.0) (from_options octets a.0 b.0 c.0 d.0 s.0) target s.2 in
    let o = bind_ok (options_read a.0 (at + segment_octets g.0) c.0) (from_body octets a.0 b.0 c.0 d.0 s.0 g.0) target g.2 in
    let v = bind_ok (body_read octets (length a.0) c.0) (from_placed a.0 b.0 c.0 d.0 s.0 g.0 o.0) target o.2 in
    let p = bind_ok (placed_read g.0 (length a.0 + length v.0) (at + 5) c.0.report) (λ nothing. Ok (a.0, made a.0 b.0 c.0 d.0 s.0 g.0 o.0 v.0)) target v.2 in
    let value = made a.0 b.0 c.0 d.0 s.0 g.0 o.0 v.0 in
    let header_part = header_found octets a.0 a.1 in
    let P : List ℕ → Type 0 = AreOctets in
    let header_fits : AreOctets a.0 = subst P (sym header_part.is) (AreOctets-take (get_or octets 1 0) octets fits) in
    let segment = segment_found a.0 at c.0 g.0 g.1 in
    let body = body_found octets v.0 (length a.0) c.0 v.1 in
    let len = length-body octets v.0 (length a.0) c.0.more body in
    let Q : List Parameter → Type 0 = IsOptions c.0.kind (drop (at + segment_octets g.0) a.0) in
    let found : AllFound octets a.0 value = record {
      options = drop (at + segment_octets g.0) a.0;
      header_part = header_part;
      checksum_part = checksum_found a.0 b.0 (header_fits 7) (header_fits 8) b.1;
      flags_part = flags_part (get_or a.0 4 0) c.0 g.0 a.0 at (header_fits 4) (flags_found (get_or a.0 4 0) c.0 c.1) segment;
      destination_part = address_found a.0 d.0 9 d.1;
      source_part = address_found a.0 s.0 (10 + length d.0) s.1;
      segment_stand = segment_stands a.0 at c.0 g.0 header_fits segment;
      options_part = subst Q (sym (parameters_again o.0)) (options_found a.0 (at + segment_octets g.0) c.0 o.0 o.1);
      lifetime = refl;
      more = c.0.more;
      body_part = body;
      segment_fits = segment_part_of g.0 a.0 at c.0 (length a.0 + length v.0) (length v.0) segment (placed_found g.0 (length a.0 + length v.0) (at + 5) c.0.report p.0 p.1)
          (λ m. omega (arith, body.some m, len)) (λ m. ap (λ (n : ℕ). n % 8) len ∙ body.eights m);
    } in
    subst (λ (q : List ℕ × Pdu). AllFound octets q.0 q.1) {x = (a.0, value)} {y = target} (ok_is (a.0, value) target p.2) found

-- the fields stand at their places
fields_stand : (octets header : List ℕ) (pdu : Pdu) (pdu_length : ℕ) → AreOctets octets → (h : AllFound octets header pdu) → number_at 5 octets ≡ pdu_length
    → HasFields header pdu (get_or header 4 0) pdu_length (get_or header 7 0) (get_or header 8 0) h.options
fields_stand octets header pdu pdu_length fits h number-is =
    let len : length header ≡ get_or octets 1 0 = ap length h.header_part.is ∙ length-take-le (get_or octets 1 0) octets h.header_part.within in
    let at : (i : ℕ) → i < 13 → get_or header i 0 ≡ get_or octets i 0 =
    λ i lt. ap (λ (xs : List ℕ). get_or xs i 0) h.header_part.is ∙ get_or-take (get_or octets 1 0) octets i 0 (omega (arith, h.header_part.least)) in
    let parts = two_octets_of (get_or octets 5 0) (get_or octets 6 0) (fits 6) in
    let first : drop 9 header ≡ field pdu.destination ++ drop (10 + length pdu.destination) header = h.destination_part.stands in
    let second : drop (10 + length pdu.destination) header ≡ field pdu.source ++ drop (11 + length pdu.destination + length pdu.source) header =
    h.source_part.stands ∙ ap (λ (n : ℕ). field pdu.source ++ drop n header) (omega arith) in
    record {
      identifier = at 0 (omega arith) ∙ h.header_part.identifier;
      indicator = at 1 (omega arith) ∙ sym len;
      version = at 2 (omega arith) ∙ h.header_part.version;
      lifetime = h.lifetime;
      flags_is = refl;
      higher = at 5 (omega arith) ∙ parts.0 ∙ ap (λ (n : ℕ). n / 256) number-is;
      lower = at 6 (omega arith) ∙ parts.1 ∙ ap (λ (n : ℕ). n % 256) number-is;
      first_is = refl;
      second_is = refl;
      variable = first ∙ ap (λ (xs : List ℕ). field pdu.destination ++ xs) (second ∙ ap (λ (xs : List ℕ). field pdu.source ++ xs) h.segment_stand);
    }

-- a PDU stands at the front, and this is its header
pub record FrontFound (octets header : List ℕ) (pdu : Pdu) : Type 0 where
  pub rest : List ℕ
  pub begins : BeginsWith IsPdu octets pdu rest
  pub header_is : header ≡ take (header_length pdu) octets

pub found : (octets header : List ℕ) (pdu : Pdu) → AreOctets octets → pdu_read octets ≡ Ok (header, pdu) → FrontFound octets header pdu
found octets header pdu fits e =
    let h = all_found octets header pdu fits e in
    let count = number_at 5 octets in
    let body = h.body_part in
    let len : length header ≡ get_or octets 1 0 = ap length h.header_part.is ∙ length-take-le (get_or octets 1 0) octets h.header_part.within in
    let header_is : header ≡ take (length header) octets = h.header_part.is ∙ ap (λ (n : ℕ). take n octets) (sym len) in
    let front = header ++ pdu.body in
    let rest = drop count octets in
    let body_length = length-body octets pdu.body (length header) h.more body in
    let length-front : length front ≡ count = length-append header pdu.body ∙ omega (arith, body.least) in
    let split : count ≡ length header + (count - length header) = omega (arith, body.least) in
    let front_is : front ≡ take count octets =
    ap (λ (xs : List ℕ). xs ++ pdu.body) header_is ∙ ap (λ (xs : List ℕ). take (length header) octets ++ xs) body.is
    ∙ sym (take-add (length header) (count - length header) octets) ∙ ap (λ (n : ℕ). take n octets) (sym split) in
    let fields = fields_stand octets header pdu (length front) fits h (sym length-front) in
    let most : count ≤ 65535 = omega (arith, fits 5, fits 6) in
    let P : ℕ → Type 0 = λ n. MayBeSegment pdu.segment n (length pdu.body) in
    let is_pdu : IsPdu front pdu = record {
      header = header;
      options = h.options;
      flags = get_or header 4 0;
      first = get_or header 7 0;
      second = get_or header 8 0;
      whole = refl;
      parts = parts_of header pdu (get_or header 4 0) (length front) (get_or header 7 0) (get_or header 8 0) h.options (omega (arith, h.header_part.least)) fields;
      flags_part = h.flags_part;
      checksum = h.checksum_part;
      destination = h.destination_part.is_address;
      source = h.source_part.is_address;
      segment = subst P (sym (length-append header pdu.body)) h.segment_fits;
      options_part = h.options_part;
      header_fits = omega (arith, h.header_part.most);
      pdu_fits = omega arith;
    } in
    record {
      rest = rest;
      begins = record { front = front; whole = sym (take-append-drop count octets) ∙ ap (λ (xs : List ℕ). xs ++ rest) (sym front_is); stands = is_pdu };
      header_is = header_is ∙ ap (λ (n : ℕ). take n octets) (length-header front pdu is_pdu);
    }
