-- What is in the grammar is read again, whatever follows.
use Rattle.std.proofs.Common.{◌≡◌, ◌==◌, ◌&&◌, ◌||◌, not, ℕ, ◌+◌, ◌-◌, ◌*◌, ◌/◌, ◌%◌, ◌<◌, ◌≤◌, Bool, true, false, ltb, leb, List, [], ◌∷◌, ◌++◌, length, get_or, drop, map, Option, Some, None, Ok, refl, sym, ap, subst, ◌∙◌, append_assoc, arith, length-append, length-drop, get_or-drop}
use Rattle.std.proofs.lemmas.Bool.{le-ltb}
use Rattle.std.proofs.lemmas.List.{take_at, drop_at, get_or_append_left, drop-drop}
use Rattle.clnp_options.specs.Grammar.{IsOptions}
use Rattle.clnp_options.specs.declared.reason.PduKind.{PduKind}
use Rattle.clnp_options.specs.declared.reason.PduKind.TheVariants.{Dt, Er}
use Rattle.clnp_header.specs.declared.pdu.OwnOpt.{OwnOpt}
use Rattle.clnp_header.specs.declared.pdu.Pdu.{Pdu}
use Rattle.clnp_header.specs.declared.pdu.SegmentPart.{SegmentPart}
use Rattle.clnp_header.specs.declared.flags.Flags.{Flags}
use Rattle.clnp_header.specs.Grammar.{IsPdu, IsPlaced, MayBeSegment, segment_part, variable_part}
use Rattle.pdu_parts.specs.Field.{IsAddress, field}
use Rattle.pdu_parts.specs.Checksum.{IsChecksum}
use Rattle.clnp_header.specs.Flags.{AreFlags, flags_octet}
use Rattle.clnp_header.specs.Values.{is_followed, is_segment, own, parameters}
use Rattle.clnp_header.specs.Faults.{is_placed}
use Rattle.pdu_parts.specs.Number.{number_at}
use Rattle.pdu_parts.proofs.Addresses.{reads_address}
use Rattle.pdu_parts.specs.Checksum.{checksum_in}
use Rattle.clnp_header.specs.steps.Reading.{header_read, checksum_read, flags_read, address_read, segment_read, segment_octets, options_read, body_read, placed_read, pdu_read}
use Rattle.clnp_header.proofs.OptionsRead.{options_ok}
use Rattle.clnp_header.proofs.Parts.{fields_of, length-variable}

pub header_again : (header rest : List ℕ) → get_or header 0 0 ≡ 0x81 → get_or header 1 0 ≡ length header → get_or header 2 0 ≡ 1
    → 13 ≤ length header → length header ≤ 254 → header_read (header ++ rest) ≡ Ok header
unfolding header_read
header_again header rest first second third least most =
    let long : ltb (length (header ++ rest)) 9 ≡ false = le-ltb _ _ (omega (arith, length-append header rest)) in
    let identifier : get_or (header ++ rest) 0 0 ≡ 0x81 = get_or_append_left header rest 0 0 (omega arith) ∙ first in
    let indicator : get_or (header ++ rest) 1 0 ≡ length header = get_or_append_left header rest 0 1 (omega arith) ∙ second in
    let version : get_or (header ++ rest) 2 0 ≡ 1 = get_or_append_left header rest 0 2 (omega arith) ∙ third in
    let above : ltb (length header) 13 ≡ false = le-ltb _ _ least in
    let below : ltb 254 (length header) ≡ false = le-ltb _ _ most in
    let within : ltb (length (header ++ rest)) (length header) ≡ false = le-ltb _ _ (omega (arith, length-append header rest)) in
    rw (long, identifier, indicator, above, below, within, version, take_at header rest (length header) refl) refl

checksum_there : (used : Bool) (header : List ℕ) → IsChecksum used (get_or header 7 0) (get_or header 8 0) header → checksum_in header ≡ Some used
unfolding checksum_in
checksum_there false header h = rw (h.0, h.1) refl
checksum_there true header h = grind arith

pub checksum_again : (used : Bool) (header : List ℕ) → IsChecksum used (get_or header 7 0) (get_or header 8 0) header → checksum_read header ≡ Ok used
checksum_again used header h = rw (checksum_there used header h) refl

-- the flags as the fields of a PDU have them
abbrev pub field_flags : PduKind → Option SegmentPart → Bool → Flags
field_flags kind segment report = record { kind = kind; segmented = is_segment segment; more = is_followed segment; report = report }

dt_again : (more report : Bool) → flags_read (flags_octet true more report 0x1c) ≡ Ok (record { kind = Dt; segmented = true; more = more; report = report })
unfolding flags_read
dt_again true true = refl
dt_again true false = refl
dt_again false true = refl
dt_again false false = refl

whole_dt_again : (report : Bool) → flags_read (flags_octet false false report 0x1c) ≡ Ok (record { kind = Dt; segmented = false; more = false; report = report })
unfolding flags_read
whole_dt_again true = refl
whole_dt_again false = refl

er_again : (more report : Bool) → flags_read (flags_octet false more report 0x01) ≡ Ok (record { kind = Er; segmented = false; more = false; report = false })
unfolding flags_read
er_again true true = refl
er_again true false = refl
er_again false true = refl
er_again false false = refl

pub flags_again : (kind : PduKind) (octet : ℕ) (segment : Option SegmentPart) (report : Bool) → AreFlags kind octet segment report → flags_read octet ≡ Ok (field_flags kind segment report)
flags_again Dt octet None report h = ap flags_read h ∙ whole_dt_again report
flags_again Dt octet (Some part) report h = ap flags_read h ∙ dt_again part.more report
flags_again Er octet segment report h =
    ap flags_read h.parts ∙ er_again h.more_bit h.report_bit
    ∙ ap (λ (s : Option SegmentPart). Ok (field_flags Er s false)) (sym h.whole) ∙ ap (λ (b : Bool). Ok (field_flags Er segment b)) (sym h.unreported)

pub address_again : (header octets rest : List ℕ) (at : ℕ) → IsAddress octets → drop at header ≡ field octets ++ rest → address_read header at ≡ Ok octets
address_again header octets rest at h e = rw (e, reads_address.there octets rest h) refl

-- a number in two octets
two_again : (n : ℕ) → n / 256 * 256 + n % 256 ≡ n
two_again n = omega arith

number_of : (header octets : List ℕ) (at place : ℕ) → drop at header ≡ octets → number_at (at + place) header ≡ get_or octets place 0 * 256 + get_or octets (place + 1) 0
number_of header octets at place e =
    let first : get_or header (at + place) 0 ≡ get_or octets place 0 = sym (get_or-drop at header place 0) ∙ ap (λ (xs : List ℕ). get_or xs place 0) e in
    let second : get_or header (at + place + 1) 0 ≡ get_or octets (place + 1) 0 =
    ap (λ (n : ℕ). get_or header n 0) (omega arith) ∙ sym (get_or-drop at header (place + 1) 0) ∙ ap (λ (xs : List ℕ). get_or xs (place + 1) 0) e in
    rw (first, second) refl

segment_again_some : (header rest : List ℕ) (at : ℕ) (part : SegmentPart) (kind : PduKind) (report : Bool) → drop at header ≡ segment_part (Some part) ++ rest → part.offset % 8 ≡ 0
    → segment_read header at (field_flags kind (Some part) report) ≡ Ok (Some part)
unfolding segment_read
segment_again_some header rest at part kind report stands aligned =
    let first : number_at at header ≡ part.id = ap (λ (n : ℕ). number_at n header) (omega arith) ∙ number_of header (segment_part (Some part) ++ rest) at 0 stands ∙ two_again part.id in
    let second : number_at (at + 2) header ≡ part.offset = number_of header (segment_part (Some part) ++ rest) at 2 stands ∙ two_again part.offset in
    let third : number_at (at + 4) header ≡ part.total = number_of header (segment_part (Some part) ++ rest) at 4 stands ∙ two_again part.total in
    let count : length (drop at header) ≡ 6 + length rest = ap length stands ∙ omega arith in
    let within : ltb (length header) (at + 6) ≡ false = le-ltb _ _ (omega (arith, length-drop at header)) in
    rw (within, second, aligned, first, third) refl

pub segment_again : (header rest : List ℕ) (at pdu_length data_length : ℕ) (segment : Option SegmentPart) (kind : PduKind) (report : Bool) → drop at header ≡ segment_part segment ++ rest
    → MayBeSegment segment pdu_length data_length → segment_read header at (field_flags kind segment report) ≡ Ok segment
unfolding segment_read
segment_again header rest at pdu_length data_length None kind report stands h = refl
segment_again header rest at pdu_length data_length (Some part) kind report stands h = segment_again_some header rest at part kind report stands h.aligned

pub octets_again : (segment : Option SegmentPart) → segment_octets segment ≡ length (segment_part segment)
octets_again None = refl
octets_again (Some part) = refl

-- the number in the octets at 5 and 6 of a header
pub number_again : (header rest : List ℕ) (number : ℕ) → 9 ≤ length header → get_or header 5 0 ≡ number / 256 → get_or header 6 0 ≡ number % 256
    → number_at 5 (header ++ rest) ≡ number
number_again header rest number long higher lower =
    rw (get_or_append_left header rest 0 5 (omega arith), get_or_append_left header rest 0 6 (omega arith), higher, lower) (omega arith)

uneven : (more : Bool) (header whole : ℕ) → (more ≡ true → header < whole) → (more ≡ true → (whole - header) % 8 ≡ 0)
    → (more && (leb whole header || not ((whole - header) % 8 == 0))) ≡ false
uneven false header whole some eights = refl
uneven true header whole some eights = let a = some refl in let b = eights refl in grind arith

pub body_again : (header body rest : List ℕ) (flags : Flags) (pdu_length : ℕ) → number_at 5 ((header ++ body) ++ rest) ≡ pdu_length
    → length header + length body ≡ pdu_length → (flags.more ≡ true → 0 < length body) → (flags.more ≡ true → length body % 8 ≡ 0)
    → body_read ((header ++ body) ++ rest) (length header) flags ≡ Ok body
unfolding body_read
body_again header body rest flags pdu_length number-is length-is some eights =
    let least : ltb pdu_length (length header) ≡ false = le-ltb _ _ (omega arith) in
    let most : ltb (length ((header ++ body) ++ rest)) pdu_length ≡ false = le-ltb _ _ (omega (arith, length-append (header ++ body) rest, length-append header body)) in
    let behind : drop (length header) ((header ++ body) ++ rest) ≡ body ++ rest = ap (drop (length header)) (append_assoc header body rest) ∙ drop_at header (body ++ rest) (length header) refl in
    let count : pdu_length - length header ≡ length body = omega arith in
    let even = uneven flags.more (length header) pdu_length (λ more. omega (arith, some more)) (λ more. ap (λ (n : ℕ). n % 8) count ∙ eights more) in
    rw (number-is, least, most, even, behind, count, take_at body rest (length body) refl) refl

followed_some : (segment : Option SegmentPart) (pdu_length data_length : ℕ) → MayBeSegment segment pdu_length data_length → is_followed segment ≡ true → 0 < data_length
followed_some None pdu_length data_length h more = absurd cc
followed_some (Some part) pdu_length data_length h more = h.some more

followed_eights : (segment : Option SegmentPart) (pdu_length data_length : ℕ) → MayBeSegment segment pdu_length data_length → is_followed segment ≡ true → data_length % 8 ≡ 0
followed_eights None pdu_length data_length h more = absurd cc
followed_eights (Some part) pdu_length data_length h more = h.eights more

is_placed_again : (more : Bool) (end total : ℕ) → IsPlaced more end total → is_placed more end total ≡ true
is_placed_again true end total h = grind arith
is_placed_again false end total h = grind arith

pub placed_again : (segment : Option SegmentPart) (pdu_length data_length place : ℕ) (report : Bool) → MayBeSegment segment pdu_length data_length → placed_read segment pdu_length place report ≡ Ok tt
unfolding placed_read
placed_again None pdu_length data_length place report h = refl
placed_again (Some part) pdu_length data_length place report h = rw (is_placed_again part.more (part.offset + pdu_length) part.total h.placed) refl

pub own_again : (options : List OwnOpt) → map own (parameters options) ≡ options
own_again [] = refl
own_again (option ∷ options) = ap (λ (xs : List OwnOpt). option ∷ xs) (own_again options)

pub pdu_again : (front rest : List ℕ) (pdu : Pdu) (h : IsPdu front pdu) → pdu_read (front ++ rest) ≡ Ok (h.header, pdu)
unfolding pdu_read
pdu_again front rest pdu h =
    let header = h.header in
    let fields = fields_of header pdu h.flags (length header) (length front) h.first h.second h.options refl h.parts in
    let len : length header ≡ 9 + length (variable_part pdu h.options) = ap length h.parts ∙ omega arith in
    let variable = length-variable pdu h.options in
    let length-front : length front ≡ length header + length pdu.body = ap length h.whole ∙ length-append header pdu.body in
    let regrouped : front ++ rest ≡ (header ++ pdu.body) ++ rest = ap (λ (xs : List ℕ). xs ++ rest) h.whole in
    let least : 13 ≤ length header = omega (arith, h.destination.some, h.source.some) in
    let read_header : header_read (front ++ rest) ≡ Ok header =
    ap header_read (regrouped ∙ append_assoc header pdu.body rest) ∙ header_again header (pdu.body ++ rest) fields.identifier fields.indicator fields.version least h.header_fits in
    let read_checksum : checksum_read header ≡ Ok pdu.checksum_used =
    checksum_again pdu.checksum_used header (rw (fields.first_is, fields.second_is) h.checksum) in
    let flags = field_flags pdu.kind pdu.segment pdu.report in
    let read_flags : flags_read (get_or header 4 0) ≡ Ok flags = ap flags_read fields.flags_is ∙ flags_again pdu.kind h.flags pdu.segment pdu.report h.flags_part in
    let behind_source = segment_part pdu.segment ++ h.options in
    let behind_destination = field pdu.source ++ behind_source in
    let read_destination : address_read header 9 ≡ Ok pdu.destination =
    address_again header pdu.destination behind_destination 9 h.destination fields.variable in
    let source_stands : drop (10 + length pdu.destination) header ≡ behind_destination =
    ap (λ (n : ℕ). drop n header) (omega arith) ∙ sym (drop-drop (1 + length pdu.destination) 9 header) ∙ ap (drop (1 + length pdu.destination)) fields.variable
    ∙ drop_at (field pdu.destination) behind_destination (1 + length pdu.destination) (omega arith) in
    let read_source : address_read header (10 + length pdu.destination) ≡ Ok pdu.source =
    address_again header pdu.source behind_source (10 + length pdu.destination) h.source source_stands in
    let at = 11 + length pdu.destination + length pdu.source in
    let segment_stands : drop at header ≡ behind_source =
    ap (λ (n : ℕ). drop n header) (omega arith) ∙ sym (drop-drop (1 + length pdu.source) (10 + length pdu.destination) header) ∙ ap (drop (1 + length pdu.source)) source_stands
    ∙ drop_at (field pdu.source) behind_source (1 + length pdu.source) (omega arith) in
    let read_segment : segment_read header at flags ≡ Ok pdu.segment =
    segment_again header h.options at (length front) (length pdu.body) pdu.segment pdu.kind pdu.report segment_stands h.segment in
    let options_stand : drop (at + segment_octets pdu.segment) header ≡ h.options =
    sym (drop-drop (segment_octets pdu.segment) at header) ∙ ap (drop (segment_octets pdu.segment)) segment_stands
    ∙ drop_at (segment_part pdu.segment) h.options (segment_octets pdu.segment) (sym (octets_again pdu.segment)) in
    let P : List ℕ → Type 0 = λ xs. IsOptions pdu.kind xs (parameters pdu.options) in
    let read_options : options_read header (at + segment_octets pdu.segment) flags ≡ Ok (parameters pdu.options) =
    options_ok header (at + segment_octets pdu.segment) flags (parameters pdu.options) (subst P (sym options_stand) h.options_part) in
    let number-is : number_at 5 (front ++ rest) ≡ length front =
    ap (number_at 5) (regrouped ∙ append_assoc header pdu.body rest) ∙ number_again header (pdu.body ++ rest) (length front) (omega arith) fields.higher fields.lower in
    let read_body : body_read (front ++ rest) (length header) flags ≡ Ok pdu.body =
    ap (λ (xs : List ℕ). body_read xs (length header) flags) regrouped
    ∙ body_again header pdu.body rest flags (length front) (ap (number_at 5) (sym regrouped) ∙ number-is) (sym length-front)
    (followed_some pdu.segment (length front) (length pdu.body) h.segment) (followed_eights pdu.segment (length front) (length pdu.body) h.segment) in
    let nothing : placed_read pdu.segment (length header + length pdu.body) (at + 5) pdu.report ≡ Ok tt =
    ap (λ (n : ℕ). placed_read pdu.segment n (at + 5) pdu.report) (sym length-front) ∙ placed_again pdu.segment (length front) (length pdu.body) (at + 5) pdu.report h.segment in
    rw (read_header, read_checksum, read_flags, read_destination, read_source, read_segment, read_options, read_body, nothing, fields.lifetime, own_again pdu.options) refl
