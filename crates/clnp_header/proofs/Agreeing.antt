-- What stops the reading is the first failing step: each test of the reader is a step of the table, in the same order.
use Rattle.std.proofs.Common.{◌≡◌, ◌==◌, ◌&&◌, ◌||◌, not, ℕ, ◌+◌, ◌-◌, ◌%◌, Bool, true, false, cond, ltb, leb, List, length, get_or, take, drop, option_map, is_some, Option, Some, None, Result, Ok, Err, refl, sym, ap, ◌∙◌, arith, inl, inr, ◌⊎◌, length-drop, length-take-le}
use Rattle.clnp_options.specs.Faults.{first_fault as first_options_fault}
use Rattle.pdu_parts.specs.Parameter.{Parameter, parameters_in}
use Rattle.clnp_options.specs.declared.reason.Fault.{Fault}
use Rattle.clnp_options.specs.declared.reason.PduKind.{PduKind}
use Rattle.clnp_header.specs.declared.pdu.SegmentPart.{SegmentPart}
use Rattle.clnp_header.specs.declared.flags.Flags.{Flags}
use Rattle.pdu_parts.specs.FirstFault.{must, or_else, first_failing}
use Rattle.clnp_header.specs.Faults.{fault, with_report, first_fault, steps, is_eights, is_placed}
use Rattle.clnp_header.specs.Flags.{are_flags, is_dt, is_er, is_segmented, has_more, kind_of, wants_report}
use Rattle.pdu_parts.specs.Number.{number_at}
use Rattle.pdu_parts.specs.Checksum.{checksum_in}
use Rattle.pdu_parts.specs.Field.{address_at}
use Rattle.clnp_options.specs.declared.reason.Reason.TheVariants.{HeaderSyntax, IncompletePdu, IncorrectChecksum, UnsupportedVersion}
use Rattle.pdu_parts.proofs.Readings.{unless, ◌>>=◌, found_or}
use Rattle.clnp_header.specs.steps.Reading.{header_read, checksum_read, flags_read, address_read, segment_read, segment_octets, options_read, body_read, placed_read, pdu_read}
use Rattle.clnp_header.proofs.Stages.{from_placed, from_body, from_options, from_segment, from_source, from_destination, from_flags, from_checksum, in_stages, FlagsFound, ErFound, flags_found, NoSegment, SegmentFound, segment_found, body_found, address_found, header_found}

-- the fault, where there is one
abbrev pub fault_of : {A : Type 0} → Result A Fault → Option Fault
fault_of (Ok x) = None
fault_of (Err why) = Some why

pub fault_of-bind : {A B : Type 0} (r : Result A Fault) (f : A → Result B Fault) (later : Option Fault) → ((x : A) → r ≡ Ok x → fault_of (f x) ≡ later)
    → fault_of (r >>= f) ≡ or_else (fault_of r) later
fault_of-bind (Ok x) f later h = h x refl
fault_of-bind (Err why) f later h = refl

pub or_else_assoc : (a b c : Option Fault) → or_else (or_else a b) c ≡ or_else a (or_else b c)
or_else_assoc None b c = refl
or_else_assoc (Some why) b c = refl

pub or_else-None : (a : Option Fault) → or_else a None ≡ a
or_else-None None = refl
or_else-None (Some why) = refl

-- a test that turns back agrees with the step of which it is the contrary
guard_agrees : {A : Type 0} (bad holds : Bool) (why : Fault) (r : Result A Fault) (later : Option Fault) → bad ≡ not holds → fault_of r ≡ later
    → fault_of (cond bad (Err why) r) ≡ or_else (cond holds None (Some why)) later
guard_agrees true true why r later e h = absurd cc
guard_agrees true false why r later e h = refl
guard_agrees false true why r later e h = h
guard_agrees false false why r later e h = absurd cc

ltb-not_leb : (a b : ℕ) → ltb a b ≡ not (leb b a)
ltb-not_leb a b = grind arith

between : (a x b : ℕ) → (ltb x a || ltb b x) ≡ not (leb a x && leb x b)
between a x b = grind arith

abbrev header_faults : List ℕ → Option Fault
header_faults octets =
    or_else (must (leb 9 (length octets)) (fault IncompletePdu 0 false))
    (or_else (must (get_or octets 0 0 == 0x81) (fault HeaderSyntax 1 false))
    (or_else (must (leb 13 (get_or octets 1 0) && leb (get_or octets 1 0) 254) (fault HeaderSyntax 2 false))
    (or_else (must (leb (get_or octets 1 0) (length octets)) (fault IncompletePdu 2 false))
    (or_else (must (get_or octets 2 0 == 0x01) (fault UnsupportedVersion 3 false)) None))))

header_agrees : (octets : List ℕ) → fault_of (header_read octets) ≡ header_faults octets
unfolding header_read
header_agrees octets =
    guard_agrees _ _ _ _ _ (ltb-not_leb (length octets) 9)
    (guard_agrees _ _ _ _ _ refl
    (guard_agrees _ _ _ _ _ (between 13 (get_or octets 1 0) 254)
    (guard_agrees _ _ _ _ _ (ltb-not_leb (length octets) (get_or octets 1 0))
    (guard_agrees _ _ _ _ _ refl refl))))

-- what was found or not agrees with the step that it is there
found_agrees : {A : Type 0} (found : Option A) (why : Fault) → fault_of (found_or found why) ≡ must (is_some found) why
found_agrees None why = refl
found_agrees (Some x) why = refl

checksum_agrees : (header : List ℕ) → fault_of (checksum_read header) ≡ must (is_some (checksum_in header)) (fault IncorrectChecksum 8 false)
checksum_agrees header = found_agrees (checksum_in header) _

flags_agrees : (octet : ℕ) → fault_of (flags_read octet) ≡ must (are_flags octet) (fault HeaderSyntax 5 false)
unfolding flags_read
flags_agrees octet = grind arith

first_agrees : (found : Option (List ℕ × List ℕ)) (why : Fault) → fault_of (found_or (option_map (λ (x : List ℕ × List ℕ). x.0) found) why) ≡ must (is_some found) why
first_agrees None why = refl
first_agrees (Some x) why = refl

address_agrees : (header : List ℕ) (at : ℕ) → fault_of (address_read header at) ≡ must (is_some (address_at (drop at header))) (fault HeaderSyntax (at + 1) false)
address_agrees header at = first_agrees (address_at (drop at header)) _

-- a test that goes on agrees with the step that is the same
passing_agrees : {A : Type 0} (holds : Bool) (why : Fault) (good : Result A Fault) → fault_of good ≡ None → fault_of (cond holds good (Err why)) ≡ cond holds None (Some why)
passing_agrees true why good h = h
passing_agrees false why good h = refl

options_agree : {A : Type 0} (why : Option Fault) (x : A) → fault_of (unless why x) ≡ why
options_agree None x = refl
options_agree (Some why) x = refl

-- ---- the stages, from the last one on

abbrev placed_faults : List ℕ → Flags → ℕ → ℕ → Option Fault
placed_faults header flags at whole =
    or_else (must (not flags.segmented || is_placed flags.more (number_at (at + 2) header + whole) (number_at (at + 4) header)) (fault HeaderSyntax (at + 5) flags.report)) None

placed_agrees : (header : List ℕ) (flags : Flags) (at whole : ℕ) (segment : Option SegmentPart) → NoSegment flags segment ⊎ SegmentFound header at flags segment
    → fault_of (placed_read segment whole (at + 5) flags.report) ≡ placed_faults header flags at whole
unfolding placed_read
placed_agrees header flags at whole segment (inl h) = rw (h.nothing, h.whole) refl
placed_agrees header flags at whole segment (inr h) =
    rw (h.is, h.permitted) (passing_agrees (is_placed flags.more (number_at (at + 2) header + whole) (number_at (at + 4) header)) _ (Ok tt) refl ∙ sym (or_else-None _))

from_placed_agrees : (header : List ℕ) (used : Bool) (flags : Flags) (destination source : List ℕ) (segment : Option SegmentPart) (options : List Parameter) (body : List ℕ) (at whole : ℕ)
    → NoSegment flags segment ⊎ SegmentFound header at flags segment → 11 + length destination + length source ≡ at → length header + length body ≡ whole
    → fault_of (from_placed header used flags destination source segment options body) ≡ placed_faults header flags at whole
from_placed_agrees header used flags destination source segment options body at whole found at-is whole-is =
    fault_of-bind (placed_read segment (length header + length body) (11 + length destination + length source + 5) flags.report) _ None (λ x e. refl)
    ∙ or_else-None _
    ∙ ap (λ (n : ℕ). fault_of (placed_read segment n (11 + length destination + length source + 5) flags.report)) whole-is
    ∙ ap (λ (n : ℕ). fault_of (placed_read segment whole (n + 5) flags.report)) at-is
    ∙ placed_agrees header flags at whole segment found

abbrev body_faults : List ℕ → List ℕ → Flags → Option Fault → Option Fault
body_faults octets header flags later =
    or_else (must (leb (length header) (number_at 5 octets)) (fault HeaderSyntax 6 flags.report))
    (or_else (must (leb (number_at 5 octets) (length octets)) (fault IncompletePdu 6 flags.report))
    (or_else (must (not flags.more || is_eights (length header) (number_at 5 octets)) (fault HeaderSyntax 6 flags.report)) later))

even_test : (more eights : Bool) (header whole : ℕ) → (more && (leb whole header || not eights)) ≡ not (not more || (ltb header whole && eights))
even_test true true header whole = grind arith
even_test true false header whole = grind arith
even_test false eights header whole = refl

body_agrees : (octets header : List ℕ) (flags : Flags) → fault_of (body_read octets (length header) flags) ≡ body_faults octets header flags None
unfolding body_read
body_agrees octets header flags =
    guard_agrees _ _ _ _ _ (ltb-not_leb (number_at 5 octets) (length header))
    (guard_agrees _ _ _ _ _ (ltb-not_leb (length octets) (number_at 5 octets))
    (guard_agrees _ _ _ _ _ (even_test flags.more ((number_at 5 octets - length header) % 8 == 0) (length header) (number_at 5 octets)) refl))

body_more : (octets header : List ℕ) (flags : Flags) (later : Option Fault) → or_else (body_faults octets header flags None) later ≡ body_faults octets header flags later
body_more octets header flags later = simp or_else_assoc

from_body_agrees : (octets header : List ℕ) (used : Bool) (flags : Flags) (destination source : List ℕ) (segment : Option SegmentPart) (options : List Parameter) (at : ℕ)
    → NoSegment flags segment ⊎ SegmentFound header at flags segment → 11 + length destination + length source ≡ at
    → fault_of (from_body octets header used flags destination source segment options) ≡ body_faults octets header flags (placed_faults header flags at (number_at 5 octets))
from_body_agrees octets header used flags destination source segment options at found at-is =
    let later = placed_faults header flags at (number_at 5 octets) in
    fault_of-bind (body_read octets (length header) flags) _ later
    (λ x e.
    let h = body_found octets x (length header) flags e in
    let len : length x ≡ number_at 5 octets - length header = ap length h.is ∙ length-take-le _ (drop (length header) octets) (omega (arith, length-drop (length header) octets, h.most, h.least)) in
    from_placed_agrees header used flags destination source segment options x at (number_at 5 octets) found at-is (omega (arith, h.least)))
    ∙ ap (λ f. or_else f later) (body_agrees octets header flags)
    ∙ body_more octets header flags later

abbrev options_faults : List ℕ → List ℕ → Flags → ℕ → ℕ → Option Fault
options_faults octets header flags at options =
    or_else (with_report flags.report (first_options_fault flags.kind (options + 1) (drop options header))) (body_faults octets header flags (placed_faults header flags at (number_at 5 octets)))

from_options_agrees : (octets header : List ℕ) (used : Bool) (flags : Flags) (destination source : List ℕ) (segment : Option SegmentPart) (at options : ℕ)
    → NoSegment flags segment ⊎ SegmentFound header at flags segment → 11 + length destination + length source ≡ at
    → 11 + length destination + length source + segment_octets segment ≡ options
    → fault_of (from_options octets header used flags destination source segment) ≡ options_faults octets header flags at options
from_options_agrees octets header used flags destination source segment at options found at-is options-is =
    let start = 11 + length destination + length source + segment_octets segment in
    let later = body_faults octets header flags (placed_faults header flags at (number_at 5 octets)) in
    fault_of-bind (options_read header start flags) _ later (λ x e. from_body_agrees octets header used flags destination source segment x at found at-is)
    ∙ ap (λ f. or_else f later) (options_agree (with_report flags.report (first_options_fault flags.kind (start + 1) (drop start header))) (parameters_in (drop start header)))
    ∙ ap (options_faults octets header flags at) options-is

abbrev segment_octets_if : Bool → ℕ
segment_octets_if segmented = cond segmented 6 0

octets_if : (header : List ℕ) (at : ℕ) (flags : Flags) (segment : Option SegmentPart) → NoSegment flags segment ⊎ SegmentFound header at flags segment → segment_octets segment ≡ segment_octets_if flags.segmented
octets_if header at flags segment (inl h) = rw (h.nothing, h.whole) refl
octets_if header at flags segment (inr h) = rw (h.is, h.permitted) refl

-- all faults behind the addresses
abbrev late_faults : List ℕ → List ℕ → Flags → ℕ → Option Fault
late_faults octets header flags at =
    or_else (must (not flags.segmented || leb (at + 6) (length header)) (fault HeaderSyntax (at + 1) flags.report))
    (or_else (must (not flags.segmented || (number_at (at + 2) header % 8 == 0)) (fault HeaderSyntax (at + 3) flags.report))
    (options_faults octets header flags at (at + segment_octets_if flags.segmented)))

segment_agrees_by : (header : List ℕ) (at : ℕ) (kind : PduKind) (segmented more report : Bool)
    → fault_of (segment_read header at (record { kind = kind; segmented = segmented; more = more; report = report }))
    ≡ or_else (must (not segmented || leb (at + 6) (length header)) (fault HeaderSyntax (at + 1) report)) (or_else (must (not segmented || (number_at (at + 2) header % 8 == 0)) (fault HeaderSyntax (at + 3) report)) None)
unfolding segment_read
segment_agrees_by header at kind false more report = refl
segment_agrees_by header at kind true more report = guard_agrees _ _ _ _ _ (ltb-not_leb (length header) (at + 6)) (guard_agrees _ _ _ _ _ refl refl)

segment_agrees : (header : List ℕ) (at : ℕ) (flags : Flags)
    → fault_of (segment_read header at flags)
    ≡ or_else (must (not flags.segmented || leb (at + 6) (length header)) (fault HeaderSyntax (at + 1) flags.report)) (or_else (must (not flags.segmented || (number_at (at + 2) header % 8 == 0)) (fault HeaderSyntax (at + 3) flags.report)) None)
segment_agrees header at flags = segment_agrees_by header at flags.kind flags.segmented flags.more flags.report

segment_more : (header : List ℕ) (at : ℕ) (flags : Flags) (later : Option Fault)
    → or_else (or_else (must (not flags.segmented || leb (at + 6) (length header)) (fault HeaderSyntax (at + 1) flags.report)) (or_else (must (not flags.segmented || (number_at (at + 2) header % 8 == 0)) (fault HeaderSyntax (at + 3) flags.report)) None)) later
    ≡ or_else (must (not flags.segmented || leb (at + 6) (length header)) (fault HeaderSyntax (at + 1) flags.report)) (or_else (must (not flags.segmented || (number_at (at + 2) header % 8 == 0)) (fault HeaderSyntax (at + 3) flags.report)) later)
segment_more header at flags later = simp or_else_assoc

from_segment_agrees : (octets header : List ℕ) (used : Bool) (flags : Flags) (destination source : List ℕ) (at : ℕ) → 11 + length destination + length source ≡ at
    → fault_of (from_segment octets header used flags destination source) ≡ late_faults octets header flags at
from_segment_agrees octets header used flags destination source at at-is =
    let start = 11 + length destination + length source in
    let later : ℕ → Option Fault = λ (n : ℕ). options_faults octets header flags n (n + segment_octets_if flags.segmented) in
    fault_of-bind (segment_read header start flags) _ (later start)
    (λ x e.
    let found = segment_found header start flags x e in
    from_options_agrees octets header used flags destination source x start (start + segment_octets_if flags.segmented) found refl (ap (λ (n : ℕ). start + n) (octets_if header start flags x found)))
    ∙ ap (λ f. or_else f (later start)) (segment_agrees header start flags)
    ∙ segment_more header start flags (later start)
    ∙ ap (late_faults octets header flags) at-is

abbrev source_faults : List ℕ → List ℕ → Flags → ℕ → Option Fault
source_faults octets header flags source =
    or_else (must (is_some (address_at (drop source header))) (fault HeaderSyntax (source + 1) false)) (late_faults octets header flags (source + 1 + get_or header source 0))

from_source_agrees : (octets header : List ℕ) (used : Bool) (flags : Flags) (destination : List ℕ) (source : ℕ) → 10 + length destination ≡ source
    → fault_of (from_source octets header used flags destination) ≡ source_faults octets header flags source
from_source_agrees octets header used flags destination source source-is =
    let at = 10 + length destination in
    let later : ℕ → Option Fault = λ (n : ℕ). late_faults octets header flags (n + 1 + get_or header n 0) in
    fault_of-bind (address_read header at) _ (later at)
    (λ x e. let h = address_found header x at e in from_segment_agrees octets header used flags destination x (at + 1 + get_or header at 0) (omega arith))
    ∙ ap (λ f. or_else f (later at)) (address_agrees header at)
    ∙ ap (source_faults octets header flags) source-is

abbrev destination_faults : List ℕ → List ℕ → Flags → Option Fault
destination_faults octets header flags = or_else (must (is_some (address_at (drop 9 header))) (fault HeaderSyntax 10 false)) (source_faults octets header flags (10 + get_or header 9 0))

from_destination_agrees : (octets header : List ℕ) (used : Bool) (flags : Flags) → fault_of (from_destination octets header used flags) ≡ destination_faults octets header flags
from_destination_agrees octets header used flags =
    let later = source_faults octets header flags (10 + get_or header 9 0) in
    fault_of-bind (address_read header 9) _ later
    (λ x e. let h = address_found header x 9 e in from_source_agrees octets header used flags x (10 + get_or header 9 0) (omega arith))
    ∙ ap (λ f. or_else f later) (address_agrees header 9)

-- the flags as the table has them
abbrev table_flags : ℕ → Flags
table_flags octet = record { kind = kind_of octet; segmented = is_segmented octet; more = is_dt octet && has_more octet; report = is_dt octet && wants_report octet }

not_both : (octet : ℕ) → is_er octet ≡ true → is_dt octet ≡ false
not_both octet er = grind arith

flags_are : (octet : ℕ) (flags : Flags) → FlagsFound octet flags ⊎ ErFound octet flags → flags ≡ table_flags octet
flags_are octet flags (inl h) = h.is ∙ rw h.dt refl
flags_are octet flags (inr h) = h.is ∙ rw (not_both octet h.er, h.whole) refl

abbrev flags_faults : List ℕ → List ℕ → Option Fault
flags_faults octets header = or_else (must (are_flags (get_or header 4 0)) (fault HeaderSyntax 5 false)) (destination_faults octets header (table_flags (get_or header 4 0)))

from_flags_agrees : (octets header : List ℕ) (used : Bool) → fault_of (from_flags octets header used) ≡ flags_faults octets header
from_flags_agrees octets header used =
    let octet = get_or header 4 0 in
    let later = destination_faults octets header (table_flags octet) in
    fault_of-bind (flags_read octet) _ later
    (λ flags e. from_destination_agrees octets header used flags ∙ ap (destination_faults octets header) (flags_are octet flags (flags_found octet flags e)))
    ∙ ap (λ f. or_else f later) (flags_agrees octet)

abbrev checksum_faults : List ℕ → List ℕ → Option Fault
checksum_faults octets header = or_else (must (is_some (checksum_in header)) (fault IncorrectChecksum 8 false)) (flags_faults octets header)

from_checksum_agrees : (octets header : List ℕ) → fault_of (from_checksum octets header) ≡ checksum_faults octets header
from_checksum_agrees octets header =
    fault_of-bind (checksum_read header) _ (flags_faults octets header) (λ used e. from_flags_agrees octets header used)
    ∙ ap (λ f. or_else f (flags_faults octets header)) (checksum_agrees header)

-- the table as one step after another
table : (octets header : List ℕ) → or_else (header_faults octets) (checksum_faults octets header) ≡ first_failing (steps octets header)
table octets header = simp or_else_assoc

-- a PDU is read exactly where no step fails, and else the fault is that of the first that does
pub pdu_agrees : (octets : List ℕ) → fault_of (pdu_read octets) ≡ first_fault octets
unfolding first_fault
pdu_agrees octets =
    let header = take (get_or octets 1 0) octets in
    ap fault_of (in_stages octets)
    ∙ fault_of-bind (header_read octets) _ (checksum_faults octets header) (λ x e. from_checksum_agrees octets x ∙ ap (checksum_faults octets) (header_found octets x e).is)
    ∙ ap (λ f. or_else f (checksum_faults octets header)) (header_agrees octets)
    ∙ table octets header
