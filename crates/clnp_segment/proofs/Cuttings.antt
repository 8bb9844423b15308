-- What holds of all cuttings. Two steps for one room and header are the same multiple of 8, so the runs are the same; and a
-- run that is not the last is some octets, a multiple of 8, and ends before the unit does.
use Rattle.std.proofs.Common.{◌≡◌, ℕ, ◌+◌, ◌%◌, ◌<◌, ◌≤◌, Bool, true, false, if◌then◌else◌, List, [], ◌∷◌, ◌++◌, length, Option, Some, None, refl, sym, ◌∙◌, ap, subst, arith, length-append}
use Rattle.std.specs.List.{AllByRecursion, concat}
use Rattle.pdu_parts.specs.Parameter.{spelled}
use Rattle.clnp_options.specs.Grammar.{AreAllowed}
use Rattle.clnp_options.specs.declared.reason.PduKind.{PduKind}
use Rattle.clnp_options.specs.declared.reason.PduKind.TheVariants.{Dt, Er}
use Rattle.clnp_header.specs.declared.pdu.Pdu.{Pdu}
use Rattle.clnp_header.specs.declared.pdu.SegmentPart.{SegmentPart}
use Rattle.clnp_header.specs.Grammar.{IsPlaced, IsSegment, MayBeSegment, segment_part}
use Rattle.clnp_header.specs.Values.{parameters}
use Rattle.clnp_header.specs.Writing.{HasKind, IsWritable, header_length}
use Rattle.clnp_segment.specs.Cutting.{Cuts, IsStep, MayGo, Pieces, piece_of, piece_pdus}
use Rattle.clnp_segment.specs.Laws.{OneCutting, PiecesJoin}
use Rattle.clnp_segment.proofs.Lists.{same_fronts}

-- ---- the runs are the data
join_pieces : (room header : ℕ) (octets : List ℕ) (pieces : List (List ℕ)) → Pieces room header octets pieces → concat pieces ≡ octets
join_pieces room header octets [] h = absurd h
join_pieces room header octets (last ∷ []) h = append_none last ∙ h.1
  where
    append_none : (xs : List ℕ) → xs ++ [] ≡ xs
    append_none [] = refl
    append_none (x ∷ xs) = ap (λ (ys : List ℕ). x ∷ ys) (append_none xs)
join_pieces room header octets (piece ∷ next ∷ pieces) h =
    ap (λ (xs : List ℕ). piece ++ xs) (join_pieces room header h.2.0 (next ∷ pieces) h.2.2) ∙ sym h.2.1

pub pieces_join : PiecesJoin
pieces_join = join_pieces

-- ---- one way
one_step : (room header first second : ℕ) → IsStep room header first → IsStep room header second → first ≡ second
one_step room header first second a b = omega (arith, a.fits, a.eights, a.most, b.fits, b.eights, b.most)

one_list : (room header : ℕ) (octets : List ℕ) (pieces others : List (List ℕ)) → Pieces room header octets pieces → Pieces room header octets others → pieces ≡ others
one_list room header octets [] others h k = absurd h
one_list room header octets (last ∷ []) [] h k = absurd k
one_list room header octets (last ∷ []) (other ∷ []) h k = ap (λ (xs : List ℕ). xs ∷ []) (h.1 ∙ sym k.1)
one_list room header octets (last ∷ []) (other ∷ more ∷ others) h k = absurd (omega (arith, h.0, k.0))
one_list room header octets (piece ∷ next ∷ pieces) [] h k = absurd k
one_list room header octets (piece ∷ next ∷ pieces) (other ∷ []) h k = absurd (omega (arith, h.0, k.0))
one_list room header octets (piece ∷ next ∷ pieces) (other ∷ more ∷ others) h k =
    let long : length piece ≡ length other = one_step room header (length piece) (length other) h.1 k.1 in
    let both = same_fronts piece other h.2.0 k.2.0 long (sym h.2.1 ∙ k.2.1) in
    let first : piece ≡ other = both.0 in
    let rest : h.2.0 ≡ k.2.0 = both.1 in
    ap (λ (xs : List ℕ). xs ∷ next ∷ pieces) first
    ∙ ap (λ (xs : List (List ℕ)). other ∷ xs)
    (one_list room header k.2.0 (next ∷ pieces) (more ∷ others) (subst (λ (xs : List ℕ). Pieces room header xs (next ∷ pieces)) rest h.2.2) k.2.2)

pub one_cutting : OneCutting
one_cutting pdu room None pdus others h k = h.1 ∙ sym k.1
one_cutting pdu room (Some part) pdus others h k =
    h.2 ∙ ap (λ (xs : List (List ℕ)). piece_pdus pdu part 0 xs) (one_list room (header_length pdu) pdu.body h.0 k.0 h.1 k.1) ∙ sym k.2

-- ---- what may go
pub placed_below : (more : Bool) (end total : ℕ) → IsPlaced more end total → end ≤ total
placed_below true end total h = omega (arith, h)
placed_below false end total h = omega (arith, h)

eights_off : (a b : ℕ) → a % 8 ≡ 0 → (a + b) % 8 ≡ 0 → b % 8 ≡ 0
eights_off a b h k = omega (arith, h, k)

-- a piece fits where it stands
pub record IsCut (header total at : ℕ) (more : Bool) (octets : List ℕ) : Type 0 where
  pub aligned : at % 8 ≡ 0
  pub some : more ≡ true → 0 < length octets
  pub eights : more ≡ true → length octets % 8 ≡ 0
  pub placed : IsPlaced more (at + (header + length octets)) total

module _ (room header : ℕ) (pdu : Pdu) (part : SegmentPart) (is_header : header ≡ header_length pdu) (segment : pdu.segment ≡ Some part)
    (short : header ≤ 254) (kind : HasKind pdu.kind pdu.segment pdu.report) (allowed : AreAllowed pdu.kind (parameters pdu.options)) where
  abbrev At : ℕ → ℕ
  At position = part.offset + position

  same_header : (position : ℕ) (last : Bool) (octets : List ℕ) → header_length (piece_of pdu part position last octets) ≡ header
  same_header position last octets =
      ap (λ (s : Option SegmentPart). 11 + length pdu.destination + length pdu.source + length (segment_part s) + length (spelled (parameters pdu.options))) (sym segment)
      ∙ sym is_header

  kind_of_piece : (k : PduKind) (some : Option SegmentPart) (report : Bool) (other : SegmentPart) → some ≡ Some part → HasKind k some report → HasKind k (Some other) report
  kind_of_piece Dt some report other e h = tt
  kind_of_piece Er some report other e h = absurd cc

  piece_written : (position : ℕ) (last : Bool) (octets : List ℕ) → header + length octets ≤ room
      → IsCut header part.total (At position) (if last then part.more else true) octets → MayGo room (piece_of pdu part position last octets)
  piece_written position last octets within h =
      let same = same_header position last octets in
      record {
        writable = record {
          kind = kind_of_piece pdu.kind pdu.segment pdu.report _ segment kind;
          segment = record {
            aligned = h.aligned;
            some = h.some;
            eights = h.eights;
            placed = subst (λ (n : ℕ). IsPlaced (if last then part.more else true) (At position + (n + length octets)) part.total) (sym same) h.placed;
          };
          options = allowed;
        };
        short = omega (arith, same, short);
        fits = omega (arith, same, within);
      }

  pieces_written : (position : ℕ) (octets : List ℕ) (pieces : List (List ℕ)) → 264 ≤ room → At position % 8 ≡ 0 → (part.more ≡ true → 0 < length octets)
      → (part.more ≡ true → length octets % 8 ≡ 0) → IsPlaced part.more (At position + (header + length octets)) part.total → Pieces room header octets pieces
      → AllByRecursion (MayGo room) (piece_pdus pdu part position pieces)
  pieces_written position octets [] least aligned some eights placed h = absurd h
  pieces_written position octets (last ∷ []) least aligned some eights placed h = (
    piece_written position true last (subst (λ (xs : List ℕ). header + length xs ≤ room) (sym h.1) h.0)
        (subst (λ (xs : List ℕ). IsCut header part.total (At position) part.more xs) (sym h.1) (record { aligned = aligned; some = some; eights = eights; placed = placed })),
    tt,
  )
  pieces_written position octets (piece ∷ next ∷ pieces) least aligned some eights placed h =
      let rest = h.2.0 in
      let counted : length octets ≡ length piece + length rest = ap length h.2.1 ∙ length-append piece rest in
      let step = h.1 in
      let end : At position + (header + length octets) ≤ part.total = placed_below part.more _ part.total placed in
      let more : 0 < length rest = omega (arith, h.0, step.fits, counted) in
      let first : 0 < length piece = omega (arith, step.most, least, short) in
      let moved : At (position + length piece) + (header + length rest) ≡ At position + (header + length octets) = omega (arith, counted) in (
        piece_written position false piece step.fits (record {
          aligned = aligned;
          some = λ yes. first;
          eights = λ yes. step.eights;
          placed = omega (arith, end, counted, more);
        }),
        pieces_written (position + length piece) rest (next ∷ pieces) least (omega (arith, aligned, step.eights)) (λ yes. more)
            (λ yes. eights_off (length piece) (length rest) step.eights (subst (λ (n : ℕ). n % 8 ≡ 0) counted (eights yes)))
            (subst (λ (n : ℕ). IsPlaced part.more n part.total) (sym moved) placed) h.2.2,
      )

-- what is cut for a room may go
pub cut_written : (pdu : Pdu) (room : ℕ) (segment : Option SegmentPart) (pdus : List Pdu) → pdu.segment ≡ segment → IsWritable pdu → header_length pdu ≤ 254 → 264 ≤ room
    → Cuts pdu room segment (Some pdus) → AllByRecursion (MayGo room) pdus
cut_written pdu room None pdus e w short least h =
    subst (AllByRecursion (MayGo room)) (sym h.1) (record { writable = w; short = short; fits = h.0 }, tt)
cut_written pdu room (Some part) pdus e w short least h =
    let is : IsSegment part (header_length pdu + length pdu.body) (length pdu.body) =
    subst (λ (s : Option SegmentPart). MayBeSegment s (header_length pdu + length pdu.body) (length pdu.body)) e w.segment in
    subst (AllByRecursion (MayGo room)) (sym h.2)
    (pieces_written room (header_length pdu) pdu part refl e short w.kind w.options 0 pdu.body h.0 least (omega (arith, is.aligned)) is.some is.eights
    (subst (λ (n : ℕ). IsPlaced part.more (n + (header_length pdu + length pdu.body)) part.total) (omega arith) is.placed) h.1)
