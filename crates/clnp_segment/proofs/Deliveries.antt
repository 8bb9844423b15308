-- Whatever is cut, forwarded or comes twice, the PDUs stay segments of the unit with its key, and together they have all its
-- octets. So once all of them came, each position has come, and the first answer after which it has is Whole.
use Rattle.std.proofs.Common.{◌≡◌, ◌≢◌, ◌⊎◌, ℕ, zero, suc, ◌+◌, ◌<◌, Bool, true, false, List, [], ◌∷◌, ◌++◌, length, slice_get, if◌then◌else◌, Option, Some, refl, sym, ◌∙◌, ap, subst, arith, length-append, inl, inr}
use Rattle.std.specs.Prelude.{MatchOption}
use Rattle.std.specs.List.{AllByRecursion}
use Rattle.osi_base.proofs.Members.{all_back, all_both, all_front}
use Rattle.clnp_header.specs.declared.pdu.Pdu.{Pdu}
use Rattle.clnp_header.specs.declared.pdu.SegmentPart.{SegmentPart}
use Rattle.clnp_header.specs.Writing.{header_length}
use Rattle.clnp_segment.specs.Cutting.{Cuts, Pieces, piece_of, piece_pdus}
use Rattle.clnp_segment.specs.Delivery.{AreAllOf, ComesWhole, HasCome, IsForwarded, IsInitial, IsMoved, IsOneOf, IsPieceOf, IsReadAs, MovesTo, key_in}
use Rattle.clnp_segment.specs.Laws.{JoinsWhatWasCut}
use Rattle.clnp_segment.specs.Joining.{Has, IsOf, IsSegmentOf, Segment}
use Rattle.clnp_segment.specs.Store.{Coming, Key, Partial, is_key, key_of}
use Rattle.clnp_segment.specs.Units.{Came, IsOnly, segment_in}
use Rattle.clnp_segment.specs.Whole.{AnswersBy, AnswersInTurn, Bring, BringAll, HoldsWhatCame, of_key, so_far_after}
use Rattle.clnp_segment.specs.declared.store.Joined.{Joined}
use Rattle.clnp_segment.specs.declared.store.Joined.TheVariants as joined
use Rattle.clnp_segment.proofs.Joins.{get_within}
use Rattle.clnp_segment.proofs.Rooms.{none_is_full}
use Rattle.clnp_segment.proofs.CutRuns.{cut_alike}
use Rattle.clnp_segment.proofs.Wholes.{is_key_false, is_key_true, none_at, whole_in_turn}

-- ---- the pieces
-- a PDU is a segment of the unit, with that key
pub record IsSegmentAt (unit : List ℕ) (header : ℕ) (key : Key) (pdu : Pdu) : Type 0 where
  pub part : SegmentPart
  pub segment : pdu.segment ≡ Some part
  pub of : IsSegmentOf unit header (segment_in pdu part)
  pub key_is : key_in pdu part ≡ key

-- one of the PDUs has that octet at that position
abbrev Spread : List Pdu → ℕ → ℕ → Type 0
Spread [] position octet = ⊥
Spread (pdu ∷ pdus) position octet = ((part : SegmentPart) × (pdu.segment ≡ Some part) × Has (segment_in pdu part) position octet) ⊎ Spread pdus position octet

same_some : {A : Type 0} (x y : A) → Some x ≡ Some y → x ≡ y
same_some x y e = cc e

spread_left : (pdus others : List Pdu) (position octet : ℕ) → Spread pdus position octet → Spread (pdus ++ others) position octet
spread_left [] others position octet h = absurd h
spread_left (pdu ∷ pdus) others position octet (inl h) = inl h
spread_left (pdu ∷ pdus) others position octet (inr h) = inr (spread_left pdus others position octet h)

spread_right : (pdus others : List Pdu) (position octet : ℕ) → Spread others position octet → Spread (pdus ++ others) position octet
spread_right [] others position octet h = h
spread_right (pdu ∷ pdus) others position octet h = inr (spread_right pdus others position octet h)

spread_of : (pdus others : List Pdu) (position octet : ℕ) → Spread (pdus ++ others) position octet → Spread pdus position octet ⊎ Spread others position octet
spread_of [] others position octet h = inr h
spread_of (pdu ∷ pdus) others position octet (inl h) = inl (inl h)
spread_of (pdu ∷ pdus) others position octet (inr h) = elim (spread_of pdus others position octet h) [ inl k ↦ inl (inr k) | inr k ↦ inr k ]

-- where an octet of two lists stands
data Stands (xs ys : List ℕ) (place octet : ℕ) : Type 0 where
  First : slice_get xs place ≡ Some octet → Stands xs ys place octet
  Second : (later : ℕ) → place ≡ length xs + later → slice_get ys later ≡ Some octet → Stands xs ys place octet

stands : (xs ys : List ℕ) (place octet : ℕ) → slice_get (xs ++ ys) place ≡ Some octet → Stands xs ys place octet
stands [] ys place octet h = Second place (omega arith) h
stands (x ∷ xs) ys zero octet h = First h
stands (x ∷ xs) ys (suc place) octet h = elim (stands xs ys place octet h) [ First k ↦ First k | Second later at k ↦ Second later (omega (arith, at)) k ]

module _ (pdu : Pdu) (part : SegmentPart) where
  in_piece : (position : ℕ) (last : Bool) (octets : List ℕ) (place octet : ℕ) → slice_get octets place ≡ Some octet
      → (other : SegmentPart) × ((piece_of pdu part position last octets).segment ≡ Some other) × Has (segment_in (piece_of pdu part position last octets) other) (part.offset + (position + place)) octet
  in_piece position last octets place octet h =
      (record part { offset = part.offset + position; more = if last then part.more else true }, refl, record { place = place; at = omega arith; is = h })

  in_pieces : (room header position : ℕ) (octets : List ℕ) (pieces : List (List ℕ)) (place octet : ℕ) → Pieces room header octets pieces → slice_get octets place ≡ Some octet
      → Spread (piece_pdus pdu part position pieces) (part.offset + (position + place)) octet
  in_pieces room header position octets [] place octet h there = absurd h
  in_pieces room header position octets (last ∷ []) place octet h there = inl (in_piece position true last place octet (subst (λ (xs : List ℕ). slice_get xs place ≡ Some octet) (sym h.1) there))
  in_pieces room header position octets (piece ∷ next ∷ pieces) place octet h there =
      elim (stands piece h.2.0 place octet (subst (λ (xs : List ℕ). slice_get xs place ≡ Some octet) h.2.1 there)) [
        | First k ↦ inl (in_piece position false piece place octet k)
        | Second later at k ↦
            let same : part.offset + (position + length piece + later) ≡ part.offset + (position + place) = omega (arith, at) in
            inr (subst (λ (n : ℕ). Spread (piece_pdus pdu part (position + length piece) (next ∷ pieces)) n octet) same
            (in_pieces room header (position + length piece) h.2.0 (next ∷ pieces) later octet h.2.2 k))
      ]

  some_piece : (room header position : ℕ) (octets : List ℕ) (pieces : List (List ℕ)) → Pieces room header octets pieces → 0 < length (piece_pdus pdu part position pieces)
  some_piece room header position octets [] h = absurd h
  some_piece room header position octets (last ∷ []) h = omega arith
  some_piece room header position octets (piece ∷ next ∷ pieces) h = omega arith

  keys_same : (position : ℕ) (pieces : List (List ℕ)) (unit : List ℕ) (header : ℕ) (key : Key) → key_in pdu part ≡ key
      → AllByRecursion (λ (p : Pdu). (other : SegmentPart) × (p.segment ≡ Some other) × (key_in p other ≡ key)) (piece_pdus pdu part position pieces)
  keys_same position [] unit header key is = tt
  keys_same position (last ∷ []) unit header key is = ((record part { offset = part.offset + position; more = part.more }, refl, is), tt)
  keys_same position (piece ∷ next ∷ pieces) unit header key is =
      ((record part { offset = part.offset + position; more = true }, refl, is), keys_same (position + length piece) (next ∷ pieces) unit header key is)

-- ---- on the way
module _ (unit : List ℕ) (header : ℕ) (key : Key) where
  abbrev Are : List Pdu → Type 0
  Are pdus = AllByRecursion (IsSegmentAt unit header key) pdus

  segments_at : (pdus : List Pdu) → AllByRecursion (λ (p : Pdu). MatchOption p.segment ⊥ (λ part. IsSegmentOf unit header (segment_in p part))) pdus
      → AllByRecursion (λ (p : Pdu). (other : SegmentPart) × (p.segment ≡ Some other) × (key_in p other ≡ key)) pdus → Are pdus
  segments_at [] h k = tt
  segments_at (p ∷ pdus) h k = (
    record {
      part = k.0.0;
      segment = k.0.1;
      of = subst (λ (s : Option SegmentPart). MatchOption s ⊥ (λ part. IsSegmentOf unit header (segment_in p part))) k.0.1 h.0;
      key_is = k.0.2;
    },
    segments_at pdus h.1 k.1,
  )

  -- what a move leaves: segments of the unit, with all the octets, and at least one PDU
  pub record Kept (old new : List Pdu) : Type 0 where
    pub are : Are new
    pub spread : (position octet : ℕ) → Spread old position octet → Spread new position octet
    pub some : 0 < length new

  pieces_kept : (pdu : Pdu) (room : ℕ) (pieces : List Pdu) → IsSegmentAt unit header key pdu → Cuts pdu room pdu.segment (Some pieces) → Kept (pdu ∷ []) pieces
  pieces_kept pdu room pieces is cuts =
      let c : Cuts pdu room (Some is.part) (Some pieces) = subst (λ (s : Option SegmentPart). Cuts pdu room s (Some pieces)) is.segment cuts in
      let alike = cut_alike pdu is.part room pieces unit header is.segment is.of c in
      let keys = subst (AllByRecursion (λ (p : Pdu). (other : SegmentPart) × (p.segment ≡ Some other) × (key_in p other ≡ key))) (sym c.2) (keys_same pdu is.part 0 c.0 unit header key is.key_is) in
      record {
        are = segments_at pieces alike keys;
        spread = λ position octet h. elim h [
          | inl k ↦
              let same : k.0 ≡ is.part = same_some k.0 is.part (sym k.1 ∙ is.segment) in
              let has : Has (segment_in pdu is.part) position octet = subst (λ (q : SegmentPart). Has (segment_in pdu q) position octet) same k.2 in
              let at : is.part.offset + (0 + has.place) ≡ position = omega (arith, has.at) in
              subst (λ (ps : List Pdu). Spread ps position octet) (sym c.2)
              (subst (λ (n : ℕ). Spread (piece_pdus pdu is.part 0 c.0) n octet) at (in_pieces pdu is.part room (header_length pdu) 0 pdu.body c.0 has.place octet c.1 has.is))
          | inr k ↦ absurd k
        ];
        some = subst (λ (ps : List Pdu). 0 < length ps) (sym c.2) (some_piece pdu is.part room (header_length pdu) 0 pdu.body c.0 c.1);
      }

  forwarded_kept : (pdu other : Pdu) → IsSegmentAt unit header key pdu → IsForwarded pdu other → Kept (pdu ∷ []) (other ∷ [])
  forwarded_kept pdu other is f =
      let segment : segment_in other is.part ≡ segment_in pdu is.part =
      ap (λ (xs : List ℕ). let s : Segment = record { offset = is.part.offset; octets = xs; header = header_length other; total = is.part.total } in s) f.body
      ∙ ap (λ (n : ℕ). let s : Segment = record { offset = is.part.offset; octets = pdu.body; header = n; total = is.part.total } in s) f.header in
      let same : key_in other is.part ≡ key_in pdu is.part =
      ap (λ (xs : List ℕ). let k : Key = record { source = xs; destination = other.destination; id = is.part.id } in k) f.source
      ∙ ap (λ (xs : List ℕ). let k : Key = record { source = pdu.source; destination = xs; id = is.part.id } in k) f.destination in
      record {
        are = (record { part = is.part; segment = f.segment ∙ is.segment; of = subst (IsSegmentOf unit header) (sym segment) is.of; key_is = same ∙ is.key_is }, tt);
        spread = λ position octet h. elim h [
          | inl k ↦
              let part : k.0 ≡ is.part = same_some k.0 is.part (sym k.1 ∙ is.segment) in
              let has : Has (segment_in pdu is.part) position octet = subst (λ (q : SegmentPart). Has (segment_in pdu q) position octet) part k.2 in
              inl (is.part, f.segment ∙ is.segment, subst (λ (s : Segment). Has s position octet) (sym segment) has)
          | inr k ↦ absurd k
        ];
        some = omega arith;
      }

  twice_kept : (pdu : Pdu) → IsSegmentAt unit header key pdu → Kept (pdu ∷ []) (pdu ∷ pdu ∷ [])
  twice_kept pdu is = record { are = (is, (is, tt)); spread = λ position octet h. elim h [ inl k ↦ inl k | inr k ↦ absurd k ]; some = omega arith }

  -- what is done to one of them is done to all
  among_kept : (old before : List Pdu) (pdu : Pdu) (rest pieces new : List Pdu) → old ≡ before ++ pdu ∷ rest → new ≡ before ++ (pieces ++ rest) → Are old
      → (IsSegmentAt unit header key pdu → Kept (pdu ∷ []) pieces) → Kept old new
  among_kept old before pdu rest pieces new old_is new_is are kept =
      let all : Are (before ++ pdu ∷ rest) = subst Are old_is are in
      let back = all_back (IsSegmentAt unit header key) before (pdu ∷ rest) all in
      let here = kept back.0 in
      subst (λ (ps : List Pdu). Kept ps new) (sym old_is) (subst (Kept (before ++ pdu ∷ rest)) (sym new_is) (record {
        are = all_both (IsSegmentAt unit header key) before (pieces ++ rest) (all_front (IsSegmentAt unit header key) before (pdu ∷ rest) all)
            (all_both (IsSegmentAt unit header key) pieces rest here.are back.1);
        spread = λ position octet h. elim (spread_of before (pdu ∷ rest) position octet h) [
          | inl k ↦ spread_left before (pieces ++ rest) position octet k
          | inr k ↦ spread_right before (pieces ++ rest) position octet
              (elim (spread_of (pdu ∷ []) rest position octet k) [
                | inl l ↦ spread_left pieces rest position octet (here.spread position octet l)
                | inr l ↦ spread_right pieces rest position octet l
              ])
        ];
        some = omega (arith, here.some, length-append before (pieces ++ rest), length-append pieces rest);
      }))

  moved : (old new : List Pdu) → IsMoved old new → Are old → Kept old new
  moved old new (IsMoved.Cut before pdu rest room pieces old_is cuts new_is) are = among_kept old before pdu rest pieces new old_is new_is are (λ is. pieces_kept pdu room pieces is cuts)
  moved old new (IsMoved.Forwarded before pdu rest other old_is f new_is) are = among_kept old before pdu rest (other ∷ []) new old_is new_is are (λ is. forwarded_kept pdu other is f)
  moved old new (IsMoved.Twice before pdu rest old_is new_is) are = among_kept old before pdu rest (pdu ∷ pdu ∷ []) new old_is new_is are (λ is. twice_kept pdu is)

  all_moved : (count : ℕ) (old new : List Pdu) → MovesTo count old new → Are old → 0 < length old → Kept old new
  all_moved zero old new moves are some = subst (Kept old) (sym moves) (record { are = are; spread = λ position octet h. h; some = some })
  all_moved (suc count) old new moves are some =
      let first = moved old moves.0 moves.1 are in
      let rest = all_moved count moves.0 new moves.2 first.are first.some in
      record { are = rest.are; spread = λ position octet h. rest.spread position octet (first.spread position octet h); some = rest.some }

-- ---- the initial PDU
initial_is : (pdu : Pdu) (part : SegmentPart) → IsInitial pdu part → IsSegmentAt pdu.body (header_length pdu) (key_in pdu part) pdu
initial_is pdu part i = record {
  part = part;
  segment = i.segment;
  of = record {
    header_is = refl;
    total_is = i.total;
    octets = λ position octet has. subst (λ (n : ℕ). slice_get pdu.body n ≡ Some octet) (omega (arith, has.at, i.offset)) has.is;
  };
  key_is = refl;
}

initial_spread : (pdu : Pdu) (part : SegmentPart) → IsInitial pdu part → (position octet : ℕ) → slice_get pdu.body position ≡ Some octet → Spread (pdu ∷ []) position octet
initial_spread pdu part i position octet h = inl (part, i.segment, record { place = position; at = omega (arith, i.offset); is = h })

all_kept : (pdu : Pdu) (part : SegmentPart) (pdus : List Pdu) → IsInitial pdu part → AreAllOf pdu pdus → Kept pdu.body (header_length pdu) (key_in pdu part) (pdu ∷ []) pdus
all_kept pdu part pdus i all = all_moved pdu.body (header_length pdu) (key_in pdu part) all.count (pdu ∷ []) pdus all.moves (initial_is pdu part i, tt) (omega arith)

-- ---- at the destination
-- what is handed on is the segment that the PDU is
pub record IsHanded (pdu : Pdu) (part : SegmentPart) (coming : Coming) : Type 0 where
  pub segment : coming.segment ≡ segment_in pdu part
  pub key_is : coming.key ≡ key_in pdu part

handed : (pdu : Pdu) (part : SegmentPart) (coming : Coming) → pdu.segment ≡ Some part → IsReadAs pdu coming → IsHanded pdu part coming
handed pdu part coming is r =
    let same : r.part ≡ part = same_some r.part part (sym r.segment ∙ ap (λ (p : Pdu). p.segment) r.value ∙ is) in
    let from : segment_in pdu r.part ≡ segment_in pdu part = ap (λ (q : SegmentPart). segment_in pdu q) same in
    let key_from : key_in pdu r.part ≡ key_in pdu part = ap (λ (q : SegmentPart). key_in pdu q) same in
    record {
      segment = ap (λ (c : Coming). c.segment) r.coming_is
          ∙ ap (λ (xs : List ℕ). let s : Segment = record { offset = r.part.offset; octets = xs; header = length r.read.header.now; total = r.part.total } in s) (ap (λ (p : Pdu). p.body) r.value)
          ∙ ap (λ (n : ℕ). let s : Segment = record { offset = r.part.offset; octets = pdu.body; header = n; total = r.part.total } in s) r.header
          ∙ from;
      key_is = ap (λ (c : Coming). c.key) r.coming_is
          ∙ ap (λ (p : Pdu). let k : Key = record { source = p.source; destination = p.destination; id = r.part.id } in k) r.value
          ∙ key_from;
    }

-- the segments that came, and that there are any
abbrev Segments : List Came → List Segment
Segments [] = []
Segments (came ∷ list) = came.coming.segment ∷ Segments list

abbrev HasSome : List Came → Type 0
HasSome [] = ⊥
HasSome (came ∷ list) = Unit {0}

module _ (unit : List ℕ) (header : ℕ) (key : Key) where
  one_is : (pdus : List Pdu) (coming : Coming) → Are unit header key pdus → IsOneOf pdus coming → IsSegmentOf unit header coming.segment
  one_is [] coming are h = absurd h
  one_is (pdu ∷ pdus) coming are (inl h) = subst (IsSegmentOf unit header) (sym (handed pdu are.0.part coming are.0.segment h).segment) are.0.of
  one_is (pdu ∷ pdus) coming are (inr h) = one_is pdus coming are.1 h

  some_more : (came : Came) (list : List Came) → HasSome (of_key key list) → HasSome (of_key key (came ∷ list))
  some_more came list h = more (is_key key came.coming.key)
    where
      more : (mine : Bool) → HasSome (if mine then came ∷ of_key key list else of_key key list)
      more true = tt
      more false = h

  bring_more : (came : Came) (list : List Came) (position octet : ℕ) → Bring (Segments (of_key key list)) position octet → Bring (Segments (of_key key (came ∷ list))) position octet
  bring_more came list position octet h = more (is_key key came.coming.key)
    where
      more : (mine : Bool) → Bring (Segments (if mine then came ∷ of_key key list else of_key key list)) position octet
      more true = inr h
      more false = h

  own_true : (came : Came) → came.coming.key ≡ key → is_key key came.coming.key ≡ true
  own_true came is = own (is_key key came.coming.key) refl
    where
      own : (mine : Bool) → is_key key came.coming.key ≡ mine → is_key key came.coming.key ≡ true
      own true h = h
      own false h = absurd (is_key_false key came.coming.key h is)

  first_mine : (came : Came) (list : List Came) → came.coming.key ≡ key → of_key key (came ∷ list) ≡ came ∷ of_key key list
  first_mine came list is = ap (λ (b : Bool). if b then came ∷ of_key key list else of_key key list) (own_true came is)

  has_come : (pdu : Pdu) (list : List Came) (is : IsSegmentAt unit header key pdu) → HasCome list pdu → HasSome (of_key key list)
      × ((position octet : ℕ) → Has (segment_in pdu is.part) position octet → Bring (Segments (of_key key list)) position octet)
  has_come pdu [] is h = absurd h
  has_come pdu (came ∷ list) is (inl h) =
      let k = handed pdu is.part came.coming is.segment h in
      let first = first_mine came list (k.key_is ∙ is.key_is) in (
        subst HasSome (sym first) tt,
        λ position octet has. subst (λ (cs : List Came). Bring (Segments cs) position octet) (sym first) (inl (subst (λ (s : Segment). Has s position octet) (sym k.segment) has)),
      )
  has_come pdu (came ∷ list) is (inr h) =
      let k = has_come pdu list is h in
      (some_more came list k.0, λ position octet has. bring_more came list position octet (k.1 position octet has))

  all_come : (pdus : List Pdu) (list : List Came) → Are unit header key pdus → AllByRecursion (HasCome list) pdus → (position octet : ℕ) → Spread pdus position octet
      → Bring (Segments (of_key key list)) position octet
  all_come [] list are come position octet h = absurd h
  all_come (pdu ∷ pdus) list are come position octet (inl h) =
      let same : h.0 ≡ are.0.part = same_some h.0 are.0.part (sym h.1 ∙ are.0.segment) in
      (has_come pdu list are.0 come.0).1 position octet (subst (λ (q : SegmentPart). Has (segment_in pdu q) position octet) same h.2)
  all_come (pdu ∷ pdus) list are come position octet (inr h) = all_come pdus list are.1 come.1 position octet h

  some_come : (pdus : List Pdu) (list : List Came) → Are unit header key pdus → AllByRecursion (HasCome list) pdus → 0 < length pdus → HasSome (of_key key list)
  some_come [] list are come some = absurd (omega (arith, some))
  some_come (pdu ∷ pdus) list are come some = (has_come pdu list are.0 come.0).0

-- ---- the first that is whole
module _ (key : Key) (unit : List ℕ) where
  -- the positions that have not come yet come with the rest, and some segment is left
  pub record Waits (so_far : List Segment) (list : List Came) : Type 0 where
    pub all : (position : ℕ) → position < length unit → (octet : ℕ) × (Bring so_far position octet ⊎ Bring (Segments (of_key key list)) position octet)
    pub some : HasSome (of_key key list) ⊎ (BringAll unit so_far → ⊥)

  abbrev NotFull : List Came → Type 0
  NotFull list = AllByRecursion (λ (came : Came). came.answer ≡ joined.Full → ⊥) list

  after_one : (came : Came) (list : List Came) → (came.coming.key ≡ key → came.answer ≡ joined.Held) → ComesWhole key unit list → ComesWhole key unit (came ∷ list)
  after_one came list held c = record {
    before = came ∷ c.before;
    last = c.last;
    rest = c.rest;
    stands = ap (λ (cs : List Came). came ∷ cs) c.stands;
    held = (held, c.held);
    key_is = c.key_is;
    whole = c.whole;
  }

  comes : (so_far : List Segment) (list : List Came) → AnswersInTurn unit so_far (of_key key list) → NotFull list → Waits so_far list → ComesWhole key unit list
  comes so_far [] answers none w = absurd (elim w.some [
    | inl h ↦ h
    | inr h ↦ h (λ position low. let one = w.all position low in (one.0, elim one.1 [ inl k ↦ k | inr k ↦ absurd k ]))
  ])
  comes so_far (came ∷ list) answers none w =
      next (is_key key came.coming.key) refl answers w.all w.some (λ left rest waits. comes left list rest none.1 waits)
    where
      answered : came.coming.key ≡ key → (answer : Joined) → came.answer ≡ answer → AnswersBy unit (came.coming.segment ∷ so_far) answer
          → AnswersInTurn unit (so_far_after so_far came.coming.segment answer) (of_key key list)
          → ((position : ℕ) → position < length unit → (octet : ℕ) × (Bring so_far position octet ⊎ Bring (Segments (came ∷ of_key key list)) position octet))
          → ((left : List Segment) → AnswersInTurn unit left (of_key key list) → Waits left list → ComesWhole key unit list)
          → ComesWhole key unit (came ∷ list)
      answered mine joined.Interference is by rest all later = absurd by
      answered mine (joined.Whole octets) is by rest all later =
          record { before = []; last = came; rest = list; stands = refl; held = tt; key_is = mine; whole = is ∙ ap (λ (xs : List ℕ). joined.Whole xs) by.0 }
      answered mine joined.Full is by rest all later = absurd (none.0 is)
      answered mine joined.Held is by rest all later =
          after_one came list (λ e. is) (later (came.coming.segment ∷ so_far) rest (record {
            all = λ position low. let one = all position low in (one.0, elim one.1 [ inl k ↦ inl (inr k) | inr k ↦ (elim k [ inl l ↦ inl (inl l) | inr l ↦ inr l ]) ]);
            some = inr by;
          }))

      next : (mine : Bool) → is_key key came.coming.key ≡ mine → AnswersInTurn unit so_far (if mine then came ∷ of_key key list else of_key key list)
          → ((position : ℕ) → position < length unit → (octet : ℕ) × (Bring so_far position octet ⊎ Bring (Segments (if mine then came ∷ of_key key list else of_key key list)) position octet))
          → HasSome (if mine then came ∷ of_key key list else of_key key list) ⊎ (BringAll unit so_far → ⊥)
          → ((left : List Segment) → AnswersInTurn unit left (of_key key list) → Waits left list → ComesWhole key unit list)
          → ComesWhole key unit (came ∷ list)
      next true is answers all some later = answered (is_key_true key came.coming.key is) came.answer refl answers.0 answers.1 all later
      next false is answers all some later =
          after_one came list (λ e. absurd (is_key_false key came.coming.key is e)) (later so_far answers (record { all = all; some = some }))

-- ---- the law
none_held : (key : Key) (unit : List ℕ) (header : ℕ) (held : List Partial) → AllByRecursion (λ (partial : Partial). key_of partial ≢ key) held
    → AllByRecursion (λ (partial : Partial). key_of partial ≡ key → IsOf unit header partial.held) held
none_held key unit header [] h = tt
none_held key unit header (x ∷ held) h = ((λ e. absurd (h.0 e)), none_held key unit header held h.1)

all_only : (pdu : Pdu) (part : SegmentPart) (list : List Came) → IsInitial pdu part → AllByRecursion (IsPieceOf (key_in pdu part) pdu) list
    → AllByRecursion (IsOnly (key_in pdu part) pdu.body (header_length pdu)) list
all_only pdu part [] i h = tt
all_only pdu part (came ∷ list) i h = (
  (λ e. let one = h.0 e in one_is pdu.body (header_length pdu) (key_in pdu part) one.0 came.coming (all_kept pdu part one.0 i one.1).are one.2),
  all_only pdu part list i h.1,
)

pub joins_what_was_cut : JoinsWhatWasCut
joins_what_was_cut pdu part pdus store after list i all apart none room pieces come takes =
    let key = key_in pdu part in
    let header = header_length pdu in
    let kept = all_kept pdu part pdus i all in
    let start : HoldsWhatCame key pdu.body header [] store =
    record { only = none_held key pdu.body header store.held none; pairs = λ position octet. ((λ h. none_at key position octet store.held none h), (λ h. absurd h)) } in
    let turn = (whole_in_turn key pdu.body header [] store after list apart start (all_only pdu part list i pieces) takes).0 in
    let full = none_is_full store after list apart room takes in (
      comes key pdu.body [] list turn full (record {
        all = λ position low.
            let got = get_within pdu.body position low in
            (got.0, inr (all_come pdu.body header key pdus list kept.are come position got.0 (kept.spread position got.0 (initial_spread pdu part i position got.0 got.1))));
        some = inl (some_come pdu.body header key pdus list kept.are come kept.some);
      }),
      turn,
    )
