-- The pieces in order are joined one after another: what is done, then what is left, is the whole. The first piece goes, an empty
-- place comes behind, and an empty place behind joins nothing.
use Rattle.std.proofs.Common.{◌≡◌, ℕ, zero, suc, ◌+◌, ◌<◌, ◌≤◌, Bool, true, false, if◌then◌else◌, List, [], ◌∷◌, ◌++◌, length, drop, replicate, get_or, append_assoc, refl, sym, ◌∙◌, ap, arith, Option, Some, None}
use Rattle.std.proofs.lemmas.List.{replicate-append-replicate}
use Rattle.tp4_number.specs.declared.piece.Piece.{Piece}
use Rattle.tp4_flow.specs.declared.step.EndEvent.{EndEvent}
use Rattle.tp4_flow.specs.Told.{Told, gots}
use Rattle.tp4_flow.specs.steps.Shown.{Passes}
use Rattle.tp4_number.specs.Window.{Held, Joined, joined, joined_by, begun_by, is_larger, slid}

abbrev pub stopped : List ℕ → Bool → Joined
stopped begun large = record { count = 0; units = []; begun = begun; is_large = large }

joined_step : (begun : List ℕ) (piece : Piece) (places : List (Option Piece)) (large : Bool) → is_larger begun piece ≡ large
    → joined begun (Some piece ∷ places)
    ≡ (if large then stopped begun true else joined_by piece (begun ++ piece.octets) (joined (begun_by piece (begun ++ piece.octets)) places))
joined_step begun piece places large e = ap (λ (b : Bool). if b then stopped begun true else joined_by piece (begun ++ piece.octets) (joined (begun_by piece (begun ++ piece.octets)) places)) e

by_larger : (P : Joined → Joined → Type 0) (begun : List ℕ) (piece : Piece) (xs ys : List (Option Piece))
    → P (stopped begun true) (stopped begun true)
    → ((next : List ℕ) (octets : List ℕ) → P (joined_by piece octets (joined next xs)) (joined_by piece octets (joined next ys)))
    → P (joined begun (Some piece ∷ xs)) (joined begun (Some piece ∷ ys))
by_larger P begun piece xs ys s h = cases (is_larger begun piece)
  where
    cases : (b : Bool) → P (if b then stopped begun true else joined_by piece (begun ++ piece.octets) (joined (begun_by piece (begun ++ piece.octets)) xs)) (if b then stopped begun true else joined_by piece (begun ++ piece.octets) (joined (begun_by piece (begun ++ piece.octets)) ys))
    cases true = s
    cases false = h (begun_by piece (begun ++ piece.octets)) (begun ++ piece.octets)

-- an empty place behind joins nothing
joined_blank : (begun : List ℕ) (places : List (Option Piece)) → joined begun (places ++ None ∷ []) ≡ joined begun places
joined_blank begun [] = refl
joined_blank begun (None ∷ places) = refl
joined_blank begun (Some piece ∷ places) =
    by_larger (λ (a b : Joined). a ≡ b) begun piece (places ++ None ∷ []) places refl
    (λ next octets. ap (joined_by piece octets) (joined_blank next places))

pub joined_count : (begun : List ℕ) (places : List (Option Piece)) → (joined begun places).count ≤ length places
joined_count begun [] = omega arith
joined_count begun (None ∷ places) = omega arith
joined_count begun (Some piece ∷ places) =
    by_larger (λ (a b : Joined). a.count ≤ suc (length places)) begun piece places places (omega arith)
    (λ next octets. omega (arith, joined_count next places))

pub joined_none : (begun : List ℕ) (places : List (Option Piece)) → None ≡ get_or places 0 None → joined begun places ≡ stopped begun false
joined_none begun [] e = refl
joined_none begun (None ∷ places) e = refl
joined_none begun (Some piece ∷ places) e = cc

pub joined_large : (begun : List ℕ) (places : List (Option Piece)) (piece : Piece) → Some piece ≡ get_or places 0 None → is_larger begun piece ≡ true → joined begun places ≡ stopped begun true
joined_large begun [] piece e l = cc
joined_large begun (None ∷ places) piece e l = cc
joined_large begun (Some other ∷ places) piece e l =
    let same : piece ≡ other = cc in
    joined_step begun other places true (ap (is_larger begun) (sym same) ∙ l)

joined_first : (begun : List ℕ) (places : List (Option Piece)) (piece : Piece) → Some piece ≡ get_or places 0 None → is_larger begun piece ≡ false
    → joined begun places ≡ joined_by piece (begun ++ piece.octets) (joined (begun_by piece (begun ++ piece.octets)) (slid places 1))
joined_first begun [] piece e l = cc
joined_first begun (None ∷ places) piece e l = cc
joined_first begun (Some other ∷ places) piece e l =
    let same : piece ≡ other = cc in
    joined_step begun other places false (ap (is_larger begun) (sym same) ∙ l)
    ∙ ap (λ (p : Piece). joined_by p (begun ++ p.octets) (joined (begun_by p (begun ++ p.octets)) places)) (sym same)
    ∙ ap (joined_by piece (begun ++ piece.octets)) (sym (joined_blank (begun_by piece (begun ++ piece.octets)) places))

-- one place more goes
drop_on : (xs ys zs : List (Option Piece)) (k : ℕ) → k < length xs → drop 1 (drop k xs ++ ys) ++ zs ≡ drop (suc k) xs ++ (ys ++ zs)
drop_on [] ys zs k h = absurd (omega (arith, h))
drop_on (x ∷ xs) ys zs zero h = append_assoc xs ys zs
drop_on (x ∷ xs) ys zs (suc k) h = drop_on xs ys zs k (omega (arith, h))

slid_on : (places : List (Option Piece)) (k : ℕ) → k < length places → slid (slid places k) 1 ≡ slid places (k + 1)
slid_on places k h =
    let e : suc k ≡ k + 1 = omega arith in
    drop_on places (replicate k None) (replicate 1 None) k h
    ∙ ap (λ (xs : List (Option Piece)). drop (suc k) places ++ xs) (replicate-append-replicate k 1 None)
    ∙ ap (λ (n : ℕ). drop n places ++ replicate (k + 1) None) e

gots_on : (own : ℕ) (events : List EndEvent) (last : Bool) (octets : List ℕ) (units : List (List ℕ))
    → (events ++ gots own (if last then octets ∷ [] else [])) ++ gots own units ≡ events ++ gots own (if last then octets ∷ units else units)
gots_on own events true octets units = append_assoc events (gots own (octets ∷ [])) (gots own units)
gots_on own events false octets units = append_assoc events [] (gots own units)

-- so many pieces were joined, and those that are left join to the rest
pub record Joining (own : ℕ) (old : Held) (was : Told) (count : ℕ) (now : Held) (is : Told) : Type 0 where
  pub room : length now.places ≡ length old.places
  pub places : now.places ≡ slid old.places count
  pub counted : (joined old.begun old.places).count ≡ count + (joined now.begun now.places).count
  pub begun : (joined old.begun old.places).begun ≡ (joined now.begun now.places).begun
  pub large : (joined old.begun old.places).is_large ≡ (joined now.begun now.places).is_large
  pub events : is.events ++ gots own (joined now.begun now.places).units ≡ was.events ++ gots own (joined old.begun old.places).units
  pub tpdus : is.tpdus ≡ was.tpdus

pub append_none : {X : Type 0} (xs : List X) → xs ++ [] ≡ xs
append_none [] = refl
append_none (x ∷ xs) = ap (λ (ys : List _). x ∷ ys) (append_none xs)

pub joining_none : (own : ℕ) (old : Held) (was : Told) → Joining own old was 0 old was
joining_none own old was = record {
  room = refl;
  places = sym (append_none old.places);
  counted = omega arith;
  begun = refl;
  large = refl;
  events = refl;
  tpdus = refl;
}

-- one piece more
pub joining_on : (own : ℕ) (old : Held) (was : Told) (count : ℕ) (now : Held) (is : Told) (piece : Piece) (new : Held) (told : Told)
    → Joining own old was count now is → Some piece ≡ get_or now.places 0 None → is_larger now.begun piece ≡ false → Passes own piece now is new told
    → length new.places ≡ length now.places
    → Joining own old was (count + 1) new told × ((joined new.begun new.places).count < (joined now.begun now.places).count)
joining_on own old was count now is piece new told j e l p room =
    let octets : List ℕ = now.begun ++ piece.octets in
    let now_is : joined now.begun now.places ≡ joined_by piece octets (joined new.begun new.places) =
    joined_first now.begun now.places piece e l ∙ ap (λ (n : Held). joined_by piece octets (joined n.begun n.places)) (λ i. record { places = sym p.places i; begun = sym p.begun i }) in
    let fewer : (joined now.begun now.places).count ≡ (joined new.begun new.places).count + 1 = ap (λ (x : Joined). x.count) now_is in
    let within : count < length old.places = omega (arith, joined_count old.begun old.places, j.counted, fewer) in (
      record {
        room = room ∙ j.room;
        places = p.places ∙ ap (λ (xs : List (Option Piece)). slid xs 1) j.places ∙ slid_on old.places count within;
        counted = omega (arith, j.counted, fewer);
        begun = j.begun ∙ ap (λ (x : Joined). x.begun) now_is;
        large = j.large ∙ ap (λ (x : Joined). x.is_large) now_is;
        events = ap (λ (es : List EndEvent). es ++ gots own (joined new.begun new.places).units) p.events
            ∙ gots_on own is.events piece.last octets (joined new.begun new.places).units
            ∙ ap (λ (x : Joined). is.events ++ gots own x.units) (sym now_is)
            ∙ j.events;
        tpdus = p.tpdus ∙ j.tpdus;
      },
      omega (arith, fewer),
    )

-- where nothing is left to join
pub record Done (own : ℕ) (old : Held) (was : Told) (count : ℕ) (large : Bool) (new : Held) (told : Told) : Type 0 where
  pub count_is : count ≡ (joined old.begun old.places).count
  pub large_is : large ≡ (joined old.begun old.places).is_large
  pub places : new.places ≡ slid old.places count
  pub begun : new.begun ≡ (joined old.begun old.places).begun
  pub told_is : told ≡ record was { events = was.events ++ gots own (joined old.begun old.places).units }
  pub room : length new.places ≡ length old.places

pub joining_done : (own : ℕ) (old : Held) (was : Told) (count : ℕ) (now : Held) (is : Told) (large : Bool)
    → Joining own old was count now is → joined now.begun now.places ≡ stopped now.begun large → Done own old was count large now is
joining_done own old was count now is large j e = record {
  count_is = omega (arith, j.counted, ap (λ (x : Joined). x.count) e);
  large_is = sym (j.large ∙ ap (λ (x : Joined). x.is_large) e);
  places = j.places;
  begun = sym (j.begun ∙ ap (λ (x : Joined). x.begun) e);
  told_is = λ i. record {
    events = (sym (append_none is.events) ∙ ap (λ (x : Joined). is.events ++ gots own x.units) (sym e) ∙ j.events) i;
    tpdus = j.tpdus i;
  };
  room = j.room;
}
