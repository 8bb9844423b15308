-- What is kept stays tidy, after each event that may be noted: a change of pairs leaves their ends, and an end that is new stands behind the others.
use Rattle.std.proofs.Common.{◌≡◌, ◌≢◌, ℕ, zero, suc, ◌<◌, ◌≤◌, ◌==◌, max, Bool, true, false, ◌||◌, List, [], ◌∷◌, ◌++◌, length, get_or, map, Option, Some, None, refl, sym, ◌∙◌, ap, subst, arith}
use Rattle.std.specs.Prelude.{if◌then◌else◌}
use Rattle.std.specs.List.{AllByRecursion}
use Rattle.std.proofs.lemmas.Bool.{ne_eqb}
use Rattle.std.proofs.lemmas.List.{append-nil, length-map}
use Rattle.osi_base.proofs.Young.{all_last}
use Rattle.osi_base.proofs.Members.{all_weaker}
use Rattle.script_journal.specs.declared.event.Event.{Event}
use Rattle.script_journal.specs.declared.event.Event.TheVariants as events
use Rattle.tp4_relay.specs.declared.claim.Claim.{Claim}
use Rattle.tp4_relay.specs.declared.pair.Pair.{Pair}
use Rattle.tp4_relay.specs.declared.row.RelayRow.{RelayRow}
use Rattle.tp4_relay.specs.Allowed.{AreAllowed, IsAllowed}
use Rattle.tp4_relay.specs.Kept.{Kept, claimed, claims_told, joined, kept_after, lost, named_by, noted, row_for}
use Rattle.tp4_relay.specs.Pairs.{AtEnd, change_inbound, change_outbound, inbound_change, inbound_changed, outbound_change, outbound_changed, pairs_after}
use Rattle.tp4_relay.specs.steps.Rising.{IsRisingBy, claim_of, inbound_of, outbound_of}
use Rattle.tp4_relay.specs.steps.Tables.{AreNotable, IsNotable, IsTidy, IsTidyBy, is_claimed}
use Rattle.tp4_relay.proofs.Journals.{any_append, claims_lost, inbound_same, outbound_same}
use Rattle.tpdu.specs.declared.service.EndTold.{EndTold}
use Rattle.tpdu.specs.declared.service.EndTold.TheVariants as tells

-- ---- all of a list

pub all_map : {X Y : Type 0} (P : X → Type 0) (Q : Y → Type 0) (f : X → Y) (xs : List X) → ((x : X) → P x → Q (f x)) → AllByRecursion P xs → AllByRecursion Q (map f xs)
all_map P Q f [] each all = tt
all_map P Q f (x ∷ xs) each all = (each x all.0, all_map P Q f xs each all.1)

-- ---- columns that rise

module _ {X : Type 0} (number : X → ℕ) where
  number_kept : (f : X → X) → ((x : X) → number (f x) ≡ number x) → (xs : List X) (i : ℕ) (d : X) → i < length xs → number (get_or (map f xs) i d) ≡ number (get_or xs i d)
  number_kept f same [] i d low = absurd (omega (arith, low))
  number_kept f same (x ∷ xs) zero d low = same x
  number_kept f same (x ∷ xs) (suc i) d low = number_kept f same xs i d (omega (arith, low))

  pub rises_map : (f : X → X) → ((x : X) → number (f x) ≡ number x) → (xs : List X) → IsRisingBy number xs → IsRisingBy number (map f xs)
  rises_map f same xs rises i j d low high =
      let bound : j < length xs = omega (arith, high, length-map xs f) in
      let a = number_kept f same xs i d (omega (arith, low, bound)) in
      let b = number_kept f same xs j d bound in
      let r = rises i j d low bound in
      omega (arith, a, b, r)

  tail_rises : (x : X) (xs : List X) → IsRisingBy number (x ∷ xs) → IsRisingBy number xs
  tail_rises x xs rises i j d low high = rises (suc i) (suc j) d (omega (arith, low)) (omega (arith, high))

  rises_by : (x y : X) (xs : List X) → IsRisingBy number (x ∷ xs) → IsRisingBy number (xs ++ y ∷ []) → number x < number y → (i j : ℕ) (d : X) → i < j → j < length (x ∷ (xs ++ y ∷ [])) → number (get_or (x ∷ (xs ++ y ∷ [])) i d) < number (get_or (x ∷ (xs ++ y ∷ [])) j d)
  rises_by x y xs rises more above (suc i) (suc j) d low high = more i j d (omega (arith, low)) (omega (arith, high))
  rises_by x y xs rises more above i zero d low high = absurd (omega (arith, low))
  rises_by x y xs rises more above zero (suc j) d low high = first xs (λ k bound. rises 0 (suc k) d (omega arith) (omega (arith, bound))) j (omega (arith, high))
    where
      first : (xs : List X) → ((k : ℕ) → k < length xs → number x < number (get_or xs k d)) → (j : ℕ) → j < length (xs ++ y ∷ []) → number x < number (get_or (xs ++ y ∷ []) j d)
      first [] each zero low = above
      first [] each (suc j) low = absurd (omega (arith, low))
      first (z ∷ xs) each zero low = each 0 (omega arith)
      first (z ∷ xs) each (suc j) low = first xs (λ k bound. each (suc k) (omega (arith, bound))) j (omega (arith, low))

  pub rises_last : (xs : List X) (y : X) → IsRisingBy number xs → AllByRecursion (λ (x : X). number x < number y) xs → IsRisingBy number (xs ++ y ∷ [])
  rises_last [] y rises all i j d low high = absurd (omega (arith, low, high))
  rises_last (x ∷ xs) y rises all i j d low high = rises_by x y xs rises (rises_last xs y (tail_rises x xs rises) all.1) all.0 i j d low high

-- ---- pairs are changed

same_in : (at : AtEnd) (pairs : List Pair) (claims : List Claim) (named : ℕ) → IsTidyBy claims pairs named → IsTidyBy claims (change_inbound at pairs) named
same_in None pairs claims named t = t
same_in (Some at) pairs claims named t = record {
  rise = t.rise;
  inbounds = rises_map inbound_of (inbound_changed at.0 at.1) (λ pair. (inbound_same at.0 at.1 pair).0) pairs t.inbounds;
  outbounds = rises_map outbound_of (inbound_changed at.0 at.1) (λ pair. (inbound_same at.0 at.1 pair).1) pairs t.outbounds;
  claimed = all_map (λ (pair : Pair). is_claimed claims pair.inbound ≡ true) (λ (pair : Pair). is_claimed claims pair.inbound ≡ true) (inbound_changed at.0 at.1) pairs
      (λ pair is. (ap (is_claimed claims) (inbound_same at.0 at.1 pair).0 ∙ is)) t.claimed;
  unclaimed = all_map (λ (pair : Pair). is_claimed claims pair.outbound ≡ false) (λ (pair : Pair). is_claimed claims pair.outbound ≡ false) (inbound_changed at.0 at.1) pairs
      (λ pair is. (ap (is_claimed claims) (inbound_same at.0 at.1 pair).1 ∙ is)) t.unclaimed;
  claims_named = t.claims_named;
  outbounds_named = all_map (λ (pair : Pair). pair.outbound ≤ named) (λ (pair : Pair). pair.outbound ≤ named) (inbound_changed at.0 at.1) pairs
      (λ pair is. subst (λ (n : ℕ). n ≤ named) (sym (inbound_same at.0 at.1 pair).1) is) t.outbounds_named;
}

same_out : (at : AtEnd) (pairs : List Pair) (claims : List Claim) (named : ℕ) → IsTidyBy claims pairs named → IsTidyBy claims (change_outbound at pairs) named
same_out None pairs claims named t = t
same_out (Some at) pairs claims named t = record {
  rise = t.rise;
  inbounds = rises_map inbound_of (outbound_changed at.0 at.1) (λ pair. (outbound_same at.0 at.1 pair).0) pairs t.inbounds;
  outbounds = rises_map outbound_of (outbound_changed at.0 at.1) (λ pair. (outbound_same at.0 at.1 pair).1) pairs t.outbounds;
  claimed = all_map (λ (pair : Pair). is_claimed claims pair.inbound ≡ true) (λ (pair : Pair). is_claimed claims pair.inbound ≡ true) (outbound_changed at.0 at.1) pairs
      (λ pair is. (ap (is_claimed claims) (outbound_same at.0 at.1 pair).0 ∙ is)) t.claimed;
  unclaimed = all_map (λ (pair : Pair). is_claimed claims pair.outbound ≡ false) (λ (pair : Pair). is_claimed claims pair.outbound ≡ false) (outbound_changed at.0 at.1) pairs
      (λ pair is. (ap (is_claimed claims) (outbound_same at.0 at.1 pair).1 ∙ is)) t.unclaimed;
  claims_named = t.claims_named;
  outbounds_named = all_map (λ (pair : Pair). pair.outbound ≤ named) (λ (pair : Pair). pair.outbound ≤ named) (outbound_changed at.0 at.1) pairs
      (λ pair is. subst (λ (n : ℕ). n ≤ named) (sym (outbound_same at.0 at.1 pair).1) is) t.outbounds_named;
}

pub tidy_in : (at : AtEnd) (pairs : List Pair) (claims : List Claim) (named : ℕ) → IsTidyBy claims pairs named → IsTidyBy claims (change_inbound at pairs) named
tidy_in = same_in

pub tidy_after : (event : Event) (pairs : List Pair) (claims : List Claim) (named : ℕ) → IsTidyBy claims pairs named → IsTidyBy claims (pairs_after pairs event) named
tidy_after event pairs claims named t = same_out (outbound_change event) (change_inbound (inbound_change event) pairs) claims named (same_in (inbound_change event) pairs claims named t)

-- ---- a greater end is named

pub tidy_named : (claims : List Claim) (pairs : List Pair) (named more : ℕ) → named ≤ more → IsTidyBy claims pairs named → IsTidyBy claims pairs more
tidy_named claims pairs named more le t = record {
  rise = t.rise;
  inbounds = t.inbounds;
  outbounds = t.outbounds;
  claimed = t.claimed;
  unclaimed = t.unclaimed;
  claims_named = all_weaker (λ (claim : Claim). claim.end ≤ named) (λ (claim : Claim). claim.end ≤ more) claims (λ claim is. omega (arith, is, le)) t.claims_named;
  outbounds_named = all_weaker (λ (pair : Pair). pair.outbound ≤ named) (λ (pair : Pair). pair.outbound ≤ more) pairs (λ pair is. omega (arith, is, le)) t.outbounds_named;
}

-- ---- an indicated end goes, or is new

lost_end : (end : ℕ) (claim : Claim) → (lost end claim).end ≡ claim.end
lost_end end claim = by (claim.end == end)
  where
    by : (b : Bool) → (if b then record claim { gone = true } else claim).end ≡ claim.end
    by true = refl
    by false = refl

tidy_lost : (end : ℕ) (claims : List Claim) (pairs : List Pair) (named : ℕ) → IsTidyBy claims pairs named → IsTidyBy (map (lost end) claims) pairs named
tidy_lost end claims pairs named t = record {
  rise = rises_map claim_of (lost end) (lost_end end) claims t.rise;
  inbounds = t.inbounds;
  outbounds = t.outbounds;
  claimed = all_weaker (λ (pair : Pair). is_claimed claims pair.inbound ≡ true) (λ (pair : Pair). is_claimed (map (lost end) claims) pair.inbound ≡ true) pairs
      (λ pair is. (claims_lost end pair.inbound claims ∙ is)) t.claimed;
  unclaimed = all_weaker (λ (pair : Pair). is_claimed claims pair.outbound ≡ false) (λ (pair : Pair). is_claimed (map (lost end) claims) pair.outbound ≡ false) pairs
      (λ pair is. (claims_lost end pair.outbound claims ∙ is)) t.unclaimed;
  claims_named = all_map (λ (claim : Claim). claim.end ≤ named) (λ (claim : Claim). claim.end ≤ named) (lost end) claims (λ claim is. subst (λ (n : ℕ). n ≤ named) (sym (lost_end end claim)) is) t.claims_named;
  outbounds_named = t.outbounds_named;
}

-- what an end tells has its claim lost, or changes none
pub tidy_told : (end : ℕ) (what : EndTold) (claims : List Claim) (pairs : List Pair) (named : ℕ) → IsTidyBy claims pairs named → IsTidyBy (claims_told end what claims) pairs named
tidy_told end (tells.Gone cause octets) claims pairs named t = tidy_lost end claims pairs named t
tidy_told end what claims pairs named t = t

tidy_claimed : (end : ℕ) (row : Option RelayRow) (claims : List Claim) (pairs : List Pair) (named : ℕ) → end ≤ named → AllByRecursion (λ (claim : Claim). claim.end < end) claims
    → AllByRecursion (λ (pair : Pair). pair.outbound ≢ end) pairs → IsTidyBy claims pairs named → IsTidyBy (claims ++ claimed end row) pairs named
tidy_claimed end None claims pairs named le below other t = subst (λ (cs : List Claim). IsTidyBy cs pairs named) (sym (append-nil claims)) t
tidy_claimed end (Some row) claims pairs named le below other t =
    let claim : Claim = record { end = end; gone = false } in
    record {
      rise = rises_last claim_of claims claim t.rise below;
      inbounds = t.inbounds;
      outbounds = t.outbounds;
      claimed = all_weaker (λ (pair : Pair). is_claimed claims pair.inbound ≡ true) (λ (pair : Pair). is_claimed (claims ++ claim ∷ []) pair.inbound ≡ true) pairs
          (λ pair is. (any_append (λ (c : Claim). c.end == pair.inbound) claims claim ∙ ap (λ (b : Bool). b || (end == pair.inbound)) is)) t.claimed;
      unclaimed = both_other pairs t.unclaimed other;
      claims_named = all_last (λ (c : Claim). c.end ≤ named) claims claim t.claims_named le;
      outbounds_named = t.outbounds_named;
    }
  where
    both_other : (pairs : List Pair) → AllByRecursion (λ (pair : Pair). is_claimed claims pair.outbound ≡ false) pairs → AllByRecursion (λ (pair : Pair). pair.outbound ≢ end) pairs
        → AllByRecursion (λ (pair : Pair). is_claimed (claims ++ record { end = end; gone = false } ∷ []) pair.outbound ≡ false) pairs
    both_other [] all none = tt
    both_other (pair ∷ pairs) all none = (
      any_append (λ (c : Claim). c.end == pair.outbound) claims (record { end = end; gone = false }) ∙ ap (λ (b : Bool). b || (end == pair.outbound)) all.0 ∙ ne_eqb end pair.outbound (λ is. none.0 (sym is)),
      both_other pairs all.1 none.1,
    )

-- ---- a pair is joined

tidy_joined : (i o : ℕ) (pair : Pair) (claims : List Claim) (pairs : List Pair) (named : ℕ) → pair.inbound ≡ i → pair.outbound ≡ o → o ≤ named → is_claimed claims i ≡ true → is_claimed claims o ≡ false
    → AllByRecursion (λ (p : Pair). p.inbound < i) pairs → AllByRecursion (λ (p : Pair). p.outbound < o) pairs → IsTidyBy claims pairs named → IsTidyBy claims (pairs ++ pair ∷ []) named
tidy_joined i o pair claims pairs named i_is o_is le has_i lacks_o below_in below_out t = record {
  rise = t.rise;
  inbounds = rises_last inbound_of pairs pair t.inbounds (subst (λ (n : ℕ). AllByRecursion (λ (p : Pair). p.inbound < n) pairs) (sym i_is) below_in);
  outbounds = rises_last outbound_of pairs pair t.outbounds (subst (λ (n : ℕ). AllByRecursion (λ (p : Pair). p.outbound < n) pairs) (sym o_is) below_out);
  claimed = all_last (λ (p : Pair). is_claimed claims p.inbound ≡ true) pairs pair t.claimed (ap (is_claimed claims) i_is ∙ has_i);
  unclaimed = all_last (λ (p : Pair). is_claimed claims p.outbound ≡ false) pairs pair t.unclaimed (ap (is_claimed claims) o_is ∙ lacks_o);
  claims_named = t.claims_named;
  outbounds_named = all_last (λ (p : Pair). p.outbound ≤ named) pairs pair t.outbounds_named (omega (arith, le, o_is));
}

-- ---- one event more

pub tidy_more : (kept : Kept) (event : Event) → IsTidy kept → IsNotable kept event → IsTidy (noted kept event)
tidy_more kept (events.Incoming heard) t may =
    tidy_claimed heard.end (row_for kept.rows heard) kept.claims kept.pairs (max kept.named heard.end) (omega arith) may.0 may.1 (tidy_named kept.claims kept.pairs kept.named (max kept.named heard.end) (omega arith) t)
tidy_more kept (events.Joined i o) t may =
    tidy_joined i o (joined kept.claims i o) kept.claims kept.pairs (max kept.named o) refl refl (omega arith) may.0 may.1 may.2 may.3 (tidy_named kept.claims kept.pairs kept.named (max kept.named o) (omega arith) t)
tidy_more kept (events.End end (tells.Gone cause octets)) t may =
    tidy_lost end kept.claims (pairs_after kept.pairs (events.End end (tells.Gone cause octets))) (max kept.named end)
    (tidy_named kept.claims (pairs_after kept.pairs (events.End end (tells.Gone cause octets))) kept.named (max kept.named end) (omega arith) (tidy_after (events.End end (tells.Gone cause octets)) kept.pairs kept.claims kept.named t))
tidy_more kept event t may =
    tidy_named kept.claims (pairs_after kept.pairs event) kept.named (max kept.named (named_by event)) (omega arith) (tidy_after event kept.pairs kept.claims kept.named t)

pub tidy_all : (kept : Kept) (journal : List Event) → IsTidy kept → AreNotable kept journal → IsTidy (kept_after kept journal)
tidy_all kept [] t may = t
tidy_all kept (event ∷ journal) t may = tidy_all (noted kept event) journal (tidy_more kept event t may.0) may.1

-- ---- what may come may be noted

none_claimed : (end : ℕ) (claims : List Claim) (named : ℕ) → named < end → AllByRecursion (λ (claim : Claim). claim.end ≤ named) claims → is_claimed claims end ≡ false
none_claimed end [] named above all = refl
none_claimed end (claim ∷ claims) named above all =
    ap (λ (b : Bool). b || is_claimed claims end) (ne_eqb claim.end end (λ same. (let low = all.0 in omega (arith, low, same, above)))) ∙ none_claimed end claims named above all.1

pub allowed_notable : (kept : Kept) (event : Event) → IsTidy kept → IsAllowed kept event → IsNotable kept event
allowed_notable kept (events.Incoming heard) t may = (
  all_weaker (λ (claim : Claim). claim.end ≤ kept.named) (λ (claim : Claim). claim.end < heard.end) kept.claims (λ claim is. omega (arith, is, may)) t.claims_named,
  all_weaker (λ (pair : Pair). pair.outbound ≤ kept.named) (λ (pair : Pair). pair.outbound ≢ heard.end) kept.pairs (λ pair is same. omega (arith, is, may, same)) t.outbounds_named,
)
allowed_notable kept (events.Joined i o) t may = (
  may.indicated,
  none_claimed o kept.claims kept.named may.unnamed t.claims_named,
  may.later,
  (let new = may.unnamed in all_weaker (λ (pair : Pair). pair.outbound ≤ kept.named) (λ (pair : Pair). pair.outbound < o) kept.pairs (λ pair is. omega (arith, is, new)) t.outbounds_named),
)
allowed_notable kept event t may = tt

pub all_notable : (kept : Kept) (journal : List Event) → IsTidy kept → AreAllowed kept journal → AreNotable kept journal
all_notable kept [] t may = tt
all_notable kept (event ∷ journal) t may = (allowed_notable kept event t may.0, all_notable (noted kept event) journal (tidy_more kept event t (allowed_notable kept event t may.0)) may.1)
