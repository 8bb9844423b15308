-- Of each pair that a relay joins the one end was indicated and the other was asked for, and each end stands in one note: ends are numbered as they are made.
use Rattle.std.proofs.Common.{◌≡◌, ◌≢◌, ◌⊎◌, inl, inr, ℕ, zero, suc, ◌+◌, ◌<◌, ◌≤◌, ◌==◌, ◌||◌, max, Bool, true, false, if◌then◌else◌, List, [], ◌∷◌, ◌++◌, map, length, Option, Some, None, refl, sym, ◌∙◌, ap, subst, arith}
use Rattle.std.specs.Prelude.{slice_get, slice_index_or}
use Rattle.std.specs.List.{AllByRecursion, Contains, list_any}
use Rattle.std.proofs.lemmas.Bool.{eqb-true, false≢true}
use Rattle.script_journal.specs.Partner.{AreEnds}
use Rattle.script_journal.specs.declared.event.Event.{Event}
use Rattle.script_journal.specs.declared.event.Event.TheVariants as events
use Rattle.script_journal.specs.declared.event.Indication.{Indication}
use Rattle.tp4_conn.specs.declared.timers.Timers.{Timers}
use Rattle.tp4_relay.specs.declared.claim.Claim.{Claim}
use Rattle.tp4_relay.specs.declared.pair.Pair.{Pair}
use Rattle.tp4_relay.specs.declared.row.RelayRow.{RelayRow}
use Rattle.tp4_relay.specs.Allowed.{AreAllowed, IsAllowed, Joins}
use Rattle.tp4_relay.specs.Kept.{Kept, joined, noted, nothing_kept}
use Rattle.tp4_relay.specs.Pairs.{AtEnd, change_inbound, change_outbound, inbound_change, inbound_changed, outbound_change, outbound_changed, pairs_after}
use Rattle.tp4_relay.specs.Relaying.{AreJoinedOnce, IsCalled, Relays, RelaysUnits}
use Rattle.tp4_relay.specs.steps.Tables.{IsTidy, is_claimed}
use Rattle.tp4_relay.proofs.Journals.{IsPair, claimed_before, inbound_same, outbound_same}
use Rattle.tp4_relay.proofs.Tidy.{allowed_notable, tidy_more}
use Rattle.law_relay.proofs.Begun.{nothing_tidy}

-- ---- the pair of a note

has_under : (pairs : List Pair) (change : Pair → Pair) (i o : ℕ) → ((pair : Pair) → ((change pair).inbound ≡ pair.inbound) × ((change pair).outbound ≡ pair.outbound)) → IsPair pairs i o → IsPair (map change pairs) i o
has_under [] change i o same is = is
has_under (pair ∷ pairs) change i o same (inl here) = let s = same pair in inl (s.0 ∙ here.0, s.1 ∙ here.1)
has_under (pair ∷ pairs) change i o same (inr later) = inr (has_under pairs change i o same later)

has_in : (at : AtEnd) (pairs : List Pair) (i o : ℕ) → IsPair pairs i o → IsPair (change_inbound at pairs) i o
has_in None pairs i o is = is
has_in (Some at) pairs i o is = has_under pairs (inbound_changed at.0 at.1) i o (λ pair. inbound_same at.0 at.1 pair) is

has_out : (at : AtEnd) (pairs : List Pair) (i o : ℕ) → IsPair pairs i o → IsPair (change_outbound at pairs) i o
has_out None pairs i o is = is
has_out (Some at) pairs i o is = has_under pairs (outbound_changed at.0 at.1) i o (λ pair. outbound_same at.0 at.1 pair) is

has_after : (pairs : List Pair) (event : Event) (i o : ℕ) → IsPair pairs i o → IsPair (pairs_after pairs event) i o
has_after pairs event i o is = has_out (outbound_change event) (change_inbound (inbound_change event) pairs) i o (has_in (inbound_change event) pairs i o is)

has_more : (pairs : List Pair) (pair : Pair) (i o : ℕ) → IsPair pairs i o → IsPair (pairs ++ pair ∷ []) i o
has_more [] pair i o is = absurd is
has_more (first ∷ pairs) pair i o (inl here) = inl here
has_more (first ∷ pairs) pair i o (inr later) = inr (has_more pairs pair i o later)

has_last : (pairs : List Pair) (pair : Pair) → IsPair (pairs ++ pair ∷ []) pair.inbound pair.outbound
has_last [] pair = inl (refl, refl)
has_last (first ∷ pairs) pair = inr (has_last pairs pair)

has_noted : (kept : Kept) (event : Event) (i o : ℕ) → IsPair kept.pairs i o → IsPair (noted kept event).pairs i o
has_noted kept (events.Joined inbound outbound) i o is = has_more kept.pairs (joined kept.claims inbound outbound) i o is
has_noted kept event i o is = has_after kept.pairs event i o is

-- ---- what is known of the ends of a pair

-- the ends of a pair that is kept are named, and the outbound one was not indicated
record IsKnown (kept : Kept) (i o : ℕ) : Type 0 where
  inbound : i ≤ kept.named
  outbound : o ≤ kept.named
  unclaimed : is_claimed kept.claims o ≡ false

claim_named : (claims : List Claim) (end named : ℕ) → AllByRecursion (λ (claim : Claim). claim.end ≤ named) claims → is_claimed claims end ≡ true → end ≤ named
claim_named [] end named all is = absurd (false≢true is)
claim_named (claim ∷ claims) end named all is = by (claim.end == end) refl is (λ any. claim_named claims end named all.1 any)
  where
    by : (b : Bool) → (claim.end == end) ≡ b → (b || is_claimed claims end) ≡ true → (is_claimed claims end ≡ true → end ≤ named) → end ≤ named
    by true here any rest = let same : claim.end ≡ end = eqb-true claim.end end here in let low = all.0 in omega (arith, same, low)
    by false here any rest = rest any

known_in : (claims : List Claim) (pairs : List Pair) (named i o : ℕ) → AllByRecursion (λ (pair : Pair). is_claimed claims pair.inbound ≡ true) pairs → AllByRecursion (λ (pair : Pair). is_claimed claims pair.outbound ≡ false) pairs
    → AllByRecursion (λ (claim : Claim). claim.end ≤ named) claims → AllByRecursion (λ (pair : Pair). pair.outbound ≤ named) pairs → IsPair pairs i o → (i ≤ named) × (o ≤ named) × (is_claimed claims o ≡ false)
known_in claims [] named i o has lacks low outs is = absurd is
known_in claims (pair ∷ pairs) named i o has lacks low outs (inl here) = (
  subst (λ (n : ℕ). n ≤ named) here.0 (claim_named claims pair.inbound named low has.0),
  subst (λ (n : ℕ). n ≤ named) here.1 outs.0,
  subst (λ (n : ℕ). is_claimed claims n ≡ false) here.1 lacks.0,
)
known_in claims (pair ∷ pairs) named i o has lacks low outs (inr later) = known_in claims pairs named i o has.1 lacks.1 low outs.1 later

known : (kept : Kept) (i o : ℕ) → IsTidy kept → IsPair kept.pairs i o → IsKnown kept i o
known kept i o tidy is = let k = known_in kept.claims kept.pairs kept.named i o tidy.claimed tidy.unclaimed tidy.claims_named tidy.outbounds_named is in record { inbound = k.0; outbound = k.1; unclaimed = k.2 }

inbound_below : (pairs : List Pair) (i o a : ℕ) → AllByRecursion (λ (pair : Pair). pair.inbound < a) pairs → IsPair pairs i o → i < a
inbound_below [] i o a all is = absurd is
inbound_below (pair ∷ pairs) i o a all (inl here) = subst (λ (n : ℕ). n < a) here.0 all.0
inbound_below (pair ∷ pairs) i o a all (inr later) = inbound_below pairs i o a all.1 later

-- two pairs with no end in common
abbrev Shares : ℕ → ℕ → ℕ → ℕ → Type 0
Shares i o a b = (i ≡ a) ⊎ ((i ≡ b) ⊎ ((o ≡ a) ⊎ (o ≡ b)))

joins_apart : (kept : Kept) (i o a b : ℕ) → IsTidy kept → IsPair kept.pairs i o → Joins kept a b → Shares i o a b → ⊥
joins_apart kept i o a b tidy is j (inl same) = let low = inbound_below kept.pairs i o a j.later is in omega (arith, low, same)
joins_apart kept i o a b tidy is j (inr (inl same)) = let k = known kept i o tidy is in let low = k.inbound in let above = j.unnamed in omega (arith, low, above, same)
joins_apart kept i o a b tidy is j (inr (inr (inl same))) =
    let k = known kept i o tidy is in false≢true (sym k.unclaimed ∙ ap (is_claimed kept.claims) same ∙ j.indicated)
joins_apart kept i o a b tidy is j (inr (inr (inr same))) = let k = known kept i o tidy is in let low = k.outbound in let above = j.unnamed in omega (arith, low, above, same)

shares_back : (i o a b : ℕ) → Shares i o a b → Shares a b i o
shares_back i o a b (inl same) = inl (sym same)
shares_back i o a b (inr (inl same)) = inr (inr (inl (sym same)))
shares_back i o a b (inr (inr (inl same))) = inr (inl (sym same))
shares_back i o a b (inr (inr (inr same))) = inr (inr (inr (sym same)))

-- ---- one event after another

next_tidy : (kept : Kept) (event : Event) → IsTidy kept → IsAllowed kept event → IsTidy (noted kept event)
next_tidy kept event tidy may = tidy_more kept event tidy (allowed_notable kept event tidy may)

only_first : (event other : Event) → Some event ≡ Some other → event ≡ other
only_first event other is = cc is

joins_here : (kept : Kept) (event : Event) (i o : ℕ) → event ≡ events.Joined i o → IsAllowed kept event → Joins kept i o
joins_here kept event i o is may = subst (IsAllowed kept) is may

has_here : (kept : Kept) (event : Event) (i o : ℕ) → event ≡ events.Joined i o → IsPair (noted kept event).pairs i o
has_here kept event i o is = subst (λ (e : Event). IsPair (noted kept e).pairs i o) (sym is) (has_last kept.pairs (joined kept.claims i o))

later_apart : (journal : List Event) (kept : Kept) (i o q a b : ℕ) → IsTidy kept → AreAllowed kept journal → IsPair kept.pairs i o → slice_get journal q ≡ Some (events.Joined a b) → Shares i o a b → ⊥
later_apart [] kept i o q a b tidy all is at shares = cc at
later_apart (event ∷ journal) kept i o zero a b tidy all is at shares = joins_apart kept i o a b tidy is (joins_here kept event a b (only_first event (events.Joined a b) at) all.0) shares
later_apart (event ∷ journal) kept i o (suc q) a b tidy all is at shares =
    later_apart journal (noted kept event) i o q a b (next_tidy kept event tidy all.0) all.1 (has_noted kept event i o is) at shares

apart_from : (journal : List Event) (kept : Kept) (p q i o a b : ℕ) → IsTidy kept → AreAllowed kept journal → slice_get journal p ≡ Some (events.Joined i o) → slice_get journal q ≡ Some (events.Joined a b) → Shares i o a b → p ≡ q
apart_from [] kept p q i o a b tidy all is at shares = absurd (cc is)
apart_from (event ∷ journal) kept zero zero i o a b tidy all is at shares = refl
apart_from (event ∷ journal) kept zero (suc q) i o a b tidy all is at shares =
    absurd (later_apart journal (noted kept event) i o q a b (next_tidy kept event tidy all.0) all.1 (has_here kept event i o (only_first event (events.Joined i o) is)) at shares)
apart_from (event ∷ journal) kept (suc p) zero i o a b tidy all is at shares =
    absurd (later_apart journal (noted kept event) a b p i o (next_tidy kept event tidy all.0) all.1 (has_here kept event a b (only_first event (events.Joined a b) at)) is (shares_back i o a b shares))
apart_from (event ∷ journal) kept (suc p) (suc q) i o a b tidy all is at shares = ap suc (apart_from journal (noted kept event) p q i o a b (next_tidy kept event tidy all.0) all.1 is at shares)

two_from : (journal : List Event) (kept : Kept) (p i o : ℕ) → IsTidy kept → AreAllowed kept journal → slice_get journal p ≡ Some (events.Joined i o) → i ≢ o
two_from [] kept p i o tidy all is = absurd (cc is)
two_from (event ∷ journal) kept zero i o tidy all is =
    let j = joins_here kept event i o (only_first event (events.Joined i o) is) all.0 in
    let low = claim_named kept.claims i kept.named tidy.claims_named j.indicated in
    let above = j.unnamed in
    λ same. omega (arith, low, above, same)
two_from (event ∷ journal) kept (suc p) i o tidy all is = two_from journal (noted kept event) p i o (next_tidy kept event tidy all.0) all.1 is

called_more : (event : Event) (journal : List Event) (i : ℕ) → IsCalled journal i → IsCalled (event ∷ journal) i
called_more event journal i c = record { p = suc c.p; heard = c.heard; is = c.is; end_is = c.end_is }

called_from : (journal : List Event) (kept : Kept) (p i o : ℕ) → AreAllowed kept journal → slice_get journal p ≡ Some (events.Joined i o) → (is_claimed kept.claims i ≡ true) ⊎ IsCalled journal i
called_from [] kept p i o all is = absurd (cc is)
called_from (event ∷ journal) kept zero i o all is = inl (joins_here kept event i o (only_first event (events.Joined i o) is) all.0).indicated
called_from (event ∷ journal) kept (suc p) i o all is = elim (called_from journal (noted kept event) p i o all.1 is) [
  | inl has ↦ (elim (claimed_before kept.rows kept.claims event i has) [
    | inl before ↦ inl before
    | inr now ↦ inr (record { p = 0; heard = now.0; is = ap (λ (e : Event). Some e) now.1; end_is = now.2 })
  ])
  | inr called ↦ inr (called_more event journal i called)
]

-- an end that is named already is not indicated later, and not asked for
not_indicated : (journal : List Event) (kept : Kept) (q n : ℕ) (heard : Indication) → AreAllowed kept journal → n ≤ kept.named → slice_get journal q ≡ Some (events.Incoming heard) → heard.end ≡ n → ⊥
not_indicated [] kept q n heard all low at same = cc at
not_indicated (event ∷ journal) kept zero n heard all low at same =
    let is : event ≡ events.Incoming heard = only_first event (events.Incoming heard) at in
    let above : kept.named < heard.end = subst (IsAllowed kept) is all.0 in
    omega (arith, low, above, same)
not_indicated (event ∷ journal) kept (suc q) n heard all low at same = not_indicated journal (noted kept event) q n heard all.1 (omega (arith, low)) at same

not_joined : (journal : List Event) (kept : Kept) (p n i o : ℕ) → AreAllowed kept journal → n ≤ kept.named → slice_get journal p ≡ Some (events.Joined i o) → o ≡ n → ⊥
not_joined [] kept p n i o all low is same = cc is
not_joined (event ∷ journal) kept zero n i o all low is same =
    let above = (joins_here kept event i o (only_first event (events.Joined i o) is) all.0).unnamed in omega (arith, low, above, same)
not_joined (event ∷ journal) kept (suc p) n i o all low is same = not_joined journal (noted kept event) p n i o all.1 (omega (arith, low)) is same

apart_events : (event : Event) (i o : ℕ) (heard : Indication) → event ≡ events.Joined i o → event ≡ events.Incoming heard → ⊥
apart_events event i o heard one other = let no_way : events.Joined i o ≡ events.Incoming heard = sym one ∙ other in cc no_way

named_joined : (kept : Kept) (event : Event) (i o : ℕ) → event ≡ events.Joined i o → o ≤ (noted kept event).named
named_joined kept event i o is = subst (λ (e : Event). o ≤ (noted kept e).named) (sym is) (omega arith)

named_heard : (kept : Kept) (event : Event) (heard : Indication) → event ≡ events.Incoming heard → heard.end ≤ (noted kept event).named
named_heard kept event heard is = subst (λ (e : Event). heard.end ≤ (noted kept e).named) (sym is) (omega arith)

calls_from : (journal : List Event) (kept : Kept) (p q i o : ℕ) (heard : Indication) → AreAllowed kept journal → slice_get journal p ≡ Some (events.Joined i o) → slice_get journal q ≡ Some (events.Incoming heard) → heard.end ≡ o → ⊥
calls_from [] kept p q i o heard all is at same = cc is
calls_from (event ∷ journal) kept zero zero i o heard all is at same =
    apart_events event i o heard (only_first event (events.Joined i o) is) (only_first event (events.Incoming heard) at)
calls_from (event ∷ journal) kept zero (suc q) i o heard all is at same =
    not_indicated journal (noted kept event) q o heard all.1 (named_joined kept event i o (only_first event (events.Joined i o) is)) at same
calls_from (event ∷ journal) kept (suc p) zero i o heard all is at same =
    not_joined journal (noted kept event) p heard.end i o all.1 (named_heard kept event heard (only_first event (events.Incoming heard) at)) is (sym same)
calls_from (event ∷ journal) kept (suc p) (suc q) i o heard all is at same = calls_from journal (noted kept event) p q i o heard all.1 is at same

-- ---- the whole

-- the place of what is contained
place_of : (xs : List Event) (k : ℕ) (x : Event) → k < length xs → slice_index_or xs k x ≡ x → slice_get xs k ≡ Some x
place_of [] k x low is = absurd (omega (arith, low))
place_of (y ∷ xs) zero x low is = ap (λ (e : Event). Some e) is
place_of (y ∷ xs) (suc k) x low is = place_of xs k x (omega (arith, low)) is

none_claimed : (rows : List RelayRow) (rules : Timers) (i : ℕ) → is_claimed (nothing_kept rows rules).claims i ≡ true → ⊥
none_claimed rows rules i is = false≢true is

pub relays : (rows : List RelayRow) (rules : Timers) (journal : List Event) → AreAllowed (nothing_kept rows rules) journal → RelaysUnits journal → Relays journal
relays rows rules journal all units = record {
  units = units;
  once = record {
    apart = λ p q i o a b is at shares. apart_from journal (nothing_kept rows rules) p q i o a b (nothing_tidy rows rules) all is at shares;
    two = λ p i o is. two_from journal (nothing_kept rows rules) p i o (nothing_tidy rows rules) all is;
  };
  called = λ i o has. (elim (called_from journal (nothing_kept rows rules) has.0 i o all (place_of journal has.0 (events.Joined i o) has.1 has.2)) [
    | inl claimed ↦ absurd (none_claimed rows rules i claimed)
    | inr called ↦ called
  ]);
  calls = λ i o other has ends.
      calls_from journal (nothing_kept rows rules) has.0 ends.p i o ends.heard all (place_of journal has.0 (events.Joined i o) has.1 has.2) ends.partner.is ends.called_is;
}
