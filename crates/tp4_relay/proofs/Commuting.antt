-- What a pump tells of an event may as well be noted behind the events of the line that come later: what it changes of a pair, and what they change, go in either order.
use Rattle.std.proofs.Common.{◌≡◌, ◌≢◌, ℕ, ◌<◌, ◌≤◌, ◌==◌, max, Bool, true, false, ◌||◌, ◌&&◌, List, [], ◌∷◌, ◌++◌, map, Option, Some, None, refl, sym, ◌∙◌, ap, subst, arith}
use Rattle.std.specs.Prelude.{if◌then◌else◌}
use Rattle.std.specs.List.{AllByRecursion, list_any}
use Rattle.std.proofs.lemmas.Bool.{eq-eqb, eqb-true, ne_eqb}
use Rattle.std.proofs.lemmas.List.{append-nil, map-append}
use Rattle.osi_base.proofs.Young.{all_last}
use Rattle.script_journal.specs.declared.event.Indication.{Indication}
use Rattle.tp4_relay.specs.declared.row.RelayRow.{RelayRow}
use Rattle.script_journal.specs.declared.event.Event.{Event}
use Rattle.script_journal.specs.declared.event.Event.TheVariants as events
use Rattle.tp4_relay.specs.declared.claim.Claim.{Claim}
use Rattle.tp4_relay.specs.declared.pair.Heading.TheVariants.{On, Back}
use Rattle.tp4_relay.specs.declared.pair.Pair.{Pair}
use Rattle.tp4_relay.specs.declared.pair.Phase.TheVariants as phases
use Rattle.tp4_relay.specs.declared.unit.MarkedUnit.TheVariants.{Normal, Expedited}
use Rattle.tp4_relay.specs.Kept.{Kept, all_pairs_after, claims_after, kept_after, named_by, noted}
use Rattle.tp4_relay.specs.Pairs.{AtEnd, Change, Opens, Accepts, Closes, Waits, Gives, Turns, change_inbound, change_outbound, changed, inbound_change, inbound_changed, outbound_change, outbound_changed, pairs_after}
use Rattle.tp4_relay.specs.Allowed.{AreAllowed, IsLine, IsUnjoined, Joins}
use Rattle.tp4_relay.specs.Kept.{claimed, first_phase, is_lost, joined, lost, owns, row_for}
use Rattle.tp4_relay.specs.Pairs.{new_pair}
use Rattle.tp4_relay.specs.steps.Making.{AreMadeBy, IsFree, IsFreeAt, IsFreeEvent, IsMadeBy, Passes}
use Rattle.tp4_relay.specs.steps.Tables.{IsNotable, IsTidy, is_claimed}
use Rattle.tp4_relay.proofs.Journals.{any_append, claims_lost, inbound_same, inbounds_kept, or_false, outbound_same}
use Rattle.tp4_relay.proofs.PairsHold.{ends_stay}
use Rattle.tp4_relay.proofs.Tidy.{all_map, allowed_notable}
use Rattle.tpdu.specs.declared.service.EndTold.TheVariants as tells

-- ---- one pair

-- that an end was accepted, and that a pair closes, go with every change
accepts_any : (pair : Pair) (change : Change) → changed (changed pair change) Accepts ≡ changed (changed pair Accepts) change
accepts_any pair Opens = refl
accepts_any pair Accepts = refl
accepts_any pair Closes = refl
accepts_any pair (Waits On unit) = refl
accepts_any pair (Waits Back unit) = refl
accepts_any pair (Gives On) = refl
accepts_any pair (Gives Back) = refl
accepts_any pair (Turns On) = refl
accepts_any pair (Turns Back) = refl

closes_any : (pair : Pair) (change : Change) → changed (changed pair change) Closes ≡ changed (changed pair Closes) change
closes_any pair Opens = refl
closes_any pair Accepts = refl
closes_any pair Closes = refl
closes_any pair (Waits On unit) = refl
closes_any pair (Waits Back unit) = refl
closes_any pair (Gives On) = refl
closes_any pair (Gives Back) = refl
closes_any pair (Turns On) = refl
closes_any pair (Turns Back) = refl

free_any : (pair : Pair) (change free : Change) → IsFree free → changed (changed pair change) free ≡ changed (changed pair free) change
free_any pair change Accepts is = accepts_any pair change
free_any pair change Closes is = closes_any pair change
free_any pair change Opens is = absurd is
free_any pair change (Waits heading unit) is = absurd is
free_any pair change (Gives heading) is = absurd is
free_any pair change (Turns heading) is = absurd is

-- ---- at the ends of a pair

-- a change where a test of the pair holds that no change touches
module _ (test other : Pair → Bool) (tested : (pair : Pair) (change : Change) → test (changed pair change) ≡ test pair) (also : (pair : Pair) (change : Change) → other (changed pair change) ≡ other pair) where
  abbrev at : Bool → Change → Pair → Pair
  at b change pair = if b then changed pair change else pair

  two : (pair : Pair) (change free : Change) → IsFree free → at (other (at (test pair) change pair)) free (at (test pair) change pair) ≡ at (test (at (other pair) free pair)) change (at (other pair) free pair)
  two pair change free is = by (test pair) (other pair) refl refl
    where
      by : (b c : Bool) → test pair ≡ b → other pair ≡ c → at (other (at b change pair)) free (at b change pair) ≡ at (test (at c free pair)) change (at c free pair)
      by true true tb oc =
          ap (λ (x : Bool). at x free (changed pair change)) (also pair change ∙ oc) ∙ free_any pair change free is ∙ sym (ap (λ (x : Bool). at x change (changed pair free)) (tested pair free ∙ tb))
      by true false tb oc =
          ap (λ (x : Bool). at x free (changed pair change)) (also pair change ∙ oc) ∙ sym (ap (λ (x : Bool). at x change pair) tb)
      by false true tb oc =
          ap (λ (x : Bool). at x free pair) oc ∙ sym (ap (λ (x : Bool). at x change (changed pair free)) (tested pair free ∙ tb))
      by false false tb oc = ap (λ (x : Bool). at x free pair) oc ∙ sym (ap (λ (x : Bool). at x change pair) tb)

  pub swapped : (pairs : List Pair) (change free : Change) → IsFree free
      → map (λ (pair : Pair). at (other pair) free pair) (map (λ (pair : Pair). at (test pair) change pair) pairs) ≡ map (λ (pair : Pair). at (test pair) change pair) (map (λ (pair : Pair). at (other pair) free pair) pairs)
  swapped [] change free is = refl
  swapped (pair ∷ pairs) change free is = let here = two pair change free is in let rest = swapped pairs change free is in λ i. here i ∷ rest i

inbound_test : (end : ℕ) (pair : Pair) (change : Change) → ((changed pair change).inbound == end) ≡ (pair.inbound == end)
inbound_test end pair change = ap (λ (n : ℕ). n == end) (ends_stay pair change).0

outbound_test : (end : ℕ) (pair : Pair) (change : Change) → ((changed pair change).outbound == end) ≡ (pair.outbound == end)
outbound_test end pair change = ap (λ (n : ℕ). n == end) (ends_stay pair change).1

in_in : (first free : AtEnd) (pairs : List Pair) → IsFreeAt free → change_inbound free (change_inbound first pairs) ≡ change_inbound first (change_inbound free pairs)
in_in None free pairs is = refl
in_in (Some at) None pairs is = refl
in_in (Some at) (Some by) pairs is = swapped (λ (pair : Pair). pair.inbound == at.0) (λ (pair : Pair). pair.inbound == by.0) (inbound_test at.0) (inbound_test by.0) pairs at.1 by.1 is

in_out : (first free : AtEnd) (pairs : List Pair) → IsFreeAt free → change_inbound free (change_outbound first pairs) ≡ change_outbound first (change_inbound free pairs)
in_out None free pairs is = refl
in_out (Some at) None pairs is = refl
in_out (Some at) (Some by) pairs is = swapped (λ (pair : Pair). pair.outbound == at.0) (λ (pair : Pair). pair.inbound == by.0) (outbound_test at.0) (inbound_test by.0) pairs at.1 by.1 is

out_in : (first free : AtEnd) (pairs : List Pair) → IsFreeAt free → change_outbound free (change_inbound first pairs) ≡ change_inbound first (change_outbound free pairs)
out_in None free pairs is = refl
out_in (Some at) None pairs is = refl
out_in (Some at) (Some by) pairs is = swapped (λ (pair : Pair). pair.inbound == at.0) (λ (pair : Pair). pair.outbound == by.0) (inbound_test at.0) (outbound_test by.0) pairs at.1 by.1 is

out_out : (first free : AtEnd) (pairs : List Pair) → IsFreeAt free → change_outbound free (change_outbound first pairs) ≡ change_outbound first (change_outbound free pairs)
out_out None free pairs is = refl
out_out (Some at) None pairs is = refl
out_out (Some at) (Some by) pairs is = swapped (λ (pair : Pair). pair.outbound == at.0) (λ (pair : Pair). pair.outbound == by.0) (outbound_test at.0) (outbound_test by.0) pairs at.1 by.1 is

-- ---- events

pub pairs_swapped : (pairs : List Pair) (event free : Event) → IsFreeEvent free → pairs_after (pairs_after pairs event) free ≡ pairs_after (pairs_after pairs free) event
pairs_swapped pairs event free is =
    let ei = inbound_change event in
    let eo = outbound_change event in
    let fi = inbound_change free in
    let fo = outbound_change free in
    ap (change_outbound fo) (in_out eo fi (change_inbound ei pairs) is.0)
    ∙ ap (λ (ps : List Pair). change_outbound fo (change_outbound eo ps)) (in_in ei fi pairs is.0)
    ∙ out_out eo fo (change_inbound ei (change_inbound fi pairs)) is.1
    ∙ ap (change_outbound eo) (out_in ei fo (change_inbound fi pairs) is.1)

-- what a pump tells of an event, but that it joined two ends
abbrev pub IsMade : Event → Type 0
IsMade (events.Incoming heard) = ⊥
IsMade (events.End end (tells.Gone cause octets)) = ⊥
IsMade (events.Joined inbound outbound) = ⊥
IsMade event = IsFreeEvent event

-- an event of a line joins no ends
abbrev pub JoinsNone : Event → Type 0
JoinsNone (events.Joined inbound outbound) = ⊥
JoinsNone event = Prim.Unit {0}

made_claims : (kept : Kept) (free : Event) → IsMade free → (claims : List Claim) → claims_after kept.rows claims free ≡ claims
made_claims kept (events.Incoming heard) is claims = absurd is
made_claims kept (events.End end (tells.Gone cause octets)) is claims = absurd is
made_claims kept free is claims = refl

made_pairs : (free : Event) → IsMade free → (claims : List Claim) (pairs : List Pair) → all_pairs_after claims pairs free ≡ pairs_after pairs free
made_pairs (events.Joined inbound outbound) is claims pairs = absurd is
made_pairs free is claims pairs = refl

made_free : (free : Event) → IsMade free → IsFreeEvent free
made_free (events.Incoming heard) is = absurd is
made_free (events.End end (tells.Gone cause octets)) is = absurd is
made_free (events.Joined inbound outbound) is = absurd is
made_free free is = is

line_pairs : (event : Event) → JoinsNone event → (claims : List Claim) (pairs : List Pair) → all_pairs_after claims pairs event ≡ pairs_after pairs event
line_pairs (events.Joined inbound outbound) is claims pairs = absurd is
line_pairs event is claims pairs = refl

max_swapped : (a b c : ℕ) → max (max a b) c ≡ max (max a c) b
max_swapped a b c = omega arith

-- what a pump tells may be noted behind an event of the line
pub noted_swapped : (kept : Kept) (event free : Event) → JoinsNone event → IsMade free → noted (noted kept event) free ≡ noted (noted kept free) event
noted_swapped kept event free none made =
    let named = max_swapped kept.named (named_by event) (named_by free) in
    let claims : claims_after kept.rows (claims_after kept.rows kept.claims event) free ≡ claims_after kept.rows (claims_after kept.rows kept.claims free) event =
    made_claims kept free made (claims_after kept.rows kept.claims event) ∙ ap (λ (cs : List Claim). claims_after kept.rows cs event) (sym (made_claims kept free made kept.claims)) in
    let pairs : all_pairs_after (claims_after kept.rows kept.claims event) (all_pairs_after kept.claims kept.pairs event) free
    ≡ all_pairs_after (claims_after kept.rows kept.claims free) (all_pairs_after kept.claims kept.pairs free) event =
    made_pairs free made (claims_after kept.rows kept.claims event) (all_pairs_after kept.claims kept.pairs event)
    ∙ ap (λ (ps : List Pair). pairs_after ps free) (line_pairs event none kept.claims kept.pairs)
    ∙ pairs_swapped kept.pairs event free (made_free free made)
    ∙ ap (λ (ps : List Pair). pairs_after ps event) (sym (made_pairs free made kept.claims kept.pairs))
    ∙ sym (line_pairs event none (claims_after kept.rows kept.claims free) (all_pairs_after kept.claims kept.pairs free)) in
    λ i. record { rows = kept.rows; rules = kept.rules; named = named i; claims = claims i; pairs = pairs i }

-- ---- the event that joins two ends

module _ (kept : Kept) (i o : ℕ) (event : Event) where
  other_if : (at x : ℕ) (change : Change) (pair : Pair) → at ≢ x → (if at == x then changed pair change else pair) ≡ pair
  other_if at x change pair other = ap (λ (b : Bool). if b then changed pair change else pair) (ne_eqb at x other)

  -- a change at an end that is none of the pair's
  stays_in : (x : ℕ) (change : Change) (pair : Pair) → pair.inbound ≢ x → inbound_changed x change pair ≡ pair
  stays_in x change pair other = other_if pair.inbound x change pair other

  stays_out : (x : ℕ) (change : Change) (pair : Pair) → pair.outbound ≢ x → outbound_changed x change pair ≡ pair
  stays_out x change pair other = other_if pair.outbound x change pair other

-- a pair behind the others, after an event
abbrev alone_in : AtEnd → Pair → Pair
alone_in None pair = pair
alone_in (Some at) pair = inbound_changed at.0 at.1 pair

abbrev alone_out : AtEnd → Pair → Pair
alone_out None pair = pair
alone_out (Some at) pair = outbound_changed at.0 at.1 pair

last_in : (at : AtEnd) (pairs : List Pair) (pair : Pair) → change_inbound at (pairs ++ pair ∷ []) ≡ change_inbound at pairs ++ alone_in at pair ∷ []
last_in None pairs pair = refl
last_in (Some at) pairs pair = map-append (inbound_changed at.0 at.1) pairs (pair ∷ [])

last_out : (at : AtEnd) (pairs : List Pair) (pair : Pair) → change_outbound at (pairs ++ pair ∷ []) ≡ change_outbound at pairs ++ alone_out at pair ∷ []
last_out None pairs pair = refl
last_out (Some at) pairs pair = map-append (outbound_changed at.0 at.1) pairs (pair ∷ [])

last_after : (event : Event) (pairs : List Pair) (pair : Pair) → pairs_after (pairs ++ pair ∷ []) event ≡ pairs_after pairs event ++ alone_out (outbound_change event) (alone_in (inbound_change event) pair) ∷ []
last_after event pairs pair =
    ap (change_outbound (outbound_change event)) (last_in (inbound_change event) pairs pair)
    ∙ last_out (outbound_change event) (change_inbound (inbound_change event) pairs) (alone_in (inbound_change event) pair)

-- an indicated end went, or another one did
lost_now : (i : ℕ) (claims : List Claim) → is_claimed claims i ≡ true → is_lost (map (lost i) claims) i ≡ true
lost_now i [] is = absurd (cc)
lost_now i (claim ∷ claims) is = by (λ later. lost_now i claims later) (claim.end == i) refl is
  where
    by : (is_claimed claims i ≡ true → is_lost (map (lost i) claims) i ≡ true) → (b : Bool) → (claim.end == i) ≡ b → (b || is_claimed claims i) ≡ true → is_lost (lost i claim ∷ map (lost i) claims) i ≡ true
    by deeper true here is =
        ap (λ (c : Claim). (c.end == i && c.gone) || is_lost (map (lost i) claims) i) (ap (λ (b : Bool). if b then record claim { gone = true } else claim) here)
        ∙ ap (λ (b : Bool). (b && true) || is_lost (map (lost i) claims) i) here
    by deeper false here is =
        ap (λ (c : Claim). (c.end == i && c.gone) || is_lost (map (lost i) claims) i) (ap (λ (b : Bool). if b then record claim { gone = true } else claim) here)
        ∙ ap (λ (b : Bool). (b && claim.gone) || is_lost (map (lost i) claims) i) here ∙ deeper is

lost_other : (i x : ℕ) (claims : List Claim) → i ≢ x → is_lost (map (lost x) claims) i ≡ is_lost claims i
lost_other i x [] other = refl
lost_other i x (claim ∷ claims) other = by (lost_other i x claims other) (claim.end == x) refl
  where
    apart : (claim.end == x) ≡ true → (claim.end == i) ≡ false
    apart same = ne_eqb claim.end i (λ is. other (sym is ∙ eqb-true claim.end x same))

    by : is_lost (map (lost x) claims) i ≡ is_lost claims i → (b : Bool) → (claim.end == x) ≡ b → is_lost (lost x claim ∷ map (lost x) claims) i ≡ is_lost (claim ∷ claims) i
    by rest true here =
        ap (λ (c : Claim). (c.end == i && c.gone) || is_lost (map (lost x) claims) i) (ap (λ (b : Bool). if b then record claim { gone = true } else claim) here)
        ∙ ap (λ (b : Bool). (b && true) || is_lost (map (lost x) claims) i) (apart here)
        ∙ rest
        ∙ sym (ap (λ (b : Bool). (b && claim.gone) || is_lost claims i) (apart here))
    by rest false here =
        ap (λ (c : Claim). (c.end == i && c.gone) || is_lost (map (lost x) claims) i) (ap (λ (b : Bool). if b then record claim { gone = true } else claim) here)
        ∙ ap (λ (b : Bool). (claim.end == i && claim.gone) || b) rest

lost_new : (i : ℕ) (heard : Indication) (row : Option RelayRow) (claims : List Claim) → is_lost (claims ++ claimed heard.end row) i ≡ is_lost claims i
lost_new i heard None claims = ap (λ (cs : List Claim). is_lost cs i) (append-nil claims)
lost_new i heard (Some row) claims =
    any_append (λ (claim : Claim). claim.end == i && claim.gone) claims (record { end = heard.end; gone = false }) ∙ none (heard.end == i) (is_lost claims i)
  where
    none : (b c : Bool) → (c || (b && false)) ≡ c
    none true true = refl
    none true false = refl
    none false true = refl
    none false false = refl

-- an end that was indicated at a row, and is not joined yet, is none that the event of a line names, unless it goes
module _ (kept : Kept) (i o ends : ℕ) (j : Joins kept i o) (above : ends < o) where
  not_inbound : (pairs : List Pair) → AllByRecursion (λ (pair : Pair). pair.inbound < i) pairs → list_any (λ (pair : Pair). pair.inbound == i) pairs ≡ false
  not_inbound [] all = refl
  not_inbound (pair ∷ pairs) all =
      ap (λ (b : Bool). b || list_any (λ (p : Pair). p.inbound == i) pairs) (ne_eqb pair.inbound i (λ same. let low = all.0 in omega (arith, low, same))) ∙ not_inbound pairs all.1

  unclaimed_other : (x : ℕ) → is_claimed kept.claims x ≡ false → i ≢ x
  unclaimed_other x none same = absurd (let has_it = j.indicated in let lacks_it = ap (is_claimed kept.claims) same ∙ none in cc)

  shown_other : (x : ℕ) → (IsUnjoined kept x → ⊥) → i ≢ x
  shown_other x may same = may (subst (IsUnjoined kept) same (j.indicated, not_inbound kept.pairs j.later))

  late : (x : ℕ) → x ≤ ends → o ≢ x
  late x low same = absurd (omega (arith, low, same, above))

  abbrev new : Pair
  new = joined kept.claims i o

  -- the pair that is joined is as it was, after an event that does not name its ends
  untouched : (x : ℕ) (first second : Change) → i ≢ x → o ≢ x → alone_out (Some (x, second)) (alone_in (Some (x, first)) new) ≡ new
  untouched x first second not_i not_o =
      ap (outbound_changed x second) (stays_in kept i o (events.Joined i o) x first new not_i) ∙ stays_out kept i o (events.Joined i o) x second new not_o

  abbrev Same : Event → Type 0
  Same event = alone_out (outbound_change event) (alone_in (inbound_change event) new) ≡ joined (claims_after kept.rows kept.claims event) i o

  closed_new : (b : Bool) → changed (new_pair i o (first_phase b)) Closes ≡ new_pair i o phases.Closed
  closed_new b = refl

  gone_by : (x : ℕ) → x ≤ ends → (b : Bool) → (i == x) ≡ b → outbound_changed x Closes (if b then changed new Closes else new) ≡ joined (map (lost x) kept.claims) i o
  gone_by x low true here =
      let same : i ≡ x = eqb-true i x here in
      let went : is_lost (map (lost x) kept.claims) i ≡ true = ap (λ (n : ℕ). is_lost (map (lost n) kept.claims) i) (sym same) ∙ lost_now i kept.claims j.indicated in
      stays_out kept i o (events.Joined i o) x Closes (changed new Closes) (late x low) ∙ sym (ap (λ (b : Bool). new_pair i o (first_phase b)) went)
  gone_by x low false here =
      let other : i ≢ x = λ same. absurd (let is_it = eq-eqb i x same in cc) in
      stays_out kept i o (events.Joined i o) x Closes new (late x low) ∙ sym (ap (λ (b : Bool). new_pair i o (first_phase b)) (lost_other i x kept.claims other))

  same_new : (event : Event) → Passes kept event → named_by event ≤ ends → Same event
  same_new (events.Incoming heard) may low = sym (ap (λ (b : Bool). new_pair i o (first_phase b)) (lost_new i heard (row_for kept.rows heard) kept.claims))
  same_new (events.End x (tells.Gone cause octets)) may low = gone_by x low (i == x) refl
  same_new (events.End x (tells.Accept options octets)) may low = stays_in kept i o (events.Joined i o) x Accepts new (unclaimed_other x may)
  same_new (events.End x (tells.Confirm options octets)) may low = stays_out kept i o (events.Joined i o) x Opens new (late x low)
  same_new (events.End x (tells.Got octets)) may low = untouched x (Waits On (Normal octets)) (Waits Back (Normal octets)) (shown_other x may) (late x low)
  same_new (events.End x (tells.Urgent octets)) may low = untouched x (Waits On (Expedited octets)) (Waits Back (Expedited octets)) (shown_other x may) (late x low)
  same_new (events.Data x octets) may low = untouched x (Gives Back) (Gives On) (unclaimed_other x may) (late x low)
  same_new (events.Expedite x octets) may low = untouched x (Gives Back) (Gives On) (unclaimed_other x may) (late x low)
  same_new (events.End x (tells.Window credit)) may low = untouched x (Turns On) (Turns Back) (unclaimed_other x may) (late x low)
  same_new (events.Disconnect x octets) may low = untouched x Closes Closes (unclaimed_other x may) (late x low)
  same_new (events.Joined a b) may low = absurd may
  same_new event may low = refl

  passes_none : (event : Event) → Passes kept event → JoinsNone event
  passes_none (events.Joined a b) may = absurd may
  passes_none event may = tt

  pub joined_swapped : (event : Event) → Passes kept event → named_by event ≤ ends → noted (noted kept event) (events.Joined i o) ≡ noted (noted kept (events.Joined i o)) event
  joined_swapped event may low =
      let none = passes_none event may in
      let named = max_swapped kept.named (named_by event) o in
      let pairs : all_pairs_after kept.claims kept.pairs event ++ joined (claims_after kept.rows kept.claims event) i o ∷ [] ≡ all_pairs_after kept.claims (kept.pairs ++ new ∷ []) event =
      ap (λ (ps : List Pair). ps ++ joined (claims_after kept.rows kept.claims event) i o ∷ []) (line_pairs event none kept.claims kept.pairs)
      ∙ ap (λ (p : Pair). pairs_after kept.pairs event ++ p ∷ []) (sym (same_new event may low))
      ∙ sym (last_after event kept.pairs new)
      ∙ sym (line_pairs event none kept.claims (kept.pairs ++ new ∷ [])) in
      λ i. record { rows = kept.rows; rules = kept.rules; named = named i; claims = claims_after kept.rows kept.claims event; pairs = pairs i }

-- ---- what a pump tells of an event, and an event that comes later in the line

passes_no_join : (kept : Kept) (event : Event) → Passes kept event → JoinsNone event
passes_no_join kept (events.Joined a b) may = absurd may
passes_no_join kept event may = tt

made_swapped : (ends : ℕ) (kept : Kept) (event made : Event) → IsMadeBy ends kept made → Passes kept event → named_by event ≤ ends → noted (noted kept event) made ≡ noted (noted kept made) event
made_swapped ends kept event (events.Joined i o) is may low = joined_swapped kept i o ends is.0 is.1 event may low
made_swapped ends kept event (events.Incoming heard) is may low = absurd is
made_swapped ends kept event (events.End end (tells.Gone cause octets)) is may low = absurd is
made_swapped ends kept event made is may low = noted_swapped kept event made (passes_no_join kept event may) is

still_claimed : (kept : Kept) (event : Event) (i : ℕ) → is_claimed kept.claims i ≡ true → is_claimed (claims_after kept.rows kept.claims event) i ≡ true
still_claimed kept (events.Incoming heard) i is = by (row_for kept.rows heard)
  where
    by : (row : Option RelayRow) → is_claimed (kept.claims ++ claimed heard.end row) i ≡ true
    by None = ap (λ (cs : List Claim). is_claimed cs i) (append-nil kept.claims) ∙ is
    by (Some row) = any_append (λ (c : Claim). c.end == i) kept.claims (record { end = heard.end; gone = false }) ∙ ap (λ (b : Bool). b || (heard.end == i)) is
still_claimed kept (events.End end (tells.Gone cause octets)) i is = claims_lost end i kept.claims ∙ is
still_claimed kept event i is = is

below_in : (i : ℕ) (at : AtEnd) (pairs : List Pair) → AllByRecursion (λ (pair : Pair). pair.inbound < i) pairs → AllByRecursion (λ (pair : Pair). pair.inbound < i) (change_inbound at pairs)
below_in i None pairs all = all
below_in i (Some at) pairs all =
    all_map (λ (pair : Pair). pair.inbound < i) (λ (pair : Pair). pair.inbound < i) (inbound_changed at.0 at.1) pairs (λ pair is. subst (λ (n : ℕ). n < i) (sym (inbound_same at.0 at.1 pair).0) is) all

below_out : (i : ℕ) (at : AtEnd) (pairs : List Pair) → AllByRecursion (λ (pair : Pair). pair.inbound < i) pairs → AllByRecursion (λ (pair : Pair). pair.inbound < i) (change_outbound at pairs)
below_out i None pairs all = all
below_out i (Some at) pairs all =
    all_map (λ (pair : Pair). pair.inbound < i) (λ (pair : Pair). pair.inbound < i) (outbound_changed at.0 at.1) pairs (λ pair is. subst (λ (n : ℕ). n < i) (sym (outbound_same at.0 at.1 pair).0) is) all

other_in : (x : ℕ) (at : AtEnd) (pairs : List Pair) → AllByRecursion (λ (pair : Pair). pair.outbound ≢ x) pairs → AllByRecursion (λ (pair : Pair). pair.outbound ≢ x) (change_inbound at pairs)
other_in x None pairs all = all
other_in x (Some at) pairs all =
    all_map (λ (pair : Pair). pair.outbound ≢ x) (λ (pair : Pair). pair.outbound ≢ x) (inbound_changed at.0 at.1) pairs (λ pair no_end same. no_end (sym (inbound_same at.0 at.1 pair).1 ∙ same)) all

other_out : (x : ℕ) (at : AtEnd) (pairs : List Pair) → AllByRecursion (λ (pair : Pair). pair.outbound ≢ x) pairs → AllByRecursion (λ (pair : Pair). pair.outbound ≢ x) (change_outbound at pairs)
other_out x None pairs all = all
other_out x (Some at) pairs all =
    all_map (λ (pair : Pair). pair.outbound ≢ x) (λ (pair : Pair). pair.outbound ≢ x) (outbound_changed at.0 at.1) pairs (λ pair no_end same. no_end (sym (outbound_same at.0 at.1 pair).1 ∙ same)) all

made_still : (ends : ℕ) (kept : Kept) (event made : Event) → IsMadeBy ends kept made → Passes kept event → named_by event ≤ ends → IsMadeBy ends (noted kept event) made
made_still ends kept event (events.Joined i o) is may low =
    let later : AllByRecursion (λ (pair : Pair). pair.inbound < i) (all_pairs_after kept.claims kept.pairs event) =
    subst (AllByRecursion (λ (pair : Pair). pair.inbound < i)) (sym (line_pairs event (passes_no_join kept event may) kept.claims kept.pairs))
    (below_out i (outbound_change event) (change_inbound (inbound_change event) kept.pairs) (below_in i (inbound_change event) kept.pairs (is.0).later)) in
    (record { indicated = still_claimed kept event i (is.0).indicated; later = later; unnamed = (let a = (is.0).unnamed in let b = is.1 in omega (arith, a, b, low)) }, is.1)
made_still ends kept event (events.Incoming heard) is may low = absurd is
made_still ends kept event (events.End end (tells.Gone cause octets)) is may low = absurd is
made_still ends kept event made is may low = is

-- behind what is told the event still passes
module _ (ends : ℕ) (kept : Kept) (i o : ℕ) (j : Joins kept i o) (above : ends < o) where
  unjoined_before : (x : ℕ) → (IsUnjoined kept x → ⊥) → IsUnjoined (noted kept (events.Joined i o)) x → ⊥
  unjoined_before x may u =
      may (u.0, or_false (list_any (λ (p : Pair). p.inbound == x) kept.pairs) (i == x) (sym (any_append (λ (p : Pair). p.inbound == x) kept.pairs (joined kept.claims i o)) ∙ u.1))

  passes_joined : (event : Event) → Passes kept event → named_by event ≤ ends → Passes (noted kept (events.Joined i o)) event
  passes_joined (events.Incoming heard) may low =
      (may.0, all_last (λ (pair : Pair). pair.outbound ≢ heard.end) kept.pairs (joined kept.claims i o) may.1 (λ same. omega (arith, low, same, above)))
  passes_joined (events.End x (tells.Accept options octets)) may low = may
  passes_joined (events.Data x octets) may low = may
  passes_joined (events.Expedite x octets) may low = may
  passes_joined (events.End x (tells.Window credit)) may low = may
  passes_joined (events.Disconnect x octets) may low = may
  passes_joined (events.End x (tells.Got octets)) may low = unjoined_before x may
  passes_joined (events.End x (tells.Urgent octets)) may low = unjoined_before x may
  passes_joined (events.Joined a b) may low = absurd may
  passes_joined event may low = tt

module _ (kept : Kept) (free : Event) (is : IsMade free) where
  claims_same : claims_after kept.rows kept.claims free ≡ kept.claims
  claims_same = made_claims kept free is kept.claims

  pairs_same : all_pairs_after kept.claims kept.pairs free ≡ pairs_after kept.pairs free
  pairs_same = made_pairs free is kept.claims kept.pairs

  unclaimed_still : (x : ℕ) → is_claimed kept.claims x ≡ false → is_claimed (claims_after kept.rows kept.claims free) x ≡ false
  unclaimed_still x none = ap (λ (cs : List Claim). is_claimed cs x) claims_same ∙ none

  shown_still : (x : ℕ) → (IsUnjoined kept x → ⊥) → IsUnjoined (noted kept free) x → ⊥
  shown_still x may u =
      may (
        sym (ap (λ (cs : List Claim). is_claimed cs x) claims_same) ∙ u.0,
        sym (inbounds_kept x kept.pairs free) ∙ ap (list_any (λ (p : Pair). p.inbound == x)) (sym pairs_same) ∙ u.1,
      )

  passes_free : (event : Event) → Passes kept event → Passes (noted kept free) event
  passes_free (events.Incoming heard) may = (
    subst (AllByRecursion (λ (claim : Claim). claim.end < heard.end)) (sym claims_same) may.0,
    subst (AllByRecursion (λ (pair : Pair). pair.outbound ≢ heard.end)) (sym pairs_same)
        (other_out heard.end (outbound_change free) (change_inbound (inbound_change free) kept.pairs) (other_in heard.end (inbound_change free) kept.pairs may.1)),
  )
  passes_free (events.End x (tells.Accept options octets)) may = unclaimed_still x may
  passes_free (events.Data x octets) may = unclaimed_still x may
  passes_free (events.Expedite x octets) may = unclaimed_still x may
  passes_free (events.End x (tells.Window credit)) may = unclaimed_still x may
  passes_free (events.Disconnect x octets) may = unclaimed_still x may
  passes_free (events.End x (tells.Got octets)) may = shown_still x may
  passes_free (events.End x (tells.Urgent octets)) may = shown_still x may
  passes_free (events.Joined a b) may = absurd may
  passes_free event may = tt

passes_still : (ends : ℕ) (kept : Kept) (event made : Event) → IsMadeBy ends kept made → Passes kept event → named_by event ≤ ends → Passes (noted kept made) event
passes_still ends kept event (events.Joined i o) is may low = passes_joined ends kept i o is.0 is.1 event may low
passes_still ends kept event (events.Incoming heard) is may low = absurd is
passes_still ends kept event (events.End end (tells.Gone cause octets)) is may low = absurd is
passes_still ends kept event made is may low = passes_free kept made is event may

-- what was told, noted before an event of the line or behind it
pub record Moves (ends : ℕ) (kept : Kept) (event : Event) (made : List Event) : Type 0 where
  pub same : kept_after (noted kept event) made ≡ noted (kept_after kept made) event
  pub still : AreMadeBy ends (noted kept event) made
  pub passes : Passes (kept_after kept made) event

pub moved : (ends : ℕ) (kept : Kept) (event : Event) (made : List Event) → AreMadeBy ends kept made → Passes kept event → named_by event ≤ ends → Moves ends kept event made
moved ends kept event [] all may low = record { same = refl; still = tt; passes = may }
moved ends kept event (first ∷ made) all may low =
    let swap = made_swapped ends kept event first all.0 may low in
    let rest = moved ends (noted kept first) event made all.1 (passes_still ends kept event first all.0 may low) low in
    record {
      same = ap (λ (k : Kept). kept_after k made) swap ∙ rest.same;
      still = (made_still ends kept event first all.0 may low, subst (λ (k : Kept). AreMadeBy ends k made) (sym swap) rest.still);
      passes = rest.passes;
    }

pub made_more : (ends : ℕ) (kept : Kept) (made here : List Event) → AreMadeBy ends kept made → AreMadeBy ends (kept_after kept made) here → AreMadeBy ends kept (made ++ here)
made_more ends kept [] here all more = more
made_more ends kept (first ∷ made) here all more = (all.0, made_more ends (noted kept first) made here all.1 more)

pub kept_more : (kept : Kept) (made here : List Event) → kept_after kept (made ++ here) ≡ kept_after (kept_after kept made) here
kept_more kept [] here = refl
kept_more kept (first ∷ made) here = kept_more (noted kept first) made here

pub allowed_more : (kept : Kept) (made here : List Event) → AreAllowed kept made → AreAllowed (kept_after kept made) here → AreAllowed kept (made ++ here)
allowed_more kept [] here all more = more
allowed_more kept (first ∷ made) here all more = (all.0, allowed_more (noted kept first) made here all.1 more)

pub made_allowed : (ends : ℕ) (kept : Kept) (made : List Event) → AreMadeBy ends kept made → AreAllowed kept made
made_allowed ends kept [] all = tt
made_allowed ends kept (events.Joined i o ∷ made) all = ((all.0).0, made_allowed ends (noted kept (events.Joined i o)) made all.1)
made_allowed ends kept (events.Incoming heard ∷ made) all = absurd all.0
made_allowed ends kept (events.Data end octets ∷ made) all = absurd (all.0).0
made_allowed ends kept (events.Expedite end octets ∷ made) all = absurd (all.0).0
made_allowed ends kept (events.End end (tells.Got octets) ∷ made) all = absurd (all.0).0
made_allowed ends kept (events.End end (tells.Urgent octets) ∷ made) all = absurd (all.0).0
made_allowed ends kept (event ∷ made) all = (tt, made_allowed ends (noted kept event) made all.1)

pub made_fewer : (more ends : ℕ) (kept : Kept) (made : List Event) → ends ≤ more → AreMadeBy more kept made → AreMadeBy ends kept made
made_fewer more ends kept [] le all = tt
made_fewer more ends kept (events.Joined i o ∷ made) le all = (((all.0).0, (let h = (all.0).1 in omega (arith, h, le))), made_fewer more ends (noted kept (events.Joined i o)) made le all.1)
made_fewer more ends kept (events.Incoming heard ∷ made) le all = absurd all.0
made_fewer more ends kept (events.End end (tells.Gone cause octets) ∷ made) le all = absurd all.0
made_fewer more ends kept (event ∷ made) le all = (all.0, made_fewer more ends (noted kept event) made le all.1)

-- ---- the events of a line

module _ (kept : Kept) (t : IsTidy kept) where
  other_unclaimed : (end : ℕ) → owns kept end ≡ false → is_claimed kept.claims end ≡ false
  other_unclaimed end is = or_false (is_claimed kept.claims end) (list_any (λ (pair : Pair). pair.outbound == end) kept.pairs) is

  pub line_passes : (event : Event) → IsLine kept event → Passes kept event
  line_passes (events.Incoming heard) is = allowed_notable kept (events.Incoming heard) t is.0
  line_passes (events.End end (tells.Accept options octets)) is = other_unclaimed end is
  line_passes (events.Data end octets) is = other_unclaimed end is
  line_passes (events.Expedite end octets) is = other_unclaimed end is
  line_passes (events.End end (tells.Window credit)) is = other_unclaimed end is
  line_passes (events.Disconnect end octets) is = other_unclaimed end is
  line_passes (events.End end (tells.Got octets)) is = is.0
  line_passes (events.End end (tells.Urgent octets)) is = is.0
  line_passes (events.Joined inbound outbound) is = absurd is
  line_passes event is = tt

pub passes_notable : (kept : Kept) (event : Event) → Passes kept event → IsNotable kept event
passes_notable kept (events.Incoming heard) may = may
passes_notable kept (events.Joined inbound outbound) may = absurd may
passes_notable kept event may = tt
