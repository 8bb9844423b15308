-- What the state of an end must be by what a relay keeps: an end that was indicated at a row and is not joined yet did not accept, and the ends of a pair
-- that has begun were not accepted and not confirmed. Events keep that (X.214, model of the transport service).
use Rattle.std.proofs.Common.{◌≡◌, ℕ, ◌+◌, ◌<◌, ◌≤◌, ◌==◌, ◌||◌, Bool, true, false, List, [], ◌∷◌, ◌++◌, map, Option, Some, None, refl, sym, ◌∙◌, ap, subst, arith, if◌then◌else◌}
use Rattle.std.specs.List.{AllByRecursion, list_any}
use Rattle.std.proofs.lemmas.Bool.{eq-eqb, eqb-true, false≢true, ne_eqb}
use Rattle.osi_base.proofs.Members.{all_weaker as each}
use Rattle.script_journal.specs.declared.event.Event.{Event}
use Rattle.script_journal.specs.declared.event.Event.TheVariants as events
use Rattle.script_journal.specs.declared.event.Indication.{Indication}
use Rattle.tpdu.specs.declared.service.Options.{Options}
use Rattle.tp4_number.proofs.Past.{if_kept}
use Rattle.tp4_conn.specs.declared.states.InCrWait.{InCrWait}
use Rattle.tp4_conn.specs.declared.states.StateData.{StateData}
use Rattle.tp4_conn.specs.declared.states.StateData.TheVariants as stages
use Rattle.tp4_relay.specs.declared.claim.Claim.{Claim}
use Rattle.tp4_relay.specs.declared.pair.Heading.TheVariants.{On, Back}
use Rattle.tp4_relay.specs.declared.pair.Pair.{Pair}
use Rattle.tp4_relay.specs.declared.pair.Phase.{Phase}
use Rattle.tp4_relay.specs.declared.pair.Phase.TheVariants as phases
use Rattle.tp4_relay.specs.declared.row.RelayRow.{RelayRow}
use Rattle.tp4_relay.specs.Allowed.{MayShow, Shows}
use Rattle.tp4_relay.specs.Kept.{Kept, all_pairs_after, claimed, claims_after, lost, named_by, noted, owns, row_for}
use Rattle.tp4_relay.specs.Pairs.{Accepts, AtEnd, Change, Closes, Gives, Opens, Turns, Waits as WaitsFor, change_inbound, change_outbound, changed, inbound_change, inbound_changed, opened, outbound_change, outbound_changed, pairs_after}
use Rattle.law_relay.proofs.StageRows.{IsCalledWait, IsCallingWait, MayFollow}
use Rattle.tpdu.specs.declared.service.EndTold.TheVariants as tells

-- ---- what a state must be

abbrev pub PairWaits : ℕ → StateData → Pair → Type 0
PairWaits n stage pair = pair.phase ≡ phases.Begun → (pair.inbound ≡ n → IsCalledWait stage) × (pair.outbound ≡ n → IsCallingWait stage)

abbrev pub has_claim : List Claim → ℕ → Bool
has_claim claims n = list_any (λ (claim : Claim). claim.end == n) claims

abbrev pub has_inbound : List Pair → ℕ → Bool
has_inbound pairs n = list_any (λ (pair : Pair). pair.inbound == n) pairs

pub record Waits (claims : List Claim) (pairs : List Pair) (n : ℕ) (stage : StateData) : Type 0 where
  pub unjoined : has_claim claims n ≡ true → has_inbound pairs n ≡ false → IsCalledWait stage
  pub paired : AllByRecursion (PairWaits n stage) pairs

-- all that is kept names ends that were made, and the inbound end of a pair was indicated
pub record IsTidy (count : ℕ) (claims : List Claim) (pairs : List Pair) : Type 0 where
  pub claims_low : AllByRecursion (λ (claim : Claim). claim.end ≤ count) claims
  pub outbounds : AllByRecursion (λ (pair : Pair). pair.outbound ≤ count) pairs
  pub inbounds : AllByRecursion (λ (pair : Pair). has_claim claims pair.inbound ≡ true) pairs

-- ---- lists

pub each_mapped : {X : Type 0} (P Q : X → Type 0) (f : X → X) (xs : List X) → ((x : X) → P x → Q (f x)) → AllByRecursion P xs → AllByRecursion Q (map f xs)
each_mapped P Q f [] go all = tt
each_mapped P Q f (x ∷ xs) go all = (go x all.0, each_mapped P Q f xs go all.1)

any_mapped : {X : Type 0} (p : X → Bool) (f : X → X) (xs : List X) → ((x : X) → p (f x) ≡ p x) → list_any p (map f xs) ≡ list_any p xs
any_mapped p f [] same = refl
any_mapped p f (x ∷ xs) same = ap (λ (b : Bool). b || list_any p (map f xs)) (same x) ∙ ap (λ (b : Bool). p x || b) (any_mapped p f xs same)

-- ---- pairs

-- the ends of a pair stay, and none comes to begin
pub record KeepsEnds (f : Pair → Pair) : Type 0 where
  pub inbound : (pair : Pair) → (f pair).inbound ≡ pair.inbound
  pub outbound : (pair : Pair) → (f pair).outbound ≡ pair.outbound
  pub begun : (pair : Pair) → (f pair).phase ≡ phases.Begun → pair.phase ≡ phases.Begun

-- what holds of pairs goes on to hold
pub record KeepsPairs (old new : List Pair) : Type 0 where
  pub waits : (n : ℕ) (stage : StateData) → AllByRecursion (PairWaits n stage) old → AllByRecursion (PairWaits n stage) new
  pub inbound : (n : ℕ) → has_inbound new n ≡ has_inbound old n
  pub outbounds : (count : ℕ) → AllByRecursion (λ (pair : Pair). pair.outbound ≤ count) old → AllByRecursion (λ (pair : Pair). pair.outbound ≤ count) new
  pub inbounds : (claims : List Claim) → AllByRecursion (λ (pair : Pair). has_claim claims pair.inbound ≡ true) old → AllByRecursion (λ (pair : Pair). has_claim claims pair.inbound ≡ true) new

same_pairs : (pairs : List Pair) → KeepsPairs pairs pairs
same_pairs pairs = record { waits = λ n stage all. all; inbound = λ n. refl; outbounds = λ count all. all; inbounds = λ claims all. all }

then_pairs : (old mid new : List Pair) → KeepsPairs old mid → KeepsPairs mid new → KeepsPairs old new
then_pairs old mid new one two = record {
  waits = λ n stage all. two.waits n stage (one.waits n stage all);
  inbound = λ n. two.inbound n ∙ one.inbound n;
  outbounds = λ count all. two.outbounds count (one.outbounds count all);
  inbounds = λ claims all. two.inbounds claims (one.inbounds claims all);
}

mapped_pairs : (f : Pair → Pair) → KeepsEnds f → (pairs : List Pair) → KeepsPairs pairs (map f pairs)
mapped_pairs f k pairs = record {
  waits = λ n stage all. each_mapped (PairWaits n stage) (PairWaits n stage) f pairs
      (λ pair h begun. (λ is. (h (k.begun pair begun)).0 (sym (k.inbound pair) ∙ is), λ is. (h (k.begun pair begun)).1 (sym (k.outbound pair) ∙ is))) all;
  inbound = λ n. any_mapped (λ (pair : Pair). pair.inbound == n) f pairs (λ pair. ap (λ (m : ℕ). m == n) (k.inbound pair));
  outbounds = λ count all. each_mapped (λ (pair : Pair). pair.outbound ≤ count) (λ (pair : Pair). pair.outbound ≤ count) f pairs (λ pair low. subst (λ (m : ℕ). m ≤ count) (sym (k.outbound pair)) low) all;
  inbounds = λ claims all. each_mapped (λ (pair : Pair). has_claim claims pair.inbound ≡ true) (λ (pair : Pair). has_claim claims pair.inbound ≡ true) f pairs
      (λ pair has. subst (λ (m : ℕ). has_claim claims m ≡ true) (sym (k.inbound pair)) has) all;
}

changed_inbound : (change : Change) (pair : Pair) → (changed pair change).inbound ≡ pair.inbound
changed_inbound (WaitsFor On unit) pair = refl
changed_inbound (WaitsFor Back unit) pair = refl
changed_inbound (Gives On) pair = refl
changed_inbound (Gives Back) pair = refl
changed_inbound (Turns On) pair = refl
changed_inbound (Turns Back) pair = refl
changed_inbound other pair = refl

changed_outbound : (change : Change) (pair : Pair) → (changed pair change).outbound ≡ pair.outbound
changed_outbound (WaitsFor On unit) pair = refl
changed_outbound (WaitsFor Back unit) pair = refl
changed_outbound (Gives On) pair = refl
changed_outbound (Gives Back) pair = refl
changed_outbound (Turns On) pair = refl
changed_outbound (Turns Back) pair = refl
changed_outbound other pair = refl

pub opened_begun : (phase : Phase) → opened phase ≡ phases.Begun → ⊥
opened_begun phases.Begun is = cc
opened_begun other is = cc

changed_begun : (change : Change) (pair : Pair) → (changed pair change).phase ≡ phases.Begun → pair.phase ≡ phases.Begun
changed_begun Opens pair is = absurd (opened_begun pair.phase is)
changed_begun Accepts pair is = is
changed_begun Closes pair is = absurd (cc)
changed_begun (WaitsFor On unit) pair is = is
changed_begun (WaitsFor Back unit) pair is = is
changed_begun (Gives On) pair is = is
changed_begun (Gives Back) pair is = is
changed_begun (Turns On) pair is = is
changed_begun (Turns Back) pair is = is

inbound_keeps : (end : ℕ) (change : Change) → KeepsEnds (inbound_changed end change)
inbound_keeps end change = record {
  inbound = λ pair. if_kept (λ (p : Pair). p.inbound ≡ pair.inbound) (pair.inbound == end) _ _ (λ _. changed_inbound change pair) (λ _. refl);
  outbound = λ pair. if_kept (λ (p : Pair). p.outbound ≡ pair.outbound) (pair.inbound == end) _ _ (λ _. changed_outbound change pair) (λ _. refl);
  begun = λ pair. if_kept (λ (p : Pair). p.phase ≡ phases.Begun → pair.phase ≡ phases.Begun) (pair.inbound == end) _ _ (λ _. changed_begun change pair) (λ _ is. is);
}

pub outbound_keeps : (end : ℕ) (change : Change) → KeepsEnds (outbound_changed end change)
outbound_keeps end change = record {
  inbound = λ pair. if_kept (λ (p : Pair). p.inbound ≡ pair.inbound) (pair.outbound == end) _ _ (λ _. changed_inbound change pair) (λ _. refl);
  outbound = λ pair. if_kept (λ (p : Pair). p.outbound ≡ pair.outbound) (pair.outbound == end) _ _ (λ _. changed_outbound change pair) (λ _. refl);
  begun = λ pair. if_kept (λ (p : Pair). p.phase ≡ phases.Begun → pair.phase ≡ phases.Begun) (pair.outbound == end) _ _ (λ _. changed_begun change pair) (λ _ is. is);
}

inbound_pairs : (at : AtEnd) (pairs : List Pair) → KeepsPairs pairs (change_inbound at pairs)
inbound_pairs None pairs = same_pairs pairs
inbound_pairs (Some at) pairs = mapped_pairs (inbound_changed at.0 at.1) (inbound_keeps at.0 at.1) pairs

outbound_pairs : (at : AtEnd) (pairs : List Pair) → KeepsPairs pairs (change_outbound at pairs)
outbound_pairs None pairs = same_pairs pairs
outbound_pairs (Some at) pairs = mapped_pairs (outbound_changed at.0 at.1) (outbound_keeps at.0 at.1) pairs

pub after_pairs : (pairs : List Pair) (event : Event) → KeepsPairs pairs (pairs_after pairs event)
after_pairs pairs event =
    then_pairs pairs (change_inbound (inbound_change event) pairs) (pairs_after pairs event) (inbound_pairs (inbound_change event) pairs)
    (outbound_pairs (outbound_change event) (change_inbound (inbound_change event) pairs))

-- ---- claims

record KeepsClaims (old new : List Claim) : Type 0 where
  has : (n : ℕ) → has_claim new n ≡ has_claim old n
  low : (count : ℕ) → AllByRecursion (λ (claim : Claim). claim.end ≤ count) old → AllByRecursion (λ (claim : Claim). claim.end ≤ count) new

same_claims : (claims : List Claim) → KeepsClaims claims claims
same_claims claims = record { has = λ n. refl; low = λ count all. all }

lost_end : (end : ℕ) (claim : Claim) → (lost end claim).end ≡ claim.end
lost_end end claim = if_kept (λ (c : Claim). c.end ≡ claim.end) (claim.end == end) _ _ (λ _. refl) (λ _. refl)

lost_claims : (end : ℕ) (claims : List Claim) → KeepsClaims claims (map (lost end) claims)
lost_claims end claims = record {
  has = λ n. any_mapped (λ (claim : Claim). claim.end == n) (lost end) claims (λ claim. ap (λ (m : ℕ). m == n) (lost_end end claim));
  low = λ count all. each_mapped (λ (claim : Claim). claim.end ≤ count) (λ (claim : Claim). claim.end ≤ count) (lost end) claims (λ claim low. subst (λ (m : ℕ). m ≤ count) (sym (lost_end end claim)) low) all;
}

-- ---- an event that is no indication and no note

abbrev pub IsCommon : Event → Type 0
IsCommon (events.Incoming heard) = ⊥
IsCommon (events.Joined inbound outbound) = ⊥
IsCommon event = Prim.Unit {0}

common_claims : (rows : List RelayRow) (claims : List Claim) (event : Event) → IsCommon event → KeepsClaims claims (claims_after rows claims event)
common_claims rows claims (events.Incoming heard) is = absurd is
common_claims rows claims (events.End end (tells.Gone cause octets)) is = lost_claims end claims
common_claims rows claims event is = same_claims claims

common_pairs : (claims : List Claim) (pairs : List Pair) (event : Event) → IsCommon event → KeepsPairs pairs (all_pairs_after claims pairs event)
common_pairs claims pairs (events.Joined inbound outbound) is = absurd is
common_pairs claims pairs event is = after_pairs pairs event

waits_kept : (claims more : List Claim) (pairs next : List Pair) (n : ℕ) (stage : StateData) → KeepsClaims claims more → KeepsPairs pairs next → Waits claims pairs n stage → Waits more next n stage
waits_kept claims more pairs next n stage c p w = record {
  unjoined = λ claimed apart. w.unjoined (sym (c.has n) ∙ claimed) (sym (p.inbound n) ∙ apart);
  paired = p.waits n stage w.paired;
}

pub noted_waits : (kept : Kept) (event : Event) (n : ℕ) (stage : StateData) → IsCommon event → Waits kept.claims kept.pairs n stage → Waits (noted kept event).claims (noted kept event).pairs n stage
noted_waits kept event n stage is w =
    waits_kept kept.claims (noted kept event).claims kept.pairs (noted kept event).pairs n stage (common_claims kept.rows kept.claims event is) (common_pairs kept.claims kept.pairs event is) w

pub noted_tidy : (kept : Kept) (event : Event) (count : ℕ) → IsCommon event → IsTidy count kept.claims kept.pairs → IsTidy count (noted kept event).claims (noted kept event).pairs
noted_tidy kept event count is t =
    let c = common_claims kept.rows kept.claims event is in
    let p = common_pairs kept.claims kept.pairs event is in
    record {
      claims_low = c.low count t.claims_low;
      outbounds = p.outbounds count t.outbounds;
      inbounds = each (λ (pair : Pair). has_claim kept.claims pair.inbound ≡ true) (λ (pair : Pair). has_claim (noted kept event).claims pair.inbound ≡ true) (noted kept event).pairs
          (λ pair has. c.has pair.inbound ∙ has) (p.inbounds kept.claims t.inbounds);
    }

pub noted_named : (kept : Kept) (event : Event) (count : ℕ) → kept.named ≤ count → named_by event ≤ count → (noted kept event).named ≤ count
noted_named kept event count before now = omega (arith, before, now)

pub tidy_more : (count more : ℕ) (claims : List Claim) (pairs : List Pair) → count ≤ more → IsTidy count claims pairs → IsTidy more claims pairs
tidy_more count more claims pairs less t = record {
  claims_low = each (λ (claim : Claim). claim.end ≤ count) (λ (claim : Claim). claim.end ≤ more) claims (λ claim low. omega (arith, low, less)) t.claims_low;
  outbounds = each (λ (pair : Pair). pair.outbound ≤ count) (λ (pair : Pair). pair.outbound ≤ more) pairs (λ pair low. omega (arith, low, less)) t.outbounds;
  inbounds = t.inbounds;
}

-- ---- an indication

-- no end that was not made yet is kept
unclaimed : (claims : List Claim) (count n : ℕ) → count < n → AllByRecursion (λ (claim : Claim). claim.end ≤ count) claims → has_claim claims n ≡ false
unclaimed [] count n above all = refl
unclaimed (claim ∷ claims) count n above all =
    let low = all.0 in
    ap (λ (b : Bool). b || has_claim claims n) (ne_eqb claim.end n (λ is. omega (arith, low, above, is))) ∙ unclaimed claims count n above all.1

claimed_has : (claims : List Claim) (end : ℕ) (row : Option RelayRow) (n : ℕ) → (end ≡ n → ⊥) → has_claim (claims ++ claimed end row) n ≡ has_claim claims n
claimed_has [] end None n apart = refl
claimed_has [] end (Some row) n apart = ap (λ (b : Bool). b || false) (ne_eqb end n apart)
claimed_has (claim ∷ claims) end row n apart = ap (λ (b : Bool). (claim.end == n) || b) (claimed_has claims end row n apart)

more_by : (b : Bool) (claims more : List Claim) (claim : Claim) (n : ℕ) → (claim.end == n) ≡ b → (b || has_claim claims n) ≡ true → (has_claim claims n ≡ true → has_claim more n ≡ true)
    → ((claim.end == n) || has_claim more n) ≡ true
more_by true claims more claim n is h go = ap (λ (b : Bool). b || has_claim more n) is
more_by false claims more claim n is h go = ap (λ (b : Bool). b || has_claim more n) is ∙ go h

claimed_more : (claims : List Claim) (end : ℕ) (row : Option RelayRow) (n : ℕ) → has_claim claims n ≡ true → has_claim (claims ++ claimed end row) n ≡ true
claimed_more [] end row n has = absurd (false≢true has)
claimed_more (claim ∷ claims) end row n has =
    more_by (claim.end == n) claims (claims ++ claimed end row) claim n refl has (claimed_more claims end row n)

claimed_low : (claims : List Claim) (end count : ℕ) (row : Option RelayRow) → end ≤ count → AllByRecursion (λ (claim : Claim). claim.end ≤ count) claims → AllByRecursion (λ (claim : Claim). claim.end ≤ count) (claims ++ claimed end row)
claimed_low [] end count None low all = tt
claimed_low [] end count (Some row) low all = (low, tt)
claimed_low (claim ∷ claims) end count row low all = (all.0, claimed_low claims end count row low all.1)

-- another end waits as before
pub heard_waits : (kept : Kept) (heard : Indication) (n : ℕ) (stage : StateData) → (heard.end ≡ n → ⊥) → Waits kept.claims kept.pairs n stage
    → Waits (noted kept (events.Incoming heard)).claims (noted kept (events.Incoming heard)).pairs n stage
heard_waits kept heard n stage apart w = record {
  unjoined = λ has out. w.unjoined (sym (claimed_has kept.claims heard.end (row_for kept.rows heard) n apart) ∙ has) out;
  paired = w.paired;
}

-- the new one is one that was called
pub new_waits : (kept : Kept) (heard : Indication) (count : ℕ) (stage : StateData) → count < heard.end → IsTidy count kept.claims kept.pairs → IsCalledWait stage
    → Waits (noted kept (events.Incoming heard)).claims (noted kept (events.Incoming heard)).pairs heard.end stage
new_waits kept heard count stage above t is = record {
  unjoined = λ has out. is;
  paired = each (λ (pair : Pair). pair.outbound ≤ count) (PairWaits heard.end stage) kept.pairs (λ pair low begun. (λ same. is, λ same. absurd (omega (arith, low, above, same)))) t.outbounds;
}

pub heard_tidy : (kept : Kept) (heard : Indication) (count : ℕ) → heard.end ≤ count → IsTidy count kept.claims kept.pairs
    → IsTidy count (noted kept (events.Incoming heard)).claims (noted kept (events.Incoming heard)).pairs
heard_tidy kept heard count low t = record {
  claims_low = claimed_low kept.claims heard.end count (row_for kept.rows heard) low t.claims_low;
  outbounds = t.outbounds;
  inbounds = each (λ (pair : Pair). has_claim kept.claims pair.inbound ≡ true) (λ (pair : Pair). has_claim (noted kept (events.Incoming heard)).claims pair.inbound ≡ true) kept.pairs
      (λ pair has. claimed_more kept.claims heard.end (row_for kept.rows heard) pair.inbound has) t.inbounds;
}

-- ---- an end that was made by a request

-- it is no end of the relay yet
pub asking_waits : (count n : ℕ) (claims : List Claim) (pairs : List Pair) (stage : StateData) → count < n → IsTidy count claims pairs → Waits claims pairs n stage
asking_waits count n claims pairs stage above t = record {
  unjoined = λ has out. absurd (false≢true (sym (unclaimed claims count n above t.claims_low) ∙ has));
  paired = by pairs t.outbounds t.inbounds;
}
  where
    by : (ps : List Pair) → AllByRecursion (λ (pair : Pair). pair.outbound ≤ count) ps → AllByRecursion (λ (pair : Pair). has_claim claims pair.inbound ≡ true) ps → AllByRecursion (PairWaits n stage) ps
    by [] low has = tt
    by (pair ∷ ps) low has = (
      λ begun. (
        λ same. absurd (false≢true (sym (unclaimed claims count n above t.claims_low) ∙ subst (λ (m : ℕ). has_claim claims m ≡ true) same has.0)),
        λ same. absurd (let here = low.0 in omega (arith, here, above, same)),
      ),
      by ps low.1 has.1,
    )

-- ---- an end of a user

or_false : (a b : Bool) → (a || b) ≡ false → (a ≡ false) × (b ≡ false)
or_false true b is = absurd (false≢true (sym is))
or_false false b is = (refl, is)

-- it is none of the relay, so it may be in any state
pub free_waits : (count n : ℕ) (kept : Kept) (stage : StateData) → owns kept n ≡ false → IsTidy count kept.claims kept.pairs → Waits kept.claims kept.pairs n stage
free_waits count n kept stage free t = record {
  unjoined = λ has out. absurd (false≢true (sym none.0 ∙ has));
  paired = by kept.pairs none.1 t.inbounds;
}
  where
    none : (has_claim kept.claims n ≡ false) × (list_any (λ (pair : Pair). pair.outbound == n) kept.pairs ≡ false)
    none = or_false (has_claim kept.claims n) (list_any (λ (pair : Pair). pair.outbound == n) kept.pairs) free

    by : (ps : List Pair) → list_any (λ (pair : Pair). pair.outbound == n) ps ≡ false → AllByRecursion (λ (pair : Pair). has_claim kept.claims pair.inbound ≡ true) ps → AllByRecursion (PairWaits n stage) ps
    by [] out has = tt
    by (pair ∷ ps) out has =
        let first = or_false (pair.outbound == n) (list_any (λ (p : Pair). p.outbound == n) ps) out in (
          λ begun. (
            λ same. absurd (false≢true (sym none.0 ∙ subst (λ (m : ℕ). has_claim kept.claims m ≡ true) same has.0)),
            λ same. absurd (false≢true (sym first.0 ∙ eq-eqb pair.outbound n same)),
          ),
          by ps first.1 has.1,
        )

-- ---- an end that is confirmed

confirmed_pair : (n : ℕ) (w : InCrWait) (stage : StateData) (pair : Pair) → PairWaits n (stages.CrWait w) pair → PairWaits n stage (outbound_changed n Opens pair)
confirmed_pair n w stage pair h = by (pair.outbound == n) refl
  where
    by : (b : Bool) → (pair.outbound == n) ≡ b → PairWaits n stage (if b then changed pair Opens else pair)
    by true is = λ begun. absurd (opened_begun pair.phase begun)
    by false is = λ begun. (λ same. absurd ((h begun).0 same), λ same. absurd (false≢true (sym is ∙ eq-eqb pair.outbound n same)))

pub confirmed_waits : (kept : Kept) (n : ℕ) (options : Options) (octets : List ℕ) (w : InCrWait) (stage : StateData) → Waits kept.claims kept.pairs n (stages.CrWait w)
    → Waits (noted kept (events.End n (tells.Confirm options octets))).claims (noted kept (events.End n (tells.Confirm options octets))).pairs n stage
confirmed_waits kept n options octets w stage h = record {
  unjoined = λ has out. absurd (h.unjoined has (sym (any_mapped (λ (pair : Pair). pair.inbound == n) (outbound_changed n Opens) kept.pairs (λ pair. ap (λ (m : ℕ). m == n) ((outbound_keeps n Opens).inbound pair))) ∙ out));
  paired = each_mapped (PairWaits n (stages.CrWait w)) (PairWaits n stage) (outbound_changed n Opens) kept.pairs (λ pair. confirmed_pair n w stage pair) h.paired;
}

-- ---- an open end

abbrev pub IsOpenStage : StateData → Type 0
IsOpenStage (stages.AkWait w) = Prim.Unit {0}
IsOpenStage (stages.Opened o) = Prim.Unit {0}
IsOpenStage stage = ⊥

not_called : (stage : StateData) → IsOpenStage stage → IsCalledWait stage → ⊥
not_called (stages.AkWait w) is waits = waits
not_called (stages.Opened o) is waits = waits
not_called other is waits = is

not_calling : (stage : StateData) → IsOpenStage stage → IsCallingWait stage → ⊥
not_calling (stages.AkWait w) is waits = waits
not_calling (stages.Opened o) is waits = waits
not_calling other is waits = is

-- it is no end that has to wait, so any state may follow
pub open_waits : (claims : List Claim) (pairs : List Pair) (n : ℕ) (stage new : StateData) → IsOpenStage stage → Waits claims pairs n stage → Waits claims pairs n new
open_waits claims pairs n stage new is w = record {
  unjoined = λ has out. absurd (not_called stage is (w.unjoined has out));
  paired = each (PairWaits n stage) (PairWaits n new) pairs (λ pair h begun. (λ same. absurd (not_called stage is ((h begun).0 same)), λ same. absurd (not_calling stage is ((h begun).1 same)))) w.paired;
}

-- and it may show units
pub open_shows : (kept : Kept) (n : ℕ) (stage : StateData) → IsOpenStage stage → Waits kept.claims kept.pairs n stage → Shows kept n
open_shows kept n stage is w = (
  λ unjoined. not_called stage is (w.unjoined unjoined.0 unjoined.1),
  each (PairWaits n stage) (MayShow n) kept.pairs
      (λ pair h. (λ same begun. not_called stage is ((h begun).0 (eqb-true pair.inbound n same)), λ same begun. not_calling stage is ((h begun).1 (eqb-true pair.outbound n same)))) w.paired,
)

-- ---- the state that may follow

called_waits : (claims : List Claim) (pairs : List Pair) (n : ℕ) (stage new : StateData) → (IsCallingWait stage → ⊥) → IsCalledWait new → Waits claims pairs n stage → Waits claims pairs n new
called_waits claims pairs n stage new none is w = record {
  unjoined = λ has out. is;
  paired = each (PairWaits n stage) (PairWaits n new) pairs (λ pair h begun. (λ same. is, λ same. absurd (none ((h begun).1 same)))) w.paired;
}

calling_waits : (claims : List Claim) (pairs : List Pair) (n : ℕ) (stage new : StateData) → (IsCalledWait stage → ⊥) → IsCallingWait new → Waits claims pairs n stage → Waits claims pairs n new
calling_waits claims pairs n stage new none is w = record {
  unjoined = λ has out. absurd (none (w.unjoined has out));
  paired = each (PairWaits n stage) (PairWaits n new) pairs (λ pair h begun. (λ same. absurd (none ((h begun).0 same)), λ same. is)) w.paired;
}

done_waits : (claims : List Claim) (pairs : List Pair) (n : ℕ) (stage new : StateData) → IsCalledWait new → IsCallingWait new → Waits claims pairs n stage → Waits claims pairs n new
done_waits claims pairs n stage new called calling w = record {
  unjoined = λ has out. called;
  paired = each (PairWaits n stage) (PairWaits n new) pairs (λ pair h begun. (λ same. called, λ same. calling)) w.paired;
}

pub follows_waits : (claims : List Claim) (pairs : List Pair) (n : ℕ) (stage new : StateData) → MayFollow stage new → Waits claims pairs n stage → Waits claims pairs n new
follows_waits claims pairs n (stages.UserWait since) new may w = called_waits claims pairs n (stages.UserWait since) new (λ is. is) may w
follows_waits claims pairs n (stages.CrWait c) new may w = calling_waits claims pairs n (stages.CrWait c) new (λ is. is) may w
follows_waits claims pairs n (stages.WaitBeforeClose c) new may w = calling_waits claims pairs n (stages.WaitBeforeClose c) new (λ is. is) may w
follows_waits claims pairs n (stages.Closing c) new may w = done_waits claims pairs n (stages.Closing c) new may.0 may.1 w
follows_waits claims pairs n (stages.Frozen c) new may w = done_waits claims pairs n (stages.Frozen c) new may.0 may.1 w
follows_waits claims pairs n (stages.AkWait c) new may w = open_waits claims pairs n (stages.AkWait c) new tt w
follows_waits claims pairs n (stages.Opened c) new may w = open_waits claims pairs n (stages.Opened c) new tt w
