-- An event is noted in the parts of a table, one by one: the parts together are what is kept then, and stay tied.
use Rattle.std.proofs.Common.{◌≡◌, ◌⊎◌, inl, inr, ℕ, suc, max, Bool, true, false, List, [], ◌∷◌, ◌++◌, Some, None, Result, Ok, Err, refl, sym, ◌∙◌, ap, subst, arith}
use Rattle.std.specs.Prelude.{if◌then◌else◌}
use Rattle.std.specs.Result.{OnErr, OnOk}
use Rattle.script_journal.specs.declared.event.Event.{Event}
use Rattle.script_journal.specs.declared.event.Event.TheVariants as events
use Rattle.script_journal.specs.declared.event.Indication.{Indication}
use Rattle.tp4_relay.specs.declared.claim.Claim.{Claim}
use Rattle.tp4_relay.specs.declared.pair.Heading.TheVariants.{On, Back}
use Rattle.tp4_relay.specs.declared.pair.Pair.{Pair}
use Rattle.tp4_relay.specs.declared.reaction.Reaction.TheVariants.{Nothing}
use Rattle.tp4_relay.specs.declared.row.RelayRow.{RelayRow}
use Rattle.tp4_relay.specs.declared.unit.MarkedUnit.{MarkedUnit}
use Rattle.tp4_relay.specs.Kept.{Kept, all_pairs_after, claims_after, first_phase, is_lost, joined, named_by, noted}
use Rattle.tp4_relay.specs.Pairs.{AtEnd, Waits, change_inbound, change_outbound, is_open, open_places, pairs_after, places_from}
use Rattle.tp4_relay.specs.Reaction.{reaction}
use Rattle.tp4_relay.specs.steps.Tables.{IsNotable, IsTidy, IsTidyBy}
use Rattle.tp4_relay.proofs.OpenPlaces.{places_both, places_inbound}
use Rattle.tp4_relay.proofs.Tidy.{tidy_in, tidy_more, tidy_named}
use Rattle.tpdu.specs.declared.service.EndTold.{EndTold}

pub on_ok : {A E : Type 0} (r : Result A E) (P Q : Type 0) → (P → Q) → OnOk r P → OnOk r Q
on_ok (Ok x) P Q f h = f h
on_ok (Err e) P Q f h = tt

pub on_err_too : {A E : Type 0} (r : Result A E) (P Q : Type 0) → (P → Q) → OnErr r P → OnErr r Q
on_err_too (Ok x) P Q f h = tt
on_err_too (Err e) P Q f h = f h

-- a fact that holds either way
pub on_both : {A E : Type 0} (r : Result A E) (P Q R : Type 0) → (P → R) → (Q → R) → OnOk r P → OnErr r Q → R
on_both (Ok x) P Q R f g h k = f h
on_both (Err e) P Q R f g h k = g k

pub kept_is : (kept : Kept) (event : Event) (named : ℕ) (claims : List Claim) (pairs : List Pair) → named ≡ max kept.named (named_by event) → claims ≡ claims_after kept.rows kept.claims event
    → pairs ≡ all_pairs_after kept.claims kept.pairs event → record kept { named = named; claims = claims; pairs = pairs } ≡ noted kept event
kept_is kept event named claims pairs n c p = λ i. record { rows = kept.rows; rules = kept.rules; named = n i; claims = c i; pairs = p i }

pub tidy_is : (kept : Kept) (event : Event) (named : ℕ) (claims : List Claim) (pairs : List Pair) → IsTidy kept → IsNotable kept event → named ≡ max kept.named (named_by event)
    → claims ≡ claims_after kept.rows kept.claims event → pairs ≡ all_pairs_after kept.claims kept.pairs event → IsTidyBy claims pairs named
tidy_is kept event named claims pairs tidy may n c p = subst IsTidy (sym (kept_is kept event named claims pairs n c p)) (tidy_more kept event tidy may)

-- a greater end is named, and pairs are changed in part
pub tidy_part : (kept : Kept) (event : Event) (named : ℕ) (claims : List Claim) (pairs : List Pair) → IsTidyBy claims kept.pairs kept.named → named ≡ max kept.named (named_by event) → (at : AtEnd) × (pairs ≡ change_inbound at kept.pairs)
    → IsTidyBy claims pairs named
tidy_part kept event named claims pairs tidy n part =
    subst (λ (ps : List Pair). IsTidyBy claims ps named) (sym part.1) (tidy_in part.0 kept.pairs claims named (tidy_named claims kept.pairs kept.named named (omega (arith, n)) tidy))

-- an event that neither makes an end nor is told by one
pub claims_stay : (rows : List RelayRow) (claims : List Claim) (event : Event) → ((heard : Indication) → event ≡ events.Incoming heard → ⊥) → ((end : ℕ) (what : EndTold) → event ≡ events.End end what → ⊥)
    → claims ≡ claims_after rows claims event
claims_stay rows claims (events.Incoming heard) not_incoming not_end = absurd (not_incoming heard refl)
claims_stay rows claims (events.End end what) not_incoming not_end = absurd (not_end end what refl)
claims_stay rows claims event not_incoming not_end = refl

pub pairs_change : (claims : List Claim) (pairs : List Pair) (event : Event) → ((inbound outbound : ℕ) → event ≡ events.Joined inbound outbound → ⊥) → pairs_after pairs event ≡ all_pairs_after claims pairs event
pairs_change claims pairs (events.Joined inbound outbound) none = absurd (none inbound outbound refl)
pairs_change claims pairs event none = refl

-- a pair that is joined is not open
places_last : (n : ℕ) (pairs : List Pair) (pair : Pair) → is_open pair.phase ≡ false → places_from n pairs ≡ places_from n (pairs ++ pair ∷ [])
places_last n [] pair shut = sym (ap (λ (b : Bool). if b then n ∷ [] else []) shut)
places_last n (first ∷ pairs) pair shut = ap (λ (places : List ℕ). if is_open first.phase then n ∷ places else places) (places_last (suc n) pairs pair shut)

first_shut : (b : Bool) → is_open (first_phase b) ≡ false
first_shut true = refl
first_shut false = refl

pub joined_places : (claims : List Claim) (pairs : List Pair) (inbound outbound : ℕ) → open_places pairs ≡ open_places (pairs ++ joined claims inbound outbound ∷ [])
joined_places claims pairs inbound outbound = places_last 0 pairs (joined claims inbound outbound) (first_shut (is_lost claims inbound))

-- another event names no end
pub named_none : (event : Event) → ((heard : Indication) → event ≡ events.Incoming heard → ⊥) → ((inbound outbound : ℕ) → event ≡ events.Joined inbound outbound → ⊥) → ((end : ℕ) (what : EndTold) → event ≡ events.End end what → ⊥)
    → ((end : ℕ) (octets : List ℕ) → event ≡ events.Data end octets → ⊥) → ((end : ℕ) (octets : List ℕ) → event ≡ events.Expedite end octets → ⊥) → ((end : ℕ) (octets : List ℕ) → event ≡ events.Refuse end octets → ⊥) → ((end : ℕ) (octets : List ℕ) → event ≡ events.Disconnect end octets → ⊥) → 0 ≡ named_by event
named_none (events.Incoming heard) not_incoming not_joined not_end not_data not_expedite not_refuse not_disconnect = absurd (not_incoming heard refl)
named_none (events.Joined inbound outbound) not_incoming not_joined not_end not_data not_expedite not_refuse not_disconnect = absurd (not_joined inbound outbound refl)
named_none (events.End end what) not_incoming not_joined not_end not_data not_expedite not_refuse not_disconnect = absurd (not_end end what refl)
named_none (events.Data end octets) not_incoming not_joined not_end not_data not_expedite not_refuse not_disconnect = absurd (not_data end octets refl)
named_none (events.Expedite end octets) not_incoming not_joined not_end not_data not_expedite not_refuse not_disconnect = absurd (not_expedite end octets refl)
named_none (events.Refuse end octets) not_incoming not_joined not_end not_data not_expedite not_refuse not_disconnect = absurd (not_refuse end octets refl)
named_none (events.Disconnect end octets) not_incoming not_joined not_end not_data not_expedite not_refuse not_disconnect = absurd (not_disconnect end octets refl)
named_none event not_incoming not_joined not_end not_data not_expedite not_refuse not_disconnect = refl

-- another event changes no pair
pub pairs_none : (pairs : List Pair) (event : Event) → ((end : ℕ) (what : EndTold) → event ≡ events.End end what → ⊥) → ((end : ℕ) (octets : List ℕ) → event ≡ events.Data end octets → ⊥) → ((end : ℕ) (octets : List ℕ) → event ≡ events.Expedite end octets → ⊥) → ((end : ℕ) (octets : List ℕ) → event ≡ events.Disconnect end octets → ⊥) → pairs ≡ pairs_after pairs event
pairs_none pairs (events.End end what) not_end not_data not_expedite not_disconnect = absurd (not_end end what refl)
pairs_none pairs (events.Data end octets) not_end not_data not_expedite not_disconnect = absurd (not_data end octets refl)
pairs_none pairs (events.Expedite end octets) not_end not_data not_expedite not_disconnect = absurd (not_expedite end octets refl)
pairs_none pairs (events.Disconnect end octets) not_end not_data not_expedite not_disconnect = absurd (not_disconnect end octets refl)
pairs_none pairs event not_end not_data not_expedite not_disconnect = refl

-- about another event nothing is done
pub nothing_done : (kept : Kept) (event : Event) → ((heard : Indication) → event ≡ events.Incoming heard → ⊥) → ((end : ℕ) (what : EndTold) → event ≡ events.End end what → ⊥) → Nothing ≡ reaction kept event
nothing_done kept (events.Incoming heard) not_incoming not_end = absurd (not_incoming heard refl)
nothing_done kept (events.End end what) not_incoming not_end = absurd (not_end end what refl)
nothing_done kept event not_incoming not_end = refl

-- ---- a unit comes to wait, or there is no memory for it

module _ {A E : Type 0} (r : Result A E) (pairs now : List Pair) (end : ℕ) (unit : MarkedUnit) (err : OnErr r ((now ≡ pairs) ⊎ (now ≡ change_inbound (Some (end, Waits On unit)) pairs))) where
  partly : (now ≡ pairs) ⊎ (now ≡ change_inbound (Some (end, Waits On unit)) pairs) → (at : AtEnd) × (now ≡ change_inbound at pairs)
  partly (inl same) = (None, same)
  partly (inr first) = (Some (end, Waits On unit), first)

  pub waits_part : OnErr r ((at : AtEnd) × (now ≡ change_inbound at pairs))
  waits_part = on_err_too r ((now ≡ pairs) ⊎ (now ≡ change_inbound (Some (end, Waits On unit)) pairs)) ((at : AtEnd) × (now ≡ change_inbound at pairs)) partly err

  still : (now ≡ pairs) ⊎ (now ≡ change_inbound (Some (end, Waits On unit)) pairs) → open_places pairs ≡ open_places now
  still (inl same) = ap open_places (sym same)
  still (inr first) = places_inbound pairs end (Waits On unit) tt ∙ ap open_places (sym first)

  pub waits_places : OnOk r (now ≡ change_outbound (Some (end, Waits Back unit)) (change_inbound (Some (end, Waits On unit)) pairs)) → open_places pairs ≡ open_places now
  waits_places ok =
      on_both r (now ≡ change_outbound (Some (end, Waits Back unit)) (change_inbound (Some (end, Waits On unit)) pairs)) ((now ≡ pairs) ⊎ (now ≡ change_inbound (Some (end, Waits On unit)) pairs))
      (open_places pairs ≡ open_places now) (λ both. (places_both pairs end (Waits On unit) (Waits Back unit) tt tt ∙ ap open_places (sym both))) still ok err
