-- What becomes of ends as a relay joins them: the end that it asked for waits for its confirmation, and an end of a pair may accept once the pair was opened
-- (X.214, model of the transport service).
use Rattle.std.proofs.Common.{◌≡◌, inl, inr, ℕ, suc, ◌+◌, ◌<◌, ◌≤◌, ◌==◌, ◌||◌, Bool, true, false, if◌then◌else◌, List, [], ◌∷◌, ◌++◌, length, map, Option, Some, None, refl, sym, ◌∙◌, ap, subst, arith}
use Rattle.std.specs.Prelude.{get_or}
use Rattle.std.specs.List.{AllByRecursion, list_any}
use Rattle.std.proofs.lemmas.Bool.{cases_eq, eq-eqb, false≢true}
use Rattle.osi_base.specs.Link.{Link}
use Rattle.osi_base.specs.Calls.{Call}
use Rattle.osi_base.proofs.Young.{all_last}
use Rattle.script_journal.specs.declared.cause.Refused.{Refused}
use Rattle.script_journal.specs.declared.event.Event.{Event}
use Rattle.script_journal.specs.declared.event.Event.TheVariants as events
use Rattle.tpdu.specs.declared.service.Options.{Options}
use Rattle.tp4_conn.specs.declared.call.ConnectRequest.{ConnectRequest}
use Rattle.tp4_conn.specs.declared.states.StateData.{StateData}
use Rattle.tp4_conn.specs.declared.states.StateData.TheVariants as stages
use Rattle.tp4_conn.specs.End.{End, Moved, end_of}
use Rattle.tp4_conn.specs.Making.{connected}
use Rattle.tp4_sending.specs.Pieces.{once}
use Rattle.tp4_entity.specs.declared.refusal.ConnectRefusal.{ConnectRefusal}
use Rattle.tp4_entity.specs.Entity.{Entity, at, end_at, with_end}
use Rattle.tp4_entity.specs.References.{least_free}
use Rattle.tp4_entity.specs.Step.{call_of, connect_refusal}
use Rattle.tp4_entity.proofs.Standings.{free_least}
use Rattle.tp4_world.specs.Run.{BeginsAt, Connects, ConnectsBy, IsRefused, clock_of}
use Rattle.tp4_world.specs.World.{World, entity_at, latest, with_entity}
use Rattle.tp4_world.specs.declared.place.EndAt.{EndAt}
use Rattle.tp4_world.specs.declared.place.Placed.{Placed}
use Rattle.tp4_world.proofs.Entities.{with_found}
use Rattle.law_tp4_lawful.proofs.MakesPlaces.{at_same, latest_other}
use Rattle.tp4_relay.specs.declared.pair.Pair.{Pair}
use Rattle.tp4_relay.specs.declared.pair.Phase.TheVariants.{Begun}
use Rattle.tp4_relay.specs.Allowed.{AreLine, IsLine}
use Rattle.tp4_relay.specs.Kept.{Kept, joined, kept_after, noted}
use Rattle.tp4_relay.specs.Pairs.{Opens, changed, outbound_changed, pairs_after}
use Rattle.tp4_relay.specs.Reaction.{outbound_pair}
use Rattle.tp4_relay.specs.steps.Rising.{IsRisingBy, inbound_of}
use Rattle.law_relay.proofs.Linking.{IsOpened}
use Rattle.law_relay.proofs.StageRows.{IsCalledWait, IsCallingWait}
use Rattle.law_relay.proofs.Waits.{KeepsPairs, PairWaits, after_pairs, each_mapped, has_claim, has_inbound, noted_named, opened_begun, outbound_keeps}
use Rattle.law_relay.proofs.Walks.{Linked, latest_low}
use Rattle.tpdu.specs.declared.service.EndTold.TheVariants as tells
use Rattle.tpdu.proofs.WriteLaws.{or_true}

-- ---- lists

front_none : {X : Type 0} (p : X → Bool) (xs : List X) (x : X) → list_any p (xs ++ x ∷ []) ≡ false → list_any p xs ≡ false
front_none p [] x is = refl
front_none p (y ∷ ys) x is = by (front_none p ys x) (p y) is
  where
    by : (list_any p (ys ++ x ∷ []) ≡ false → list_any p ys ≡ false) → (b : Bool) → (b || list_any p (ys ++ x ∷ [])) ≡ false → (b || list_any p ys) ≡ false
    by later true none = absurd (false≢true (sym none))
    by later false none = later none

all_at : {X : Type 0} (P : X → Type 0) (d : X) (xs : List X) → ((k : ℕ) → k < length xs → P (get_or xs k d)) → AllByRecursion P xs
all_at P d [] h = tt
all_at P d (x ∷ xs) h = (h 0 (omega arith), all_at P d xs (λ k low. h (suc k) (omega (arith, low))))

-- ---- two ends are joined

pub joined_linked : (entities : List Placed) (ends : List EndAt) (kept : Kept) (inbound outbound : ℕ) → Linked entities ends kept → outbound ≤ length ends → has_claim kept.claims inbound ≡ true
    → has_inbound kept.pairs inbound ≡ false
    → ((system r : ℕ) (e : Entity) (end : End) → entity_at entities system ≡ Some e → end_at e r ≡ Some end → latest ends system r ≡ outbound → IsCallingWait end.stage)
    → Linked entities ends (noted kept (events.Joined inbound outbound))
joined_linked entities ends kept inbound outbound l low has apart calls =
    let pair : Pair = joined kept.claims inbound outbound in
    record {
      named = noted_named kept (events.Joined inbound outbound) (length ends) l.named low;
      tidy = record {
        claims_low = l.tidy.claims_low;
        outbounds = all_last (λ (p : Pair). p.outbound ≤ length ends) kept.pairs pair l.tidy.outbounds low;
        inbounds = all_last (λ (p : Pair). has_claim kept.claims p.inbound ≡ true) kept.pairs pair l.tidy.inbounds has;
      };
      of = l.of;
      waits = λ system r e end is stands. (let w = l.waits system r e end is stands in record {
        unjoined = λ claimed out. w.unjoined claimed (front_none (λ (p : Pair). p.inbound == latest ends system r) kept.pairs pair out);
        paired = all_last (PairWaits (latest ends system r) end.stage) kept.pairs pair w.paired (λ begun. (
          λ same. w.unjoined (subst (λ (n : ℕ). has_claim kept.claims n ≡ true) same has) (subst (λ (n : ℕ). has_inbound kept.pairs n ≡ false) same apart),
          λ same. calls system r e end is stands (sym same),
        ));
      });
    }

-- ---- the end that a request makes

module _ {C : Type 0} (link : C → Link (List ℕ)) (steps : C → Call (List ℕ) → C → Type 0) where
  -- it waits for its confirmation
  abbrev pub IsAsking : World C → World C → Type 0
  IsAsking old new = (system r : ℕ) (e : Entity) (end : End) → entity_at new.entities system ≡ Some e → end_at e r ≡ Some end → latest new.ends system r ≡ length old.ends + 1 → IsCallingWait end.stage

  none_new : (old new : World C) → new ≡ old → IsAsking old new
  none_new old new same system r e end there stands number =
      absurd (let low = latest_low old.ends system r in let is : latest new.ends system r ≡ latest old.ends system r = ap (λ (w : World C). latest w.ends system r) same in omega (arith, low, is, number))

  begun_asks : (old new : World C) (made : List Event) (system : ℕ) (e : Entity) (request : ConnectRequest) (found : Option ℕ) → entity_at old.entities system ≡ Some e
      → least_free (clock_of link steps old) e ≡ found → BeginsAt link steps old system e request found made new → IsAsking old new
  begun_asks old new made system e request None there least s = absurd s
  begun_asks old new made system e request (Some reference) there least s =
      let now : ℕ = clock_of link steps old in
      let f = free_least now reference e least in
      let m : Moved = connected now (call_of e reference request) in
      let next : Entity = with_end (at now e) reference (Some (end_of m)) in
      let more : List EndAt = old.ends ++ record { system = system; reference = reference } ∷ [] in
      let a = s.1 in
      let mid : World C = record { carrier = a.below; entities = with_entity old.entities system next; ends = more } in
      let is : new ≡ mid = a.becomes in
      let elsewhere : (other r : ℕ) (stage : StateData) → (other ≡ system → r ≡ reference → ⊥) → latest more other r ≡ length old.ends + 1 → IsCallingWait stage =
      λ other r stage apart number. absurd (let same = latest_other old.ends system reference other r apart in let low = latest_low old.ends other r in omega (arith, same, low, number)) in
      subst (λ (w : World C). IsAsking old w) (sym is) (λ other r x end at_x stands number. elim (cases_eq other system) [
        | inl same ↦ elim (cases_eq r reference) [
          | inl here ↦
              let own : Some next ≡ Some x = sym (with_found old.entities system e next there) ∙ subst (λ (k : ℕ). entity_at (with_entity old.entities system next) k ≡ Some x) same at_x in
              let x_is : next ≡ x = cc own in
              let put : Some (end_of m) ≡ Some end =
              sym (at_same (at now e) reference (Some (end_of m)) f.least f.most) ∙ subst (λ (k : ℕ). end_at next k ≡ Some end) here (subst (λ (y : Entity). end_at y r ≡ Some end) (sym x_is) stands) in
              let end_is : end_of m ≡ end = cc put in
              subst (λ (y : End). IsCallingWait y.stage) end_is tt
          | inr apart ↦ elsewhere other r end.stage (λ same_system same_reference. apart same_reference) number
        ]
        | inr apart ↦ elsewhere other r end.stage (λ same_system same_reference. apart same_system) number
      ])

  refused_asks : (old new : World C) (made : List Event) (why : Option Refused) → IsRefused link steps old why made new → IsAsking old new
  refused_asks old new made None s = absurd s
  refused_asks old new made (Some why) s = none_new old new s.1

  by_asks : (old new : World C) (made : List Event) (system : ℕ) (e : Entity) (request : ConnectRequest) (why : Option ConnectRefusal) → entity_at old.entities system ≡ Some e
      → ConnectsBy link steps old system e request why made new → IsAsking old new
  by_asks old new made system e request (Some why) there s = refused_asks old new made _ s
  by_asks old new made system e request None there s = begun_asks old new made system e request (least_free (clock_of link steps old) e) there refl s

  pub connect_asks : (old new : World C) (made : List Event) (system : ℕ) (request : ConnectRequest) → Connects link steps old system request made new → IsAsking old new
  connect_asks old new made system request s = by_asks old new made system s.0 request (connect_refusal (clock_of link steps old) s.0 request.octets) s.1 s.2

-- ---- an end that may accept

abbrev AreOpened : List Pair → ℕ → Type 0
AreOpened pairs n = (has_inbound pairs n ≡ true) × AllByRecursion (λ (pair : Pair). pair.phase ≡ Begun → pair.inbound ≡ n → ⊥) pairs

-- where inbound ends rise, the one of a pair that is confirmed is of no other pair
found_above : (pairs : List Pair) (n end : ℕ) (pair : Pair) → AllByRecursion (λ (p : Pair). n < p.inbound) pairs → outbound_pair pairs end ≡ Some pair → n < pair.inbound
found_above [] n end pair all is = absurd (cc is)
found_above (p ∷ ps) n end pair all is = by (found_above ps n end pair all.1) (p.outbound == end) is
  where
    by : (outbound_pair ps end ≡ Some pair → n < pair.inbound) → (b : Bool) → (if b then Some p else outbound_pair ps end) ≡ Some pair → n < pair.inbound
    by later true found = let same : p ≡ pair = cc found in subst (λ (q : Pair). n < q.inbound) same all.0
    by later false found = later found

opened_pairs : (pairs : List Pair) (end : ℕ) (pair : Pair) → IsRisingBy inbound_of pairs → outbound_pair pairs end ≡ Some pair → AreOpened (map (outbound_changed end Opens) pairs) pair.inbound
opened_pairs [] end pair rise is = absurd (cc is)
opened_pairs (p ∷ ps) end pair rise is =
    by (opened_pairs ps end pair (λ i j d less low. rise (suc i) (suc j) d (omega (arith, less)) (omega (arith, low)))) (p.outbound == end) is
  where
    above : AllByRecursion (λ (q : Pair). p.inbound < q.inbound) ps
    above = all_at (λ (q : Pair). p.inbound < q.inbound) p ps (λ k low. rise 0 (suc k) p (omega arith) (omega (arith, low)))

    others : (n : ℕ) → p.inbound ≡ n → AllByRecursion (λ (q : Pair). q.phase ≡ Begun → q.inbound ≡ n → ⊥) (map (outbound_changed end Opens) ps)
    others n same = each_mapped (λ (q : Pair). p.inbound < q.inbound) (λ (q : Pair). q.phase ≡ Begun → q.inbound ≡ n → ⊥) (outbound_changed end Opens) ps
        (λ q less begun own. (let stays = (outbound_keeps end Opens).inbound q in omega (arith, less, own, stays, same))) above

    by : (outbound_pair ps end ≡ Some pair → AreOpened (map (outbound_changed end Opens) ps) pair.inbound) → (b : Bool) → (if b then Some p else outbound_pair ps end) ≡ Some pair
        → AreOpened ((if b then changed p Opens else p) ∷ map (outbound_changed end Opens) ps) pair.inbound
    by later true found =
        let same : p ≡ pair = cc found in
        let own : p.inbound ≡ pair.inbound = ap (λ (q : Pair). q.inbound) same in
        (ap (λ (b : Bool). b || has_inbound (map (outbound_changed end Opens) ps) pair.inbound) (eq-eqb p.inbound pair.inbound own), (λ begun is_own. opened_begun p.phase begun, others pair.inbound own))
    by later false found =
        let rest = later found in
        let less : p.inbound < pair.inbound = found_above ps p.inbound end pair above found in (
          or_true (p.inbound == pair.inbound) (has_inbound (map (outbound_changed end Opens) ps) pair.inbound) rest.0,
          (λ begun is_own. omega (arith, less, is_own), rest.1),
        )

-- an end whose pair is confirmed may accept
pub confirmed_opens : (kept : Kept) (end : ℕ) (options : Options) (octets : List ℕ) (pair : Pair) → IsRisingBy inbound_of kept.pairs → outbound_pair kept.pairs end ≡ Some pair
    → IsOpened (noted kept (events.End end (tells.Confirm options octets))) pair.inbound
confirmed_opens kept end options octets pair rise is = let o = opened_pairs kept.pairs end pair rise is in record { joined = o.0; begun = o.1 }

-- a state in which an end of a pair that has begun is the outbound one
abbrev asking : StateData
asking = stages.CrWait (record { octets = []; tries = once 0 })

-- and so it is after each event of a line
stays_opened : (pairs new : List Pair) (n : ℕ) → KeepsPairs pairs new → AreOpened pairs n → AreOpened new n
stays_opened pairs new n k o = (k.inbound n ∙ o.0, back new (k.waits n asking (forth pairs o.1)))
  where
    forth : (ps : List Pair) → AllByRecursion (λ (pair : Pair). pair.phase ≡ Begun → pair.inbound ≡ n → ⊥) ps → AllByRecursion (PairWaits n asking) ps
    forth [] all = tt
    forth (p ∷ ps) all = (λ begun. (λ own. absurd (all.0 begun own), λ own. tt), forth ps all.1)

    back : (ps : List Pair) → AllByRecursion (PairWaits n asking) ps → AllByRecursion (λ (pair : Pair). pair.phase ≡ Begun → pair.inbound ≡ n → ⊥) ps
    back [] all = tt
    back (p ∷ ps) all = (λ begun own. (all.0 begun).0 own, back ps all.1)

-- an event of a line joins no ends
abbrev pub JoinsNone : Event → Type 0
JoinsNone (events.Joined inbound outbound) = ⊥
JoinsNone event = Prim.Unit {0}

none_joined : (kept : Kept) (event : Event) → IsLine kept event → JoinsNone event
none_joined kept (events.Joined inbound outbound) line = line
none_joined kept event line = tt

pub line_joins : (count : ℕ) (kept : Kept) (line : List Event) → AreLine count kept line → AllByRecursion JoinsNone line
line_joins count kept [] all = tt
line_joins count kept (event ∷ line) all = (none_joined kept event all.0, line_joins count (noted kept event) line all.2)

noted_opened : (kept : Kept) (n : ℕ) (event : Event) → JoinsNone event → AreOpened kept.pairs n → AreOpened (noted kept event).pairs n
noted_opened kept n (events.Joined inbound outbound) line o = absurd line
noted_opened kept n event line o = stays_opened kept.pairs (pairs_after kept.pairs event) n (after_pairs kept.pairs event) o

pub line_opened : (kept : Kept) (n : ℕ) (line : List Event) → AllByRecursion JoinsNone line → IsOpened kept n → IsOpened (kept_after kept line) n
line_opened kept n [] all o = o
line_opened kept n (event ∷ line) all o =
    let next = noted_opened kept n event all.0 (o.joined, o.begun) in line_opened (noted kept event) n line all.1 (record { joined = next.0; begun = next.1 })
