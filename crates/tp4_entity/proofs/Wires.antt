-- Whatever an entity looks at is the same in its ends as they stand on the wire, and each of them moves as its end does.
use Rattle.std.proofs.Common.{◌≡◌, ◌&&◌, ◌||◌, not, nat_lt, ℕ, zero, suc, ◌+◌, ◌-◌, Bool, true, false, cond, List, [], ◌∷◌, ◌++◌, length, map, slice_get, slice_set, option_map, Option, Some, None, refl, sym, ap, subst, ◌∙◌, arith}
use Rattle.std.specs.List.{list_any, position, position_or_len}
use Rattle.std.specs.Cmp.Lexicographic.{pointwise}
use Rattle.std.specs.Prelude.{nat_eq}
use Rattle.tpdu.specs.Values.{TpduAndSum}
use Rattle.tpdu.specs.declared.tpdu.Tpdu.{Tpdu}
use Rattle.tpdu.specs.declared.tpdu.Tpdu.TheVariants.{Cr, Cc, Dr, Dc, Dt, Ed, Ak, Ea, Er}
use Rattle.tp4_number.specs.Number.{whole, wire}
use Rattle.tp4_conn.specs.declared.end_record.EndRecord.{EndRecord}
use Rattle.tp4_conn.specs.declared.call.ConnectRequest.{ConnectRequest}
use Rattle.tp4_conn.specs.declared.call.UserCall.{UserCall}
use Rattle.tp4_conn.specs.declared.states.StateData.{StateData}
use Rattle.tp4_conn.specs.declared.states.StateData.TheVariants.{CrWait}
use Rattle.tp4_conn.specs.End.{End, Moved, agreed_format, end_of, frozen_for}
use Rattle.tp4_conn.specs.Making.{connected}
use Rattle.tp4_conn.specs.Matching.{fits, is_called_by, is_match}
use Rattle.tp4_conn.specs.Table.{Called, Event, Ticked, Took, due, stepped}
use Rattle.tp4_conn.specs.Wire.{end_on_wire, stage_on_wire}
use Rattle.tp4_conn.proofs.Wires.{on_the_wire}
use Rattle.tp4_entity.specs.Association.{is_called, is_frozen, is_registered, met, met_by, new_end, answers, refusal, requested, unmatched}
use Rattle.tp4_entity.specs.Entity.{Acted, Entity, at, end_at, moved, there, with_end}
use Rattle.tp4_entity.specs.References.{is_free_place, least_free, was_frozen}
use Rattle.tp4_entity.specs.Step.{call_of, calling, calling_end, connecting, first_due, is_due, is_due_by, kept_end, ticked_to, ticking, ticking_at, ticking_end}
use Rattle.tp4_entity.specs.Silence.{is_silent}
use Rattle.tp4_entity.specs.Unit.{EndsWith, HearsUnit, TakesBy, TakesUnit, Separates, all_met, extended_from, extended_of, followed, listed_if}
use Rattle.tp4_entity.specs.Wire.{acted_on_wire, entity_on_wire}
use Rattle.tp4_entity.proofs.PlaceLaws.{Place, end_at_of}

-- a place as it stands on the wire
abbrev pub on : Place → Place
on place = option_map end_on_wire place

-- ---- what is looked at

due_on : (b : EndRecord) (stage : StateData) → due b (stage_on_wire stage) ≡ due b stage
due_on b (CrWait w) = refl
due_on b stage = refl

pub fits_on : (b : EndRecord) (stage : StateData) (tpdu : Tpdu) → fits b (stage_on_wire stage) tpdu ≡ fits b stage tpdu
fits_on b (CrWait w) tpdu = refl
fits_on b stage tpdu = refl

pub frozen_on : (stage : StateData) → is_frozen (stage_on_wire stage) ≡ is_frozen stage
frozen_on (CrWait w) = refl
frozen_on stage = refl

was_frozen_on : (now ticks : ℕ) (stage : StateData) → was_frozen now ticks (stage_on_wire stage) ≡ was_frozen now ticks stage
was_frozen_on now ticks (CrWait w) = refl
was_frozen_on now ticks stage = refl

pub free_on : (now : ℕ) (place : Place) → is_free_place now (on place) ≡ is_free_place now place
free_on now None = refl
free_on now (Some end) = was_frozen_on now (frozen_for end.base.timers) end.stage

is_due_on : (now : ℕ) (place : Place) → is_due now (on place) ≡ is_due now place
is_due_on now None = refl
is_due_on now (Some end) = ap (is_due_by now) (due_on end.base end.stage)

called_on : (frozen : Bool) (from : List ℕ) (reference : ℕ) (place : Place) → is_called frozen from reference (on place) ≡ is_called frozen from reference place
called_on frozen from reference None = refl
called_on true from reference (Some end) = ap (λ (b : Bool). is_called_by end.base from reference && b) (frozen_on end.stage)
called_on false from reference (Some end) = ap (λ (b : Bool). is_called_by end.base from reference && not b) (frozen_on end.stage)

any_on : (test : Place → Bool) (places : List Place) → ((place : Place) → test (on place) ≡ test place) → list_any test (map on places) ≡ list_any test places
any_on test [] same = refl
any_on test (place ∷ places) same = λ i. same place i || any_on test places same i

first_on : (test : Place → Bool) (places : List Place) → ((place : Place) → test (on place) ≡ test place) → position_or_len test (map on places) ≡ position_or_len test places
first_on test [] same = refl
first_on test (place ∷ places) same = λ i. cond (not (same place i)) (1 + first_on test places same i) 0

pub map_length : (places : List Place) → length (map on places) ≡ length places
map_length [] = refl
map_length (place ∷ places) = ap suc (map_length places)

position_on : (test : Place → Bool) (places : List Place) → ((place : Place) → test (on place) ≡ test place) → position test (map on places) ≡ position test places
position_on test places same = λ i. cond (nat_lt (first_on test places same i) (map_length places i)) (Some (first_on test places same i)) None

pub least_on : (now : ℕ) (e : Entity) → least_free now (entity_on_wire e) ≡ least_free now e
least_on now e = ap (option_map (λ place. place + 1)) (position_on (is_free_place now) e.ends (free_on now))

pub first_due_on : (now : ℕ) (e : Entity) → first_due now (entity_on_wire e) ≡ first_due now e
first_due_on now e = ap (option_map (λ place. place + 1)) (position_on (is_due now) e.ends (is_due_on now))

pub listed_on : (from : ℕ) (places : List Place) → extended_from from (map on places) ≡ extended_from from places
listed_on from [] = refl
listed_on from (None ∷ places) = listed_on (from + 1) places
listed_on from (Some end ∷ places) = ap (listed_if (agreed_format end.base.agreed) from) (listed_on (from + 1) places)

-- ---- places

get_on : (places : List Place) (k : ℕ) → there (slice_get (map on places) k) ≡ on (there (slice_get places k))
get_on [] k = refl
get_on (place ∷ places) zero = refl
get_on (place ∷ places) (suc k) = get_on places k

pub end_on : (e : Entity) (reference : ℕ) → end_at (entity_on_wire e) reference ≡ on (end_at e reference)
end_on e zero = refl
end_on e (suc k) = end_at_of (entity_on_wire e) (suc k) k (omega arith) ∙ get_on e.ends k ∙ ap on (sym (end_at_of e (suc k) k (omega arith)))

set_on : (places : List Place) (k : ℕ) (place : Place) → slice_set (map on places) k (on place) ≡ map on (slice_set places k place)
set_on [] k place = refl
set_on (one ∷ places) zero place = refl
set_on (one ∷ places) (suc k) place = ap (λ (ps : List Place). on one ∷ ps) (set_on places k place)

with_on : (e : Entity) (reference : ℕ) (place : Place) → with_end (entity_on_wire e) reference (on place) ≡ entity_on_wire (with_end e reference place)
with_on e reference place = ap (λ (ps : List Place). record e { ends = ps }) (set_on e.ends (reference - 1) place)

-- the same move, at the end as it stands on the wire
record Same (m lower : Moved) : Type 0 where
  base : lower.base ≡ m.base
  stage : lower.stage ≡ stage_on_wire m.stage
  events : lower.events ≡ m.events
  tpdus : lower.tpdus ≡ m.tpdus

step_on : (now : ℕ) (e : End) (event : Event) → Same (stepped whole now e event) (stepped wire now (end_on_wire e) event)
step_on now e event =
    let m = stepped whole now e event in
    let s = on_the_wire e event now (end_of m) m.events m.tpdus (record { base = refl; stage = refl; events_are = refl; tpdus_are = refl }) in
    record { base = sym s.base; stage = sym s.stage; events = sym s.events_are; tpdus = sym s.tpdus_are }

placed_on : (e : Entity) (reference : ℕ) (place lower : Place) (m other : Moved) → lower ≡ on place → other.events ≡ m.events → other.tpdus ≡ m.tpdus
    → record { entity = with_end (entity_on_wire e) reference lower; events = other.events; tpdus = other.tpdus }
    ≡ acted_on_wire (record { entity = with_end e reference place; events = m.events; tpdus = m.tpdus })
placed_on e reference place lower m other same events tpdus = λ i. record {
  entity = (ap (with_end (entity_on_wire e) reference) same ∙ with_on e reference place) i;
  events = events i;
  tpdus = tpdus i;
}

moved_on : (e : Entity) (reference : ℕ) (m lower : Moved) → Same m lower → moved (entity_on_wire e) reference lower ≡ acted_on_wire (moved e reference m)
moved_on e reference m lower same =
    placed_on e reference (Some (end_of m)) (Some (end_of lower)) m lower (λ i. Some (record { base = same.base i; stage = same.stage i })) same.events same.tpdus

-- ---- calls

pub connecting_on : (now reference : ℕ) (e : Entity) (request : ConnectRequest) → connecting now (entity_on_wire e) reference request ≡ acted_on_wire (connecting now e reference request)
connecting_on now reference e request =
    moved_on (at now e) reference (connected now (call_of e reference request)) (connected now (call_of e reference request)) (record { base = refl; stage = refl; events = refl; tpdus = refl })

called_on_place : (now : ℕ) (e : Entity) (reference : ℕ) (call : UserCall) (place : Place)
    → calling_end wire now (entity_on_wire e) reference call (on place) ≡ acted_on_wire (calling_end whole now e reference call place)
called_on_place now e reference call None = refl
called_on_place now e reference call (Some end) = moved_on e reference _ _ (step_on now end (Called call))

pub calling_on : (now reference : ℕ) (e : Entity) (call : UserCall) → calling wire now (entity_on_wire e) reference call ≡ acted_on_wire (calling whole now e reference call)
calling_on now reference e call =
    ap (calling_end wire now (entity_on_wire (at now e)) reference call) (end_on e reference) ∙ called_on_place now (at now e) reference call (end_at e reference)

-- ---- ticks

kept_on : (m lower : Moved) (next : Option ℕ) → Same m lower → kept_end lower next ≡ on (kept_end m next)
kept_on m lower None same = refl
kept_on m lower (Some tick) same = λ i. Some (record { base = same.base i; stage = same.stage i })

ticked_on : (e : Entity) (reference : ℕ) (m lower : Moved) → Same m lower → ticked_to (entity_on_wire e) reference lower ≡ acted_on_wire (ticked_to e reference m)
ticked_on e reference m lower same =
    let next : due lower.base lower.stage ≡ due m.base m.stage = (λ i. due (same.base i) (same.stage i)) ∙ due_on m.base m.stage in
    placed_on e reference (kept_end m (due m.base m.stage)) (kept_end lower (due lower.base lower.stage)) m lower
    (ap (kept_end lower) next ∙ kept_on m lower (due m.base m.stage) same) same.events same.tpdus

tick_end_on : (now : ℕ) (e : Entity) (reference : ℕ) (place : Place) → ticking_end wire now (entity_on_wire e) reference (on place) ≡ acted_on_wire (ticking_end whole now e reference place)
tick_end_on now e reference None = refl
tick_end_on now e reference (Some end) = ticked_on e reference _ _ (step_on now end Ticked)

tick_at_on : (now : ℕ) (e : Entity) (found : Option ℕ) → ticking_at wire now (entity_on_wire e) found ≡ acted_on_wire (ticking_at whole now e found)
tick_at_on now e None = refl
tick_at_on now e (Some reference) = ap (ticking_end wire now (entity_on_wire e) reference) (end_on e reference) ∙ tick_end_on now e reference (end_at e reference)

pub ticking_on : (now : ℕ) (e : Entity) → ticking wire now (entity_on_wire e) ≡ acted_on_wire (ticking whole now e)
ticking_on now e = ap (ticking_at wire now (entity_on_wire (at now e))) (first_due_on now e) ∙ tick_at_on now (at now e) (first_due now e)

-- ---- TPDUs

either_on : (b : Bool) (one other lower under : Acted) → lower ≡ acted_on_wire one → under ≡ acted_on_wire other → cond b lower under ≡ acted_on_wire (cond b one other)
either_on true one other lower under h k = h
either_on false one other lower under h k = k

met_by_on : (now : ℕ) (e : Entity) (from : List ℕ) (tpdu : TpduAndSum) (reference : ℕ) (place : Place)
    → met_by wire now (entity_on_wire e) from tpdu reference (on place) ≡ acted_on_wire (met_by whole now e from tpdu reference place)
met_by_on now e from tpdu reference None = refl
met_by_on now e from tpdu reference (Some end) =
    let fits_is : is_match end.base (stage_on_wire end.stage) from tpdu.0 ≡ is_match end.base end.stage from tpdu.0 = λ i. pointwise nat_eq end.base.to from && fits_on end.base end.stage tpdu.0 i in
    ap (λ (b : Bool). cond b (moved (entity_on_wire e) reference (stepped wire now (end_on_wire end) (Took tpdu.0 tpdu.1))) (unmatched (entity_on_wire e) from tpdu.0)) fits_is
    ∙ either_on (is_match end.base end.stage from tpdu.0) _ _ _ _ (moved_on e reference _ _ (step_on now end (Took tpdu.0 tpdu.1))) refl

at_on : (now : ℕ) (e : Entity) (from : List ℕ) (tpdu : TpduAndSum) (reference : ℕ)
    → met_by wire now (entity_on_wire e) from tpdu reference (end_at (entity_on_wire e) reference) ≡ acted_on_wire (met_by whole now e from tpdu reference (end_at e reference))
at_on now e from tpdu reference = ap (met_by wire now (entity_on_wire e) from tpdu reference) (end_on e reference) ∙ met_by_on now e from tpdu reference (end_at e reference)

made_on : (now : ℕ) (e : Entity) (from : List ℕ) (source : ℕ) (cr : Tpdu) (found : Option ℕ) → new_end now (entity_on_wire e) from source cr found ≡ acted_on_wire (new_end now e from source cr found)
made_on now e from source cr None = refl
made_on now e from source (Cr credit reference width calling called size preferred extra version classes ack_time text) (Some own) =
    moved_on e own _ _ (record { base = refl; stage = refl; events = refl; tpdus = refl })
made_on now e from source other (Some own) = refl

requested_on : (now : ℕ) (e : Entity) (from : List ℕ) (source : ℕ) (called : List ℕ) (cr : Tpdu)
    → requested now (entity_on_wire e) from source called cr ≡ acted_on_wire (requested now e from source called cr)
requested_on now e from source called cr =
    let live = any_on (is_called false from source) e.ends (called_on false from source) in
    let frozen = any_on (is_called true from source) e.ends (called_on true from source) in
    let lower = entity_on_wire e in
    (λ i. cond (live i) (answers lower []) (cond (frozen i) (answers lower (refusal from source 131 ∷ []))
    (cond (not (is_registered e.selectors called)) (answers lower (refusal from source 3 ∷ [])) (new_end now lower from source cr (least_on now e i)))))
    ∙ either_on (list_any (is_called false from source) e.ends) _ _ _ _ refl
    (either_on (list_any (is_called true from source) e.ends) _ _ _ _ refl
    (either_on (not (is_registered e.selectors called)) _ _ _ _ refl (made_on now e from source cr (least_free now e))))

pub met_on : (now : ℕ) (e : Entity) (from : List ℕ) (tpdu : TpduAndSum) → met wire now (entity_on_wire e) from tpdu ≡ acted_on_wire (met whole now e from tpdu)
met_on now e from (Cr credit source width calling called size preferred extra version classes ack_time text, sum) =
    requested_on now e from source called (Cr credit source width calling called size preferred extra version classes ack_time text)
met_on now e from (Cc credit destination source width calling called size preferred extra version classes ack_time text, sum) =
    at_on now e from (Cc credit destination source width calling called size preferred extra version classes ack_time text, sum) destination
met_on now e from (Dr destination source reason info text, sum) = at_on now e from (Dr destination source reason info text, sum) destination
met_on now e from (Dc destination source, sum) = at_on now e from (Dc destination source, sum) destination
met_on now e from (Dt destination last number text, sum) = at_on now e from (Dt destination last number text, sum) destination
met_on now e from (Ed destination last number text, sum) = at_on now e from (Ed destination last number text, sum) destination
met_on now e from (Ak destination number credit subsequence confirmation, sum) = at_on now e from (Ak destination number credit subsequence confirmation, sum) destination
met_on now e from (Ea destination number, sum) = at_on now e from (Ea destination number, sum) destination
met_on now e from (Er destination cause rejected, sum) = at_on now e from (Er destination cause rejected, sum) destination

all_on : (now : ℕ) (e : Entity) (from : List ℕ) (tpdus : List TpduAndSum) → all_met wire now (entity_on_wire e) from tpdus ≡ acted_on_wire (all_met whole now e from tpdus)
all_on now e from [] = refl
all_on now e from (tpdu ∷ tpdus) =
    let first = met whole now e from tpdu in
    ap (λ (a : Acted). followed a (all_met wire now a.entity from tpdus)) (met_on now e from tpdu)
    ∙ ap (followed (acted_on_wire first)) (all_on now first.entity from tpdus)

pub hearing_on : (now : ℕ) (e : Entity) (from octets : List ℕ) (acted : Acted) → HearsUnit whole now e from octets acted → HearsUnit wire now (entity_on_wire e) from octets (acted_on_wire acted)
hearing_on now e from octets acted h =
    let formats : extended_of e ≡ extended_of (entity_on_wire e) = sym (listed_on 1 e.ends) in
    let all = all_on now (at now e) from h.tpdus in
    record {
      tpdus = h.tpdus;
      rest = h.rest;
      told = h.told;
      separates = subst (λ (x : List ℕ). Separates x octets h.tpdus h.rest) formats h.separates;
      ends = subst (λ (x : List ℕ). EndsWith x h.rest h.told) formats h.ends;
      entity = ap entity_on_wire h.entity ∙ ap (λ (a : Acted). a.entity) (sym all);
      events = h.events ∙ ap (λ (a : Acted). a.events ++ h.told) (sym all);
      tpdus_are = h.tpdus_are ∙ ap (λ (a : Acted). a.tpdus) (sym all);
    }

takes_by : (quiet : Bool) (now : ℕ) (e : Entity) (from octets : List ℕ) (acted : Acted) → TakesBy quiet whole now e from octets acted → TakesBy quiet wire now (entity_on_wire e) from octets (acted_on_wire acted)
takes_by true now e from octets acted h = ap acted_on_wire h
takes_by false now e from octets acted h = hearing_on now e from octets acted h

-- silent or not: what makes an entity silent is no number of its ends
pub taking_on : (now : ℕ) (e : Entity) (from octets : List ℕ) (acted : Acted) → TakesUnit whole now e from octets acted → TakesUnit wire now (entity_on_wire e) from octets (acted_on_wire acted)
taking_on now e from octets acted h = takes_by (is_silent now e) now e from octets acted h
