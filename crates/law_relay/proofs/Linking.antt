-- What a line of a network does keeps that ends of a relay wait, and its events may come in a line of a relay (X.214, service primitives).
use Rattle.std.proofs.Common.{◌≡◌, ◌⊎◌, inl, inr, ℕ, ◌+◌, ◌≤◌, ◌==◌, ◌||◌, Bool, true, false, if◌then◌else◌, List, [], ◌∷◌, ◌++◌, length, Option, Some, None, refl, sym, ◌∙◌, ap, subst, arith, append_assoc}
use Rattle.std.specs.Prelude.{is_none}
use Rattle.std.specs.List.{AllByRecursion}
use Rattle.std.proofs.lemmas.Bool.{cases_eq, false≢true}
use Rattle.nsap.specs.Address.{selector_of}
use Rattle.osi_base.specs.declared.note.Note.{Note}
use Rattle.osi_base.specs.declared.unit.Arrival.{Arrival}
use Rattle.osi_base.specs.declared.unit.Offered.{Offered}
use Rattle.osi_base.specs.declared.unit.Offered.TheVariants.{Taken as WasTaken, Dropped}
use Rattle.osi_base.specs.declared.unit.Picked.{Picked}
use Rattle.osi_base.specs.declared.unit.Picked.TheVariants as picks
use Rattle.osi_base.specs.declared.unit.Up.{Up}
use Rattle.osi_base.specs.declared.unit.Up.TheVariants.{Unit as Came, Note as Noted}
use Rattle.osi_base.specs.declared.unit.Wish.{Wish}
use Rattle.osi_base.specs.Link.{Link}
use Rattle.osi_base.specs.Calls.{Call}
use Rattle.script_journal.specs.RawLawful.{raw_address}
use Rattle.script_journal.specs.declared.cause.Refused.{Refused}
use Rattle.script_journal.specs.declared.cause.Refused.TheVariants as refusals
use Rattle.script_journal.specs.declared.cause.Settled.TheVariants.{Settled, Stopped}
use Rattle.script_journal.specs.declared.event.Event.{Event}
use Rattle.script_journal.specs.declared.event.Event.TheVariants as events
use Rattle.script_lines.specs.Commands.{HasLine}
use Rattle.script_lines.specs.declared.words.Dialect.TheVariants as dialects
use Rattle.script_lines.specs.declared.line.Line.{Line}
use Rattle.script_lines.specs.declared.line.Line.TheVariants as lines
use Rattle.net_world.specs.Run.{SendsUnit}
use Rattle.net_world.specs.Told.{picked_event, sent_event, shown_at, told}
use Rattle.tp4_flow.specs.declared.step.EndEvent.{EndEvent}
use Rattle.tp4_flow.specs.declared.step.Sent.{Sent}
use Rattle.tp4_conn.specs.declared.call.ConnectRequest.{ConnectRequest}
use Rattle.tp4_conn.specs.declared.call.UserCall.{UserCall}
use Rattle.tp4_conn.specs.declared.call.UserCall.TheVariants as asks
use Rattle.tp4_conn.specs.declared.states.StateData.{StateData}
use Rattle.tp4_conn.specs.declared.states.StateData.TheVariants as stages
use Rattle.tp4_conn.specs.Calls.{call_refusal, is_listed}
use Rattle.tp4_conn.specs.End.{End, Moved, end_of}
use Rattle.tp4_conn.specs.Making.{connected}
use Rattle.tp4_conn.specs.Table.{Called, stepped}
use Rattle.tp4_entity.specs.declared.refusal.ConnectRefusal.{ConnectRefusal}
use Rattle.tp4_entity.specs.declared.refusal.EntityRefusal.{EntityRefusal}
use Rattle.tp4_entity.specs.Entity.{Acted, Entity, at, end_at, moved, with_end}
use Rattle.tp4_entity.specs.References.{is_free, least_free}
use Rattle.tp4_entity.specs.Step.{call_of, calling_end, connect_refusal, connecting, end_refusal, refused_by, ticking, ticking_at, user_refusal}
use Rattle.tp4_entity.proofs.Standings.{free_least, within}
use Rattle.tp4_world.specs.Run.{Acts, Arrives, BeginsAt, Calls, CallsAt, CallsBy, CallsEnd, Connects, ConnectsBy, Delivers, HearsAll, HearsIf, IsRefused, NoneDue, NoneLeft, OneDue, OneMore, RunsLine, SendsTpdus, Settles, Ticks, TicksAll, TicksEntity, TooMany, clock_of, is_for}
use Rattle.tp4_world.specs.Ended.{has_ended}
use Rattle.tp4_world.specs.Telling.{call_events, connect_event, drop_events, ends_after, event_for, events_after}
use Rattle.tp4_world.specs.World.{World, end_numbered, entity_at, latest, with_entity}
use Rattle.tp4_world.specs.declared.place.EndAt.{EndAt}
use Rattle.tp4_world.specs.declared.place.Placed.{Placed}
use Rattle.law_tp4_lawful.proofs.ActsRows.{IsRowOf, row_of}
use Rattle.law_tp4_lawful.specs.Own.{IsEndOf}
use Rattle.law_tp4_lawful.proofs.ActsTold.{ends_stay}
use Rattle.law_tp4_lawful.proofs.MakesPlaces.{at_other, latest_last, latest_other, made_last}
use Rattle.law_tp4_lawful.proofs.SilenceEntities.{only_end, placed_of, placed_or}
use Rattle.law_tp4_lawful.proofs.SilenceRuns.{number_by}
use Rattle.tp4_relay.specs.declared.pair.Pair.{Pair}
use Rattle.tp4_relay.specs.declared.pair.Phase.TheVariants.{Begun}
use Rattle.tp4_relay.specs.Allowed.{AreLine, IsLine}
use Rattle.tp4_relay.specs.Kept.{Kept, kept_after, named_by, noted, owns}
use Rattle.law_relay.specs.Asked.{is_relayed}
use Rattle.law_relay.proofs.CallRows.{CallDoes, CallTells, IsNoAccept, call_does}
use Rattle.law_relay.proofs.StageRows.{AllTold, IsCallingWait, TellsHeld, MayFollow}
use Rattle.law_relay.proofs.Waits.{IsCommon, PairWaits, Waits, asking_waits, follows_waits, free_waits, has_inbound, noted_named, noted_tidy, noted_waits, tidy_more}
use Rattle.law_relay.proofs.Walks.{Did, Goes, IsFine, Linked, Walked, after_append, did_take, did_tick, goes_then, held_walk, latest_low, line_append, linked_by, walked_linked, walked_more, walked_none}
use Rattle.tpdu.specs.declared.service.EndTold.TheVariants as tells

-- ---- events of no end that is kept

abbrev pub IsNote : Event → Type 0
IsNote (events.Incoming heard) = ⊥
IsNote (events.End end (tells.Accept options octets)) = ⊥
IsNote (events.End end (tells.Confirm options octets)) = ⊥
IsNote (events.Data end octets) = ⊥
IsNote (events.End end (tells.Got octets)) = ⊥
IsNote (events.Expedite end octets) = ⊥
IsNote (events.End end (tells.Urgent octets)) = ⊥
IsNote (events.Refuse end octets) = ⊥
IsNote (events.Disconnect end octets) = ⊥
IsNote (events.End end (tells.Gone cause octets)) = ⊥
IsNote (events.End end (tells.Window credit)) = ⊥
IsNote (events.Joined inbound outbound) = ⊥
IsNote event = Prim.Unit {0}

abbrev pub AreNotes : List Event → Type 0
AreNotes made = AllByRecursion IsNote made

note_fine : (count : ℕ) (kept : Kept) (event : Event) → IsNote event → IsFine count kept event
note_fine count kept (events.Incoming heard) is = absurd is
note_fine count kept (events.End end (tells.Accept options octets)) is = absurd is
note_fine count kept (events.End end (tells.Confirm options octets)) is = absurd is
note_fine count kept (events.Data end octets) is = absurd is
note_fine count kept (events.End end (tells.Got octets)) is = absurd is
note_fine count kept (events.Expedite end octets) is = absurd is
note_fine count kept (events.End end (tells.Urgent octets)) is = absurd is
note_fine count kept (events.Refuse end octets) is = absurd is
note_fine count kept (events.Disconnect end octets) is = absurd is
note_fine count kept (events.End end (tells.Gone cause octets)) is = absurd is
note_fine count kept (events.End end (tells.Window credit)) is = absurd is
note_fine count kept (events.Joined inbound outbound) is = absurd is
note_fine count kept event is = record { common = tt; line = tt; low = omega arith }

pub notes_walk : (count : ℕ) (made : List Event) (kept : Kept) → AreNotes made → Walked count kept made
notes_walk count [] kept are = walked_none count kept
notes_walk count (event ∷ made) kept are = walked_more count kept event made (note_fine count kept event are.0) (notes_walk count made (noted kept event) are.1)

notes_append : (xs ys : List Event) → AreNotes xs → AreNotes ys → AreNotes (xs ++ ys)
notes_append [] ys first rest = rest
notes_append (x ∷ xs) ys first rest = (first.0, notes_append xs ys first.1 rest)

note_note : (note : Note) → IsNote (events.Net note)
note_note note = tt

unit_notes : (shown : Bool) (system : ℕ) (from octets : List ℕ) → AreNotes (if shown then events.Unit system from octets ∷ [] else [])
unit_notes true system from octets = (tt, tt)
unit_notes false system from octets = tt

pub told_notes : (ups : List (Up (List ℕ))) → AreNotes (told ups)
told_notes [] = tt
told_notes (Noted note ∷ ups) = (note_note note, told_notes ups)
told_notes (Came arrival ∷ ups) =
    notes_append (shown_at arrival.system arrival.unit) (told ups) (unit_notes (selector_of arrival.unit.to == 2) arrival.system arrival.unit.from arrival.unit.octets) (told_notes ups)

drop_notes : (system : ℕ) (answer : Offered) → AreNotes (drop_events system answer)
drop_notes system WasTaken = tt
drop_notes system (Dropped cause) = (tt, tt)

sent_note : (system : ℕ) (to octets : List ℕ) (answer : Offered) → IsNote (sent_event system to octets answer)
sent_note system to octets WasTaken = tt
sent_note system to octets (Dropped cause) = tt

picked_note : (number system : ℕ) (answer : Picked) → IsNote (picked_event number system answer)
picked_note number system picks.Taken = tt
picked_note number system other = tt

-- ---- a call on an end

pub stands_by : (call : UserCall) (place : Option End) → end_refusal call place ≡ None → (end : End) × (place ≡ Some end) × (call_refusal end.base end.stage call ≡ None)
stands_by call None is = absurd (cc is)
stands_by call (Some end) is = (end, refl, none_by (call_refusal end.base end.stage call) is)
  where
    none_by : (why : _) → refused_by why ≡ None → why ≡ None
    none_by None h = refl
    none_by (Some one) h = absurd (cc h)

-- the own event of a call
abbrev pub IsOwnEvent : ℕ → Event → Type 0
IsOwnEvent n (events.End end (tells.Accept options octets)) = end ≡ n
IsOwnEvent n (events.Refuse end octets) = end ≡ n
IsOwnEvent n (events.Data end octets) = end ≡ n
IsOwnEvent n (events.Expedite end octets) = end ≡ n
IsOwnEvent n (events.End end (tells.Window credit)) = end ≡ n
IsOwnEvent n (events.Disconnect end octets) = end ≡ n
IsOwnEvent n event = ⊥

own_common : (n : ℕ) (event : Event) → IsOwnEvent n event → IsCommon event × (named_by event ≡ n)
own_common n (events.End end (tells.Accept options octets)) is = (tt, is)
own_common n (events.Refuse end octets) is = (tt, is)
own_common n (events.Data end octets) is = (tt, is)
own_common n (events.Expedite end octets) is = (tt, is)
own_common n (events.End end (tells.Window credit)) is = (tt, is)
own_common n (events.Disconnect end octets) is = (tt, is)
own_common n event is = absurd is

own_line : (n : ℕ) (kept : Kept) (event : Event) → IsOwnEvent n event → owns kept n ≡ false → IsLine kept event
own_line n kept (events.End end (tells.Accept options octets)) is free = ap (owns kept) is ∙ free
own_line n kept (events.Refuse end octets) is free = ap (owns kept) is ∙ free
own_line n kept (events.Data end octets) is free = ap (owns kept) is ∙ free
own_line n kept (events.Expedite end octets) is free = ap (owns kept) is ∙ free
own_line n kept (events.End end (tells.Window credit)) is free = ap (owns kept) is ∙ free
own_line n kept (events.Disconnect end octets) is free = ap (owns kept) is ∙ free
own_line n kept event is free = absurd is

-- what a call keeps: it leads to a network that waits, and its events may come in a line where the end is a user's
pub record Kepts {C : Type 0} (old : World C) (kept : Kept) (number : ℕ) (made : List Event) (new : World C) : Type 0 where
  pub ends : new.ends ≡ old.ends
  pub linked : Linked new.entities new.ends (kept_after kept made)
  pub line : owns kept number ≡ false → AreLine (length new.ends) kept made

-- behind its own event a call tells numbers that are held back, and what the network tells
pub record CallRow (system : ℕ) (address : List ℕ) (ends : List EndAt) (number : ℕ) (call : UserCall) (told : List EndEvent) : Type 0 where
  pub own : Event
  pub held : List EndEvent
  pub all_held : AllTold TellsHeld held
  pub is_own : IsOwnEvent number own
  pub events_are : call_events number call ++ events_after ends system address told ≡ own ∷ events_after ends system address held

module _ (system : ℕ) (address : List ℕ) where
  told_row : (ends : List EndAt) (number reference : ℕ) (m : Moved) → m.base.own ≡ reference → latest ends system reference ≡ number → (call : UserCall) → CallTells call m → CallRow system address ends number call m.events
  told_row ends number reference m base at_n (asks.Accept asked octets) told = record {
    own = events.End (latest ends system m.base.own) (tells.Accept told.0 octets);
    held = told.1;
    all_held = told.3;
    is_own = ap (latest ends system) base ∙ at_n;
    events_are = ap (events_after ends system address) told.2;
  }
  told_row ends number reference m base at_n (asks.Window credit) told = record {
    own = events.End (latest ends system m.base.own) (tells.Window told.0);
    held = told.1;
    all_held = told.3;
    is_own = ap (latest ends system) base ∙ at_n;
    events_are = ap (events_after ends system address) told.2;
  }
  told_row ends number reference m base at_n (asks.Refuse octets) told = record { own = events.Refuse number octets; held = m.events; all_held = told; is_own = refl; events_are = refl }
  told_row ends number reference m base at_n (asks.Normal octets) told = record { own = events.Data number octets; held = m.events; all_held = told; is_own = refl; events_are = refl }
  told_row ends number reference m base at_n (asks.Urgent octets) told = record { own = events.Expedite number octets; held = m.events; all_held = told; is_own = refl; events_are = refl }
  told_row ends number reference m base at_n (asks.Disconnect octets) told = record { own = events.Disconnect number octets; held = m.events; all_held = told; is_own = refl; events_are = refl }

-- the end is the inbound one of a pair, and of none that has begun
pub record IsOpened (kept : Kept) (n : ℕ) : Type 0 where
  pub joined : has_inbound kept.pairs n ≡ true
  pub begun : AllByRecursion (λ (pair : Pair). pair.phase ≡ Begun → pair.inbound ≡ n → ⊥) kept.pairs

-- a call may come of the relay or of a user: an accept comes on an end that may be in any state, or is the inbound one of a pair that was opened
pub data MayCall (kept : Kept) (number : ℕ) (call : UserCall) : Type 0 where
  IsOther : IsNoAccept call → MayCall kept number call
  IsAny : ((stage : StateData) → Waits kept.claims kept.pairs number stage) → MayCall kept number call
  IsAccepted : IsOpened kept number → MayCall kept number call

calling_accepts_none : (stage : StateData) (call : UserCall) → (IsNoAccept call → ⊥) → is_listed stage call ≡ true → IsCallingWait stage → ⊥
calling_accepts_none (stages.CrWait w) (asks.Disconnect octets) accept is waits = accept tt
calling_accepts_none (stages.CrWait w) other accept is waits = false≢true is
calling_accepts_none (stages.UserWait since) call accept is waits = waits
calling_accepts_none (stages.AkWait w) call accept is waits = waits
calling_accepts_none (stages.Opened o) call accept is waits = waits
calling_accepts_none other call accept is waits = false≢true is

-- or it is no accept
accept_or : (call : UserCall) → IsNoAccept call ⊎ (IsNoAccept call → ⊥)
accept_or (asks.Accept asked octets) = inr (λ is. is)
accept_or other = inl tt

opened_waits : (kept : Kept) (n : ℕ) (stage new : StateData) → IsOpened kept n → (IsCallingWait stage → ⊥) → Waits kept.claims kept.pairs n stage → Waits kept.claims kept.pairs n new
opened_waits kept n stage new o calling w = record {
  unjoined = λ has out. absurd (false≢true (sym out ∙ o.joined));
  paired = by kept.pairs o.begun w.paired;
}
  where
    by : (ps : List Pair) → AllByRecursion (λ (pair : Pair). pair.phase ≡ Begun → pair.inbound ≡ n → ⊥) ps → AllByRecursion (PairWaits n stage) ps → AllByRecursion (PairWaits n new) ps
    by [] none all = tt
    by (pair ∷ ps) none all = (λ begun. (λ same. absurd (none.0 begun same), λ same. absurd (calling ((all.0 begun).1 same))), by ps none.1 all.1)

-- the state after a call
call_after : (kept : Kept) (n : ℕ) (call : UserCall) (stage new : StateData) → MayCall kept n call → (IsNoAccept call → MayFollow stage new) → is_listed stage call ≡ true
    → Waits kept.claims kept.pairs n stage → Waits kept.claims kept.pairs n new
call_after kept n call stage new (IsOther is) follows listed w = follows_waits kept.claims kept.pairs n stage new (follows is) w
call_after kept n call stage new (IsAny any) follows listed w = any new
call_after kept n call stage new (IsAccepted o) follows listed w = elim (accept_or call) [
  | inl other ↦ follows_waits kept.claims kept.pairs n stage new (follows other) w
  | inr accept ↦ opened_waits kept n stage new o (calling_accepts_none stage call accept listed) w
]

module _ {C : Type 0} (link : C → Link (List ℕ)) (steps : C → Call (List ℕ) → C → Type 0) where
  -- what holds of the events of a network and of what it leaves
  abbrev pub Ran : World C → List Event → World C → Type 0
  Ran old made new = (kept : Kept) → Linked old.entities old.ends kept → Goes old.ends kept made new.entities new.ends

  ran_then : (old mid new : World C) (made here rest : List Event) → Ran old here mid → Ran mid rest new → made ≡ here ++ rest → Ran old made new
  ran_then old mid new made here rest one two is kept l =
      let first = one kept l in
      subst (λ (es : List Event). Goes old.ends kept es new.entities new.ends) (sym is)
      (goes_then old.ends mid.ends new.ends kept here rest mid.entities new.entities first (two (kept_after kept here) first.linked))

  ran_notes : (old new : World C) (made : List Event) → AreNotes made → new.entities ≡ old.entities → new.ends ≡ old.ends → Ran old made new
  ran_notes old new made are entities ends kept l =
      subst (λ (ps : List Placed). Goes old.ends kept made ps new.ends) (sym entities)
      (subst (λ (es : List EndAt). Goes old.ends kept made old.entities es) (sym ends) (walked_linked old.entities old.ends kept made (notes_walk (length old.ends) made kept are) l))

  pub ran_told : (old new : World C) (made these : List Event) → AreNotes these → made ≡ these → new ≡ old → Ran old made new
  ran_told old new made these are is same =
      ran_notes old new made (subst AreNotes (sym is) are) (ap (λ (w : World C). w.entities) same) (ap (λ (w : World C). w.ends) same)

  sent_notes : (tpdus : List Sent) (old new : C) (system : ℕ) (own : List ℕ) (made : List Event) → SendsTpdus link steps old system own tpdus made new → AreNotes made
  sent_notes [] old new system own made s = subst AreNotes (sym s.0) tt
  sent_notes (sent ∷ tpdus) old new system own made s =
      let one = s.3 in
      subst AreNotes (sym s.5)
      (notes_append s.1 s.2 (subst AreNotes (sym one.made_is) (notes_append (drop_events system one.answer) (told one.ups) (drop_notes system one.answer) (told_notes one.ups)))
      (sent_notes tpdus s.0 new system own s.2 s.4))

  -- what an entity did, and then what is told of its TPDUs
  did_ran : (old new : World C) (system : ℕ) (e : Entity) (acted : Acted) (made : List Event) → entity_at old.entities system ≡ Some e → Did system e.own e acted.entity acted.events
      → Acts link steps old system e.own acted made new → Ran old made new
  did_ran old new system e acted made there did a kept l =
      let mid : World C = record { carrier = a.below; entities = with_entity old.entities system acted.entity; ends = ends_after old.ends system acted.events } in
      let first : Ran old (events_after old.ends system e.own acted.events) mid = λ k linked. did old.entities old.ends k there linked in
      ran_then old mid new made (events_after old.ends system e.own acted.events) a.sent first
      (ran_told mid new a.sent a.sent (sent_notes acted.tpdus old.carrier a.below system e.own a.sent a.sends) refl a.becomes) a.made_is kept l

  -- ---- what users ask

  refused : (old new : World C) (made : List Event) (why : Option Refused) → IsRefused link steps old why made new → Ran old made new
  refused old new made None s = absurd s
  refused old new made (Some why) s = ran_told old new made (events.No why ∷ []) (tt, tt) s.0 s.1

  -- a request makes an end that waits
  begun : (old new : World C) (made : List Event) (system : ℕ) (e : Entity) (request : ConnectRequest) (found : Option ℕ) → entity_at old.entities system ≡ Some e
      → least_free (clock_of link steps old) e ≡ found → BeginsAt link steps old system e request found made new → Ran old made new
  begun old new made system e request None there least s kept l = absurd s
  begun old new made system e request (Some reference) there least s kept l =
      let now : ℕ = clock_of link steps old in
      let f = free_least now reference e least in
      let m : Moved = connected now (call_of e reference request) in
      let next : Entity = with_end (at now e) reference (Some (end_of m)) in
      let more : List EndAt = old.ends ++ record { system = system; reference = reference } ∷ [] in
      let counts : length more ≡ length old.ends + 1 = made_last old.ends (record { system = system; reference = reference }) in
      let number : latest more system reference ≡ length old.ends + 1 = latest_last old.ends system reference in
      let asked : Event = connect_event (length old.ends + 1) system reference e.own request in
      let a = s.1 in
      let low = l.named in
      let less : length old.ends ≤ length more = omega (arith, counts) in
      let elsewhere : (other r : ℕ) (stage : StateData) → (other ≡ system → r ≡ reference → ⊥) → Waits kept.claims kept.pairs (latest old.ends other r) stage → Waits kept.claims kept.pairs (latest more other r) stage =
      λ other r stage apart w. subst (λ (k : ℕ). Waits kept.claims kept.pairs k stage) (sym (latest_other old.ends system reference other r apart)) w in
      let linked : Linked (with_entity old.entities system next) more kept =
      linked_by system e.own old.entities e next more kept there (omega (arith, low, less)) (tidy_more (length old.ends) (length more) kept.claims kept.pairs less l.tidy)
      (placed_of (at now e) reference (Some (end_of m)) f.least (l.of system e there) (λ end same. only_end reference (end_of m) end (refl, tt) same))
      (λ r one stands. elim (cases_eq r reference) [
        | inl same ↦ subst (λ (k : ℕ). Waits kept.claims kept.pairs (latest more system k) one.stage) (sym same)
            (asking_waits (length old.ends) (latest more system reference) kept.claims kept.pairs one.stage (omega (arith, number)) l.tidy)
        | inr apart ↦ elsewhere system r one.stage (λ there_is same. apart same) (l.waits system r e one there (sym (at_other (at now e) reference r (Some (end_of m)) f.least apart) ∙ stands))
      ])
      (λ other x apart. l.of other x)
      (λ other r x one apart there_is stands. elsewhere other r one.stage (λ same own. apart same) (l.waits other r x one there_is stands)) in
      let mid : World C = record { carrier = a.below; entities = with_entity old.entities system next; ends = more } in
      let first : Goes old.ends kept (asked ∷ []) mid.entities mid.ends = record { line = (tt, omega arith, tt); linked = asked_linked mid.entities mid.ends linked; grows = less } in
      let later = ran_told mid new a.sent a.sent (sent_notes (connecting now e reference request).tpdus old.carrier a.below system e.own a.sent a.sends) refl a.becomes (noted kept asked) first.linked in
      subst (λ (es : List Event). Goes old.ends kept es new.entities new.ends) (sym (s.2 ∙ ap (λ (es : List Event). asked ∷ es) a.made_is))
      (goes_then old.ends more new.ends kept (asked ∷ []) a.sent mid.entities new.entities first later)
    where
      asked_linked : (entities : List Placed) (ends : List EndAt) → Linked entities ends kept → Linked entities ends (noted kept (connect_event (length old.ends + 1) system reference e.own request))
      asked_linked entities ends k = record {
        named = (let low = k.named in omega (arith, low));
        tidy = record { claims_low = k.tidy.claims_low; outbounds = k.tidy.outbounds; inbounds = k.tidy.inbounds };
        of = k.of;
        waits = λ other r x end is stands. (let w = k.waits other r x end is stands in record { unjoined = w.unjoined; paired = w.paired });
      }

  connect_by : (old new : World C) (made : List Event) (system : ℕ) (e : Entity) (request : ConnectRequest) (why : Option ConnectRefusal) → entity_at old.entities system ≡ Some e
      → ConnectsBy link steps old system e request why made new → Ran old made new
  connect_by old new made system e request (Some why) there s = refused old new made _ s
  connect_by old new made system e request None there s = begun old new made system e request (least_free (clock_of link steps old) e) there refl s

  pub connect_ran : (old new : World C) (made : List Event) (system : ℕ) (request : ConnectRequest) → Connects link steps old system request made new → Ran old made new
  connect_ran old new made system request s = connect_by old new made system s.0 request (connect_refusal (clock_of link steps old) s.0 request.octets) s.1 s.2

  raw_ran : (old new : World C) (below : C) (made : List Event) (system : ℕ) (sender receiver octets : List ℕ) (wish : Wish) → SendsUnit link steps old.carrier system sender receiver wish octets made below
      → new ≡ record old { carrier = below } → Ran old made new
  raw_ran old new below made system sender receiver octets wish s same =
      ran_notes old new made (raw_notes octets s) (ap (λ (w : World C). w.entities) same) (ap (λ (w : World C). w.ends) same)
    where
      raw_notes : (xs : List ℕ) → SendsUnit link steps old.carrier system sender receiver wish xs made below → AreNotes made
      raw_notes [] t = subst AreNotes (sym t.0) (tt, tt)
      raw_notes (x ∷ xs) t = subst AreNotes (sym t.3) (sent_note system (raw_address receiver) (x ∷ xs) t.0, told_notes t.1)

  module _ (wrap : ℕ → ℕ → ℕ) where
    -- a call that is done, on an end that stands
    call_done : (old new : World C) (made later : List Event) (number system reference : ℕ) (e : Entity) (call : UserCall) (place : Option End) → entity_at old.entities system ≡ Some e
        → latest old.ends system reference ≡ number → end_at e reference ≡ place → (one : End) → place ≡ Some one → call_refusal one.base one.stage call ≡ None
        → Acts link steps old system e.own (calling_end wrap (clock_of link steps old) (at (clock_of link steps old) e) reference call place) later new → made ≡ call_events number call ++ later
        → (kept : Kept) → MayCall kept number call → Linked old.entities old.ends kept → Kepts old kept number made new
    call_done old new made later number system reference e call None there at_n is one some fine a made_is kept may l = absurd (cc some)
    call_done old new made later number system reference e call (Some end) there at_n is one some fine a made_is kept may l =
        let now : ℕ = clock_of link steps old in
        let same : end ≡ one = cc some in
        let allowed : call_refusal end.base end.stage call ≡ None = ap (λ (x : End). call_refusal x.base x.stage call) same ∙ fine in
        let m : Moved = stepped wrap now end (Called call) in
        let row : IsRowOf reference m = row_of wrap now reference end (Called call) (l.of system e there reference end is) in
        let does : CallDoes end.stage call m = call_does wrap now end call allowed in
        let told_so : CallRow system e.own old.ends number call m.events = told_row system e.own old.ends number reference m row.base at_n call does.told in
        let least : 1 ≤ reference = (within e reference end is).least in
        let next : Entity = with_end (at now e) reference (Some (end_of m)) in
        let own : Event = told_so.own in
        let common = own_common number own told_so.is_own in
        let held : List Event = events_after old.ends system e.own told_so.held in
        let low : number ≤ length old.ends = subst (λ (k : ℕ). k ≤ length old.ends) at_n (latest_low old.ends system reference) in
        let named : named_by own ≤ length old.ends = subst (λ (k : ℕ). k ≤ length old.ends) (sym common.1) low in
        let walk = held_walk system e.own (length old.ends) old.ends told_so.held (noted kept own) told_so.all_held in
        let last : Kept = kept_after (noted kept own) held in
        let before : Waits kept.claims kept.pairs number end.stage = subst (λ (k : ℕ). Waits kept.claims kept.pairs k end.stage) at_n (l.waits system reference e end there is) in
        let after : Waits kept.claims kept.pairs number m.stage = call_after kept number call end.stage m.stage may does.after does.listed before in
        let go : (n : ℕ) (stage : StateData) → Waits kept.claims kept.pairs n stage → Waits last.claims last.pairs n stage = λ n stage w. walk.waits n stage (noted_waits kept own n stage common.0 w) in
        let tidy = walk.tidy (noted_tidy kept own (length old.ends) common.0 l.tidy) in
        let linked : Linked (with_entity old.entities system next) old.ends last =
        linked_by system e.own old.entities e next old.ends last there (walk.named (noted_named kept own (length old.ends) l.named named)) tidy
        (placed_of (at now e) reference (Some (end_of m)) least (l.of system e there) (λ x h. only_row reference m row x h))
        (λ r x stands. elim (placed_or (at now e) reference (Some (end_of m)) r x least stands) [
          | inl this ↦ subst (λ (k : ℕ). Waits last.claims last.pairs (latest old.ends system k) x.stage) (sym this.0)
              (subst (λ (k : ℕ). Waits last.claims last.pairs k x.stage) (sym at_n) (subst (λ (y : End). Waits last.claims last.pairs number y.stage) (let e_is : end_of m ≡ x = cc this.1 in e_is) (go number m.stage after)))
          | inr past ↦ go (latest old.ends system r) x.stage (l.waits system r e x there past)
        ])
        (λ other x apart. l.of other x)
        (λ other r x y apart there_is stands. go (latest old.ends other r) y.stage (l.waits other r x y there_is stands)) in
        let mid : World C = record { carrier = a.below; entities = with_entity old.entities system next; ends = old.ends } in
        let becomes : new ≡ mid = a.becomes ∙ ap (λ (es : List EndAt). record { carrier = a.below; entities = with_entity old.entities system next; ends = es }) (ends_stay system e.own old.ends reference m.events row.told) in
        let sent = ran_told mid new a.sent a.sent (sent_notes m.tpdus old.carrier a.below system e.own a.sent a.sends) refl becomes last linked in
        let all : made ≡ (own ∷ held) ++ a.sent =
        made_is ∙ ap (λ (es : List Event). call_events number call ++ es) a.made_is ∙ sym (append_assoc (call_events number call) (events_after old.ends system e.own m.events) a.sent)
        ∙ ap (λ (es : List Event). es ++ a.sent) told_so.events_are in
        let ends_are : new.ends ≡ old.ends = ap (λ (w : World C). w.ends) becomes in
        record {
          ends = ends_are;
          linked = subst (λ (k : Kept). Linked new.entities new.ends k) (sym (ap (kept_after kept) all ∙ after_append kept (own ∷ held) a.sent)) sent.linked;
          line = λ free. subst (λ (es : List Event). AreLine (length new.ends) kept es) (sym all)
              (line_append (length new.ends) kept (own ∷ held) a.sent
              (subst (λ (es : List EndAt). AreLine (length es) kept (own ∷ held)) (sym ends_are) (own_line number kept own told_so.is_own free, named, walk.line)) sent.line);
        }
      where
        only_row : (reference : ℕ) (m : Moved) → IsRowOf reference m → (x : End) → Some (end_of m) ≡ Some x → IsEndOf reference x
        only_row reference m row x h = let same : end_of m ≡ x = cc h in subst (IsEndOf reference) same (row.base, row.stage)

    refused_kepts : (old new : World C) (made : List Event) (why : Option Refused) (number : ℕ) (kept : Kept) → IsRefused link steps old why made new → Linked old.entities old.ends kept → Kepts old kept number made new
    refused_kepts old new made None number kept s l = absurd s
    refused_kepts old new made (Some why) number kept s l =
        let g = refused old new made (Some why) s kept l in record { ends = ap (λ (w : World C). w.ends) s.1; linked = g.linked; line = λ free. g.line }

    call_by : (old new : World C) (made : List Event) (number : ℕ) (end : EndAt) (e : Entity) (call : UserCall) (why : Option EntityRefusal) → entity_at old.entities end.system ≡ Some e
        → latest old.ends end.system end.reference ≡ number → user_refusal e end.reference call ≡ why → CallsBy link steps wrap old number end e call why made new
        → (kept : Kept) → MayCall kept number call → Linked old.entities old.ends kept → Kepts old kept number made new
    call_by old new made number end e call (Some why) there at_n is s kept may l = refused_kepts old new made _ number kept s l
    call_by old new made number end e call None there at_n is s kept may l =
        let stands = stands_by call (end_at e end.reference) is in
        call_done old new made s.0 number end.system end.reference e call (end_at e end.reference) there at_n refl stands.0 stands.1 stands.2 s.1 s.2 kept may l

    call_end : (old new : World C) (made : List Event) (number : ℕ) (end : EndAt) (e : Entity) (call : UserCall) (ended : Bool) → entity_at old.entities end.system ≡ Some e
        → has_ended (clock_of link steps old) old.ends number end e ≡ ended → CallsEnd link steps wrap old number end e call ended made new
        → (kept : Kept) → MayCall kept number call → Linked old.entities old.ends kept → Kepts old kept number made new
    call_end old new made number end e call true there is s kept may l = refused_kepts old new made (Some refusals.Ended) number kept s l
    call_end old new made number end e call false there is s kept may l =
        call_by old new made number end e call (user_refusal e end.reference call) there
        (number_by (latest old.ends end.system end.reference == number) (latest old.ends end.system end.reference) number
        (is_none (end_at e end.reference) || is_free (clock_of link steps old) e end.reference) refl is) refl s kept may l

    call_at : (old new : World C) (made : List Event) (number : ℕ) (call : UserCall) (end : Option EndAt) → CallsAt link steps wrap old number call end made new
        → (kept : Kept) → MayCall kept number call → Linked old.entities old.ends kept → Kepts old kept number made new
    call_at old new made number call None s kept may l = refused_kepts old new made (Some refusals.NoSuchEnd) number kept s l
    call_at old new made number call (Some end) s kept may l = call_end old new made number end s.0 call (has_ended (clock_of link steps old) old.ends number end s.0) s.1 refl s.2 kept may l

    -- a call of the relay, or of a user
    pub call_kepts : (old new : World C) (made : List Event) (number : ℕ) (call : UserCall) → Calls link steps wrap old number call made new
        → (kept : Kept) → MayCall kept number call → Linked old.entities old.ends kept → Kepts old kept number made new
    call_kepts old new made number call s = call_at old new made number call (end_numbered old.ends number) s

    -- a user's call, on an end that is none of the relay
    user_ran : (old new : World C) (made : List Event) (number : ℕ) (call : UserCall) → Calls link steps wrap old number call made new
        → (kept : Kept) → owns kept number ≡ false → Linked old.entities old.ends kept → Goes old.ends kept made new.entities new.ends
    user_ran old new made number call s kept free l =
        let k = call_kepts old new made number call s kept (IsAny (λ stage. free_waits (length old.ends) number kept stage free l.tidy)) l in
        let same : length new.ends ≡ length old.ends = ap (λ (es : List EndAt). length es) k.ends in
        record { line = k.line free; linked = k.linked; grows = omega (arith, same) }

    -- ---- what comes up

    heard_if : (old new : World C) (made : List Event) (arrival : Arrival (List ℕ)) (e : Option Entity) (fit : Bool) → entity_at old.entities arrival.system ≡ e → HearsIf link steps wrap old arrival e fit made new
        → Ran old made new
    heard_if old new made arrival None fit there s = ran_told old new made [] tt s.0 s.1
    heard_if old new made arrival (Some e) false there s = ran_told old new made [] tt s.0 s.1
    heard_if old new made arrival (Some e) true there s =
        did_ran old new arrival.system e s.0 made there (did_take arrival.system e.own wrap (clock_of link steps old) arrival.unit.from e arrival.unit.octets s.0 s.1) s.2

    heard_all : (ups : List (Up (List ℕ))) (old new : World C) (made : List Event) → HearsAll link steps wrap old ups made new → Ran old made new
    heard_all [] old new made s = ran_told old new made [] tt s.0 s.1
    heard_all (Noted note ∷ ups) old new made s = heard_all ups old new made s
    heard_all (Came arrival ∷ ups) old new made s =
        ran_then old s.0 new made s.1 s.2 (heard_if old s.0 s.1 arrival (entity_at old.entities arrival.system) (is_for link steps wrap arrival.unit.to (entity_at old.entities arrival.system)) refl s.3)
        (heard_all ups s.0 new s.2 s.4) s.5

    arrived : (old new : World C) (made : List Event) (call : Call (List ℕ)) (own : Event) → IsNote own → Arrives link steps wrap old call own made new → Ran old made new
    arrived old new made call own note a =
        let mid : World C = record old { carrier = a.below } in
        ran_then old mid new made (own ∷ told a.ups) a.later (ran_notes old mid (own ∷ told a.ups) (note, told_notes a.ups) refl refl) (heard_all a.ups mid new a.later a.hears) a.made_is

    delivered : (old new : World C) (made : List Event) (number system : ℕ) (answer : Picked) → Delivers link steps wrap old number system answer made new → Ran old made new
    delivered old new made number system answer a = arrived old new made _ (picked_event number system answer) (picked_note number system answer) a

    -- ---- ticks

    entity_ticked : (system : ℕ) (old : World C) (made : List Event) (new : World C) → TicksEntity link steps wrap system old made new → Ran old made new
    entity_ticked system old made new (NoneDue o m n e there none made_is becomes) =
        let now : ℕ = clock_of link steps old in
        let acted : Acted = ticking wrap now e in
        let quiet : acted.events ≡ [] = ap (λ (due : Option ℕ). (ticking_at wrap now (at now e) due).events) none in
        λ kept l. (let g = did_tick system e.own wrap now e old.entities old.ends kept there l in
        let here : Goes old.ends kept (events_after old.ends system e.own []) (with_entity old.entities system acted.entity) (ends_after old.ends system []) =
        subst (λ (told : List EndEvent). Goes old.ends kept (events_after old.ends system e.own told) (with_entity old.entities system acted.entity) (ends_after old.ends system told)) quiet g in
        subst (λ (es : List Event). Goes old.ends kept es new.entities new.ends) (sym made_is)
        (subst (λ (w : World C). Goes old.ends kept [] w.entities w.ends) (sym becomes) here))
    entity_ticked system old made new (OneDue o m n e reference mid here rest there due acts others made_is) =
        ran_then old mid new made here rest (did_ran old mid system e (ticking wrap (clock_of link steps old) e) here there (did_tick system e.own wrap (clock_of link steps old) e) acts)
        (entity_ticked system mid rest new others) made_is

    all_ticked : (placed : List Placed) (old new : World C) (made : List Event) → TicksAll link steps wrap old placed made new → Ran old made new
    all_ticked [] old new made s = ran_told old new made [] tt s.0 s.1
    all_ticked (one ∷ placed) old new made s = ran_then old s.0 new made s.1 s.2 (entity_ticked one.system old s.1 s.0 s.3) (all_ticked placed s.0 new s.2 s.4) s.5

    ticked : (old new : World C) (made : List Event) → Ticks link steps wrap old made new → Ran old made new
    ticked old new made s =
        let tick : ℕ = (link old.carrier).clock + 1 in
        let mid : World C = record old { carrier = s.below } in
        ran_then old mid new made (events.Tick tick ∷ told s.ups) s.later (ran_notes old mid (events.Tick tick ∷ told s.ups) (tt, told_notes s.ups) refl refl) (all_ticked old.entities mid new s.later s.all) s.made_is

    pub settled_ran : (count : ℕ) (old : World C) (made : List Event) (new : World C) → Settles link steps wrap count old made new → Ran old made new
    settled_ran count old made new (NoneLeft n o m l fresh made_is same) = ran_told old new made (events.Settle (Settled count) ∷ []) (tt, tt) made_is same
    settled_ran count old made new (TooMany n o m l pair fresh most made_is same) = ran_told old new made (events.Settle (Stopped count) ∷ []) (tt, tt) made_is same
    settled_ran count old made new (OneMore n o m l pair mid here rest fresh low delivers settles made_is) =
        ran_then old mid new made here rest (delivered old mid here pair.0 pair.1 picks.Taken delivers) (settled_ran (count + 1) mid rest new settles) made_is

    -- ---- a line of a user that is none of the relay

    pub line_ran : (titles : List (List ℕ)) (line : Line) (old new : World C) (made : List Event) → HasLine dialects.Relay line → RunsLine link steps wrap titles old line made new
        → (kept : Kept) → is_relayed kept line ≡ false → Linked old.entities old.ends kept → Goes old.ends kept made new.entities new.ends
    line_ran titles lines.Nothing old new made has s kept free l = ran_told old new made [] tt s.0 s.1 kept l
    line_ran titles (lines.Connect system selector to called options octets) old new made has s kept free l = connect_ran old new made system s.1 s.4.4 kept l
    line_ran titles (lines.Accept end options octets) old new made has s kept free l = user_ran old new made end _ s kept free l
    line_ran titles (lines.Refuse end octets) old new made has s kept free l = user_ran old new made end _ s kept free l
    line_ran titles (lines.Disconnect end octets) old new made has s kept free l = user_ran old new made end _ s kept free l
    line_ran titles (lines.Data end octets) old new made has s kept free l = user_ran old new made end _ s kept free l
    line_ran titles (lines.Expedite end octets) old new made has s kept free l = user_ran old new made end _ s kept free l
    line_ran titles (lines.Window end credit) old new made has s kept free l = user_ran old new made end _ s kept free l
    line_ran titles (lines.Unit system to wish octets) old new made has s kept free l = raw_ran old new s.4.0 made system s.0 s.1 octets wish s.4.1 s.4.2 kept l
    line_ran titles lines.Tick old new made has s kept free l = ticked old new made s kept l
    line_ran titles (lines.Deliver number system) old new made has s kept free l = delivered old new made number system s.0 s.1 kept l
    line_ran titles lines.Settle old new made has s kept free l = settled_ran 0 old made new s kept l
    line_ran titles (lines.Inject lan system octets) old new made has s kept free l = absurd has
    line_ran titles (lines.Restart system) old new made has s kept free l = absurd has
    line_ran titles (lines.Send system selector to called octets) old new made has s kept free l = absurd has
    line_ran titles other old new made has s kept free l = absurd s
