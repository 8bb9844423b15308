-- The transport entities of a network are a service: a call that is done tells its own event first, and beside it only numbers that are held back and what the
-- network tells; one that is refused tells the refusal alone (X.214, service primitives).
use Rattle.std.proofs.Common.{◌≡◌, ◌⊎◌, inl, inr, ℕ, ◌+◌, ◌==◌, ◌||◌, not, Bool, true, false, List, [], ◌∷◌, ◌++◌, length, Option, Some, None, refl, sym, ◌∙◌, ap, subst, arith, append_assoc}
use Rattle.std.specs.Prelude.{IsSome, is_none}
use Rattle.std.specs.List.{All, AllByRecursion}
use Rattle.std.proofs.lemmas.Bool.{cases_eq}
use Rattle.std.proofs.lemmas.List.Elements.{All-head, All-tail}
use Rattle.osi_base.specs.declared.note.Note.{Note}
use Rattle.osi_base.specs.declared.unit.Offered.{Offered}
use Rattle.osi_base.specs.declared.unit.Offered.TheVariants.{Taken as WasTaken, Dropped}
use Rattle.osi_base.specs.declared.unit.Up.{Up}
use Rattle.osi_base.specs.declared.unit.Up.TheVariants.{Unit as Came, Note as Noted}
use Rattle.osi_base.specs.Link.{Link, IsNote}
use Rattle.osi_base.specs.Calls.{Call, Keeps, Offer}
use Rattle.script_journal.specs.declared.cause.Refused.{Refused}
use Rattle.script_journal.specs.declared.cause.Refused.TheVariants as refusals
use Rattle.script_journal.specs.declared.event.Event.{Event}
use Rattle.script_journal.specs.declared.event.Event.TheVariants as events
use Rattle.net_world.specs.Told.{told}
use Rattle.tp4_flow.specs.declared.step.EndEvent.{EndEvent}
use Rattle.tp4_flow.specs.declared.step.Sent.{Sent}
use Rattle.tp4_flow.specs.declared.step.What.{What}
use Rattle.tp4_flow.specs.declared.step.What.TheVariants as whats
use Rattle.tp4_conn.specs.declared.call.ConnectRequest.{ConnectRequest}
use Rattle.tp4_conn.specs.declared.call.UserCall.{UserCall}
use Rattle.tp4_conn.specs.declared.call.UserCall.TheVariants as asks
use Rattle.tp4_conn.specs.Calls.{call_refusal}
use Rattle.tp4_conn.specs.End.{End, Moved}
use Rattle.tp4_conn.specs.Table.{Called, stepped}
use Rattle.tp4_number.specs.Number.{wire}
use Rattle.tp4_entity.specs.declared.refusal.ConnectRefusal.{ConnectRefusal}
use Rattle.tp4_entity.specs.declared.refusal.EntityRefusal.{EntityRefusal}
use Rattle.tp4_entity.specs.Entity.{Entity, at, end_at}
use Rattle.tp4_entity.specs.References.{is_free, least_free}
use Rattle.tp4_entity.specs.Step.{calling_end, connect_refusal, connecting, user_refusal}
use Rattle.tp4_world.specs.Run.{Acts, BeginsAt, Calls, CallsAt, CallsBy, CallsEnd, Connects, ConnectsBy, IsRefused, SendsTpdus, clock_of, transport_wish}
use Rattle.tp4_world.specs.Ended.{has_ended}
use Rattle.tp4_world.specs.Telling.{call_events, drop_events, ends_with, event_for, events_after}
use Rattle.tp4_world.specs.World.{World, end_numbered, entity_at, latest, with_entity}
use Rattle.tp4_world.specs.declared.place.EndAt.{EndAt}
use Rattle.tp4_world.specs.declared.place.Placed.{Placed}
use Rattle.tp4_world.proofs.Entities.{with_found}
use Rattle.law_tp4_lawful.proofs.ActsRows.{IsRowOf, row_of}
use Rattle.law_tp4_lawful.proofs.ActsTold.{ends_stay}
use Rattle.law_tp4_lawful.proofs.Frames.{entity_other}
use Rattle.law_tp4_lawful.proofs.MakesPlaces.{made_last}
use Rattle.law_tp4_lawful.proofs.SilenceRuns.{number_by}
use Rattle.tp4_relay.specs.Service.{ConnectedBy, IsAside, IsRefusal, IsService, ToldBy, ends_more}
use Rattle.law_relay.specs.Services.{AsksEnd, AsksFor, IsInOrder, ends_of, has_system, is_done, is_honest}
use Rattle.law_relay.proofs.CallRows.{CallDoes, CallTells, call_does}
use Rattle.law_relay.proofs.Linking.{stands_by}
use Rattle.law_relay.proofs.StageRows.{AllTold, TellsHeld}
use Rattle.tpdu.specs.declared.service.EndTold.TheVariants as tells

-- ---- what is told beside a call

abbrev AreAsides : List Event → Type 0
AreAsides made = AllByRecursion IsAside made

asides_append : (xs ys : List Event) → AreAsides xs → AreAsides ys → AreAsides (xs ++ ys)
asides_append [] ys first rest = rest
asides_append (x ∷ xs) ys first rest = (first.0, asides_append xs ys first.1 rest)

note_aside : (note : Note) → IsAside (events.Net note)
note_aside note = tt

told_asides : (ups : List (Up (List ℕ))) → All IsNote ups → AreAsides (told ups)
told_asides [] all = tt
told_asides (Noted note ∷ ups) all = (note_aside note, told_asides ups (All-tail IsNote (Noted note) ups all))
told_asides (Came arrival ∷ ups) all = absurd (All-head IsNote (Came arrival) ups all)

drop_asides : (system : ℕ) (answer : Offered) → AreAsides (drop_events system answer)
drop_asides system WasTaken = tt
drop_asides system (Dropped cause) = (tt, tt)

held_aside : (system : ℕ) (address : List ℕ) (number reference : ℕ) (what : What) → TellsHeld what → IsAside (event_for system address number reference what)
held_aside system address number reference (whats.End (tells.Held kind held_number)) is = tt
held_aside system address number reference other is = absurd is

held_asides : (system : ℕ) (address : List ℕ) (ends : List EndAt) (events_told : List EndEvent) → AllTold TellsHeld events_told → AreAsides (events_after ends system address events_told)
held_asides system address ends [] all = tt
held_asides system address ends (one ∷ others) all =
    (held_aside system address _ one.reference one.what all.0, held_asides system address (ends_with ends system one one.what) others all.1)

module _ {C : Type 0} (link : C → Link (List ℕ)) (steps : C → Call (List ℕ) → C → Type 0) (keeps : (old : C) (call : Call (List ℕ)) (new : C) → steps old call new → Keeps (link old) call (link new)) where
  -- what goes out is told beside a call, and then nothing waits
  record WentOut (old : C) (made : List Event) (new : C) : Type 0 where
    asides : AreAsides made
    quiet : (link new).waiting ≡ []
    honest : (link new).honest ≡ (link old).honest

  sent_out : (tpdus : List Sent) (old new : C) (system : ℕ) (own : List ℕ) (made : List Event) → (link old).waiting ≡ [] → SendsTpdus link steps old system own tpdus made new → WentOut old made new
  sent_out [] old new system own made quiet s =
      record { asides = subst AreAsides (sym s.0) tt; quiet = ap (λ (c : C). (link c).waiting) s.1 ∙ quiet; honest = ap (λ (c : C). (link c).honest) s.1 }
  sent_out (sent ∷ tpdus) old new system own made quiet s =
      let one = s.3 in
      let p = one.passes in
      let k = keeps old (Offer (record { from = own; to = sent.to; octets = one.octets }) transport_wish one.answer) p.called p.steps_to in
      let waiting : (link p.called).waiting ≡ k.notes.notes = k.notes.waiting ∙ ap (λ (ws : List (Up (List ℕ))). ws ++ k.notes.notes) quiet in
      let ups : one.ups ≡ k.notes.notes = sym p.gathers.waited ∙ waiting in
      let here : AreAsides s.1 = subst AreAsides (sym one.made_is)
      (asides_append (drop_events system one.answer) (told one.ups) (drop_asides system one.answer) (told_asides one.ups (subst (λ (xs : List (Up (List ℕ))). All IsNote xs) (sym ups) k.notes.all_notes))) in
      let rest = sent_out tpdus s.0 new system own s.2 p.gathers.quiet s.4 in
      record {
        asides = subst AreAsides (sym s.5) (asides_append s.1 s.2 here rest.asides);
        quiet = rest.quiet;
        honest = rest.honest ∙ p.gathers.stands.honest ∙ k.honest;
      }

  some_with : (placed : List Placed) (system : ℕ) (e new : Entity) → entity_at placed system ≡ Some e → (other : ℕ) → IsSome (entity_at placed other) → IsSome (entity_at (with_entity placed system new) other)
  some_with placed system e new is other has = elim (cases_eq other system) [
    | inl same ↦ subst (λ (found : Option Entity). IsSome found) (sym (ap (entity_at (with_entity placed system new)) same ∙ with_found placed system e new is)) refl
    | inr apart ↦ subst (λ (found : Option Entity). IsSome found) (sym (entity_other placed system other new apart)) has
  ]

  -- ---- a request

  -- what it tells and leaves
  record Connected (old : World C) (done : Bool) (made : List Event) (new : World C) : Type 0 where
    told_is : ConnectedBy (ends_of old + 1) done made
    ends : ends_of new ≡ ends_more (ends_of old) done
    has : (other : ℕ) → has_system old other → has_system new other
    honest : is_honest link new ≡ is_honest link old

  done_by : (P : Bool → Type 0) (done is : Bool) (made these : List Event) → done ≡ is_done made → made ≡ these → is_done these ≡ is → P is → P done
  done_by P done is made these done_is made_is answer p = subst P (sym (done_is ∙ ap is_done made_is ∙ answer)) p

  connect_refused : (old new : World C) (done : Bool) (made : List Event) (why : Option Refused) → done ≡ is_done made → IsRefused link steps old why made new → Connected old done made new
  connect_refused old new done made None done_is s = absurd s
  connect_refused old new done made (Some why) done_is s = done_by (λ (d : Bool). Connected old d made new) done false made (events.No why ∷ []) done_is s.0 refl (record {
    told_is = (why, s.0);
    ends = ap (λ (w : World C). ends_of w) s.1;
    has = λ other has. subst (λ (w : World C). has_system w other) (sym s.1) has;
    honest = ap (λ (w : World C). is_honest link w) s.1;
  })

  connect_begun : (old new : World C) (done : Bool) (made : List Event) (system : ℕ) (e : Entity) (request : ConnectRequest) (found : Option ℕ) → done ≡ is_done made → IsInOrder link old → entity_at old.entities system ≡ Some e
      → BeginsAt link steps old system e request found made new → Connected old done made new
  connect_begun old new done made system e request None done_is order there s = absurd s
  connect_begun old new done made system e request (Some reference) done_is order there s =
      let now : ℕ = clock_of link steps old in
      let a = s.1 in
      let out = sent_out (connecting now e reference request).tpdus old.carrier a.below system e.own a.sent order.quiet a.sends in
      done_by (λ (d : Bool). Connected old d made new) done true made _ done_is s.2 refl (record {
        told_is = (_, s.0, s.2, refl, subst AreAsides (sym a.made_is) out.asides);
        ends = ap (λ (w : World C). ends_of w) a.becomes ∙ made_last old.ends (record { system = system; reference = reference });
        has = λ other has. subst (λ (w : World C). has_system w other) (sym a.becomes) (some_with old.entities system e (connecting now e reference request).entity there other has);
        honest = ap (λ (w : World C). is_honest link w) a.becomes ∙ out.honest;
      })

  connect_by : (old new : World C) (done : Bool) (made : List Event) (system : ℕ) (e : Entity) (request : ConnectRequest) (why : Option ConnectRefusal) → done ≡ is_done made → IsInOrder link old → entity_at old.entities system ≡ Some e
      → ConnectsBy link steps old system e request why made new → Connected old done made new
  connect_by old new done made system e request (Some why) done_is order there s = connect_refused old new done made _ done_is s
  connect_by old new done made system e request None done_is order there s = connect_begun old new done made system e request (least_free (clock_of link steps old) e) done_is order there s

  connected : (old new : World C) (system : ℕ) (request : ConnectRequest) (done : Bool) (made : List Event) → AsksFor link steps old system request done made new → Connected old done made new
  connected old new system request done made asks =
      let c = asks.connects in connect_by old new done made system c.0 request (connect_refusal (clock_of link steps old) c.0 request.octets) asks.done_is asks.order c.1 c.2

  -- ---- a call on an end

  record Asked (old : World C) (end : ℕ) (call : UserCall) (done : Bool) (made : List Event) (new : World C) : Type 0 where
    told_is : ToldBy end call done made
    ends : ends_of new ≡ ends_of old
    has : (other : ℕ) → has_system old other → has_system new other
    honest : is_honest link new ≡ is_honest link old

  call_refused : (old new : World C) (end : ℕ) (call : UserCall) (done : Bool) (made : List Event) (why : Option Refused) → done ≡ is_done made → IsRefused link steps old why made new → Asked old end call done made new
  call_refused old new end call done made None done_is s = absurd s
  call_refused old new end call done made (Some why) done_is s = done_by (λ (d : Bool). Asked old end call d made new) done false made (events.No why ∷ []) done_is s.0 refl (record {
    told_is = (why, s.0);
    ends = ap (λ (w : World C). ends_of w) s.1;
    has = λ other has. subst (λ (w : World C). has_system w other) (sym s.1) has;
    honest = ap (λ (w : World C). is_honest link w) s.1;
  })

  -- its own event, and the others
  told_done : (system : ℕ) (address : List ℕ) (ends : List EndAt) (number reference : ℕ) (m : Moved) (done : Bool) (made later sent : List Event) → m.base.own ≡ reference → latest ends system reference ≡ number → done ≡ is_done made
      → AreAsides sent → later ≡ events_after ends system address m.events ++ sent → (call : UserCall) → CallTells call m → made ≡ call_events number call ++ later → (done ≡ true) × ToldBy number call true made
  told_done system address ends number reference m done made later sent base at_n done_is asides later_is (asks.Accept asked octets) told_so made_is =
      let same : latest ends system m.base.own ≡ number = ap (latest ends system) base ∙ at_n in
      let all : made ≡ event_for system address (latest ends system m.base.own) m.base.own (whats.End (tells.Accept told_so.0 octets)) ∷ (events_after ends system address told_so.1 ++ sent) =
      made_is ∙ later_is ∙ ap (λ (es : List EndEvent). events_after ends system address es ++ sent) told_so.2 in
      (done_is ∙ ap is_done all, (_, _, all, (_, ap (λ (n : ℕ). event_for system address n m.base.own (whats.End (tells.Accept told_so.0 octets))) same), asides_append (events_after ends system address told_so.1) sent (held_asides system address ends told_so.1 told_so.3) asides))
  told_done system address ends number reference m done made later sent base at_n done_is asides later_is (asks.Window credit) told_so made_is =
      let same : latest ends system m.base.own ≡ number = ap (latest ends system) base ∙ at_n in
      let all : made ≡ event_for system address (latest ends system m.base.own) m.base.own (whats.End (tells.Window told_so.0)) ∷ (events_after ends system address told_so.1 ++ sent) =
      made_is ∙ later_is ∙ ap (λ (es : List EndEvent). events_after ends system address es ++ sent) told_so.2 in
      (done_is ∙ ap is_done all, (_, _, all, (_, ap (λ (n : ℕ). event_for system address n m.base.own (whats.End (tells.Window told_so.0))) same), asides_append (events_after ends system address told_so.1) sent (held_asides system address ends told_so.1 told_so.3) asides))
  told_done system address ends number reference m done made later sent base at_n done_is asides later_is (asks.Refuse octets) told_so made_is =
      (done_is ∙ ap is_done made_is, (_, later, made_is, refl, subst AreAsides (sym later_is) (asides_append (events_after ends system address m.events) sent (held_asides system address ends m.events told_so) asides)))
  told_done system address ends number reference m done made later sent base at_n done_is asides later_is (asks.Normal octets) told_so made_is =
      (done_is ∙ ap is_done made_is, (_, later, made_is, refl, subst AreAsides (sym later_is) (asides_append (events_after ends system address m.events) sent (held_asides system address ends m.events told_so) asides)))
  told_done system address ends number reference m done made later sent base at_n done_is asides later_is (asks.Urgent octets) told_so made_is =
      (done_is ∙ ap is_done made_is, (_, later, made_is, refl, subst AreAsides (sym later_is) (asides_append (events_after ends system address m.events) sent (held_asides system address ends m.events told_so) asides)))
  told_done system address ends number reference m done made later sent base at_n done_is asides later_is (asks.Disconnect octets) told_so made_is =
      (done_is ∙ ap is_done made_is, (_, later, made_is, refl, subst AreAsides (sym later_is) (asides_append (events_after ends system address m.events) sent (held_asides system address ends m.events told_so) asides)))

  call_done : (old new : World C) (done : Bool) (made later : List Event) (number system reference : ℕ) (e : Entity) (call : UserCall) (place : Option End) → done ≡ is_done made → IsInOrder link old
      → entity_at old.entities system ≡ Some e → latest old.ends system reference ≡ number → end_at e reference ≡ place → (one : End) → place ≡ Some one → call_refusal one.base one.stage call ≡ None
      → Acts link steps old system e.own (calling_end wire (clock_of link steps old) (at (clock_of link steps old) e) reference call place) later new → made ≡ call_events number call ++ later → Asked old number call done made new
  call_done old new done made later number system reference e call None done_is order there at_n is one some fine a made_is = absurd (cc some)
  call_done old new done made later number system reference e call (Some end) done_is order there at_n is one some fine a made_is =
      let now : ℕ = clock_of link steps old in
      let same : end ≡ one = cc some in
      let allowed : call_refusal end.base end.stage call ≡ None = ap (λ (x : End). call_refusal x.base x.stage call) same ∙ fine in
      let m : Moved = stepped wire now end (Called call) in
      let row : IsRowOf reference m = row_of wire now reference end (Called call) (order.of system e there reference end is) in
      let does : CallDoes end.stage call m = call_does wire now end call allowed in
      let out = sent_out m.tpdus old.carrier a.below system e.own a.sent order.quiet a.sends in
      let all = told_done system e.own old.ends number reference m done made later a.sent row.base at_n done_is out.asides a.made_is call does.told made_is in
      subst (λ (d : Bool). Asked old number call d made new) (sym all.0) (record {
        told_is = all.1;
        ends = ap (λ (w : World C). ends_of w) a.becomes ∙ ap (λ (es : List EndAt). length es) (ends_stay system e.own old.ends reference m.events row.told);
        has = λ other has. subst (λ (w : World C). has_system w other) (sym a.becomes) (some_with old.entities system e _ there other has);
        honest = ap (λ (w : World C). is_honest link w) a.becomes ∙ out.honest;
      })

  call_by : (old new : World C) (done : Bool) (made : List Event) (number : ℕ) (end : EndAt) (e : Entity) (call : UserCall) (why : Option EntityRefusal) → done ≡ is_done made → IsInOrder link old
      → entity_at old.entities end.system ≡ Some e → latest old.ends end.system end.reference ≡ number → user_refusal e end.reference call ≡ why → CallsBy link steps wire old number end e call why made new → Asked old number call done made new
  call_by old new done made number end e call (Some why) done_is order there at_n is s = call_refused old new number call done made _ done_is s
  call_by old new done made number end e call None done_is order there at_n is s =
      let stands = stands_by call (end_at e end.reference) is in
      call_done old new done made s.0 number end.system end.reference e call (end_at e end.reference) done_is order there at_n refl stands.0 stands.1 stands.2 s.1 s.2

  call_end : (old new : World C) (done : Bool) (made : List Event) (number : ℕ) (end : EndAt) (e : Entity) (call : UserCall) (ended : Bool) → done ≡ is_done made → IsInOrder link old
      → entity_at old.entities end.system ≡ Some e → has_ended (clock_of link steps old) old.ends number end e ≡ ended → CallsEnd link steps wire old number end e call ended made new → Asked old number call done made new
  call_end old new done made number end e call true done_is order there is s = call_refused old new number call done made (Some refusals.Ended) done_is s
  call_end old new done made number end e call false done_is order there is s =
      call_by old new done made number end e call (user_refusal e end.reference call) done_is order there
      (number_by (latest old.ends end.system end.reference == number) (latest old.ends end.system end.reference) number
      (is_none (end_at e end.reference) || is_free (clock_of link steps old) e end.reference) refl is) refl s

  call_at : (old new : World C) (done : Bool) (made : List Event) (number : ℕ) (call : UserCall) (end : Option EndAt) → done ≡ is_done made → IsInOrder link old → CallsAt link steps wire old number call end made new
      → Asked old number call done made new
  call_at old new done made number call None done_is order s = call_refused old new number call done made (Some refusals.NoSuchEnd) done_is s
  call_at old new done made number call (Some end) done_is order s = call_end old new done made number end s.0 call (has_ended (clock_of link steps old) old.ends number end s.0) done_is order s.1 refl s.2

  asked : (old new : World C) (end : ℕ) (call : UserCall) (done : Bool) (made : List Event) → AsksEnd link steps old end call done made new → Asked old end call done made new
  asked old new end call done made asks = call_at old new done made end call (end_numbered old.ends end) asks.done_is asks.order asks.calls

  pub world_serves : IsService has_system ends_of (is_honest link) (AsksFor link steps) (AsksEnd link steps)
  world_serves = record {
    connected = λ old system request done made new h. (connected old new system request done made h).told_is;
    counted = λ old system request done made new h. (connected old new system request done made h).ends;
    connect_has = λ old system request done made new h. (connected old new system request done made h).has;
    connect_honest = λ old system request done made new h. (connected old new system request done made h).honest;
    told = λ old end call done made new h. (asked old new end call done made h).told_is;
    call_ends = λ old end call done made new h. (asked old new end call done made h).ends;
    call_has = λ old end call done made new h. (asked old new end call done made h).has;
    call_honest = λ old end call done made new h. (asked old new end call done made h).honest;
  }
