-- Each line of a script tells of the frames that the LANs number in it: what users and ends do tells none, and what comes up from the network tells
-- those that it numbered.
use Rattle.std.proofs.Common.{◌≡◌, ℕ, ◌+◌, Bool, true, false, List, [], ◌∷◌, ◌++◌, length, take, drop, Option, None, Some, refl, sym, ◌∙◌, ap, subst}
use Rattle.std.specs.Prelude.{if◌then◌else◌, ◌==◌}
use Rattle.std.proofs.lemmas.List.{length-map}
use Rattle.nsap.specs.Address.{selector_of}
use Rattle.osi_base.specs.declared.note.Note.{Note}
use Rattle.osi_base.specs.declared.note.Note.TheVariants as notes
use Rattle.osi_base.specs.declared.unit.Arrival.{Arrival}
use Rattle.osi_base.specs.declared.unit.Injected.{Injected}
use Rattle.osi_base.specs.declared.unit.Injected.TheVariants as injects
use Rattle.osi_base.specs.declared.unit.Offered.{Offered}
use Rattle.osi_base.specs.declared.unit.Offered.TheVariants.{Taken as WasTaken, Dropped}
use Rattle.osi_base.specs.declared.unit.Picked.{Picked}
use Rattle.osi_base.specs.declared.unit.Picked.TheVariants as picks
use Rattle.osi_base.specs.declared.unit.Up.{Up}
use Rattle.osi_base.specs.declared.unit.Up.TheVariants.{Unit as Came, Note as Noted}
use Rattle.osi_base.specs.declared.unit.Wish.{Wish}
use Rattle.osi_base.specs.Calls.{Call}
use Rattle.lan_step.specs.Bag.{Bag, new_bag}
use Rattle.lan_step.specs.Frames.{kept_at}
use Rattle.lan_step.specs.declared.row.PortRow.{PortRow}
use Rattle.script_journal.specs.RawLawful.{clock_after, clock_from, raw_address}
use Rattle.script_journal.specs.declared.cause.Refused.{Refused}
use Rattle.script_journal.specs.declared.cause.Refused.TheVariants as refusals
use Rattle.script_journal.specs.declared.event.Event.{Event}
use Rattle.script_journal.specs.declared.event.Event.TheVariants as events
use Rattle.script_lines.specs.declared.line.Line.{Line}
use Rattle.script_lines.specs.declared.line.Line.TheVariants as lines
use Rattle.net_world.specs.Run.{SendsUnit}
use Rattle.net_world.specs.Told.{picked_event, sent_event, shown_at, told}
use Rattle.net_world.proofs.Journals.{clock_from-append}
use Rattle.tp4_conn.specs.declared.call.ConnectRequest.{ConnectRequest}
use Rattle.tp4_conn.specs.declared.call.UserCall.{UserCall}
use Rattle.tp4_conn.specs.declared.call.UserCall.TheVariants as asks
use Rattle.tp4_entity.specs.declared.refusal.ConnectRefusal.{ConnectRefusal}
use Rattle.tp4_entity.specs.declared.refusal.EntityRefusal.{EntityRefusal}
use Rattle.tp4_entity.specs.Entity.{Acted, Entity}
use Rattle.tp4_entity.specs.References.{least_free}
use Rattle.tp4_entity.specs.Step.{calling, connect_refusal, user_refusal}
use Rattle.tp4_flow.specs.declared.step.EndEvent.{EndEvent}
use Rattle.tp4_flow.specs.declared.step.Sent.{Sent}
use Rattle.tp4_flow.specs.declared.step.What.{What}
use Rattle.tp4_flow.specs.declared.step.What.TheVariants as whats
use Rattle.tp4_number.specs.Number.{wire}
use Rattle.script_setup.specs.SetUp.{SetUp, nodes_of, set_up, timers_of, titles_of as titles_said}
use Rattle.law_setup.specs.Entities.{entities_of}
use Rattle.tp4_world.specs.Run.{Acts, Arrives, BeginsAt, Calls, CallsAt, CallsBy, CallsEnd, ConnectsBy, HearsAll, HearsIf, IsRefused, NoneDue, NoneLeft, OneDue, OneMore, RunsLine, SendsTpdus, Settles, Ticks, TicksAll, TicksEntity, TooMany, clock_of, is_for}
use Rattle.tp4_world.specs.Ended.{has_ended}
use Rattle.tp4_world.specs.Telling.{call_events, connect_event, drop_events, ends_with, event_for, events_after, inject_event}
use Rattle.tp4_world.specs.World.{end_numbered, entity_at, latest}
use Rattle.tp4_world.specs.declared.place.EndAt.{EndAt}
use Rattle.tp4_world.specs.declared.place.Placed.{Placed}
use Rattle.script_frames.specs.Frames.{AreTold, ToldFrame, new_slots, sent_in, slots_of, told_by, told_from}
use Rattle.law_run.specs.World.{TransportNet, Net, NetDoes, SetsUp, StartsUp, WorldStep, is_start, link_of_net, running}
use Rattle.law_run.proofs.WorldLaws.{ran_line, started}
use Rattle.law_run.specs.World.{World}
use Rattle.script_world.specs.declared.play.World.TheVariants.{SettingUp, Running}
use Rattle.script_frames.proofs.ToldFrames.{ArePlain, Grows, IsPlain, counted, entries_length, first_told, grows_none, grows_on, new_told, noted, noted_by, plain_clock, plain_none, told_from-append, told_length}
use Rattle.script_frames.proofs.ToldNet.{ChoosesFrame, InjectsOctets, IsNoTick, IsQuiet, OffersUnit, Passed, gathered, later, passed, tick_passed, ticks_grow}
use Rattle.tp4_conn.specs.declared.timers.Timers.{Timers}

-- ---- events

-- an event that is no tick and no frame
note_told : (note : Note) → (now : ℕ) → (told_by now (events.Net note) ≡ noted_by now note) × (clock_after now (events.Net note) ≡ now)
note_told (notes.Frame number lan system snpa size) now = (refl, refl)
note_told (notes.DropFrame system) now = (refl, refl)
note_told (notes.Discard system reason place) now = (refl, refl)
note_told (notes.Report system reason place) now = (refl, refl)
note_told (notes.Alien system) now = (refl, refl)
note_told (notes.BadHello system cause) now = (refl, refl)
note_told (notes.HelloFull system) now = (refl, refl)
note_told (notes.Hello system kind snpa) now = (refl, refl)
note_told (notes.Redirect system address snpa) now = (refl, refl)

shown_plain : (raw : Bool) (system : ℕ) (from octets : List ℕ) → ArePlain (if raw then events.Unit system from octets ∷ [] else [])
shown_plain true system from octets = (record { none = λ now. refl; clock = λ now. refl }, tt)
shown_plain false system from octets = tt

-- what comes up tells the frames that it notes, and leaves the clock
ups_told : (ups : List (Up (List ℕ))) (now : ℕ) → (told_from now (told ups) ≡ noted now ups) × (clock_from now (told ups) ≡ now)
ups_told [] now = (refl, refl)
ups_told (Noted note ∷ ups) now =
    let one = note_told note now in
    let rest = ups_told ups now in (
      ap (λ (n : ℕ). told_by now (events.Net note) ++ told_from n (told ups)) one.1 ∙ ap (λ (fs : List ToldFrame). fs ++ told_from now (told ups)) one.0
          ∙ ap (λ (fs : List ToldFrame). noted_by now note ++ fs) rest.0,
      ap (λ (n : ℕ). clock_from n (told ups)) one.1 ∙ rest.1,
    )
ups_told (Came arrival ∷ ups) now =
    let here : List Event = shown_at arrival.system arrival.unit in
    let plain = shown_plain (selector_of arrival.unit.to == 2) arrival.system arrival.unit.from arrival.unit.octets in
    let still : clock_from now here ≡ now = plain_clock now here plain in
    let rest = ups_told ups now in (
      told_from-append now here (told ups) ∙ ap (λ (fs : List ToldFrame). fs ++ told_from (clock_from now here) (told ups)) (plain_none now here plain)
          ∙ ap (λ (n : ℕ). told_from n (told ups)) still ∙ rest.0,
      clock_from-append now here (told ups) ∙ ap (λ (n : ℕ). clock_from n (told ups)) still ∙ rest.1,
    )

drop_plain : (system : ℕ) (answer : Offered) → ArePlain (drop_events system answer)
drop_plain system WasTaken = tt
drop_plain system (Dropped cause) = (record { none = λ now. refl; clock = λ now. refl }, tt)

sent_plain : (system : ℕ) (to octets : List ℕ) (answer : Offered) → IsPlain (sent_event system to octets answer)
sent_plain system to octets WasTaken = record { none = λ now. refl; clock = λ now. refl }
sent_plain system to octets (Dropped cause) = record { none = λ now. refl; clock = λ now. refl }

picked_plain : (number system : ℕ) (answer : Picked) → IsPlain (picked_event number system answer)
picked_plain number system picks.Taken = record { none = λ now. refl; clock = λ now. refl }
picked_plain number system picks.NoSuch = record { none = λ now. refl; clock = λ now. refl }
picked_plain number system picks.Late = record { none = λ now. refl; clock = λ now. refl }
picked_plain number system picks.NotThere = record { none = λ now. refl; clock = λ now. refl }
picked_plain number system picks.NotOurs = record { none = λ now. refl; clock = λ now. refl }

inject_plain : (system : ℕ) (answer : Injected) → IsPlain (inject_event system answer)
inject_plain system injects.Taken = record { none = λ now. refl; clock = λ now. refl }
inject_plain system injects.NotThere = record { none = λ now. refl; clock = λ now. refl }

call_plain : (number : ℕ) (call : UserCall) → ArePlain (call_events number call)
call_plain number (asks.Accept options octets) = tt
call_plain number (asks.Refuse octets) = (record { none = λ now. refl; clock = λ now. refl }, tt)
call_plain number (asks.Normal octets) = (record { none = λ now. refl; clock = λ now. refl }, tt)
call_plain number (asks.Urgent octets) = (record { none = λ now. refl; clock = λ now. refl }, tt)
call_plain number (asks.Window credit) = tt
call_plain number (asks.Disconnect octets) = (record { none = λ now. refl; clock = λ now. refl }, tt)

event_plain : (system : ℕ) (own : List ℕ) (number reference : ℕ) (what : What) → IsPlain (event_for system own number reference what)
event_plain system own number reference (whats.Incoming from partner calling called options octets) = record { none = λ now. refl; clock = λ now. refl }
event_plain system own number reference (whats.End what) = record { none = λ now. refl; clock = λ now. refl }
event_plain system own number reference (whats.BadTpdu cause place) = record { none = λ now. refl; clock = λ now. refl }
event_plain system own number reference (whats.Unknown kind) = record { none = λ now. refl; clock = λ now. refl }
event_plain system own number reference whats.Silent = record { none = λ now. refl; clock = λ now. refl }

ends_plain : (all : List EndEvent) (ends : List EndAt) (system : ℕ) (own : List ℕ) → ArePlain (events_after ends system own all)
ends_plain [] ends system own = tt
ends_plain (one ∷ others) ends system own =
    let next = ends_with ends system one one.what in
    (event_plain system own (latest next system one.reference) one.reference one.what, ends_plain others next system own)

-- ---- networks

-- events that leave the clock tell the frames that the LANs numbered, and nothing waits any more
pub record Tells (old new : Net) (made : List Event) : Type 0 where
  pub grows : Grows old.link new.link (told_from old.link.clock made)
  pub still : clock_from old.link.clock made ≡ old.link.clock
  pub quiet : IsQuiet new

tells_plain : (net : Net) (made : List Event) → IsQuiet net → ArePlain made → Tells net net made
tells_plain net made quiet plain = record {
  grows = subst (λ (fs : List ToldFrame). Grows net.link net.link fs) (sym (plain_none net.link.clock made plain)) (grows_none net.link net.link refl refl refl quiet.below);
  still = plain_clock net.link.clock made plain;
  quiet = quiet;
}

tells_on : (a b c : Net) (xs ys made : List Event) → made ≡ xs ++ ys → Tells a b xs → (IsQuiet b → Tells b c ys) → Tells a c made
tells_on a b c xs ys made is f after =
    let g = after f.quiet in
    let all : told_from a.link.clock (xs ++ ys) ≡ told_from a.link.clock xs ++ told_from a.link.clock ys =
    told_from-append a.link.clock xs ys ∙ ap (λ (n : ℕ). told_from a.link.clock xs ++ told_from n ys) f.still in
    record {
      grows = subst (λ (m : List Event). Grows a.link c.link (told_from a.link.clock m)) (sym is)
          (subst (λ (fs : List ToldFrame). Grows a.link c.link fs) (sym all)
          (grows_on a.link b.link c.link (told_from a.link.clock xs) (told_from a.link.clock ys) f.grows
          (subst (λ (n : ℕ). Grows b.link c.link (told_from n ys)) f.grows.clock g.grows)));
      still = ap (λ (m : List Event). clock_from a.link.clock m) is ∙ clock_from-append a.link.clock xs ys ∙ ap (λ (n : ℕ). clock_from n ys) f.still
          ∙ subst (λ (n : ℕ). clock_from n ys ≡ n) f.grows.clock g.still;
      quiet = g.quiet;
    }

-- nothing happens, or plain events alone
stays : (old new : Net) (made : List Event) → IsQuiet old → ArePlain made → new ≡ old → Tells old new made
stays old new made quiet plain same = subst (λ (n : Net). Tells old n made) (sym same) (tells_plain old made quiet plain)

nothing : (old new : Net) (made : List Event) → IsQuiet old → made ≡ [] → new ≡ old → Tells old new made
nothing old new made quiet none same = stays old new made quiet (subst (λ (m : List Event). ArePlain m) (sym none) tt) same

-- plain events, and then what came up
passes_tell : (old new : Net) (front : List Event) (ups : List (Up (List ℕ))) (made : List Event) → IsQuiet old → ArePlain front → made ≡ front ++ told ups → Passed old.link ups new → Tells old new made
passes_tell old new front ups made quiet plain is p =
    tells_on old old new front (told ups) made is (tells_plain old front quiet plain) (λ _. record {
      grows = subst (λ (fs : List ToldFrame). Grows old.link new.link fs) (sym (ups_told ups old.link.clock).0) p.grows;
      still = (ups_told ups old.link.clock).1;
      quiet = p.quiet;
    })

-- ---- ends

tpdus_tell : (tpdus : List Sent) (old : Net) (system : ℕ) (own : List ℕ) (made : List Event) (new : Net) → IsQuiet old → SendsTpdus link_of_net NetDoes old system own tpdus made new → Tells old new made
tpdus_tell [] old system own made new quiet h = nothing old new made quiet h.0 h.1
tpdus_tell (sent ∷ tpdus) old system own made new quiet h =
    let one = h.3 in
    tells_on old h.0 new h.1 h.2 made h.5
    (passes_tell old h.0 (drop_events system one.answer) one.ups h.1 quiet (drop_plain system one.answer) one.made_is
    (passed old _ one.ups h.0 (OffersUnit _ _ one.answer) quiet one.passes))
    (λ still. tpdus_tell tpdus h.0 system own h.2 new still h.4)

acts_tell : (old : TransportNet) (system : ℕ) (own : List ℕ) (acted : Acted) (made : List Event) (new : TransportNet) → IsQuiet old.carrier → Acts link_of_net NetDoes old system own acted made new
    → Tells old.carrier new.carrier made
acts_tell old system own acted made new quiet h =
    subst (λ (n : Net). Tells old.carrier n made) (sym (ap (λ (w : TransportNet). w.carrier) h.becomes))
    (tells_on old.carrier old.carrier h.below (events_after old.ends system own acted.events) h.sent made h.made_is
    (tells_plain old.carrier (events_after old.ends system own acted.events) quiet (ends_plain acted.events old.ends system own))
    (λ still. tpdus_tell acted.tpdus old.carrier system own h.sent h.below still h.sends))

refused_tells : (old new : TransportNet) (why : Option Refused) (made : List Event) → IsQuiet old.carrier → IsRefused link_of_net NetDoes old why made new → Tells old.carrier new.carrier made
refused_tells old new None made quiet h = absurd h
refused_tells old new (Some why) made quiet h =
    stays old.carrier new.carrier made quiet (subst (λ (m : List Event). ArePlain m) (sym h.0) (record { none = λ now. refl; clock = λ now. refl }, tt)) (ap (λ (w : TransportNet). w.carrier) h.1)

begins_tell : (old new : TransportNet) (system : ℕ) (entity : Entity) (request : ConnectRequest) (found : Option ℕ) (made : List Event) → IsQuiet old.carrier
    → BeginsAt link_of_net NetDoes old system entity request found made new → Tells old.carrier new.carrier made
begins_tell old new system entity request None made quiet h = absurd h
begins_tell old new system entity request (Some reference) made quiet h =
    let event : Event = connect_event (length old.ends + 1) system reference entity.own request in
    tells_on old.carrier old.carrier new.carrier (event ∷ []) h.0 made h.2
    (tells_plain old.carrier (event ∷ []) quiet (record { none = λ now. refl; clock = λ now. refl }, tt))
    (λ still. acts_tell (record old { ends = old.ends ++ record { system = system; reference = reference } ∷ [] }) system entity.own _ h.0 new still h.1)

connect_tells : (old new : TransportNet) (system : ℕ) (entity : Entity) (request : ConnectRequest) (why : Option ConnectRefusal) (made : List Event) → IsQuiet old.carrier
    → ConnectsBy link_of_net NetDoes old system entity request why made new → Tells old.carrier new.carrier made
connect_tells old new system entity request (Some why) made quiet h = refused_tells old new _ made quiet h
connect_tells old new system entity request None made quiet h = begins_tell old new system entity request (least_free (clock_of link_of_net NetDoes old) entity) made quiet h

call_by : (old new : TransportNet) (number : ℕ) (end : EndAt) (entity : Entity) (call : UserCall) (why : Option EntityRefusal) (made : List Event) → IsQuiet old.carrier
    → CallsBy link_of_net NetDoes wire old number end entity call why made new → Tells old.carrier new.carrier made
call_by old new number end entity call (Some why) made quiet h = refused_tells old new _ made quiet h
call_by old new number end entity call None made quiet h =
    tells_on old.carrier old.carrier new.carrier (call_events number call) h.0 made h.2 (tells_plain old.carrier (call_events number call) quiet (call_plain number call))
    (λ still. acts_tell old end.system entity.own _ h.0 new still h.1)

call_end : (old new : TransportNet) (number : ℕ) (end : EndAt) (entity : Entity) (call : UserCall) (ended : Bool) (made : List Event) → IsQuiet old.carrier
    → CallsEnd link_of_net NetDoes wire old number end entity call ended made new → Tells old.carrier new.carrier made
call_end old new number end entity call true made quiet h = refused_tells old new (Some refusals.Ended) made quiet h
call_end old new number end entity call false made quiet h = call_by old new number end entity call (user_refusal entity end.reference call) made quiet h

call_at : (old new : TransportNet) (number : ℕ) (call : UserCall) (end : Option EndAt) (made : List Event) → IsQuiet old.carrier → CallsAt link_of_net NetDoes wire old number call end made new
    → Tells old.carrier new.carrier made
call_at old new number call None made quiet h = refused_tells old new (Some refusals.NoSuchEnd) made quiet h
call_at old new number call (Some end) made quiet h = call_end old new number end h.0 call (has_ended (clock_of link_of_net NetDoes old) old.ends number end h.0) made quiet h.2

called_tell : (old new : TransportNet) (number : ℕ) (call : UserCall) (made : List Event) → IsQuiet old.carrier → Calls link_of_net NetDoes wire old number call made new → Tells old.carrier new.carrier made
called_tell old new number call made quiet h = call_at old new number call (end_numbered old.ends number) made quiet h

-- ---- what comes up

hears_tell : (old new : TransportNet) (arrival : Arrival (List ℕ)) (found : Option Entity) (fits : Bool) (made : List Event) → IsQuiet old.carrier
    → HearsIf link_of_net NetDoes wire old arrival found fits made new → Tells old.carrier new.carrier made
hears_tell old new arrival None fits made quiet h = nothing old.carrier new.carrier made quiet h.0 (ap (λ (w : TransportNet). w.carrier) h.1)
hears_tell old new arrival (Some entity) false made quiet h = nothing old.carrier new.carrier made quiet h.0 (ap (λ (w : TransportNet). w.carrier) h.1)
hears_tell old new arrival (Some entity) true made quiet h = acts_tell old arrival.system entity.own h.0 made new quiet h.2

all_hear : (ups : List (Up (List ℕ))) (old new : TransportNet) (made : List Event) → IsQuiet old.carrier → HearsAll link_of_net NetDoes wire old ups made new → Tells old.carrier new.carrier made
all_hear [] old new made quiet h = nothing old.carrier new.carrier made quiet h.0 (ap (λ (w : TransportNet). w.carrier) h.1)
all_hear (Noted note ∷ ups) old new made quiet h = all_hear ups old new made quiet h
all_hear (Came arrival ∷ ups) old new made quiet h =
    tells_on old.carrier h.0.carrier new.carrier h.1 h.2 made h.5
    (hears_tell old h.0 arrival (entity_at old.entities arrival.system) (is_for link_of_net NetDoes wire arrival.unit.to (entity_at old.entities arrival.system)) h.1 quiet h.3)
    (λ still. all_hear ups h.0 new h.2 still h.4)

arrives_tell : (old new : TransportNet) (call : Call (List ℕ)) (own : Event) (made : List Event) → IsNoTick call → IsPlain own → IsQuiet old.carrier → Arrives link_of_net NetDoes wire old call own made new
    → Tells old.carrier new.carrier made
arrives_tell old new call own made no_tick plain quiet h =
    tells_on old.carrier h.below new.carrier (own ∷ told h.ups) h.later made h.made_is
    (passes_tell old.carrier h.below (own ∷ []) h.ups (own ∷ told h.ups) quiet (plain, tt) refl (passed old.carrier call h.ups h.below no_tick quiet h.passes))
    (λ still. all_hear h.ups (record old { carrier = h.below }) new h.later still h.hears)

-- ---- ticks

entity_tells : (system : ℕ) (old : TransportNet) (made : List Event) (new : TransportNet) → TicksEntity link_of_net NetDoes wire system old made new → IsQuiet old.carrier → Tells old.carrier new.carrier made
entity_tells system old made new (NoneDue o m n entity there none made_is becomes) quiet = nothing old.carrier new.carrier made quiet made_is (ap (λ (w : TransportNet). w.carrier) becomes)
entity_tells system old made new (OneDue o m n entity reference mid here rest there due acts others made_is) quiet =
    tells_on old.carrier mid.carrier new.carrier here rest made made_is (acts_tell old system entity.own _ here mid quiet acts) (λ still. entity_tells system mid rest new others still)

all_tick : (placed : List Placed) (old new : TransportNet) (made : List Event) → IsQuiet old.carrier → TicksAll link_of_net NetDoes wire old placed made new → Tells old.carrier new.carrier made
all_tick [] old new made quiet h = nothing old.carrier new.carrier made quiet h.0 (ap (λ (w : TransportNet). w.carrier) h.1)
all_tick (one ∷ placed) old new made quiet h =
    tells_on old.carrier h.0.carrier new.carrier h.1 h.2 made h.5 (entity_tells one.system old h.1 h.0 h.3 quiet) (λ still. all_tick placed h.0 new h.2 still h.4)

settles_tell : (count : ℕ) (old : TransportNet) (made : List Event) (new : TransportNet) → Settles link_of_net NetDoes wire count old made new → IsQuiet old.carrier → Tells old.carrier new.carrier made
settles_tell count old made new (NoneLeft n o m l fresh made_is same) quiet =
    stays old.carrier new.carrier made quiet (subst (λ (es : List Event). ArePlain es) (sym made_is) (record { none = λ now. refl; clock = λ now. refl }, tt)) (ap (λ (w : TransportNet). w.carrier) same)
settles_tell count old made new (TooMany n o m l pair fresh most made_is same) quiet =
    stays old.carrier new.carrier made quiet (subst (λ (es : List Event). ArePlain es) (sym made_is) (record { none = λ now. refl; clock = λ now. refl }, tt)) (ap (λ (w : TransportNet). w.carrier) same)
settles_tell count old made new (OneMore n o m l pair mid here rest fresh low delivers settles made_is) quiet =
    tells_on old.carrier mid.carrier new.carrier here rest made made_is
    (arrives_tell old mid _ (picked_event pair.0 pair.1 picks.Taken) here (ChoosesFrame pair.0 pair.1 picks.Taken) (picked_plain pair.0 pair.1 picks.Taken) quiet delivers)
    (λ still. settles_tell (count + 1) mid rest new settles still)

-- ---- lines

-- the events of a line tell the frames that the LANs numbered in it. In a tick the clock of the LANs moves first
pub record LineTells (old new : Net) (made : List Event) : Type 0 where
  pub frames : List ToldFrame
  pub are : told_from old.link.clock made ≡ frames
  pub before : Bag
  pub same : length before.frames ≡ length old.link.frames
  pub ports : before.rows ≡ old.link.rows
  pub grows : Grows before new.link frames
  pub clock : clock_from old.link.clock made ≡ new.link.clock
  pub quiet : IsQuiet new

at_once : (old new : Net) (made : List Event) → Tells old new made → LineTells old new made
at_once old new made t = record {
  frames = told_from old.link.clock made;
  are = refl;
  before = old.link;
  same = refl;
  ports = refl;
  grows = t.grows;
  clock = t.still ∙ sym t.grows.clock;
  quiet = t.quiet;
}

ticks_tell : (old new : TransportNet) (made : List Event) → IsQuiet old.carrier → Ticks link_of_net NetDoes wire old made new → LineTells old.carrier new.carrier made
ticks_tell old new made quiet h =
    let now : ℕ = old.carrier.link.clock + 1 in
    let p = tick_passed old.carrier h.ups h.below quiet h.passes in
    let rest = all_tick old.entities (record old { carrier = h.below }) new h.later p.quiet h.all in
    let at : h.below.link.clock ≡ now = p.grows.clock in
    let ups = ups_told h.ups now in
    record {
      frames = noted now h.ups ++ told_from h.below.link.clock h.later;
      are = ap (told_from old.carrier.link.clock) h.made_is ∙ told_from-append now (told h.ups) h.later
          ∙ ap (λ (n : ℕ). told_from now (told h.ups) ++ told_from n h.later) (ups.1 ∙ sym at) ∙ ap (λ (fs : List ToldFrame). fs ++ told_from h.below.link.clock h.later) ups.0;
      before = later old.carrier.link;
      same = length-map old.carrier.link.frames (kept_at now old.carrier.link.lans);
      ports = refl;
      grows = grows_on (later old.carrier.link) h.below.link new.carrier.link (noted now h.ups) (told_from h.below.link.clock h.later) p.grows rest.grows;
      clock = ap (clock_from old.carrier.link.clock) h.made_is ∙ clock_from-append now (told h.ups) h.later ∙ ap (λ (n : ℕ). clock_from n h.later) (ups.1 ∙ sym at)
          ∙ rest.still ∙ sym rest.grows.clock;
      quiet = rest.quiet;
    }

raw_tells : (old new : Net) (system : ℕ) (sender receiver : List ℕ) (wish : Wish) (octets : List ℕ) (made : List Event) → IsQuiet old
    → SendsUnit link_of_net NetDoes old system sender receiver wish octets made new → Tells old new made
raw_tells old new system sender receiver wish [] made quiet h =
    stays old new made quiet (subst (λ (m : List Event). ArePlain m) (sym h.0) (record { none = λ now. refl; clock = λ now. refl }, tt)) h.1
raw_tells old new system sender receiver wish (octet ∷ octets) made quiet h =
    passes_tell old new (sent_event system (raw_address receiver) (octet ∷ octets) h.0 ∷ []) h.1 made quiet (sent_plain system (raw_address receiver) (octet ∷ octets) h.0, tt) h.3
    (passed old _ h.1 new (OffersUnit _ wish h.0) quiet h.2)

pub line_tells : (titles : List (List ℕ)) (line : Line) (old new : TransportNet) (made : List Event) → IsQuiet old.carrier → RunsLine link_of_net NetDoes wire titles old line made new
    → LineTells old.carrier new.carrier made
line_tells titles lines.Nothing old new made quiet h = at_once old.carrier new.carrier made (nothing old.carrier new.carrier made quiet h.0 (ap (λ (w : TransportNet). w.carrier) h.1))
line_tells titles (lines.Connect system selector to called options octets) old new made quiet h =
    let c = h.4.4 in
    at_once old.carrier new.carrier made (connect_tells old new system c.0 h.1 (connect_refusal (clock_of link_of_net NetDoes old) c.0 h.1.octets) made quiet c.2)
line_tells titles (lines.Accept end options octets) old new made quiet h = at_once old.carrier new.carrier made (called_tell old new end (asks.Accept options octets) made quiet h)
line_tells titles (lines.Refuse end octets) old new made quiet h = at_once old.carrier new.carrier made (called_tell old new end (asks.Refuse octets) made quiet h)
line_tells titles (lines.Disconnect end octets) old new made quiet h = at_once old.carrier new.carrier made (called_tell old new end (asks.Disconnect octets) made quiet h)
line_tells titles (lines.Data end octets) old new made quiet h = at_once old.carrier new.carrier made (called_tell old new end (asks.Normal octets) made quiet h)
line_tells titles (lines.Expedite end octets) old new made quiet h = at_once old.carrier new.carrier made (called_tell old new end (asks.Urgent octets) made quiet h)
line_tells titles (lines.Window end credit) old new made quiet h = at_once old.carrier new.carrier made (called_tell old new end (asks.Window credit) made quiet h)
line_tells titles (lines.Unit system to wish octets) old new made quiet h =
    let raw = h.4 in
    at_once old.carrier new.carrier made
    (subst (λ (n : Net). Tells old.carrier n made) (sym (ap (λ (w : TransportNet). w.carrier) raw.2)) (raw_tells old.carrier raw.0 system h.0 h.1 wish octets made quiet raw.1))
line_tells titles lines.Tick old new made quiet h = ticks_tell old new made quiet h
line_tells titles (lines.Deliver number system) old new made quiet h =
    at_once old.carrier new.carrier made (arrives_tell old new _ (picked_event number system h.0) made (ChoosesFrame number system h.0) (picked_plain number system h.0) quiet h.1)
line_tells titles lines.Settle old new made quiet h = at_once old.carrier new.carrier made (settles_tell 0 old made new h quiet)
line_tells titles (lines.Inject lan system octets) old new made quiet h =
    at_once old.carrier new.carrier made (arrives_tell old new _ (inject_event system h.0) made (InjectsOctets lan system octets h.0) (inject_plain system h.0) quiet h.1)
line_tells titles (lines.Restart system) old new made quiet h =
    at_once old.carrier new.carrier made
    (stays old.carrier new.carrier made quiet (subst (λ (m : List Event). ArePlain m) (sym h.2) (record { none = λ now. refl; clock = λ now. refl }, tt)) (ap (λ (w : TransportNet). w.carrier) h.3))
line_tells titles (lines.Send system selector to called octets) old new made quiet h = absurd h
line_tells titles (lines.Version version) old new made quiet h = absurd h
line_tells titles (lines.Set key value) old new made quiet h = absurd h
line_tells titles (lines.Lan name bound room) old new made quiet h = absurd h
line_tells titles (lines.Es name title) old new made quiet h = absurd h
line_tells titles (lines.Is name title) old new made quiet h = absurd h
line_tells titles (lines.Port system lan snpa) old new made quiet h = absurd h
line_tells titles (lines.Route system prefix hop lan) old new made quiet h = absurd h
line_tells titles (lines.Path name kind systems) old new made quiet h = absurd h
line_tells titles (lines.Tsap system selector) old new made quiet h = absurd h
line_tells titles (lines.Relay system selector to called) old new made quiet h = absurd h
line_tells titles lines.Start old new made quiet h = absurd h

-- ---- the bench

-- nothing waits between two lines
abbrev pub IsQuietWorld : World → Type 0
IsQuietWorld (SettingUp setup) = Unit {0}
IsQuietWorld (Running run) = IsQuiet run.ends.carrier

abbrev pub clock_in : World → ℕ
clock_in (SettingUp setup) = 0
clock_in (Running run) = run.ends.carrier.link.clock

-- these are the ports, once there are LANs
abbrev pub HasPorts : List PortRow → World → Type 0
HasPorts ports (SettingUp setup) = Unit {0}
HasPorts ports (Running run) = run.ends.carrier.link.rows ≡ ports

-- the frames of a line are those that its events tell, and the first of them are those that its first events tell
pub record WorldTells (old new : World) (made : List Event) : Type 0 where
  pub ports : (rows : List PortRow) → HasPorts rows new → HasPorts rows old
  pub told : (rows : List PortRow) → HasPorts rows new → AreTold rows (length (slots_of old) + 1) (told_from (clock_in old) made) (sent_in (new_slots old new))
  pub first : (rows : List PortRow) → HasPorts rows new → (front more : List ToldFrame) → told_from (clock_in old) made ≡ front ++ more
      → AreTold rows (length (slots_of old) + 1) front (sent_in (take (length front) (new_slots old new)))
  pub count : length (slots_of new) ≡ length (slots_of old) + length (sent_in (new_slots old new))
  pub clock : clock_from (clock_in old) made ≡ clock_in new
  pub quiet : IsQuietWorld new

grown_count : (old new : Bag) (told : List ToldFrame) (before : ℕ) → before ≡ length old.frames → Grows old new told → length new.frames ≡ before + length (sent_in (drop before new.frames))
grown_count old new told before is g =
    counted old new told g ∙ ap (λ (n : ℕ). n + length g.entries) (sym is)
    ∙ ap (λ (n : ℕ). before + n) (sym (entries_length old.rows (length old.frames + 1) told g.entries g.are) ∙ told_length old.rows (before + 1) told (sent_in (drop before new.frames)) (new_told old new told before is g))

from_line : (titles : List (List ℕ)) (timers : Timers) (old new : TransportNet) (made : List Event) → LineTells old.carrier new.carrier made → WorldTells (running titles timers old) (running titles timers new) made
from_line titles timers old new made l =
    let place : ℕ = length old.carrier.link.frames in
    record {
      ports = λ rows has. sym l.ports ∙ sym l.grows.ports ∙ has;
      told = λ rows has.
          subst (λ (fs : List ToldFrame). AreTold rows (place + 1) fs (sent_in (drop place new.carrier.link.frames))) (sym l.are)
          (subst (λ (r : List PortRow). AreTold r (place + 1) l.frames (sent_in (drop place new.carrier.link.frames))) (sym l.grows.ports ∙ has)
          (new_told l.before new.carrier.link l.frames place (sym l.same) l.grows));
      first = λ rows has front more is.
          subst (λ (r : List PortRow). AreTold r (place + 1) front (sent_in (take (length front) (drop place new.carrier.link.frames)))) (sym l.grows.ports ∙ has)
          (first_told l.before new.carrier.link front more place (sym l.same) (subst (λ (fs : List ToldFrame). Grows l.before new.carrier.link fs) (sym l.are ∙ is) l.grows));
      count = grown_count l.before new.carrier.link l.frames place (sym l.same) l.grows;
      clock = l.clock;
      quiet = l.quiet;
    }

starts_tell : (setup : SetUp) (new : World) (made : List Event) → StartsUp setup made new → WorldTells (SettingUp setup) new made
starts_tell setup new made starts =
    let h = started setup made new starts in
    let bag : Bag = new_bag setup.lans setup.ports in
    let b = h.2 in
    let s = h.3 in
    let grows : Grows bag h.0.link (noted 0 h.0.waiting) =
    subst (λ (n : Net). Grows bag n.link (noted 0 n.waiting)) (sym b.becomes) (ticks_grow (nodes_of setup) 0 bag b.below b.after b.told refl b.all) in
    let p = gathered bag h.0 s.ups s.below grows s.gathers in
    let ups = ups_told s.ups 0 in
    let are : told_from 0 made ≡ noted 0 s.ups = ap (told_from 0) s.made_is ∙ ups.0 in
    let all : WorldTells (SettingUp setup) (running (titles_said setup) (timers_of setup.life setup.limits) (record { carrier = s.below; entities = entities_of setup; ends = [] })) made = record {
      ports = λ rows has. tt;
      told = λ rows has.
          subst (λ (fs : List ToldFrame). AreTold rows 1 fs (sent_in (drop 0 s.below.link.frames))) (sym are)
          (subst (λ (r : List PortRow). AreTold r 1 (noted 0 s.ups) (sent_in (drop 0 s.below.link.frames))) (sym p.grows.ports ∙ has) (new_told bag s.below.link (noted 0 s.ups) 0 refl p.grows));
      first = λ rows has front more is.
          subst (λ (r : List PortRow). AreTold r 1 front (sent_in (take (length front) (drop 0 s.below.link.frames)))) (sym p.grows.ports ∙ has)
          (first_told bag s.below.link front more 0 refl (subst (λ (fs : List ToldFrame). Grows bag s.below.link fs) (sym are ∙ is) p.grows));
      count = grown_count bag s.below.link (noted 0 s.ups) 0 refl p.grows;
      clock = ap (clock_from 0) s.made_is ∙ ups.1 ∙ sym p.grows.clock;
      quiet = p.quiet;
    } in
    subst (λ (w : World). WorldTells (SettingUp setup) w made) (sym (h.4 ∙ ap (λ (ends : TransportNet). running (titles_said setup) (timers_of setup.life setup.limits) ends) s.becomes)) all

-- a front of nothing
none_first : (rows : List PortRow) (front more : List ToldFrame) → [] ≡ front ++ more → AreTold rows 1 front (sent_in (take (length front) []))
none_first rows [] more is = tt
none_first rows (told ∷ front) more is = absurd (cc is)

set_up_tells : (start : Bool) (setup : SetUp) (line : Line) (new : World) (made : List Event) → SetsUp start setup line made new → WorldTells (SettingUp setup) new made
set_up_tells true setup line new made h = starts_tell setup new made h
set_up_tells false setup line new made h =
    subst (λ (w : World). WorldTells (SettingUp setup) w made) (sym h.1)
    (subst (λ (m : List Event). WorldTells (SettingUp setup) (SettingUp (set_up setup line)) m) (sym h.0)
    (record { ports = λ rows has. tt; told = λ rows has. tt; first = λ rows has front more is. none_first rows front more is; count = refl; clock = refl; quiet = tt }))

pub world_tells : (old : World) (line : Line) (made : List Event) (new : World) → IsQuietWorld old → WorldStep old line made new → WorldTells old new made
world_tells (SettingUp setup) line made new quiet h = set_up_tells (is_start line) setup line new made h.1
world_tells (Running run) line made new quiet h =
    let step = ran_line run.titles run.timers run.ends line made new h in
    subst (λ (w : World). WorldTells (Running run) w made) (sym step.2) (from_line run.titles run.timers run.ends step.0 made (line_tells run.titles line run.ends step.0 made quiet step.1))
