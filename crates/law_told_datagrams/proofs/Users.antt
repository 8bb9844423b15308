-- Each call of a network of users has events that their text tells: between two calls the carrier stands, and its users are at declared systems; so each call
-- of the carrier may be asked, what comes up is told, and what users are shown of it is in octets.
use Rattle.std.proofs.Common.{◌≡◌, inl, inr, ◌≤◌, ◌<◌, ◌∙◌, ◌^◌, ℕ, zero, suc, ◌+◌, Bool, true, false, List, [], ◌∷◌, length, Option, Some, None, refl, sym, ap, subst, arith}
use Rattle.std.specs.Prelude.{nat_lt, not}
use Rattle.std.specs.List.{AllByRecursion}
use Rattle.std.proofs.lemmas.Bool.{and_parts}
use Rattle.osi_base.specs.declared.unit.Arrival.{Arrival}
use Rattle.osi_base.specs.declared.unit.Offered.{Offered}
use Rattle.osi_base.specs.declared.unit.Offered.TheVariants.{Taken as WasTaken, Dropped}
use Rattle.osi_base.specs.declared.unit.Picked.{Picked}
use Rattle.osi_base.specs.declared.unit.Picked.TheVariants as picks
use Rattle.osi_base.specs.declared.unit.Unit.{Unit as CarriedUnit}
use Rattle.osi_base.specs.declared.unit.Up.{Up}
use Rattle.osi_base.specs.declared.unit.Up.TheVariants.{Unit as Came, Note as Noted}
use Rattle.osi_base.specs.Link.{Link}
use Rattle.osi_base.specs.Calls.{Call, Choose, Keeps, Offer, Tick}
use Rattle.osi_base.proofs.Members.{all_both}
use Rattle.law_carrier_answers.specs.Answers.{AreOctets, CanBeAsked, MayBeOffered, asked_of}
use Rattle.script_lines.specs.Tags.{Tags}
use Rattle.script_journal.specs.declared.cause.Refused.TheVariants.{TooLong}
use Rattle.script_journal.specs.declared.cause.Settled.{Settled}
use Rattle.script_journal.specs.declared.cause.Settled.TheVariants as settled
use Rattle.script_journal.specs.declared.cause.UdCause.{UdCause}
use Rattle.script_journal.specs.declared.cause.UdCause.TheVariants as causes
use Rattle.script_journal.specs.declared.event.Event.{Event}
use Rattle.script_journal.specs.declared.event.Event.TheVariants as events
use Rattle.script_journal.specs.Injective.{plain}
use Rattle.script_journal.specs.CauseWords.{ud_cause_text}
use Rattle.net_world.specs.Told.{picked_event, refusal, told}
use Rattle.cltp.specs.declared.sending.Request.{Request}
use Rattle.cltp.specs.declared.sending.ClAnswer.{ClAnswer}
use Rattle.cltp.specs.declared.system.ClSystem.{ClSystem}
use Rattle.cltp.specs.Hearing.{Bad, HearsAll, HearsAt, HearsIf, NoUser, Shown, TellsOf}
use Rattle.cltp.specs.Run.{Arrives, ClCall, Delivering, NoneLeft, OneMore, RunsCall, Sending, SendsIf, SendsUd, Settles, Settling, Starts, TakesUp, Ticking, TooMany}
use Rattle.cltp.specs.Sending.{send_event, ud_for, ud_wish}
use Rattle.cltp.specs.Systems.{World, is_for, is_of, system_at}
use Rattle.cltp.specs.Total.{CanRun}
use Rattle.script_setup.proofs.Elements.{find_all}
use Rattle.tp4_number.specs.Number.{wire}
use Rattle.tp4_world.specs.Total.{ComesInOctets}
use Rattle.law_told.proofs.Carriers.{Tells}
use Rattle.law_told.proofs.Events.{IsToldEvent, octets_bytes, refusal_told}
use Rattle.law_told.proofs.Worlds.{UpSo, gathers_so, picked_told, ups_events}
use Rattle.law_told_datagrams.proofs.Places.{fault_low}
use Rattle.law_told_datagrams.proofs.Read.{read_octets, written_octets}

ud_plain : (cause : UdCause) → plain (ud_cause_text cause) ≡ true
ud_plain causes.Short = refl
ud_plain other = refl

module _ {C : Type 0} (tags : Tags) (is_address : List ℕ → Bool) (link : C → Link (List ℕ)) (steps : C → Call (List ℕ) → C → Type 0)
    (keeps : (old : C) (call : Call (List ℕ)) (new : C) → steps old call new → Keeps (link old) call (link new)) (StandsSo : C → Type 0) (tells : Tells tags is_address link steps StandsSo) where
  abbrev IsDeclared : ℕ → Type 0
  IsDeclared system = system < length tags.systems

  abbrev pub AreEvents : List Event → Type 0
  AreEvents made = AllByRecursion (IsToldEvent tags) made

  abbrev pub AreUsers : List ClSystem → Type 0
  AreUsers systems = AllByRecursion (λ own. own.system < length tags.systems) systems

  -- between two calls
  pub record WorldSo (world : World C) : Type 0 where
    pub carrier_so : StandsSo world.carrier
    pub users : AreUsers world.systems

  -- the events of a step, and what is so after it
  pub record StepSo (made : List Event) (new : World C) : Type 0 where
    pub events : AreEvents made
    pub world : WorldSo new

  -- ---- what comes up

  event_told : (own : ClSystem) (unit : CarriedUnit (List ℕ)) (event : Event) → IsDeclared own.system → MayBeOffered is_address unit → TellsOf own unit event → IsToldEvent tags event
  event_told own unit event declared may (Bad fault is e) =
      let low = fault_low unit.octets fault may.octets is in
      subst (IsToldEvent tags) (sym e) (refl, (declared, (ud_plain fault.cause, (omega (arith, low), tt))))
  event_told own unit event declared may (NoUser ud is none e) = subst (IsToldEvent tags) (sym e) (refl, (declared, tt))
  event_told own unit event declared may (Shown ud is some e) =
      let from = tells.addresses unit.from may.from in
      let of_ud = read_octets unit.octets ud may.octets is in
      subst (IsToldEvent tags) (sym e)
      (refl, (declared, ((octets_bytes unit.from from.0, from.1), (octets_bytes ud.from of_ud.from, (octets_bytes ud.to of_ud.to, (octets_bytes ud.octets of_ud.octets, tt))))))

  hears_if : (own : ClSystem) (unit : CarriedUnit (List ℕ)) (fits : Bool) (made : List Event) → IsDeclared own.system → MayBeOffered is_address unit → HearsIf own unit fits made → AreEvents made
  hears_if own unit false made declared may h = subst AreEvents (sym h) tt
  hears_if own unit true made declared may h = subst AreEvents (sym h.2) (event_told own unit h.0 declared may h.1, tt)

  hears_at : (place : Option ClSystem) (unit : CarriedUnit (List ℕ)) (made : List Event) → ((own : ClSystem) → place ≡ Some own → IsDeclared own.system) → MayBeOffered is_address unit → HearsAt place unit made → AreEvents made
  hears_at None unit made declared may h = subst AreEvents (sym h) tt
  hears_at (Some own) unit made declared may h = hears_if own unit (is_for own unit.to) made (declared own refl) may h

  user_at : (systems : List ClSystem) (system : ℕ) (own : ClSystem) → AreUsers systems → system_at systems system ≡ Some own → IsDeclared own.system
  user_at systems system own users is = find_all (λ (one : ClSystem). one.system < length tags.systems) (is_of system) systems own users is

  hears_all : (systems : List ClSystem) (ups : List (Up (List ℕ))) (made : List Event) → AreUsers systems → AllByRecursion (ComesInOctets is_address) ups → HearsAll systems ups made → AreEvents made
  hears_all systems [] made users may h = subst AreEvents (sym h) tt
  hears_all systems (Noted note ∷ ups) made users may h = hears_all systems ups made users may.1 h
  hears_all systems (Came arrival ∷ ups) made users may h =
      let here = hears_at (system_at systems arrival.system) arrival.unit h.0 (λ own is. user_at systems arrival.system own users is) may.0 h.2 in
      let rest = hears_all systems ups h.1 users may.1 h.3 in
      subst AreEvents (sym h.4) (all_both (IsToldEvent tags) h.0 h.1 here rest)

  record TakenSo (made : List Event) (new : C) : Type 0 where
    events : AreEvents made
    stands : StandsSo new

  takes_up : (systems : List ClSystem) (called new : C) (made : List Event) → AreUsers systems → StandsSo called → TakesUp link steps systems called made new → TakenSo made new
  takes_up systems called new made users stands t =
      let u = gathers_so tags is_address link steps keeps StandsSo tells wire called t.ups new stands t.gathers in
      let first = ups_events tags is_address link steps keeps StandsSo tells wire t.ups new u in
      record {
        events = subst AreEvents (sym t.made_is) (all_both (IsToldEvent tags) (told t.ups) t.heard first (hears_all systems t.ups t.heard users u.octets t.hears));
        stands = u.stands;
      }

  arrives : (old new : World C) (call : Call (List ℕ)) (own : Event) (made : List Event) → WorldSo old → CanBeAsked is_address (link old.carrier) (asked_of call) → IsToldEvent tags own
      → Arrives link steps old call own made new → StepSo made new
  arrives old new call own made h may first a =
      let stands = tells.serves.answers.stays old.carrier call a.called h.carrier_so may a.steps_to in
      let t = takes_up old.systems a.called new.carrier a.later h.users stands a.takes_up in
      record {
        events = subst AreEvents (sym a.made_is) (first, t.events);
        world = record { carrier_so = t.stands; users = subst AreUsers (sym a.same) h.users };
      }

  same_so : (old new : World C) (made : List Event) → WorldSo old → AreEvents made → new ≡ old → StepSo made new
  same_so old new made h events is = record { events = events; world = subst WorldSo (sym is) h }

  -- ---- the calls

  send_told : (system : ℕ) (request : Request) (answer : Offered) → IsDeclared system → is_address request.to ≡ true → AreOctets request.from_selector → AreOctets request.to_selector → AreOctets request.octets
      → IsToldEvent tags (send_event system request answer)
  send_told system request WasTaken declared to one other octets =
      let to_is = tells.addresses request.to to in
      (refl, (declared, (octets_bytes request.from_selector one, ((octets_bytes request.to to_is.0, to_is.1), (octets_bytes request.to_selector other, (octets_bytes request.octets octets, tt))))))
  send_told system request (Dropped cause) declared to one other octets = refusal_told tags (refusal cause)

  sends_ud : (old new : World C) (system : ℕ) (request : Request) (answer : ClAnswer) (made : List Event) → WorldSo old → IsDeclared system → CanRun is_address link old (Sending system request)
      → SendsUd link steps old system request answer made new → StepSo made new
  sends_ud old new system request answer made h declared may s =
      let own = ap (λ (found : Option ClSystem). found) (sym s.own_is ∙ may.own_is) in
      let same : s.own ≡ may.own = cc own in
      let from = subst (λ (one : ClSystem). is_address one.own ≡ true) (sym same) may.from in
      let octets = written_octets (ud_for request) may.from_selector may.to_selector (record { from = may.from_octets; to = may.to_octets; octets = may.octets }) s.octets s.written in
      arrives old new (Offer (record { from = s.own.own; to = request.to; octets = s.octets }) ud_wish s.offered) (send_event system request s.offered) made h
      (record { from = from; to = may.to; octets = octets }) (send_told system request s.offered declared may.to may.from_octets may.to_octets may.octets) s.arrives

  sends_if : (old new : World C) (system : ℕ) (request : Request) (too_long : Bool) (answer : ClAnswer) (made : List Event) → WorldSo old → IsDeclared system → CanRun is_address link old (Sending system request)
      → SendsIf link steps too_long old system request answer made new → StepSo made new
  sends_if old new system request true answer made h declared may s = same_so old new made h (subst AreEvents (sym s.1) (refusal_told tags TooLong, tt)) s.2
  sends_if old new system request false answer made h declared may s = sends_ud old new system request answer made h declared may s

  delivers : (old new : World C) (number system : ℕ) (answer : Picked) (made : List Event) → WorldSo old → number < 2 ^ 64 → IsDeclared system
      → Arrives link steps old (Choose number system answer) (picked_event number system answer) made new → StepSo made new
  delivers old new number system answer made h low declared a =
      arrives old new (Choose number system answer) (picked_event number system answer) made h tt (picked_told tags is_address link steps keeps StandsSo tells wire number system answer low declared) a

  ticks : (old new : World C) (made : List Event) → WorldSo old → (link old.carrier).clock < 4000000000 → Arrives link steps old Tick (events.Tick ((link old.carrier).clock + 1)) made new → StepSo made new
  ticks old new made h low a = arrives old new Tick (events.Tick ((link old.carrier).clock + 1)) made h low (refl, (omega (arith, low), tt)) a

  settles : (count : ℕ) (old new : World C) (answer : Settled) (made : List Event) → WorldSo old → count ≤ 65536 → Settles link steps count old answer made new → StepSo made new
  settles count old new answer made h few (NoneLeft k a x m b least is made_is same) =
      let event : IsToldEvent tags (events.Settle answer) = subst (λ (x : Settled). IsToldEvent tags (events.Settle x)) (sym is) (refl, (omega (arith, few), tt)) in
      same_so old new made h (subst AreEvents (sym made_is) (event, tt)) same
  settles count old new answer made h few (TooMany k a x m b pair least all is made_is same) =
      let event : IsToldEvent tags (events.Settle answer) = subst (λ (x : Settled). IsToldEvent tags (events.Settle x)) (sym is) (refl, (omega (arith, few), tt)) in
      same_so old new made h (subst AreEvents (sym made_is) (event, tt)) same
  settles count old new answer made h few (OneMore k a x m b pair mid here rest least below first others is) =
      let p = tells.picks old.carrier h.carrier_so pair.0 pair.1 (and_parts ((link old.carrier).takes pair.0 pair.1) (not ((link old.carrier).took pair.0 pair.1)) least.0).0 in
      let one = delivers old mid pair.0 pair.1 picks.Taken here h p.0 p.1 first in
      let more = settles (count + 1) mid new answer rest one.world (omega (arith, below)) others in
      record { events = subst AreEvents (sym is) (all_both (IsToldEvent tags) here rest one.events more.events); world = more.world }

  -- a call names declared systems, and a frame by a number of 64 bits
  abbrev pub NamesSystems : ClCall → Type 0
  NamesSystems (Sending system request) = IsDeclared system
  NamesSystems (Delivering number system) = (number < 2 ^ 64) × IsDeclared system
  NamesSystems other = Prim.Unit {0}

  pub call_told : (old new : World C) (call : ClCall) (made : List Event) → WorldSo old → CanRun is_address link old call → NamesSystems call → RunsCall link steps old call made new → StepSo made new
  call_told old new (Sending system request) made h may names r = sends_if old new system request (nat_lt 16000 (length request.octets)) r.2.0 made h names may r.2.1
  call_told old new (Delivering number system) made h may names r = delivers old new number system r.0 made h names.0 names.1 r.1
  call_told old new Ticking made h may names r = ticks old new made h may r
  call_told old new Settling made h may names r = settles 0 old new r.0 made h (omega arith) r.1

  pub start_told : (first : C) (systems : List ClSystem) (made : List Event) (new : World C) → StandsSo first → AreUsers systems → Starts link steps first systems made new → StepSo made new
  start_told first systems made new stands users s =
      let t = takes_up systems first new.carrier s.later users stands s.takes_up in
      record {
        events = subst AreEvents (sym s.made_is) ((refl, (omega arith, tt)), t.events);
        world = record { carrier_so = t.stands; users = subst AreUsers (sym s.same) users };
      }
