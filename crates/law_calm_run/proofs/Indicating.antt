-- The CR of a connect request waits alone, so it is the first TPDU that the settle behind it hands over: the entity of the called system indicates it, where
-- it may.
use Rattle.std.proofs.Common.{◌≡◌, ◌≤◌, ℕ, ◌+◌, List, [], ◌∷◌, ◌++◌, length, slice_get, Contains, Option, Some, None, refl, sym, ◌∙◌, ap, subst, inl, append_assoc}
use Rattle.std.specs.List.{AllByRecursion}
use Rattle.std.proofs.lemmas.List.Elements.{Contains-append_left, Contains-append_right, Contains-push}
use Rattle.nsap.specs.Address.{system_part}
use Rattle.nsap.proofs.AddressLemmas.{system_part-append}
use Rattle.osi_base.specs.Calls.{Call, Keeps}
use Rattle.osi_base.specs.Link.{Link}
use Rattle.osi_base.specs.declared.unit.Unit.{Unit as CarriedUnit}
use Rattle.script_journal.specs.declared.cause.Refused.{Refused}
use Rattle.script_journal.specs.declared.event.Event.{Event}
use Rattle.script_journal.specs.declared.event.Event.TheVariants as events
use Rattle.script_journal.specs.declared.event.Indication.{Indication}
use Rattle.script_journal.specs.declared.event.Request.{Request}
use Rattle.script_lines.specs.declared.line.Line.{Line}
use Rattle.tpdu.specs.declared.service.Options.{Options}
use Rattle.net_world.specs.Fifo.{IsFifo}
use Rattle.tpdu.specs.Kinds.{has_number}
use Rattle.tpdu.specs.Writing.{is_summed, kind_for}
use Rattle.tp4_number.specs.Number.{whole}
use Rattle.tp4_flow.specs.declared.step.Sent.{Sent}
use Rattle.tp4_conn.specs.Agreeing.{proposed_by, request as cr_of}
use Rattle.tp4_conn.specs.End.{IsSized}
use Rattle.tp4_conn.specs.Making.{called_end, caller, indicated}
use Rattle.tp4_conn.specs.declared.call.ConnectRequest.{ConnectRequest}
use Rattle.tp4_entity.specs.Association.{met}
use Rattle.tp4_entity.specs.Entity.{Acted, Entity, at, moved}
use Rattle.tp4_entity.specs.References.{least_free}
use Rattle.tp4_entity.specs.Step.{call_of, connect_refusal, connecting}
use Rattle.tp4_entity.specs.declared.refusal.ConnectRefusal.{ConnectRefusal}
use Rattle.law_tp4_pair.specs.Claim.{IsUndropped}
use Rattle.law_tp4_pair.proofs.Confirming.{incoming}
use Rattle.tp4_world.specs.Run.{BeginsAt, ConnectsBy, IsRefused, clock_of, transport_address}
use Rattle.tp4_world.specs.Telling.{events_after, told_connect}
use Rattle.tp4_world.specs.World.{World, entity_at, latest}
use Rattle.tp4_world.specs.declared.place.Placed.{Placed}
use Rattle.law_calm_run.specs.Run.{IsCalmRun, IsStart}
use Rattle.law_calm_run.specs.Service.{ConnectsAndSettles, ConnectsAreIndicated, IsIndicationOf, MayIndicate}
use Rattle.law_calm_run.proofs.Hall.{Calling, Clocking, Connecting, Done, Goes, Hall, IsReadBy, Meeting, Meets, More, Post, Step, Still, after, with_new}
use Rattle.law_calm_run.proofs.Posting.{AreKept, AreUnitsOf}
use Rattle.tp4_entity.proofs.Beginning.{short}
use Rattle.law_calm_run.proofs.Asking.{IsAsked, requested}
use Rattle.law_calm_run.proofs.Going.{HasSettled, Stands, settled, stands_then}
use Rattle.law_calm_run.proofs.Queueing.{all_parts}
use Rattle.law_calm_run.proofs.Starting.{first_hall, first_never, run_settles}
use Rattle.law_tp4_lawful.specs.First.{AreDistinct}
use Rattle.law_tp4_lawful.proofs.WorldPlaces.{some_same}
use Rattle.tp4_conn.specs.declared.timers.Timers.{Timers}
use Rattle.tp4_entity.proofs.Restarts.{connecting_same}
use Rattle.law_calm_run.proofs.Never.{AreNever, awake, never_after, never_goes}

-- ---- what waits first is met first

some_none : (post : Post) (rest : List Post) → post ∷ rest ≡ [] → ⊥
some_none post rest is = cc is

pub record MetFirst (titles : List (List ℕ)) (hall : Hall) (made : List Event) : Type 0 where
  pub before : List Event
  pub here : List Event
  pub rest : List Event
  pub made_is : made ≡ before ++ (here ++ rest)
  pub next : Hall
  pub meets : Meets titles hall here next

pub met_first : (titles : List (List ℕ)) (hall : Hall) (made : List Event) (new : Hall) → Goes titles hall made new → (post : Post) (rest : List Post) → hall.posts ≡ post ∷ rest → new.posts ≡ []
    → MetFirst titles hall made
met_first titles hall made new (Done o m n none same) post rest is over = absurd (some_none post rest (sym is ∙ sym (ap (λ (h : Hall). h.posts) same) ∙ over))
met_first titles hall made new (More o m n mid here others proper step goes all) post rest is over = by step (λ e. met_first titles mid others new goes post rest e over)
  where
    by : Step titles hall here mid → (mid.posts ≡ post ∷ rest → MetFirst titles mid others) → MetFirst titles hall made
    by (Still aside same) later =
        let r = later (ap (λ (h : Hall). h.posts) same ∙ is) in
        record {
          before = here ++ r.before;
          here = r.here;
          rest = r.rest;
          made_is = all ∙ ap (λ (es : List Event). here ++ es) r.made_is ∙ sym (append_assoc here r.before (r.here ++ r.rest));
          next = r.next;
          meets = subst (λ (h : Hall). Meets titles h r.here r.next) same r.meets;
        }
    by (Connecting c) later = absurd (some_none post rest (sym is ∙ c.idle))
    by (Calling c) later = absurd (some_none post rest (sym is ∙ c.idle))
    by (Clocking c) later = absurd (some_none post rest (sym is ∙ c.idle))
    by (Meeting meets) later = record { before = []; here = here; rest = others; made_is = all; next = mid; meets = meets }

-- ---- the CR

-- what a request says, from an entity of that address
abbrev asked_by : ℕ → ℕ → ℕ → List ℕ → ConnectRequest → Request
asked_by number system reference own request = record {
  end = number;
  system = system;
  reference = reference;
  calling = own;
  calling_selector = request.from_selector;
  called = request.to;
  called_selector = request.to_selector;
  octets = request.octets;
}

connect_same : (one other : Request) (xs ys : List Event) → events.Connect one ∷ xs ≡ events.Connect other ∷ ys → one ≡ other
connect_same one other xs ys is = cc is

connect_rest : (one other : Request) (xs ys : List Event) → events.Connect one ∷ xs ≡ events.Connect other ∷ ys → xs ≡ ys
connect_rest one other xs ys is = cc is

no_refusal : (asked : Request) (why : Refused) (xs ys : List Event) → events.Connect asked ∷ xs ≡ events.No why ∷ ys → ⊥
no_refusal asked why xs ys is = cc is

module _ {C : Type 0} (link : C → Link (List ℕ)) (steps : C → Call (List ℕ) → C → Type 0)
    (law : (old : C) (call : Call (List ℕ)) (new : C) → steps old call new → Keeps (link old) call (link new))
    (titles : List (List ℕ)) (Waits : C → List (CarriedUnit (List ℕ)) → Type 0) (fifo : IsFifo link steps titles Waits) where
  -- ---- the settle behind it

  module _ (distinct : AreDistinct titles) (hall : Hall) (none : hall.posts ≡ []) (system to : ℕ) (receiver : List ℕ) (to_is : slice_get titles to ≡ Some receiver) (reference : ℕ) (entity : Entity) (request : ConnectRequest)
      (address : request.to ≡ transport_address receiver) (there : entity_at hall.entities system ≡ Some entity) (kept : AreKept titles hall.entities) where
    abbrev acted : Acted
    acted = connecting hall.clock entity reference request

    abbrev next : Hall
    next = after (with_new hall system reference) system acted

    abbrev cr : Sent
    cr = cr_of (caller hall.clock (call_of entity reference request)) request.octets

    abbrev post : Post
    post = record { system = system; sent = cr }

    posts_are : next.posts ≡ post ∷ []
    posts_are = ap (λ (ps : List Post). ps ++ post ∷ []) none

    -- it is met by the entity of the called system
    module _ (here : List Event) (new : Hall) (m : Meets titles next here new) (stands : AreKept titles next.entities) (never : AreNever next.entities) where
      post_is : m.post ≡ post
      post_is = first_same m.post post m.rest [] (sym m.posts_are ∙ posts_are)
        where
          first_same : (x y : Post) (xs ys : List Post) → x ∷ xs ≡ y ∷ ys → x ≡ y
          first_same x y xs ys is = cc is

      own_is : m.entity.own ≡ transport_address receiver
      own_is = m.own_is ∙ ap (λ (p : Post). p.sent.to) post_is ∙ address

      system_is : m.system ≡ to
      system_is =
          let k = stands m.system m.entity m.there in
          distinct m.system to k.title receiver k.title_is to_is
          (sym (system_part-append (system_part k.title) 1) ∙ ap system_part (sym k.own ∙ own_is) ∙ system_part-append (system_part receiver) 1)

      from_is : transport_address m.title ≡ entity.own
      from_is =
          let k = kept system entity there in
          ap transport_address (some_same m.title k.title (sym m.title_is ∙ ap (λ (p : Post). slice_get titles p.system) post_is ∙ k.title_is)) ∙ sym k.own

      reads : IsReadBy m.entity m.post.sent
      reads = inl (ap (λ (p : Post). has_number (kind_for p.sent.tpdu)) post_is)

      -- so it is indicated, where it may be
      indicates : IsSized request.options → (may : MayIndicate hall.clock m.entity entity.own reference request.to_selector)
          → m.acted ≡ moved (at hall.clock m.entity) may.own (indicated (called_end hall.clock may.own entity.own m.entity.timers entity.timers.credit reference request.from_selector request.to_selector (proposed_by request.options)) request.octets)
      indicates sized may =
          m.heard (awake hall.clock next.entities never m.system m.entity m.there) reads
          ∙ ap (λ (f : List ℕ). met whole hall.clock (at hall.clock m.entity) f (m.post.sent.tpdu, is_summed m.post.sent.sum m.post.sent.tpdu)) from_is
          ∙ ap (λ (p : Post). met whole hall.clock (at hall.clock m.entity) entity.own (p.sent.tpdu, is_summed p.sent.sum p.sent.tpdu)) post_is
          ∙ incoming hall.clock hall.clock may.own (at hall.clock m.entity) entity.own (call_of entity reference request) (is_summed cr.sum cr.tpdu) sized may.none may.none_frozen may.registered may.free

      -- and its line says what the request does
      told : IsSized request.options → (may : MayIndicate hall.clock m.entity entity.own reference request.to_selector)
          → (heard : Indication) × Contains here (events.Incoming heard) × IsIndicationOf (asked_by (length hall.ends + 1) system reference entity.own request) heard
      told sized may =
          let b = called_end hall.clock may.own entity.own m.entity.timers entity.timers.credit reference request.from_selector request.to_selector (proposed_by request.options) in
          let lines : here ≡ events_after next.ends m.system m.entity.own (indicated b request.octets).events ++ m.does.aside =
          m.does.made_is ∙ ap (λ (a : Acted). events_after next.ends m.system m.entity.own a.events ++ m.does.aside) (indicates sized may) in
          let heard : Indication = record {
            end = latest (next.ends ++ record { system = m.system; reference = may.own } ∷ []) m.system may.own;
            system = m.system;
            reference = may.own;
            calling = entity.own;
            partner = reference;
            calling_selector = request.from_selector;
            called = m.entity.own;
            called_selector = request.to_selector;
            options = request.options;
            octets = request.octets;
          } in (
            heard,
            subst (λ (es : List Event). Contains es (events.Incoming heard)) (sym lines) (Contains-append_left (events.Incoming heard ∷ []) m.does.aside (events.Incoming heard) (Contains-push [] (events.Incoming heard))),
            record { calling = refl; partner = refl; called = own_is ∙ sym address; calling_selector = refl; called_selector = refl; octets = refl },
          )

  -- ---- all

  refused_never : (old new : World C) (asked : Request) (later : List Event) (why : Option Refused) → IsRefused link steps old why (events.Connect asked ∷ later) new → ⊥
  refused_never old new asked later None r = r
  refused_never old new asked later (Some why) r = no_refusal asked why later [] r.0

  module _ (timers : Timers) (first before last : World C) (script : List Line) (journal settled_by : List Event) (start : IsStart titles timers Waits first)
      (run : IsCalmRun link steps whole titles first script journal before) (system to : ℕ) (selector called : List ℕ) (octets : List ℕ) (options : Options) (asked : Request)
      (c : ConnectsAndSettles link steps whole titles before system to selector called octets options asked settled_by last) where
    done : HasSettled link steps law titles Waits fifo (first_hall titles timers Waits first start link steps law fifo) journal before
    done = run_settles titles timers Waits first start link steps law fifo script journal before run

    hall : Hall
    hall = done.went.next

    known : Stands link steps law titles Waits fifo before done.went.next done.went.queue
    known = stands_then link steps law titles Waits fifo (first_hall titles timers Waits first start link steps law fifo) journal before done.went

    idle : done.went.next.posts ≡ []
    idle = subst (λ (q : List (CarriedUnit (List ℕ))). AreUnitsOf titles q done.went.next.posts) done.none known.shows.units

    parts : AllByRecursion IsUndropped c.later × AllByRecursion IsUndropped settled_by
    parts = all_parts IsUndropped c.later settled_by c.undropped

    abbrev Found : Type 0
    Found = (heard : Indication) × Contains settled_by (events.Incoming heard) × IsIndicationOf asked heard

    made_one : (receiver : List ℕ) (request : ConnectRequest) (entity : Entity) (found : Option ℕ) → slice_get titles to ≡ Some receiver → request.to ≡ transport_address receiver → request.to_selector ≡ called → IsAsked titles request
        → length request.octets ≤ 32 → entity_at before.entities system ≡ Some entity → least_free (clock_of link steps before) entity ≡ found
        → BeginsAt link steps before system entity request found (events.Connect asked ∷ c.later) c.between → Found
    made_one receiver request entity None to_is address selects is_asked short_enough there least begins = absurd begins
    made_one receiver request entity (Some reference) to_is address selects is_asked short_enough there least begins =
        let asked_is : asked ≡ asked_by (length before.ends + 1) system reference entity.own request = connect_same asked _ c.later begins.0 begins.2 in
        let later_is : begins.0 ≡ c.later = sym (connect_rest asked (asked_by (length before.ends + 1) system reference entity.own request) c.later begins.0 begins.2) in
        let there_now : entity_at done.went.next.entities system ≡ Some entity = sym (ap (λ (ps : List Placed). entity_at ps system) known.shows.entities) ∙ there in
        let r = requested link steps law titles Waits fifo before c.between done.went.next done.went.queue system reference entity request begins.0 known (subst (λ (es : List Event). AllByRecursion IsUndropped es) (sym later_is) parts.0) there is_asked short_enough least begins.1 in
        let after_it : Hall = after (with_new done.went.next system reference) system (connecting done.went.next.clock entity reference request) in
        let never : AreNever after_it.entities = never_after done.went.next.entities system entity (connecting done.went.next.clock entity reference request).entity
        (never_goes titles (first_hall titles timers Waits first start link steps law fifo) journal done.went.next done.went.goes (first_never titles timers Waits first start)) there_now
        (connecting_same done.went.next.clock reference entity request) in
        let over = settled link steps law titles Waits fifo 0 c.between settled_by last c.settles after_it r.queue r.stands parts.1 in
        let over_none : over.went.next.posts ≡ [] = subst (λ (q : List (CarriedUnit (List ℕ))). AreUnitsOf titles q over.went.next.posts) over.none over.went.shows.units in
        let m = met_first titles after_it settled_by over.went.next over.went.goes (record { system = system; sent = cr_of (caller done.went.next.clock (call_of entity reference request)) request.octets }) []
        (ap (λ (ps : List Post). ps ++ record { system = system; sent = cr_of (caller done.went.next.clock (call_of entity reference request)) request.octets } ∷ []) idle) over_none in
        let at_to : m.meets.system ≡ to = system_is start.distinct done.went.next idle system to receiver to_is reference entity request address there_now known.kept m.here m.next m.meets r.stands.kept never in
        let same : m.meets.entity ≡ c.entity =
        some_same m.meets.entity c.entity (sym m.meets.there ∙ ap (entity_at after_it.entities) at_to ∙ ap (λ (ps : List Placed). entity_at ps to) (sym r.stands.shows.entities) ∙ c.entity_is) in
        let may : MayIndicate done.went.next.clock m.meets.entity entity.own reference request.to_selector =
        subst (λ (e : Entity). MayIndicate done.went.next.clock e entity.own reference request.to_selector) (sym same)
        (subst (λ (n : ℕ). MayIndicate n c.entity entity.own reference request.to_selector) r.stands.shows.clock
        (subst (λ (s : List ℕ). MayIndicate (link c.between.carrier).clock c.entity entity.own reference s) (sym selects)
        (subst (λ (q : Request). MayIndicate (link c.between.carrier).clock c.entity q.calling q.reference called) asked_is c.may))) in
        let found = told start.distinct done.went.next idle system to receiver to_is reference entity request address there_now known.kept m.here m.next m.meets r.stands.kept never is_asked.size may in (
          found.0,
          subst (λ (es : List Event). Contains es (events.Incoming found.0)) (sym m.made_is) (Contains-append_right m.before (m.here ++ m.rest) (events.Incoming found.0) (Contains-append_left m.here m.rest (events.Incoming found.0) found.1)),
          record {
            calling = found.2.calling ∙ sym (ap (λ (q : Request). q.calling) asked_is);
            partner = found.2.partner ∙ sym (ap (λ (q : Request). q.reference) asked_is);
            called = found.2.called ∙ sym (ap (λ (q : Request). q.called) asked_is);
            calling_selector = found.2.calling_selector ∙ sym (ap (λ (q : Request). q.calling_selector) asked_is);
            called_selector = found.2.called_selector ∙ sym (ap (λ (q : Request). q.called_selector) asked_is);
            octets = found.2.octets ∙ sym (ap (λ (q : Request). q.octets) asked_is);
          },
        )

    by_why : (receiver : List ℕ) (request : ConnectRequest) (entity : Entity) (why : Option ConnectRefusal) → slice_get titles to ≡ Some receiver → request.to ≡ transport_address receiver → request.to_selector ≡ called → IsAsked titles request
        → entity_at before.entities system ≡ Some entity → connect_refusal (clock_of link steps before) entity request.octets ≡ why
        → ConnectsBy link steps before system entity request why (events.Connect asked ∷ c.later) c.between → Found
    by_why receiver request entity (Some why) to_is address selects is_asked there why_is step = absurd (refused_never before c.between asked c.later (told_connect why) step)
    by_why receiver request entity None to_is address selects is_asked there why_is step =
        made_one receiver request entity (least_free (clock_of link steps before) entity) to_is address selects is_asked (short (clock_of link steps before) entity request.octets why_is) there refl step

    pub is_indicated : Found
    is_indicated =
        let step = c.connects in
        let asks = step.4 in
        by_why step.0 step.1 asks.4.0 (connect_refusal (clock_of link steps before) asks.4.0 step.1.octets) step.2 asks.1 asks.2
        (record {
          size = subst (λ (o : Options). IsSized o) (sym step.3) c.proper.0;
          calling = subst (λ (o : List ℕ). length o ≤ 32) (sym asks.0) c.proper.1;
          called = subst (λ (o : List ℕ). length o ≤ 32) (sym asks.2) c.proper.2;
          address = record { system = to; title = step.0; title_is = step.2; address_is = asks.1 };
        }) asks.4.1 refl asks.4.2

pub all_indicated : {C : Type 0} (link : C → Link (List ℕ)) (steps : C → Call (List ℕ) → C → Type 0) (law : (old : C) (call : Call (List ℕ)) (new : C) → steps old call new → Keeps (link old) call (link new))
    (titles : List (List ℕ)) (Waits : C → List (CarriedUnit (List ℕ)) → Type 0) → IsFifo link steps titles Waits → ConnectsAreIndicated link steps whole titles Waits
all_indicated link steps law titles Waits fifo timers first before last script journal settled system to selector called octets options asked start run connects =
    is_indicated link steps law titles Waits fifo timers first before last script journal settled start run system to selector called octets options asked connects
