-- The CC of an accept waits alone, so it is the first TPDU that the settle behind it hands over. It goes to the system of the calling end, which is an end of the
-- same association and takes it: what was agreed is within what it proposed, so it is open, and tells its confirm.
use Rattle.std.proofs.Common.{◌≡◌, ℕ, ◌==◌, ◌||◌, not, Bool, true, false, List, [], ◌∷◌, ◌++◌, slice_get, slice_set, Contains, Option, Some, None, refl, sym, ◌∙◌, ap, subst, inl, inr, arith}
use Rattle.std.specs.Prelude.{unwrap_or, is_none}
use Rattle.std.proofs.lemmas.List.Elements.{Contains-append_left, Contains-append_right}
use Rattle.osi_base.specs.Calls.{Call, Keeps}
use Rattle.osi_base.specs.Link.{Link}
use Rattle.osi_base.specs.declared.unit.Unit.{Unit as CarriedUnit}
use Rattle.script_journal.specs.Partner.{AreEnds}
use Rattle.script_journal.specs.declared.cause.Refused.{Refused}
use Rattle.script_journal.specs.declared.event.Event.{Event}
use Rattle.script_journal.specs.declared.event.Event.TheVariants as events
use Rattle.tpdu.specs.declared.service.Options.{Options}
use Rattle.net_world.specs.Fifo.{IsFifo}
use Rattle.tpdu.specs.Kinds.{has_number}
use Rattle.tpdu.specs.Writing.{is_summed, kind_for}
use Rattle.tp4_number.specs.Number.{whole}
use Rattle.tp4_flow.specs.declared.step.Sent.{Sent}
use Rattle.tp4_conn.specs.Agreeing.{agreed_by, confirm, is_confirmed}
use Rattle.tp4_conn.specs.CrWait.{confirmed}
use Rattle.tp4_conn.specs.End.{End, IsProposal, IsSized, Moved, end_of}
use Rattle.tp4_conn.specs.Table.{Called, Took, at as now_at, on_call, stepped, takes}
use Rattle.tp4_conn.specs.UserWait.{accepted, user_wait_accept}
use Rattle.tp4_conn.specs.Calls.{call_refusal}
use Rattle.tp4_conn.specs.declared.end_record.EndRecord.{EndRecord}
use Rattle.tp4_conn.specs.declared.call.UserCall.{UserCall}
use Rattle.tp4_conn.specs.declared.call.UserCall.TheVariants.{Accept}
use Rattle.tp4_conn.specs.declared.states.InAkWait.{InAkWait}
use Rattle.tp4_conn.specs.declared.states.InCrWait.{InCrWait}
use Rattle.tp4_conn.specs.declared.states.StateData.{StateData}
use Rattle.tp4_conn.specs.declared.states.StateData.TheVariants.{CrWait, UserWait, AkWait}
use Rattle.tp4_conn.specs.declared.timers.Timers.{Timers}
use Rattle.tp4_entity.specs.Association.{met}
use Rattle.tp4_entity.specs.Entity.{Acted, Entity, at, end_at, moved}
use Rattle.tp4_entity.specs.References.{is_free}
use Rattle.tp4_entity.specs.Step.{calling as calling_at, calling_end, end_refusal, refused_by, user_refusal}
use Rattle.tp4_entity.specs.declared.refusal.EntityRefusal.{EntityRefusal}
use Rattle.law_tp4_pair.specs.Claim.{IsUndropped}
use Rattle.law_tp4_pair.specs.Standing.{HasLeft}
use Rattle.tp4_conn.specs.declared.proposed.Proposed.{Proposed}
use Rattle.tp4_conn.proofs.Agreed.{agreed_within}
use Rattle.tp4_conn.proofs.Sizes.{agreed_sized}
use Rattle.law_tp4_pair.proofs.Confirming.{confirms}
use Rattle.tp4_world.specs.Run.{transport_address}
use Rattle.tp4_world.specs.Telling.{call_events, ends_after, events_after}
use Rattle.tp4_world.specs.World.{entity_at, latest, with_entity}
use Rattle.tp4_world.specs.declared.place.EndAt.{EndAt}
use Rattle.tp4_world.specs.declared.place.Placed.{Placed}
use Rattle.law_tp4_associations.specs.Association.{Association, Posted, post, with_party}
use Rattle.law_tp4_associations.specs.Handing.{Aside, Begins, IsBetweenOpen, Taken, Takes}
use Rattle.law_tp4_associations.proofs.AllLaws.{Laws}
use Rattle.law_tp4_associations.specs.Standing.{IsParty, Standing}
use Rattle.law_tp4_associations.specs.Ticking.{IsTicking}
use Rattle.law_tp4_associations.proofs.Together.{all_laws}
use Rattle.law_calm_run.proofs.Hall.{AreAllProper, Calling as CallingStep, Calls, Goes, Hall, IsReadBy, Meets, Post, after, posted}
use Rattle.law_calm_run.proofs.Posting.{AreUnitsOf}
use Rattle.law_calm_run.proofs.Asking.{TookCall, taken}
use Rattle.law_calm_run.proofs.Going.{HasSettled, Stands, settled, stands_then}
use Rattle.law_calm_run.proofs.Indicating.{met_first}
use Rattle.law_calm_run.proofs.Queueing.{all_parts}
use Rattle.law_calm_run.proofs.Never.{AreNever, awake, never_goes, never_then}
use Rattle.law_calm_run.proofs.Starting.{first_hall, first_never, run_settles}
use Rattle.law_calm_run.specs.steps.Confirms.{AcceptsAreConfirmed}
use Rattle.law_calm_run.proofs.Story.{Story, address_of}
use Rattle.law_calm_run.proofs.Continuing.{get_set_same, some_same}
use Rattle.law_calm_run.proofs.Keeping.{has_story}
use Rattle.law_calm_run.proofs.Queued.{is_idle, proper_ends}
use Rattle.law_calm_run.proofs.Placing.{IsWhere, party_of, where_it_stands}
use Rattle.law_tp4_lawful.proofs.ActsHeld.{first_there}
use Rattle.tpdu.specs.declared.service.EndTold.TheVariants as tells

-- ---- one end

-- an end that takes an accept waits for its user
record IsAsked (reference : ℕ) (entity : Entity) : Type 0 where
  end : End
  stands : end_at entity reference ≡ Some end
  since : ℕ
  waits : end.stage ≡ UserWait since

asked_at : (reference : ℕ) (entity : Entity) (options : Options) (octets : List ℕ) → user_refusal entity reference (Accept options octets) ≡ None → IsAsked reference entity
asked_at reference entity options octets allowed = by_place (end_at entity reference) refl allowed
  where
    some_none : (why : EntityRefusal) → Some why ≡ None → ⊥
    some_none why is = absurd cc

    by_stage : (base : EndRecord) (stage : StateData) → refused_by (call_refusal base stage (Accept options octets)) ≡ None → (since : ℕ) × (stage ≡ UserWait since)
    by_stage base (UserWait since) may = (since, refl)
    by_stage base other may = absurd (some_none _ may)

    by_place : (place : Option End) → end_at entity reference ≡ place → end_refusal (Accept options octets) place ≡ None → IsAsked reference entity
    by_place None is may = absurd (some_none _ may)
    by_place (Some end) is may = let w = by_stage end.base end.stage may in record { end = end; stands = is; since = w.0; waits = w.1 }

-- what the called end has agreed on by an accept
abbrev answering : ℕ → End → Options → EndRecord
answering now y options = record y.base { clock = now; agreed = Some (agreed_by y.base.proposed options) }

accepts_so : (now : ℕ) (y : End) (since : ℕ) (options : Options) (octets : List ℕ) → y.stage ≡ UserWait since
    → stepped whole now y (Called (Accept options octets)) ≡ accepted (answering now y options) (agreed_by y.base.proposed options) octets
unfolding user_wait_accept
accepts_so now y since options octets is = ap (λ (stage : StateData). on_call (now_at now y.base) stage (Accept options octets)) is

-- the calling end takes the CC
confirms_so : (now : ℕ) (x y : End) (r : InCrWait) (options : Options) (octets : List ℕ) → x.stage ≡ CrWait r → y.base.proposed ≡ x.base.proposed → IsProposal y.base.proposed → IsSized options
    → let c = answering now y options in let agreed = agreed_by y.base.proposed options in
    stepped whole now x (Took (confirm c agreed octets).tpdu (confirm c agreed octets).sum)
    ≡ confirmed (record x.base { partner = c.own; credit = c.timers.credit; agreed = Some agreed; clock = now }) agreed octets
confirms_so now x y r options octets is same proposal sized =
    let c : EndRecord = answering now y options in
    let agreed : Options = agreed_by y.base.proposed options in
    ap (λ (stage : StateData). takes whole now x.base stage (confirm c agreed octets).tpdu (confirm c agreed octets).sum) is
    ∙ confirms x.base c r agreed octets now refl (agreed_sized y.base.proposed options proposal sized)
    (subst (λ (p : Proposed). is_confirmed p agreed ≡ true) same (agreed_within y.base.proposed options proposal sized))

or_false : (b : Bool) → (b || false) ≡ b
or_false true = refl
or_false false = refl

-- ---- the network without its carrier

module _ (titles : List (List ℕ)) (timers : Timers) (laws : Laws timers (address_of titles) (IsTicking timers (address_of titles))) (hall : Hall) (journal : List Event) (proper : AreAllProper hall.entities)
    (s : Story timers (address_of titles) hall journal) (calling called : ℕ) (are : AreEnds journal calling called) (x : End) (r : InCrWait) (x_at : IsWhere hall.entities hall.ends calling x) (x_waits : x.stage ≡ CrWait r)
    (options : Options) (octets : List ℕ) (made : List Event) (next : Hall) (c : Calls hall made next) (number_is : c.number ≡ called) (call_is : c.call ≡ Accept options octets) (size : IsSized options)
    (proper_then : AreAllProper next.entities) (never : AreNever next.entities) where
  abbrev own : ℕ → List ℕ
  own = address_of titles

  allowed : user_refusal c.entity c.end.reference (Accept options octets) ≡ None
  allowed = subst (λ (call : UserCall). user_refusal c.entity c.end.reference call ≡ None) call_is c.allowed

  asked : IsAsked c.end.reference c.entity
  asked = asked_at c.end.reference c.entity options octets allowed

  y_at : IsWhere hall.entities hall.ends called asked.end
  y_at = record {
    place = c.end;
    stands = (c.entity, c.there, asked.stands);
    number_is = by_latest (latest hall.ends c.end.system c.end.reference == c.number) refl c.stands ∙ number_is;
  }
    where
      by_latest : (same : Bool) → (latest hall.ends c.end.system c.end.reference == c.number) ≡ same → (not same || (is_none (end_at c.entity c.end.reference) || is_free hall.clock c.entity c.end.reference)) ≡ false
          → latest hall.ends c.end.system c.end.reference ≡ c.number
      by_latest true is ended = grind arith
      by_latest false is ended = absurd cc

  -- both are ends of one association
  record AreOfOne (k : ℕ) : Type 0 where
    called_party : IsParty s.all k false c.end.system c.end.reference asked.end
    calling_is : called_party.a.calling ≡ Some x
    caller_is : s.number k true ≡ Some calling

  of_one : (k : ℕ) × AreOfOne k
  unfolding y_at
  of_one =
      let h = s.tells.linked.partners are.p are.q are.heard are.asked are.partner in
      let one : s.number h.0 true ≡ Some calling = h.2 ∙ ap (λ (n : ℕ). Some n) are.calling_is in
      let two : s.number h.0 false ≡ Some called = h.3 ∙ ap (λ (n : ℕ). Some n) are.called_is in
      let first = party_of timers own hall.clock hall.entities hall.ends s.all s.queue s.number s.standing s.tells.numbered h.0 true calling x h.1 one x_at in
      let second = party_of timers own hall.clock hall.entities hall.ends s.all s.queue s.number s.standing s.tells.numbered h.0 false called asked.end h.1 two y_at in
      let same : second.a ≡ first.a = some_same second.a first.a (sym second.is ∙ first.is) in
      (h.0, record { called_party = second; calling_is = ap (λ (a : Association). a.calling) same ∙ first.end_is; caller_is = one })

  -- ---- the accept

  abbrev y : End
  y = asked.end

  abbrev agreed : Options
  agreed = agreed_by y.base.proposed options

  abbrev answer : Sent
  answer = confirm (answering hall.clock y options) agreed octets

  abbrev row : Moved
  row = stepped whole hall.clock y (Called (Accept options octets))

  row_is : row ≡ accepted (answering hall.clock y options) agreed octets
  row_is = accepts_so hall.clock y asked.since options octets asked.waits

  abbrev acted : Acted
  acted = calling_at whole hall.clock c.entity c.end.reference (Accept options octets)

  acted_is : acted ≡ moved (at hall.clock c.entity) c.end.reference (accepted (answering hall.clock y options) agreed octets)
  acted_is = ap (calling_end whole hall.clock (at hall.clock c.entity) c.end.reference (Accept options octets)) asked.stands ∙ ap (moved (at hall.clock c.entity) c.end.reference) row_is

  becomes : next ≡ after hall c.end.system acted
  becomes = c.does.becomes ∙ ap (λ (call : UserCall). after hall c.end.system (calling_at whole hall.clock c.entity c.end.reference call)) call_is

  abbrev first : Post
  first = record { system = c.end.system; sent = answer }

  -- the CC waits alone
  posts_are : next.posts ≡ first ∷ []
  posts_are =
      ap (λ (h : Hall). h.posts) becomes
      ∙ ap (λ (posts : List Post). posts ++ posted c.end.system acted.tpdus) c.idle
      ∙ ap (λ (a : Acted). posted c.end.system a.tpdus) acted_is

  ends_are : next.ends ≡ hall.ends
  ends_are = ap (λ (h : Hall). h.ends) becomes ∙ ap (λ (a : Acted). ends_after hall.ends c.end.system a.events) acted_is

  -- and the line says what was agreed
  told_is : made ≡ events.End (latest hall.ends c.end.system y.base.own) (tells.Accept agreed octets) ∷ c.does.aside
  told_is =
      c.made_is ∙ ap (λ (call : UserCall). call_events c.number call ++ c.later) call_is ∙ c.does.made_is
      ∙ ap (λ (call : UserCall). events_after hall.ends c.end.system c.entity.own (calling_at whole hall.clock c.entity c.end.reference call).events ++ c.does.aside) call_is
      ∙ ap (λ (a : Acted). events_after hall.ends c.end.system c.entity.own a.events ++ c.does.aside) acted_is

  stood : Standing timers own hall.clock hall.entities s.all []
  stood = (is_idle timers own hall journal s c.idle).standing

  -- ---- what is met first

  module _ (k : ℕ) (o : AreOfOne k) (here : List Event) (new : Hall) (meets : Meets titles next here new) where
    abbrev a : Association
    a = o.called_party.a

    abbrev b : Association
    b = with_party a false (Some (end_of row))

    abbrev all : List Association
    all = slice_set s.all k b

    abbrev waits : Posted
    waits = record { of = k; by = false; sent = answer }

    stands : Standing timers own hall.clock next.entities all (waits ∷ [])
    stands =
        subst (λ (h : Hall). Standing timers own hall.clock h.entities all (waits ∷ [])) (sym becomes)
        (subst (λ (m : Moved). Standing timers own hall.clock (with_entity hall.entities c.end.system acted.entity) all (post k false m.tpdus)) row_is
        (laws.calls hall.clock hall.entities s.all k false c.end.system c.end.reference y o.called_party c.entity (Accept options octets) stood (proper_ends hall.entities proper) c.there asked.stands allowed size))

    at_k : slice_get all k ≡ Some b
    at_k = get_set_same s.all k b a o.called_party.is

    post_is : meets.post ≡ first
    post_is = first_same meets.post first meets.rest [] (sym meets.posts_are ∙ posts_are)
      where
        first_same : (x y : Post) (xs ys : List Post) → x ∷ xs ≡ y ∷ ys → x ≡ y
        first_same x y xs ys is = cc is

    system_is : meets.system ≡ a.from.system
    system_is =
        let to_is : meets.entity.own ≡ own a.from.system = meets.own_is ∙ ap (λ (p : Post). p.sent.to) post_is ∙ laws.addressed hall.clock next.entities all waits [] b stands at_k in
        let there = stands.there k b true at_k in
        stands.systems.apart meets.system a.from.system meets.entity there.0 meets.there there.1 (sym (stands.systems.own_is meets.system meets.entity meets.there) ∙ to_is)

    there_is : entity_at next.entities a.from.system ≡ Some meets.entity
    there_is = sym (ap (entity_at next.entities) system_is) ∙ meets.there

    reads : IsReadBy meets.entity meets.post.sent
    reads = inl (ap (λ (p : Post). has_number (kind_for p.sent.tpdu)) post_is)

    from_is : transport_address meets.title ≡ own a.to
    from_is =
        ap (λ (o : Option (List ℕ)). transport_address (unwrap_or o []))
        (sym meets.title_is ∙ ap (λ (p : Post). slice_get titles p.system) post_is ∙ ap (slice_get titles) (sym o.called_party.system_is))

    heard : meets.acted ≡ met whole hall.clock (at hall.clock meets.entity) (own a.to) (answer.tpdu, answer.sum)
    heard =
        meets.heard (awake next.clock next.entities never meets.system meets.entity meets.there) reads
        ∙ ap (λ (h : Hall). met whole h.clock (at h.clock meets.entity) (transport_address meets.title) (meets.post.sent.tpdu, is_summed meets.post.sent.sum meets.post.sent.tpdu)) becomes
        ∙ ap (λ (from : List ℕ). met whole hall.clock (at hall.clock meets.entity) from (meets.post.sent.tpdu, is_summed meets.post.sent.sum meets.post.sent.tpdu)) from_is
        ∙ ap (λ (p : Post). met whole hall.clock (at hall.clock meets.entity) (own a.to) (p.sent.tpdu, is_summed p.sent.sum p.sent.tpdu)) post_is
        ∙ ap (λ (sum : Bool). met whole hall.clock (at hall.clock meets.entity) (own a.to) (answer.tpdu, sum)) (or_false answer.sum)

    -- neither has left, and the user of the called end has answered
    between : IsBetweenOpen b
    between = record {
      x = x;
      y = end_of row;
      calling = o.calling_is;
      called = refl;
      stays = λ left. elim left [
        | inl one ↦ subst HasLeft x_waits one
        | inr other ↦ subst (λ (m : Moved). HasLeft m.stage) row_is other
      ];
      answered = λ since is. waits_no_more since (sym (ap (λ (m : Moved). m.stage) row_is) ∙ is);
    }
      where
        waits_no_more : {w : InAkWait} (since : ℕ) → AkWait w ≡ UserWait since → ⊥
        waits_no_more since is = absurd cc

    taken_by : (e : Entity) (did : Acted) (others : List Association) (d : Association) → Takes own hall.clock e waits did all others b d
        → did ≡ moved e x.base.own (stepped whole hall.clock x (Took answer.tpdu answer.sum))
    taken_by e did others d (Taken end is did_is d_is others_are) =
        did_is ∙ ap (λ (z : End). moved e z.base.own (stepped whole hall.clock z (Took answer.tpdu answer.sum))) (some_same end x (sym is ∙ o.calling_is))
    taken_by e did others d (Aside entity_is tells d_is others_are never) = absurd (never between)
    taken_by e did others d (Begins reference base text by none least base_own base_to base_partner did_is d_is others_are) = absurd cc

    -- the calling end takes it
    confirms_it : meets.acted ≡ moved (at hall.clock meets.entity) x.base.own
        (confirmed (record x.base { partner = y.base.own; credit = y.base.timers.credit; agreed = Some agreed; clock = hall.clock }) agreed octets)
    confirms_it =
        let hands = laws.handed hall.clock next.entities all waits [] meets.entity b stands (proper_ends next.entities proper_then) at_k there_is in
        let may = laws.accepts hall.clock hall.entities s.all k a x y asked.since r options stood (proper_ends hall.entities proper) o.called_party.is o.calling_is o.called_party.end_is asked.waits x_waits size in
        heard ∙ taken_by (at hall.clock meets.entity) _ hands.others hands.b hands.takes
        ∙ ap (moved (at hall.clock meets.entity) x.base.own) (confirms_so hall.clock x y r options octets x_waits may.proposed may.size may.size_asked)

    number_is_calling : latest next.ends meets.system x.base.own ≡ calling
    number_is_calling =
        ap (λ (es : List EndAt). latest es meets.system x.base.own) ends_are
        ∙ ap (λ (i : ℕ). latest hall.ends i x.base.own) system_is
        ∙ some_same _ _ (sym (s.tells.numbered.party_is k a true x o.called_party.is o.calling_is) ∙ o.caller_is)

    told : Contains here (events.End calling (tells.Confirm agreed octets))
    told =
        let event : ℕ → Event = λ n. events.End n (tells.Confirm agreed octets) in
        let lines : here ≡ events_after next.ends meets.system meets.entity.own (moved (at hall.clock meets.entity) x.base.own (confirmed (record x.base { partner = y.base.own; credit = y.base.timers.credit; agreed = Some agreed; clock = hall.clock }) agreed octets)).events ++ meets.does.aside =
        meets.does.made_is ∙ ap (λ (d : Acted). events_after next.ends meets.system meets.entity.own d.events ++ meets.does.aside) confirms_it in
        subst (λ (n : ℕ). Contains here (event n)) number_is_calling
        (subst (λ (es : List Event). Contains es (event (latest next.ends meets.system x.base.own))) (sym lines)
        (first_there _ _))

  -- the settle tells it
  confirms_then : (settled : List Event) (last : Hall) (over : Goes titles next settled last) → last.posts ≡ [] → Contains settled (events.End calling (tells.Confirm agreed octets))
  confirms_then settled last over none =
      let m = met_first titles next settled last over first [] posts_are none in
      let found = told of_one.0 of_one.1 m.here m.next m.meets in
      let event : Event = events.End calling (tells.Confirm agreed octets) in
      subst (λ (es : List Event). Contains es event) (sym m.made_is) (Contains-append_right m.before (m.here ++ m.rest) event (Contains-append_left m.here m.rest event found))

  -- with what the line of the accept says
  says_agreed : (given : Options) (later : List Event) → made ≡ events.End called (tells.Accept given octets) ∷ later → agreed ≡ given
  says_agreed given later is = same_options _ called agreed given c.does.aside later (sym told_is ∙ is)
    where
      same_options : (n m : ℕ) (one other : Options) (xs ys : List Event) → events.End n (tells.Accept one octets) ∷ xs ≡ events.End m (tells.Accept other octets) ∷ ys → one ≡ other
      same_options n m one other xs ys is = cc is

-- ---- the network over its carrier

accepted_not_refused : (n : ℕ) (agreed : Options) (octets : List ℕ) (later : List Event) (why : Refused) → events.End n (tells.Accept agreed octets) ∷ later ≡ events.No why ∷ [] → ⊥
accepted_not_refused n agreed octets later why is = cc is

pub all_confirmed : {C : Type 0} (link : C → Link (List ℕ)) (steps : C → Call (List ℕ) → C → Type 0) (law : (old : C) (call : Call (List ℕ)) (new : C) → steps old call new → Keeps (link old) call (link new))
    (titles : List (List ℕ)) (Waits : C → List (CarriedUnit (List ℕ)) → Type 0) → IsFifo link steps titles Waits → AcceptsAreConfirmed link steps whole titles Waits
all_confirmed link steps law titles Waits fifo timers first before last script begun journal settled_by calling called options agreed octets start aside run are c =
    let begins : Hall = first_hall titles timers Waits first start link steps law fifo in
    let done : HasSettled link steps law titles Waits fifo begins journal before = run_settles titles timers Waits first start link steps law fifo script journal before run in
    let hall : Hall = done.went.next in
    let known : Stands link steps law titles Waits fifo before hall done.went.queue = stands_then link steps law titles Waits fifo begins journal before done.went in
    let story : Story timers (address_of titles) hall (begun ++ journal) = has_story titles timers Waits first start (link first.carrier).clock begun journal hall aside done.went.goes in
    let parts = all_parts IsUndropped c.later settled_by c.undropped in
    let call : UserCall = Accept options octets in
    let made : List Event = events.End called (tells.Accept agreed octets) ∷ c.later in
    let took : TookCall link steps law titles Waits fifo hall made c.between called call =
    taken link steps law titles Waits fifo before c.between hall done.went.queue made called call known done.none (tt, parts.0) c.proper (accepted_not_refused called agreed octets c.later) c.accepts in
    let over = settled link steps law titles Waits fifo 0 c.between settled_by last c.settles took.next took.queue took.stands parts.1 in
    let none : over.went.next.posts ≡ [] = subst (λ (q : List (CarriedUnit (List ℕ))). AreUnitsOf titles q over.went.next.posts) over.none over.went.shows.units in
    let x_at : IsWhere hall.entities hall.ends calling c.unanswered.end =
    subst (λ (es : List EndAt). IsWhere hall.entities es calling c.unanswered.end) known.shows.ends
    (subst (λ (ps : List Placed). IsWhere ps before.ends calling c.unanswered.end) known.shows.entities (where_it_stands before calling c.unanswered.end c.unanswered.stands)) in
    let proper : AreAllProper hall.entities = λ system e is. (known.kept system e is).proper in
    let proper_then : AreAllProper took.next.entities = λ system e is. (took.stands.kept system e is).proper in
    let never : AreNever took.next.entities = never_then titles hall took.next made (CallingStep took.calls)
    (never_goes titles begins journal hall done.went.goes (first_never titles timers Waits first start)) in
    let confirms_it = confirms_then titles timers (all_laws timers (address_of titles)) hall (begun ++ journal) proper story calling called are c.unanswered.end c.unanswered.request x_at c.unanswered.waits options octets made took.next
    took.calls took.number_is took.call_is c.proper proper_then never settled_by over.went.next over.went.goes none in
    let says = says_agreed titles timers (all_laws timers (address_of titles)) hall (begun ++ journal) proper story calling called are c.unanswered.end c.unanswered.request x_at c.unanswered.waits options octets made took.next
    took.calls took.number_is took.call_is c.proper proper_then never agreed c.later refl in
    subst (λ (o : Options). Contains settled_by (events.End calling (tells.Confirm o octets))) says confirms_it
