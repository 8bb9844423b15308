-- A call of a user, where nothing waits or the next `settle` is still to come: it is of the end that asked, or of one that it called, or neither sees anything of it; and a connect makes another end.
use Rattle.std.proofs.Common.{false, ◌++◌, ◌∙◌, ◌∷◌, ◌≡◌, ◌≤◌, Contains, List, None, Option, Some, [], ℕ, ap, append-nil, arith, inl, inr, length, refl, subst, sym, true}
use Rattle.std.specs.List.{AllByRecursion}
use Rattle.std.proofs.lemmas.Option.{none-some, same_Some}
use Rattle.std.proofs.lemmas.List.Elements.{Contains-append_left}
use Rattle.osi_base.specs.Link.{Link}
use Rattle.script_journal.specs.declared.event.Event.{Event as JournalEvent}
use Rattle.script_journal.specs.declared.event.Event.TheVariants as events
use Rattle.tp4_number.specs.Number.{whole}
use Rattle.tp4_flow.specs.declared.step.Sent.{Sent}
use Rattle.tp4_sending.specs.declared.tries.Tries.{Tries}
use Rattle.tp4_conn.specs.Calls.{IsCall, call_refusal}
use Rattle.tp4_conn.specs.End.{End, Moved, end_of, frozen_for}
use Rattle.tp4_conn.specs.Making.{connected}
use Rattle.tp4_conn.specs.Matching.{is_called_by}
use Rattle.tp4_conn.specs.Table.{Called, at as now_at, stepped}
use Rattle.tp4_conn.specs.declared.call.ConnectRequest.{ConnectRequest}
use Rattle.tp4_conn.specs.declared.call.UserCall.{UserCall}
use Rattle.tp4_conn.specs.declared.call.UserCall.TheVariants as asks
use Rattle.tp4_conn.specs.declared.end_record.EndRecord.{EndRecord}
use Rattle.tp4_conn.specs.declared.states.InCrWait.{InCrWait}
use Rattle.tp4_conn.specs.declared.states.StateData.{StateData}
use Rattle.tp4_conn.specs.declared.states.StateData.TheVariants as stages
use Rattle.tp4_conn.specs.declared.timers.Timers.{Timers}
use Rattle.tp4_entity.specs.Entity.{Entity, at, end_at, with_end}
use Rattle.tp4_entity.specs.References.{is_free_place, least_free}
use Rattle.tp4_entity.specs.Step.{call_of, connecting}
use Rattle.tp4_entity.proofs.Standings.{free_least}
use Rattle.law_tp4_history.specs.Tracks.{Whole}
use Rattle.law_tp4_history.specs.Moves.{IsSeenIn, stop_of}
use Rattle.tp4_world.specs.Telling.{call_events, ends_after}
use Rattle.tp4_world.specs.World.{World, entity_at, latest, with_entity}
use Rattle.tp4_world.specs.declared.place.EndAt.{EndAt}
use Rattle.law_tp4_lawful.proofs.MakesPlaces.{at_other, at_same}
use Rattle.law_tp4_lawful.proofs.Worlds.{Explains}
use Rattle.law_calm_run.proofs.Hall.{Post, posted}
use Rattle.law_recovery_run.proofs.Aiming.{Going}
use Rattle.law_recovery_run.proofs.Aside.{kept_place}
use Rattle.law_recovery_run.proofs.Beside.{latest_elsewhere}
use Rattle.law_recovery_run.proofs.Waiting.{posted_each}
use Rattle.law_recovery_run.specs.Requesting.{IsUnanswered, in_cr_wait}
use Rattle.law_recovery_run.proofs.RequestComes.{IsHere, IsPending}
use Rattle.law_recovery.proofs.Asking.{at_place, call_goes}
use Rattle.law_recovery_run.specs.Asked.{By_user}
use Rattle.law_recovery.proofs.Accepting.{only_called, quiet_row}
use Rattle.law_recovery.proofs.Elsewhere.{Changes, accepted_on, bare_on, changed_there, here_on, listens_on, replied_on, selects_on, still_pending}
use Rattle.law_recovery.proofs.Replying.{IsOnCall, Parting, Replies, Waiting_on, ak_wait_call, call_replies}
use Rattle.law_recovery.proofs.HalvesRowing.{IsCalled, apart_posts, called_or, changes, is_it, known, numbers_same, placed, row_bare, row_pending, row_replied, row_replies}
use Rattle.law_recovery.proofs.State.{Accepted, AreApart, Asked, Early, IsAccepted, IsBare, IsOn, IsQuiet, Over, Replied, Told}
use Rattle.law_recovery.proofs.HalvesTelling.{first_is, told_before, told_behind}

-- an end in CrWait takes no other call than its user's disconnect
parts : (b : EndRecord) (r : InCrWait) (call : UserCall) → call_refusal b (stages.CrWait r) call ≡ None → (octets : List ℕ) × (call ≡ asks.Disconnect octets)
parts b r (asks.Disconnect octets) may = (octets, refl)
parts b r (asks.Accept options octets) may = absurd (cc may)
parts b r (asks.Refuse octets) may = absurd (cc may)
parts b r (asks.Normal octets) may = absurd (cc may)
parts b r (asks.Urgent octets) may = absurd (cc may)
parts b r (asks.Window credit) may = absurd (cc may)

-- ---- a call

module _ {C : Type 0} (link : C → Link (List ℕ)) (titles : List (List ℕ)) (timers : Timers) (w : Whole) (journal : List JournalEvent) (old : World C) (explains : Explains link titles timers w journal old)
    (going : Going) (new : World C) (made : List JournalEvent) (number : ℕ) (end : EndAt) (entity : Entity) (call : UserCall) (there : entity_at old.entities end.system ≡ Some entity)
    (number_is : latest old.ends end.system end.reference ≡ number) (o : End) (stands : end_at entity end.reference ≡ Some o) (allowed : call_refusal o.base o.stage call ≡ None) (proper : IsCall call)
    (entities : new.entities ≡ with_entity old.entities end.system (with_end (at (link old.carrier).clock entity) end.reference (Some (end_of (stepped whole (link old.carrier).clock o (Called call))))))
    (ends : new.ends ≡ ends_after old.ends end.system (stepped whole (link old.carrier).clock o (Called call)).events) (clock : (link new.carrier).clock ≡ (link old.carrier).clock)
    (rest : List JournalEvent) (made_is : made ≡ call_events number call ++ rest) where
  abbrev now : ℕ
  now = (link old.carrier).clock

  abbrev m : Moved
  m = stepped whole now o (Called call)

  abbrev place : Option End
  place = Some (end_of m)

  place_is : (e : End) → place ≡ Some e → e ≡ end_of m
  place_is e is = sym (same_Some (end_of m) e is)

  goes : stop_of o.stage ≡ None
  goes = call_goes o.base o.stage call allowed

  module _ (x system : ℕ) (from : List ℕ) (N : Type 0) (F : Type 0) (y limit : ℕ) (first : EndRecord) (asked : InCrWait) (late : List JournalEvent) (posts : List Post) where
    abbrev On : Type 0
    On = IsOn link x system from N F y limit first asked (late ++ made) new (posts ++ posted end.system m.tpdus)

    module _ (b : EndRecord) (r : InCrWait) (h : IsHere system x from N b r old) where
      -- its user disconnects
      parted : end.system ≡ system → end.reference ≡ b.own → On
      parted at_it same =
          let is : o ≡ in_cr_wait b r = is_it link titles timers w journal old explains going new end.system entity there end.reference o stands (Called call) place place_is entities ends clock x system from N b r h at_it same in
          let d = parts b r call (subst (λ (z : End). call_refusal z.base z.stage call ≡ None) is allowed) in
          let x_is : number ≡ x = sym number_is ∙ (λ i. latest old.ends (at_it i) (same i)) ∙ h.number in
          let here : made ≡ events.Disconnect x d.0 ∷ rest = made_is ∙ (λ i. call_events (x_is i) (d.1 i) ++ rest) in
          Told (told_behind N late made x (By_user d.0 (subst (λ (es : List JournalEvent). Contains es (events.Disconnect x d.0)) (sym here) (first_is (events.Disconnect x d.0) rest))))

      abbrev Calls : Type 0
      Calls = IsCalled link titles timers w journal old explains going new end.system entity there end.reference o stands (Called call) place place_is entities ends clock x system from N b r h

      -- the user of its called end answers
      answers : IsBare link x system from N b r old posts → (end.system ≡ system → end.reference ≡ b.own → ⊥) → Calls → On
      answers bare apart called = by o.stage refl (bare.unanswered end.system end.reference entity o there called.0 stands called.1)
        where
          by : (stage : StateData) → o.stage ≡ stage → IsUnanswered o.stage → On
          by (stages.UserWait since) is un =
              let same : o ≡ record { base = o.base; stage = stages.UserWait since } = ap (λ (z : StateData). record { base = o.base; stage = z }) is in
              let says : Replies from N b.own m = subst (λ (z : End). Replies from N b.own (stepped whole now z (Called call))) (sym same)
              (call_replies now o.base since call from N b.own called.1 (subst (λ (z : StateData). call_refusal o.base z call ≡ None) is allowed)) in
              Replied b r (row_replies link titles timers w journal old explains going new end.system entity there end.reference o stands (Called call) place place_is entities ends clock x system from N b r h apart posts says.sent called
              says.is says.reply bare.apart)
          by (stages.Frozen when) is un = absurd (cc (ap stop_of (sym is) ∙ goes))
          by other is un = absurd (subst IsUnanswered is un)

      abbrev aside : (end.system ≡ system → end.reference ≡ b.own → ⊥) → (Calls → ⊥) → AreApart system from N b r (posted end.system m.tpdus)
      aside apart other =
          apart_posts link titles timers w journal old explains going new end.system entity there end.reference o stands (Called call) place place_is entities ends clock x system from N b r h apart other goes tt tt (allowed, proper)
          (λ named. named)

      abbrev stays : (apart : end.system ≡ system → end.reference ≡ b.own → ⊥) → (Calls → ⊥) → IsBare link x system from N b r old posts → IsBare link x system from N b r new (posts ++ posted end.system m.tpdus)
      stays apart other bare =
          row_bare link titles timers w journal old explains going new end.system entity there end.reference o stands (Called call) place place_is entities ends clock x system from N b r h apart other posts (aside apart other) bare

      -- which of these
      which : IsBare link x system from N b r old posts → ((end.system ≡ system → end.reference ≡ b.own → ⊥) → (Calls → ⊥) → On) → On
      which bare still = elim (at_place end.system end.reference system b.own) [
        | inl here ↦ parted here.0 here.1
        | inr apart ↦
            elim (called_or link titles timers w journal old explains going new end.system entity there end.reference o stands (Called call) place place_is entities ends clock x system from N b r h) [
              | inl called ↦ answers bare apart called
              | inr other ↦ still apart other
            ]
      ]

    -- ---- its called end was accepted

    module _ (on : F) (b : EndRecord) (r : InCrWait) (k : IsAccepted link x system from N y limit b r old posts) (apart : end.system ≡ system → end.reference ≡ b.own → ⊥) where
      elsewhere : system ≡ end.system → b.own ≡ end.reference → ⊥
      elsewhere at_it same = apart (sym at_it) (sym same)

      abbrev c : Changes link old new
      c = changes link titles timers w journal old explains going new end.system entity there end.reference o stands (Called call) place place_is entities ends clock

      -- it takes the call
      module _ (at_it : end.system ≡ k.at_system) (same : end.reference ≡ k.own) where
        owner : entity ≡ k.entity
        owner = same_Some entity k.entity (sym there ∙ ap (entity_at old.entities) at_it ∙ k.there)

        as_it : o ≡ record { base = k.end.base; stage = stages.AkWait k.w }
        as_it = same_Some o k.end (sym stands ∙ (λ i. end_at (owner i) (same i)) ∙ k.stands) ∙ ap (λ (z : StateData). record { base = k.end.base; stage = z }) k.stage

        abbrev its : Moved
        its = stepped whole now (record { base = k.end.base; stage = stages.AkWait k.w }) (Called call)

        m_is : its ≡ m
        m_is = ap (λ (z : End). stepped whole now z (Called call)) (sym as_it)

        shut : k.w.halves.sending.is_open ≡ false
        shut =
            let its_known = known link titles timers w journal old explains going new end.system entity there end.reference o stands (Called call) place place_is entities ends clock in
            let state : IsSeenIn (w.base.end its_known.k).birth (w.base.end its_known.k).took (w.base.end its_known.k).latest k.end.base (stages.AkWait k.w) =
            subst (λ (z : End). IsSeenIn (w.base.end its_known.k).birth (w.base.end its_known.k).took (w.base.end its_known.k).latest z.base z.stage) as_it its_known.sees.state in
            state.shut

        takes_it : IsOnCall from N b.own now k.end.base k.w its → On
        takes_it (Parting says) = Replied b r (row_replies link titles timers w journal old explains going new end.system entity there end.reference o stands (Called call) place place_is entities ends clock x system from N b r
            k.here apart posts says.sent (ap (λ (z : Entity). z.own) owner ∙ k.own_is, subst (λ (z : End). is_called_by z.base from b.own ≡ true) (sym as_it) k.called) (ap (λ (z : Moved). z.tpdus) (sym m_is) ∙ says.is) says.reply
            k.apart)
        takes_it (Waiting_on next base stage tries none) = Accepted on b r (record {
          here = here_on link old new c x system from N b r k.here elsewhere;
          listens = listens_on link old new c b.to k.listens;
          selects = selects_on link old new c N b.to b.called k.selects;
          apart = subst (AreApart system from N b r) (sym still) k.apart;
          at_system = k.at_system;
          own = k.own;
          entity = c.changed;
          there = ap (entity_at new.entities) (sym at_it) ∙ changed_there link old new c;
          own_is = ap (λ (z : Entity). z.own) owner ∙ k.own_is;
          end = end_of m;
          w = next;
          stands = ap (end_at c.changed) (sym same) ∙ placed link titles timers w journal old explains going new end.system entity there end.reference o stands (Called call) place place_is entities ends clock;
          stage = ap (λ (z : Moved). z.stage) (sym m_is) ∙ stage;
          called = subst (λ (z : EndRecord). is_called_by z from b.own ≡ true) (sym base_is) k.called;
          number = numbers_same link titles timers w journal old explains going new end.system entity there end.reference o stands (Called call) place place_is entities ends clock k.at_system k.own ∙ k.number;
          past =
              let t : next.tries.last ≡ k.w.tries.last = ap (λ (z : Tries). z.last) tries in
              let u : m.base.timers.t1 ≡ k.end.base.timers.t1 = ap (λ (z : EndRecord). z.timers.t1) base_is in
              let was = k.past in
              omega (arith, was, t, u);
          quiet = subst (AllByRecursion (IsQuiet link x system from N b.to k.at_system k.own)) (sym still) k.quiet;
        })
          where
            base_is : m.base ≡ now_at now k.end.base
            base_is = ap (λ (z : Moved). z.base) (sym m_is) ∙ base

            still : posts ++ posted end.system m.tpdus ≡ posts
            still = ap (λ (l : List Sent). posts ++ posted end.system l) (ap (λ (z : Moved). z.tpdus) (sym m_is) ∙ none) ∙ append-nil posts

        its_call : On
        its_call = takes_it (ak_wait_call now k.end.base k.w call from N b.own k.called shut (subst (λ (z : End). call_refusal z.base z.stage call ≡ None) as_it allowed))

      -- another end takes it
      beside_it : (end.system ≡ k.at_system → end.reference ≡ k.own → ⊥) → On
      beside_it apart_there = Accepted on b r (accepted_on link old new c x system from N b r y limit posts (posted end.system m.tpdus) k elsewhere (λ at_it same. apart_there (sym at_it) (sym same))
          (apart_posts link titles timers w journal old explains going new end.system entity there end.reference o stands (Called call) place place_is entities ends clock x system from N b r k.here apart
          (λ called. let at = only_called link titles timers w journal old explains x system from N y limit b r posts k end.system entity there end.reference o stands goes called.0 called.1 in apart_there at.0 at.1) goes tt tt
          (allowed, proper) (λ named. named))
          (posted_each (IsQuiet link x system from N b.to k.at_system k.own) end.system m.tpdus
          (quiet_row link titles timers w journal old explains x system from N y limit b r posts k end.system entity there end.reference o stands goes going (Called call) tt tt (allowed, proper) (λ to named. named) apart_there)))

    accepted_call : (on : F) (b : EndRecord) (r : InCrWait) → IsAccepted link x system from N y limit b r old posts → On
    accepted_call on b r k = elim (at_place end.system end.reference system b.own) [
      | inl here ↦ parted b r k.here here.0 here.1
      | inr apart ↦ elim (at_place end.system end.reference k.at_system k.own) [
        | inl it ↦ its_call on b r k apart it.0 it.1
        | inr other ↦ beside_it on b r k apart other
      ]
    ]

    pub call_on : IsOn link x system from N F y limit first asked late old posts → On
    call_on (Early never k) = which first asked k.here k (λ apart other. Early never (stays first asked k.here apart other k))
    call_on (Asked never b r k p) = which b r k.here k (λ apart other. Asked never b r (stays b r k.here apart other k)
        (row_pending link titles timers w journal old explains going new end.system entity there end.reference o stands (Called call) place place_is entities ends clock x system from N b r k.here apart other posts p))
    call_on (Replied b r k) = elim (at_place end.system end.reference system b.own) [
      | inl here ↦ parted b r k.here here.0 here.1
      | inr apart ↦
          Replied b r (row_replied link titles timers w journal old explains going new end.system entity there end.reference o stands (Called call) place place_is entities ends clock x system from N b r k.here apart posts k)
    ]
    call_on (Accepted on b r k) = accepted_call on b r k
    call_on (Told t) = Told (told_before N late made x t)
    call_on (Over on t) = Over on (Contains-append_left late made _ t)

-- ---- a connect

module _ {C : Type 0} (link : C → Link (List ℕ)) (old new : World C) (made : List JournalEvent) (s : ℕ) (entity : Entity) (there : entity_at old.entities s ≡ Some entity) (request : ConnectRequest) (reference : ℕ)
    (free : least_free (link old.carrier).clock entity ≡ Some reference) (entities : new.entities ≡ with_entity old.entities s (connecting (link old.carrier).clock entity reference request).entity)
    (ends : new.ends ≡ old.ends ++ record { system = s; reference = reference } ∷ []) (clock : (link new.carrier).clock ≡ (link old.carrier).clock) where
  abbrev begin_now : ℕ
  begin_now = (link old.carrier).clock

  abbrev begun : Moved
  begun = connected begin_now (call_of entity reference request)

  abbrev begins : Changes link old new
  begins = record {
    system = s;
    entity = entity;
    changed = with_end (at begin_now entity) reference (Some (end_of begun));
    reference = reference;
    there = there;
    entities = entities;
    own = refl;
    silent = λ n. refl;
    selectors = refl;
    others = λ other apart. at_other (at begin_now entity) reference other (Some (end_of begun)) (free_least begin_now reference entity free).least apart;
    numbers = λ at_system other apart. ap (λ (es : List EndAt). latest es at_system other) ends ∙ latest_elsewhere old.ends (record { system = s; reference = reference }) at_system other apart;
    clock = clock;
  }

  -- where an end stands that is not frozen, none is made
  taken : (at_system at_reference : ℕ) (z : Entity) (e : End) → entity_at old.entities at_system ≡ Some z → end_at z at_reference ≡ Some e → stop_of e.stage ≡ None → at_system ≡ s → at_reference ≡ reference → ⊥
  taken at_system at_reference z e at_it at_own goes here same =
      let owner : z ≡ entity = same_Some z entity (sym at_it ∙ ap (entity_at old.entities) here ∙ there) in
      kept_place begin_now (frozen_for e.base.timers) e.stage goes (ap (is_free_place begin_now) (sym at_own ∙ (λ i. end_at (owner i) (same i))) ∙ (free_least begin_now reference entity free).free)

  module _ (x system : ℕ) (from : List ℕ) (N : Type 0) (F : Type 0) (y limit : ℕ) (first : EndRecord) (asked : InCrWait) (late : List JournalEvent) (posts : List Post) where
    abbrev Begun : Type 0
    Begun = IsOn link x system from N F y limit first asked (late ++ made) new (posts ++ posted s begun.tpdus)

    module _ (b : EndRecord) (r : InCrWait) (h : IsHere system x from N b r old) where
      not_here : system ≡ s → b.own ≡ reference → ⊥
      not_here = taken system b.own h.entity (in_cr_wait b r) h.there h.stands refl

      cr_apart : AreApart system from N b r (posted s begun.tpdus)
      cr_apart = (record { refused = λ to_it. absurd (none-some b.own to_it.target); named = λ at_it names. absurd (not_here (sym at_it) (sym names)); sourced = λ kind. absurd (cc kind) }, tt)

      bare_begun : IsBare link x system from N b r old posts → IsBare link x system from N b r new (posts ++ posted s begun.tpdus)
      bare_begun bare = bare_on link old new begins x system from N b r posts (posted s begun.tpdus) bare not_here
          (λ p at_it to called. absurd (not_called p (sym (same_Some (end_of begun) p (sym stands_new ∙ at_it))) called))
          cr_apart
        where
          inside : (1 ≤ reference) × (reference ≤ length entity.ends)
          inside = let f = free_least begin_now reference entity free in (f.least, f.most)

          stands_new : end_at (with_end (at begin_now entity) reference (Some (end_of begun))) reference ≡ Some (end_of begun)
          stands_new = at_same (at begin_now entity) reference (Some (end_of begun)) inside.0 inside.1

          not_called : (p : End) → p ≡ end_of begun → is_called_by p.base from b.own ≡ true → ⊥
          not_called p is called = cc (ap (λ (z : End). is_called_by z.base from b.own) (sym is) ∙ called)

      pending_begun : IsPending system x from N b r old posts → IsPending system x from N b r new (posts ++ posted s begun.tpdus)
      pending_begun p = still_pending link old new begins x system from N b r posts (posted s begun.tpdus) p
          (λ d. taken d.at_system d.own d.entity d.end d.there d.stands (ap stop_of d.stage))

    pub connect_on : IsOn link x system from N F y limit first asked late old posts → Begun
    connect_on (Early never k) = Early never (bare_begun first asked k.here k)
    connect_on (Asked never b r k p) = Asked never b r (bare_begun b r k.here k) (pending_begun b r k.here p)
    connect_on (Replied b r k) = Replied b r (replied_on link old new begins x system from N b r posts (posted s begun.tpdus) k (not_here b r k.here))
    connect_on (Accepted on b r k) = Accepted on b r (accepted_on link old new begins x system from N b r y limit posts (posted s begun.tpdus) k (not_here b r k.here)
        (taken k.at_system k.own k.entity k.end k.there k.stands (ap stop_of k.stage)) (cr_apart b r k.here)
        (record { none = λ at_it to_it. none-some k.own to_it.target; unnamed = λ at_it names. taken k.at_system k.own k.entity k.end k.there k.stands (ap stop_of k.stage) (sym at_it) (sym names) }, tt))
    connect_on (Told t) = Told (told_before N late made x t)
    connect_on (Over on t) = Over on (Contains-append_left late made _ t)
