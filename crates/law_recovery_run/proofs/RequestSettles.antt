-- A settle, delivery after delivery: the CR of an end in CrWait makes its called end, or a DR comes back, whatever else waits.
use Rattle.std.proofs.Common.{◌≡◌, ◌⊎◌, inl, inr, ℕ, ◌+◌, List, [], ◌∷◌, ◌++◌, true, false, Some, refl, sym, ◌∙◌, ap, subst, append_assoc}
use Rattle.std.specs.List.{AllByRecursion, Contains}
use Rattle.osi_base.specs.Calls.{Call, Keeps}
use Rattle.osi_base.specs.Link.{IsLeastFresh, Link}
use Rattle.osi_base.specs.declared.unit.Picked.TheVariants.{Taken as WasPicked}
use Rattle.osi_base.specs.declared.unit.Unit.{Unit as CarriedUnit}
use Rattle.net_world.specs.Fifo.{IsFifo}
use Rattle.script_journal.specs.Partner.{ArePartners}
use Rattle.script_journal.specs.declared.event.Event.{Event}
use Rattle.std.proofs.lemmas.Bool.{eqb-true}
use Rattle.std.proofs.lemmas.Option.{same_Some}
use Rattle.std.specs.Prelude.{◌==◌, ◌&&◌, nat_eq}
use Rattle.std.specs.Cmp.Lexicographic.{bytes_decides, pointwise}
use Rattle.tp4_number.specs.Number.{whole}
use Rattle.tp4_conn.specs.End.{IsTimed}
use Rattle.tp4_conn.specs.Matching.{is_called_by}
use Rattle.tp4_conn.specs.declared.end_record.EndRecord.{EndRecord}
use Rattle.tp4_conn.specs.declared.states.InCrWait.{InCrWait}
use Rattle.tp4_conn.specs.declared.timers.Timers.{Timers}
use Rattle.tp4_entity.specs.Association.{refusal}
use Rattle.tp4_entity.specs.Entity.{Entity, end_at}
use Rattle.tp4_entity.specs.Silence.{is_silent}
use Rattle.law_tp4_history.specs.Moves.{stop_of}
use Rattle.law_tp4_pair.specs.Claim.{IsUndropped}
use Rattle.tp4_world.specs.Run.{Delivers, NoneLeft, OneMore, Settles, TooMany}
use Rattle.tp4_world.specs.World.{World, entity_at, latest}
use Rattle.tp4_world.specs.declared.place.Placed.{Placed}
use Rattle.law_tp4_lawful.proofs.ReferencesHalves.{known_at}
use Rattle.law_tp4_lawful.proofs.ReferencesLater.{partners_on}
use Rattle.law_tp4_lawful.proofs.Worlds.{Followed}
use Rattle.law_calm_run.proofs.Hall.{Hall, Post, after}
use Rattle.law_calm_run.proofs.Posting.{AreUnitsOf}
use Rattle.law_calm_run.proofs.Queueing.{all_parts}
use Rattle.law_recovery_run.specs.Rivals.{IsGoing}
use Rattle.law_recovery_run.proofs.Aiming.{Going}
use Rattle.law_recovery_run.proofs.Aside.{both_are}
use Rattle.law_recovery_run.proofs.Rivals.{no_rival}
use Rattle.law_recovery_run.specs.Following.{Stands}
use Rattle.law_recovery_run.proofs.Coming.{StandsSo, delivered}
use Rattle.law_recovery_run.proofs.Settling.{IsExplained, explained_on, timed as timed_by}
use Rattle.law_recovery_run.specs.Requesting.{AreListening, AreUnanswered, HasTaken, IsAnswered, IsApart, IsIndicated, IsRefusal, cr_from, in_cr_wait}
use Rattle.law_recovery_run.proofs.RequestComes.{Asking, IsHere, IsPending, IsUnsettled, IsWaiting, Refusing, Waiting, here_same, listens_on, none_there, refusal_of, waiting_same}
use Rattle.law_recovery_run.proofs.Keeping.{IsKeptApart, unsettled_so}

-- ---- where nothing waits

module _ {C : Type 0} (link : C → Link (List ℕ)) (journal : List Event) (world : World C) (ex : IsExplained link journal world) (system x : ℕ) (from : List ℕ) (N : Type 0) (b : EndRecord) (r : InCrWait)
    (h : IsHere system x from N b r world) (u : AreUnanswered world b.to from b.own) (d : IsWaiting system x from N b r world) where
  abbrev calling : Stands world x (in_cr_wait b r)
  calling = record { system = system; reference = b.own; entity = h.entity; is_end = record { there = h.there; stands = h.stands; number = h.number } }

  abbrev number : ℕ
  number = latest world.ends d.at_system d.own

  abbrev called : Stands world number d.end
  called = record { system = d.at_system; reference = d.own; entity = d.entity; is_end = record { there = d.there; stands = d.stands; number = refl } }

  abbrev going : IsGoing world x
  going = record { system = system; reference = b.own; entity = h.entity; end = in_cr_wait b r; is_end = calling.is_end; goes = refl }

  -- it is for the calling end
  to_is : d.end.base.to ≡ from
  to_is = let parts = both_are (pointwise nat_eq d.end.base.to from) (d.end.base.partner == b.own) (both_are d.end.base.is_called (pointwise nat_eq d.end.base.to from && d.end.base.partner == b.own) d.called).1 in
      (bytes_decides d.end.base.to from).0 parts.0

  partner_is : d.end.base.partner ≡ b.own
  partner_is =
      let parts = both_are (pointwise nat_eq d.end.base.to from) (d.end.base.partner == b.own) (both_are d.end.base.is_called (pointwise nat_eq d.end.base.to from && d.end.base.partner == b.own) d.called).1 in
      eqb-true d.end.base.partner b.own parts.1

  are_partners : ArePartners journal number x
  are_partners = no_rival link ex.titles ex.timers ex.w journal world ex.explains number x going (record {
    going = record { system = d.at_system; reference = d.own; entity = d.entity; end = d.end; is_end = called.is_end; goes = ap stop_of d.stage };
    to_is = to_is ∙ sym h.own_is;
    partner_is = partner_is;
  })

  pub is_indicated : IsIndicated journal world x b r
  is_indicated = record {
    calling = calling;
    number = number;
    end = d.end;
    called = called;
    since = d.since;
    stage = d.stage;
    partners = elim are_partners [ inl one ↦ inr one | inr one ↦ inl one ];
    address = d.own_is;
    names = subst (λ (l : List ℕ). is_called_by d.end.base l b.own ≡ true) (sym h.own_is) d.called;
    unanswered = subst (λ (l : List ℕ). AreUnanswered world b.to l b.own) (sym h.own_is) u;
  }

-- with more of the journal
indicated_on : {C : Type 0} (journal made : List Event) (world : World C) (x : ℕ) (b : EndRecord) (r : InCrWait) → IsIndicated journal world x b r → IsIndicated (journal ++ made) world x b r
indicated_on {C} journal made world x b r i = record {
  calling = i.calling;
  number = i.number;
  end = i.end;
  called = i.called;
  since = i.since;
  stage = i.stage;
  partners = partners_on journal made x i.number i.partners;
  address = i.address;
  names = i.names;
  unanswered = i.unanswered;
}

-- ---- a settle

-- of a selector that is not registered nothing need be known
abbrev Any : Type 0
Any = Prim.Unit {0}

module _ {C : Type 0} (link : C → Link (List ℕ)) (steps : C → Call (List ℕ) → C → Type 0)
    (law : (old : C) (call : Call (List ℕ)) (new : C) → steps old call new → Keeps (link old) call (link new))
    (titles : List (List ℕ)) (Waits : C → List (CarriedUnit (List ℕ)) → Type 0) (fifo : IsFifo link steps titles Waits)
    (followed : (titles : List (List ℕ)) (timers : Timers) → Followed titles timers) (going : Going) (system x : ℕ) (from : List ℕ) (b : EndRecord) (r : InCrWait) (P : Type 0) where
  abbrev IsUnsettledSo : World C → List Post → Type 0
  IsUnsettledSo world posts = IsUnsettled system x from Any b r world posts

  -- and what waits beside it
  abbrev IsBeside : List Post → Type 0
  IsBeside posts = P → AllByRecursion (IsKeptApart system from Any b r) posts

  -- the timers of the end that asked are those of the network
  timed : (journal : List Event) (world : World C) (ex : IsExplained link journal world) → IsHere system x from Any b r world → IsTimed ex.timers
  timed journal world ex h = timed_by link steps law titles Waits fifo going followed journal world ex x (in_cr_wait b r)
      (record { system = system; reference = b.own; entity = h.entity; is_end = record { there = h.there; stands = h.stands; number = h.number } })

  -- where nothing came to an entity
  unsettled_still : (old new : World C) (posts : List Post) → new.entities ≡ old.entities → new.ends ≡ old.ends → IsUnsettledSo old posts → IsUnsettledSo new posts
  unsettled_still old new posts entities ends o = record {
    here = here_same system x from Any b r old new entities ends o.here;
    unanswered = λ s own z f there. o.unanswered s own z f (ap (λ (ps : List Placed). entity_at ps s) (sym entities) ∙ there);
    pending = by o.pending;
  }
    where
      by : IsPending system x from Any b r old posts → IsPending system x from Any b r new posts
      by (Asking waits) = Asking waits
      by (Refusing d) = Refusing (record {
        at_system = d.at_system;
        entity = d.entity;
        there = ap (λ (ps : List Placed). entity_at ps d.at_system) entities ∙ d.there;
        own_is = d.own_is;
        reason = d.reason;
        is_reason = d.is_reason;
        waits = d.waits;
      })
      by (Waiting d) = Waiting (waiting_same system x from Any b r old new entities d)

  -- one delivery
  record HasGone (mid : World C) : Type 0 where
    hall : Hall
    queue : List (CarriedUnit (List ℕ))
    stands : StandsSo link steps law titles Waits fifo mid hall queue
    listens : AreListening (link mid.carrier).clock mid b.to
    unsettled : IsUnsettledSo mid hall.posts
    beside : IsBeside hall.posts

  one_goes : (old mid : World C) (journal made : List Event) (hall : Hall) (queue : List (CarriedUnit (List ℕ))) (pair : ℕ × ℕ)
      → StandsSo link steps law titles Waits fifo old hall queue → IsLeastFresh (link old.carrier) (Some pair) → IsExplained link journal old → AllByRecursion IsUndropped made
      → AreListening (link old.carrier).clock old b.to → IsUnsettledSo old hall.posts → IsBeside hall.posts → Delivers link steps whole old pair.0 pair.1 WasPicked made mid → HasGone mid ⊎ ((has : HasTaken link mid x b r) × (P → IsRefusal from b.own has.tpdu))
  one_goes old mid journal made hall queue pair s fresh ex all listens o beside d = elim (delivered link steps law titles Waits fifo old mid hall queue made pair s fresh all d) [
    | inl still ↦ inl (record {
      hall = hall;
      queue = still.queue;
      stands = still.stands;
      listens = λ place e there own. subst (λ (n : ℕ). is_silent n e ≡ false) (sym still.clock) (listens place e (ap (λ (ps : List Placed). entity_at ps place) (sym still.entities) ∙ there) own);
      unsettled = unsettled_still old mid hall.posts still.entities still.ends o;
      beside = beside;
    })
    | inr come ↦
        elim (unsettled_so link ex.titles ex.timers ex.w journal old ex.explains ex.fit going mid come.post come.rest made come.a system x from Any b r P listens (λ place entity there own none. tt) (subst (IsUnsettledSo old) come.posts_are o)
        (subst IsBeside come.posts_are beside)) [
          | inl next ↦ inl (record {
            hall = after (record hall { posts = come.rest }) come.a.system come.a.acted;
            queue = come.queue;
            stands = come.stands;
            listens = listens_on link ex.titles ex.timers ex.w journal old ex.explains mid come.post come.rest made come.a system x from Any b r ex.fit listens;
            unsettled = next.0;
            beside = next.1;
          })
          | inr taken ↦ inr (taken.0, λ p. refusal_of from Any b.own taken.0.tpdu (taken.1 p))
        ]
  ]

  pub settles_on : (count : ℕ) (old : World C) (made : List Event) (new : World C) → Settles link steps whole count old made new → (journal : List Event) (hall : Hall) (queue : List (CarriedUnit (List ℕ)))
      → StandsSo link steps law titles Waits fifo old hall queue → IsExplained link journal old → AllByRecursion IsUndropped made → IsUnsettledSo old hall.posts
      → AreListening (link old.carrier).clock old b.to → IsBeside hall.posts → IsIndicated (journal ++ made) new x b r ⊎ ((a : IsAnswered link steps made new x b r) × (P → IsRefusal from b.own a.took.tpdu))
  settles_on count old made new (NoneLeft n o m l fresh made_is same) journal hall queue s ex all unsettled listens beside =
      let none : queue ≡ [] = fifo.none old.carrier queue s.shows.waits fresh in
      let posts : hall.posts ≡ [] = subst (λ (q : List (CarriedUnit (List ℕ))). AreUnitsOf titles q hall.posts) none s.shows.units in
      let last : IsUnsettledSo old [] = subst (IsUnsettledSo old) posts unsettled in
      inl (subst (λ (w : World C). IsIndicated (journal ++ made) w x b r) (sym same) (indicated_on journal made old x b r (by last last.pending)))
    where
      by : IsUnsettledSo old [] → IsPending system x from Any b r old [] → IsIndicated journal old x b r
      by last (Asking waits) = absurd (none_there (cr_from system b r) waits)
      by last (Refusing d) = absurd (none_there (record { system = d.at_system; sent = refusal from b.own d.reason }) d.waits)
      by last (Waiting d) = is_indicated link journal old ex system x from Any b r last.here last.unanswered d
  settles_on count old made new (TooMany n o m l pair fresh most made_is same) journal hall queue s ex all unsettled listens beside =
      absurd (subst (λ (es : List Event). AllByRecursion IsUndropped es) made_is all).0
  settles_on count old made new (OneMore n o m l pair mid here rest fresh low delivers settles made_is) journal hall queue s ex all unsettled listens beside =
      let parts = all_parts IsUndropped here rest (subst (λ (es : List Event). AllByRecursion IsUndropped es) made_is all) in
      let ex_mid : IsExplained link (journal ++ here) mid = explained_on link steps law titles Waits fifo going followed old mid journal here hall queue pair s ex (timed journal old ex unsettled.here) delivers in
      elim (one_goes old mid journal here hall queue pair s fresh ex parts.0 listens unsettled beside delivers) [
        | inl went ↦ elim (settles_on (count + 1) mid rest new settles (journal ++ here) went.hall went.queue went.stands ex_mid parts.1 went.unsettled went.listens went.beside) [
          | inl done ↦ inl (subst (λ (es : List Event). IsIndicated es new x b r) (append_assoc journal here rest ∙ ap (λ (es : List Event). journal ++ es) (sym made_is)) done)
          | inr answered ↦ inr (
            record {
              front = here ++ answered.0.front;
              rest = answered.0.rest;
              made_is = made_is ∙ ap (λ (es : List Event). here ++ es) answered.0.made_is ∙ sym (append_assoc here answered.0.front answered.0.rest);
              mid = answered.0.mid;
              took = answered.0.took;
              count = answered.0.count;
              settles = answered.0.settles;
            },
            answered.1,
          )
        ]
        | inr taken ↦ inr (record { front = here; rest = rest; made_is = made_is; mid = mid; took = taken.0; count = count + 1; settles = settles }, taken.1)
      ]

-- ---- where it begins

-- an end in CrWait stands at its own reference
module _ {C : Type 0} (link : C → Link (List ℕ)) (journal : List Event) (world : World C) (ex : IsExplained link journal world) (x : ℕ) (b : EndRecord) (r : InCrWait) (c : Stands world x (in_cr_wait b r)) where
  pub own_is : c.reference ≡ b.own
  own_is =
      let known = known_at link ex.titles ex.timers ex.w journal world ex.explains x c.system c.entity c.reference (in_cr_wait b r) c.is_end in
      sym known.0.at.reference_is ∙ known.0.sees.reference

  pub here : (N : Type 0) → IsHere c.system x c.entity.own N b r world
  here N = record {
    entity = c.entity;
    there = c.is_end.there;
    own_is = refl;
    stands = ap (end_at c.entity) (sym own_is) ∙ c.is_end.stands;
    number = ap (latest world.ends c.system) (sym own_is) ∙ c.is_end.number;
  }

  pub begins : (posts : List Post) → AreUnanswered world b.to c.entity.own c.reference → Contains posts (cr_from c.system b r) → IsUnsettled c.system x c.entity.own Any b r world posts
  begins posts unanswered waits = record { here = here Any; unanswered = subst (AreUnanswered world b.to c.entity.own) own_is unanswered; pending = Asking waits }

pub goes_on : {C : Type 0} (link : C → Link (List ℕ)) (journal : List Event) (world : World C) (ex : IsExplained link journal world) (x : ℕ) (b : EndRecord) (r : InCrWait) (posts : List Post)
    → (i : IsIndicated journal world x b r) → IsUnsettled i.calling.system x i.calling.entity.own Any b r world posts
goes_on {C} link journal world ex x b r posts i =
    let own : i.calling.reference ≡ b.own = own_is link journal world ex x b r i.calling in
    record {
      here = here link journal world ex x b r i.calling Any;
      unanswered = subst (AreUnanswered world b.to i.calling.entity.own) own i.unanswered;
      pending = Waiting (record {
        at_system = i.called.system;
        own = i.called.reference;
        entity = i.called.entity;
        end = i.end;
        since = i.since;
        there = i.called.is_end.there;
        own_is = i.address;
        stands = i.called.is_end.stands;
        stage = i.stage;
        called = subst (λ (n : ℕ). is_called_by i.end.base i.calling.entity.own n ≡ true) own i.names;
      });
    }

-- and the entity of its called end is not silent
pub listening : {C : Type 0} (link : C → Link (List ℕ)) (journal : List Event) (world : World C) (ex : IsExplained link journal world) (x : ℕ) (b : EndRecord) (r : InCrWait) → IsIndicated journal world x b r
    → AreListening (link world.carrier).clock world b.to
listening {C} link journal world ex x b r i system entity there own =
    let at_it : system ≡ i.called.system = ex.explains.known.apart system i.called.system entity i.called.entity there i.called.is_end.there (own ∙ sym i.address) in
    let entity_is : entity ≡ i.called.entity = same_Some entity i.called.entity (sym there ∙ ap (entity_at world.entities) at_it ∙ i.called.is_end.there) in
    (ex.fit system entity there).audible i.called.reference i.end (ap (λ (e : Entity). end_at e i.called.reference) entity_is ∙ i.called.is_end.stands)

-- what waits beside it there
pub begins_apart : (system : ℕ) (from : List ℕ) (b : EndRecord) (r : InCrWait) (posts : List Post) → AllByRecursion (IsApart system from b r) posts → AllByRecursion (IsKeptApart system from Any b r) posts
begins_apart system from b r [] all = tt
begins_apart system from b r (post ∷ posts) all =
    (record { refused = λ to_it. absurd (all.0.none to_it); named = all.0.named; sourced = all.0.sourced }, begins_apart system from b r posts all.1)
