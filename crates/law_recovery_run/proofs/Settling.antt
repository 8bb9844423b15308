-- A settle, delivery after delivery, as steps of a pair.
use Rattle.std.proofs.Common.{◌≡◌, ◌⊎◌, inl, inr, ℕ, ◌+◌, List, [], ◌∷◌, ◌++◌, None, Some, refl, sym, ◌∙◌, ap, subst, append-nil, append_assoc}
use Rattle.std.specs.List.{AllByRecursion}
use Rattle.osi_base.specs.Calls.{Call, Keeps}
use Rattle.osi_base.specs.Link.{IsLeastFresh, Link}
use Rattle.osi_base.specs.declared.unit.Picked.TheVariants.{Taken as WasPicked}
use Rattle.osi_base.specs.declared.unit.Unit.{Unit as CarriedUnit}
use Rattle.osi_base.proofs.Members.{all_both}
use Rattle.net_world.specs.Fifo.{IsFifo}
use Rattle.script_journal.specs.Lawful.{Marked, shown, submitted}
use Rattle.script_journal.specs.declared.event.Event.{Event}
use Rattle.script_journal.proofs.Showing.{shown_both, submitted_both}
use Rattle.tp4_number.specs.Number.{whole}
use Rattle.tp4_flow.specs.declared.step.Sent.{Sent}
use Rattle.tp4_conn.specs.End.{End, IsTimed}
use Rattle.tp4_conn.specs.declared.states.StateData.{StateData}
use Rattle.tp4_conn.specs.declared.states.StateData.TheVariants as stages
use Rattle.tp4_conn.specs.declared.timers.Timers.{Timers}
use Rattle.tp4_entity.specs.Step.{first_due}
use Rattle.law_tp4_history.specs.Tracks.{Whole}
use Rattle.law_tp4_pair.specs.Claim.{IsUndropped}
use Rattle.law_tp4_pair.specs.Pair.{Happening, IsIdle, Leads, Pair, next as next_pair}
use Rattle.law_tp4_proper.specs.Rest.{AreInTime, AreProper}
use Rattle.tp4_world.specs.Run.{Delivers, NoneLeft, OneMore, Settles, TooMany}
use Rattle.tp4_world.specs.World.{World, entity_at, latest}
use Rattle.tp4_world.specs.declared.place.EndAt.{EndAt}
use Rattle.tp4_world.specs.declared.place.Placed.{Placed}
use Rattle.law_tp4_lawful.proofs.Along.{AreAtRest}
use Rattle.law_tp4_lawful.proofs.Known.{IsOffered, Known}
use Rattle.law_tp4_lawful.proofs.Worlds.{Explains, Followed}
use Rattle.law_tp4_lawful.proofs.ReferencesHalves.{known_at}
use Rattle.law_tp4_lawful.proofs.WorldHears as hears
use Rattle.law_tp4_lawful.proofs.WorldKnown.{plain_kept}
use Rattle.law_tp4_lawful.proofs.WorldOutcomes.{one_unit, outcomes}
use Rattle.law_tp4_associations.proofs.EndedWorlds as ended
use Rattle.law_tp4_associations.proofs.EndedWorlds.{IsFitWorld}
use Rattle.law_calm_run.proofs.Hall.{Hall, Post, after}
use Rattle.law_calm_run.proofs.Posting.{AreUnitsOf}
use Rattle.law_calm_run.proofs.Queueing.{all_parts}
use Rattle.law_recovery_run.proofs.Aiming.{Going}
use Rattle.law_recovery_run.specs.Following.{IsFollowed, IsLive, IsSide, Stands}
use Rattle.law_recovery_run.specs.Settling.{HasGoneOn, IsEnded, IsHandedOver}
use Rattle.law_recovery_run.proofs.Coming.{StandsSo, TellsNoUnits, delivered}
use Rattle.law_recovery_run.proofs.Delivering.{HasComeOn, handed_over}

-- ---- pairs

pub leads_then : (p mid last : Pair) (first more : List Happening) → Leads p first mid → Leads mid more last → Leads p (first ++ more) last
leads_then p mid last [] more a b = subst (λ (q : Pair). Leads q more last) a b
leads_then p mid last (happening ∷ first) more a b = (a.0, leads_then (next_pair p happening) mid last first more a.1 b)

pub live_or : (stage : StateData) → IsLive stage ⊎ (IsLive stage → ⊥)
live_or (stages.Opened o) = inl tt
live_or (stages.Closing c) = inl tt
live_or other = inr (λ live. live)

-- ---- where no entity acts

gave_still : (n : ℕ) (journal made : List Event) (units : List Marked) → TellsNoUnits made → units ≡ submitted n journal → units ≡ submitted n (journal ++ made)
gave_still n journal made units none is = is ∙ sym (append-nil (submitted n journal)) ∙ ap (λ (us : List Marked). submitted n journal ++ us) (sym (none.gave n)) ∙ sym (submitted_both n journal made)

showed_still : (n : ℕ) (journal made : List Event) (units : List Marked) → TellsNoUnits made → units ≡ shown n journal → units ≡ shown n (journal ++ made)
showed_still n journal made units none is = is ∙ sym (append-nil (shown n journal)) ∙ ap (λ (us : List Marked). shown n journal ++ us) (sym (none.showed n)) ∙ sym (shown_both n journal made)

-- an end stands as it stood
abbrev pub stands_still : {C : Type 0} (old new : World C) → new.entities ≡ old.entities → new.ends ≡ old.ends → (x : ℕ) (e : End) → Stands old x e → Stands new x e
stands_still old new entities ends x e s = record {
  system = s.system;
  reference = s.reference;
  entity = s.entity;
  is_end = record {
    there = ap (λ (ps : List Placed). entity_at ps s.system) entities ∙ s.is_end.there;
    stands = s.is_end.stands;
    number = ap (λ (es : List EndAt). latest es s.system s.reference) ends ∙ s.is_end.number;
  };
}

module _ {C : Type 0} (link : C → Link (List ℕ)) (journal made : List Event) (old new : World C) (entities : new.entities ≡ old.entities) (ends : new.ends ≡ old.ends)
    (clock : (link new.carrier).clock ≡ (link old.carrier).clock) (none : TellsNoUnits made) where
  side_still : (posts : List Post) (x y : ℕ) (mine theirs : End) (here : Stands old x mine) (there : Stands old y theirs) (waits : List Sent) (gave showed : List Marked)
      → IsSide journal old posts x y mine theirs here there waits gave showed → IsSide (journal ++ made) new posts x y mine theirs (stands_still old new entities ends x mine here) (stands_still old new entities ends y theirs there) waits gave showed
  side_still posts x y mine theirs here there waits gave showed s = record {
    to_is = s.to_is;
    partner_is = s.partner_is;
    waits_are = s.waits_are;
    spoken = s.spoken;
    named = s.named;
    gave_is = gave_still x journal made gave none s.gave_is;
    showed_is = showed_still x journal made showed none s.showed_is;
  }

  pub followed_still : (posts : List Post) (x y : ℕ) (p : Pair) → IsFollowed link journal old posts x y p → IsFollowed link (journal ++ made) new posts x y p
  followed_still posts x y p f = record {
    calling = stands_still old new entities ends x p.calling f.calling;
    called = stands_still old new entities ends y p.called f.called;
    forth = side_still posts x y p.calling p.called f.calling f.called p.forth p.calling_gave p.calling_showed f.forth;
    back = side_still posts y x p.called p.calling f.called f.calling p.back p.called_gave p.called_showed f.back;
    apart = f.apart;
    format = f.format;
    clock = f.clock ∙ sym clock;
    sourced = f.sourced;
  }

-- nothing waits
idle_of : {C : Type 0} (link : C → Link (List ℕ)) (journal : List Event) (world : World C) (x y : ℕ) (p : Pair) → IsFollowed link journal world [] x y p → IsIdle p
idle_of {C} link journal world x y p f = record { forth = f.forth.waits_are; back = f.back.waits_are }

-- ---- a settle

-- some history explains the network, and no end stands at an entity that is silent
pub record IsExplained {C : Type 0} (link : C → Link (List ℕ)) (journal : List Event) (world : World C) : Type 0 where
  pub titles : List (List ℕ)
  pub timers : Timers
  pub w : Whole
  pub explains : Explains link titles timers w journal world
  pub fit : IsFitWorld link world

module _ {C : Type 0} (link : C → Link (List ℕ)) (steps : C → Call (List ℕ) → C → Type 0)
    (law : (old : C) (call : Call (List ℕ)) (new : C) → steps old call new → Keeps (link old) call (link new))
    (titles : List (List ℕ)) (Waits : C → List (CarriedUnit (List ℕ)) → Type 0) (fifo : IsFifo link steps titles Waits)
    (going : Going) (followed : (titles : List (List ℕ)) (timers : Timers) → Followed titles timers) where
  -- the timers of an end that stands are those of the network
  pub timed : (journal : List Event) (world : World C) (ex : IsExplained link journal world) (x : ℕ) (e : End) → Stands world x e → IsTimed ex.timers
  timed journal world ex x e s =
      let known = known_at link ex.titles ex.timers ex.w journal world ex.explains x s.system s.entity s.reference e s.is_end in
      subst IsTimed ((ex.explains.known.holds s.system s.entity s.is_end.there).theirs s.reference e s.is_end.stands) known.0.sees.timers

  -- one delivery leaves it explained
  pub explained_on : (old new : World C) (journal made : List Event) (hall : Hall) (queue : List (CarriedUnit (List ℕ))) (pair : ℕ × ℕ) → StandsSo link steps law titles Waits fifo old hall queue
      → (ex : IsExplained link journal old) → IsTimed ex.timers → Delivers link steps whole old pair.0 pair.1 WasPicked made new → IsExplained link (journal ++ made) new
  explained_on old new journal made hall queue pair s ex is_timed d =
      let f : Followed ex.titles ex.timers = followed ex.titles ex.timers in
      let rested : AreAtRest AreProper ex.w.base.clock old.entities = λ system e is.
      let there : entity_at hall.entities system ≡ Some e = ap (λ (ps : List Placed). entity_at ps system) (sym s.shows.entities) ∙ is in
      ((s.kept system e there).proper, subst (λ (n : ℕ). first_due n e ≡ None) (sym s.shows.clock ∙ ex.explains.carries.clock) (s.rest system e there)) in
      let r = hears.delivered ex.titles ex.timers (Known ex.titles ex.timers) IsOffered (plain_kept ex.titles ex.timers) is_timed link steps law f.aside f.meets one_unit AreProper AreInTime outcomes ex.w old new journal made
      pair.0 pair.1 WasPicked ex.explains rested d in
      record { titles = ex.titles; timers = ex.timers; w = r.went.next; explains = r.went.explains; fit = (ended.delivered link steps law whole old new made pair.0 pair.1 WasPicked ex.fit d).fit }

  -- one delivery
  record HasGone (journal made : List Event) (mid : World C) (x y : ℕ) (p : Pair) : Type 0 where
    hall : Hall
    queue : List (CarriedUnit (List ℕ))
    stands : StandsSo link steps law titles Waits fifo mid hall queue
    happenings : List Happening
    next : Pair
    leads : Leads p happenings next
    handed : AllByRecursion IsHandedOver happenings
    clock : next.clock ≡ p.clock
    follows : IsFollowed link (journal ++ made) mid hall.posts x y next

  one_goes : (old mid : World C) (journal made : List Event) (hall : Hall) (queue : List (CarriedUnit (List ℕ))) (pair : ℕ × ℕ) (x y : ℕ) (p : Pair)
      → StandsSo link steps law titles Waits fifo old hall queue → IsLeastFresh (link old.carrier) (Some pair) → IsExplained link journal old → AllByRecursion IsUndropped made
      → IsFollowed link journal old hall.posts x y p → IsLive p.calling.stage → IsLive p.called.stage → Delivers link steps whole old pair.0 pair.1 WasPicked made mid → HasGone journal made mid x y p
  one_goes old mid journal made hall queue pair x y p s fresh ex all f live live_there d = elim (delivered link steps law titles Waits fifo old mid hall queue made pair s fresh all d) [
    | inl still ↦ record {
      hall = hall;
      queue = still.queue;
      stands = still.stands;
      happenings = [];
      next = p;
      leads = refl;
      handed = tt;
      clock = refl;
      follows = followed_still link journal made old mid still.entities still.ends still.clock still.none hall.posts x y p f;
    }
    | inr come ↦
        let first : IsFollowed link journal old (come.post ∷ come.rest) x y p = subst (λ (ps : List Post). IsFollowed link journal old ps x y p) come.posts_are f in
        let went : HasComeOn link ex.titles ex.timers ex.w journal old ex.explains ex.fit going mid come.post come.rest made come.a first.sourced.0 x y p =
        handed_over link ex.titles ex.timers ex.w journal old ex.explains ex.fit going mid come.post come.rest made come.a first.sourced.0 x y p first live live_there in
        record {
          hall = after (record hall { posts = come.rest }) come.a.system come.a.acted;
          queue = come.queue;
          stands = come.stands;
          happenings = went.happenings;
          next = went.next;
          leads = went.leads;
          handed = went.handed;
          clock = went.clock;
          follows = went.followed;
        }
  ]

  -- one of the two is frozen, in the middle of a settle
  pub record IsStopped (new : World C) (x y : ℕ) (p : Pair) : Type 0 where
    pub ended : IsEnded p
    pub journal : List Event
    pub mid : World C
    pub rest : List Event
    pub count : ℕ
    pub hall : Hall
    pub queue : List (CarriedUnit (List ℕ))
    pub stands : StandsSo link steps law titles Waits fifo mid hall queue
    pub ex : IsExplained link journal mid
    pub all : AllByRecursion IsUndropped rest
    pub follows : IsFollowed link journal mid hall.posts x y p
    pub left : Settles link steps whole count mid rest new

  -- nothing waits, or one of the two is frozen
  pub record WentOn (journal : List Event) (new : World C) (x y : ℕ) (p : Pair) : Type 0 where
    pub happenings : List Happening
    pub next : Pair
    pub leads : Leads p happenings next
    pub handed : AllByRecursion IsHandedOver happenings
    pub clock : next.clock ≡ p.clock
    pub goes : (IsIdle next × IsFollowed link journal new [] x y next) ⊎ IsStopped new x y next

  pub settles_so : (count : ℕ) (old : World C) (made : List Event) (new : World C) → Settles link steps whole count old made new → (journal : List Event) (hall : Hall) (queue : List (CarriedUnit (List ℕ))) (x y : ℕ) (p : Pair)
      → StandsSo link steps law titles Waits fifo old hall queue → IsExplained link journal old → AllByRecursion IsUndropped made → IsFollowed link journal old hall.posts x y p
      → IsLive p.calling.stage → IsLive p.called.stage → WentOn (journal ++ made) new x y p
  settles_so count old made new (NoneLeft n o m l fresh made_is same) journal hall queue x y p s ex all f live live_there =
      let none : queue ≡ [] = fifo.none old.carrier queue s.shows.waits fresh in
      let posts : hall.posts ≡ [] = subst (λ (q : List (CarriedUnit (List ℕ))). AreUnitsOf titles q hall.posts) none s.shows.units in
      let tells : TellsNoUnits made = subst TellsNoUnits (sym made_is) (record { gave = λ k. refl; showed = λ k. refl }) in
      let idle : IsFollowed link journal old [] x y p = subst (λ (ps : List Post). IsFollowed link journal old ps x y p) posts f in
      let now : IsFollowed link (journal ++ made) new [] x y p =
      followed_still link journal made old new (ap (λ (v : World C). v.entities) same) (ap (λ (v : World C). v.ends) same) (ap (λ (v : World C). (link v.carrier).clock) same) tells [] x y p idle in
      record { happenings = []; next = p; leads = refl; handed = tt; clock = refl; goes = inl (idle_of link (journal ++ made) new x y p now, now) }
  settles_so count old made new (TooMany n o m l pair fresh most made_is same) journal hall queue x y p s ex all f live live_there =
      absurd (subst (λ (es : List Event). AllByRecursion IsUndropped es) made_is all).0
  settles_so count old made new (OneMore n o m l pair mid here rest fresh low delivers settles made_is) journal hall queue x y p s ex all f live live_there =
      let parts = all_parts IsUndropped here rest (subst (λ (es : List Event). AllByRecursion IsUndropped es) made_is all) in
      let first : HasGone journal here mid x y p = one_goes old mid journal here hall queue pair x y p s fresh ex parts.0 f live live_there delivers in
      let ex_mid : IsExplained link (journal ++ here) mid = explained_on old mid journal here hall queue pair s ex (timed journal old ex x p.calling f.calling) delivers in
      let more : IsLive first.next.calling.stage → IsLive first.next.called.stage → WentOn (journal ++ made) new x y p = λ one other.
      let later : WentOn ((journal ++ here) ++ rest) new x y first.next =
      settles_so (count + 1) mid rest new settles (journal ++ here) first.hall first.queue x y first.next first.stands ex_mid parts.1 first.follows one other in
      subst (λ (es : List Event). WentOn es new x y p) (append_assoc journal here rest ∙ ap (λ (es : List Event). journal ++ es) (sym made_is))
      (record {
        happenings = first.happenings ++ later.happenings;
        next = later.next;
        leads = leads_then p first.next later.next first.happenings later.happenings first.leads later.leads;
        handed = all_both IsHandedOver first.happenings later.happenings first.handed later.handed;
        clock = later.clock ∙ first.clock;
        goes = later.goes;
      }) in
      let stop : IsEnded first.next → IsStopped new x y first.next = λ ended. record {
        ended = ended;
        journal = journal ++ here;
        mid = mid;
        rest = rest;
        count = count + 1;
        hall = first.hall;
        queue = first.queue;
        stands = first.stands;
        ex = ex_mid;
        all = parts.1;
        follows = first.follows;
        left = settles;
      } in
      elim (live_or first.next.calling.stage) [
        | inl one ↦ elim (live_or first.next.called.stage) [
          | inl other ↦ more one other
          | inr ended ↦ record { happenings = first.happenings; next = first.next; leads = first.leads; handed = first.handed; clock = first.clock; goes = inr (stop (λ one other. ended other)) }
        ]
        | inr ended ↦ record { happenings = first.happenings; next = first.next; leads = first.leads; handed = first.handed; clock = first.clock; goes = inr (stop (λ one other. ended one)) }
      ]

  pub settles_on : (count : ℕ) (old : World C) (made : List Event) (new : World C) → Settles link steps whole count old made new → (journal : List Event) (hall : Hall) (queue : List (CarriedUnit (List ℕ))) (x y : ℕ) (p : Pair)
      → StandsSo link steps law titles Waits fifo old hall queue → IsExplained link journal old → AllByRecursion IsUndropped made → IsFollowed link journal old hall.posts x y p
      → IsLive p.calling.stage → IsLive p.called.stage → HasGoneOn link (journal ++ made) new x y p
  settles_on count old made new settles journal hall queue x y p s ex all f live live_there =
      let on = settles_so count old made new settles journal hall queue x y p s ex all f live live_there in
      record { happenings = on.happenings; next = on.next; leads = on.leads; handed = on.handed; clock = on.clock; goes = elim on.goes [ inl idle ↦ inl idle | inr stopped ↦ inr stopped.ended ] }
