-- A delivery of a settle: nothing that an entity hears, or the first TPDU that waits, which the entity at its address hears.
use Rattle.std.proofs.Common.{◌≡◌, ◌⊎◌, ℕ, Bool, true, false, List, [], ◌∷◌, ◌++◌, Some, refl, sym, ◌∙◌, ap, subst, inl, inr, append-nil}
use Rattle.std.specs.List.{AllByRecursion}
use Rattle.osi_base.specs.Calls.{Call, Keeps}
use Rattle.osi_base.specs.Link.{IsLeastFresh, Link}
use Rattle.osi_base.specs.declared.unit.Picked.TheVariants.{Taken as WasPicked}
use Rattle.osi_base.specs.declared.unit.Unit.{Unit as CarriedUnit}
use Rattle.script_journal.specs.Lawful.{Marked, shown, submitted}
use Rattle.script_journal.specs.declared.event.Event.{Event}
use Rattle.script_journal.proofs.Showing.{shown_both, submitted_both}
use Rattle.net_world.specs.Fifo.{IsFifo}
use Rattle.tpdu.specs.Values.{TpduAndSum}
use Rattle.tpdu.specs.Writing.{IsWritten}
use Rattle.tp4_number.specs.Number.{whole}
use Rattle.tp4_flow.specs.declared.step.EndEvent.{EndEvent}
use Rattle.tp4_flow.specs.declared.step.Sent.{Sent}
use Rattle.tp4_conn.specs.Proper.{IsSendable}
use Rattle.tp4_entity.specs.Association.{met}
use Rattle.tp4_entity.specs.Entity.{Acted, Entity, at}
use Rattle.tp4_entity.specs.Silence.{is_silent}
use Rattle.tp4_entity.specs.Unit.{HearsUnit, TakesBy, TakesUnit, all_met, extended_of}
use Rattle.law_tp4_history.specs.Journals.{IsAside}
use Rattle.law_tp4_pair.specs.Claim.{IsUndropped}
use Rattle.tp4_world.specs.Run.{Delivers, transport_address}
use Rattle.tp4_world.specs.Telling.{events_after}
use Rattle.tp4_world.specs.World.{World, entity_at}
use Rattle.tp4_world.specs.declared.place.EndAt.{EndAt}
use Rattle.tp4_world.specs.declared.place.Placed.{Placed}
use Rattle.law_tp4_lawful.proofs.ActsTold.{lines_give_none}
use Rattle.law_tp4_lawful.proofs.WorldAsides.{are_aside}
use Rattle.law_tp4_lawful.proofs.WorldHears.{acted_same}
use Rattle.law_tp4_lawful.proofs.WorldOutcomes.{one_unit}
use Rattle.law_tp4_lawful.proofs.WorldPlaces.{some_same}
use Rattle.law_calm_run.proofs.Hall.{Hall, Post, after}
use Rattle.law_calm_run.proofs.Posting.{IsKept}
use Rattle.law_calm_run.proofs.Going.{HasHanded, Stands, handed}
use Rattle.law_calm_run.proofs.Reading.{heard_as}
use Rattle.law_recovery_run.specs.Following.{IsHeard}
use Rattle.law_recovery_run.proofs.Delivering.{HasActed}

-- ---- what an entity hears

heard_is : (now : ℕ) (e : Entity) (from octets : List ℕ) (sent : Sent) (acted : Acted) → IsSendable sent → IsWritten sent.format sent.sum sent.tpdu octets → HearsUnit whole now e from octets acted
    → IsHeard now e from sent acted
heard_is now e from octets sent acted fits written h = record {
  as_sent = λ awake read. heard_as now e from octets sent acted fits written h read;
  any = elim (one_unit (extended_of e) octets h.rest sent h.tpdus h.told fits written h.separates h.ends) [
    | inl r ↦ inl (r.0.0, r.0.1, one r.0 r.1 r.2, record { kind = r.3; target = r.4; control = r.5; flow = r.6; allowed = r.7 })
    | inr bad ↦ inr (inl (
      bad.0,
      bad.1,
      acted_same acted _
          (h.entity ∙ ap (λ (ts : List TpduAndSum). (all_met whole now (at now e) from ts).entity) bad.2)
          (h.events ∙ (λ i. (all_met whole now (at now e) from (bad.2 i)).events ++ bad.3 i))
          (h.tpdus_are ∙ ap (λ (ts : List TpduAndSum). (all_met whole now (at now e) from ts).tpdus) bad.2),
    ))
  ];
}
  where
    one : (tpdu : TpduAndSum) → h.tpdus ≡ tpdu ∷ [] → h.told ≡ [] → acted ≡ met whole now (at now e) from tpdu
    one tpdu is none =
        let m : Acted = met whole now (at now e) from tpdu in
        let all : all_met whole now (at now e) from h.tpdus ≡ all_met whole now (at now e) from (tpdu ∷ []) = ap (λ (ts : List TpduAndSum). all_met whole now (at now e) from ts) is in
        acted_same acted m
        (h.entity ∙ ap (λ (a : Acted). a.entity) all)
        (h.events ∙ ap (λ (es : List EndEvent). (all_met whole now (at now e) from h.tpdus).events ++ es) none ∙ append-nil (all_met whole now (at now e) from h.tpdus).events
        ∙ ap (λ (a : Acted). a.events) all ∙ append-nil m.events)
        (h.tpdus_are ∙ ap (λ (a : Acted). a.tpdus) all ∙ append-nil m.tpdus)

-- a unit that comes, silent or not
taken_is : (now : ℕ) (e : Entity) (from octets : List ℕ) (sent : Sent) (acted : Acted) → IsSendable sent → IsWritten sent.format sent.sum sent.tpdu octets → TakesUnit whole now e from octets acted
    → IsHeard now e from sent acted
taken_is now e from octets sent acted fits written takes = by (is_silent now e) refl takes
  where
    apart : true ≡ false → ⊥
    apart is = cc is

    by : (silent : Bool) → is_silent now e ≡ silent → TakesBy silent whole now e from octets acted → IsHeard now e from sent acted
    by true is ignores = record { as_sent = λ awake read. absurd (apart (sym is ∙ awake)); any = inr (inr ignores) }
    by false is h = heard_is now e from octets sent acted fits written h

-- ---- arrivals

-- no units
pub record TellsNoUnits (made : List Event) : Type 0 where
  pub gave : (n : ℕ) → submitted n made ≡ []
  pub showed : (n : ℕ) → shown n made ≡ []

aside_tells : (made : List Event) → IsAside made → TellsNoUnits made
aside_tells made aside = record { gave = λ n. (aside.units n).0; showed = λ n. (aside.units n).1 }

module _ {C : Type 0} (link : C → Link (List ℕ)) (steps : C → Call (List ℕ) → C → Type 0)
    (law : (old : C) (call : Call (List ℕ)) (new : C) → steps old call new → Keeps (link old) call (link new))
    (titles : List (List ℕ)) (Waits : C → List (CarriedUnit (List ℕ)) → Type 0) (fifo : IsFifo link steps titles Waits) where
  abbrev pub StandsSo : World C → Hall → List (CarriedUnit (List ℕ)) → Type 0
  StandsSo world hall queue = Stands link steps law titles Waits fifo world hall queue

  -- nothing came to an entity
  pub record IsStill (old : World C) (hall : Hall) (made : List Event) (new : World C) : Type 0 where
    pub queue : List (CarriedUnit (List ℕ))
    pub stands : StandsSo new hall queue
    pub entities : new.entities ≡ old.entities
    pub ends : new.ends ≡ old.ends
    pub clock : (link new.carrier).clock ≡ (link old.carrier).clock
    pub none : TellsNoUnits made

  -- the first that waits came to its entity, and what that did is told
  pub record HasCome (old : World C) (hall : Hall) (made : List Event) (new : World C) : Type 0 where
    pub post : Post
    pub rest : List Post
    pub posts_are : hall.posts ≡ post ∷ rest
    pub a : HasActed link old new post made
    pub queue : List (CarriedUnit (List ℕ))
    pub stands : StandsSo new (after (record hall { posts = rest }) a.system a.acted) queue
    pub front : List Event
    pub aside : List Event
    pub made_is : made ≡ front ++ (events_after old.ends a.system a.entity.own a.acted.events ++ aside)

  -- what came to its entity is taken as it was sent there
  come_so : (old new : World C) (hall : Hall) (queue : List (CarriedUnit (List ℕ))) (made : List Event) → StandsSo old hall queue → HasHanded link steps law titles Waits fifo old hall made new → HasCome old hall made new
  come_so old new hall queue made s h =
      let is = h.unit_is in
      let sender : (entity : Entity) × (entity_at hall.entities h.post.system ≡ Some entity) = s.have h.post.system is.title is.title_is in
      let kept : IsKept titles h.post.system sender.0 = s.kept h.post.system sender.0 sender.1 in
      let from_is : h.unit.from ≡ sender.0.own = is.from ∙ ap transport_address (some_same is.title kept.title (sym is.title_is ∙ kept.title_is)) ∙ sym kept.own in
      let here : (system : ℕ) (e : Entity) → entity_at hall.entities system ≡ Some e → entity_at old.entities system ≡ Some e = λ system e there. ap (λ (ps : List Placed). entity_at ps system) s.shows.entities ∙ there in
      let told : List Event = events_after hall.ends h.system h.entity.own h.acted.events in
      let told_old : told ≡ events_after old.ends h.system h.entity.own h.acted.events = ap (λ (es : List EndAt). events_after es h.system h.entity.own h.acted.events) (sym s.shows.ends) in
      let front : TellsNoUnits h.front = aside_tells h.front (are_aside h.front h.quiet) in
      let tail : TellsNoUnits h.does.aside = aside_tells h.does.aside h.does.is_aside in
      record {
        post = h.post;
        rest = h.rest;
        posts_are = h.posts_are;
        a = record {
          system = h.system;
          entity = h.entity;
          there = here h.system h.entity h.there;
          own_is = h.own_is;
          sender = sender.0;
          sender_there = here h.post.system sender.0 sender.1;
          acted = h.acted;
          octets = h.unit.octets;
          takes = subst (λ (n : ℕ). TakesUnit whole n h.entity sender.0.own h.unit.octets h.acted) (sym s.shows.clock)
              (subst (λ (f : List ℕ). TakesUnit whole hall.clock h.entity f h.unit.octets h.acted) from_is h.takes);
          heard = subst (λ (n : ℕ). IsHeard n h.entity sender.0.own h.post.sent h.acted) (sym s.shows.clock)
              (subst (λ (f : List ℕ). IsHeard hall.clock h.entity f h.post.sent h.acted) from_is (taken_is hall.clock h.entity h.unit.from h.unit.octets h.post.sent h.acted is.sendable is.written h.takes));
          kept = h.kept;
          sendable = is.sendable;
          entities = h.entities;
          ends = h.ends;
          clock = h.stands.shows.clock ∙ sym s.shows.clock;
          gave = λ n.
              ap (submitted n) h.made_is ∙ submitted_both n h.front h.later ∙ (λ i. front.gave n i ++ submitted n h.later)
              ∙ ap (submitted n) h.does.made_is ∙ submitted_both n told h.does.aside ∙ (λ i. lines_give_none h.system h.entity.own n hall.ends h.acted.events i ++ submitted n h.does.aside) ∙ tail.gave n;
          showed = λ n.
              ap (shown n) h.made_is ∙ shown_both n h.front h.later ∙ (λ i. front.showed n i ++ shown n h.later)
              ∙ ap (shown n) h.does.made_is ∙ shown_both n told h.does.aside ∙ ap (λ (us : List Marked). shown n told ++ us) (tail.showed n) ∙ append-nil (shown n told) ∙ ap (shown n) told_old;
        };
        queue = h.queue;
        stands = h.stands;
        front = h.front;
        aside = h.does.aside;
        made_is = h.made_is ∙ ap (λ (es : List Event). h.front ++ es) (h.does.made_is ∙ ap (λ (es : List Event). es ++ h.does.aside) told_old);
      }

  -- a delivery of a settle
  pub delivered : (old new : World C) (hall : Hall) (queue : List (CarriedUnit (List ℕ))) (made : List Event) (pair : ℕ × ℕ) → StandsSo old hall queue → IsLeastFresh (link old.carrier) (Some pair)
      → AllByRecursion IsUndropped made → Delivers link steps whole old pair.0 pair.1 WasPicked made new → IsStill old hall made new ⊎ HasCome old hall made new
  delivered old new hall queue made pair s least all d = elim (handed link steps law titles Waits fifo old new hall queue made pair s least all d) [
    | inl h ↦ inl (record { queue = h.queue; stands = h.stands; entities = h.entities; ends = h.ends; clock = h.clock; none = aside_tells made (are_aside made h.quiet) })
    | inr h ↦ inr (come_so old new hall queue made s h)
  ]
