-- A calm network goes on as the network without its carrier does: an entity that acts leaves its TPDUs in the queue, and a delivery hands over none or
-- the first of them.
use Rattle.std.proofs.Common.{◌≡◌, ◌⊎◌, ℕ, ◌+◌, Bool, true, false, List, [], ◌∷◌, ◌++◌, Option, Some, None, refl, sym, ◌∙◌, ap, subst, inl, inr, append-nil, append_assoc}
use Rattle.std.specs.Prelude.{◌==◌, ◌&&◌, is_some, nat_eq, slice_get}
use Rattle.std.specs.Cmp.Lexicographic.{bytes_decides, pointwise}
use Rattle.std.specs.List.{AllByRecursion}
use Rattle.nsap.specs.Address.{selector_of, system_part}
use Rattle.nsap.proofs.AddressLemmas.{selector_of-append}
use Rattle.osi_base.specs.Calls.{Call, Choose, Keeps}
use Rattle.osi_base.specs.Link.{IsLeastFresh, Link}
use Rattle.osi_base.specs.declared.unit.Arrival.{Arrival}
use Rattle.osi_base.specs.declared.unit.Picked.TheVariants.{Taken as WasPicked}
use Rattle.osi_base.specs.declared.unit.Unit.{Unit as CarriedUnit}
use Rattle.osi_base.specs.declared.unit.Up.{Up}
use Rattle.osi_base.specs.declared.unit.Up.TheVariants.{Unit as Came, Note as Noted}
use Rattle.script_journal.specs.declared.event.Event.{Event}
use Rattle.script_journal.specs.declared.event.Event.TheVariants as events
use Rattle.script_journal.specs.declared.cause.Settled.TheVariants.{Settled}
use Rattle.net_world.specs.Fifo.{First, Hands, IsFifo, IsUser, Nothing, arrivals}
use Rattle.net_world.specs.Told.{picked_event, told}
use Rattle.tp4_number.specs.Number.{whole}
use Rattle.tp4_conn.specs.Proper.{AreSendable}
use Rattle.tp4_entity.specs.Association.{met}
use Rattle.tp4_entity.specs.Entity.{Acted, Entity, at}
use Rattle.tp4_entity.specs.Step.{first_due}
use Rattle.tp4_entity.specs.Silence.{is_silent}
use Rattle.tp4_entity.specs.Unit.{TakesBy, TakesUnit}
use Rattle.law_tp4_proper.specs.Rest.{AreProper, IsProperStep}
use Rattle.law_tp4_proper.proofs.Heards.{taken_rests}
use Rattle.law_tp4_pair.specs.Claim.{IsUndropped}
use Rattle.tp4_world.specs.Run.{Acts, Delivers, Hears, HearsAll, HearsIf, NoneLeft, OneMore, Settles, TooMany, is_for, transport_address}
use Rattle.tp4_world.specs.Telling.{ends_after, events_after}
use Rattle.tp4_world.specs.World.{World, entity_at, with_entity}
use Rattle.tp4_world.specs.declared.place.EndAt.{EndAt}
use Rattle.tp4_world.specs.declared.place.Placed.{Placed}
use Rattle.tp4_world.proofs.Destinations.{ActsFine, taking_fine}
use Rattle.tp4_world.proofs.Having.{found, with_any, with_some}
use Rattle.law_tp4_lawful.proofs.WorldAsides.{AreQuiet, are_aside, picked_quiet, told_quiet}
use Rattle.law_calm_run.specs.Run.{HaveEntities}
use Rattle.law_calm_run.proofs.Hall.{AreWaiting, Does, Done, Goes, Hall, IsAddress, Meeting, Meets, More, Post, Step, Still, after}
use Rattle.law_calm_run.proofs.Posting.{AreKept, AreUnitsOf, IsHall, IsKept, IsUnitOf}
use Rattle.law_calm_run.proofs.Queueing.{all_parts, all_sent, none_dropped}
use Rattle.law_calm_run.proofs.Reading.{heard_as, was}
use Rattle.tp4_entity.proofs.Restarts.{hearing_same}

-- ---- entities

-- what comes to an entity leaves when it last began again
takes_same : (wrap : ℕ → ℕ → ℕ) (now : ℕ) (e : Entity) (from octets : List ℕ) (acted : Acted) → TakesUnit wrap now e from octets acted → acted.entity.restarted ≡ e.restarted
takes_same wrap now e from octets acted takes = by (is_silent now e) takes
  where
    by : (silent : Bool) → TakesBy silent wrap now e from octets acted → acted.entity.restarted ≡ e.restarted
    by true is = ap (λ (a : Acted). a.entity.restarted) is
    by false heard = hearing_same wrap now e from octets acted heard

-- what an entity did leaves all as they have to be
pub kept_after : (titles : List (List ℕ)) (placed : List Placed) (system : ℕ) (entity : Entity) (acted : Acted) → AreKept titles placed → entity_at placed system ≡ Some entity
    → AreProper acted.entity → ActsFine (IsAddress titles) entity.own acted → AreKept titles (with_entity placed system acted.entity)
kept_after titles placed system entity acted kept there proper fine other x is = elim (with_any placed system other acted.entity x is) [
  | inl here ↦
      let was = kept system entity there in
      subst (λ (n : ℕ). IsKept titles n x) (sym here.0)
      (subst (IsKept titles system) (sym here.1)
      (record { title = was.title; title_is = was.title_is; own = fine.own_is ∙ was.own; proper = proper; ends = fine.ends }))
  | inr before ↦ kept other x before
]

pub have_after : (titles : List (List ℕ)) (placed : List Placed) (system : ℕ) (new : Entity) → HaveEntities titles placed → HaveEntities titles (with_entity placed system new)
have_after titles placed system new have other title title_is =
    let e = have other title title_is in
    let some : is_some (entity_at (with_entity placed system new) other) ≡ true = with_some placed system other new (ap is_some e.1) in
    found (entity_at (with_entity placed system new) other) some

-- ---- chains

pub goes_then : (titles : List (List ℕ)) (old mid new : Hall) (made here rest : List Event) → Goes titles old here mid → Goes titles mid rest new → made ≡ here ++ rest → Goes titles old made new
goes_then titles old mid new made here rest (Done o h m none same) more is =
    subst (λ (x : Hall). Goes titles x made new) same
    (subst (λ (es : List Event). Goes titles mid es new) (sym (is ∙ ap (λ (es : List Event). es ++ rest) none)) more)
goes_then titles old mid new made here rest (More o h m between first others proper step goes all) more is =
    More old made new between first (others ++ rest) proper step (goes_then titles between mid new (others ++ rest) others rest goes more refl)
    (is ∙ ap (λ (es : List Event). es ++ rest) all ∙ append_assoc first others rest)

pub one_step : (titles : List (List ℕ)) (old new : Hall) (made : List Event) → AreKept titles old.entities → Step titles old made new → Goes titles old made new
one_step titles old new made kept step = More old made new new made [] (λ system e is. (kept system e is).proper) step (Done new [] new refl refl) (sym (append-nil made))

-- ---- arrivals

fits : (titles : List (List ℕ)) (system : ℕ) (entity : Entity) (to : List ℕ) → IsKept titles system entity → IsUser titles to system → selector_of to ≡ 1 → entity.own ≡ to
fits titles system entity to kept user one =
    let title : user.title ≡ kept.title = some_title user.title kept.title (sym user.title_is ∙ kept.title_is) in
    let selector : user.selector ≡ 1 = sym (selector_of-append (system_part user.title) user.selector) ∙ ap selector_of (sym user.address_is) ∙ one in
    kept.own ∙ ap transport_address (sym title) ∙ ap (λ (n : ℕ). system_part user.title ++ n ∷ []) (sym selector) ∙ sym user.address_is
  where
    some_title : (one other : List ℕ) → Some one ≡ Some other → one ≡ other
    some_title one other is = cc is

both_true : (one other : Bool) → one ≡ true → other ≡ true → (one && other) ≡ true
both_true one other p q = ap (λ (b : Bool). b && other) p ∙ q

first_false : (one other : Bool) → one ≡ false → (one && other) ≡ false
first_false one other p = ap (λ (b : Bool). b && other) p

module _ {C : Type 0} (link : C → Link (List ℕ)) (steps : C → Call (List ℕ) → C → Type 0)
    (law : (old : C) (call : Call (List ℕ)) (new : C) → steps old call new → Keeps (link old) call (link new))
    (titles : List (List ℕ)) (Waits : C → List (CarriedUnit (List ℕ)) → Type 0) (fifo : IsFifo link steps titles Waits) where
  -- an entity acted
  pub record Acting (old : Hall) (system : ℕ) (own : List ℕ) (acted : Acted) (made : List Event) (new : World C) : Type 0 where
    pub does : Does old system own acted made (after old system acted)
    pub queue : List (CarriedUnit (List ℕ))
    pub shows : IsHall link titles Waits new (after old system acted) queue

  pub acts_go : (old new : World C) (hall : Hall) (queue : List (CarriedUnit (List ℕ))) (system : ℕ) (title own : List ℕ) (acted : Acted) (made : List Event) → IsHall link titles Waits old hall queue → slice_get titles system ≡ Some title
      → own ≡ transport_address title → ActsFine (IsAddress titles) own acted → AreSendable acted.tpdus → AllByRecursion IsUndropped made → Acts link steps old system own acted made new
      → Acting hall system own acted made new
  acts_go old new hall queue system title own acted made shows title_is own_is fine fit all a =
      let told : List Event = events_after old.ends system own acted.events in
      let parts = all_parts IsUndropped told a.sent (subst (λ (es : List Event). AllByRecursion IsUndropped es) a.made_is all) in
      let q = all_sent link steps law titles Waits fifo acted.tpdus old.carrier a.below queue hall.posts system title own a.sent shows.waits shows.units title_is own_is fine.tpdus fit parts.1 a.sends in
      record {
        does = record {
          aside = a.sent;
          is_aside = are_aside a.sent q.quiet;
          made_is = a.made_is ∙ ap (λ (es : List EndAt). events_after es system own acted.events ++ a.sent) shows.ends;
          becomes = refl;
        };
        queue = q.queue;
        shows = subst (λ (x : World C). IsHall link titles Waits x (after hall system acted) q.queue) (sym a.becomes)
            (record {
              clock = q.clock ∙ shows.clock;
              entities = ap (λ (ps : List Placed). with_entity ps system acted.entity) shows.entities;
              ends = ap (λ (es : List EndAt). ends_after es system acted.events) shows.ends;
              waits = q.waits;
              units = q.units;
            });
      }

  -- ---- what came up

  hears_none : (ups : List (Up (List ℕ))) (old new : World C) (made : List Event) → arrivals ups ≡ [] → HearsAll link steps whole old ups made new → (made ≡ []) × (new ≡ old)
  hears_none [] old new made none h = h
  hears_none (Noted note ∷ ups) old new made none h = hears_none ups old new made none h
  hears_none (Came arrival ∷ ups) old new made none h = absurd cc

  hears_one : (ups : List (Up (List ℕ))) (old new : World C) (arrival : Arrival (List ℕ)) (made : List Event) → arrivals ups ≡ arrival ∷ [] → HearsAll link steps whole old ups made new
      → Hears link steps whole old arrival made new
  hears_one [] old new arrival made one h = absurd cc
  hears_one (Noted note ∷ ups) old new arrival made one h = hears_one ups old new arrival made one h
  hears_one (Came first ∷ ups) old new arrival made one h =
      let rest = hears_none ups h.0 new h.2 (tail_is first arrival (arrivals ups) one) h.4 in
      let all : made ≡ h.1 = h.5 ∙ ap (λ (es : List Event). h.1 ++ es) rest.0 ∙ append-nil h.1 in
      subst (λ (a : Arrival (List ℕ)). Hears link steps whole old a made new) (head_is first arrival (arrivals ups) one)
      (subst (λ (es : List Event). Hears link steps whole old first es new) (sym all)
      (subst (λ (x : World C). Hears link steps whole old first h.1 x) (sym rest.1) h.3))
    where
      head_is : (x y : Arrival (List ℕ)) (xs : List (Arrival (List ℕ))) → x ∷ xs ≡ y ∷ [] → x ≡ y
      head_is x y xs is = cc is

      tail_is : (x y : Arrival (List ℕ)) (xs : List (Arrival (List ℕ))) → x ∷ xs ≡ y ∷ [] → xs ≡ []
      tail_is x y xs is = cc is

  -- ---- deliveries

  -- the network went on, and all are as they have to be; no end is due
  pub record Went (old : Hall) (made : List Event) (new : World C) : Type 0 where
    pub next : Hall
    pub queue : List (CarriedUnit (List ℕ))
    pub goes : Goes titles old made next
    pub shows : IsHall link titles Waits new next queue
    pub kept : AreKept titles next.entities
    pub have : HaveEntities titles next.entities
    pub rest : AreWaiting next.clock next.entities

  -- what is known of the network before
  pub record Stands (world : World C) (hall : Hall) (queue : List (CarriedUnit (List ℕ))) : Type 0 where
    pub shows : IsHall link titles Waits world hall queue
    pub kept : AreKept titles hall.entities
    pub have : HaveEntities titles hall.entities
    pub rest : AreWaiting hall.clock hall.entities

  pub waiting_after : (hall : Hall) (system : ℕ) (acted : Acted) → AreWaiting hall.clock hall.entities → first_due hall.clock acted.entity ≡ None
      → AreWaiting hall.clock (with_entity hall.entities system acted.entity)
  waiting_after hall system acted rest none other x is = elim (with_any hall.entities system other acted.entity x is) [
    | inl here ↦ subst (λ (e : Entity). first_due hall.clock e ≡ None) (sym here.1) none
    | inr before ↦ rest other x before
  ]

  -- nothing came to an entity: quiet events alone are told
  pub record HasStayed (old : World C) (hall : Hall) (made : List Event) (new : World C) : Type 0 where
    pub queue : List (CarriedUnit (List ℕ))
    pub stands : Stands new hall queue
    pub entities : new.entities ≡ old.entities
    pub ends : new.ends ≡ old.ends
    pub clock : (link new.carrier).clock ≡ (link old.carrier).clock
    pub quiet : AreQuiet made

  -- the first TPDU that waits came to the entity at its address: behind quiet events stands what that entity did
  pub record HasHanded (old : World C) (hall : Hall) (made : List Event) (new : World C) : Type 0 where
    pub post : Post
    pub rest : List Post
    pub posts_are : hall.posts ≡ post ∷ rest
    pub unit : CarriedUnit (List ℕ)
    pub unit_is : IsUnitOf titles unit post
    pub system : ℕ
    pub entity : Entity
    pub there : entity_at hall.entities system ≡ Some entity
    pub own_is : entity.own ≡ post.sent.to
    pub acted : Acted
    pub takes : TakesUnit whole hall.clock entity unit.from unit.octets acted
    pub kept : acted.entity.own ≡ entity.own
    pub entities : new.entities ≡ with_entity old.entities system acted.entity
    pub ends : new.ends ≡ ends_after old.ends system acted.events
    pub front : List Event
    pub quiet : AreQuiet front
    pub later : List Event
    pub made_is : made ≡ front ++ later
    pub does : Does (record hall { posts = rest }) system entity.own acted later (after (record hall { posts = rest }) system acted)
    pub queue : List (CarriedUnit (List ℕ))
    pub stands : Stands new (after (record hall { posts = rest }) system acted) queue

  -- the carrier alone went on
  stayed : (old new : World C) (hall : Hall) (before queue : List (CarriedUnit (List ℕ))) (below : C) (front later made : List Event) → Stands old hall before → Waits below queue → AreUnitsOf titles queue hall.posts
      → (link below).clock ≡ (link old.carrier).clock → AreQuiet front → made ≡ front ++ later → (later ≡ []) × (new ≡ record old { carrier = below }) → HasStayed old hall made new
  stayed old new hall before queue below front later made s waits units clock quiet made_is h =
      let shows : IsHall link titles Waits (record old { carrier = below }) hall queue =
      record { clock = clock ∙ s.shows.clock; entities = s.shows.entities; ends = s.shows.ends; waits = waits; units = units } in
      record {
        queue = queue;
        stands = record { shows = subst (λ (x : World C). IsHall link titles Waits x hall queue) (sym h.1) shows; kept = s.kept; have = s.have; rest = s.rest };
        entities = ap (λ (x : World C). x.entities) h.1;
        ends = ap (λ (x : World C). x.ends) h.1;
        clock = ap (λ (x : World C). (link x.carrier).clock) h.1 ∙ clock;
        quiet = subst AreQuiet (sym (made_is ∙ ap (λ (es : List Event). front ++ es) h.0 ∙ append-nil front)) quiet;
      }

  -- the first unit was handed over; `mid` is the network with what waits then
  module _ (old new : World C) (hall : Hall) (before : List (CarriedUnit (List ℕ))) (s : Stands old hall before) (below : C) (unit : CarriedUnit (List ℕ)) (queue : List (CarriedUnit (List ℕ))) (system : ℕ)
      (user : IsUser titles unit.to system) (waits : Waits below queue) (clock : (link below).clock ≡ (link old.carrier).clock)
      (front later made : List Event) (quiet : AreQuiet front) (made_is : made ≡ front ++ later) (all : AllByRecursion IsUndropped later) where
    abbrev mid : World C
    mid = record old { carrier = below }

    abbrev arrival : Arrival (List ℕ)
    arrival = record { system = system; unit = unit }

    -- a raw unit touches no entity
    raw_heard : selector_of unit.to ≡ 2 → AreUnitsOf titles queue hall.posts → Hears link steps whole mid arrival later new → HasStayed old hall made new
    raw_heard raw left h = stayed old new hall before queue below front later made s waits left clock quiet made_is (by (entity_at old.entities system) h)
      where
        other : (e : Entity) → is_for link steps whole unit.to (Some e) ≡ false
        other e = first_false (selector_of unit.to == 1) (pointwise nat_eq e.own unit.to) (ap (λ (n : ℕ). n == 1) raw)

        by : (place : Option Entity) → HearsIf link steps whole mid arrival place (is_for link steps whole unit.to place) later new → (later ≡ []) × (new ≡ mid)
        by None h = h
        by (Some e) h = subst (λ (b : Bool). HearsIf link steps whole mid arrival (Some e) b later new) (other e) h

    -- a TPDU is handed to the entity at its address
    post_heard : (post : Post) (rest : List Post) → hall.posts ≡ post ∷ rest → IsUnitOf titles unit post → AreUnitsOf titles queue rest → Hears link steps whole mid arrival later new → HasHanded old hall made new
    post_heard post rest posts_are is left h = takes at_it.0 at_it.1 at_it.2
      where
        here : (entity : Entity) × (entity_at hall.entities system ≡ Some entity)
        here = s.have system user.title user.title_is

        there : entity_at old.entities system ≡ Some here.0
        there = ap (λ (ps : List Placed). entity_at ps system) s.shows.entities ∙ here.1

        kept : IsKept titles system here.0
        kept = s.kept system here.0 here.1

        transport : selector_of unit.to ≡ 1
        transport = ap selector_of is.address.address_is ∙ selector_of-append (system_part is.address.title) 1

        own : here.0.own ≡ unit.to
        own = fits titles system here.0 unit.to kept user transport

        for_it : is_for link steps whole unit.to (Some here.0) ≡ true
        for_it = both_true (selector_of unit.to == 1) (pointwise nat_eq here.0.own unit.to) (ap (λ (n : ℕ). n == 1) transport) ((bytes_decides here.0.own unit.to).1 own)

        at_it : HearsIf link steps whole mid arrival (Some here.0) true later new
        at_it = subst (λ (b : Bool). HearsIf link steps whole mid arrival (Some here.0) b later new) for_it
            (subst (λ (o : Option Entity). HearsIf link steps whole mid arrival o (is_for link steps whole unit.to o) later new) there h)

        left_hall : Hall
        left_hall = record hall { posts = rest }

        shows : IsHall link titles Waits mid left_hall queue
        shows = record { clock = clock ∙ s.shows.clock; entities = s.shows.entities; ends = s.shows.ends; waits = waits; units = left }

        takes : (acted : Acted) → TakesUnit whole (link below).clock here.0 unit.from unit.octets acted → Acts link steps mid system here.0.own acted later new → HasHanded old hall made new
        takes acted heard acts =
            let now : TakesUnit whole hall.clock here.0 unit.from unit.octets acted = subst (λ (n : ℕ). TakesUnit whole n here.0 unit.from unit.octets acted) (clock ∙ s.shows.clock) heard in
            let proper : IsProperStep hall.clock acted = taken_rests whole hall.clock here.0 unit.from unit.octets acted (record { proper = kept.proper; idle = s.rest system here.0 here.1 }) now in
            let from : IsAddress titles unit.from = record { system = post.system; title = is.title; title_is = is.title_is; address_is = is.from } in
            let fine : ActsFine (IsAddress titles) here.0.own acted = taking_fine (IsAddress titles) unit.from from whole hall.clock here.0 unit.octets acted kept.ends now in
            let a = acts_go mid new left_hall queue system kept.title here.0.own acted later shows kept.title_is kept.own fine proper.tpdus all acts in
            record {
              post = post;
              rest = rest;
              posts_are = posts_are;
              unit = unit;
              unit_is = is;
              system = system;
              entity = here.0;
              there = here.1;
              own_is = own ∙ is.to;
              acted = acted;
              takes = now;
              kept = fine.own_is;
              entities = ap (λ (x : World C). x.entities) acts.becomes;
              ends = ap (λ (x : World C). x.ends) acts.becomes;
              front = front;
              quiet = quiet;
              later = later;
              made_is = made_is;
              does = a.does;
              queue = a.queue;
              stands = record {
                shows = a.shows;
                kept = kept_after titles hall.entities system here.0 acted s.kept here.1 proper.rest.proper fine;
                have = have_after titles hall.entities system acted.entity s.have;
                rest = waiting_after hall system acted s.rest proper.rest.idle;
              };
            }

  -- a delivery of a settle hands over none or the first
  pub handed : (old new : World C) (hall : Hall) (queue : List (CarriedUnit (List ℕ))) (made : List Event) (pair : ℕ × ℕ) → Stands old hall queue → IsLeastFresh (link old.carrier) (Some pair) → AllByRecursion IsUndropped made
      → Delivers link steps whole old pair.0 pair.1 WasPicked made new → HasStayed old hall made new ⊎ HasHanded old hall made new
  handed old new hall queue made pair s least all d = by (fifo.chosen old.carrier d.below queue pair d.ups s.shows.waits least d.passes (none_dropped d.ups parts.0))
    where
      own : Event
      own = picked_event pair.0 pair.1 WasPicked

      every : AllByRecursion IsUndropped (own ∷ (told d.ups ++ d.later))
      every = subst (λ (es : List Event). AllByRecursion IsUndropped es) d.made_is all

      parts : AllByRecursion IsUndropped (told d.ups) × AllByRecursion IsUndropped d.later
      parts = all_parts IsUndropped (told d.ups) d.later every.1

      quiet : AreQuiet (own ∷ told d.ups)
      quiet = (picked_quiet pair.0 pair.1 WasPicked, told_quiet d.ups)

      clock : (link d.below).clock ≡ (link old.carrier).clock
      clock = d.passes.gathers.stands.clock ∙ (law old.carrier (Choose pair.0 pair.1 WasPicked) d.passes.called d.passes.steps_to).clock

      mid : World C
      mid = record old { carrier = d.below }

      by : Hands titles Waits queue d.ups d.below → HasStayed old hall made new ⊎ HasHanded old hall made new
      by (Nothing none waits) =
          inl (stayed old new hall queue queue d.below (own ∷ told d.ups) d.later made s waits s.shows.units clock quiet d.made_is (hears_none d.ups mid new d.later none d.hears))
      by (First unit left system queue_is arrived user waits) =
          let h = hears_one d.ups mid new (record { system = system; unit = unit }) d.later arrived d.hears in
          elim (subst (λ (q : List (CarriedUnit (List ℕ))). AreUnitsOf titles q hall.posts) queue_is s.shows.units) [
            | inl raw ↦ inl (raw_heard old new hall queue s d.below unit left system user waits clock (own ∷ told d.ups) d.later made quiet d.made_is parts.1 raw.0 raw.1 h)
            | inr p ↦ inr (post_heard old new hall queue s d.below unit left system user waits clock (own ∷ told d.ups) d.later made quiet d.made_is parts.1 p.0 p.1 p.2 p.3 p.4 h)
          ]

  -- nothing came of it
  abbrev pub still : (old new : World C) (hall : Hall) (queue left : List (CarriedUnit (List ℕ))) (made : List Event) → Stands old hall queue → IsHall link titles Waits new hall left → AreQuiet made → Went hall made new
  still old new hall queue left made s shows quiet = record { next = hall; queue = left; goes = one_step titles hall hall made s.kept (Still (are_aside made quiet) refl); shows = shows; kept = s.kept; have = s.have; rest = s.rest }

  -- an entity took the first that waits
  meets_first : (old new : World C) (hall : Hall) (queue : List (CarriedUnit (List ℕ))) (made : List Event) → Stands old hall queue → HasHanded old hall made new → Went hall made new
  meets_first old new hall queue made s h =
      let is = h.unit_is in
      let so : (silent : Bool) → is_silent hall.clock h.entity ≡ silent → TakesBy silent whole hall.clock h.entity h.unit.from h.unit.octets h.acted =
      λ silent it. subst (λ (b : Bool). TakesBy b whole hall.clock h.entity h.unit.from h.unit.octets h.acted) it h.takes in
      let next : Hall = after (record hall { posts = h.rest }) h.system h.acted in
      let meets : Meets titles hall h.later next = record {
        post = h.post;
        rest = h.rest;
        posts_are = h.posts_are;
        title = is.title;
        title_is = is.title_is;
        system = h.system;
        entity = h.entity;
        there = h.there;
        own_is = h.own_is;
        acted = h.acted;
        heard = λ awake read. heard_as hall.clock h.entity h.unit.from h.unit.octets h.post.sent h.acted is.sendable is.written (so false awake) read
            ∙ ap (λ (f : List ℕ). met whole hall.clock (at hall.clock h.entity) f (was h.post.sent)) is.from;
        ignores = λ silent. so true silent;
        same = takes_same whole hall.clock h.entity h.unit.from h.unit.octets h.acted h.takes;
        does = h.does;
      } in
      record {
        next = next;
        queue = h.queue;
        goes = goes_then titles hall hall next made h.front h.later (one_step titles hall hall h.front s.kept (Still (are_aside h.front h.quiet) refl)) (one_step titles hall next h.later s.kept (Meeting meets)) h.made_is;
        shows = h.stands.shows;
        kept = h.stands.kept;
        have = h.stands.have;
        rest = h.stands.rest;
      }

  pub delivered : (old new : World C) (hall : Hall) (queue : List (CarriedUnit (List ℕ))) (made : List Event) (pair : ℕ × ℕ) → Stands old hall queue → IsLeastFresh (link old.carrier) (Some pair) → AllByRecursion IsUndropped made
      → Delivers link steps whole old pair.0 pair.1 WasPicked made new → Went hall made new
  delivered old new hall queue made pair s least all d = elim (handed old new hall queue made pair s least all d) [
    | inl h ↦ still old new hall queue h.queue made s h.stands.shows h.quiet
    | inr h ↦ meets_first old new hall queue made s h
  ]

  -- ---- a settle

  abbrev pub stands_then : (old : Hall) (made : List Event) (new : World C) (w : Went old made new) → Stands new w.next w.queue
  stands_then old made new w = record { shows = w.shows; kept = w.kept; have = w.have; rest = w.rest }

  abbrev pub went_then : (old : Hall) (mid new : World C) (made here rest : List Event) (first : Went old here mid) → Went first.next rest new → made ≡ here ++ rest → Went old made new
  went_then old mid new made here rest first more is = record {
    next = more.next;
    queue = more.queue;
    goes = goes_then titles old first.next more.next made here rest first.goes more.goes is;
    shows = more.shows;
    kept = more.kept;
    have = more.have;
    rest = more.rest;
  }

  -- what a settle leaves: nothing waits
  pub record HasSettled (old : Hall) (made : List Event) (new : World C) : Type 0 where
    pub went : Went old made new
    pub none : went.queue ≡ []

  pub settled : (count : ℕ) (old : World C) (made : List Event) (new : World C) → Settles link steps whole count old made new → (hall : Hall) (queue : List (CarriedUnit (List ℕ))) → Stands old hall queue
      → AllByRecursion IsUndropped made → HasSettled hall made new
  settled count old made new (NoneLeft n o m l fresh made_is same) hall queue s all =
      let none : queue ≡ [] = fifo.none old.carrier queue s.shows.waits fresh in
      let quiet : AreQuiet (events.Settle (Settled count) ∷ []) = (record { submits = λ end. refl; shows = λ end. refl; makes = refl }, tt) in
      record {
        went = still old new hall queue queue made s (subst (λ (x : World C). IsHall link titles Waits x hall queue) (sym same) s.shows) (subst AreQuiet (sym made_is) quiet);
        none = none;
      }
  settled count old made new (TooMany n o m l pair fresh most made_is same) hall queue s all = absurd (subst (λ (es : List Event). AllByRecursion IsUndropped es) made_is all).0
  settled count old made new (OneMore n o m l pair mid here rest fresh low delivers settles made_is) hall queue s all =
      let parts = all_parts IsUndropped here rest (subst (λ (es : List Event). AllByRecursion IsUndropped es) made_is all) in
      let first = delivered old mid hall queue here pair s fresh parts.0 delivers in
      let more = settled (count + 1) mid rest new settles first.next first.queue (stands_then hall here mid first) parts.1 in
      record { went = went_then hall mid new made here rest first more.went made_is; none = more.none }
