-- What users ask where nothing waits, and raw units, as steps of two ends that know each other: a row of one of them, or neither sees anything of it.
use Rattle.std.proofs.Common.{◌≡◌, ◌≢◌, ◌⊎◌, inl, inr, ℕ, List, [], ◌∷◌, ◌++◌, Option, Some, None, refl, sym, ◌∙◌, ap, subst}
use Rattle.std.proofs.lemmas.Bool.{cases_eq}
use Rattle.std.proofs.lemmas.Option.{none-some, same_Some}
use Rattle.osi_base.specs.Link.{Link}
use Rattle.script_journal.specs.Lawful.{shown, submitted}
use Rattle.script_journal.specs.declared.event.Event.{Event as JournalEvent}
use Rattle.tp4_number.specs.Number.{whole}
use Rattle.tp4_conn.specs.Calls.{IsCall, call_refusal}
use Rattle.tp4_conn.specs.End.{End, Moved, end_of, frozen_for}
use Rattle.tp4_conn.specs.Making.{connected}
use Rattle.tp4_conn.specs.Table.{Called, stepped}
use Rattle.tp4_conn.specs.declared.call.ConnectRequest.{ConnectRequest}
use Rattle.tp4_conn.specs.declared.call.UserCall.{UserCall}
use Rattle.tp4_conn.specs.declared.end_record.EndRecord.{EndRecord}
use Rattle.tp4_conn.specs.declared.states.StateData.{StateData}
use Rattle.tp4_conn.specs.declared.states.StateData.TheVariants as stages
use Rattle.tp4_conn.specs.declared.timers.Timers.{Timers}
use Rattle.tp4_entity.specs.Entity.{Acted, Entity, at, end_at, moved}
use Rattle.tp4_entity.specs.References.{is_free_place, least_free}
use Rattle.tp4_entity.specs.Step.{call_of, connecting, end_refusal}
use Rattle.tp4_entity.proofs.Standings.{free_least, within}
use Rattle.law_tp4_proper.proofs.Ends.{not_refused}
use Rattle.law_tp4_history.specs.Journals.{IsAside}
use Rattle.law_tp4_history.specs.Tracks.{Whole}
use Rattle.law_tp4_history.specs.Lines.{given}
use Rattle.law_tp4_history.specs.Moves.{stop_of}
use Rattle.law_tp4_pair.specs.Pair.{Asks_called, Asks_calling, IsIdle, Pair, asks_called, asks_calling}
use Rattle.tp4_world.specs.Telling.{connect_event, ends_after, events_after}
use Rattle.tp4_world.specs.World.{World, entity_at, latest, with_entity}
use Rattle.tp4_world.specs.declared.place.EndAt.{EndAt}
use Rattle.law_tp4_lawful.proofs.Acting.{first_of}
use Rattle.law_tp4_lawful.proofs.ActsTold.{first_gives, first_gives_none}
use Rattle.law_tp4_lawful.proofs.Worlds.{Explains}
use Rattle.law_tp4_lawful.proofs.MakesPlaces.{at_other, at_same}
use Rattle.law_calm_run.proofs.Hall.{posted}
use Rattle.law_recovery_run.specs.Aside.{AreFacing}
use Rattle.law_recovery_run.proofs.Aiming.{Going}
use Rattle.law_recovery_run.proofs.Aside.{kept_place}
use Rattle.law_recovery_run.specs.Following.{IsFollowed, IsLive, Stands}
use Rattle.law_recovery_run.proofs.Beside.{latest_elsewhere}
use Rattle.law_recovery_run.proofs.Leaving.{Leaves}
use Rattle.law_recovery.proofs.Stepping.{HasMoved}
use Rattle.law_recovery_run.proofs.Doing.{HasDone, at_two, beside, calling_did, calling_does, facing, facing_called, facing_calling, lines_gave, lines_showed, live_goes, turn, turned}
use Rattle.law_recovery.proofs.Rowing.{row_apart, row_leaves}
use Rattle.law_recovery.proofs.Telling.{call_told}

-- at one place, or not
pub at_place : (system reference s r : ℕ) → ((system ≡ s) × (reference ≡ r)) ⊎ (system ≡ s → reference ≡ r → ⊥)
at_place system reference s r = elim (cases_eq system s) [
  | inl same ↦ elim (cases_eq reference r) [
    | inl also ↦ inl (same, also)
    | inr apart ↦ inr (λ one other. apart other)
  ]
  | inr apart ↦ inr (λ one other. apart one)
]

-- nothing waits
pub idle_of : {C : Type 0} (link : C → Link (List ℕ)) (journal : List JournalEvent) (world : World C) (x y : ℕ) (p : Pair) → IsFollowed link journal world [] x y p → IsIdle p
idle_of {C} link journal world x y p f = record { forth = f.forth.waits_are; back = f.back.waits_are }

-- an end that takes a call is not frozen
pub call_goes : (b : EndRecord) (stage : StateData) (call : UserCall) → call_refusal b stage call ≡ None → stop_of stage ≡ None
call_goes b (stages.Frozen when) call may = absurd (cc may)
call_goes b other call may = refl

-- the end that takes a call
pub record IsTaker (entity : Entity) (reference : ℕ) (call : UserCall) : Type 0 where
  pub end : End
  pub stands : end_at entity reference ≡ Some end
  pub allowed : call_refusal end.base end.stage call ≡ None

pub taker : (entity : Entity) (reference : ℕ) (call : UserCall) → end_refusal call (end_at entity reference) ≡ None → IsTaker entity reference call
taker entity reference call = by (end_at entity reference) refl
  where
    by : (place : Option End) → end_at entity reference ≡ place → end_refusal call place ≡ None → IsTaker entity reference call
    by None is may = absurd (cc may)
    by (Some end) is may = record { end = end; stands = is; allowed = not_refused (call_refusal end.base end.stage call) may }

-- ---- a call

module _ {C : Type 0} (link : C → Link (List ℕ)) (titles : List (List ℕ)) (timers : Timers) (w : Whole) (journal : List JournalEvent) (old : World C) (explains : Explains link titles timers w journal old)
    (going : Going) (new : World C) (made : List JournalEvent) (number : ℕ) (end : EndAt) (entity : Entity) (call : UserCall) (there : entity_at old.entities end.system ≡ Some entity)
    (number_is : latest old.ends end.system end.reference ≡ number) (o : End) (stands : end_at entity end.reference ≡ Some o) (allowed : call_refusal o.base o.stage call ≡ None) (proper : IsCall call)
    (aside : List JournalEvent) (is_aside : IsAside aside)
    (entities : new.entities ≡ with_entity old.entities end.system (moved (at (link old.carrier).clock entity) end.reference (stepped whole (link old.carrier).clock o (Called call))).entity)
    (ends : new.ends ≡ ends_after old.ends end.system (stepped whole (link old.carrier).clock o (Called call)).events) (clock : (link new.carrier).clock ≡ (link old.carrier).clock)
    (made_is : made ≡ first_of number (Called call) ++ (events_after old.ends end.system entity.own (stepped whole (link old.carrier).clock o (Called call)).events ++ aside)) where
  abbrev now : ℕ
  now = (link old.carrier).clock

  abbrev m : Moved
  m = stepped whole now o (Called call)

  abbrev acted : Acted
  acted = moved (at now entity) end.reference m

  abbrev done : HasDone link old new made
  done = record {
    system = end.system;
    entity = entity;
    there = there;
    acted = acted;
    kept = refl;
    entities = entities;
    ends = ends;
    clock = clock;
    showed = lines_showed old.ends end.system entity.own number (Called call) m.events aside made is_aside made_is;
  }

  gave_of : (n : ℕ) → submitted n made ≡ submitted n (first_of number (Called call))
  gave_of = lines_gave old.ends end.system entity.own number (Called call) m.events aside made is_aside made_is

  goes : stop_of o.stage ≡ None
  goes = call_goes o.base o.stage call allowed

  -- another end takes it
  leaves_other : (x y : ℕ) (f : AreFacing old x y) → (end.system ≡ f.own.system → end.reference ≢ f.own.reference) → Leaves old x y f end.system entity acted
  leaves_other x y f apart = row_leaves link titles timers w journal old explains going x y f end.system entity there end.reference o (Called call) stands goes tt tt (allowed, proper) (λ named. named) apart (Some (end_of m))

  none_of : (x y : ℕ) (f : AreFacing old x y) → (end.system ≡ f.own.system → end.reference ≢ f.own.reference) → submitted x made ≡ []
  none_of x y f apart =
      gave_of x
      ∙ first_gives_none x number (Called call)
      (λ same. row_apart link titles timers w journal old explains going x y f end.system entity there end.reference o (Called call) stands goes tt tt (allowed, proper) (λ named. named) apart (same ∙ sym number_is))

  module _ (x y : ℕ) (p : Pair) (f : IsFollowed link journal old [] x y p) (live : IsLive p.calling.stage) (live_there : IsLive p.called.stage) where
    abbrev mine : AreFacing old x y
    mine = facing_calling link journal old new made done [] x y p f live live_there

    abbrev theirs : AreFacing old y x
    theirs = facing_called link journal old new made done [] x y p f live live_there

    -- the calling end takes it
    module _ (at_it : end.system ≡ f.calling.system) (at_reference : end.reference ≡ f.calling.reference) where
      owner : entity ≡ f.calling.entity
      owner = same_Some entity f.calling.entity (sym there ∙ ap (entity_at old.entities) at_it ∙ f.calling.is_end.there)

      end_is : o ≡ p.calling
      end_is = same_Some o p.calling (sym stands ∙ (λ i. end_at (owner i) (at_reference i)) ∙ f.calling.is_end.stands)

      row_is : m ≡ stepped whole now p.calling (Called call)
      row_is = ap (λ (z : End). stepped whole now z (Called call)) end_is

      number_here : number ≡ x
      number_here = sym number_is ∙ (λ i. latest old.ends (at_it i) (at_reference i)) ∙ f.calling.is_end.number

      stands_so : end_at acted.entity f.calling.reference ≡ Some (end_of (stepped whole now p.calling (Called call)))
      stands_so =
          let inside = within entity end.reference o stands in
          ap (end_at acted.entity) (sym at_reference) ∙ at_same (at now entity) end.reference (Some (end_of m)) inside.least inside.most ∙ ap (λ (z : Moved). Some (end_of z)) row_is

      leaves_there : Leaves old y x theirs end.system entity acted
      leaves_there = leaves_other y x theirs (λ s r. at_two old x y end.system end.reference p.calling p.called f.calling f.called f.apart at_it at_reference s r)

      gave_here : submitted x made ≡ given (Called call)
      gave_here = gave_of x ∙ ap (λ (n : ℕ). submitted n (first_of number (Called call))) (sym number_here) ∙ first_gives number (Called call)

      gave_there : submitted y made ≡ []
      gave_there = gave_of y ∙ first_gives_none y number (Called call) (λ same. f.apart (sym number_here ∙ sym same))

      may : call_refusal p.calling.base p.calling.stage call ≡ None
      may = ap (λ (z : End). call_refusal z.base z.stage call) (sym end_is) ∙ allowed

      calling_takes : IsFollowed link (journal ++ made) new (posted end.system m.tpdus) x y (asks_calling p call)
      calling_takes = subst (λ (n : ℕ). IsFollowed link (journal ++ made) new (posted end.system m.tpdus) x y (calling_does p (stepped whole n p.calling (Called call)) (given (Called call)))) (sym f.clock)
          (calling_did link journal old new made done [] x y p f live live_there titles timers w explains (Called call) tt at_it stands_so (ap (λ (z : Moved). z.events) row_is) (ap (λ (z : Moved). z.tpdus) row_is) leaves_there
          (given (Called call)) gave_here gave_there)

    -- neither does
    takes_beside : (end.system ≡ f.calling.system → end.reference ≢ f.calling.reference) → (end.system ≡ f.called.system → end.reference ≢ f.called.reference)
        → IsFollowed link (journal ++ made) new (posted end.system m.tpdus) x y p
    takes_beside not_calling not_called =
        beside link journal old new made done [] x y p f live live_there (leaves_other x y mine not_calling) (leaves_other y x theirs not_called) (none_of x y mine not_calling) (none_of y x theirs not_called)

  abbrev lines : List JournalEvent
  lines = events_after old.ends end.system entity.own m.events

  -- the pair by it
  pub call_moves : (x y : ℕ) (p : Pair) → IsFollowed link journal old [] x y p → IsLive p.calling.stage → IsLive p.called.stage → HasMoved link journal made new (posted end.system m.tpdus) x y p
  call_moves x y p f live live_there = elim (at_place end.system end.reference f.calling.system f.calling.reference) [
    | inl calling ↦ record {
      happenings = Asks_calling call ∷ [];
      next = asks_calling p call;
      leads = ((idle_of link journal old x y p f, may x y p f live live_there calling.0 calling.1), refl);
      ticked = tt;
      told = (call_told made number x call (lines ++ aside) made_is (number_here x y p f live live_there calling.0 calling.1), tt);
      goes = inl (calling_takes x y p f live live_there calling.0 calling.1);
    }
    | inr not_calling ↦ elim (at_place end.system end.reference f.called.system f.called.reference) [
      | inl called ↦
          let back : IsFollowed link journal old [] y x (turn p) = turned link journal old [] x y p f in
          record {
            happenings = Asks_called call ∷ [];
            next = asks_called p call;
            leads = ((idle_of link journal old x y p f, may y x (turn p) back live_there live called.0 called.1), refl);
            ticked = tt;
            told = (call_told made number y call (lines ++ aside) made_is (number_here y x (turn p) back live_there live called.0 called.1), tt);
            goes = inl (turned link (journal ++ made) new (posted end.system m.tpdus) y x (asks_calling (turn p) call) (calling_takes y x (turn p) back live_there live called.0 called.1));
          }
      | inr not_called ↦ record {
        happenings = [];
        next = p;
        leads = refl;
        ticked = tt;
        told = tt;
        goes = inl (takes_beside x y p f live live_there not_calling not_called);
      }
    ]
  ]

-- ---- a connect

module _ {C : Type 0} (link : C → Link (List ℕ)) (journal : List JournalEvent) (old new : World C) (made : List JournalEvent) (system : ℕ) (entity : Entity) (there : entity_at old.entities system ≡ Some entity)
    (request : ConnectRequest) (reference : ℕ) (free : least_free (link old.carrier).clock entity ≡ Some reference) (aside : List JournalEvent) (is_aside : IsAside aside)
    (entities : new.entities ≡ with_entity old.entities system (connecting (link old.carrier).clock entity reference request).entity)
    (ends : new.ends ≡ old.ends ++ record { system = system; reference = reference } ∷ []) (clock : (link new.carrier).clock ≡ (link old.carrier).clock) (number : ℕ)
    (made_is : made ≡ connect_event number system reference entity.own request ∷ aside) where
  abbrev begin_now : ℕ
  begin_now = (link old.carrier).clock

  abbrev place : EndAt
  place = record { system = system; reference = reference }

  -- the new end was made
  abbrev begins : World C
  begins = record old { ends = old.ends ++ place ∷ [] }

  abbrev begin_acted : Acted
  begin_acted = connecting begin_now entity reference request

  abbrev begin_done : HasDone link begins new made
  begin_done = record {
    system = system;
    entity = entity;
    there = there;
    acted = begin_acted;
    kept = refl;
    entities = entities;
    ends = ends;
    clock = clock;
    showed = λ n. ap (shown n) made_is ∙ (is_aside.units n).1;
  }

  none_new : (n : ℕ) → submitted n made ≡ []
  none_new n = ap (submitted n) made_is ∙ (is_aside.units n).0

  module _ (x : ℕ) (e : End) (s : Stands old x e) (live : IsLive e.stage) where
    new_owner : system ≡ s.system → s.entity ≡ entity
    new_owner here = same_Some s.entity entity (sym s.is_end.there ∙ ap (entity_at old.entities) (sym here) ∙ there)

    apart : system ≡ s.system → reference ≡ s.reference → ⊥
    apart here same =
        kept_place begin_now (frozen_for e.base.timers) e.stage (live_goes e.stage live)
        (ap (is_free_place begin_now) (sym s.is_end.stands ∙ (λ i. end_at (new_owner here i) (sym same i))) ∙ (free_least begin_now reference entity free).free)

    abbrev stands_on : Stands begins x e
    stands_on = record {
      system = s.system;
      reference = s.reference;
      entity = s.entity;
      is_end = record { there = s.is_end.there; stands = s.is_end.stands; number = latest_elsewhere old.ends place s.system s.reference (λ at same. apart (sym at) (sym same)) ∙ s.is_end.number };
    }

    leaves_new : (y : ℕ) (theirs : End) (t : Stands begins y theirs) (live_there : IsLive theirs.stage) (to_is : e.base.to ≡ t.entity.own) (partner_is : e.base.partner ≡ t.reference)
        → Leaves begins x y (facing link journal begins new made begin_done x y e theirs stands_on t live live_there to_is partner_is) system entity begin_acted
    leaves_new y theirs t live_there to_is partner_is = record {
      same = λ here.
          at_other (at begin_now entity) reference s.reference (Some (end_of (connected begin_now (call_of entity reference request)))) (free_least begin_now reference entity free).least (λ same. apart here (sym same))
          ∙ ap (λ (z : Entity). end_at z s.reference) (sym (new_owner here)) ∙ s.is_end.stands;
      none = λ here. ((λ sent. absurd (none-some t.reference sent.target)), tt);
      number = stands_on.is_end.number;
      showed = refl;
      named = λ here. ((λ names. apart here names), tt);
      sourced = ((λ kind. absurd (cc kind)), tt);
    }

  module _ (x y : ℕ) (p : Pair) (f : IsFollowed link journal old [] x y p) (live : IsLive p.calling.stage) (live_there : IsLive p.called.stage) where
    abbrev begun : IsFollowed link journal begins [] x y p
    begun = record {
      calling = stands_on x p.calling f.calling live;
      called = stands_on y p.called f.called live_there;
      forth = record {
        to_is = f.forth.to_is;
        partner_is = f.forth.partner_is;
        waits_are = f.forth.waits_are;
        spoken = f.forth.spoken;
        named = tt;
        gave_is = f.forth.gave_is;
        showed_is = f.forth.showed_is;
      };
      back = record {
        to_is = f.back.to_is;
        partner_is = f.back.partner_is;
        waits_are = f.back.waits_are;
        spoken = f.back.spoken;
        named = tt;
        gave_is = f.back.gave_is;
        showed_is = f.back.showed_is;
      };
      apart = f.apart;
      format = f.format;
      clock = f.clock;
      sourced = tt;
    }

    followed : IsFollowed link (journal ++ made) new (posted system begin_acted.tpdus) x y p
    followed = beside link journal begins new made begin_done [] x y p begun live live_there
        (leaves_new x p.calling f.calling live y p.called (stands_on y p.called f.called live_there) live_there f.forth.to_is f.forth.partner_is)
        (leaves_new y p.called f.called live_there x p.calling (stands_on x p.calling f.calling live) live f.back.to_is f.back.partner_is) (none_new x) (none_new y)

    pub connect_moves : HasMoved link journal made new (posted system begin_acted.tpdus) x y p
    connect_moves = record { happenings = []; next = p; leads = refl; ticked = tt; told = tt; goes = inl followed }
