-- A row of another end of an entity, whatever it is for, leaves an end as it is, and sends nothing to its partner; and a row of the end itself sends to its partner alone.
use Rattle.std.proofs.Common.{◌≡◌, ◌≢◌, ◌⊎◌, inl, inr, ℕ, ◌+◌, List, [], Option, Some, None, refl, sym, ◌∙◌, ap, subst, arith}
use Rattle.std.proofs.lemmas.Option.{none-some, same_Some}
use Rattle.osi_base.specs.Link.{Link}
use Rattle.script_journal.specs.declared.event.Event.{Event as JournalEvent}
use Rattle.tp4_number.specs.Number.{whole}
use Rattle.tp4_flow.specs.declared.step.EndEvent.{EndEvent}
use Rattle.tp4_flow.specs.declared.step.Sent.{Sent}
use Rattle.tp4_conn.specs.End.{End, Moved}
use Rattle.tp4_conn.specs.Living.{IsFit}
use Rattle.tp4_conn.specs.Proper.{IsProperEvent}
use Rattle.tp4_conn.specs.Table.{Event, Ticked, at as base_at, on_tick, stepped}
use Rattle.tp4_conn.specs.declared.states.StateData.{StateData}
use Rattle.tp4_conn.specs.declared.states.StateData.TheVariants as stages
use Rattle.tp4_conn.specs.declared.timers.Timers.{Timers}
use Rattle.tp4_entity.specs.Entity.{Entity, at, end_at, with_end}
use Rattle.tp4_entity.proofs.Standings.{within}
use Rattle.law_tp4_history.specs.Tracks.{Whole}
use Rattle.law_tp4_history.proofs.Meets.{swap}
use Rattle.law_tp4_history.proofs.Sound.{one_partner}
use Rattle.law_tp4_history.specs.Moves.{IsSourced, Sees, stop_of, times_of}
use Rattle.tp4_world.specs.World.{World, entity_at, latest}
use Rattle.tp4_world.specs.declared.place.EndAt.{EndAt}
use Rattle.law_tp4_lawful.proofs.Known.{IsKnown, IsThere}
use Rattle.law_tp4_lawful.proofs.Worlds.{Explains}
use Rattle.law_tp4_lawful.proofs.Acts.{stage_of}
use Rattle.law_tp4_lawful.proofs.ActsRows.{AreTold, row_of}
use Rattle.law_tp4_lawful.proofs.ActsTold.{ends_stay, others_show_none}
use Rattle.law_tp4_lawful.proofs.FramesKnown.{number_at}
use Rattle.law_tp4_lawful.proofs.MakesPlaces.{at_other}
use Rattle.law_recovery_run.specs.Aside.{AreFacing}
use Rattle.law_recovery_run.specs.Rivals.{IsFor}
use Rattle.law_recovery_run.proofs.Aiming.{Going}
use Rattle.law_recovery_run.proofs.Rivals.{far, here, partner_there, sound}
use Rattle.law_recovery_run.proofs.Leaving.{Leaves}
use Rattle.law_recovery_run.proofs.Naming.{NamedBy, row_aims, row_named, row_sourced}

pub frozen_of : (stage : StateData) (when : ℕ) → stop_of stage ≡ Some when → stage ≡ stages.Frozen when
frozen_of (stages.Frozen at) when is = ap (λ (n : ℕ). stages.Frozen n) (same_Some at when is)
frozen_of other when is = absurd (none-some when is)

module _ {C : Type 0} (link : C → Link (List ℕ)) (titles : List (List ℕ)) (timers : Timers) (w : Whole) (journal : List JournalEvent) (last : World C) (explains : Explains link titles timers w journal last)
    (going : Going) (x y : ℕ) (f : AreFacing last x y) (system : ℕ) (entity : Entity) (there : entity_at last.entities system ≡ Some entity) where
  abbrev now : ℕ
  now = (link last.carrier).clock

  abbrev r : ℕ
  r = f.own.reference

  some : r ≢ 0
  some none = none-some f.own.end (ap (end_at f.own.entity) (sym none) ∙ f.own.is_end.stands)

  owner : system ≡ f.own.system → f.own.entity ≡ entity
  owner here = same_Some f.own.entity entity (sym f.own.is_end.there ∙ ap (entity_at last.entities) (sym here) ∙ there)

  abbrev mine : IsFor last x f.theirs.entity.own f.theirs.reference
  mine = record { going = f.own; to_is = f.to_is; partner_is = f.partner_is }

  -- another end of the network for the same partner is the same end
  only : (reference : ℕ) (o : End) → end_at entity reference ≡ Some o → stop_of o.stage ≡ None → o.base.to ≡ f.theirs.entity.own → o.base.partner ≡ f.theirs.reference → reference ≡ r
  only reference o stands goes to_is partner_is =
      let z : ℕ = latest last.ends system reference in
      let rival : IsFor last z f.theirs.entity.own f.theirs.reference = record {
        going = record { system = system; reference = reference; entity = entity; end = o; is_end = record { there = there; stands = stands; number = refl }; goes = goes };
        to_is = to_is;
        partner_is = partner_is;
      } in
      let one = partner_there link titles timers w journal last explains x y f.theirs mine in
      let two = partner_there link titles timers w journal last explains z y f.theirs rival in
      let k = (here link titles timers w journal last explains x y f.theirs mine).0 in
      let k_other = (here link titles timers w journal last explains z y f.theirs rival).0 in
      let j = (far link titles timers w journal last explains y f.theirs).0.k in
      let same : k_other.k ≡ k.k = one_partner (times_of timers) w.base (sound link titles timers w journal last explains) j k_other.k k.k (swap w.base k_other.k j two) (swap w.base k.k j one) in
      sym k_other.at.reference_is ∙ ap (λ (n : ℕ). (w.base.end n).birth.reference) same ∙ k.at.reference_is

  -- a row of an end that is another one, by its user or its timers
  module _ (reference : ℕ) (o : End) (event : Event) (stands : end_at entity reference ≡ Some o) (goes : stop_of o.stage ≡ None) (fit : IsFit o event) (sourced : IsSourced 0 event) (may : IsProperEvent o event)
      (unnamed : NamedBy event f.theirs.reference → ⊥) (apart : system ≡ f.own.system → reference ≢ r) where
    abbrev m : Moved
    m = stepped whole now o event

    known : IsKnown w entity.own reference o
    known = subst (IsThere w entity.own reference) stands ((explains.known.holds system entity there).there reference)

    sees : Sees (times_of o.base.timers) now (w.base.end known.k) o
    sees = subst (λ (n : ℕ). Sees (times_of o.base.timers) n (w.base.end known.k) o) (sym explains.carries.clock) known.sees

    stop : (w.base.end known.k).stop ≡ None
    stop = known.sees.stop ∙ goes

    own_is : o.base.own ≡ reference
    own_is = sym known.sees.reference ∙ known.at.reference_is

    told : AreTold reference m.events
    told = subst (λ (n : ℕ). AreTold n m.events) own_is
        (row_of whole now o.base.own o event (refl, stage_of (w.base.end known.k).birth (w.base.end known.k).took (w.base.end known.k).latest o.base o.stage known.sees.state)).told

    at_number : latest last.ends system reference ≡ known.k + 1
    at_number = number_at titles timers w journal last.entities last.ends explains.known system entity reference known.k there known.at

    own_known : (is : IsKnown w f.own.entity.own f.own.reference f.own.end) × (is.k + 1 ≡ x)
    own_known = far link titles timers w journal last explains x f.own

    other_number : x ≢ known.k + 1
    other_number same =
        let k_is : own_known.0.k ≡ known.k = omega (arith, own_known.1, same) in
        let address : entity.own ≡ f.own.entity.own = sym known.at.address ∙ ap (λ (n : ℕ). (w.base.end n).birth.address) (sym k_is) ∙ own_known.0.at.address in
        let reference_is : reference ≡ r = sym known.at.reference_is ∙ ap (λ (n : ℕ). (w.base.end n).birth.reference) (sym k_is) ∙ own_known.0.at.reference_is in
        apart (explains.known.apart system f.own.system entity f.own.entity there f.own.is_end.there address) reference_is

    pub row_apart : x ≢ latest last.ends system reference
    row_apart same = other_number (same ∙ at_number)

    bad : system ≡ f.own.system → o.base.to ≡ f.theirs.entity.own → (o.base.partner ≡ f.theirs.reference) ⊎ NamedBy event f.theirs.reference → ⊥
    bad at_here to (inl partner) = apart at_here (only reference o stands goes to partner)
    bad at_here to (inr named) = unnamed named

    pub row_leaves : (place : Option End) → Leaves last x y f system entity (record { entity = with_end (at now entity) reference place; events = m.events; tpdus = m.tpdus })
    row_leaves place = record {
      same = λ at_here.
          at_other (at now entity) reference r place (within entity reference o stands).least (λ same. apart at_here (sym same)) ∙ ap (λ (z : Entity). end_at z r) (sym (owner at_here)) ∙ f.own.is_end.stands;
      none = λ at_here. row_aims going now (times_of o.base.timers) (w.base.end known.k) o event sees stop fit sourced known.proper may f.theirs.entity.own f.theirs.reference (bad at_here);
      number = ap (λ (es : List EndAt). latest es f.own.system f.own.reference) (ends_stay system entity.own last.ends reference m.events told) ∙ f.own.is_end.number;
      showed = others_show_none system entity.own reference (known.k + 1) x last.ends m.events other_number told at_number;
      named = λ at_here. row_named going now (times_of o.base.timers) (w.base.end known.k) o event sees stop fit sourced known.proper may r some
          (λ same. apart at_here (sym known.at.reference_is ∙ same));
      sourced = row_sourced going now (times_of o.base.timers) (w.base.end known.k) o event sees stop fit sourced known.proper may
          ((sound link titles timers w journal last explains).own known.k known.at.low).some;
    }

  -- ---- a tick

  -- an end that does nothing stays, or is taken out
  still_leaves : (reference : ℕ) (o : End) → end_at entity reference ≡ Some o → (system ≡ f.own.system → reference ≢ r) → (place : Option End) (m : Moved) → m.events ≡ [] → m.tpdus ≡ []
      → Leaves last x y f system entity (record { entity = with_end (at now entity) reference place; events = m.events; tpdus = m.tpdus })
  still_leaves reference o stands apart place m none quiet =
      subst (λ (es : List EndEvent). Leaves last x y f system entity (record { entity = with_end (at now entity) reference place; events = es; tpdus = m.tpdus })) (sym none)
      (subst (λ (ts : List Sent). Leaves last x y f system entity (record { entity = with_end (at now entity) reference place; events = []; tpdus = ts })) (sym quiet)
      (record {
        same = λ at_here.
            at_other (at now entity) reference r place (within entity reference o stands).least (λ same. apart at_here (sym same)) ∙ ap (λ (z : Entity). end_at z r) (sym (owner at_here)) ∙ f.own.is_end.stands;
        none = λ at_here. tt;
        number = f.own.is_end.number;
        showed = refl;
        named = λ at_here. tt;
        sourced = tt;
      }))

  -- another end ticks, frozen or not
  pub tick_leaves : (reference : ℕ) (o : End) → end_at entity reference ≡ Some o → (system ≡ f.own.system → reference ≢ r) → (place : Option End)
      → Leaves last x y f system entity (record { entity = with_end (at now entity) reference place; events = (stepped whole now o Ticked).events; tpdus = (stepped whole now o Ticked).tpdus })
  tick_leaves reference o stands apart place = by (stop_of o.stage) refl
    where
      by : (stop : Option ℕ) → stop_of o.stage ≡ stop
          → Leaves last x y f system entity (record { entity = with_end (at now entity) reference place; events = (stepped whole now o Ticked).events; tpdus = (stepped whole now o Ticked).tpdus })
      by None goes = row_leaves reference o Ticked stands goes tt tt tt (λ named. named) apart place
      by (Some when) is =
          let frozen : o.stage ≡ stages.Frozen when = frozen_of o.stage when is in
          still_leaves reference o stands apart place (stepped whole now o Ticked) (ap (λ (s : StateData). (on_tick (base_at now o.base) s).events) frozen) (ap (λ (s : StateData). (on_tick (base_at now o.base) s).tpdus) frozen)
