-- What a network with relays and its relays have in common as it starts: no end stands, nothing waits to be taken up, and the systems of the rows are there.
use Rattle.std.proofs.Common.{◌≡◌, ℕ, List, [], ◌∷◌, map, Some, sym, ◌∙◌, ap, subst, arith}
use Rattle.std.specs.Prelude.{IsSome}
use Rattle.std.specs.List.{AllByRecursion}
use Rattle.osi_base.specs.Link.{Link}
use Rattle.osi_base.specs.Calls.{Call}
use Rattle.script_journal.specs.declared.event.Event.{Event}
use Rattle.script_setup.specs.Fitting.{IsRelay, IsWell}
use Rattle.script_setup.specs.SetUp.{SetUp, timers_of, titles_of}
use Rattle.law_setup.specs.Entities.{entities_of}
use Rattle.script_setup.specs.declared.relay.RelayLine.{RelayLine}
use Rattle.script_setup.proofs.Entities.{are_timed}
use Rattle.law_setup.proofs.Peopled.{entities_new}
use Rattle.law_setup.proofs.Placing.{present}
use Rattle.tp4_conn.specs.End.{End}
use Rattle.tp4_conn.specs.declared.timers.Timers.{Timers}
use Rattle.tp4_entity.specs.Entity.{Entity, end_at}
use Rattle.law_tp4_lawful.proofs.WorldPlaces.{none_some}
use Rattle.law_tp4_lawful.proofs.WorldStarts.{found, no_end_at}
use Rattle.tp4_relay.specs.Kept.{nothing_kept}
use Rattle.tp4_relay.specs.declared.row.RelayRow.{RelayRow}
use Rattle.tp4_relay.specs.steps.Tables.{IsTidy}
use Rattle.tp4_world.specs.First.{IsNew}
use Rattle.tp4_world.specs.Run.{Starts}
use Rattle.tp4_world.specs.World.{World, entity_at}
use Rattle.tp4_world.specs.declared.place.Placed.{Placed}
use Rattle.law_relay.specs.Rows.{row_of, rows_of}
use Rattle.law_relay.specs.Services.{IsInOrder, has_system}
use Rattle.law_relay.proofs.Playing.{Plays}

-- no end stands at first
pub no_end : (setup : SetUp) (system : ℕ) (e : Entity) (reference : ℕ) (end : End) → entity_at (entities_of setup) system ≡ Some e → end_at e reference ≡ Some end → ⊥
no_end setup system e reference end is at =
    let new = found (IsNew (titles_of setup)) (entities_of setup) system e (entities_new setup) is in
    none_some end (sym (no_end_at new.one.entity new.holds.none reference) ∙ ap (λ (x : Entity). end_at x reference) new.entity_is ∙ at)

-- where nothing is kept, it is in order
pub nothing_tidy : (rows : List RelayRow) (rules : Timers) → IsTidy (nothing_kept rows rules)
nothing_tidy rows rules = record {
  rise = λ i j d less low. absurd (omega (arith, low));
  inbounds = λ i j d less low. absurd (omega (arith, low));
  outbounds = λ i j d less low. absurd (omega (arith, low));
  claimed = tt;
  unclaimed = tt;
  claims_named = tt;
  outbounds_named = tt;
}

module _ {N : Type 0} (link : N → Link (List ℕ)) (steps : N → Call (List ℕ) → N → Type 0) where
  pub first_order : (setup : SetUp) (net : N) (first : World N) (made : List Event) → Starts link steps net (entities_of setup) made first → IsInOrder link first
  first_order setup net first made s = subst (IsInOrder link) (sym s.becomes) (record {
    quiet = s.gathers.quiet;
    of = λ system e is reference end at. absurd (no_end setup system e reference end is at);
  })

  rows_there : (setup : SetUp) (first : World N) (relays : List RelayLine) → first.entities ≡ entities_of setup → AllByRecursion (IsRelay setup.systems) relays
      → AllByRecursion (λ (row : RelayRow). has_system first row.system) (map (row_of (titles_of setup)) relays)
  rows_there setup first [] entities all = tt
  rows_there setup first (relay ∷ relays) entities all =
      (subst (λ (placed : List Placed). IsSome (entity_at placed relay.system)) (sym entities) (present setup relay.system (all.0).own), rows_there setup first relays entities all.1)

  pub first_plays : (setup : SetUp) (net : N) (first : World N) (made : List Event) → IsWell setup → Starts link steps net (entities_of setup) made first
      → Plays link first (nothing_kept (rows_of setup) (timers_of setup.life setup.limits))
  first_plays setup net first made well s =
      let timed = are_timed setup.life setup.limits well.limits well.times.most_life in
      let entities : first.entities ≡ entities_of setup = ap (λ (w : World N). w.entities) s.becomes in
      let credit = timed.credit in
      record {
        order = first_order setup net first made s;
        linked = record {
          named = omega arith;
          tidy = record { claims_low = tt; outbounds = tt; inbounds = tt };
          of = (first_order setup net first made s).of;
          waits = λ system r e end is at. absurd (no_end setup system e r end (sym (ap (λ (placed : List Placed). entity_at placed system) entities) ∙ is) at);
        };
        has = rows_there setup first setup.relays entities well.relays;
        credit = omega (arith, credit);
        tidy = nothing_tidy (rows_of setup) (timers_of setup.life setup.limits);
      }
