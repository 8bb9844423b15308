-- What comes to an entity, and is not for an end from its partner, leaves the number of that end and its units as they are, and is answered in no name of that end.
use Rattle.std.proofs.Common.{◌≡◌, ◌≢◌, ℕ, ◌+◌, Bool, true, List, [], ◌∷◌, Some, None, refl, sym, ◌∙◌, ap, subst, arith}
use Rattle.std.specs.Prelude.{nat_eq}
use Rattle.std.specs.List.{AllByRecursion}
use Rattle.std.specs.Cmp.Lexicographic.{bytes_decides, pointwise}
use Rattle.std.proofs.lemmas.Option.{none-some, same_Some}
use Rattle.osi_base.specs.Link.{Link}
use Rattle.script_journal.specs.Lawful.{shown}
use Rattle.script_journal.specs.declared.event.Event.{Event as JournalEvent}
use Rattle.tpdu.specs.Values.{destination_of, format_for}
use Rattle.tpdu.specs.Writing.{IsAllowed}
use Rattle.tpdu.specs.declared.tpdu.Format.{Format}
use Rattle.tpdu.specs.declared.tpdu.Tpdu.{Tpdu as WireTpdu}
use Rattle.tp4_number.specs.Number.{whole}
use Rattle.tp4_flow.specs.declared.step.EndEvent.{EndEvent}
use Rattle.tp4_flow.specs.declared.step.Sent.{Sent}
use Rattle.tp4_conn.specs.End.{End, Moved, agreed_format, frozen_for}
use Rattle.tp4_conn.specs.Making.{indicated}
use Rattle.tp4_conn.specs.Matching.{fits, is_match}
use Rattle.tp4_conn.specs.Table.{Took, stepped}
use Rattle.tp4_conn.specs.declared.end_record.EndRecord.{EndRecord}
use Rattle.tp4_conn.specs.declared.timers.Timers.{Timers}
use Rattle.tp4_entity.specs.Association.{met}
use Rattle.tp4_entity.specs.Entity.{Acted, Entity, at, end_at, moved}
use Rattle.tp4_entity.specs.References.{is_free_place}
use Rattle.tp4_entity.specs.Unit.{extended_of}
use Rattle.tp4_entity.specs.steps.Places.{format_of}
use Rattle.tp4_entity.proofs.Formats.{format_is}
use Rattle.tp4_entity.proofs.Standings.{Free}
use Rattle.law_tp4_history.specs.Tracks.{Whole}
use Rattle.law_tp4_history.specs.Moves.{HasSource, IsSourced, Sees, times_of}
use Rattle.law_tp4_history.specs.Seen.{seen}
use Rattle.tp4_world.specs.Telling.{ends_after, events_after}
use Rattle.tp4_world.specs.World.{World, entity_at, latest}
use Rattle.tp4_world.specs.declared.place.EndAt.{EndAt}
use Rattle.law_tp4_lawful.proofs.Known.{IsKnown, IsThere}
use Rattle.law_tp4_lawful.proofs.Worlds.{Explains}
use Rattle.law_tp4_lawful.proofs.Acts.{stage_of}
use Rattle.law_tp4_lawful.proofs.ActsRows.{AreTold, row_of}
use Rattle.law_tp4_lawful.proofs.ActsTold.{ends_stay, others_show_none}
use Rattle.law_tp4_lawful.proofs.FramesKnown.{number_at}
pub use Rattle.law_calm_run.proofs.Newest.{latest_elsewhere}
use Rattle.law_recovery_run.specs.Aside.{AreFacing, Names}
use Rattle.law_recovery_run.proofs.Aiming.{Going}
use Rattle.law_recovery_run.proofs.Aside.{both_are, going_of, kept_place}
use Rattle.law_recovery_run.proofs.Meeting.{IsAnswer, TellNone, met_cases}
use Rattle.law_recovery_run.proofs.Rivals.{far, sound}
use Rattle.law_recovery_run.proofs.Naming.{row_named, row_sourced}

module _ {C : Type 0} (link : C → Link (List ℕ)) (titles : List (List ℕ)) (timers : Timers) (w : Whole) (journal : List JournalEvent) (last : World C) (explains : Explains link titles timers w journal last)
    (going : Going) (x y : ℕ) (f : AreFacing last x y) (system : ℕ) (entity : Entity) (there : entity_at last.entities system ≡ Some entity) where
  abbrev now : ℕ
  now = (link last.carrier).clock

  abbrev e : Entity
  e = at now entity

  abbrev r : ℕ
  r = f.own.reference

  some : r ≢ 0
  some none = none-some f.own.end (ap (end_at f.own.entity) (sym none) ∙ f.own.is_end.stands)

  -- the end has its number still, shows nothing, and nothing is said in its name; and each CC that is sent has a source
  pub record IsUntold (acted : Acted) : Type 0 where
    pub number : latest (ends_after last.ends system acted.events) f.own.system f.own.reference ≡ x
    pub showed : shown x (events_after last.ends system entity.own acted.events) ≡ []
    pub named : system ≡ f.own.system → AllByRecursion (λ (sent : Sent). Names f.own.reference sent.tpdu → ⊥) acted.tpdus
    pub sourced : AllByRecursion (λ (sent : Sent). HasSource (seen 0 sent.tpdu)) acted.tpdus

  -- ---- an end takes it

  module _ (from : List ℕ) (t : WireTpdu) (sum : Bool) (other : system ≡ f.own.system → from ≡ f.theirs.entity.own → destination_of t ≡ Some f.own.reference → ⊥)
      (allowed : IsAllowed (format_for (extended_of entity) (destination_of t)) t) (sourced : IsSourced 0 (Took t sum)) where
    taken : (reference : ℕ) (o : End) → destination_of t ≡ Some reference → end_at entity reference ≡ Some o → is_match o.base o.stage from t ≡ true → IsUntold (moved e reference (stepped whole now o (Took t sum)))
    taken reference o target stands match = record {
      number = ap (λ (es : List EndAt). latest es f.own.system f.own.reference) (ends_stay system entity.own last.ends reference m.events told) ∙ f.own.is_end.number;
      showed = others_show_none system entity.own reference (known.k + 1) x last.ends m.events apart told at_number;
      named = λ here. row_named going now (times_of o.base.timers) (w.base.end known.k) o (Took t sum) sees stop is.1 sourced known.proper may r some
          (λ same. apart_by here (sym known.at.reference_is ∙ same));
      sourced = row_sourced going now (times_of o.base.timers) (w.base.end known.k) o (Took t sum) sees stop is.1 sourced known.proper may
          ((sound link titles timers w journal last explains).own known.k known.at.low).some;
    }
      where
        m : Moved
        m = stepped whole now o (Took t sum)

        is : (pointwise nat_eq o.base.to from ≡ true) × (fits o.base o.stage t ≡ true)
        is = both_are _ _ match

        to_is : o.base.to ≡ from
        to_is = (bytes_decides o.base.to from).0 is.0

        known : IsKnown w entity.own reference o
        known = subst (IsThere w entity.own reference) stands ((explains.known.holds system entity there).there reference)

        sees : Sees (times_of o.base.timers) now (w.base.end known.k) o
        sees = subst (λ (n : ℕ). Sees (times_of o.base.timers) n (w.base.end known.k) o) (sym explains.carries.clock) known.sees

        stop : (w.base.end known.k).stop ≡ None
        stop = known.sees.stop ∙ going_of o.base o.stage t is.1

        may : IsAllowed (agreed_format o.base.agreed) t
        may = subst (λ (format : Format). IsAllowed format t) (ap (format_for (extended_of entity)) target ∙ format_is entity reference ∙ ap format_of stands) allowed

        own_is : o.base.own ≡ reference
        own_is = sym known.sees.reference ∙ known.at.reference_is

        told : AreTold reference m.events
        told = subst (λ (n : ℕ). AreTold n m.events) own_is
            (row_of whole now o.base.own o (Took t sum) (refl, stage_of (w.base.end known.k).birth (w.base.end known.k).took (w.base.end known.k).latest o.base o.stage known.sees.state)).told

        at_number : latest last.ends system reference ≡ known.k + 1
        at_number = number_at titles timers w journal last.entities last.ends explains.known system entity reference known.k there known.at

        -- it is not this end
        apart_by : system ≡ f.own.system → reference ≢ r
        apart_by here same =
            let owner : entity ≡ f.own.entity = same_Some entity f.own.entity (sym there ∙ ap (entity_at last.entities) here ∙ f.own.is_end.there) in
            let it : o ≡ f.own.end = same_Some o f.own.end (sym stands ∙ (λ i. end_at (owner i) (same i)) ∙ f.own.is_end.stands) in
            other here (sym to_is ∙ ap (λ (z : End). z.base.to) it ∙ f.to_is) (target ∙ ap (λ (n : ℕ). Some n) same)

        mine : (is : IsKnown w f.own.entity.own f.own.reference f.own.end) × (is.k + 1 ≡ x)
        mine = far link titles timers w journal last explains x f.own

        apart : x ≢ known.k + 1
        apart same =
            let k_is : mine.0.k ≡ known.k = omega (arith, mine.1, same) in
            let address : entity.own ≡ f.own.entity.own = sym known.at.address ∙ ap (λ (n : ℕ). (w.base.end n).birth.address) (sym k_is) ∙ mine.0.at.address in
            let reference_is : reference ≡ r = sym known.at.reference_is ∙ ap (λ (n : ℕ). (w.base.end n).birth.reference) (sym k_is) ∙ mine.0.at.reference_is in
            apart_by (explains.known.apart system f.own.system entity f.own.entity there f.own.is_end.there address) reference_is

    -- ---- and whatever else it does

    unmade : (events : List EndEvent) → TellNone events → latest (ends_after last.ends system events) f.own.system f.own.reference ≡ x
    unmade events none = ap (λ (es : List EndAt). latest es f.own.system f.own.reference) (none.ends last.ends system) ∙ f.own.is_end.number

    nothing : (events : List EndEvent) → TellNone events → IsUntold (record { entity = e; events = events; tpdus = [] })
    nothing events none = record { number = unmade events none; showed = none.showed last.ends system entity.own x; named = λ _. tt; sourced = tt }

    answered : (events : List EndEvent) (sent : Sent) → TellNone events → IsAnswer from t sent → IsUntold (record { entity = e; events = events; tpdus = sent ∷ [] })
    answered events sent none a = record { number = unmade events none; showed = none.showed last.ends system entity.own x; named = λ _. (a.unnamed r some, tt); sourced = (a.sourced, tt) }

    made : (reference : ℕ) (base : EndRecord) (octets : List ℕ) → Free now reference e → base.own ≡ reference → IsUntold (moved e reference (indicated base octets))
    made reference base octets free own = record {
      number = latest_elsewhere last.ends (record { system = system; reference = base.own }) f.own.system f.own.reference (λ here same.
          let owner : entity ≡ f.own.entity = same_Some entity f.own.entity (sym there ∙ ap (entity_at last.entities) (sym here) ∙ f.own.is_end.there) in
          kept_place now (frozen_for f.own.end.base.timers) f.own.end.stage f.own.goes
          (ap (is_free_place now) (sym f.own.is_end.stands ∙ (λ i. end_at (sym owner i) ((same ∙ own) i))) ∙ free.free)) ∙ f.own.is_end.number;
      showed = refl;
      named = λ _. tt;
      sourced = tt;
    }

    pub untold : IsUntold (met whole now e from (t, sum))
    untold = met_cases now e from t sum IsUntold nothing answered taken made
