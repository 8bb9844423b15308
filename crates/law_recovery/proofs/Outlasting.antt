-- An end that has left is not Opened again: whatever an entity does, at its place stands what a row left of it, or an end of a later number.
use Rattle.std.proofs.Common.{◌≡◌, inl, inr, ℕ, zero, suc, ◌+◌, ◌-◌, ◌≤◌, Bool, true, false, List, [], ◌∷◌, ◌++◌, length, get_or, slice_get, Option, Some, None, refl, sym, ◌∙◌, ap, subst, arith}
use Rattle.std.specs.Prelude.{if◌then◌else◌, not}
use Rattle.std.specs.List.{list_any}
use Rattle.std.proofs.Math.Dec.{eqb-suc-zero}
use Rattle.std.proofs.lemmas.Bool.{cases_eq, ne_eqb}
use Rattle.std.proofs.lemmas.Option.{same_Some, slice_get-get_or}
use Rattle.osi_base.specs.Link.{Link}
use Rattle.script_journal.specs.declared.event.Event.{Event as JournalEvent}
use Rattle.tpdu.specs.Values.{destination_of}
use Rattle.tpdu.specs.declared.tpdu.Tpdu.{Tpdu as WireTpdu}
use Rattle.tpdu.specs.declared.tpdu.Tpdu.TheVariants as wires
use Rattle.tp4_number.specs.Number.{whole}
use Rattle.tp4_conn.specs.End.{End, end_of}
use Rattle.tp4_conn.specs.Matching.{is_match}
use Rattle.tp4_conn.specs.Table.{Event, Took, stepped}
use Rattle.tp4_conn.specs.declared.timers.Timers.{Timers}
use Rattle.tp4_entity.specs.Association.{is_called, is_registered, met, met_at, met_by, new_end, requested, unmatched}
use Rattle.tp4_entity.specs.Entity.{Acted, Entity, at, end_at, moved, with_end}
use Rattle.tp4_entity.specs.References.{least_free}
use Rattle.tp4_entity.proofs.Standings.{free_least, within}
use Rattle.law_tp4_history.specs.Tracks.{Whole}
use Rattle.law_tp4_pair.specs.Standing.{HasLeft}
use Rattle.law_tp4_pair.proofs.Leaving.{stays_left}
use Rattle.tp4_world.proofs.Having.{with_first, with_other}
use Rattle.tp4_world.specs.World.{World, end_numbered, entity_at, latest, with_entity}
use Rattle.tp4_world.specs.declared.place.EndAt.{EndAt}
use Rattle.tp4_world.specs.declared.place.Placed.{Placed}
use Rattle.tp4_world.specs.Telling.{ends_after}
use Rattle.law_tp4_lawful.proofs.Acts.{stage_of}
use Rattle.law_tp4_lawful.proofs.ActsRows.{AreTold, row_of}
use Rattle.law_tp4_lawful.proofs.ActsTold.{ends_stay}
use Rattle.law_tp4_lawful.proofs.Known.{IsKnown, IsThere}
use Rattle.law_tp4_lawful.proofs.MakesPlaces.{at_other, at_same, latest_last}
use Rattle.law_tp4_lawful.proofs.ReferencesHalves.{known_at}
use Rattle.law_tp4_lawful.proofs.Worlds.{Explains}
use Rattle.law_tp4_associations.proofs.HeldPlaces.{number_low}
use Rattle.law_recovery_run.proofs.Aside.{either}
use Rattle.law_recovery_run.proofs.Beside.{latest_elsewhere}
use Rattle.law_recovery_run.specs.Following.{Stands}
use Rattle.law_recovery_run.specs.Over.{HasLeftAt, HasLeftEnd, KeepsLeft}

-- what an entity did to its places
pub data Kind (now : ℕ) (ends after : List EndAt) (system : ℕ) (entity changed : Entity) : Type 0 where
  Same : changed ≡ at now entity → after ≡ ends → Kind now ends after system entity changed
  Row : (reference : ℕ) (o : End) (event : Event) (place : Option End) → end_at entity reference ≡ Some o → ((e : End) → place ≡ Some e → e ≡ end_of (stepped whole now o event))
      → changed ≡ with_end (at now entity) reference place → after ≡ ends → Kind now ends after system entity changed
  New : (reference : ℕ) (place : Option End) → 1 ≤ reference → changed ≡ with_end (at now entity) reference place → after ≡ ends ++ record { system = system; reference = reference } ∷ []
      → Kind now ends after system entity changed

slice_within : (ends : List EndAt) (k : ℕ) (one more : EndAt) → slice_get ends k ≡ Some one → slice_get (ends ++ more ∷ []) k ≡ Some one
slice_within [] k one more is = absurd cc
slice_within (first ∷ ends) zero one more is = is
slice_within (first ∷ ends) (suc k) one more is = slice_within ends k one more is

-- the end of a number that is not 0
pub at_suc : (ends : List EndAt) (k : ℕ) → end_numbered ends (suc k) ≡ slice_get ends k
at_suc ends k = ap (λ (b : Bool). if b then None else slice_get ends (suc k - 1)) (eqb-suc-zero k) ∙ ap (slice_get ends) (omega arith)

numbered_on : (ends : List EndAt) (x : ℕ) (one more : EndAt) → end_numbered ends x ≡ Some one → end_numbered (ends ++ more ∷ []) x ≡ Some one
numbered_on ends zero one more is = absurd (cc is)
numbered_on ends (suc k) one more is = at_suc (ends ++ more ∷ []) k ∙ slice_within ends k one more (sym (at_suc ends k) ∙ is)

-- ---- what it comes to

module _ {C : Type 0} (old new : World C) (now system : ℕ) (entity changed : Entity) (there : entity_at old.entities system ≡ Some entity) (entities : new.entities ≡ with_entity old.entities system changed)
    (kind : Kind now old.ends new.ends system entity changed) (x s r : ℕ) (h : HasLeftAt old x s r) where
  made_on : Kind now old.ends new.ends system entity changed → end_numbered new.ends x ≡ Some (record { system = s; reference = r })
  made_on (Same is ends) = ap (λ (es : List EndAt). end_numbered es x) ends ∙ h.made
  made_on (Row reference o event place stands place_is is ends) = ap (λ (es : List EndAt). end_numbered es x) ends ∙ h.made
  made_on (New reference place least is ends) = ap (λ (es : List EndAt). end_numbered es x) ends ∙ numbered_on old.ends x _ _ h.made

  -- at another system
  number_away : (s ≡ system → ⊥) → latest new.ends s r ≡ x → Kind now old.ends new.ends system entity changed → latest old.ends s r ≡ x
  number_away apart number (Same is ends) = sym (ap (λ (es : List EndAt). latest es s r) ends) ∙ number
  number_away apart number (Row reference o event place stands place_is is ends) = sym (ap (λ (es : List EndAt). latest es s r) ends) ∙ number
  number_away apart number (New reference place least is ends) =
      sym (ap (λ (es : List EndAt). latest es s r) ends ∙ latest_elsewhere old.ends (record { system = system; reference = reference }) s r (λ at also. apart at)) ∙ number

  module _ (e : End) (number : latest new.ends s r ≡ x) where
    away : (s ≡ system → ⊥) → (entity_now : Entity) → entity_at new.entities s ≡ Some entity_now → end_at entity_now r ≡ Some e → HasLeft e.stage
    away apart entity_now at stands =
        h.left entity_now e (sym (ap (λ (ps : List Placed). entity_at ps s) entities ∙ with_other old.entities system s changed (ne_eqb s system apart)) ∙ at) stands (number_away apart number kind)

    module _ (same : s ≡ system) (stands_now : end_at changed r ≡ Some e) where
      there_so : entity_at old.entities s ≡ Some entity
      there_so = ap (entity_at old.entities) same ∙ there

      here : Kind now old.ends new.ends system entity changed → HasLeft e.stage
      here (Same is ends) = h.left entity e there_so (ap (λ (z : Entity). end_at z r) (sym is) ∙ stands_now) (sym (ap (λ (es : List EndAt). latest es s r) ends) ∙ number)
      here (Row reference o event place stands place_is is ends) = elim (cases_eq r reference) [
        | inl at_it ↦
            let inside = within entity reference o stands in
            let e_is : e ≡ end_of (stepped whole now o event) =
            place_is e (sym (at_same (at now entity) reference place inside.least inside.most) ∙ ap (end_at (with_end (at now entity) reference place)) (sym at_it) ∙ ap (λ (z : Entity). end_at z r) (sym is) ∙ stands_now) in
            let left : HasLeft o.stage = h.left entity o there_so (ap (end_at entity) at_it ∙ stands) (sym (ap (λ (es : List EndAt). latest es s r) ends) ∙ number) in
            subst (λ (z : End). HasLeft z.stage) (sym e_is) (stays_left now o event left)
        | inr apart ↦
            h.left entity e there_so (sym (at_other (at now entity) reference r place (within entity reference o stands).least apart) ∙ ap (λ (z : Entity). end_at z r) (sym is) ∙ stands_now)
            (sym (ap (λ (es : List EndAt). latest es s r) ends) ∙ number)
      ]
      here (New reference place least is ends) = elim (cases_eq r reference) [
        | inl at_it ↦
            let low : x ≤ length old.ends = number_low old.ends x (record { system = s; reference = r }) h.made in
            let last : latest new.ends s r ≡ length old.ends + 1 =
            ap (λ (es : List EndAt). latest es s r) ends ∙ (λ i. latest (old.ends ++ record { system = system; reference = reference } ∷ []) (same i) (at_it i)) ∙ latest_last old.ends system reference in
            absurd (omega (arith, low, last, number))
        | inr apart ↦
            h.left entity e there_so (sym (at_other (at now entity) reference r place least apart) ∙ ap (λ (z : Entity). end_at z r) (sym is) ∙ stands_now)
            (sym (ap (λ (es : List EndAt). latest es s r) ends ∙ latest_elsewhere old.ends (record { system = system; reference = reference }) s r (λ at also. apart also)) ∙ number)
      ]

  pub left_on : HasLeftAt new x s r
  left_on = record {
    made = made_on kind;
    left = λ entity_now e at stands number. elim (cases_eq s system) [
      | inl same ↦
          let is : changed ≡ entity_now =
          same_Some changed entity_now (sym (ap (λ (ps : List Placed). entity_at ps s) entities ∙ ap (entity_at (with_entity old.entities system changed)) same ∙ with_first old.entities system changed entity there) ∙ at) in
          here e number same (ap (λ (z : Entity). end_at z r) is ∙ stands) kind
      | inr apart ↦ away e number apart entity_now at stands
    ];
  }

-- ---- a TPDU that comes

module _ {C : Type 0} (link : C → Link (List ℕ)) (titles : List (List ℕ)) (timers : Timers) (w : Whole) (journal : List JournalEvent) (last : World C) (explains : Explains link titles timers w journal last)
    (system : ℕ) (entity : Entity) (there : entity_at last.entities system ≡ Some entity) where
  abbrev now : ℕ
  now = (link last.carrier).clock

  abbrev e : Entity
  e = at now entity

  -- the rows of an end that stands make no end
  pub row_stays : (reference : ℕ) (o : End) (event : Event) → end_at entity reference ≡ Some o → ends_after last.ends system (stepped whole now o event).events ≡ last.ends
  row_stays reference o event stands = ends_stay system entity.own last.ends reference (stepped whole now o event).events told
    where
      known : IsKnown w entity.own reference o
      known = subst (IsThere w entity.own reference) stands ((explains.known.holds system entity there).there reference)

      own_is : o.base.own ≡ reference
      own_is = sym known.sees.reference ∙ known.at.reference_is

      told : AreTold reference (stepped whole now o event).events
      told = subst (λ (n : ℕ). AreTold n (stepped whole now o event).events) own_is
          (row_of whole now o.base.own o event (refl, stage_of (w.base.end known.k).birth (w.base.end known.k).took (w.base.end known.k).latest o.base o.stage known.sees.state)).told

  abbrev IsKind : Acted → Type 0
  IsKind acted = Kind now last.ends (ends_after last.ends system acted.events) system entity acted.entity

  aside_kind : (from : List ℕ) (u : WireTpdu) → IsKind (unmatched e from u)
  aside_kind from (wires.Cc credit destination source width calling called size preferred extra version classes ack_time text) = Same refl refl
  aside_kind from other = Same refl refl

  module _ (from : List ℕ) (t : WireTpdu) (sum : Bool) where
    by_match : (reference : ℕ) (o : End) (b : Bool) → end_at entity reference ≡ Some o → IsKind (if b then moved e reference (stepped whole now o (Took t sum)) else unmatched e from t)
    by_match reference o true stands =
        Row reference o (Took t sum) (Some (end_of (stepped whole now o (Took t sum)))) stands (λ z is. sym (same_Some (end_of (stepped whole now o (Took t sum))) z is)) refl (row_stays reference o (Took t sum) stands)
    by_match reference o false stands = aside_kind from t

    by_place : (reference : ℕ) (place : Option End) → end_at entity reference ≡ place → IsKind (met_by whole now e from (t, sum) reference place)
    by_place reference None stands = aside_kind from t
    by_place reference (Some o) stands = by_match reference o (is_match o.base o.stage from t) stands

    by_destination : (target : Option ℕ) → IsKind (met_at whole now e from (t, sum) target)
    by_destination None = aside_kind from t
    by_destination (Some reference) = by_place reference (end_at entity reference) refl

    -- a CR
    made : (source : ℕ) (u : WireTpdu) (free : Option ℕ) → least_free now e ≡ free → IsKind (new_end now e from source u free)
    made source u None is = Same refl refl
    made source (wires.Cr credit from_reference width calling called size preferred extra version classes ack_time text) (Some reference) is = New reference _ (free_least now reference e is).least refl refl
    made source u (Some reference) is = Same refl refl

    asked : (source : ℕ) (called : List ℕ) (u : WireTpdu) → IsKind (requested now e from source called u)
    asked source called u =
        either IsKind (list_any (is_called false from source) e.ends) _ _ (Same refl refl)
        (either IsKind (list_any (is_called true from source) e.ends) _ _ (Same refl refl)
        (either IsKind (not (is_registered e.selectors called)) _ _ (Same refl refl) (made source u (least_free now e) refl)))

    by_kind : (u : WireTpdu) → u ≡ t → IsKind (met whole now e from (u, sum))
    by_kind (wires.Cr credit source width calling called size preferred extra version classes ack_time text) is =
        asked source called (wires.Cr credit source width calling called size preferred extra version classes ack_time text)
    by_kind u is = subst (λ (u : WireTpdu). IsKind (met_at whole now e from (u, sum) (destination_of u))) (sym is) (by_destination (destination_of t))

    pub met_kind : IsKind (met whole now e from (t, sum))
    met_kind = by_kind t refl

-- ---- an end that stands and has left

pub end_keeps : {C : Type 0} (old new : World C) (x : ℕ) → KeepsLeft old new → HasLeftEnd old x → HasLeftEnd new x
end_keeps {C} old new x keeps h = record { system = h.system; reference = h.reference; at = keeps x h.system h.reference h.at }

module _ {C : Type 0} (link : C → Link (List ℕ)) (titles : List (List ℕ)) (timers : Timers) (w : Whole) (journal : List JournalEvent) (last : World C) (explains : Explains link titles timers w journal last)
    (x : ℕ) (z : End) (s : Stands last x z) where
  known_here : (is : IsKnown w s.entity.own s.reference z) × (is.k + 1 ≡ x)
  known_here = known_at link titles timers w journal last explains x s.system s.entity s.reference z s.is_end

  abbrev at_k : EndAt
  at_k = get_or last.ends known_here.0.k (record { system = 0; reference = 0 })

  pub made_so : end_numbered last.ends x ≡ Some (record { system = s.system; reference = s.reference })
  made_so =
      let k : ℕ = known_here.0.k in
      let low = known_here.0.at.low in
      let count = explains.known.count in
      let got : slice_get last.ends k ≡ Some at_k = slice_get-get_or last.ends k (record { system = 0; reference = 0 }) (omega (arith, low, count)) in
      let listed = explains.known.listed k at_k got in
      let system_is : at_k.system ≡ s.system = explains.known.apart at_k.system s.system listed.entity s.entity listed.entity_is s.is_end.there (sym listed.address ∙ known_here.0.at.address) in
      let reference_is : at_k.reference ≡ s.reference = sym listed.reference ∙ known_here.0.at.reference_is in
      let after : x ≡ suc k = omega (arith, known_here.1) in
      ap (end_numbered last.ends) after ∙ at_suc last.ends k ∙ got ∙ (λ i. Some (record { system = system_is i; reference = reference_is i }))

  pub left_end : HasLeft z.stage → HasLeftEnd last x
  left_end left = record {
    system = s.system;
    reference = s.reference;
    at = record {
      made = made_so;
      left = λ entity v there stands number.
          let owner : entity ≡ s.entity = same_Some entity s.entity (sym there ∙ s.is_end.there) in
          let is : v ≡ z = same_Some v z (sym stands ∙ ap (λ (n : Entity). end_at n s.reference) owner ∙ s.is_end.stands) in
          subst (λ (n : End). HasLeft n.stage) (sym is) left;
    };
  }
