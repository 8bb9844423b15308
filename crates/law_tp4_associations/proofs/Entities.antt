-- What an entity does at a tick passes so, whatever comes to it: each of its ends does its row, or is taken out where its time is over; and a new
-- one is made at a free reference, while the entity is not silent.
use Rattle.std.proofs.Common.{◌≡◌, inl, inr, ℕ, zero, suc, ◌-◌, ◌≤◌, ◌==◌, not, Bool, true, false, if◌then◌else◌, List, [], ◌∷◌, ◌++◌, length, slice_get, slice_set, Option, Some, None, refl, sym, ◌∙◌, ap, subst}
use Rattle.std.specs.List.{list_any}
use Rattle.std.proofs.lemmas.Bool.{cases_eq}
use Rattle.tpdu.specs.Values.{TpduAndSum}
use Rattle.tpdu.specs.Writing.{kind_for}
use Rattle.tpdu.specs.declared.tpdu.Tpdu.{Tpdu}
use Rattle.tpdu.specs.declared.tpdu.Tpdu.TheVariants as wires
use Rattle.tp4_number.proofs.Past.{if_kept}
use Rattle.tp4_flow.specs.declared.step.EndEvent.{EndEvent}
use Rattle.tp4_flow.specs.declared.step.What.{What}
use Rattle.tp4_flow.specs.declared.step.What.TheVariants as whats
use Rattle.tp4_conn.specs.declared.call.ConnectRequest.{ConnectRequest}
use Rattle.tp4_conn.specs.declared.call.UserCall.{UserCall}
use Rattle.tp4_conn.specs.Agreeing.{proposed_in}
use Rattle.tp4_conn.specs.End.{End, Moved, end_of}
use Rattle.tp4_conn.specs.Making.{called_end, connected, indicated}
use Rattle.tp4_conn.specs.Matching.{is_match}
use Rattle.tp4_conn.specs.Table.{Called, Ticked, Took, due, stepped}
use Rattle.tp4_entity.specs.Association.{is_called, is_registered, met, met_at, met_by, new_end, requested, unmatched}
use Rattle.tp4_entity.specs.Entity.{Acted, Entity, at, end_at, there, with_end}
use Rattle.tp4_entity.specs.References.{is_free_place, least_free}
use Rattle.tp4_entity.specs.Silence.{is_silent}
use Rattle.tp4_entity.specs.Step.{call_of, calling, calling_end, connecting, first_due, kept_end, ticking, ticking_at, ticking_end}
use Rattle.tp4_entity.specs.Unit.{EndsWith, Faulty, HearsUnit, TakesBy, TakesUnit, Whole, all_met, ignored}
use Rattle.tp4_entity.proofs.Standings.{Free, free_least, within}
use Rattle.tp4_world.specs.Telling.{ends_after, ends_with}
use Rattle.tp4_world.specs.World.{entity_at, with_entity}
use Rattle.tp4_world.specs.declared.place.EndAt.{EndAt}
use Rattle.tp4_world.specs.declared.place.Placed.{Placed}
use Rattle.tp4_world.proofs.Entities.{with_found}
use Rattle.law_tp4_lawful.specs.Own.{IsEndOf}
use Rattle.law_tp4_lawful.proofs.ActsRows.{IsRowOf, row_of}
use Rattle.law_tp4_lawful.proofs.ActsTold.{ends_stay}
use Rattle.law_tp4_lawful.proofs.MakesPlaces.{at_other, at_same}
use Rattle.law_tp4_lawful.proofs.Silence.{Seen}
use Rattle.law_tp4_lawful.proofs.SilenceEntities.{AreOf, ends_append, kept_row}
use Rattle.law_tp4_lawful.proofs.WorldPlaces.{with_again}
use Rattle.law_tp4_associations.proofs.FrozenReferences.{row_place, tick_place}
use Rattle.law_tp4_associations.proofs.HeldPlaces.{IsLike, Passes, Rests, kept_like, like_same, like_then, made_passes, passes_then, rests_pass, silent_like, vacant_new, vacant_others, vacant_same, vacant_there, vacant_was}

only_end : (reference : ℕ) (one end : End) → IsEndOf reference one → Some one ≡ Some end → IsEndOf reference end
only_end reference one end is h = let same : one ≡ end = cc h in subst (IsEndOf reference) same is

row_end : (reference : ℕ) (m : Moved) → IsRowOf reference m → (end : End) → Some (end_of m) ≡ Some end → IsEndOf reference end
row_end reference m row end h = only_end reference (end_of m) end (row.base, row.stage) h

-- each end is of the reference at which it stands, and none stands while the entity is silent
pub record IsFit (now : ℕ) (e : Entity) : Type 0 where
  pub of : AreOf e
  pub audible : (r : ℕ) (end : End) → end_at e r ≡ Some end → is_silent now e ≡ false

-- the same entity at another tick
pub record IsSame (e was : Entity) : Type 0 where
  pub ends : was.ends ≡ e.ends
  pub timers : was.timers ≡ e.timers
  pub restarted : was.restarted ≡ e.restarted

pub itself : (e : Entity) → IsSame e e
itself e = record { ends = refl; timers = refl; restarted = refl }

place_count : (places : List (Option End)) (k : ℕ) (place : Option End) → length (slice_set places k place) ≡ length places
place_count [] k place = refl
place_count (one ∷ places) zero place = refl
place_count (one ∷ places) (suc k) place = ap suc (place_count places k place)

like_placed : (e : Entity) (reference : ℕ) (place : Option End) → IsLike e (with_end e reference place)
like_placed e reference place = record { timers = refl; restarted = refl; count = place_count e.ends (reference - 1) place }

module _ (system now : ℕ) where
  abbrev pub seen : List Placed → List EndAt → Seen
  seen entities ends = record { clock = now; entities = entities; ends = ends }

  -- an entity did so, with what it tells
  pub record Did (Goes : Seen → Seen → Type 0) (e new : Entity) (told : List EndEvent) : Type 0 where
    pub fit : IsFit now new
    pub like : IsLike e new
    pub goes : (entities : List Placed) (ends : List EndAt) (was : Entity) → entity_at entities system ≡ Some was → IsSame e was
        → Goes (seen entities ends) (seen (with_entity entities system new) (ends_after ends system told))

  -- it makes an end at that reference
  pub record Made (e new : Entity) (reference : ℕ) : Type 0 where
    pub fit : IsFit now new
    pub like : IsLike e new
    pub passes : (entities : List Placed) (ends : List EndAt) (was : Entity) → entity_at entities system ≡ Some was → IsSame e was
        → Passes (seen entities ends) (seen (with_entity entities system new) (ends ++ record { system = system; reference = reference } ∷ []))

  same_place : (one other : Entity) (r : ℕ) → one.ends ≡ other.ends → is_free_place now (end_at one r) ≡ is_free_place now (end_at other r)
  same_place one other r same = ap (λ (places : List (Option End)). is_free_place now (if r == 0 then None else there (slice_get places (r - 1)))) same

  rested : (e new : Entity) (told : List EndEvent) → Did Rests e new told → Did Passes e new told
  rested e new told d = record {
    fit = d.fit;
    like = d.like;
    goes = λ entities ends was is same. rests_pass (seen entities ends) (seen (with_entity entities system new) (ends_after ends system told)) (d.goes entities ends was is same);
  }

  -- the clock of an entity is not seen
  at_fit : (e : Entity) → IsFit now e → IsFit now (at now e)
  at_fit e f = record { of = f.of; audible = f.audible }

  from_now : (Goes : Seen → Seen → Type 0) (e : Entity) (acted : Acted) → Did Goes (at now e) acted.entity acted.events → Did Goes e acted.entity acted.events
  from_now Goes e acted d = record {
    fit = d.fit;
    like = record { timers = d.like.timers; restarted = d.like.restarted; count = d.like.count };
    goes = λ entities ends was is same. d.goes entities ends was is (record { ends = same.ends; timers = same.timers; restarted = same.restarted });
  }

  -- where the references are free as they were, and what is told makes no end
  did_rest : (e new : Entity) (told : List EndEvent) → IsFit now new → IsLike e new → ((r : ℕ) → is_free_place now (end_at new r) ≡ is_free_place now (end_at e r))
      → ((ends : List EndAt) → ends_after ends system told ≡ ends) → Did Rests e new told
  did_rest e new told fit like places stay = record {
    fit = fit;
    like = like;
    goes = λ entities ends was is same. record {
      clock = refl;
      ends = stay ends;
      vacant = vacant_same now entities system was new is (λ r. places r ∙ sym (same_place was e r same.ends));
      kept = kept_like now entities system was new is now (ends_after ends system told)
          (record { timers = like.timers ∙ sym same.timers; restarted = like.restarted ∙ sym same.restarted; count = like.count ∙ sym (ap (λ (places : List (Option End)). length places) same.ends) });
    };
  }

  does_nothing : (e : Entity) → IsFit now e → Did Rests e e []
  does_nothing e f = did_rest e e [] f (like_same e e refl) (λ r. refl) (λ ends. refl)

  did_noted : (e : Entity) (what : What) → IsFit now e → ((ends : List EndAt) → ends_with ends system (record { reference = 0; what = what }) what ≡ ends) → Did Rests e e (record { reference = 0; what = what } ∷ [])
  did_noted e what f stay = did_rest e e (record { reference = 0; what = what } ∷ []) f (like_same e e refl) (λ r. refl) stay

  -- one thing after another
  did_then : (e mid new : Entity) (xs ys : List EndEvent) → Did Passes e mid xs → Did Passes mid new ys → Did Passes e new (xs ++ ys)
  did_then e mid new xs ys one two = record {
    fit = two.fit;
    like = like_then e mid new one.like two.like;
    goes = λ entities ends was is same.
        (let first : Seen = seen entities ends in
        let middle : Seen = seen (with_entity entities system mid) (ends_after ends system xs) in
        let rest : Passes middle (seen (with_entity (with_entity entities system mid) system new) (ends_after (ends_after ends system xs) system ys)) =
        two.goes (with_entity entities system mid) (ends_after ends system xs) mid (with_found entities system was mid is) (itself mid) in
        passes_then first middle (seen (with_entity entities system new) (ends_after ends system (xs ++ ys))) (one.goes entities ends was is same)
        (subst (λ (es : List EndAt). Passes middle (seen (with_entity entities system new) es)) (sym (ends_append ends system xs ys))
        (subst (λ (ps : List Placed). Passes middle (seen ps (ends_after (ends_after ends system xs) system ys))) (with_again entities system mid new) rest)));
  }

  -- ---- one place of an entity changes

  module _ (e : Entity) (reference : ℕ) (place : Option End) (least : 1 ≤ reference) (most : reference ≤ length e.ends) (f : IsFit now e) where
    abbrev pub changed : Entity
    changed = with_end e reference place

    is_there : end_at changed reference ≡ place
    is_there = at_same e reference place least most

    is_other : (r : ℕ) → (r ≡ reference → ⊥) → end_at changed r ≡ end_at e r
    is_other r apart = at_other e reference r place least apart

    changed_of : ((end : End) → place ≡ Some end → IsEndOf reference end) → AreOf changed
    changed_of here r end h = elim (cases_eq r reference) [
      | inl same ↦ subst (λ (n : ℕ). IsEndOf n end) (sym same) (here end (sym is_there ∙ sym (ap (end_at changed) same) ∙ h))
      | inr apart ↦ f.of r end (sym (is_other r apart) ∙ h)
    ]

    changed_fit : ((end : End) → place ≡ Some end → IsEndOf reference end) → is_silent now e ≡ false → IsFit now changed
    changed_fit here quiet = record { of = changed_of here; audible = λ r end h. quiet }

    places_same : is_free_place now place ≡ is_free_place now (end_at e reference) → (r : ℕ) → is_free_place now (end_at changed r) ≡ is_free_place now (end_at e r)
    places_same same r = elim (cases_eq r reference) [
      | inl here ↦ ap (λ (n : ℕ). is_free_place now (end_at changed n)) here ∙ ap (is_free_place now) is_there ∙ same ∙ sym (ap (λ (n : ℕ). is_free_place now (end_at e n)) here)
      | inr apart ↦ ap (is_free_place now) (is_other r apart)
    ]

  -- an end that stands did its row; it stays, or is taken out
  did_row : (e : Entity) (reference : ℕ) (end : End) (place : Option End) (m : Moved) → IsFit now e → end_at e reference ≡ Some end → IsRowOf reference m
      → ((new : End) → place ≡ Some new → IsEndOf reference new) → is_free_place now place ≡ is_free_place now (Some end) → Did Rests e (with_end e reference place) m.events
  did_row e reference end place m f is row here same =
      let w = within e reference end is in
      did_rest e (with_end e reference place) m.events (changed_fit e reference place w.least w.most f here (f.audible reference end is)) (like_placed e reference place)
      (places_same e reference place w.least w.most f (same ∙ sym (ap (is_free_place now) is))) (λ ends. ends_stay system [] ends reference m.events row.told)

  -- a new end, at a free reference
  made_at : (e : Entity) (reference : ℕ) (end : End) → IsFit now e → is_silent now e ≡ false → Free now reference e → IsEndOf reference end → is_free_place now (Some end) ≡ false
      → Made e (with_end e reference (Some end)) reference
  made_at e reference end f quiet free of held = record {
    fit = changed_fit e reference (Some end) free.least free.most f (λ new h. only_end reference end new of h) quiet;
    like = like_placed e reference (Some end);
    passes = λ entities ends was is same.
        (let new : Entity = with_end e reference (Some end) in
        made_passes (seen entities ends) (seen (with_entity entities system new) (ends ++ record { system = system; reference = reference } ∷ [])) system reference refl
        (vacant_was now entities system was new is reference ∙ same_place was e reference same.ends ∙ free.free)
        (vacant_new now entities system was new is reference ∙ ap (is_free_place now) (is_there e reference (Some end) free.least free.most f) ∙ held)
        (λ at r apart. elim (cases_eq at system) [
          | inl here ↦ vacant_there now entities system was new is at r here (ap (is_free_place now) (is_other e reference (Some end) free.least free.most f r (apart here)) ∙ sym (same_place was e r same.ends))
          | inr other ↦ vacant_others now entities system was new is at r other
        ]));
  }

  -- ---- a user asks

  -- for a connection
  pub did_connect : (e : Entity) (reference : ℕ) (request : ConnectRequest) → IsFit now e → is_silent now e ≡ false → least_free now e ≡ Some reference → Made e (connecting now e reference request).entity reference
  did_connect e reference request f quiet is =
      let m : Moved = connected now (call_of e reference request) in
      let free = free_least now reference e is in
      let made : Made (at now e) (connecting now e reference request).entity reference =
      made_at (at now e) reference (end_of m) (at_fit e f) quiet (record { least = free.least; most = free.most; free = free.free }) (refl, tt) refl in
      record {
        fit = made.fit;
        like = record { timers = made.like.timers; restarted = made.like.restarted; count = made.like.count };
        passes = λ entities ends was is_there same. made.passes entities ends was is_there (record { ends = same.ends; timers = same.timers; restarted = same.restarted });
      }

  module _ (wrap : ℕ → ℕ → ℕ) where
    end_called : (e : Entity) (reference : ℕ) (call : UserCall) (place : Option End) → IsFit now e → end_at e reference ≡ place
        → Did Rests e (calling_end wrap now e reference call place).entity (calling_end wrap now e reference call place).events
    end_called e reference call None f is = does_nothing e f
    end_called e reference call (Some end) f is =
        let m : Moved = stepped wrap now end (Called call) in
        let row : IsRowOf reference m = row_of wrap now reference end (Called call) (f.of reference end is) in
        did_row e reference end (Some (end_of m)) m f is row (row_end reference m row) (row_place wrap now end (Called call))

    pub did_call : (e : Entity) (reference : ℕ) (call : UserCall) → IsFit now e → Did Passes e (calling wrap now e reference call).entity (calling wrap now e reference call).events
    did_call e reference call f =
        let acted : Acted = calling wrap now e reference call in
        rested e acted.entity acted.events (from_now Rests e acted (end_called (at now e) reference call (end_at e reference) (at_fit e f) refl))

    -- ---- a tick

    end_ticked : (e : Entity) (reference : ℕ) (place : Option End) → IsFit now e → end_at e reference ≡ place → Did Rests e (ticking_end wrap now e reference place).entity (ticking_end wrap now e reference place).events
    end_ticked e reference None f is = does_nothing e f
    end_ticked e reference (Some end) f is =
        let m : Moved = stepped wrap now end Ticked in
        let row : IsRowOf reference m = row_of wrap now reference end Ticked (f.of reference end is) in
        did_row e reference end (kept_end m (due m.base m.stage)) m f is row (kept_row reference m (due m.base m.stage) row) (tick_place wrap now end)

    ticked_at : (e : Entity) (found : Option ℕ) → IsFit now e → Did Rests e (ticking_at wrap now e found).entity (ticking_at wrap now e found).events
    ticked_at e None f = does_nothing e f
    ticked_at e (Some reference) f = end_ticked e reference (end_at e reference) f refl

    pub did_tick : (e : Entity) → IsFit now e → Did Rests e (ticking wrap now e).entity (ticking wrap now e).events
    did_tick e f = from_now Rests e (ticking wrap now e) (ticked_at (at now e) (first_due now e) (at_fit e f))

    -- ---- a unit comes

    abbrev Does : Entity → Acted → Type 0
    Does e acted = Did Passes e acted.entity acted.events

    nothing_done : (e : Entity) → IsFit now e → Did Passes e e []
    nothing_done e f = rested e e [] (does_nothing e f)

    module _ (from : List ℕ) where
      is_unmatched : (e : Entity) (tpdu : Tpdu) → IsFit now e → Does e (unmatched e from tpdu)
      is_unmatched e tpdu f = rested e e _ (did_noted e (whats.Unknown (kind_for tpdu)) f (λ ends. refl))

      by_end : (e : Entity) (tpdu : TpduAndSum) (reference : ℕ) (place : Option End) → IsFit now e → end_at e reference ≡ place → Does e (met_by wrap now e from tpdu reference place)
      by_end e tpdu reference None f is = is_unmatched e tpdu.0 f
      by_end e tpdu reference (Some end) f is =
          let m : Moved = stepped wrap now end (Took tpdu.0 tpdu.1) in
          let row : IsRowOf reference m = row_of wrap now reference end (Took tpdu.0 tpdu.1) (f.of reference end is) in
          if_kept (Does e) (is_match end.base end.stage from tpdu.0) _ _
          (λ _. rested e (with_end e reference (Some (end_of m))) m.events (did_row e reference end (Some (end_of m)) m f is row (row_end reference m row) (row_place wrap now end (Took tpdu.0 tpdu.1))))
          (λ _. is_unmatched e tpdu.0 f)

      by_reference : (e : Entity) (tpdu : TpduAndSum) (reference : Option ℕ) → IsFit now e → Does e (met_at wrap now e from tpdu reference)
      by_reference e tpdu None f = is_unmatched e tpdu.0 f
      by_reference e tpdu (Some reference) f = by_end e tpdu reference (end_at e reference) f refl

      is_new : (e : Entity) (source : ℕ) (cr : Tpdu) (found : Option ℕ) → IsFit now e → is_silent now e ≡ false → least_free now e ≡ found → Does e (new_end now e from source cr found)
      is_new e source cr None f quiet is = nothing_done e f
      is_new e source (wires.Cr credit other width calling called size preferred extra version classes ack_time text) (Some reference) f quiet is =
          let m : Moved = indicated (called_end now reference from e.timers credit other calling called (proposed_in width size preferred extra)) text in
          let made : Made e (with_end e reference (Some (end_of m))) reference = made_at e reference (end_of m) f quiet (free_least now reference e is) (refl, tt) refl in
          record { fit = made.fit; like = made.like; goes = made.passes }
      is_new e source other (Some reference) f quiet is = nothing_done e f

      is_requested : (e : Entity) (source : ℕ) (called : List ℕ) (cr : Tpdu) → IsFit now e → is_silent now e ≡ false → Does e (requested now e from source called cr)
      is_requested e source called cr f quiet =
          if_kept (Does e) (list_any (is_called false from source) e.ends) _ _ (λ _. nothing_done e f)
          (λ _. if_kept (Does e) (list_any (is_called true from source) e.ends) _ _ (λ _. nothing_done e f)
          (λ _. if_kept (Does e) (not (is_registered e.selectors called)) _ _ (λ _. nothing_done e f) (λ _. is_new e source cr (least_free now e) f quiet refl)))

      is_met : (e : Entity) (tpdu : TpduAndSum) → IsFit now e → is_silent now e ≡ false → Does e (met wrap now e from tpdu)
      is_met e (wires.Cr credit source width calling called size preferred extra version classes ack_time text, sum) f quiet =
          is_requested e source called (wires.Cr credit source width calling called size preferred extra version classes ack_time text) f quiet
      is_met e (wires.Cc credit destination source width calling called size preferred extra version classes ack_time text, sum) f quiet =
          by_reference e (wires.Cc credit destination source width calling called size preferred extra version classes ack_time text, sum) (Some destination) f
      is_met e (wires.Dr destination source reason info text, sum) f quiet = by_reference e (wires.Dr destination source reason info text, sum) (Some destination) f
      is_met e (wires.Dc destination source, sum) f quiet = by_reference e (wires.Dc destination source, sum) (Some destination) f
      is_met e (wires.Dt destination last number text, sum) f quiet = by_reference e (wires.Dt destination last number text, sum) (Some destination) f
      is_met e (wires.Ed destination last number text, sum) f quiet = by_reference e (wires.Ed destination last number text, sum) (Some destination) f
      is_met e (wires.Ak destination number credit subsequence confirmation, sum) f quiet =
          by_reference e (wires.Ak destination number credit subsequence confirmation, sum) (Some destination) f
      is_met e (wires.Ea destination number, sum) f quiet = by_reference e (wires.Ea destination number, sum) (Some destination) f
      is_met e (wires.Er destination cause rejected, sum) f quiet = by_reference e (wires.Er destination cause rejected, sum) (Some destination) f

      are_met : (tpdus : List TpduAndSum) (e : Entity) → IsFit now e → is_silent now e ≡ false → Does e (all_met wrap now e from tpdus)
      are_met [] e f quiet = nothing_done e f
      are_met (tpdu ∷ tpdus) e f quiet =
          let first : Acted = met wrap now e from tpdu in
          let one : Does e first = is_met e tpdu f quiet in
          let rest : Acted = all_met wrap now first.entity from tpdus in
          did_then e first.entity rest.entity first.events rest.events one (are_met tpdus first.entity one.fit (silent_like now e first.entity one.like ∙ quiet))

      -- nothing is left, or a fault is told
      is_ended : (e : Entity) (extended rest : List ℕ) (told : List EndEvent) → IsFit now e → EndsWith extended rest told → Did Passes e e told
      is_ended e extended rest told f (Whole none is) = subst (Did Passes e e) (sym is) (nothing_done e f)
      is_ended e extended rest told f (Faulty fault some is told_is) = subst (Did Passes e e) (sym told_is) (rested e e _ (did_noted e (whats.BadTpdu fault.cause fault.place) f (λ ends. refl)))

      is_heard : (e : Entity) (octets : List ℕ) (acted : Acted) → IsFit now e → is_silent now e ≡ false → HearsUnit wrap now e from octets acted → Does e acted
      is_heard e octets acted f quiet h =
          let met_all : Acted = all_met wrap now (at now e) from h.tpdus in
          let did : Does (at now e) met_all = are_met h.tpdus (at now e) (at_fit e f) quiet in
          let both : Did Passes (at now e) met_all.entity (met_all.events ++ h.told) =
          did_then (at now e) met_all.entity met_all.entity met_all.events h.told did (is_ended met_all.entity _ h.rest h.told did.fit h.ends) in
          from_now Passes e acted
          (subst (λ (x : Entity). Did Passes (at now e) x acted.events) (sym h.entity) (subst (λ (told : List EndEvent). Did Passes (at now e) met_all.entity told) (sym h.events) both))

      -- a silent entity does nothing but tell it
      pub did_take : (e : Entity) (octets : List ℕ) (acted : Acted) → IsFit now e → TakesUnit wrap now e from octets acted → Does e acted
      did_take e octets acted f t = by (is_silent now e) refl t
        where
          by : (silent : Bool) → is_silent now e ≡ silent → TakesBy silent wrap now e from octets acted → Does e acted
          by true is ignores =
              subst (Does e) (sym ignores) (from_now Passes e (ignored now e) (rested (at now e) (at now e) _ (did_noted (at now e) whats.Silent (at_fit e f) (λ ends. refl))))
          by false is heard = is_heard e octets acted f is heard
