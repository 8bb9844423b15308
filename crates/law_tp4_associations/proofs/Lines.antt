-- What a call does to the ends that were made: an end that holds its reference does so still, or its reference is free when the call is done, or
-- the call was a restart of its system; one that does not hold it never holds it again; and each that the call makes holds its reference. A line of
-- a script is such a call, or nothing.
use Rattle.std.proofs.Common.{◌≡◌, ◌⊎◌, inl, inr, ℕ, ◌+◌, Bool, true, false, List, Option, Some, None, refl, sym, ◌∙◌, ap, arith}
use Rattle.std.proofs.lemmas.Bool.{cases_eq}
use Rattle.osi_base.specs.Link.{Link}
use Rattle.osi_base.specs.Calls.{Call, Keeps}
use Rattle.script_journal.specs.declared.event.Event.{Event}
use Rattle.script_lines.specs.declared.line.Line.{Line}
use Rattle.script_lines.specs.declared.line.Line.TheVariants as lines
use Rattle.tp4_conn.specs.End.{End, frozen_for}
use Rattle.tp4_conn.specs.declared.call.UserCall.TheVariants as asks
use Rattle.tp4_entity.specs.Entity.{Entity, end_at}
use Rattle.tp4_entity.specs.References.{is_free_place}
use Rattle.tp4_entity.specs.Silence.{is_silent}
use Rattle.tp4_entity.specs.Step.{connect_refusal}
use Rattle.tp4_entity.proofs.Standings.{free_at, is_free_at, within}
use Rattle.tp4_world.specs.Called.{Did, WorldCall}
use Rattle.tp4_world.specs.Called as requests
use Rattle.tp4_world.specs.Run.{RunsLine, clock_of}
use Rattle.tp4_world.specs.World.{World, end_numbered, entity_at, latest}
use Rattle.tp4_world.specs.declared.place.EndAt.{EndAt}
use Rattle.law_tp4_associations.specs.Ended.{IsFreeIn}
use Rattle.law_tp4_associations.proofs.HeldPlaces.{HasLike, Holds, Passes, is_vacant, is_vacant_at, silent_like, true_false}
use Rattle.law_tp4_associations.proofs.EndedWorlds.{BeginsAgain, IsFitWorld, Later, Ran, began_again, call_at, connect_by, delivered, injected, ran_rest, raw_ran, seen_of, settled, stays, ticked, within_longer}

-- an end that holds its reference stands there
pub record Stands (there : Option Entity) (reference : ℕ) : Type 0 where
  pub entity : Entity
  pub entity_is : there ≡ Some entity
  pub end : End
  pub end_is : end_at entity reference ≡ Some end

pub stands : (now : ℕ) (there : Option Entity) (reference : ℕ) → is_vacant_at now there reference ≡ false → Stands there reference
stands now None reference taken = absurd (cc taken)
stands now (Some e) reference taken = by (end_at e reference) refl taken
  where
    by : (place : Option End) → end_at e reference ≡ place → is_free_place now place ≡ false → Stands (Some e) reference
    by None is held = absurd (cc held)
    by (Some end) is held = record { entity = e; entity_is = refl; end = end; end_is = is }

module _ {C Item : Type 0} (link : C → Link (List ℕ)) (steps : C → Call (List ℕ) → C → Type 0) (restart : ℕ → Item) where
  -- what a line or a call did
  pub record Went (item : Item) (old new : World C) : Type 0 where
    pub fit : IsFitWorld link new
    pub numbered : (number : ℕ) (end : EndAt) → end_numbered old.ends number ≡ Some end → end_numbered new.ends number ≡ Some end
    pub on : (number : ℕ) (end : EndAt) → end_numbered old.ends number ≡ Some end → Holds (seen_of link old) number end
        → Holds (seen_of link new) number end ⊎ (IsFreeIn link steps new end ⊎ (item ≡ restart end.system))
    pub back : (number : ℕ) (end : EndAt) → end_numbered old.ends number ≡ Some end → Holds (seen_of link new) number end → Holds (seen_of link old) number end
    pub made : (number : ℕ) (end : EndAt) → end_numbered new.ends number ≡ Some end → (end_numbered old.ends number ≡ Some end) ⊎ Holds (seen_of link new) number end

  passes_went : (item : Item) (old new : World C) → Ran link Passes old new → Went item old new
  passes_went item old new ran = record {
    fit = ran.fit;
    numbered = ran.goes.numbered;
    on = λ number end is h. inl (ran.goes.on number end is h);
    back = ran.goes.back;
    made = ran.goes.made;
  }

  -- a tick: the reference of an end that held it is free then, or the end holds it still
  free_then : (old new : World C) (number : ℕ) (end : EndAt) → IsFitWorld link old → Later (seen_of link old) (seen_of link new) → Holds (seen_of link old) number end
      → is_vacant (seen_of link new) end.system end.reference ≡ true → IsFreeIn link steps new end
  free_then old new number end fit l h free =
      let was : ℕ = (link old.carrier).clock in
      let now : ℕ = (link new.carrier).clock in
      let s = stands was (entity_at old.entities end.system) end.reference h.taken in
      let k : HasLike (seen_of link new) end.system s.entity = l.kept end.system s.entity s.entity_is in
      let w = within s.entity end.reference s.end s.end_is in
      let loud : is_silent was s.entity ≡ false = (fit end.system s.entity s.entity_is).audible end.reference s.end s.end_is in
      let later : is_silent (was + 1) s.entity ≡ false = within_longer was (frozen_for s.entity.timers) s.entity.restarted loud in
      let quiet : is_silent now k.entity ≡ false = silent_like now s.entity k.entity k.like ∙ ap (λ (n : ℕ). is_silent n s.entity) l.clock ∙ later in
      let open_place : is_free_place now (end_at k.entity end.reference) ≡ true = sym (ap (λ (e : Option Entity). is_vacant_at now e end.reference) k.there) ∙ free in
      record {
        entity = k.entity;
        there = k.there;
        free = is_free_at now end.reference k.entity quiet w.least (omega (arith, w.most, k.like.count)) (free_at now (end_at k.entity end.reference) open_place);
      }

  tick_went : (item : Item) (old new : World C) → IsFitWorld link old → Ran link Later old new → Went item old new
  tick_went item old new fit ran = record {
    fit = ran.fit;
    numbered = λ number end is. ap (λ (es : List EndAt). end_numbered es number) ran.goes.ends ∙ is;
    on = λ number end is h. by number end h (is_vacant (seen_of link new) end.system end.reference) refl;
    back = λ number end is h. record {
      latest_is = ap (λ (es : List EndAt). latest es end.system end.reference) (sym ran.goes.ends) ∙ h.latest_is;
      taken = was_taken end (is_vacant (seen_of link old) end.system end.reference) refl h.taken;
    };
    made = λ number end is. inl (ap (λ (es : List EndAt). end_numbered es number) (sym ran.goes.ends) ∙ is);
  }
    where
      by : (number : ℕ) (end : EndAt) → Holds (seen_of link old) number end → (free : Bool) → is_vacant (seen_of link new) end.system end.reference ≡ free
          → Holds (seen_of link new) number end ⊎ (IsFreeIn link steps new end ⊎ (item ≡ restart end.system))
      by number end h true is = inr (inl (free_then old new number end fit ran.goes h is))
      by number end h false is = inl (record { latest_is = ap (λ (es : List EndAt). latest es end.system end.reference) ran.goes.ends ∙ h.latest_is; taken = is })

      was_taken : (end : EndAt) (free : Bool) → is_vacant (seen_of link old) end.system end.reference ≡ free → is_vacant (seen_of link new) end.system end.reference ≡ false
          → is_vacant (seen_of link old) end.system end.reference ≡ false
      was_taken end true is taken = absurd (true_false (is_vacant (seen_of link new) end.system end.reference) (ran.goes.vacant end.system end.reference is) taken)
      was_taken end false is taken = is

  restart_went : (system : ℕ) (old new : World C) → Ran link (BeginsAgain system) old new → Went (restart system) old new
  restart_went system old new ran = record {
    fit = ran.fit;
    numbered = λ number end is. ap (λ (es : List EndAt). end_numbered es number) ran.goes.ends ∙ is;
    on = λ number end is h. elim (cases_eq end.system system) [
      | inl here ↦ inr (inr (ap (λ (s : ℕ). restart s) (sym here)))
      | inr apart ↦ inl (record {
        latest_is = ap (λ (es : List EndAt). latest es end.system end.reference) ran.goes.ends ∙ h.latest_is;
        taken = ran.goes.others end.system end.reference apart ∙ h.taken;
      })
    ];
    back = λ number end is h. elim (cases_eq end.system system) [
      | inl here ↦
          absurd (true_false (is_vacant (seen_of link new) end.system end.reference) (ap (λ (s : ℕ). is_vacant (seen_of link new) s end.reference) here ∙ ran.goes.none end.reference) h.taken)
      | inr apart ↦ record {
        latest_is = ap (λ (es : List EndAt). latest es end.system end.reference) (sym ran.goes.ends) ∙ h.latest_is;
        taken = sym (ran.goes.others end.system end.reference apart) ∙ h.taken;
      }
    ];
    made = λ number end is. inl (ap (λ (es : List EndAt). end_numbered es number) (sym ran.goes.ends) ∙ is);
  }

module _ {C : Type 0} (link : C → Link (List ℕ)) (steps : C → Call (List ℕ) → C → Type 0) (law : (old : C) (call : Call (List ℕ)) (new : C) → steps old call new → Keeps (link old) call (link new))
    (wrap : ℕ → ℕ → ℕ) where
  -- ---- a call

  abbrev pub CallWent : WorldCall → World C → World C → Type 0
  CallWent call old new = Went link steps requests.Restart call old new

  call_passed : (call : WorldCall) (old new : World C) → Ran link Passes old new → CallWent call old new
  call_passed call old new ran = passes_went link steps requests.Restart call old new ran

  pub call_went : (call : WorldCall) (old new : World C) (made : List Event) → IsFitWorld link old → Did link steps wrap old call made new → CallWent call old new
  call_went (requests.Connect system request) old new made fit s =
      call_passed (requests.Connect system request) old new
      (connect_by link steps law old new made system s.0 request (connect_refusal (clock_of link steps old) s.0 request.octets) fit s.1 refl s.2)
  call_went (requests.Ask end call) old new made fit s = call_passed (requests.Ask end call) old new (call_at link steps law wrap old new made end call (end_numbered old.ends end) fit s)
  call_went (requests.Raw system sender receiver wish octets) old new made fit s =
      call_passed (requests.Raw system sender receiver wish octets) old new (ran_rest link steps law old new (raw_ran link steps law old new s.0 made system sender receiver octets wish fit s.1 s.2))
  call_went (requests.Deliver number system answer) old new made fit s = call_passed (requests.Deliver number system answer) old new (delivered link steps law wrap old new made number system answer fit s)
  call_went (requests.Inject lan system octets answer) old new made fit s =
      call_passed (requests.Inject lan system octets answer) old new (injected link steps law wrap old new made lan system octets answer fit s)
  call_went (requests.Restart system) old new made fit s = restart_went link steps requests.Restart system old new (began_again link steps law old new made system fit s)
  call_went requests.Pass old new made fit s = tick_went link steps requests.Restart requests.Pass old new fit (ticked link steps law wrap old new made fit s)
  call_went requests.Settle old new made fit s = call_passed requests.Settle old new (settled link steps law wrap 0 old made new fit s)

  -- ---- a line

  module _ (titles : List (List ℕ)) where
    abbrev pub LineWent : Line → World C → World C → Type 0
    LineWent line old new = Went link steps lines.Restart line old new

    line_passed : (line : Line) (old new : World C) → Ran link Passes old new → LineWent line old new
    line_passed line old new ran = passes_went link steps lines.Restart line old new ran

    pub line_went : (line : Line) (old new : World C) (made : List Event) → IsFitWorld link old → RunsLine link steps wrap titles old line made new → LineWent line old new
    line_went lines.Nothing old new made fit s = line_passed lines.Nothing old new (ran_rest link steps law old new (stays link steps law old new fit s.1))
    line_went (lines.Connect system selector to called options octets) old new made fit s =
        let asked = s.4.4 in
        line_passed (lines.Connect system selector to called options octets) old new
        (connect_by link steps law old new made system asked.0 s.1 (connect_refusal (clock_of link steps old) asked.0 s.1.octets) fit asked.1 refl asked.2)
    line_went (lines.Accept end options octets) old new made fit s =
        line_passed (lines.Accept end options octets) old new (call_at link steps law wrap old new made end (asks.Accept options octets) (end_numbered old.ends end) fit s)
    line_went (lines.Refuse end octets) old new made fit s =
        line_passed (lines.Refuse end octets) old new (call_at link steps law wrap old new made end (asks.Refuse octets) (end_numbered old.ends end) fit s)
    line_went (lines.Disconnect end octets) old new made fit s =
        line_passed (lines.Disconnect end octets) old new (call_at link steps law wrap old new made end (asks.Disconnect octets) (end_numbered old.ends end) fit s)
    line_went (lines.Data end octets) old new made fit s =
        line_passed (lines.Data end octets) old new (call_at link steps law wrap old new made end (asks.Normal octets) (end_numbered old.ends end) fit s)
    line_went (lines.Expedite end octets) old new made fit s =
        line_passed (lines.Expedite end octets) old new (call_at link steps law wrap old new made end (asks.Urgent octets) (end_numbered old.ends end) fit s)
    line_went (lines.Window end credit) old new made fit s =
        line_passed (lines.Window end credit) old new (call_at link steps law wrap old new made end (asks.Window credit) (end_numbered old.ends end) fit s)
    line_went (lines.Unit system to wish octets) old new made fit s =
        line_passed (lines.Unit system to wish octets) old new (ran_rest link steps law old new (raw_ran link steps law old new s.4.0 made system s.0 s.1 octets wish fit s.4.1 s.4.2))
    line_went lines.Tick old new made fit s = tick_went link steps lines.Restart lines.Tick old new fit (ticked link steps law wrap old new made fit s)
    line_went (lines.Deliver number system) old new made fit s = line_passed (lines.Deliver number system) old new (delivered link steps law wrap old new made number system s.0 fit s.1)
    line_went lines.Settle old new made fit s = line_passed lines.Settle old new (settled link steps law wrap 0 old made new fit s)
    line_went (lines.Inject lan system octets) old new made fit s = line_passed (lines.Inject lan system octets) old new (injected link steps law wrap old new made lan system octets s.0 fit s.1)
    line_went (lines.Restart system) old new made fit s = restart_went link steps lines.Restart system old new (began_again link steps law old new made system fit s)
    line_went other old new made fit s = absurd s
