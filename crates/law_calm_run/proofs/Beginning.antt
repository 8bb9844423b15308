-- A network before its first line has no association; and what each step keeps holds after all of them.
use Rattle.std.proofs.Common.{◌≡◌, ℕ, ◌==◌, ◌-◌, Bool, true, false, if◌then◌else◌, List, [], ◌++◌, slice_get, Option, Some, None, refl, sym, ◌∙◌, ap, subst, append-nil, append_assoc, arith}
use Rattle.std.specs.Prelude.{unwrap_or}
use Rattle.std.proofs.lemmas.Option.{slice_get_within, get_or_from_slice_get}
use Rattle.nsap.specs.Address.{system_part}
use Rattle.nsap.proofs.AddressLemmas.{system_part-append}
use Rattle.osi_base.specs.declared.unit.Unit.{Unit as CarriedUnit}
use Rattle.script_journal.specs.declared.event.Event.{Event}
use Rattle.script_journal.specs.declared.event.Event.TheVariants as events
use Rattle.script_journal.specs.declared.event.Indication.{Indication}
use Rattle.tp4_conn.specs.declared.timers.Timers.{Timers}
use Rattle.tp4_entity.specs.Entity.{Entity, end_at, there}
use Rattle.law_tp4_history.specs.Journals.{IsAside, MakesNone, makes_end}
use Rattle.tp4_world.specs.First.{HasNoEnd, IsNew}
use Rattle.tp4_world.specs.Run.{transport_address}
use Rattle.tp4_world.specs.World.{World, entity_at}
use Rattle.law_tp4_lawful.specs.First.{IsUntouched}
use Rattle.law_tp4_associations.specs.Association.{Association}
use Rattle.law_tp4_associations.specs.Standing.{AreSystems}
use Rattle.law_calm_run.specs.Run.{IsStart}
use Rattle.law_calm_run.proofs.Hall.{AreAllProper, Done, Goes, Hall, More, Step}
use Rattle.law_calm_run.proofs.Story.{Numbers, Story, address_of}
use Rattle.law_calm_run.proofs.Continuing.{none_some}
use Rattle.law_tp4_lawful.proofs.WorldStarts.{found, none_there}

none_at : (e : Entity) (reference : ℕ) → HasNoEnd e → end_at e reference ≡ None
none_at e reference none = by (reference == 0)
  where
    by : (zeroth : Bool) → (if zeroth then None else there (slice_get e.ends (reference - 1))) ≡ None
    by true = refl
    by false = none_there e.ends none (reference - 1)

module _ {C : Type 0} (titles : List (List ℕ)) (timers : Timers) (Waits : C → List (CarriedUnit (List ℕ)) → Type 0) (first : World C) (start : IsStart titles timers Waits first) where
  new_entity : (system : ℕ) (e : Entity) → entity_at first.entities system ≡ Some e → (title : List ℕ) × (slice_get titles system ≡ Some title) × (e.own ≡ transport_address title) × HasNoEnd e
  new_entity system e is =
      let n = found (IsNew titles) first.entities system e start.entities is in
      (n.holds.title, ap (slice_get titles) (sym n.system_is) ∙ n.holds.title_is, ap (λ (x : Entity). x.own) (sym n.entity_is) ∙ n.holds.own, subst HasNoEnd n.entity_is n.holds.none)

  address_is : (system : ℕ) (e : Entity) → entity_at first.entities system ≡ Some e → e.own ≡ address_of titles system
  address_is system e is =
      let n = new_entity system e is in
      n.2 ∙ ap transport_address (sym (ap (λ (o : Option (List ℕ)). unwrap_or o []) n.1))

  systems : AreSystems timers (address_of titles) first.entities
  systems = record {
    own_is = address_is;
    timers_are = λ system e is.
        let u = found (IsUntouched timers) first.entities system e start.untouched is in
        ap (λ (x : Entity). x.timers) (sym u.entity_is) ∙ u.holds.timers_are;
    apart = λ system other e f at_one at_other same.
        let one = new_entity system e at_one in
        let two = new_entity other f at_other in
        let own : transport_address one.0 ≡ transport_address two.0 = sym one.2 ∙ address_is system e at_one ∙ same ∙ sym (address_is other f at_other) ∙ two.2 in
        start.distinct system other one.0 two.0 one.1 two.1 (sym (system_part-append (system_part one.0) 1) ∙ ap system_part own ∙ system_part-append (system_part two.0) 1);
    timed = start.timed;
    inactive = start.inactive;
  }

  no_number : Numbers
  no_number k by = None

  nothing_there : (k : ℕ) (a : Association) → slice_get [] k ≡ Some a → ⊥
  nothing_there k a is = none_some a is

  no_partner : (begun : List Event) → MakesNone begun → (p : ℕ) (heard : Indication) → slice_get begun p ≡ Some (events.Incoming heard) → ⊥
  no_partner begun none p heard is =
      let low = slice_get_within begun p (events.Incoming heard) is in
      let same = get_or_from_slice_get begun p (events.Incoming heard) (events.Incoming heard) is in
      never (subst (λ (e : Event). makes_end e ≡ false) same (none p (events.Incoming heard) low))
    where
      never : true ≡ false → ⊥
      never e = cc e

  pub story_begins : (now : ℕ) (begun : List Event) → IsAside begun → Story timers (address_of titles) (record { clock = now; entities = first.entities; ends = first.ends; posts = [] }) begun
  story_begins now begun aside = record {
    all = [];
    queue = [];
    number = no_number;
    standing = record {
      systems = systems;
      each = λ k a is. absurd (nothing_there k a is);
      there = λ k a by is. absurd (nothing_there k a is);
      stand = λ k by system reference end p. absurd (nothing_there k p.a p.is);
      known = λ system reference end stands.
          let n = new_entity system stands.0 stands.1 in
          absurd (none_some end (sym (none_at stands.0 reference n.3) ∙ stands.2));
      apart = λ k j by other system reference x y p q. absurd (nothing_there k p.a p.is);
      posted = tt;
    };
    posts = refl;
    tells = record {
      numbered = record {
        caller = λ k low. absurd (omega (arith, low));
        party_is = λ k a by end is end_is. absurd (nothing_there k a is);
        low = λ k by n low is. absurd (omega (arith, low));
        one = λ k j by other n low below is same. absurd (omega (arith, low));
      };
      linked = record {
        partners = λ p q heard asked part. absurd (no_partner begun aside.ends p heard part.is);
        latest_is = λ k a x is end_is. absurd (nothing_there k a is);
      };
      owns = λ k a by end is end_is. absurd (nothing_there k a is);
      young = λ k a by end n is end_is. absurd (nothing_there k a is);
      pairs = λ k a x y c d is. absurd (nothing_there k a is);
      unused = λ n above. record { gave = (aside.units n).0; showed = (aside.units n).1 };
      uncalled = λ k a x is. absurd (nothing_there k a is);
      held = λ k a x y is. absurd (nothing_there k a is);
      uncalling = λ k a y r is. absurd (nothing_there k a is);
    };
  }

-- what each step keeps holds after all of them
pub holds_after : (titles : List (List ℕ)) (Holds : Hall → List Event → Type 0)
    → ((old new : Hall) (journal made : List Event) → AreAllProper old.entities → Holds old journal → Step titles old made new → Holds new (journal ++ made))
    → (old : Hall) (made : List Event) (new : Hall) → Goes titles old made new → (journal : List Event) → Holds old journal → Holds new (journal ++ made)
holds_after titles Holds keeps old made new (Done o m n none same) journal s =
    subst (λ (h : Hall). Holds h (journal ++ made)) (sym same) (subst (Holds old) (sym (append-nil journal) ∙ ap (λ (es : List Event). journal ++ es) (sym none)) s)
holds_after titles Holds keeps old made new (More o m n mid here rest proper step goes all) journal s =
    subst (Holds new) (append_assoc journal here rest ∙ ap (λ (es : List Event). journal ++ es) (sym all))
    (holds_after titles Holds keeps mid rest new goes (journal ++ here) (keeps old mid journal here proper s step))
