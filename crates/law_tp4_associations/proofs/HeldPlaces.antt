-- An end holds its reference as long as it is the latest at its place, and the place is not free. A step of a network between two moves of its
-- clock makes an end only where no other one holds the reference, and leaves all others as they were.
use Rattle.std.proofs.Common.{◌≡◌, ◌⊎◌, inl, inr, ℕ, zero, suc, ◌+◌, ◌-◌, ◌≤◌, Bool, true, false, if◌then◌else◌, List, [], ◌∷◌, ◌++◌, length, slice_get, Option, Some, None, refl, sym, ◌∙◌, ap, arith}
use Rattle.std.proofs.Math.Dec.{eqb-suc-zero}
use Rattle.std.proofs.lemmas.Bool.{cases_eq}
use Rattle.std.proofs.lemmas.Option.{slice_get_within}
use Rattle.tp4_conn.specs.End.{frozen_for}
use Rattle.tp4_entity.specs.Entity.{Entity, end_at}
use Rattle.tp4_entity.specs.References.{is_free_place}
use Rattle.tp4_entity.specs.Silence.{is_silent, is_within}
use Rattle.tp4_world.specs.World.{end_numbered, entity_at, latest, with_entity}
use Rattle.tp4_world.specs.declared.place.EndAt.{EndAt}
use Rattle.tp4_world.specs.declared.place.Placed.{Placed}
use Rattle.tp4_world.proofs.Entities.{with_found}
use Rattle.law_tp4_lawful.proofs.Frames.{entity_other}
use Rattle.law_tp4_lawful.proofs.MakesPlaces.{get_last, latest_last, latest_other}
use Rattle.law_tp4_lawful.proofs.Silence.{Seen}
use Rattle.law_tp4_lawful.proofs.WorldPlaces.{some_same}
use Rattle.law_tp4_lawful.proofs.SilenceSteps.{get_more}

-- ---- numbers

at_number : (ends : List EndAt) (k : ℕ) → end_numbered ends (suc k) ≡ slice_get ends k
at_number ends k =
    let back : suc k - 1 ≡ k = omega arith in
    let none : Option EndAt = None in
    ap (λ (b : Bool). if b then none else slice_get ends (suc k - 1)) (eqb-suc-zero k) ∙ ap (slice_get ends) back

-- a number that was given is at most that of the last end
pub number_low : (ends : List EndAt) (number : ℕ) (end : EndAt) → end_numbered ends number ≡ Some end → number ≤ length ends
number_low ends zero end is = absurd (cc is)
number_low ends (suc k) end is = let low = slice_get_within ends k end (sym (at_number ends k) ∙ is) in omega (arith, low)

still_numbered : (ends : List EndAt) (one : EndAt) (number : ℕ) (end : EndAt) → end_numbered ends number ≡ Some end → end_numbered (ends ++ one ∷ []) number ≡ Some end
still_numbered ends one zero end is = absurd (cc is)
still_numbered ends one (suc k) end is = at_number (ends ++ one ∷ []) k ∙ get_more ends one end k (sym (at_number ends k) ∙ is)

numbered_last : (ends : List EndAt) (one : EndAt) (number : ℕ) (end : EndAt) → end_numbered (ends ++ one ∷ []) number ≡ Some end → (end_numbered ends number ≡ Some end) ⊎ ((length ends + 1 ≡ number) × (one ≡ end))
numbered_last ends one zero end is = absurd (cc is)
numbered_last ends one (suc k) end is = elim (get_last ends one end k (sym (at_number (ends ++ one ∷ []) k) ∙ is)) [
  | inl before ↦ inl (at_number ends k ∙ before)
  | inr now ↦ inr (omega (arith, now.0), now.1)
]

-- ---- references

-- no end that keeps the reference stands there
abbrev pub is_vacant_at : ℕ → Option Entity → ℕ → Bool
is_vacant_at now None reference = true
is_vacant_at now (Some e) reference = is_free_place now (end_at e reference)

abbrev pub is_vacant : Seen → ℕ → ℕ → Bool
is_vacant s system reference = is_vacant_at s.clock (entity_at s.entities system) reference

-- an end that was made there has its reference still
pub record Holds (s : Seen) (number : ℕ) (end : EndAt) : Type 0 where
  pub latest_is : latest s.ends end.system end.reference ≡ number
  pub taken : is_vacant s end.system end.reference ≡ false

-- what silences an entity, and how many references it has, is the same
pub record IsLike (e new : Entity) : Type 0 where
  pub timers : new.timers ≡ e.timers
  pub restarted : new.restarted ≡ e.restarted
  pub count : length new.ends ≡ length e.ends

pub like_then : (e mid new : Entity) → IsLike e mid → IsLike mid new → IsLike e new
like_then e mid new one two = record { timers = two.timers ∙ one.timers; restarted = two.restarted ∙ one.restarted; count = two.count ∙ one.count }

pub like_same : (e new : Entity) → new ≡ e → IsLike e new
like_same e new same = record { timers = ap (λ (x : Entity). x.timers) same; restarted = ap (λ (x : Entity). x.restarted) same; count = ap (λ (x : Entity). length x.ends) same }

pub silent_like : (now : ℕ) (e new : Entity) → IsLike e new → is_silent now new ≡ is_silent now e
silent_like now e new like = λ i. is_within now (frozen_for (like.timers i)) (like.restarted i)

pub record HasLike (s : Seen) (system : ℕ) (e : Entity) : Type 0 where
  pub entity : Entity
  pub there : entity_at s.entities system ≡ Some entity
  pub like : IsLike e entity

-- no end is made, and each reference is free or not as it was
pub record Rests (old new : Seen) : Type 0 where
  pub clock : new.clock ≡ old.clock
  pub ends : new.ends ≡ old.ends
  pub vacant : (system reference : ℕ) → is_vacant new system reference ≡ is_vacant old system reference
  pub kept : (system : ℕ) (e : Entity) → entity_at old.entities system ≡ Some e → HasLike new system e

-- the ends that were made hold what they held, and each that is made holds its reference
pub record Passes (old new : Seen) : Type 0 where
  pub numbered : (number : ℕ) (end : EndAt) → end_numbered old.ends number ≡ Some end → end_numbered new.ends number ≡ Some end
  pub on : (number : ℕ) (end : EndAt) → end_numbered old.ends number ≡ Some end → Holds old number end → Holds new number end
  pub back : (number : ℕ) (end : EndAt) → end_numbered old.ends number ≡ Some end → Holds new number end → Holds old number end
  pub made : (number : ℕ) (end : EndAt) → end_numbered new.ends number ≡ Some end → (end_numbered old.ends number ≡ Some end) ⊎ Holds new number end

pub rests_then : (old mid new : Seen) → Rests old mid → Rests mid new → Rests old new
rests_then old mid new one two = record {
  clock = two.clock ∙ one.clock;
  ends = two.ends ∙ one.ends;
  vacant = λ system reference. two.vacant system reference ∙ one.vacant system reference;
  kept = λ system e is.
      (let first = one.kept system e is in
      let second = two.kept system first.entity first.there in
      record { entity = second.entity; there = second.there; like = like_then e first.entity second.entity first.like second.like });
}

pub passes_then : (old mid new : Seen) → Passes old mid → Passes mid new → Passes old new
passes_then old mid new one two = record {
  numbered = λ number end is. two.numbered number end (one.numbered number end is);
  on = λ number end is h. two.on number end (one.numbered number end is) (one.on number end is h);
  back = λ number end is h. one.back number end is (two.back number end (one.numbered number end is) h);
  made = λ number end is. elim (two.made number end is) [
    | inl before ↦ (elim (one.made number end before) [
      | inl first ↦ inl first
      | inr held ↦ inr (two.on number end before held)
    ])
    | inr held ↦ inr held
  ];
}

pub rests_pass : (old new : Seen) → Rests old new → Passes old new
rests_pass old new r = record {
  numbered = λ number end is. ap (λ (es : List EndAt). end_numbered es number) r.ends ∙ is;
  on = λ number end is h. record { latest_is = ap (λ (es : List EndAt). latest es end.system end.reference) r.ends ∙ h.latest_is; taken = r.vacant end.system end.reference ∙ h.taken };
  back = λ number end is h. record {
    latest_is = ap (λ (es : List EndAt). latest es end.system end.reference) (sym r.ends) ∙ h.latest_is;
    taken = sym (r.vacant end.system end.reference) ∙ h.taken;
  };
  made = λ number end is. inl (ap (λ (es : List EndAt). end_numbered es number) (sym r.ends) ∙ is);
}

-- where nothing is seen to change
pub rests_same : (old new : Seen) → new ≡ old → Rests old new
rests_same old new same = record {
  clock = ap (λ (s : Seen). s.clock) same;
  ends = ap (λ (s : Seen). s.ends) same;
  vacant = λ system reference. ap (λ (s : Seen). is_vacant s system reference) same;
  kept = λ system e is. record { entity = e; there = ap (λ (s : Seen). entity_at s.entities system) same ∙ is; like = like_same e e refl };
}

pub true_false : (b : Bool) → b ≡ true → b ≡ false → ⊥
true_false true on off = cc off
true_false false on off = cc on

-- one end is made, at a reference that is free
module _ (old new : Seen) (system reference : ℕ) (ends : new.ends ≡ old.ends ++ record { system = system; reference = reference } ∷ []) (free : is_vacant old system reference ≡ true)
    (taken : is_vacant new system reference ≡ false) (others : (at r : ℕ) → (at ≡ system → r ≡ reference → ⊥) → is_vacant new at r ≡ is_vacant old at r) where
  here_or : (end : EndAt) → ((end.system ≡ system) × (end.reference ≡ reference)) ⊎ (end.system ≡ system → end.reference ≡ reference → ⊥)
  here_or end = elim (cases_eq end.system system) [
    | inl one ↦ (elim (cases_eq end.reference reference) [
      | inl two ↦ inl (one, two)
      | inr apart ↦ inr (λ _ same. apart same)
    ])
    | inr apart ↦ inr (λ same _. apart same)
  ]

  latest_there : (end : EndAt) → (end.system ≡ system → end.reference ≡ reference → ⊥) → latest new.ends end.system end.reference ≡ latest old.ends end.system end.reference
  latest_there end apart = ap (λ (es : List EndAt). latest es end.system end.reference) ends ∙ latest_other old.ends system reference end.system end.reference apart

  latest_now : (end : EndAt) → end.system ≡ system → end.reference ≡ reference → latest new.ends end.system end.reference ≡ length old.ends + 1
  latest_now end one two =
      ap (λ (es : List EndAt). latest es end.system end.reference) ends
      ∙ ap (λ (at : ℕ). latest (old.ends ++ record { system = system; reference = reference } ∷ []) at end.reference) one
      ∙ ap (λ (r : ℕ). latest (old.ends ++ record { system = system; reference = reference } ∷ []) system r) two ∙ latest_last old.ends system reference

  vacant_at : (s : Seen) (end : EndAt) → end.system ≡ system → end.reference ≡ reference → is_vacant s end.system end.reference ≡ is_vacant s system reference
  vacant_at s end one two = ap (λ (at : ℕ). is_vacant s at end.reference) one ∙ ap (λ (r : ℕ). is_vacant s system r) two

  still : (number : ℕ) (end : EndAt) → Holds old number end → Holds new number end
  still number end h = elim (here_or end) [
    | inl same ↦ absurd (true_false (is_vacant old end.system end.reference) (vacant_at old end same.0 same.1 ∙ free) h.taken)
    | inr apart ↦ record { latest_is = latest_there end apart ∙ h.latest_is; taken = others end.system end.reference apart ∙ h.taken }
  ]

  before : (number : ℕ) (end : EndAt) → end_numbered old.ends number ≡ Some end → Holds new number end → Holds old number end
  before number end is h = elim (here_or end) [
    | inl same ↦ (let low = number_low old.ends number end is in let last = latest_now end same.0 same.1 in absurd (omega (arith, low, last, h.latest_is)))
    | inr apart ↦ record { latest_is = sym (latest_there end apart) ∙ h.latest_is; taken = sym (others end.system end.reference apart) ∙ h.taken }
  ]

  is_made : (number : ℕ) (end : EndAt) → end_numbered new.ends number ≡ Some end → (end_numbered old.ends number ≡ Some end) ⊎ Holds new number end
  is_made number end is = elim (numbered_last old.ends (record { system = system; reference = reference }) number end (ap (λ (es : List EndAt). end_numbered es number) (sym ends) ∙ is)) [
    | inl first ↦ inl first
    | inr last ↦
        (let one : end.system ≡ system = ap (λ (e : EndAt). e.system) (sym last.1) in
        let two : end.reference ≡ reference = ap (λ (e : EndAt). e.reference) (sym last.1) in
        inr (record { latest_is = latest_now end one two ∙ last.0; taken = vacant_at new end one two ∙ taken }))
  ]

  pub made_passes : Passes old new
  made_passes = record {
    numbered = λ number end is. ap (λ (es : List EndAt). end_numbered es number) ends ∙ still_numbered old.ends (record { system = system; reference = reference }) number end is;
    on = λ number end is h. still number end h;
    back = before;
    made = is_made;
  }

-- ---- the entity of a system becomes another

module _ (now : ℕ) (entities : List Placed) (system : ℕ) (was new : Entity) (is : entity_at entities system ≡ Some was) where
  abbrev pub changed : List Placed
  changed = with_entity entities system new

  pub vacant_new : (r : ℕ) → is_vacant_at now (entity_at changed system) r ≡ is_free_place now (end_at new r)
  vacant_new r = ap (λ (e : Option Entity). is_vacant_at now e r) (with_found entities system was new is)

  pub vacant_was : (r : ℕ) → is_vacant_at now (entity_at entities system) r ≡ is_free_place now (end_at was r)
  vacant_was r = ap (λ (e : Option Entity). is_vacant_at now e r) is

  pub vacant_others : (other r : ℕ) → (other ≡ system → ⊥) → is_vacant_at now (entity_at changed other) r ≡ is_vacant_at now (entity_at entities other) r
  vacant_others other r apart = ap (λ (e : Option Entity). is_vacant_at now e r) (entity_other entities system other new apart)

  -- at a reference that is free or not as before
  pub vacant_there : (other r : ℕ) → other ≡ system → is_free_place now (end_at new r) ≡ is_free_place now (end_at was r) → is_vacant_at now (entity_at changed other) r ≡ is_vacant_at now (entity_at entities other) r
  vacant_there other r here same =
      ap (λ (s : ℕ). is_vacant_at now (entity_at changed s) r) here ∙ vacant_new r ∙ same ∙ sym (vacant_was r) ∙ sym (ap (λ (s : ℕ). is_vacant_at now (entity_at entities s) r) here)

  pub vacant_same : ((r : ℕ) → is_free_place now (end_at new r) ≡ is_free_place now (end_at was r)) → (other r : ℕ) → is_vacant_at now (entity_at changed other) r ≡ is_vacant_at now (entity_at entities other) r
  vacant_same same other r = elim (cases_eq other system) [
    | inl here ↦ vacant_there other r here (same r)
    | inr apart ↦ vacant_others other r apart
  ]

  pub kept_like : (clock : ℕ) (ends : List EndAt) → IsLike was new → (other : ℕ) (e : Entity) → entity_at entities other ≡ Some e → HasLike (record { clock = clock; entities = changed; ends = ends }) other e
  kept_like clock ends like other e there = elim (cases_eq other system) [
    | inl here ↦
        (let same : was ≡ e = some_same was e (sym is ∙ sym (ap (entity_at entities) here) ∙ there) in
        record { entity = new; there = ap (entity_at changed) here ∙ with_found entities system was new is; like = like_then e was new (like_same e was same) like })
    | inr apart ↦ record { entity = e; there = entity_other entities system other new apart ∙ there; like = like_same e e refl }
  ]
