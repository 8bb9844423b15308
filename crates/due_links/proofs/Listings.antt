-- The ids of the entries: they rise, so each is at least its place, and two places have two ids. So what is written under the id of one entry
-- leaves the others as they were; and where all are numbered anew in their order, no place has an id of an entry behind it.
use Rattle.std.proofs.Common.{◌≡◌, ◌≢◌, ◌⊎◌, ℕ, zero, suc, ◌+◌, ◌-◌, ◌<◌, ◌≤◌, List, [], ◌∷◌, ◌++◌, length, get_or, set, Option, Some, None, inl, inr, refl, sym, ap, subst, ◌∙◌, arith, length-append, length-set}
use Rattle.std.specs.List.{remove}
use Rattle.std.proofs.lemmas.Bool.{cases_eq, cases_lt, cases_order}
use Rattle.std.proofs.lemmas.List.{get_or-append_right, get_or-map, get_or-set_other, get_or-set_same, get_or_append_left, get_or_default, get_or_past, length-map, same_lists}
use Rattle.std.proofs.lemmas.List.Edits.{get_or-remove_above, get_or-remove_below}
use Rattle.due_links.specs.Entries.{Entries, TakesDue}
use Rattle.due_links.specs.Ticks.{IsLeast, Pops, tick_at}
use Rattle.due_links.specs.steps.Listing.{AreListed, AreRising, IsId, IsRenumbered, ticks_by}

abbrev Ticks : Type 0
Ticks = List (Option ℕ)

-- ---- ids that rise

pub above : (ids : List ℕ) → AreRising ids → (place : ℕ) → place < length ids → place ≤ get_or ids place 0
above ids rising zero low = omega arith
above ids rising (suc place) low =
    let before = above ids rising place (omega (arith, low)) in
    let more = rising place (suc place) (omega arith) low in
    omega (arith, before, more)

-- so there are no more of them than lie below the next
pub few : (ids : List ℕ) (next : ℕ) → AreRising ids → ((place : ℕ) → place < length ids → get_or ids place 0 < next) → length ids ≤ next
few ids next rising below = by (length ids) refl
  where
    by : (count : ℕ) → length ids ≡ count → length ids ≤ next
    by zero is = omega (arith, is)
    by (suc last) is =
        let low : last < length ids = omega (arith, is) in
        let at = above ids rising last low in
        let under = below last low in
        omega (arith, is, at, under)

pub apart : (ids : List ℕ) → AreRising ids → (one other : ℕ) → one < length ids → other < length ids → one ≢ other → get_or ids one 0 ≢ get_or ids other 0
apart ids rising one other low small differ same = elim (cases_order one other) [
  | inl is ↦ absurd (differ is)
  | inr (inl ahead) ↦ let less = rising one other ahead small in absurd (omega (arith, less, same))
  | inr (inr behind) ↦ let less = rising other one behind low in absurd (omega (arith, less, same))
]

pub tick_by : (due : Ticks) (ids : List ℕ) (place : ℕ) → place < length ids → tick_at (ticks_by due ids) place ≡ tick_at due (get_or ids place 0)
tick_by due ids place low = get_or-map (tick_at due) ids place 0 None low

long_by : (due : Ticks) (ids : List ℕ) → length (ticks_by due ids) ≡ length ids
long_by due ids = length-map ids (tick_at due)

-- two lists of ticks that agree at each place
pub same_ticks : (xs ys : Ticks) → length xs ≡ length ys → ((place : ℕ) → place < length xs → tick_at xs place ≡ tick_at ys place) → xs ≡ ys
same_ticks xs ys long same = same_lists xs ys long (λ k d low. other xs k d low ∙ same k low ∙ sym (other ys k d (omega (arith, low, long))))
  where
    other : (zs : Ticks) (k : ℕ) (d : Option ℕ) → k < length zs → get_or zs k d ≡ get_or zs k None
    other zs k d low = get_or_default zs k d None low

-- ---- one entry more

pub pushed_listed : (due new : Ticks) (ids more : List ℕ) (next : ℕ) (tick : Option ℕ) → AreListed due ids next → next < length due → more ≡ ids ++ next ∷ [] → new ≡ set due next tick
    → AreListed new more (next + 1)
pushed_listed due new ids more next tick h room more_is new_is = record {
  rising = rising;
  below = below;
  known = known;
  low = omega (arith, ap length new_is, length-set due next tick, room);
}
  where
    count : length more ≡ length ids + 1
    count = ap length more_is ∙ length-append ids (next ∷ [])

    at_front : (k : ℕ) → k < length ids → get_or more k 0 ≡ get_or ids k 0
    at_front k low = ap (λ (xs : List ℕ). get_or xs k 0) more_is ∙ get_or_append_left ids (next ∷ []) 0 k low

    at_end : (k : ℕ) → k ≡ length ids → get_or more k 0 ≡ next
    at_end k is =
        let first : k - length ids ≡ 0 = omega (arith, is) in
        ap (λ (xs : List ℕ). get_or xs k 0) more_is ∙ get_or-append_right ids (next ∷ []) (length ids) k 0 refl (omega (arith, is))
        ∙ ap (λ (n : ℕ). get_or (next ∷ []) n 0) first

    below : (k : ℕ) → k < length more → get_or more k 0 < next + 1
    below k low = elim (cases_lt k (length ids)) [
      | inl front ↦ let was = h.below k front in omega (arith, at_front k front, was)
      | inr past ↦ omega (arith, at_end k (omega (arith, past, low, count)))
    ]

    rising : AreRising more
    rising one other less low = elim (cases_lt other (length ids)) [
      | inl front ↦
          let was = h.rising one other less front in
          omega (arith, at_front one (omega (arith, less, front)), at_front other front, was)
      | inr past ↦
          let front : one < length ids = omega (arith, less, low, count) in
          let was = h.below one front in
          omega (arith, at_front one front, at_end other (omega (arith, past, low, count)), was)
    ]

    known : (id at : ℕ) → tick_at new id ≡ Some at → IsId more id
    known id at is = elim (cases_eq id next) [
      | inl same ↦ record { place = length ids; within = omega (arith, count); is = at_end (length ids) refl ∙ sym same }
      | inr other ↦
          let was : tick_at due id ≡ Some at = sym (get_or-set_other due next id tick None other) ∙ (ap (λ (xs : Ticks). tick_at xs id) (sym new_is) ∙ is) in
          let k = h.known id at was in
          let low = k.within in
          record { place = k.place; within = omega (arith, low, count); is = at_front k.place low ∙ k.is }
    ]

pub pushed_ticks : (due new : Ticks) (ids more : List ℕ) (next : ℕ) (tick : Option ℕ) → AreListed due ids next → next < length due → more ≡ ids ++ next ∷ [] → new ≡ set due next tick
    → ticks_by new more ≡ ticks_by due ids ++ tick ∷ []
pushed_ticks due new ids more next tick h room more_is new_is = same_ticks (ticks_by new more) (ticks_by due ids ++ tick ∷ []) long at
  where
    count : length more ≡ length ids + 1
    count = ap length more_is ∙ length-append ids (next ∷ [])

    long : length (ticks_by new more) ≡ length (ticks_by due ids ++ tick ∷ [])
    long = long_by new more ∙ (count ∙ (ap (λ (n : ℕ). n + 1) (sym (long_by due ids)) ∙ sym (length-append (ticks_by due ids) (tick ∷ []))))

    at_front : (k : ℕ) → k < length ids → tick_at (ticks_by new more) k ≡ tick_at (ticks_by due ids ++ tick ∷ []) k
    at_front k low =
        let id : ℕ = get_or ids k 0 in
        let same : get_or more k 0 ≡ id = ap (λ (xs : List ℕ). get_or xs k 0) more_is ∙ get_or_append_left ids (next ∷ []) 0 k low in
        let under = h.below k low in
        tick_by new more k (omega (arith, low, count)) ∙ (ap (tick_at new) same ∙ (ap (λ (xs : Ticks). tick_at xs id) new_is
        ∙ (get_or-set_other due next id tick None (λ is. absurd (omega (arith, under, is))) ∙ (sym (tick_by due ids k low)
        ∙ sym (get_or_append_left (ticks_by due ids) (tick ∷ []) None k (omega (arith, low, long_by due ids)))))))

    at_end : (k : ℕ) → k ≡ length ids → tick_at (ticks_by new more) k ≡ tick_at (ticks_by due ids ++ tick ∷ []) k
    at_end k is =
        let first : k - length ids ≡ 0 = omega (arith, is) in
        let last : k - length (ticks_by due ids) ≡ 0 = omega (arith, is, long_by due ids) in
        let same : get_or more k 0 ≡ next = ap (λ (xs : List ℕ). get_or xs k 0) more_is ∙ get_or-append_right ids (next ∷ []) (length ids) k 0 refl (omega (arith, is))
        ∙ ap (λ (n : ℕ). get_or (next ∷ []) n 0) first in
        tick_by new more k (omega (arith, is, count)) ∙ (ap (tick_at new) same ∙ (ap (λ (xs : Ticks). tick_at xs next) new_is
        ∙ (get_or-set_same due next tick None room ∙ sym (get_or-append_right (ticks_by due ids) (tick ∷ []) (length (ticks_by due ids)) k None refl (omega (arith, is, long_by due ids))
        ∙ ap (λ (n : ℕ). get_or (tick ∷ []) n None) last))))

    at : (k : ℕ) → k < length (ticks_by new more) → tick_at (ticks_by new more) k ≡ tick_at (ticks_by due ids ++ tick ∷ []) k
    at k low = elim (cases_lt k (length ids)) [
      | inl front ↦ at_front k front
      | inr past ↦ at_end k (omega (arith, low, past, count, long_by new more))
    ]

-- ---- the tick of an entry is another

pub set_listed : (due new : Ticks) (ids : List ℕ) (next place id : ℕ) (tick : Option ℕ) → AreListed due ids next → place < length ids → id ≡ get_or ids place 0 → new ≡ set due id tick
    → AreListed new ids next
set_listed due new ids next place id tick h low id_is new_is = record {
  rising = h.rising;
  below = h.below;
  known = known;
  low = omega (arith, ap length new_is, length-set due id tick, h.low);
}
  where
    known : (other at : ℕ) → tick_at new other ≡ Some at → IsId ids other
    known other at is = elim (cases_eq other id) [
      | inl same ↦ record { place = place; within = low; is = sym id_is ∙ sym same }
      | inr differs ↦ h.known other at (sym (get_or-set_other due id other tick None differs) ∙ (ap (λ (xs : Ticks). tick_at xs other) (sym new_is) ∙ is))
    ]

pub set_ticks : (due new : Ticks) (ids : List ℕ) (next place id : ℕ) (tick : Option ℕ) → AreListed due ids next → place < length ids → id ≡ get_or ids place 0 → new ≡ set due id tick
    → ticks_by new ids ≡ set (ticks_by due ids) place tick
set_ticks due new ids next place id tick h low id_is new_is = same_ticks (ticks_by new ids) (set (ticks_by due ids) place tick) long at
  where
    long : length (ticks_by new ids) ≡ length (set (ticks_by due ids) place tick)
    long = long_by new ids ∙ (sym (long_by due ids) ∙ sym (length-set (ticks_by due ids) place tick))

    within : id < length due
    within = let under = h.below place low in omega (arith, under, id_is, h.low)

    at : (k : ℕ) → k < length (ticks_by new ids) → tick_at (ticks_by new ids) k ≡ tick_at (set (ticks_by due ids) place tick) k
    at k inside = elim (cases_eq k place) [
      | inl same ↦
          let here : tick_at (ticks_by new ids) place ≡ tick = tick_by new ids place low ∙ (ap (tick_at new) (sym id_is) ∙ (ap (λ (xs : Ticks). tick_at xs id) new_is ∙ get_or-set_same due id tick None within)) in
          ap (tick_at (ticks_by new ids)) same ∙ (here ∙ (sym (get_or-set_same (ticks_by due ids) place tick None (omega (arith, low, long_by due ids))) ∙ ap (tick_at (set (ticks_by due ids) place tick)) (sym same)))
      | inr differs ↦
          let room : k < length ids = omega (arith, inside, long_by new ids) in
          let other : get_or ids k 0 ≢ id = λ is. apart ids h.rising k place room low differs (is ∙ id_is) in
          tick_by new ids k room ∙ (ap (λ (xs : Ticks). tick_at xs (get_or ids k 0)) new_is ∙ (get_or-set_other due id (get_or ids k 0) tick None other
          ∙ (sym (tick_by due ids k room) ∙ sym (get_or-set_other (ticks_by due ids) place k tick None differs))))
    ]

-- ---- an entry goes

length-without : (xs : List ℕ) (place : ℕ) → place < length xs → length (remove xs place) + 1 ≡ length xs
length-without [] place low = absurd (omega (arith, low))
length-without (x ∷ xs) zero low = omega arith
length-without (x ∷ xs) (suc place) low = let rest = length-without xs place (omega (arith, low)) in omega (arith, rest)

ticks-without : (xs : Ticks) (place : ℕ) → place < length xs → length (remove xs place) + 1 ≡ length xs
ticks-without [] place low = absurd (omega (arith, low))
ticks-without (x ∷ xs) zero low = omega arith
ticks-without (x ∷ xs) (suc place) low = let rest = ticks-without xs place (omega (arith, low)) in omega (arith, rest)

module _ (due new : Ticks) (ids rest : List ℕ) (next place id : ℕ) (h : AreListed due ids next) (low : place < length ids) (id_is : id ≡ get_or ids place 0)
    (rest_is : rest ≡ remove ids place) (new_is : new ≡ set due id None) where
  count : length rest + 1 ≡ length ids
  count = ap (λ (xs : List ℕ). length xs + 1) rest_is ∙ length-without ids place low

  before : (k : ℕ) → k < place → get_or rest k 0 ≡ get_or ids k 0
  before k less = ap (λ (xs : List ℕ). get_or xs k 0) rest_is ∙ get_or-remove_below ids place 0 k less low

  behind : (k : ℕ) → place ≤ k → get_or rest k 0 ≡ get_or ids (k + 1) 0
  behind k more = ap (λ (xs : List ℕ). get_or xs k 0) rest_is ∙ get_or-remove_above ids place 0 k more low

  within : id < length due
  within = let under = h.below place low in omega (arith, under, id_is, h.low)

  pub without_listed : AreListed new rest next
  without_listed = record {
    rising = rising;
    below = below;
    known = known;
    low = omega (arith, ap length new_is, length-set due id None, h.low);
  }
    where
      below : (k : ℕ) → k < length rest → get_or rest k 0 < next
      below k inside = elim (cases_lt k place) [
        | inl less ↦ let was = h.below k (omega (arith, less, low)) in omega (arith, before k less, was)
        | inr more ↦ let was = h.below (k + 1) (omega (arith, inside, count)) in omega (arith, behind k more, was)
      ]

      rising : AreRising rest
      rising one other less inside = elim (cases_lt other place) [
        | inl front ↦
            let was = h.rising one other less (omega (arith, front, low)) in
            omega (arith, before one (omega (arith, less, front)), before other front, was)
        | inr past ↦ elim (cases_lt one place) [
          | inl front ↦
              let was = h.rising one (other + 1) (omega (arith, less)) (omega (arith, inside, count)) in
              omega (arith, before one front, behind other past, was)
          | inr there ↦
              let was = h.rising (one + 1) (other + 1) (omega (arith, less)) (omega (arith, inside, count)) in
              omega (arith, behind one there, behind other past, was)
        ]
      ]

      was_due : (other at : ℕ) → other ≢ id → tick_at new other ≡ Some at → tick_at due other ≡ Some at
      was_due other at differs is = sym (get_or-set_other due id other None None differs) ∙ (ap (λ (xs : Ticks). tick_at xs other) (sym new_is) ∙ is)

      known : (other at : ℕ) → tick_at new other ≡ Some at → IsId rest other
      known other at is = elim (cases_eq other id) [
        | inl same ↦
            let none : tick_at new other ≡ None = ap (tick_at new) same ∙ (ap (λ (xs : Ticks). tick_at xs id) new_is ∙ get_or-set_same due id None None within) in
            let clash : Some at ≡ None = sym is ∙ none in absurd cc
        | inr differs ↦ there (h.known other at (was_due other at differs is)) differs
      ]
        where
          there : IsId ids other → other ≢ id → IsId rest other
          there k differs = elim (cases_order k.place place) [
            | inl same ↦ absurd (differs (sym k.is ∙ (ap (λ (p : ℕ). get_or ids p 0) same ∙ sym id_is)))
            | inr (inl less) ↦ record { place = k.place; within = omega (arith, less, low, count); is = before k.place less ∙ k.is }
            | inr (inr more) ↦
                let inside = k.within in
                let back : (k.place - 1) + 1 ≡ k.place = omega (arith, more) in
                record { place = k.place - 1; within = omega (arith, more, inside, count); is = behind (k.place - 1) (omega (arith, more)) ∙ (ap (λ (p : ℕ). get_or ids p 0) back ∙ k.is) }
          ]

  pub without_ticks : ticks_by new rest ≡ remove (ticks_by due ids) place
  without_ticks = same_ticks (ticks_by new rest) (remove (ticks_by due ids) place) long at
    where
      inside : place < length (ticks_by due ids)
      inside = omega (arith, low, long_by due ids)

      long : length (ticks_by new rest) ≡ length (remove (ticks_by due ids) place)
      long = omega (arith, long_by new rest, count, long_by due ids, ticks-without (ticks_by due ids) place inside)

      kept : (k : ℕ) → k < length ids → k ≢ place → tick_at new (get_or ids k 0) ≡ tick_at (ticks_by due ids) k
      kept k room differs =
          let other : get_or ids k 0 ≢ id = λ is. apart ids h.rising k place room low differs (is ∙ id_is) in
          ap (λ (xs : Ticks). tick_at xs (get_or ids k 0)) new_is ∙ (get_or-set_other due id (get_or ids k 0) None None other ∙ sym (tick_by due ids k room))

      at : (k : ℕ) → k < length (ticks_by new rest) → tick_at (ticks_by new rest) k ≡ tick_at (remove (ticks_by due ids) place) k
      at k small =
          let room : k < length rest = omega (arith, small, long_by new rest) in
          elim (cases_lt k place) [
            | inl less ↦ tick_by new rest k room ∙ (ap (tick_at new) (before k less) ∙ (kept k (omega (arith, room, count)) (λ is. absurd (omega (arith, less, is)))
                ∙ sym (get_or-remove_below (ticks_by due ids) place None k less inside)))
            | inr more ↦ tick_by new rest k room ∙ (ap (tick_at new) (behind k more) ∙ (kept (k + 1) (omega (arith, room, count)) (λ is. absurd (omega (arith, more, is)))
                ∙ sym (get_or-remove_above (ticks_by due ids) place None k more inside)))
          ]

-- ---- the entry of the least tick

pub least_place : (due : Ticks) (ids : List ℕ) (next place id at : ℕ) → AreListed due ids next → place < length ids → get_or ids place 0 ≡ id → IsLeast due id at
    → IsLeast (ticks_by due ids) place at
least_place due ids next place id at h low is least = record {
  set = tick_by due ids place low ∙ (ap (tick_at due) is ∙ least.set);
  least = others;
}
  where
    others : (other later : ℕ) → tick_at (ticks_by due ids) other ≡ Some later → (at < later) ⊎ ((at ≡ later) × (place ≤ other))
    others other later there = elim (cases_lt other (length ids)) [
      | inl inside ↦ elim (least.least (get_or ids other 0) later (sym (tick_by due ids other inside) ∙ there)) [
        | inl sooner ↦ inl sooner
        | inr same ↦ inr (same.0, first other inside same.1)
      ]
      | inr past ↦
          let none : tick_at (ticks_by due ids) other ≡ None = get_or_past (ticks_by due ids) other None (omega (arith, past, long_by due ids)) in
          let clash : Some later ≡ None = sym there ∙ none in absurd cc
    ]
      where
        first : (k : ℕ) → k < length ids → id ≤ get_or ids k 0 → place ≤ k
        first k inside no_less = elim (cases_lt k place) [
          | inl less ↦ let under = h.rising k place less low in absurd (omega (arith, under, is, no_less))
          | inr more ↦ more
        ]

pub none_due : (due : Ticks) (ids : List ℕ) (now : ℕ) → ((id at : ℕ) → tick_at due id ≡ Some at → now < at) → (place at : ℕ) → tick_at (ticks_by due ids) place ≡ Some at → now < at
none_due due ids now later place at is = elim (cases_lt place (length ids)) [
  | inl low ↦ later (get_or ids place 0) at (sym (tick_by due ids place low) ∙ is)
  | inr past ↦
      let none : tick_at (ticks_by due ids) place ≡ None = get_or_past (ticks_by due ids) place None (omega (arith, past, long_by due ids)) in
      let clash : Some at ≡ None = sym is ∙ none in absurd cc
]

-- ---- numbered anew

pub renumbering : (due : Ticks) (ids : List ℕ) → AreListed due ids (length due) → IsRenumbered due ids 0 due ids
renumbering due ids h = record { long = refl; count = refl; ticks = refl; listed = h; own = λ k less low. absurd (omega (arith, less)) }

pub renumbered_more : (old due new : Ticks) (were ids after : List ℕ) (place id : ℕ) → place < length ids → id ≡ get_or ids place 0
    → new ≡ set (set due id None) place (tick_at due id) → after ≡ set ids place place → IsRenumbered old were place due ids → IsRenumbered old were (place + 1) new after
renumbered_more old due new were ids after place id low id_is new_is after_is h = record {
  long = ap length new_is ∙ (length-set (set due id None) place (tick_at due id) ∙ (length-set due id None ∙ h.long));
  count = ap length after_is ∙ (length-set ids place place ∙ h.count);
  ticks = same_ticks (ticks_by new after) (ticks_by due ids) (long_by new after ∙ (long_after ∙ sym (long_by due ids))) at ∙ h.ticks;
  listed = record {
    rising = rising;
    below = below;
    known = known;
    low = omega arith;
  };
  own = own;
}
  where
    rise : AreRising ids
    rise = h.listed.rising

    no_less : place ≤ id
    no_less = let a = above ids rise place low in omega (arith, a, id_is)

    under : id < length due
    under = let b = h.listed.below place low in omega (arith, b, id_is)

    long_new : length new ≡ length due
    long_new = ap length new_is ∙ (length-set (set due id None) place (tick_at due id) ∙ length-set due id None)

    long_after : length after ≡ length ids
    long_after = ap length after_is ∙ length-set ids place place

    here : get_or after place 0 ≡ place
    here = ap (λ (xs : List ℕ). get_or xs place 0) after_is ∙ get_or-set_same ids place place 0 low

    there : (k : ℕ) → k ≢ place → get_or after k 0 ≡ get_or ids k 0
    there k differs = ap (λ (xs : List ℕ). get_or xs k 0) after_is ∙ get_or-set_other ids place k place 0 differs

    own : (k : ℕ) → k < place + 1 → k < length after → get_or after k 0 ≡ k
    own k less inside = elim (cases_eq k place) [
      | inl same ↦ ap (λ (p : ℕ). get_or after p 0) same ∙ (here ∙ sym same)
      | inr differs ↦ there k differs ∙ h.own k (omega (arith, less, differs)) (omega (arith, inside, long_after))
    ]

    -- each other place has another id than that one
    other_id : (k : ℕ) → k < length ids → k ≢ place → get_or ids k 0 ≢ place
    other_id k inside differs is = elim (cases_order k place) [
      | inl same ↦ absurd (differs same)
      | inr (inl less) ↦ let mine = h.own k less inside in absurd (omega (arith, mine, is, less))
      | inr (inr more) ↦ let later = rise place k more inside in absurd (omega (arith, later, id_is, no_less, is))
    ]

    tick_place : tick_at new place ≡ tick_at due id
    tick_place = ap (λ (xs : Ticks). tick_at xs place) new_is ∙ get_or-set_same (set due id None) place (tick_at due id) None (omega (arith, no_less, under, length-set due id None))

    tick_other : (k : ℕ) → k ≢ place → k ≢ id → tick_at new k ≡ tick_at due k
    tick_other k one two = ap (λ (xs : Ticks). tick_at xs k) new_is ∙ (get_or-set_other (set due id None) place k (tick_at due id) None one ∙ get_or-set_other due id k None None two)

    tick_gone : place ≢ id → tick_at new id ≡ None
    tick_gone differs = ap (λ (xs : Ticks). tick_at xs id) new_is
        ∙ (get_or-set_other (set due id None) place id (tick_at due id) None (λ is. differs (sym is)) ∙ get_or-set_same due id None None under)

    at : (k : ℕ) → k < length (ticks_by new after) → tick_at (ticks_by new after) k ≡ tick_at (ticks_by due ids) k
    at k small =
        let room : k < length after = omega (arith, small, long_by new after) in
        let inside : k < length ids = omega (arith, room, long_after) in
        elim (cases_eq k place) [
          | inl same ↦ tick_by new after k room ∙ (ap (λ (p : ℕ). tick_at new (get_or after p 0)) same ∙ (ap (tick_at new) here ∙ (tick_place
              ∙ (ap (tick_at due) id_is ∙ (sym (tick_by due ids place low) ∙ ap (tick_at (ticks_by due ids)) (sym same))))))
          | inr differs ↦ tick_by new after k room ∙ (ap (tick_at new) (there k differs)
              ∙ (tick_other (get_or ids k 0) (other_id k inside differs) (λ is. apart ids rise k place inside low differs (is ∙ id_is)) ∙ sym (tick_by due ids k inside)))
        ]

    below : (k : ℕ) → k < length after → get_or after k 0 < length new
    below k inside = elim (cases_eq k place) [
      | inl same ↦
          let is : get_or after k 0 ≡ place = ap (λ (p : ℕ). get_or after p 0) same ∙ here in
          omega (arith, is, no_less, under, long_new)
      | inr differs ↦ let was = h.listed.below k (omega (arith, inside, long_after)) in omega (arith, there k differs, was, long_new)
    ]

    rising : AreRising after
    rising one other less inside = elim (cases_eq other place) [
      | inl same ↦
          let differs : one ≢ place = λ is. absurd (omega (arith, less, same, is)) in
          let mine = h.own one (omega (arith, less, same)) (omega (arith, less, inside, long_after)) in
          let is : get_or after other 0 ≡ place = ap (λ (p : ℕ). get_or after p 0) same ∙ here in
          omega (arith, there one differs, mine, is, less, same)
      | inr far ↦ elim (cases_eq one place) [
        | inl same ↦
            let later = rise place other (omega (arith, less, same)) (omega (arith, inside, long_after)) in
            let is : get_or after one 0 ≡ place = ap (λ (p : ℕ). get_or after p 0) same ∙ here in
            omega (arith, is, there other far, later, id_is, no_less)
        | inr differs ↦
            let was = rise one other less (omega (arith, inside, long_after)) in
            omega (arith, there one differs, there other far, was)
      ]
    ]

    known : (k tick : ℕ) → tick_at new k ≡ Some tick → IsId after k
    known k tick is = elim (cases_eq k place) [
      | inl same ↦ record { place = place; within = omega (arith, low, long_after); is = here ∙ sym same }
      | inr one ↦ elim (cases_eq k id) [
        | inl mine ↦
            let none : tick_at new k ≡ None = ap (tick_at new) mine ∙ tick_gone (λ same. one (mine ∙ sym same)) in
            let clash : Some tick ≡ None = sym is ∙ none in absurd cc
        | inr two ↦ found (h.listed.known k tick (sym (tick_other k one two) ∙ is)) two
      ]
    ]
      where
        found : IsId ids k → k ≢ id → IsId after k
        found r two =
            let inside = r.within in
            let far : r.place ≢ place = λ same. two (sym r.is ∙ (ap (λ (p : ℕ). get_or ids p 0) same ∙ sym id_is)) in
            record { place = r.place; within = omega (arith, inside, long_after); is = there r.place far ∙ r.is }

-- once all are
pub renumbered_all : (old due : Ticks) (before ids : List ℕ) (place : ℕ) → length ids ≤ place → IsRenumbered old before place due ids → AreListed due ids (length ids)
renumbered_all old due before ids place all h = record {
  rising = h.listed.rising;
  below = λ k low. let mine = h.own k (omega (arith, low, all)) low in omega (arith, mine, low);
  known = h.listed.known;
  low = few ids (length due) h.listed.rising h.listed.below;
}

pub place_fits : (old due : Ticks) (were ids : List ℕ) (place : ℕ) → place < length ids → length old < 4294967296 → IsRenumbered old were place due ids
    → (place < length due) × (place < 4294967296)
place_fits old due were ids place low small h =
    let count = few ids (length due) h.listed.rising h.listed.below in
    (omega (arith, low, count), omega (arith, low, count, h.long, small))

-- ---- what the list shows

abbrev pub entries : ℕ → Ticks → List ℕ → Entries
entries most due ids = record { most = most; ticks = ticks_by due ids }

pub shown_long : (old : Entries) (most : ℕ) (due : Ticks) (ids : List ℕ) → entries most due ids ≡ old → length ids ≡ length old.ticks
shown_long old most due ids is = sym (long_by due ids) ∙ ap (λ (e : Entries). length e.ticks) is

pub shown_pushed : (old : Entries) (most next : ℕ) (due moved new : Ticks) (ids after more : List ℕ) (tick : Option ℕ) → entries most due ids ≡ old → ticks_by moved after ≡ ticks_by due ids
    → AreListed moved after next → next < length moved → more ≡ after ++ next ∷ [] → new ≡ set moved next tick → entries most new more ≡ record old { ticks = old.ticks ++ tick ∷ [] }
shown_pushed old most next due moved new ids after more tick is same h room more_is new_is =
    ap (λ (ticks : Ticks). let e : Entries = record { most = most; ticks = ticks } in e)
    (pushed_ticks moved new after more next tick h room more_is new_is ∙ ap (λ (ticks : Ticks). ticks ++ tick ∷ []) same)
    ∙ ap (λ (e : Entries). let n : Entries = record e { ticks = e.ticks ++ tick ∷ [] } in n) is

pub shown_set : (old : Entries) (most next place id : ℕ) (due new : Ticks) (ids : List ℕ) (tick : Option ℕ) → entries most due ids ≡ old → AreListed due ids next → place < length ids
    → id ≡ get_or ids place 0 → new ≡ set due id tick → entries most new ids ≡ record old { ticks = set old.ticks place tick }
shown_set old most next place id due new ids tick is h low id_is new_is =
    ap (λ (ticks : Ticks). let e : Entries = record { most = most; ticks = ticks } in e) (set_ticks due new ids next place id tick h low id_is new_is)
    ∙ ap (λ (e : Entries). let n : Entries = record e { ticks = set e.ticks place tick } in n) is

pub shown_without : (old : Entries) (most next place id : ℕ) (due new : Ticks) (ids rest : List ℕ) → entries most due ids ≡ old → AreListed due ids next → place < length ids
    → id ≡ get_or ids place 0 → rest ≡ remove ids place → new ≡ set due id None → entries most new rest ≡ record old { ticks = remove old.ticks place }
shown_without old most next place id due new ids rest is h low id_is rest_is new_is =
    ap (λ (ticks : Ticks). let e : Entries = record { most = most; ticks = ticks } in e) (without_ticks due new ids rest next place id h low id_is rest_is new_is)
    ∙ ap (λ (e : Entries). let n : Entries = record e { ticks = remove e.ticks place } in n) is

pub taken_none : (old : Entries) (now most : ℕ) (due new : Ticks) (ids : List ℕ) → entries most due ids ≡ old → Pops due now None new → TakesDue old now None (entries most new ids)
taken_none old now most due new ids is pops = (
  ap (λ (xs : Ticks). entries most xs ids) pops.0 ∙ is,
  λ place at there. none_due due ids now pops.1 place at (ap (λ (e : Entries). tick_at e.ticks place) is ∙ there),
)

pub taken_some : (old : Entries) (now most next place id : ℕ) (due new : Ticks) (ids rest : List ℕ) → entries most due ids ≡ old → AreListed due ids next → place < length ids
    → id ≡ get_or ids place 0 → rest ≡ remove ids place → Pops due now (Some id) new → TakesDue old now (Some place) (entries most new rest)
taken_some old now most next place id due new ids rest is h low id_is rest_is pops = (
  omega (arith, low, shown_long old most due ids is),
  shown_without old most next place id due new ids rest is h low id_is rest_is pops.0,
  pops.1,
  subst (λ (e : Entries). IsLeast e.ticks place pops.1) is (least_place due ids next place id pops.1 h low (sym id_is) pops.2),
  pops.3,
)
