-- Identifiers: a half is begun again only when nothing of it is afloat, and within a half they rise; so units of one system that are
-- afloat go on having different ones.
use Rattle.std.proofs.Common.{◌≡◌, ◌≢◌, ◌⊎◌, inl, inr, ℕ, ◌+◌, ◌<◌, ◌≤◌, Bool, true, false, ◌==◌, ◌||◌, ◌&&◌, nat_lt, nat_le, if◌then◌else◌, List, [], ◌∷◌, ◌++◌, map, Option, Some, None, refl, sym, ◌∙◌, ap, subst, arith}
use Rattle.std.proofs.lemmas.Grind.{common_steps}
use Rattle.std.proofs.lemmas.Bool.{leb-false}
use Rattle.std.specs.List.{AllByRecursion, filter}
use Rattle.clnp_system.specs.Identifiers.{begins_half, is_recent, is_spent, last_of, numbered}
use Rattle.clnp_system.specs.Node.{Node, at_tick}
use Rattle.clnp_system.specs.Sending.{numbered_if}
use Rattle.clnp_system.specs.Setting.{is_own_system}
use Rattle.law_clnp_step.specs.Sound.{AreTellable, HaveDifferentIds, IsNumbered, IsNumberedBy, Origin, half_given}

cases : (b : Bool) → (b ≡ true) ⊎ (b ≡ false)
cases true = inl refl
cases false = inr refl

not_recent : (slot : Option ℕ) (since now life : ℕ) → slot ≡ Some since → is_recent slot now life ≡ false → since + life < now
not_recent None since now life is h = absurd cc
not_recent (Some tick) since now life is h = let e : tick ≡ since = cc in let low : tick + life < now = leb-false now (tick + life) h in omega (arith, e, low)

pub and_false : (a b : Bool) → a ≡ true → (a && b) ≡ false → b ≡ false
and_false true b e h = h
and_false false b e h = absurd cc

module _ {N : Type 0} (node : Node N) (now : ℕ) (may : is_spent node now ≡ false) where
  -- the unit is afloat, and was taken by now
  pub record IsAfloatNow (tick : ℕ) : Type 0 where
    pub young : now ≤ tick + node.setup.life
    pub past : tick ≤ now

  gone : (id since : ℕ) → half_given node id ≡ Some since → nat_lt id 32768 ≡ nat_lt node.next_id 32768 → begins_half node.next_id ≡ true → since + node.setup.life < now
  gone id since given half starts =
      not_recent (last_of node) since now node.setup.life (sym (ap (λ (b : Bool). if b then node.low else node.high) half) ∙ given)
      (and_false (begins_half node.next_id) (is_recent (last_of node) now node.setup.life) starts may)

  -- no identifier afloat of the half that is next is the next one or lies behind it
  below_next : (tick id : ℕ) → IsNumbered node tick id → IsAfloatNow tick → nat_lt id 32768 ≡ nat_lt node.next_id 32768 → id < node.next_id
  below_next tick id h a half = elim (cases (begins_half node.next_id)) [
    | inl starts ↦ absurd (omega (arith, gone id h.since h.given half starts, a.young, h.sooner))
    | inr goes_on ↦ h.below goes_on half
  ]

  pub fresh_id : (tick id : ℕ) → IsNumbered node tick id → IsAfloatNow tick → id ≢ node.next_id
  fresh_id tick id h a same = let low : id < node.next_id = below_next tick id h a (ap (λ (n : ℕ). nat_lt n 32768) same) in omega (arith, low, same)

  -- the last tick of a half is what it was, or this one
  pick : (a b : Bool) (low high : Option ℕ) (since : ℕ) → (if b then low else high) ≡ Some since
      → (s : ℕ) × ((if b then (if a then Some now else low) else (if a then high else Some now)) ≡ Some s) × ((s ≡ since) ⊎ (s ≡ now))
  pick true true low high since h = (now, refl, inr refl)
  pick true false low high since h = (since, h, inl refl)
  pick false true low high since h = (since, h, inl refl)
  pick false false low high since h = (now, refl, inr refl)

  half_next : (id next : ℕ) → next < 65536 → begins_half (if next == 65535 then 0 else next + 1) ≡ false → nat_lt id 32768 ≡ nat_lt (if next == 65535 then 0 else next + 1) 32768
      → (nat_lt id 32768 ≡ nat_lt next 32768) × (next < (if next == 65535 then 0 else next + 1))
  half_next id next fits goes_on same = grind (arith, common_steps, fits, goes_on, same)

  sooner_of : (tick since s : ℕ) → tick ≤ since → tick ≤ now → (s ≡ since) ⊎ (s ≡ now) → tick ≤ s
  sooner_of tick since s a b (inl e) = omega (arith, a, e)
  sooner_of tick since s a b (inr e) = omega (arith, b, e)

  -- what was given stays so
  still_numbered : (tick id : ℕ) → node.next_id < 65536 → IsNumbered node tick id → IsAfloatNow tick → IsNumbered (numbered (at_tick now node) now) tick id
  still_numbered tick id fits h a =
      let p = pick (nat_lt node.next_id 32768) (nat_lt id 32768) node.low node.high h.since h.given in record {
        fits = h.fits;
        since = p.0;
        given = p.1;
        sooner = sooner_of tick h.since p.0 h.sooner a.past p.2;
        below = λ goes_on half.
            let same = half_next id node.next_id fits goes_on half in
            let low : id < node.next_id = below_next tick id h a same.0 in
            omega (arith, low, same.1);
      }

  pick_new : (a : Bool) (low high : Option ℕ) → (if a then (if a then Some now else low) else (if a then high else Some now)) ≡ Some now
  pick_new true low high = refl
  pick_new false low high = refl

  pub new_numbered : node.next_id < 65536 → IsNumbered (numbered (at_tick now node) now) now node.next_id
  new_numbered fits = record {
    fits = fits;
    since = now;
    given = pick_new (nat_lt node.next_id 32768) node.low node.high;
    sooner = omega arith;
    below = λ goes_on half. (half_next node.next_id node.next_id fits goes_on half).1;
  }

  pub next_fits : node.next_id < 65536 → (numbered (at_tick now node) now).next_id < 65536
  next_fits h = grind (arith, common_steps, h)

  pub all_numbered : (origins : List Origin) → node.next_id < 65536 → AllByRecursion (λ origin. IsAfloatNow origin.tick) origins → AllByRecursion (IsNumberedBy node) origins
      → AllByRecursion (IsNumberedBy (numbered (at_tick now node) now)) origins
  all_numbered [] fits a h = tt
  all_numbered (origin ∷ origins) fits a h = ((λ own id is. still_numbered origin.tick id fits (h.0 own id is) a.0), all_numbered origins fits a.1 h.1)
