-- What those above see of the network: units afloat, strays among what came up, and the systems of a destination, which stay.
use Rattle.std.proofs.Common.{◌≡◌, ◌⊎◌, ◌==◌, ◌&&◌, ◌||◌, ℕ, zero, suc, ◌+◌, ◌<◌, ◌≤◌, min, Bool, true, false, nat_eq, List, [], ◌∷◌, ◌++◌, map, refl, sym, ◌∙◌, ap, subst, inl, inr, arith, Option, Some, None}
use Rattle.std.specs.Prelude.{IsTrue}
use Rattle.std.specs.List.{All, AllByRecursion, Contains, list_any}
use Rattle.std.specs.Cmp.Lexicographic.{pointwise}
use Rattle.std.proofs.lemmas.Bool.{and_from}
use Rattle.std.proofs.lemmas.List.Elements.{All-from_recursion}
use Rattle.nsap.specs.declared.port.Port.{Port}
use Rattle.osi_base.specs.declared.unit.Unit.{Unit as CarriedUnit}
use Rattle.osi_base.specs.declared.unit.Up.{Up}
use Rattle.osi_base.specs.declared.unit.Up.TheVariants.{Unit as Came, Note as Noted}
use Rattle.osi_base.specs.Floated.{is_unit_of}
use Rattle.osi_base.specs.Link.{Link, AreStrays, IsAfloat, IsLawful}
use Rattle.osi_base.proofs.Entries.{is_unit, own_unit}
use Rattle.clnp_system.specs.Node.{Node}
use Rattle.clnp_system.specs.Setting.{Setting, is_own_system}
use Rattle.law_clnp_step.specs.Network.{Network, is_end_of, net_link}
use Rattle.law_clnp_step.specs.Sound.{IsAmong, Origin, entry_of, settings_of}
use Rattle.law_clnp_step.specs.Step.{strays_in}
use Rattle.law_clnp_step.proofs.Lists.{among_all, among_contains, among_map, contains_among}
use Rattle.law_clnp_step.proofs.Received.{IsFine, IsShown}

-- ---- systems

abbrev is_end_setting : List ℕ → ℕ → Setting → Bool
is_end_setting to system setting = setting.system == system && setting.end && is_own_system setting to

by_settings : {N : Type 0} (to : List ℕ) (system : ℕ) (nodes : List (Node N)) → list_any (is_end_of to system) nodes ≡ list_any (is_end_setting to system) (settings_of nodes)
by_settings to system [] = refl
by_settings to system (node ∷ nodes) = ap (λ (b : Bool). is_end_of to system node || b) (by_settings to system nodes)

pub belongs_same : {N : Type 0} (to : List ℕ) (system : ℕ) (old new : List (Node N)) → settings_of new ≡ settings_of old → list_any (is_end_of to system) new ≡ list_any (is_end_of to system) old
belongs_same to system old new same = by_settings to system new ∙ ap (list_any (is_end_setting to system)) same ∙ sym (by_settings to system old)

found_true : {A : Type 0} (test : A → Bool) (x : A) (xs : List A) → IsAmong x xs → test x ≡ true → list_any test xs ≡ true
found_true test x [] h e = absurd h
found_true test x (y ∷ ys) (inl same) e = ap (λ (b : Bool). b || list_any test ys) (ap test (sym same) ∙ e)
found_true test x (y ∷ ys) (inr h) e = or_last (test y) (list_any test ys) (found_true test x ys h e)
  where
    or_last : (a b : Bool) → b ≡ true → (a || b) ≡ true
    or_last true b h = refl
    or_last false b h = h

-- ---- units afloat

-- the entry of that unit, where one is found
entry_found : (unit : CarriedUnit (List ℕ)) (entries : List (ℕ × CarriedUnit (List ℕ))) → list_any (is_unit_of (pointwise nat_eq) unit) entries ≡ true
    → (tick : ℕ) × IsAmong (tick, unit) entries
entry_found unit [] h = absurd cc
entry_found unit (entry ∷ entries) h = by_first (entry_found unit entries) (is_unit_of (pointwise nat_eq) unit entry) refl h
  where
    by_first : (list_any (is_unit_of (pointwise nat_eq) unit) entries ≡ true → (tick : ℕ) × IsAmong (tick, unit) entries) → (b : Bool) → is_unit_of (pointwise nat_eq) unit entry ≡ b → (b || list_any (is_unit_of (pointwise nat_eq) unit) entries) ≡ true → (tick : ℕ) × IsAmong (tick, unit) (entry ∷ entries)
    by_first rest true e h = (entry.0, inl (ap (λ (u : CarriedUnit (List ℕ)). (entry.0, u)) (sym (is_unit unit entry e))))
    by_first rest false e h = let r = rest h in (r.0, inr r.1)

module _ {C N : Type 0} (link : C → Link Port) (net : Network C N)
    (young : AllByRecursion (λ entry. (link net.link).clock ≤ entry.0 + net.life) net.floating.entries)
  where
    afloat : (tick : ℕ) (unit : CarriedUnit (List ℕ)) → IsAmong (tick, unit) net.floating.entries → IsAfloat (net_link link net) unit
    afloat tick unit h = record {
      tick = tick;
      taken = contains_among (tick, unit) net.floating.entries h;
      live = among_all (λ entry. (link net.link).clock ≤ entry.0 + net.life) (tick, unit) net.floating.entries h young;
    }

    found : (unit : CarriedUnit (List ℕ)) → list_any (is_unit_of (pointwise nat_eq) unit) net.floating.entries ≡ true → IsAfloat (net_link link net) unit
    found unit h = let e = entry_found unit net.floating.entries h in afloat e.0 unit e.1

    not_found : (unit : CarriedUnit (List ℕ)) → list_any (is_unit_of (pointwise nat_eq) unit) net.floating.entries ≡ false → IsAfloat (net_link link net) unit → ⊥
    not_found unit h a =
        let there : list_any (is_unit_of (pointwise nat_eq) unit) net.floating.entries ≡ true =
        found_true (is_unit_of (pointwise nat_eq) unit) (a.tick, unit) net.floating.entries (among_contains (a.tick, unit) net.floating.entries a.taken) (own_unit unit a.tick) in
        absurd cc

    -- strays are counted exactly
    pub strays_are : (ups : List (Up (List ℕ))) → AreStrays (net_link link net) ups (strays_in net.floating.entries ups)
    strays_are [] = refl
    strays_are (Noted note ∷ ups) = strays_are ups
    strays_are (Came arrival ∷ ups) = by_test (strays_are ups) (list_any (is_unit_of (pointwise nat_eq) arrival.unit) net.floating.entries) refl
      where
        by_test : AreStrays (net_link link net) ups (strays_in net.floating.entries ups) → (b : Bool) → list_any (is_unit_of (pointwise nat_eq) arrival.unit) net.floating.entries ≡ b
            → AreStrays (net_link link net) (Came arrival ∷ ups) (Rattle.std.specs.Prelude.cond b (strays_in net.floating.entries ups) (strays_in net.floating.entries ups + 1))
        by_test rest true e = inl (found arrival.unit e, rest)
        by_test rest false e = inr (strays_in net.floating.entries ups, not_found arrival.unit e, refl, rest)

    -- what is shown of units afloat is lawful, and so no stray
    lawful_one : (origins : List Origin) → net.floating.entries ≡ map entry_of origins → (up : Up (List ℕ)) → IsFine origins net.life (link net.link).clock (settings_of net.nodes) up
        → IsLawful (net_link link net) up
    lawful_one origins entries (Noted note) h = tt
    lawful_one origins entries (Came arrival) h =
        let there : IsAmong (h.origin.tick, h.origin.unit) net.floating.entries =
        subst (IsAmong (h.origin.tick, h.origin.unit)) (sym entries) (among_map entry_of h.origin origins h.there) in
        let belongs : list_any (is_end_of arrival.unit.to arrival.system) net.nodes ≡ true =
        by_settings arrival.unit.to arrival.system net.nodes
        ∙ found_true (is_end_setting arrival.unit.to arrival.system) h.setting (settings_of net.nodes) h.stands
        (and_from _ _ (and_from _ _ (same_system h.setting.system arrival.system h.system) h.end) h.own) in
        (subst (IsAfloat (net_link link net)) (sym h.unit_is) (afloat h.origin.tick h.origin.unit there), belongs)
      where
        same_system : (one other : ℕ) → one ≡ other → (one == other) ≡ true
        same_system one other e = grind (arith, e)

    pub all_lawful : (origins : List Origin) → net.floating.entries ≡ map entry_of origins → (ups : List (Up (List ℕ)))
        → AllByRecursion (IsFine origins net.life (link net.link).clock (settings_of net.nodes)) ups → AllByRecursion (IsLawful (net_link link net)) ups
    all_lawful origins entries [] h = tt
    all_lawful origins entries (up ∷ ups) h = (lawful_one origins entries up h.0, all_lawful origins entries ups h.1)

pub lawful_no_strays : {A : Type 0} (seen : Link A) (ups : List (Up A)) → AllByRecursion (IsLawful seen) ups → AreStrays seen ups 0
lawful_no_strays seen [] h = refl
lawful_no_strays seen (Noted note ∷ ups) h = lawful_no_strays seen ups h.1
lawful_no_strays seen (Came arrival ∷ ups) h = inl (h.0.0, lawful_no_strays seen ups h.1)
