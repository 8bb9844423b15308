-- Units afloat, and strays among what came up.
use Rattle.std.proofs.Common.{◌≡◌, inl, inr, ℕ, zero, suc, ◌+◌, ◌≤◌, ◌&&◌, ◌||◌, Bool, true, false, cond, nat_eq, nat_le, List, [], ◌∷◌, Option, Some, None, leb-true, le-leb, refl, sym, ◌∙◌, ap, subst, arith}
use Rattle.std.specs.Prelude.{IsTrue}
use Rattle.std.specs.List.{AllByRecursion, Contains, list_any}
use Rattle.std.specs.Cmp.Lexicographic.{pointwise}
use Rattle.std.proofs.lemmas.Bool.{and_from, and_parts}
use Rattle.std.proofs.lemmas.List.Elements.{Contains-append_right}
use Rattle.nsap.specs.declared.port.Port.{Port}
use Rattle.osi_base.specs.declared.unit.Unit.{Unit as CarriedUnit}
use Rattle.osi_base.specs.declared.unit.Up.{Up}
use Rattle.osi_base.specs.declared.unit.Up.TheVariants.{Unit as Came, Note as Noted}
use Rattle.osi_base.specs.Floated.{is_unit_of}
use Rattle.osi_base.specs.Link.{Link, AreStrays, IsAfloat, IsLawful, IsNote}
use Rattle.osi_base.proofs.Entries.{is_unit, own_unit}
use Rattle.inactive_step.specs.declared.row.InactiveRow.{InactiveRow}
use Rattle.inactive_step.specs.declared.row.Way.{Way}
use Rattle.inactive_step.specs.Frames.{frame_on, read_up, read_ups, unit_between}
use Rattle.inactive_step.specs.Way.{are_two_on_one_lan, way_between, way_from}
use Rattle.inactive_step.specs.Network.{Inactive, inactive_link}
use Rattle.inactive_step.specs.Rows.{AreAllApart, AreServed, IsPromised, bound_in, is_system_in, row_at, row_on}
use Rattle.inactive_step.specs.Sound.{AreTraced}
use Rattle.inactive_step.specs.Step.{is_afloat, is_live_of, strays_in}
use Rattle.inactive_step.proofs.Found.{found_address, found_of, found_port}

pub lawful_no_strays : {A : Type 0} (seen : Link A) (ups : List (Up A)) → AllByRecursion (IsLawful seen) ups → AreStrays seen ups 0
lawful_no_strays seen [] h = refl
lawful_no_strays seen (Noted note ∷ ups) h = lawful_no_strays seen ups h.1
lawful_no_strays seen (Came arrival ∷ ups) h = inl (h.0.0, lawful_no_strays seen ups h.1)

-- notes stay notes
pub read_notes : (rows : List InactiveRow) (ups : List (Up Port)) → AllByRecursion IsNote ups → AllByRecursion IsNote (read_ups rows ups)
read_notes rows [] h = tt
read_notes rows (Noted note ∷ ups) h = (tt, read_notes rows ups h.1)
read_notes rows (Came arrival ∷ ups) h = absurd h.0

-- both rows of a way
pub record AreEnds (rows : List InactiveRow) (from to : List ℕ) (way : Way) : Type 0 where
  pub source : row_at rows from ≡ Some way.source
  pub goal : row_at rows to ≡ Some way.goal

pub ends_of : (rows : List InactiveRow) (from to : List ℕ) (way : Way) → way_from rows from to ≡ Some way → AreEnds rows from to way
ends_of rows from to way is = by (row_at rows from) (row_at rows to) refl refl is
  where
    by : (a b : Option InactiveRow) → row_at rows from ≡ a → row_at rows to ≡ b → way_between a b ≡ Some way → AreEnds rows from to way
    by None b e f i = absurd (cc)
    by (Some source) None e f i = absurd (cc)
    by (Some source) (Some goal) e f i = both (are_two_on_one_lan source goal) i
      where
        both : (t : Bool) → cond t (Some (record { source = source; goal = goal })) None ≡ Some way → AreEnds rows from to way
        both false j = absurd (cc)
        both true j =
            let same : record { source = source; goal = goal } ≡ way = cc in
            record { source = e ∙ ap (λ (w : Way). Some w.source) same; goal = f ∙ ap (λ (w : Way). Some w.goal) same }

-- ---- a frame is read

pub read_back : (rows : List InactiveRow) (unit : CarriedUnit (List ℕ)) (way : Way) (system : ℕ) → AreAllApart rows → way_from rows unit.from unit.to ≡ Some way
    → read_up rows (Came (record { system = system; unit = frame_on way unit.octets })) ≡ Came (record { system = system; unit = unit })
read_back rows unit way system apart is =
    let ends = ends_of rows unit.from unit.to way is in
    let first : unit_between system (row_on rows way.source.port) (row_on rows way.goal.port) unit.octets ≡ unit_between system (Some way.source) (row_on rows way.goal.port) unit.octets =
    ap (λ (r : Option InactiveRow). unit_between system r (row_on rows way.goal.port) unit.octets) (found_port rows unit.from way.source apart ends.source) in
    let second : unit_between system (Some way.source) (row_on rows way.goal.port) unit.octets ≡ unit_between system (Some way.source) (Some way.goal) unit.octets =
    ap (λ (r : Option InactiveRow). unit_between system (Some way.source) r unit.octets) (found_port rows unit.to way.goal apart ends.goal) in
    let from : way.source.address ≡ unit.from = found_address rows unit.from way.source ends.source in
    let to : way.goal.address ≡ unit.to = found_address rows unit.to way.goal ends.goal in
    first ∙ second ∙ (λ i. Came (record { system = system; unit = record { from = from i; to = to i; octets = unit.octets } }))

-- ---- strays

found_at : {A : Type 0} (test : A → Bool) (xs : List A) → list_any test xs ≡ true → (x : A) × Contains xs x × (test x ≡ true)
found_at test [] h = absurd cc
found_at test (x ∷ xs) h = by (test x) refl (found_at test xs) h
  where
    by : (b : Bool) → test x ≡ b → (list_any test xs ≡ true → (y : _) × Contains xs y × (test y ≡ true)) → (b || list_any test xs) ≡ true → (y : _) × Contains (x ∷ xs) y × (test y ≡ true)
    by true e rest i = (x, (0, omega arith, refl), e)
    by false e rest i = let r = rest i in (r.0, Contains-append_right (x ∷ []) xs r.0 r.1, r.2)

there_any : {A : Type 0} (test : A → Bool) (xs : List A) (x : A) → Contains xs x → test x ≡ true → list_any test xs ≡ true
there_any test [] x (k, low, is) e = absurd (omega (arith, low))
there_any test (y ∷ ys) x (zero, low, is) e = let here : test y ≡ true = ap test is ∙ e in by (test y) (list_any test ys) here
  where
    by : (a b : Bool) → a ≡ true → (a || b) ≡ true
    by true b i = refl
    by false b i = absurd cc
there_any test (y ∷ ys) x (suc k, low, is) e = by (test y) (list_any test ys) (there_any test ys x (k, omega (arith, low), is) e)
  where
    by : (a b : Bool) → b ≡ true → (a || b) ≡ true
    by true b i = refl
    by false b i = i

module _ {C : Type 0} (link : C → Link Port) (net : Inactive C) where
  abbrev now : ℕ
  now = (link net.link).clock

  found : (unit : CarriedUnit (List ℕ)) → is_afloat net.rows now net.floating unit ≡ true → IsAfloat (inactive_link link net) unit
  found unit h =
      let e = found_at (is_live_of now (bound_in (row_at net.rows unit.to)) unit) net.floating h in
      let parts = and_parts (is_unit_of (pointwise nat_eq) unit e.0) (nat_le now (e.0.0 + bound_in (row_at net.rows unit.to))) e.2 in
      let same : e.0.1 ≡ unit = is_unit unit e.0 parts.0 in
      record {
        tick = e.0.0;
        taken = subst (λ (u : CarriedUnit (List ℕ)). Contains net.floating (e.0.0, u)) same e.1;
        live = leb-true now (e.0.0 + bound_in (row_at net.rows unit.to)) parts.1;
      }

  not_found : (unit : CarriedUnit (List ℕ)) → is_afloat net.rows now net.floating unit ≡ false → IsAfloat (inactive_link link net) unit → ⊥
  not_found unit h a =
      let there : is_afloat net.rows now net.floating unit ≡ true =
      there_any (is_live_of now (bound_in (row_at net.rows unit.to)) unit) net.floating (a.tick, unit) a.taken
      (and_from (is_unit_of (pointwise nat_eq) unit (a.tick, unit)) (nat_le now (a.tick + bound_in (row_at net.rows unit.to))) (own_unit unit a.tick) (le-leb now (a.tick + bound_in (row_at net.rows unit.to)) a.live)) in
      absurd cc

  pub strays_are : (ups : List (Up (List ℕ))) → AreStrays (inactive_link link net) ups (strays_in net.rows now net.floating ups)
  strays_are [] = refl
  strays_are (Noted note ∷ ups) = strays_are ups
  strays_are (Came arrival ∷ ups) = by (strays_are ups) (is_afloat net.rows now net.floating arrival.unit) refl
    where
      by : AreStrays (inactive_link link net) ups (strays_in net.rows now net.floating ups) → (b : Bool) → is_afloat net.rows now net.floating arrival.unit ≡ b
          → AreStrays (inactive_link link net) (Came arrival ∷ ups) (cond b (strays_in net.rows now net.floating ups) (strays_in net.rows now net.floating ups + 1))
      by rest true e = inl (found arrival.unit e, rest)
      by rest false e = inr (strays_in net.rows now net.floating ups, not_found arrival.unit e, refl, rest)

  -- ---- an arrival that is lawful below is lawful here

  module _ (served : AreServed (link net.link) net.rows) (traced : AreTraced link net) where
    read_lawful : (up : Up Port) → IsLawful (link net.link) up → IsLawful (inactive_link link net) (read_up net.rows up)
    read_lawful (Noted note) h = tt
    read_lawful (Came arrival) h =
        let f = traced (h.0.tick, arrival.unit) h.0.taken h.0.live in
        let ends = ends_of net.rows f.unit.from f.unit.to f.way f.way_is in
        let promised : IsPromised (link net.link) f.way.goal = found_of (IsPromised (link net.link)) _ net.rows f.way.goal served.promised ends.goal in
        let to : arrival.unit.to ≡ f.way.goal.port = ap (λ (u : CarriedUnit Port). u.to) f.frame_is in
        let bound : (link net.link).bound arrival.unit.to ≡ bound_in (row_at net.rows f.unit.to) =
        ap (λ (p : Port). (link net.link).bound p) to ∙ promised.bound ∙ sym (ap bound_in ends.goal) in
        let belongs : (link net.link).belongs arrival.unit.to arrival.system ≡ is_system_in (row_at net.rows f.unit.to) arrival.system =
        ap (λ (p : Port). (link net.link).belongs p arrival.system) to ∙ promised.belongs arrival.system ∙ sym (ap (λ (r : Option InactiveRow). is_system_in r arrival.system) ends.goal) in
        let read : read_up net.rows (Came arrival) ≡ Came (record { system = arrival.system; unit = f.unit }) =
        ap (λ (u : CarriedUnit Port). read_up net.rows (Came (record { system = arrival.system; unit = u }))) f.frame_is ∙ read_back net.rows f.unit f.way arrival.system served.apart f.way_is in
        subst (IsLawful (inactive_link link net)) (sym read)
        (record { tick = h.0.tick; taken = f.taken; live = subst (λ (n : ℕ). now ≤ h.0.tick + n) bound h.0.live }, subst IsTrue belongs h.1)

    pub all_lawful : (ups : List (Up Port)) → AllByRecursion (IsLawful (link net.link)) ups → AllByRecursion (IsLawful (inactive_link link net)) (read_ups net.rows ups)
    all_lawful [] h = tt
    all_lawful (up ∷ ups) h = (read_lawful up h.0, all_lawful ups h.1)
