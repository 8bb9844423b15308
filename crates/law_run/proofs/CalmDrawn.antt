-- What the lines of a set-up come to, taken one after another: the titles of its end systems, its LANs, the ports and the rows that its lines name,
-- and no others.
use Rattle.std.proofs.Common.{◌≡◌, ◌⊎◌, ℕ, zero, suc, ◌+◌, true, List, [], ◌∷◌, ◌++◌, length, map, Option, Some, None, inl, inr, refl, sym, ◌∙◌, ap, subst, arith, length-append, append_assoc}
use Rattle.std.specs.Prelude.{slice_get, slice_set}
use Rattle.std.specs.List.{AllByRecursion, Contains}
use Rattle.std.proofs.lemmas.List.{append-nil, map-append}
use Rattle.nsap.specs.declared.port.Hop.{Hop}
use Rattle.script_lines.specs.declared.settings.Key.{Key}
use Rattle.script_lines.specs.declared.settings.Key.TheVariants as keys
use Rattle.script_lines.specs.declared.line.Line.{Line}
use Rattle.script_lines.specs.declared.line.Line.TheVariants as lines
use Rattle.law_tp4_pair.specs.CalmScript.{end_systems, intermediate_systems, lans}
use Rattle.script_setup.specs.SetUp.{System, SetUp, hop_to, routed, selected, set_up, titles_of, with_route, with_selector, with_time}
use Rattle.script_setup.specs.Fitting.{Fits}
use Rattle.script_setup.proofs.Elements.{push}
use Rattle.script_setup.proofs.Wellness.{set_titles}

-- each line fits the set-up that the lines before it made
abbrev pub SetBy : SetUp → List Line → SetUp → Type 0
SetBy old [] new = new ≡ old
SetBy old (line ∷ script) new = Fits old line × SetBy (set_up old line) script new

-- one that stands in a list is the first, or stands behind it
pub first_or_behind : {A : Type 0} (x y : A) (xs : List A) → Contains (x ∷ xs) y → (x ≡ y) ⊎ Contains xs y
first_or_behind x y xs (zero, lt, is) = inl is
first_or_behind x y xs (suc k, lt, is) = inr (k, omega arith, is)

-- ---- a time leaves all else

pub record IsElseSame (old new : SetUp) : Type 0 where
  pub lans : new.lans ≡ old.lans
  pub systems : new.systems ≡ old.systems
  pub ports : new.ports ≡ old.ports

pub time_leaves : (old : SetUp) (key : Key) (value : ℕ) → IsElseSame old (with_time old key value)
time_leaves old keys.Life value = record { lans = refl; systems = refl; ports = refl }
time_leaves old keys.T1 value = record { lans = refl; systems = refl; ports = refl }
time_leaves old keys.W value = record { lans = refl; systems = refl; ports = refl }
time_leaves old keys.I value = record { lans = refl; systems = refl; ports = refl }
time_leaves old keys.N value = record { lans = refl; systems = refl; ports = refl }
time_leaves old keys.Refs value = record { lans = refl; systems = refl; ports = refl }
time_leaves old keys.Credit value = record { lans = refl; systems = refl; ports = refl }
time_leaves old keys.Ct value = record { lans = refl; systems = refl; ports = refl }
time_leaves old keys.Hold value = record { lans = refl; systems = refl; ports = refl }

-- ---- what a line does to the systems' titles and kinds

abbrev ends_all : List System → Type 0
ends_all systems = AllByRecursion (λ (s : System). s.end ≡ true) systems

set_ends : (systems : List System) (i : ℕ) (system new : System) → slice_get systems i ≡ Some system → new.end ≡ system.end → ends_all systems → ends_all (slice_set systems i new)
set_ends [] i system new is same all = tt
set_ends (first ∷ systems) zero system new is same all = let here : first ≡ system = cc in (same ∙ ap (λ (s : System). s.end) (sym here) ∙ all.0, all.1)
set_ends (first ∷ systems) (suc i) system new is same all = (all.0, set_ends systems i system new is same all.1)

-- the systems keep their titles and kinds
record KeepsSystems (old new : List System) : Type 0 where
  titles : map (λ (s : System). s.title) new ≡ map (λ (s : System). s.title) old
  ends : ends_all old → ends_all new

same_systems : (old : List System) → KeepsSystems old old
same_systems old = record { titles = refl; ends = λ all. all }

one_changed : (systems : List System) (i : ℕ) (system new : System) → slice_get systems i ≡ Some system → new.title ≡ system.title → new.end ≡ system.end → KeepsSystems systems (slice_set systems i new)
one_changed systems i system new is title end = record { titles = set_titles systems i system new is title; ends = set_ends systems i system new is end }

by_route : (systems : List System) (i : ℕ) (prefix : List ℕ) (hop : Option Hop) → KeepsSystems systems (with_route systems i prefix hop)
by_route systems i prefix None = same_systems systems
by_route systems i prefix (Some hop) = by (slice_get systems i) refl
  where
    by : (found : Option System) → slice_get systems i ≡ found → KeepsSystems systems (routed systems i prefix hop found)
    by None is = same_systems systems
    by (Some system) is = one_changed systems i system (record system { rows = system.rows ++ record { prefix = prefix; hop = hop } ∷ [] }) is refl refl

by_selector : (systems : List System) (i : ℕ) (selector : List ℕ) → KeepsSystems systems (with_selector systems i selector)
by_selector systems i selector = by (slice_get systems i) refl
  where
    by : (found : Option System) → slice_get systems i ≡ found → KeepsSystems systems (selected systems i selector found)
    by None is = same_systems systems
    by (Some system) is = one_changed systems i system (record system { selectors = system.selectors ++ selector ∷ [] }) is refl refl

-- the titles and the kinds of the systems after these lines, where there is no intermediate system
pub record AreEndSystems (old : SetUp) (script : List Line) (new : SetUp) : Type 0 where
  pub titles : titles_of new ≡ titles_of old ++ end_systems script
  pub ends : AllByRecursion (λ (s : System). s.end ≡ true) new.systems

kept_ends : (old mid new : SetUp) (script : List Line) → KeepsSystems old.systems mid.systems → ends_all old.systems → (ends_all mid.systems → AreEndSystems mid script new)
    → AreEndSystems old script new
kept_ends old mid new script keeps all rest =
    let behind = rest (keeps.ends all) in
    record { titles = behind.titles ∙ ap (λ (t : List (List ℕ)). t ++ end_systems script) keeps.titles; ends = behind.ends }

new_end : (old new : SetUp) (title : List ℕ) (script : List Line) → ends_all old.systems
    → (ends_all (old.systems ++ record { end = true; title = title; rows = []; selectors = [] } ∷ []) → AreEndSystems (record old { systems = old.systems ++ record { end = true; title = title; rows = []; selectors = [] } ∷ [] }) script new)
    → (titles_of new ≡ titles_of old ++ (title ∷ end_systems script)) × AllByRecursion (λ (s : System). s.end ≡ true) new.systems
new_end old new title script all rest =
    let added : System = record { end = true; title = title; rows = []; selectors = [] } in
    let behind = rest (push (λ (s : System). s.end ≡ true) old.systems added all refl) in
    let more : map (λ (s : System). s.title) (old.systems ++ added ∷ []) ≡ titles_of old ++ title ∷ [] = map-append (λ (s : System). s.title) old.systems (added ∷ []) in
    (behind.titles ∙ ap (λ (t : List (List ℕ)). t ++ end_systems script) more ∙ append_assoc (titles_of old) (title ∷ []) (end_systems script), behind.ends)

line_ends : (old : SetUp) (line : Line) (script : List Line) (new : SetUp) → Fits old line → SetBy (set_up old line) script new → intermediate_systems (line ∷ script) ≡ [] → ends_all old.systems
    → ((mid : SetUp) → SetBy mid script new → intermediate_systems script ≡ [] → ends_all mid.systems → AreEndSystems mid script new) → AreEndSystems old (line ∷ script) new
line_ends old lines.Nothing script new fits sets none all go =
    let rest = kept_ends old old new script (same_systems old.systems) all (λ every. go old sets none every) in record { titles = rest.titles; ends = rest.ends }
line_ends old (lines.Version version) script new fits sets none all go =
    let rest = kept_ends old old new script (same_systems old.systems) all (λ every. go old sets none every) in record { titles = rest.titles; ends = rest.ends }
line_ends old (lines.Set key value) script new fits sets none all go =
    let same = time_leaves old key value in
    let keeps : KeepsSystems old.systems (with_time old key value).systems = subst (KeepsSystems old.systems) (sym same.systems) (same_systems old.systems) in
    let rest = kept_ends old (with_time old key value) new script keeps all (λ every. go (with_time old key value) sets none every) in record { titles = rest.titles; ends = rest.ends }
line_ends old (lines.Lan name bound room) script new fits sets none all go =
    let rest = kept_ends old (set_up old (lines.Lan name bound room)) new script (same_systems old.systems) all (λ every. go (set_up old (lines.Lan name bound room)) sets none every) in record { titles = rest.titles; ends = rest.ends }
line_ends old (lines.Es name title) script new fits sets none all go =
    let found = new_end old new title script all (λ every. go (set_up old (lines.Es name title)) sets none every) in
    record { titles = found.0; ends = found.1 }
line_ends old (lines.Is name title) script new fits sets none all go = absurd (cc)
line_ends old (lines.Port system lan snpa) script new fits sets none all go =
    let rest = kept_ends old (set_up old (lines.Port system lan snpa)) new script (same_systems old.systems) all (λ every. go (set_up old (lines.Port system lan snpa)) sets none every) in record { titles = rest.titles; ends = rest.ends }
line_ends old (lines.Route system prefix next lan) script new fits sets none all go =
    let rest = kept_ends old (set_up old (lines.Route system prefix next lan)) new script (by_route old.systems system prefix (hop_to old next lan)) all (λ every. go (set_up old (lines.Route system prefix next lan)) sets none every) in record { titles = rest.titles; ends = rest.ends }
line_ends old (lines.Path name kind systems) script new fits sets none all go =
    let rest = kept_ends old (set_up old (lines.Path name kind systems)) new script (same_systems old.systems) all (λ every. go (set_up old (lines.Path name kind systems)) sets none every) in record { titles = rest.titles; ends = rest.ends }
line_ends old (lines.Tsap system selector) script new fits sets none all go =
    let rest = kept_ends old (set_up old (lines.Tsap system selector)) new script (by_selector old.systems system selector) all (λ every. go (set_up old (lines.Tsap system selector)) sets none every) in record { titles = rest.titles; ends = rest.ends }
line_ends old (lines.Relay system selector to called) script new fits sets none all go =
    let rest = kept_ends old (set_up old (lines.Relay system selector to called)) new script (by_selector old.systems system selector) all (λ every. go (set_up old (lines.Relay system selector to called)) sets none every) in record { titles = rest.titles; ends = rest.ends }
line_ends old lines.Start script new fits sets none all go =
    let rest = kept_ends old old new script (same_systems old.systems) all (λ every. go old sets none every) in record { titles = rest.titles; ends = rest.ends }
line_ends old (lines.Connect system selector to called options octets) script new fits sets none all go = absurd fits
line_ends old (lines.Accept end options octets) script new fits sets none all go = absurd fits
line_ends old (lines.Refuse end octets) script new fits sets none all go = absurd fits
line_ends old (lines.Disconnect end octets) script new fits sets none all go = absurd fits
line_ends old (lines.Data end octets) script new fits sets none all go = absurd fits
line_ends old (lines.Expedite end octets) script new fits sets none all go = absurd fits
line_ends old (lines.Window end credit) script new fits sets none all go = absurd fits
line_ends old (lines.Unit system to wish octets) script new fits sets none all go = absurd fits
line_ends old lines.Tick script new fits sets none all go = absurd fits
line_ends old lines.Settle script new fits sets none all go = absurd fits
line_ends old (lines.Deliver frame system) script new fits sets none all go = absurd fits
line_ends old (lines.Inject lan system octets) script new fits sets none all go = absurd fits
line_ends old (lines.Restart system) script new fits sets none all go = absurd fits
line_ends old (lines.Send system selector to called octets) script new fits sets none all go = absurd fits

pub are_ends : (old : SetUp) (script : List Line) (new : SetUp) → SetBy old script new → intermediate_systems script ≡ [] → AllByRecursion (λ (s : System). s.end ≡ true) old.systems → AreEndSystems old script new
are_ends old [] new same none all = record { titles = ap titles_of same ∙ sym (append-nil (titles_of old)); ends = subst (λ (s : SetUp). AllByRecursion (λ (x : System). x.end ≡ true) s.systems) (sym same) all }
are_ends old (line ∷ script) new h none all = line_ends old line script new h.0 h.1 none all (λ mid sets free every. are_ends mid script new sets free every)

-- ---- the LANs

line_lans : (old : SetUp) (line : Line) (script : List Line) (new : SetUp) → Fits old line → SetBy (set_up old line) script new
    → ((mid : SetUp) → SetBy mid script new → length new.lans ≡ length mid.lans + length (lans script)) → length new.lans ≡ length old.lans + length (lans (line ∷ script))
line_lans old lines.Nothing script new fits sets go = go (set_up old lines.Nothing) sets
line_lans old (lines.Version version) script new fits sets go = go (set_up old (lines.Version version)) sets
line_lans old (lines.Set key value) script new fits sets go =
    let same = time_leaves old key value in
    go (with_time old key value) sets ∙ ap (λ (l : ℕ). l + length (lans script)) (ap length same.lans)
line_lans old (lines.Lan name bound room) script new fits sets go =
    let rest = go (set_up old (lines.Lan name bound room)) sets in
    let more = length-append old.lans (record { bound = bound; room = room } ∷ []) in
    omega (arith, rest, more)
line_lans old (lines.Es name title) script new fits sets go = go (set_up old (lines.Es name title)) sets
line_lans old (lines.Is name title) script new fits sets go = go (set_up old (lines.Is name title)) sets
line_lans old (lines.Port system lan snpa) script new fits sets go = go (set_up old (lines.Port system lan snpa)) sets
line_lans old (lines.Route system prefix next lan) script new fits sets go = go (set_up old (lines.Route system prefix next lan)) sets
line_lans old (lines.Path name kind systems) script new fits sets go = go (set_up old (lines.Path name kind systems)) sets
line_lans old (lines.Tsap system selector) script new fits sets go = go (set_up old (lines.Tsap system selector)) sets
line_lans old (lines.Relay system selector to called) script new fits sets go = go (set_up old (lines.Relay system selector to called)) sets
line_lans old lines.Start script new fits sets go = go (set_up old lines.Start) sets
line_lans old (lines.Connect system selector to called options octets) script new fits sets go = absurd fits
line_lans old (lines.Accept end options octets) script new fits sets go = absurd fits
line_lans old (lines.Refuse end octets) script new fits sets go = absurd fits
line_lans old (lines.Disconnect end octets) script new fits sets go = absurd fits
line_lans old (lines.Data end octets) script new fits sets go = absurd fits
line_lans old (lines.Expedite end octets) script new fits sets go = absurd fits
line_lans old (lines.Window end credit) script new fits sets go = absurd fits
line_lans old (lines.Unit system to wish octets) script new fits sets go = absurd fits
line_lans old lines.Tick script new fits sets go = absurd fits
line_lans old lines.Settle script new fits sets go = absurd fits
line_lans old (lines.Deliver frame system) script new fits sets go = absurd fits
line_lans old (lines.Inject lan system octets) script new fits sets go = absurd fits
line_lans old (lines.Restart system) script new fits sets go = absurd fits
line_lans old (lines.Send system selector to called octets) script new fits sets go = absurd fits

pub are_lans : (old : SetUp) (script : List Line) (new : SetUp) → SetBy old script new → length new.lans ≡ length old.lans + length (lans script)
are_lans old [] new same = let count : length new.lans ≡ length old.lans = ap (λ (s : SetUp). length s.lans) same in omega (arith, count)
are_lans old (line ∷ script) new h = line_lans old line script new h.0 h.1 (λ mid sets. are_lans mid script new sets)
