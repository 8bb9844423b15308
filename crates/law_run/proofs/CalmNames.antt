-- What the names of a calm script declare: end systems alone, and so no source route.
use Rattle.std.proofs.Common.{◌≡◌, ℕ, zero, suc, ◌<◌, ◌≤◌, true, false, List, [], ◌∷◌, length, Option, Some, None, refl, sym, ◌∙◌, subst, arith}
use Rattle.std.specs.Prelude.{slice_get}
use Rattle.std.specs.List.{AllByRecursion}
use Rattle.script_lines.specs.declared.words.Word.{Word}
use Rattle.script_lines.specs.declared.words.Word.TheVariants as words
use Rattle.script_lines.specs.declared.line.Line.{Line}
use Rattle.script_lines.specs.declared.field_values.FieldValues.{FieldValues}
use Rattle.script_lines.specs.Grammar.{Reading, declared_by, line_for, new_system, next_number}
use Rattle.script_lines.specs.Known.{Declared, KnownSystem, changed, end_of as end_of_known, with_changed}
use Rattle.script_lines.specs.Names.{AreIntermediateSystems, NamesDeclared}
use Rattle.script_lines.specs.Table.{row_of}
use Rattle.law_tp4_pair.specs.CalmScript.{intermediate_systems}
use Rattle.script_setup.specs.Fitting.{Fits}
use Rattle.script_setup.specs.SetUp.{SetUp}
use Rattle.script_setup.proofs.Elements.{push, set_each}
use Rattle.script_bench.specs.steps.Came.{Came, Idle, Worded}

-- ---- end systems alone

pub record HasEndsAlone (names : Declared) : Type 0 where
  pub ends : AllByRecursion (λ (s : KnownSystem). s.is_end ≡ true) names.systems
  pub paths : names.paths ≡ []

ends_changed : (systems : List KnownSystem) (at : ℕ) (change : KnownSystem → KnownSystem) → ((s : KnownSystem) → (change s).is_end ≡ s.is_end) → AllByRecursion (λ (s : KnownSystem). s.is_end ≡ true) systems
    → AllByRecursion (λ (s : KnownSystem). s.is_end ≡ true) (changed systems at change)
ends_changed systems at change same all = by (slice_get systems at) refl
  where
    end_there : (xs : List KnownSystem) (i : ℕ) (x : KnownSystem) → AllByRecursion (λ (s : KnownSystem). s.is_end ≡ true) xs → slice_get xs i ≡ Some x → x.is_end ≡ true
    end_there [] i x every is = absurd (cc)
    end_there (y ∷ xs) zero x every is = let here : y ≡ x = cc in subst (λ (s : KnownSystem). s.is_end ≡ true) here every.0
    end_there (y ∷ xs) (suc i) x every is = end_there xs i x every.1 is

    by : (found : Option KnownSystem) → slice_get systems at ≡ found → AllByRecursion (λ (s : KnownSystem). s.is_end ≡ true) (with_changed systems at change found)
    by None is = all
    by (Some system) is = set_each (λ (s : KnownSystem). s.is_end ≡ true) systems at (change system) all (same system ∙ end_there systems at system all is)

is_one : (systems : List KnownSystem) (i : ℕ) → AllByRecursion (λ (s : KnownSystem). s.is_end ≡ true) systems → i < length systems → end_of_known (slice_get systems i) ≡ true
is_one [] i all lt = absurd (omega arith)
is_one (system ∷ systems) zero all lt = all.0
is_one (system ∷ systems) (suc i) all lt = is_one systems i all.1 (omega arith)

no_path : (names : Declared) (systems : List ℕ) → HasEndsAlone names → 1 ≤ length systems → AreIntermediateSystems names systems → ⊥
no_path names [] h some are = absurd (omega arith)
no_path names (system ∷ systems) h some are = let clash : false ≡ true = sym are.0.1 ∙ is_one names.systems system h.ends are.0.0 in cc

word_ends : (names : Declared) (setup : SetUp) (parts : FieldValues) (script : List Line) (word : Word) → HasEndsAlone names → Fits setup (line_for (next_number names (row_of word).effect) word parts)
    → NamesDeclared names (line_for (next_number names (row_of word).effect) word parts) → intermediate_systems (line_for (next_number names (row_of word).effect) word parts ∷ script) ≡ []
    → HasEndsAlone (declared_by names (row_of word).effect parts) × (intermediate_systems script ≡ [])
word_ends names setup parts script words.Set h fits known none = (record { ends = h.ends; paths = h.paths }, none)
word_ends names setup parts script words.Lan h fits known none = (record { ends = h.ends; paths = h.paths }, none)
word_ends names setup parts script words.Es h fits known none = (record { ends = push (λ (s : KnownSystem). s.is_end ≡ true) names.systems (new_system true parts) h.ends refl; paths = h.paths }, none)
word_ends names setup parts script words.Is h fits known none = absurd (cc)
word_ends names setup parts script words.Port h fits known none = (record { ends = ends_changed names.systems parts.system _ (λ s. refl) h.ends; paths = h.paths }, none)
word_ends names setup parts script words.Route h fits known none = (record { ends = ends_changed names.systems parts.system _ (λ s. refl) h.ends; paths = h.paths }, none)
word_ends names setup parts script words.Path h fits known none = absurd (no_path names parts.hops h fits.some known.1)
word_ends names setup parts script words.Tsap h fits known none = (record { ends = ends_changed names.systems parts.system _ (λ s. refl) h.ends; paths = h.paths }, none)
word_ends names setup parts script words.Relay h fits known none = (record { ends = ends_changed names.systems parts.system _ (λ s. refl) h.ends; paths = h.paths }, none)
word_ends names setup parts script words.Version h fits known none = (record { ends = h.ends; paths = h.paths }, none)
word_ends names setup parts script words.Start h fits known none = (record { ends = h.ends; paths = h.paths }, none)
word_ends names setup parts script words.Connect h fits known none = (h, none)
word_ends names setup parts script words.Accept h fits known none = (h, none)
word_ends names setup parts script words.Refuse h fits known none = (h, none)
word_ends names setup parts script words.Disconnect h fits known none = (h, none)
word_ends names setup parts script words.Data h fits known none = (h, none)
word_ends names setup parts script words.Expedite h fits known none = (h, none)
word_ends names setup parts script words.Window h fits known none = (h, none)
word_ends names setup parts script words.Unit h fits known none = (h, none)
word_ends names setup parts script words.Tick h fits known none = (h, none)
word_ends names setup parts script words.Deliver h fits known none = (h, none)
word_ends names setup parts script words.Settle h fits known none = (h, none)
word_ends names setup parts script words.Inject h fits known none = (h, none)
word_ends names setup parts script words.Restart h fits known none = (h, none)
word_ends names setup parts script words.Send h fits known none = (h, none)

pub came_ends : (names : Declared) (setup : SetUp) (script : List Line) (reading : Reading) → Came names reading → HasEndsAlone names → Fits setup reading.line → NamesDeclared names reading.line
    → intermediate_systems (reading.line ∷ script) ≡ [] → HasEndsAlone reading.names × (intermediate_systems script ≡ [])
came_ends names setup script reading (Idle is) h =
    subst (λ (r : Reading). Fits setup r.line → NamesDeclared names r.line → intermediate_systems (r.line ∷ script) ≡ [] → HasEndsAlone r.names × (intermediate_systems script ≡ [])) (sym is)
    (λ fits known none. (h, none))
came_ends names setup script reading (Worded word worded) h =
    subst (λ (r : Reading). Fits setup r.line → NamesDeclared names r.line → intermediate_systems (r.line ∷ script) ≡ [] → HasEndsAlone r.names × (intermediate_systems script ≡ [])) (sym worded.is)
    (λ fits known none. word_ends names setup worded.parts script word h fits known none)
