-- A system that is written in its place is the system of that number, changed.
use Rattle.std.proofs.Common.{◌≡◌, ℕ, List, Some, None, sym, ◌∙◌, ap}
use Rattle.std.specs.Prelude.{slice_get, slice_set}
use Rattle.script_lines.specs.Known.{KnownSystem, with_changed, changed}

pub changed_there : (systems : List KnownSystem) (at : ℕ) (change : KnownSystem → KnownSystem) (old new : KnownSystem)
    → slice_get systems at ≡ Some old → new ≡ change old → slice_set systems at new ≡ changed systems at change
changed_there systems at change old new there is = ap (λ (s : KnownSystem). slice_set systems at s) is ∙ ap (with_changed systems at change) (sym there)

pub changed_nowhere : (systems : List KnownSystem) (at : ℕ) (change : KnownSystem → KnownSystem)
    → slice_get systems at ≡ None → systems ≡ changed systems at change
changed_nowhere systems at change nowhere = ap (with_changed systems at change) (sym nowhere)
