-- The options of a header, as `read_options` answers for them.
use Rattle.std.proofs.Common.{◌≡◌, ℕ, ◌+◌, List, drop, Some, Ok, Err, refl}
use Rattle.clnp_options.proofs.Allowing.{none_first, options_are}
use Rattle.clnp_options.specs.Faults.{first_fault as first_options_fault}
use Rattle.clnp_options.specs.Grammar.{IsOptions}
use Rattle.clnp_options.specs.declared.reason.Fault.{Fault}
use Rattle.pdu_parts.specs.Parameter.{Parameter}
use Rattle.clnp_header.specs.declared.flags.Flags.{Flags}
use Rattle.clnp_header.specs.Faults.{fault}
use Rattle.clnp_header.specs.steps.Reading.{options_read}

pub options_ok : (header : List ℕ) (at : ℕ) (flags : Flags) (options : List Parameter)
    → IsOptions flags.kind (drop at header) options → options_read header at flags ≡ Ok options
options_ok header at flags options h =
    rw (none_first flags.kind (at + 1) (drop at header) options h, options_are flags.kind (drop at header) options h) refl

pub options_err : (header : List ℕ) (at : ℕ) (flags : Flags) (why : Fault)
    → first_options_fault flags.kind (at + 1) (drop at header) ≡ Some why
    → options_read header at flags ≡ Err (fault why.reason why.place flags.report)
options_err header at flags why h = rw h refl
