-- Where the scripts of a command have no `send` line, they send no datagrams.
use Rattle.std.specs.Prelude.{ℕ, List}
use Rattle.script_lines.specs.Commands.{HasLine}
use Rattle.script_lines.specs.declared.words.Dialect.{Dialect}
use Rattle.script_lines.specs.declared.line.Line.TheVariants as lines
use Rattle.law_setup.specs.Networks.{SendsNoDatagrams}

pub no_datagrams : (dialect : Dialect) → ((system : ℕ) (selector : List ℕ) (to : ℕ) (called octets : List ℕ) → HasLine dialect (lines.Send system selector to called octets) → ⊥) → SendsNoDatagrams dialect
no_datagrams dialect none (lines.Send system selector to called octets) has = absurd (none system selector to called octets has)
no_datagrams dialect none other has = tt
