-- The options of a PDU as the list of their parameters (X.233, options part).
use Rattle.std.specs.Prelude.{ℕ, ◌==◌, Bool, List, find, option_map, Option}
use Rattle.std.specs.List.{list_any}
use Rattle.pdu_parts.specs.Parameter.{Parameter, parameters_in}
use Rattle.clnp_options.specs.declared.option.Options.{Options}
use Rattle.clnp_options.specs.declared.option.OptionsRef.{OptionsRef}

-- the options that a checked options part lends, in order
abbrev pub listed : OptionsRef → List Parameter
listed options = parameters_in options.octets.now

-- the options that an iterator has still to give
abbrev pub left : Options → List Parameter
left options = parameters_in options.rest.now

-- the value of the first option of that code
abbrev pub value_of : ℕ → List Parameter → Option (List ℕ)
value_of code options = option_map (λ option. option.value) (find (λ option. option.code == code) options)

-- whether an option of that code is among them
abbrev pub has : ℕ → List Parameter → Bool
has code options = list_any (λ option. option.code == code) options
