-- Parameters that borrow their value.
use Rattle.pdu_parts.specs.Parameter.{Parameter}
use Rattle.pdu_parts.specs.declared.parameter.ParameterRef.{ParameterRef}

-- a parameter with the octets of its value
abbrev pub parameter_of : ParameterRef → Parameter
parameter_of parameter = record { code = parameter.code; value = parameter.value.now }
