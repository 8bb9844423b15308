-- The grammar of an options part (X.233, options part): which options may stand in it, and the form of each one's value.
use Rattle.std.specs.Prelude.{◌≡◌, ℕ, ◌<◌, List, ◌∷◌, ◌++◌, length, true, All}
use Rattle.pdu_parts.specs.Parameter.{Parameter, spelled}
use Rattle.clnp_options.specs.declared.reason.PduKind.{PduKind}
use Rattle.clnp_options.specs.declared.reason.PduKind.TheVariants.{Er}
use Rattle.clnp_options.specs.Options.{has}
use Rattle.clnp_options.specs.SourceRoute.{HasSourceRoute}
use Rattle.clnp_options.specs.Recording.{IsRecording}

-- What an option is: a code that is known, and a value of the form that this code asks for. Of quality of service one
-- octet is asked for, of priority exactly one. Only an error report gives a reason for discard: the reason and a place.
pub data IsKnown (kind : PduKind) (option : Parameter) : Type 0 where
  Padding : option.code ≡ 0xcc → IsKnown kind option
  Route : option.code ≡ 0xc8 → HasSourceRoute option.value → IsKnown kind option
  Record : option.code ≡ 0xcb → IsRecording option.value → IsKnown kind option
  Quality : option.code ≡ 0xc3 → 0 < length option.value → IsKnown kind option
  Priority : option.code ≡ 0xcd → length option.value ≡ 1 → IsKnown kind option
  Discarded : option.code ≡ 0xc1 → kind ≡ Er → length option.value ≡ 2 → IsKnown kind option

-- no code but that of padding stands twice
abbrev pub IsOnce : List Parameter → Type 0
IsOnce options =
    (before after : List Parameter) (option : Parameter) → options ≡ before ++ option ∷ after → has option.code before ≡ true → option.code ≡ 0xcc

-- Options that may stand in a PDU of that kind: each is known, none but padding stands twice, and in an error report one is the reason.
pub record AreAllowed (kind : PduKind) (options : List Parameter) : Type 0 where
  pub known : All (IsKnown kind) options
  pub once : IsOnce options
  pub reason : kind ≡ Er → has 0xc1 options ≡ true

-- the octets are these options, one after another, and the options may stand there
pub record IsOptions (kind : PduKind) (octets : List ℕ) (options : List Parameter) : Type 0 where
  pub parts : octets ≡ spelled options
  pub allowed : AreAllowed kind options
