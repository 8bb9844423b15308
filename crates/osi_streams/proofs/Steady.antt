-- What one call of a reader or a writer tells is what the contracts of sources and sinks ask for: where nothing was known of it before the
-- call, nothing is known after it, since it is steady; and known octets stay known.
use Rattle.std.proofs.Common.{◌≡◌, ℕ, List, Option, Some, None, refl, ap, inl, inr}
use Rattle.std.specs.Io.KnownBytes.{Consumes, Appends, Keeps}
use Rattle.osi_base.specs.Ends.{Took, Put}
use Rattle.osi_streams.specs.Steady.{IsSteady}

took_as : (old new : Option (List ℕ)) (octets : List ℕ) → (old ≡ None → new ≡ None) → Consumes old new octets → Took old octets new
took_as None new octets unknown consumed = unknown refl
took_as (Some all) (Some rest) octets unknown consumed = (rest, refl, consumed)
took_as (Some all) None octets unknown lost = absurd lost

put_as : (old new : Option (List ℕ)) (octets : List ℕ) → (old ≡ None → new ≡ None) → Appends old new octets → Put old octets new
put_as None new octets unknown appended = unknown refl
put_as (Some before) (Some after) octets unknown appended = ap Some appended
put_as (Some before) None octets unknown lost = absurd lost

kept_as : (old new : Option (List ℕ)) → (old ≡ None → new ≡ None) → Keeps old new → new ≡ old
kept_as None new unknown keeps = unknown refl
kept_as (Some before) (Some after) unknown keeps = ap Some keeps
kept_as (Some before) None unknown lost = absurd lost

module _ {T : Type 0} (known : T → Option (List ℕ)) where
  stays_unknown : IsSteady known → (old new : T) → known old ≡ None → known new ≡ None
  stays_unknown (inl never) old new none = never new
  stays_unknown (inr always) old new none = let some : known old ≡ Some ((always old).0) = (always old).1 in absurd (cc)

  pub took : IsSteady known → (old new : T) (octets : List ℕ) → Consumes (known old) (known new) octets → Took (known old) octets (known new)
  took steady old new octets consumed = took_as (known old) (known new) octets (stays_unknown steady old new) consumed

  pub put : IsSteady known → (old new : T) (octets : List ℕ) → Appends (known old) (known new) octets → Put (known old) octets (known new)
  put steady old new octets appended = put_as (known old) (known new) octets (stays_unknown steady old new) appended

  pub kept : IsSteady known → (old new : T) → Keeps (known old) (known new) → known new ≡ known old
  kept steady old new keeps = kept_as (known old) (known new) (stays_unknown steady old new) keeps
