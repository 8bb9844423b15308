-- Reading from left to right: what the readers of a codec give, one after another.
use Rattle.std.specs.Prelude.{◌≡◌, Option, Some, None, Result, Ok, Err}

infixl 10 ◌>>=◌
abbrev pub ◌>>=◌ : {A B F : Type 0} → Result A F → (A → Result B F) → Result B F
(Ok x) >>= f = f x
(Err fault) >>= f = Err fault

-- what a reader returned, seen by `view`, is what reading gives
abbrev pub Gives : {X Y F : Type 0} → (X → Y) → Result X F → Result Y F → Type 0
Gives view (Ok x) read = read ≡ Ok (view x)
Gives view (Err fault) read = read ≡ Err fault

-- what a reader found, seen by `view`, is what stands there
abbrev pub GivesSome : {X Y : Type 0} → (X → Y) → Option X → Option Y → Type 0
GivesSome view (Some x) found = found ≡ Some (view x)
GivesSome view None found = found ≡ None

-- a value, or the fault where there is one
abbrev pub unless : {A F : Type 0} → Option F → A → Result A F
unless None x = Ok x
unless (Some fault) x = Err fault

-- what was found, or this fault
abbrev pub found_or : {A F : Type 0} → Option A → F → Result A F
found_or None fault = Err fault
found_or (Some x) fault = Ok x
