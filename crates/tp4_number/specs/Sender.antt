-- What a sending half does with numbers (X.224, class 4: flow control). `high` of its blocks is one past the greatest number sent, `first` the
-- first number of the newest block; the ticks are those of the last sendings in that block, in the one before and in the one before that.
use Rattle.std.specs.Prelude.{ℕ, zero, suc, [], ◌∷◌, ◌+◌, min, max, Bool, if◌then◌else◌, ◌||◌, ◌&&◌, ◌==◌, nat_lt, nat_le, ◌≤◌, List, Option, Some, None}
use Rattle.tp4_number.specs.declared.blocks.Blocks.{Blocks}

-- `base` is the first number that is not acknowledged, `next` the next one to be sent
pub record Sender : Type 0 where
  pub base : ℕ
  pub credit : ℕ
  pub subsequence : ℕ  -- of the AK that was taken last
  pub next : ℕ
  pub blocks : Blocks

-- nothing was sent
abbrev pub no_blocks : Blocks
no_blocks = record { high = 0; first = 0; newest = 0; second = 0; third = 0 }

-- whether the number rule lets n go
abbrev pub may_send : ℕ → ℕ → Blocks → ℕ → ℕ → Bool
may_send block limit b n now = nat_lt n (b.first + block) || nat_le b.first block || nat_lt (b.third + limit) now

-- the first tick at which the number rule lets n go; none where it does at any tick
abbrev pub opens_at : ℕ → ℕ → Blocks → ℕ → Option ℕ
opens_at block limit b n = if nat_lt n (b.first + block) || nat_le b.first block then None else Some (b.third + limit + 1)

-- the tick has come
abbrev pub IsPast : Option ℕ → ℕ → Type 0
IsPast None now = Unit {0}
IsPast (Some tick) now = tick ≤ now

-- n is sent now, for the first time or again
abbrev pub marked : ℕ → Blocks → ℕ → ℕ → Blocks
marked block b n now =
    if nat_lt n b.first then record b { high = max b.high (n + 1); second = now }
    else if nat_lt n (b.first + block) then record b { high = max b.high (n + 1); newest = now }
    else record { high = max b.high (n + 1); first = b.first + block; newest = now; second = b.newest; third = b.second }

-- the next number is sent now
abbrev pub sent_next : ℕ → Sender → ℕ → Sender
sent_next block s now = record s { next = s.next + 1; blocks = marked block s.blocks s.next now }

-- a number of the window is sent again
abbrev pub sent_again : ℕ → Sender → ℕ → ℕ → Sender
sent_again block s n now = record s { blocks = marked block s.blocks n now }

-- an AK of number n takes the place of the one that was taken last
abbrev pub is_newer : Sender → ℕ → ℕ → ℕ → Bool
is_newer s n credit subsequence =
    nat_lt s.base n || n == s.base && (nat_lt s.subsequence subsequence || subsequence == s.subsequence && nat_lt s.credit credit)

-- an AK was read as number n
abbrev pub told : Sender → ℕ → ℕ → ℕ → Sender
told s n credit subsequence =
    if nat_lt s.blocks.high n then s
    else if is_newer s n credit subsequence
    then record s { base = n; credit = credit; subsequence = subsequence; next = max n (min s.next (n + credit)) }
    else s

-- numbers below `total` are sent now, as long as the window and the rule allow it
abbrev pub goes : ℕ → ℕ → Sender → ℕ → ℕ → Bool
goes block limit s now total = nat_lt s.next total && (nat_lt s.next (s.base + s.credit) && may_send block limit s.blocks s.next now)

-- as many of them as the fuel allows
abbrev pub sent_all : ℕ → ℕ → ℕ → Sender → ℕ → ℕ → Sender
sent_all zero block limit s now total = s
sent_all (suc fuel) block limit s now total = if goes block limit s now total then sent_all fuel block limit (sent_next block s now) now total else s

-- which numbers these are, each with the tick
abbrev pub gone : ℕ → ℕ → ℕ → Sender → ℕ → ℕ → List (ℕ × ℕ)
gone zero block limit s now total = []
gone (suc fuel) block limit s now total = if goes block limit s now total then (s.next, now) ∷ gone fuel block limit (sent_next block s now) now total else []
