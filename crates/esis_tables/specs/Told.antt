-- Hellos that were heard, and what they make known (ISO 9542, record configuration function, record redirect function).
use Rattle.std.specs.Prelude.{◌≡◌, ℕ, ◌+◌, ◌*◌, Bool, true, not, nat_eq, nat_lt, if◌then◌else◌, List, [], ◌∷◌, Option, Some, None}
use Rattle.std.specs.List.{list_any}
use Rattle.std.specs.Ordering.{is_gt, nat_cmp}
use Rattle.std.specs.Cmp.Lexicographic.{pointwise, slice_cmp}
use Rattle.nsap.specs.declared.port.Port.{Port}
use Rattle.nsap.specs.declared.port.Hop.{Hop}
use Rattle.esis_pdu.specs.declared.hello.Hello.{Hello}
use Rattle.esis_pdu.specs.declared.hello.Hello.TheVariants.{Esh, Ish, Rd}

-- a hello that was heard: when, for how many ticks, the addresses that it names, and the hop there
pub record Told : Type 0 where
  pub tick : ℕ
  pub ticks : ℕ
  pub names : List (List ℕ)
  pub hop : Hop

-- what a hello from that port tells; a holding time of a second is two ticks. A redirect tells the SNPA itself
abbrev pub told_of : ℕ → Port → Hello → Told
told_of now from (Esh hold addresses) = record { tick = now; ticks = 2 * hold; names = addresses; hop = record { port = from; title = None } }
told_of now from (Ish hold title) = record { tick = now; ticks = 2 * hold; names = title ∷ []; hop = record { port = from; title = Some title } }
told_of now from (Rd hold address snpa title) =
    record { tick = now; ticks = 2 * hold; names = address ∷ []; hop = record { port = record { lan = from.lan; snpa = snpa }; title = title } }

-- a port of the LAN, for a hello that tells the SNPA itself
abbrev pub on_lan : ℕ → Port
on_lan lan = record { lan = lan; snpa = [] }

-- an ESH or an ISH; an RD
abbrev pub IsConfiguration : Hello → Type 0
IsConfiguration (Esh hold addresses) = Unit {0}
IsConfiguration (Ish hold title) = Unit {0}
IsConfiguration (Rd hold address snpa title) = ⊥

abbrev pub IsRedirect : Hello → Type 0
IsRedirect (Esh hold addresses) = ⊥
IsRedirect (Ish hold title) = ⊥
IsRedirect (Rd hold address snpa title) = Unit {0}

-- the address is one of these
abbrev pub is_among : List (List ℕ) → List ℕ → Bool
is_among names address = list_any (λ name. pointwise nat_eq name address) names

-- the one of a later hello, or else this one where it names the address
abbrev pub or_this : Option Told → Told → List ℕ → Option Told
or_this None told address = if is_among told.names address then Some told else None
or_this (Some later) told address = Some later

-- the last of the hellos that names the address
abbrev pub latest : List Told → List ℕ → Option Told
latest [] address = None
latest (told ∷ later) address = or_this (latest later address) told address

-- what a hello tells is known while its holding time lasts
abbrev pub is_known : Told → ℕ → Bool
is_known told now = nat_lt now (told.tick + told.ticks)

abbrev pub known_of : ℕ → Option Told → Option Hop
known_of now None = None
known_of now (Some told) = if is_known told now then Some told.hop else None

-- the hop to an address, where the latest hello that names it is known
abbrev pub known_hop : List Told → ℕ → List ℕ → Option Hop
known_hop hellos now address = known_of now (latest hellos address)

-- octet by octet, the first is the second or comes before it
abbrev pub is_upto : List ℕ → List ℕ → Bool
is_upto first second = not (is_gt (slice_cmp nat_cmp first second))

-- the intermediate system of that title is known, by a hello that tells this title
abbrev pub IsKnownRouter : List Told → ℕ → List ℕ → Hop → Type 0
IsKnownRouter hellos now title hop = (known_hop hellos now title ≡ Some hop) × (hop.title ≡ Some title)

-- the hop to the known intermediate system of least title, or none where none is known
abbrev pub IsRouter : List Told → ℕ → Option Hop → Type 0
IsRouter hellos now None = (title : List ℕ) (hop : Hop) → IsKnownRouter hellos now title hop → ⊥
IsRouter hellos now (Some hop) =
    (title : List ℕ) × IsKnownRouter hellos now title hop
    × ((other : List ℕ) (another : Hop) → IsKnownRouter hellos now other another → is_upto title other ≡ true)
