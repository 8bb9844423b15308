-- The systems that have users of datagrams (X.234, model of the transport layer).
use Rattle.std.specs.Prelude.{ℕ, ◌==◌, ◌&&◌, nat_eq, Bool, List, Option}
use Rattle.std.specs.Cmp.Lexicographic.{pointwise}
use Rattle.std.specs.List.{find, list_any}
use Rattle.nsap.specs.Address.{selector_of}
use Rattle.cltp.specs.declared.system.ClSystem.{ClSystem}

-- the carrier, and the systems
pub record World (C : Type 0) : Type 0 where
  pub carrier : C
  pub systems : List ClSystem

-- the system of a number, where there is one
abbrev pub is_of : ℕ → ClSystem → Bool
is_of system one = one.system == system

abbrev pub system_at : List ClSystem → ℕ → Option ClSystem
system_at systems system = find (is_of system) systems

-- a unit to an address is for the users of a system: the address is the system's own for transport
abbrev pub is_for : ClSystem → List ℕ → Bool
is_for own to = selector_of to == 1 && pointwise nat_eq own.own to

-- it takes datagrams at a transport selector
abbrev pub has_selector : ClSystem → List ℕ → Bool
has_selector own selector = list_any (λ other. pointwise nat_eq other selector) own.selectors
