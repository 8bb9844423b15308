-- The users of datagrams of a set-up (X.214, transport service access points).
use Rattle.std.specs.Prelude.{ℕ, ◌+◌, if◌then◌else◌, List, [], ◌∷◌, ◌++◌}
use Rattle.cltp.specs.declared.system.ClSystem.{ClSystem}
use Rattle.script_setup.specs.SetUp.{System, SetUp}
use Rattle.tp4_world.specs.Run.{transport_address}

-- an end system has users, at the address of its title for transport, with its selectors; another system has none
abbrev pub users_at : ℕ → System → List ClSystem
users_at number system = if system.end then record { system = number; own = transport_address system.title; selectors = system.selectors } ∷ [] else []

-- the users of the systems from that number on
abbrev pub users_from : ℕ → List System → List ClSystem
users_from number [] = []
users_from number (system ∷ systems) = users_at number system ++ users_from (number + 1) systems

abbrev pub users_of : SetUp → List ClSystem
users_of setup = users_from 0 setup.systems
