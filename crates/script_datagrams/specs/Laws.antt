-- What holds of each unit that comes up in a network of users of datagrams (X.214, connectionless-mode transport service).
use Rattle.std.specs.Prelude.{◌≡◌, ℕ, true, List, IsTrue}
use Rattle.nsap.specs.Address.{selector_of}
use Rattle.osi_base.specs.declared.unit.Arrival.{Arrival}
use Rattle.osi_base.specs.Link.{Link}
use Rattle.osi_base.specs.Calls.{Call}
use Rattle.script_bench.specs.Claims.{IsLaw}
use Rattle.script_lines.specs.declared.line.Line.TheVariants as lines
use Rattle.script_setup.specs.Fitting.{Fits, IsWell}
use Rattle.script_setup.specs.SetUp.{SetUp, end_at}
use Rattle.script_world.specs.Plays.{world_acts}
use Rattle.law_datagram_run.specs.Datagrams.{cl_play}
use Rattle.script_datagrams.specs.Each.{ComesToEnds, GivesEachUnit}
use Rattle.law_datagram_run.specs.Users.{users_of}
use Rattle.script_datagrams.specs.Claims.{GivesOne}

-- a unit that may come up at an end system, and whose destination has the selector of transport, gives one event
abbrev pub HearsEach : {N : Type 0} → (N → Link (List ℕ)) → (SetUp → N → Type 0) → Type 0
HearsEach {N} link makes = (setup : SetUp) (net : N) (arrival : Arrival (List ℕ)) → IsWell setup → Fits setup lines.Start → makes setup net
    → IsTrue ((link net).belongs arrival.unit.to arrival.system) → end_at setup.systems arrival.system ≡ true → selector_of arrival.unit.to ≡ 1 → GivesOne (users_of setup) arrival

-- where units come to end systems alone, in whatever part of a script was run each unit that came up gave one event
abbrev pub RunsGiveEach : {N : Type 0} → (N → Link (List ℕ)) → (N → Call (List ℕ) → N → Type 0) → (SetUp → N → Type 0) → Type 0
RunsGiveEach link steps makes = ComesToEnds link makes → IsLaw (world_acts (cl_play link steps makes)) (GivesEachUnit link steps makes)
