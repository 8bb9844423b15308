-- Networks that a set-up makes.
use Rattle.std.specs.Prelude.{◌≡◌, ℕ, List}
use Rattle.osi_base.specs.Link.{Link}
use Rattle.osi_base.specs.Calls.{Call}
use Rattle.law_carrier_answers.specs.Answers.{OneStep}
use Rattle.law_clnp_net.specs.Standing.{is_nsap}
use Rattle.net_world.specs.First.{IsFirst}
use Rattle.tp4_world.specs.Total.{ServesOn}
use Rattle.script_lines.specs.Commands.{HasLine}
use Rattle.script_lines.specs.declared.words.Dialect.{Dialect}
use Rattle.script_lines.specs.declared.line.Line.{Line}
use Rattle.script_lines.specs.declared.line.Line.TheVariants as lines
use Rattle.script_setup.specs.Fitting.{Fits, IsWell}
use Rattle.script_setup.specs.SetUp.{SetUp, titles_of}
use Rattle.law_setup.specs.Lines.{IsInOctets}

-- a network is made of the set-up
pub record HasNet {N : Type 0} (makes : SetUp → N → Type 0) (setup : SetUp) : Type 0 where
  pub net : N
  pub made : makes setup net

-- the line sends no datagram
abbrev pub SendsNone : Line → Type 0
SendsNone (lines.Send system selector to called octets) = ⊥
SendsNone line = Unit {0}

-- no script of the command sends datagrams
abbrev pub SendsNoDatagrams : Dialect → Type 0
SendsNoDatagrams dialect = (line : Line) → HasLine dialect line → SendsNone line

-- each call has one answer; one network is made of a set-up, at tick 0; where the set-up is well, and no bound of a LAN is above the lifetime, it
-- is as a run begins; and where the set-up is well, one is made, and it answers all that it may be asked from then on
pub record NetworkLaws {N : Type 0} (link : N → Link (List ℕ)) (steps : N → Call (List ℕ) → N → Type 0) (makes : SetUp → N → Type 0) : Type 0 where
  pub one_answer : OneStep steps
  pub one_net : (setup : SetUp) (net other : N) → makes setup net → makes setup other → net ≡ other
  pub clock : (setup : SetUp) (net : N) → makes setup net → (link net).clock ≡ 0
  pub first : (setup : SetUp) (net : N) → IsWell setup → Fits setup lines.Start → makes setup net → IsFirst setup.life (titles_of setup) (link net)
  pub some_net : (setup : SetUp) → IsWell setup → IsInOctets setup → HasNet makes setup
  pub serves : (setup : SetUp) (net : N) → IsWell setup → IsInOctets setup → makes setup net → ServesOn is_nsap link steps net
