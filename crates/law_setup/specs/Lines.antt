-- What a line that was read keeps of the limits of a script: systems that are declared, sizes and credits in their bounds, and octets.
use Rattle.std.specs.Prelude.{ℕ, ◌<◌, ◌≤◌, List, length, IfSome}
use Rattle.std.specs.List.{AllByRecursion}
use Rattle.nsap.specs.declared.port.Hop.{Hop}
use Rattle.law_carrier_answers.specs.Answers.{AreOctets}
use Rattle.law_clnp_net.specs.Standing.{IsNsap, IsSnpa}
use Rattle.tp4_conn.specs.End.{IsSized}
use Rattle.script_lines.specs.declared.line.Line.{Line}
use Rattle.script_lines.specs.declared.line.Line.TheVariants as lines
use Rattle.script_lines.specs.Known.{Declared}
use Rattle.script_setup.specs.declared.relay.RelayLine.{RelayLine}
use Rattle.script_setup.specs.Fitting.{Fits, IsSelector}
use Rattle.script_setup.specs.SetUp.{SetUp, rows_at, set_up, titles_of}
use Rattle.law_setup.specs.Agreeing.{AreOne}

-- a line of a set-up fits what was said before it, and names and set-up are one after it
pub record Kept (setup : SetUp) (line : Line) (new : Declared) : Type 0 where
  pub fits : Fits setup line
  pub one : AreOne new (set_up setup line)

-- a running network of so many systems has the line, and the systems that it names; a tick passes below the last value of the clock
abbrev pub RunsAt : ℕ → ℕ → Line → Type 0
RunsAt count clock lines.Nothing = Unit {0}
RunsAt count clock (lines.Connect system selector to called options octets) = (system < count) × (to < count) × IsSized options
RunsAt count clock (lines.Accept end options octets) = IsSized options
RunsAt count clock (lines.Refuse end octets) = Unit {0}
RunsAt count clock (lines.Disconnect end octets) = Unit {0}
RunsAt count clock (lines.Data end octets) = Unit {0}
RunsAt count clock (lines.Expedite end octets) = Unit {0}
RunsAt count clock (lines.Window end credit) = credit ≤ 255
RunsAt count clock (lines.Unit system to wish octets) = (system < count) × (to < count)
RunsAt count clock lines.Tick = clock < 4000000000
RunsAt count clock lines.Settle = Unit {0}
RunsAt count clock (lines.Deliver number system) = Unit {0}
RunsAt count clock (lines.Inject lan system octets) = Unit {0}
RunsAt count clock (lines.Restart system) = system < count
RunsAt count clock (lines.Send system selector to called octets) = (system < count) × (to < count) × IsSelector selector × IsSelector called
RunsAt count clock line = ⊥

-- a selector has 32 octets at most
pub record IsShort (selector : List ℕ) : Type 0 where
  pub few : length selector ≤ 32
  pub octets : AreOctets selector

-- the octets of a line are octets
abbrev pub LineInOctets : Line → Type 0
LineInOctets (lines.Es name title) = IsNsap title
LineInOctets (lines.Is name title) = IsNsap title
LineInOctets (lines.Port system lan snpa) = IsSnpa snpa
LineInOctets (lines.Tsap system selector) = AreOctets selector
LineInOctets (lines.Relay system selector to called) = IsShort selector × IsShort called
LineInOctets (lines.Connect system selector to called options octets) = IsShort selector × IsShort called × AreOctets octets
LineInOctets (lines.Accept end options octets) = AreOctets octets
LineInOctets (lines.Refuse end octets) = AreOctets octets
LineInOctets (lines.Disconnect end octets) = AreOctets octets
LineInOctets (lines.Data end octets) = AreOctets octets
LineInOctets (lines.Expedite end octets) = AreOctets octets
LineInOctets (lines.Unit system to wish octets) = AreOctets octets
LineInOctets (lines.Inject lan system octets) = AreOctets octets
LineInOctets (lines.Send system selector to called octets) = IsShort selector × IsShort called × AreOctets octets
LineInOctets line = Unit {0}

-- what is set up is in octets
abbrev pub HopInOctets : Hop → Type 0
HopInOctets hop = IsSnpa hop.port.snpa × IfSome hop.title IsNsap

-- the selectors of a relay stand in octets
pub record RelayInOctets (relay : RelayLine) : Type 0 where
  pub selector : AreOctets relay.selector
  pub called : AreOctets relay.called

pub record IsInOctets (setup : SetUp) : Type 0 where
  pub titles : AllByRecursion IsNsap (titles_of setup)
  pub ports : AllByRecursion (λ row. IsSnpa row.port.snpa) setup.ports
  pub rows : (number : ℕ) → AllByRecursion (λ row. HopInOctets row.hop) (rows_at setup.systems number)
  pub paths : AllByRecursion (λ path. AllByRecursion IsNsap path.titles) setup.paths
  pub relays : AllByRecursion RelayInOctets setup.relays
