-- Which lines the scripts of each command have.
use Rattle.script_lines.specs.declared.words.Dialect.{Dialect}
use Rattle.script_lines.specs.declared.words.Dialect.TheVariants as dialects
use Rattle.script_lines.specs.declared.line.Line.{Line}
use Rattle.script_lines.specs.declared.line.Line.TheVariants as lines

-- the scripts of the command have such lines
abbrev pub HasLine : Dialect → Line → Type 0
HasLine dialects.Run (lines.Relay system selector to called) = ⊥
HasLine dialects.Run (lines.Send system selector to called octets) = ⊥
HasLine dialects.Datagrams (lines.Version version) = ⊥
HasLine dialects.Datagrams (lines.Relay system selector to called) = ⊥
HasLine dialects.Datagrams (lines.Connect system selector to called options octets) = ⊥
HasLine dialects.Datagrams (lines.Accept end options octets) = ⊥
HasLine dialects.Datagrams (lines.Refuse end octets) = ⊥
HasLine dialects.Datagrams (lines.Disconnect end octets) = ⊥
HasLine dialects.Datagrams (lines.Data end octets) = ⊥
HasLine dialects.Datagrams (lines.Expedite end octets) = ⊥
HasLine dialects.Datagrams (lines.Window end credit) = ⊥
HasLine dialects.Datagrams (lines.Unit system to wish octets) = ⊥
HasLine dialects.Datagrams (lines.Inject lan system octets) = ⊥
HasLine dialects.Datagrams (lines.Restart system) = ⊥
HasLine dialects.Inactive (lines.Version version) = ⊥
HasLine dialects.Inactive (lines.Is name title) = ⊥
HasLine dialects.Inactive (lines.Route system prefix next lan) = ⊥
HasLine dialects.Inactive (lines.Path name kind systems) = ⊥
HasLine dialects.Inactive (lines.Relay system selector to called) = ⊥
HasLine dialects.Inactive (lines.Unit system to wish octets) = ⊥
HasLine dialects.Inactive (lines.Inject lan system octets) = ⊥
HasLine dialects.Inactive (lines.Send system selector to called octets) = ⊥
HasLine dialects.Relay (lines.Version version) = ⊥
HasLine dialects.Relay (lines.Inject lan system octets) = ⊥
HasLine dialects.Relay (lines.Restart system) = ⊥
HasLine dialects.Relay (lines.Send system selector to called octets) = ⊥
HasLine dialect line = Unit {0}
