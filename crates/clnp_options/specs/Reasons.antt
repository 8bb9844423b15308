-- The codes of the reasons for discard (X.233, reason for discard).
use Rattle.std.specs.Prelude.{ℕ}
use Rattle.clnp_options.specs.declared.reason.Reason.{Reason}
use Rattle.clnp_options.specs.declared.reason.Reason.TheVariants.{NotSpecified, ProtocolProcedure, IncorrectChecksum, Congestion, HeaderSyntax, SegmentationNeeded, IncompletePdu, DuplicateOption, DestinationUnreachable, DestinationUnknown, SourceRouting, SourceRoutingSyntax, SourceRoutingUnknownAddress, PathNotAcceptable, LifetimeExpiredInTransit, LifetimeExpiredInReassembly, UnsupportedOption, UnsupportedVersion, UnsupportedSecurity, UnsupportedSourceRouting, UnsupportedRecording, UnsupportedQuality, ReassemblyInterference}

-- the code of each reason
abbrev pub code_of : Reason → ℕ
code_of NotSpecified = 0x00
code_of ProtocolProcedure = 0x01
code_of IncorrectChecksum = 0x02
code_of Congestion = 0x03
code_of HeaderSyntax = 0x04
code_of SegmentationNeeded = 0x05
code_of IncompletePdu = 0x06
code_of DuplicateOption = 0x07
code_of DestinationUnreachable = 0x80
code_of DestinationUnknown = 0x81
code_of SourceRouting = 0x90
code_of SourceRoutingSyntax = 0x91
code_of SourceRoutingUnknownAddress = 0x92
code_of PathNotAcceptable = 0x93
code_of LifetimeExpiredInTransit = 0xa0
code_of LifetimeExpiredInReassembly = 0xa1
code_of UnsupportedOption = 0xb0
code_of UnsupportedVersion = 0xb1
code_of UnsupportedSecurity = 0xb2
code_of UnsupportedSourceRouting = 0xb3
code_of UnsupportedRecording = 0xb4
code_of UnsupportedQuality = 0xb5
code_of ReassemblyInterference = 0xc0
