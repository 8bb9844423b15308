-- The codes of the reasons differ: each code leads back to its reason.
use Rattle.std.proofs.Common.{◌≡◌, ◌==◌, ℕ, cond, Option, Some, None, refl, sym, ap, ◌∙◌}
use Rattle.std.proofs.lemmas.Option.{same_Some}
use Rattle.clnp_options.specs.declared.reason.Reason.{Reason}
use Rattle.clnp_options.specs.declared.reason.Reason.TheVariants.{NotSpecified, ProtocolProcedure, IncorrectChecksum, Congestion, HeaderSyntax, SegmentationNeeded, IncompletePdu, DuplicateOption, DestinationUnreachable, DestinationUnknown, SourceRouting, SourceRoutingSyntax, SourceRoutingUnknownAddress, PathNotAcceptable, LifetimeExpiredInTransit, LifetimeExpiredInReassembly, UnsupportedOption, UnsupportedVersion, UnsupportedSecurity, UnsupportedSourceRouting, UnsupportedRecording, UnsupportedQuality, ReassemblyInterference}
use Rattle.clnp_options.specs.Reasons.{code_of}

-- the reason of a code
reason_with : ℕ → Option Reason
reason_with code =
    cond (code == 0x00) (Some NotSpecified)
    (cond (code == 0x01) (Some ProtocolProcedure)
    (cond (code == 0x02) (Some IncorrectChecksum)
    (cond (code == 0x03) (Some Congestion)
    (cond (code == 0x04) (Some HeaderSyntax)
    (cond (code == 0x05) (Some SegmentationNeeded)
    (cond (code == 0x06) (Some IncompletePdu)
    (cond (code == 0x07) (Some DuplicateOption)
    (cond (code == 0x80) (Some DestinationUnreachable)
    (cond (code == 0x81) (Some DestinationUnknown)
    (cond (code == 0x90) (Some SourceRouting)
    (cond (code == 0x91) (Some SourceRoutingSyntax)
    (cond (code == 0x92) (Some SourceRoutingUnknownAddress)
    (cond (code == 0x93) (Some PathNotAcceptable)
    (cond (code == 0xa0) (Some LifetimeExpiredInTransit)
    (cond (code == 0xa1) (Some LifetimeExpiredInReassembly)
    (cond (code == 0xb0) (Some UnsupportedOption)
    (cond (code == 0xb1) (Some UnsupportedVersion)
    (cond (code == 0xb2) (Some UnsupportedSecurity)
    (cond (code == 0xb3) (Some UnsupportedSourceRouting)
    (cond (code == 0xb4) (Some UnsupportedRecording)
    (cond (code == 0xb5) (Some UnsupportedQuality)
    (cond (code == 0xc0) (Some ReassemblyInterference)
    None))))))))))))))))))))))

back : (reason : Reason) → reason_with (code_of reason) ≡ Some reason
unfolding reason_with
back NotSpecified = refl
back ProtocolProcedure = refl
back IncorrectChecksum = refl
back Congestion = refl
back HeaderSyntax = refl
back SegmentationNeeded = refl
back IncompletePdu = refl
back DuplicateOption = refl
back DestinationUnreachable = refl
back DestinationUnknown = refl
back SourceRouting = refl
back SourceRoutingSyntax = refl
back SourceRoutingUnknownAddress = refl
back PathNotAcceptable = refl
back LifetimeExpiredInTransit = refl
back LifetimeExpiredInReassembly = refl
back UnsupportedOption = refl
back UnsupportedVersion = refl
back UnsupportedSecurity = refl
back UnsupportedSourceRouting = refl
back UnsupportedRecording = refl
back UnsupportedQuality = refl
back ReassemblyInterference = refl

pub one_code : (one other : Reason) → code_of one ≡ code_of other → one ≡ other
one_code one other same = same_Some one other (sym (back one) ∙ ap reason_with same ∙ back other)
