-- What holds of a verdict besides: a segment has a segmentation part, and what goes onward has a lifetime left and a hop on the LAN of a port.
use Rattle.std.specs.Prelude.{◌<◌, ℕ, IsSome}
use Rattle.clnp_header.specs.declared.pdu.Pdu.{Pdu}
use Rattle.clnp_system.specs.declared.verdict.Verdict.{Verdict}
use Rattle.clnp_system.specs.declared.verdict.Verdict.TheVariants.{Discard, Tell, Take, Join, Onward}
use Rattle.clnp_system.specs.Setting.{Setting}
use Rattle.clnp_entity.specs.Kept.{IsNear}

abbrev pub MayGo : Setting → Verdict → Type 0
MayGo setting (Discard reason place) = Unit {0}
MayGo setting Tell = ⊥
MayGo setting Take = ⊥
MayGo setting Join = ⊥
MayGo setting (Onward hop) = IsNear setting hop

abbrev pub MayDo : Setting → ℕ → Pdu → Verdict → Type 0
MayDo setting bound pdu (Discard reason place) = Unit {0}
MayDo setting bound pdu Tell = Unit {0}
MayDo setting bound pdu Take = Unit {0}
MayDo setting bound pdu Join = IsSome pdu.segment
MayDo setting bound pdu (Onward hop) = IsNear setting hop × (bound < pdu.lifetime)

abbrev pub MayStay : Pdu → Verdict → Type 0
MayStay pdu (Discard reason place) = Unit {0}
MayStay pdu Tell = Unit {0}
MayStay pdu Take = Unit {0}
MayStay pdu Join = IsSome pdu.segment
MayStay pdu (Onward hop) = ⊥
