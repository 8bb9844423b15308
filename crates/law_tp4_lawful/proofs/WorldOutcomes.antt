-- What entities keep through their steps, and what a unit of one TPDU is read as, is what is asked of them.
use Rattle.std.proofs.Common.{inl, inr, ap, length, refl}
use Rattle.tpdu.specs.Values.{TpduAndSum}
use Rattle.tp4_number.specs.Number.{whole}
use Rattle.law_tp4_proper.specs.Rest.{AreInTime, AreProper}
use Rattle.law_tp4_proper.proofs.Ends.{calling_rests, connecting_rests, met_rests, new_rests, ticking_proper, waits}
use Rattle.law_tp4_proper.proofs.OneUnits.{one_in_unit}
use Rattle.law_tp4_lawful.proofs.Worlds.{OneInUnit, Outcomes}
use Rattle.tp4_entity.specs.Step.{restarted}

pub outcomes : Outcomes AreProper AreInTime
outcomes = record {
  new = λ now references e is timed some. let r = new_rests now references e is timed some in (r.proper, r.idle);
  clock = λ now e p. record { timers = p.timers; inactive = p.inactive; ends = p.ends };
  restarting = λ now e p. let r = new_rests now (length e.ends) (restarted now e) refl p.timers p.inactive in (r.proper, r.idle);
  connecting = λ now reference e call p idle free proper.
      let s = connecting_rests now reference e call (record { proper = p; idle = idle }) free proper in (s.rest.proper, s.rest.idle);
  calling = λ now reference e call p idle may c. let s = calling_rests whole now reference e call (record { proper = p; idle = idle }) may c in (s.rest.proper, s.rest.idle);
  met = λ now e from tpdu p idle allowed. let s = met_rests whole now e from tpdu (record { proper = p; idle = idle }) allowed in (s.rest.proper, s.rest.idle);
  ticking = λ now e p soon. let s = ticking_proper whole now e p soon in (s.proper, s.in_time);
  waits = waits;
}

pub one_unit : OneInUnit
one_unit extended octets rest sent tpdus told fits written s e = elim (one_in_unit extended octets rest sent tpdus told fits written s e) [
  | inl one ↦ inl (
    one.tpdu,
    one.tpdus_are,
    one.told_is,
    one.read_as.kind,
    one.read_as.target,
    λ none. ap (λ (x : TpduAndSum). x.0) (one.read_as.control none),
    λ format. ap (λ (x : TpduAndSum). x.0) (one.read_as.flow format),
    one.read_as.allowed,
  )
  | inr bad ↦ inr (bad.cause, bad.place, bad.tpdus_are, bad.told_is)
]
