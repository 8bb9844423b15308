use Rattle.std.proofs.Common.{ℕ, subst, sym, arith}
use Rattle.std.proofs.lemmas.Result.{on_ok_weaker}
use Rattle.tpdu.specs.Values.{seen}
use Rattle.tp4_entity.specs.Dues.{AreFrom}
use Rattle.tp4_entity.specs.Entity.{Entity}
use Rattle.tp4_entity.specs.Unit.{extended_of}
use Rattle.tp4_entity.proofs.Heard.{Heard}
use Rattle.tp4_entity.specs.steps.Places.{Lasts}
use Rattle.tpdu.proofs.Allowed.{first_is_allowed}
use Rattle.tp4_entity.proofs.Dues.{lasts_then}
use Rattle.tp4_entity.proofs.Units.{heard_all, heard_fault, heard_more, heard_none, none_left, shorter, some_left}
use Rattle.tp4_entity.proofs.entity.TpEntity.hear_unit.Goals as goal

pub loop-rest-init : goal.loop-rest-init
loop-rest-init g c = (
  subst (λ (e : Entity). Heard c.args.now c.args.self.now c.args.from c.args.octets.now c.args.octets.now e c.args.out.now c.args.out.now) (sym c.set_clock.ensures)
      (heard_none c.args.now c.args.self.now c.args.from c.args.octets.now c.args.out.now),
  subst (λ (e : Entity). Lasts c.args.now c.args.self.now.ends e.ends) (sym c.set_clock.ensures) (c.requires.due, λ h. h),
)

pub returns-in-Err-clause-heard : goal.returns-in-Err-clause-heard
returns-in-Err-clause-heard g c =
    on_ok_weaker c.tell.result
    (λ told. heard_fault c.args.now c.args.self.now c.loop-rest.self c.args.from c.args.octets.now c.loop-rest.rest.now c.in-Err.fault c.args.out.now c.loop-rest.out c.tell.new.out c.loop-rest.invariant.0
    (some_left c.loop-rest.rest.now c.loop-rest-test.ensures) c.in-Err.ensures.fault told)
    c.tell.ensures

pub on_tpdu-requires-clause-now : goal.on_tpdu-requires-clause-now
on_tpdu-requires-clause-now g c = let clock = c.loop-rest.invariant.0.clock in omega (arith, clock, c.requires.now)

pub on_tpdu-requires-clause-allowed : goal.on_tpdu-requires-clause-allowed
on_tpdu-requires-clause-allowed g c = first_is_allowed (extended_of c.loop-rest.self) c.loop-rest.rest.now c.in-Ok.found.1.now (seen c.in-Ok.found.0) c.in-Ok.ensures.ok

pub loop-rest-smaller : goal.loop-rest-smaller
loop-rest-smaller g c = shorter (extended_of c.loop-rest.self) c.loop-rest.rest.now c.in-Ok.found.1.now (seen c.in-Ok.found.0) c.in-Ok.ensures.ok

pub loop-rest-preserved : goal.loop-rest-preserved
loop-rest-preserved g c = (
  heard_more c.args.now c.args.self.now c.loop-rest.self c.on_tpdu.new.self c.args.from c.args.octets.now c.loop-rest.rest.now c.in-Ok.found.1.now (seen c.in-Ok.found.0) c.args.out.now c.loop-rest.out
      c.on_tpdu.new.out c.loop-rest.invariant.0 (some_left c.loop-rest.rest.now c.loop-rest-test.ensures) c.in-Ok.ensures.ok c.in_ok-on_tpdu.ensures.step c.on_tpdu.ensures.clock,
  lasts_then c.args.now c.args.self.now.ends c.loop-rest.self.ends c.on_tpdu.new.self.ends c.loop-rest.invariant.1
      (subst (λ (n : ℕ). Lasts n c.loop-rest.self.ends c.on_tpdu.new.self.ends) c.loop-rest.invariant.0.clock c.in_ok-on_tpdu.ensures.lasts),
)

pub on_tpdu-requires-clause-due : goal.on_tpdu-requires-clause-due
on_tpdu-requires-clause-due g c = subst (λ (n : ℕ). AreFrom n c.loop-rest.self.ends) (sym c.loop-rest.invariant.0.clock) c.loop-rest.invariant.1.0

pub returns-clause-heard : goal.returns-clause-heard
returns-clause-heard g c =
    heard_all c.args.now c.args.self.now c.loop-rest.self c.args.from c.args.octets.now c.loop-rest.rest.now c.args.out.now c.loop-rest.out c.loop-rest.invariant.0
    (none_left c.loop-rest.rest.now c.loop-rest-test.ensures)
