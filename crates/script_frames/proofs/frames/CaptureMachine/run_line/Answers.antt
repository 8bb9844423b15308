use Rattle.std.proofs.Common.{rules, ap}
use Rattle.script_frames.proofs.Framing.{ran_so}
use Rattle.script_frames.proofs.frames.CaptureMachine.run_line.Goals as goal
use Rattle.script_frames.proofs.frames.CaptureMachine.run_line.Goals.{in-Ok, in-Err-Full+in-Ok-push_frames, in-Err}

pub returns-clause-ok : goal.returns-clause-ok
returns-clause-ok c = elim c.match-run.branch [
  | in-Ok w ↦
      ran_so c.args.self.now c.self.inside.bench c.run.new.self c.args.line.now c.run.new.events.items c.world.result.now w.world-in-Ok.result.now
      c.numbered-before.result c.args.out.now.items w.push_frames.new.out.items c.match-run.out.items w.push_frames.result c.match-run.result
      c.self.view_is w.in-Ok.ensures.ok c.world.ensures c.numbered-before.ensures w.world-in-Ok.ensures w.push_frames.ensures.numbers w.push_frames.ensures.told
      w.result-is (ap (λ out. out.items) w.out-is)
  | in-Err-Full+in-Ok-push_frames w ↦ search rules
  | in-Err w ↦ search rules
]

pub returns-clause-full : goal.returns-clause-full
returns-clause-full c = elim c.match-run.branch [
  | in-Ok w ↦ search rules
  | in-Err-Full+in-Ok-push_frames w ↦ search rules
  | in-Err w ↦ search rules
]
