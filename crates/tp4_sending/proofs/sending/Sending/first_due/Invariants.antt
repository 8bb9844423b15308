use Rattle.std.proofs.Common.{◌≡◌, ◌+◌, ◌≤◌, drop, Some}
use Rattle.tp4_sending.specs.Pieces.{sooner, least_due}
use Rattle.tp4_sending.proofs.sending.Sending.first_due.Given as goal

abbrev pub invariant-loop-tries : goal.invariant-loop-tries
invariant-loop-tries l =
    (sooner (Some (l.least + l.self.rules.t1)) (least_due l.self.rules.t1 (drop l.tries-index l.others)) ≡ least_due l.self.rules.t1 l.window) × (l.least ≤ l.self.clock)
