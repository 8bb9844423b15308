use Rattle.law_recovery_world.proofs.Leading.{line_speaks, line_views, reached_line}
use Rattle.law_recovery_world.proofs.laws.lines_speak.Goals as goal

pub returns-clause-reached : goal.returns-clause-reached
returns-clause-reached c = reached_line

pub returns-clause-speaks : goal.returns-clause-speaks
returns-clause-speaks c = line_speaks

pub returns-clause-views : goal.returns-clause-views
returns-clause-views c = line_views
