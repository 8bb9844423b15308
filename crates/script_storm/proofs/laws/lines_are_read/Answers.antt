use Rattle.std.proofs.Common.{refl}
use Rattle.script_storm.proofs.EachLine.{are_read}
use Rattle.script_storm.proofs.laws.lines_are_read.Goals as goal

pub returns-clause-read : goal.returns-clause-read
returns-clause-read c dialect runs = are_read dialect runs

pub returns-clause-some : goal.returns-clause-some
returns-clause-some c = (refl, (refl, (refl, (refl, (refl, (refl, (refl, (refl, (refl, (refl, (refl, (refl, (refl, (refl, (refl, (refl, tt))))))))))))))))
