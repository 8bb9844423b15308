use Rattle.cltp.specs.Ud.{ud_of}
use Rattle.cltp.proofs.Answer.{ok_read, only_read, fault_read, each_read}
use Rattle.cltp.proofs.reading.read_ud.Goals as goal

pub returns-clause-ok : goal.returns-clause-ok
returns-clause-ok c = ok_read ud_of _ c.read.result c.read.ensures

pub returns-clause-only : goal.returns-clause-only
returns-clause-only c = only_read ud_of _ c.read.result c.read.ensures

pub returns-clause-fault : goal.returns-clause-fault
returns-clause-fault c = fault_read ud_of _ c.read.result c.read.ensures

pub returns-clause-each_fault : goal.returns-clause-each_fault
returns-clause-each_fault c = each_read ud_of _ c.read.result c.read.ensures
