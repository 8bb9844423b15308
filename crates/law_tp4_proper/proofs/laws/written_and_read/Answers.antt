use Rattle.law_tp4_proper.proofs.Readings.{first_octets}
use Rattle.law_tp4_proper.proofs.Writings.{some_writing}
use Rattle.law_tp4_proper.proofs.laws.written_and_read.Goals as goal

pub returns : goal.returns
returns c = record { writes = λ width sum tpdu allowed in_octets. let w = some_writing width sum tpdu allowed in_octets in (w.octets, w.written, w.are); reads = first_octets }
