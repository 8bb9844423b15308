-- A network with its transport entities has one start and one run of a line, where its network answers in one way.
use Rattle.std.proofs.Common.{ℕ, List}
use Rattle.osi_base.specs.Link.{Link}
use Rattle.osi_base.specs.Calls.{Call}
use Rattle.law_carrier_answers.proofs.Gatherings.{one_gathering}
use Rattle.tpdu.specs.Writing.{is_summed}
use Rattle.tpdu.proofs.Spellings.{one_spelling}
use Rattle.tp4_entity.proofs.Hearings.{one_taking}
use Rattle.tp4_world.specs.Laws.{OneRun, OneStart}
use Rattle.tp4_world.proofs.OneRun.{OneWriting, one_run as one_line_run, one_start as one_line_start}

one_writing : OneWriting
one_writing = λ format sum tpdu. one_spelling format (is_summed sum tpdu) tpdu

pub one_line : {N : Type 0} (link : N → Link (List ℕ)) (steps : N → Call (List ℕ) → N → Type 0) → OneRun link steps
one_line link steps = one_line_run link steps (one_gathering link steps) one_writing one_taking

pub one_begin : {N : Type 0} (link : N → Link (List ℕ)) (steps : N → Call (List ℕ) → N → Type 0) → OneStart link steps
one_begin link steps = one_line_start link steps (one_gathering link steps) one_writing
