-- The exit status of each outcome.
use Rattle.std.specs.Prelude.{ℕ}
use Rattle.osi_base.specs.declared.status.Status.{Status}
use Rattle.osi_base.specs.declared.status.Status.TheVariants.{Done, RefusedLine, RefusedWords, ReadFault, WriteFault, NoMemory, RefusedCapture, TooMuch}

abbrev pub code_of : Status → ℕ
code_of Done = 0
code_of RefusedLine = 1
code_of RefusedWords = 2
code_of ReadFault = 3
code_of WriteFault = 4
code_of NoMemory = 5
code_of RefusedCapture = 6
code_of TooMuch = 7
