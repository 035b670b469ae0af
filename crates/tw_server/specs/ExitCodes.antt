-- The exit codes of the program.
use Rattle.std.specs.Prelude.{ℕ}
use Rattle.tw_server.specs.declared.status.Status.{Status}
use Rattle.tw_server.specs.declared.status.Status.TheVariants.{Done, BadWords, ReadFault, WriteFault, NoMemory, InputLong}

abbrev pub code_of : Status → ℕ
code_of Done = 0
code_of BadWords = 1
code_of ReadFault = 2
code_of WriteFault = 3
code_of NoMemory = 4
code_of InputLong = 5
