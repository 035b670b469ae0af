use Rattle.std.proofs.Common.{◌≡◌, drop}
use Rattle.tw_command.specs.Numbers.{digits_on, number_of}
use Rattle.tw_command.proofs.number.number_within.Given as goal

-- the digits so far are those of the number
abbrev pub invariant-loop-byte : goal.invariant-loop-byte
invariant-loop-byte l = digits_on l.number (drop l.byte-index l.word) ≡ number_of l.word
