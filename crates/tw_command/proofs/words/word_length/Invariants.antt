use Rattle.std.proofs.Common.{◌≡◌, take, drop}
use Rattle.tw_command.specs.Words.{words_of, words_on}
use Rattle.tw_command.proofs.words.word_length.Given as goal

-- no separator so far
abbrev pub invariant-loop-i : goal.invariant-loop-i
invariant-loop-i l = words_on (take l.i l.line) (drop l.i l.line) ≡ words_of l.line
