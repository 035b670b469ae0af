use Rattle.std.proofs.Common.{◌≡◌, ◌≤◌, ◌+◌, ◌-◌, length}
use Rattle.tw_lexer.specs.Characters.{pieces_from}
use Rattle.tw_lexer.specs.Classes.{run_length}
use Rattle.tw_lexer.proofs.lexer.run_end.Given as goal

-- the run that stands here ends where the one does that stands where the search began
abbrev pub invariant-loop-upto : goal.invariant-loop-upto
invariant-loop-upto l = (l.upto ≤ length l.text) × (l.upto + run_length (pieces_from l.text l.upto) ≡ l.from + run_length (pieces_from l.text l.from))

abbrev pub decreases-loop-upto : goal.decreases-loop-upto
decreases-loop-upto l = length l.text - l.upto
