use Rattle.std.proofs.Common.{◌+◌, ◌-◌, ◌*◌, ◌≤◌, length}
use Rattle.tw_parse.specs.Words.{lexemes}
use Rattle.tw_parse.proofs.Building.{Grows}
use Rattle.tw_parse.proofs.sequences.+sequence.Given as goal

abbrev pub decreases-sequence : goal.decreases-sequence
decreases-sequence l = 2 * (length l.source.now.tokens.now - l.from) + 1

abbrev pub decreases-head : goal.decreases-head
decreases-head l = 2 * (length l.source.now.tokens.now - l.at)

abbrev pub invariant-sequence-loop-pile : goal.invariant-sequence-loop-pile
invariant-sequence-loop-pile l = (l.from ≤ l.upto) × Grows l.source.fixities.now (lexemes l.source.text.now l.source.tokens.now) l.from l.upto l.pile

abbrev pub decreases-sequence-loop-pile : goal.decreases-sequence-loop-pile
decreases-sequence-loop-pile l = length l.source.tokens.now - l.upto
