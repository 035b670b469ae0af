use Rattle.std.proofs.Common.{◌≡◌, ◌≤◌, ◌-◌, length}
use Rattle.tw_lexer.specs.Characters.{pieces_from}
use Rattle.tw_lexer.specs.Comments.{is_closed, deep}
use Rattle.tw_lexer.proofs.comment.is_closed.Given as goal

-- it is closed from here on if it is from where the search began
abbrev pub invariant-loop-from : goal.invariant-loop-from
invariant-loop-from l = record {
  within : l.from ≤ length l.text;
  depth : l.depth ≤ l.from;
  same : is_closed (deep l.fn.depth) (pieces_from l.text l.fn.from) ≡ is_closed (deep l.depth) (pieces_from l.text l.from);
}

abbrev pub decreases-loop-from : goal.decreases-loop-from
decreases-loop-from l = length l.text - l.from
