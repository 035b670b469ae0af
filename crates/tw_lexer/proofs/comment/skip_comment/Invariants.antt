use Rattle.std.proofs.Common.{◌≡◌, ◌≤◌, ◌-◌, length}
use Rattle.tw_lexer.specs.Comments.{deep}
use Rattle.tw_lexer.specs.Tokens.{in_comment}
use Rattle.tw_lexer.specs.Spots.{IsSpot}
use Rattle.tw_lexer.proofs.Finds.{seek}
use Rattle.tw_lexer.proofs.comment.skip_comment.Given as goal

-- what is found from here on is what is found from where the search began
abbrev pub invariant-loop-spot : goal.invariant-loop-spot
invariant-loop-spot l = record {
  here : IsSpot l.text l.spot;
  later : l.fn.spot.byte ≤ l.spot.byte;
  depth : l.depth ≤ l.spot.byte;
  same : seek l.text (in_comment l.begin (deep 1)) l.fn.spot.byte ≡ seek l.text (in_comment l.begin (deep l.depth)) l.spot.byte;
}

abbrev pub decreases-loop-spot : goal.decreases-loop-spot
decreases-loop-spot l = length l.text - l.spot.byte
