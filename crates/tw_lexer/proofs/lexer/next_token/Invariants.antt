use Rattle.std.proofs.Common.{◌≡◌, ◌≤◌, ◌-◌, length}
use Rattle.tw_lexer.specs.Tokens.{first_token}
use Rattle.tw_lexer.specs.Spots.{IsSpot}
use Rattle.tw_lexer.proofs.lexer.next_token.Given as goal

-- the first token from here is the first from where the search began
abbrev pub invariant-loop-spot : goal.invariant-loop-spot
invariant-loop-spot l = record {
  here : IsSpot l.text l.spot;
  later : l.fn.from ≤ l.spot.byte;
  same : first_token l.text l.fn.from ≡ first_token l.text l.spot.byte;
}

abbrev pub decreases-loop-spot : goal.decreases-loop-spot
decreases-loop-spot l = length l.text - l.spot.byte
