use Rattle.std.proofs.Common.{◌≡◌, ◌≤◌, ◌-◌, length}
use Rattle.std.specs.List.{All}
use Rattle.tw_lexer.specs.Places.{place_of}
use Rattle.tw_lexer.specs.Tokens.{IsWithin, Leads}
use Rattle.tw_lexer.proofs.lexer.lex.Given as goal

-- the tokens so far lead from where the reading began to here, none of them ends the declaration, and they are not too many
abbrev pub invariant-loop-token : goal.invariant-loop-token
invariant-loop-token l = record {
  within : l.from ≤ length l.text;
  place : l.at ≡ place_of l.text l.from;
  leads : Leads l.text l.fn.from l.list.items l.from;
  few : length l.list.items ≤ 65536;
  tokens : All (IsWithin (length l.text)) l.list.items;
}

abbrev pub decreases-loop-token : goal.decreases-loop-token
decreases-loop-token l = length l.text - l.from
