use Rattle.std.proofs.Common.{◌≡◌, ◌≤◌, ◌+◌, drop}
use Rattle.tw_lexer.specs.Cut.{cut_after, open_count}
use Rattle.tw_lexer.proofs.cut.cut_piece.Given as goal

abbrev pub invariant-loop-byte : goal.invariant-loop-byte
invariant-loop-byte l = record {
  same : cut_after l.state (drop l.byte-index l.piece) ≡ cut_after l.fn.state l.piece;
  few : open_count l.state ≤ open_count l.fn.state + l.byte-index;
}
