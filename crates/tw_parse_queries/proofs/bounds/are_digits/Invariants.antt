use Rattle.std.proofs.Common.{◌≡◌, drop}
use Rattle.tw_parse_queries.specs.Bounds.{are_digits}
use Rattle.tw_parse_queries.proofs.bounds.are_digits.Given as goal

abbrev pub invariant-loop-byte : goal.invariant-loop-byte
invariant-loop-byte l = are_digits l.bytes ≡ are_digits (drop l.byte-index l.bytes)
