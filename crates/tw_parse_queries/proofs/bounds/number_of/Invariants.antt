use Rattle.std.proofs.Common.{◌≡◌, ◌<◌, drop}
use Rattle.tw_parse.specs.Keywords.{number_from}
use Rattle.tw_parse_queries.proofs.bounds.number_of.Given as goal

abbrev pub invariant-loop-byte : goal.invariant-loop-byte
invariant-loop-byte l = (number_from 0 l.bytes ≡ number_from l.number (drop l.byte-index l.bytes)) × (l.number < 18446744073709551616)
