use Rattle.std.proofs.Common.{◌≡◌, drop}
use Rattle.tw_parse.specs.View.{term_of}
use Rattle.tw_parse_checks.specs.Meanings.{applied, family_on}
use Rattle.tw_parse_checks.proofs.binding.family_on.Given as goal

abbrev pub invariant-loop-y : goal.invariant-loop-y
invariant-loop-y l = applied (term_of l.term) (drop l.y-index l.names) ≡ family_on l.family l.names
