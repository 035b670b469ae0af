use Rattle.std.proofs.Common.{◌≡◌}
use Rattle.tw_approx.specs.Levels.{is_written_type}
use Rattle.tw_parse.specs.View.{term_of}
use Rattle.tw_approx.proofs.levels.is_written_type.Given as goal

abbrev pub invariant-loop-rest : goal.invariant-loop-rest
invariant-loop-rest l = is_written_type l.signature l.scope (term_of l.rest) ≡ is_written_type l.signature l.fn.scope (term_of l.fn.term)
