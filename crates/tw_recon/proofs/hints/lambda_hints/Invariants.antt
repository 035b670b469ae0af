use Rattle.std.proofs.Common.{◌≡◌, ◌++◌}
use Rattle.tw_parse.specs.View.{term_of}
use Rattle.tw_recon.specs.Hints.{lambda_hints}
use Rattle.tw_recon.proofs.hints.lambda_hints.Given as goal

abbrev pub invariant-loop-rest : goal.invariant-loop-rest
invariant-loop-rest l = l.hints.items ++ lambda_hints (term_of l.rest) ≡ lambda_hints (term_of l.fn.term)
