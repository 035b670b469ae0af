use Rattle.std.proofs.Common.{◌≡◌, reverse}
use Rattle.tw_approx.specs.Lambdas.{lambdas_in, lambdas_left, work}
use Rattle.tw_approx.specs.Levels.{earliest}
use Rattle.tw_approx.proofs.lambdas.first_lambda.Given as goal

-- those so far, and those of what waits
abbrev pub invariant-loop-next : goal.invariant-loop-next
invariant-loop-next l = earliest l.found (lambdas_left (reverse l.waiting.items)) ≡ earliest l.fn.before (lambdas_in l.fn.part)

abbrev pub decreases-loop-next : goal.decreases-loop-next
decreases-loop-next l = work l.waiting.items
