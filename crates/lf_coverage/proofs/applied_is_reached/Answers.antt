use Rattle.lf_coverage.proofs.ExamplesStuck.{patterns_stand, bound_is_taken, applied_is_reached, solved_has_candidate}
use Rattle.lf_coverage.proofs.ExamplesStuckLower.{lower_is_unsplit}
use Rattle.lf_coverage.proofs.ExamplesStuckTests.{zeros_are_tested, lower_is_tested}
use Rattle.lf_coverage.proofs.applied_is_reached.Goals as goal

pub returns-clause-patterns : goal.returns-clause-patterns
returns-clause-patterns c = patterns_stand

pub returns-clause-bound : goal.returns-clause-bound
returns-clause-bound c = bound_is_taken

pub returns-clause-stuck : goal.returns-clause-stuck
returns-clause-stuck c = applied_is_reached

pub returns-clause-solved : goal.returns-clause-solved
returns-clause-solved c = solved_has_candidate

pub returns-clause-lower : goal.returns-clause-lower
returns-clause-lower c = lower_is_unsplit

pub returns-clause-zeros : goal.returns-clause-zeros
returns-clause-zeros c = zeros_are_tested

pub returns-clause-test : goal.returns-clause-test
returns-clause-test c = lower_is_tested
