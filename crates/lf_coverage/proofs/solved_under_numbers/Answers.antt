use Rattle.lf_coverage.proofs.RenumberedDeep.{deep_under_numbers}
use Rattle.lf_coverage.proofs.RenumberedSolving.{left_under_numbers, solved_under_numbers}
use Rattle.lf_coverage.proofs.solved_under_numbers.Goals as goal

pub returns-clause-solved : goal.returns-clause-solved
returns-clause-solved c = solved_under_numbers

pub returns-clause-left : goal.returns-clause-left
returns-clause-left c = left_under_numbers

pub returns-clause-deep : goal.returns-clause-deep
returns-clause-deep c = deep_under_numbers
