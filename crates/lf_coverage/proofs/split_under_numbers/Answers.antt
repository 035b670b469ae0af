use Rattle.lf_coverage.proofs.RenumberedSplit.{found_under_numbers, left_is_outside_under_numbers, never_gives_no_case_under_numbers, solved_is_split_under_numbers, too_deep_under_numbers}
use Rattle.lf_coverage.proofs.split_under_numbers.Goals as goal

pub returns-clause-found : goal.returns-clause-found
returns-clause-found c = found_under_numbers

pub returns-clause-never : goal.returns-clause-never
returns-clause-never c = never_gives_no_case_under_numbers

pub returns-clause-solved : goal.returns-clause-solved
returns-clause-solved c = solved_is_split_under_numbers

pub returns-clause-left : goal.returns-clause-left
returns-clause-left c = left_is_outside_under_numbers

pub returns-clause-deep : goal.returns-clause-deep
returns-clause-deep c = too_deep_under_numbers
