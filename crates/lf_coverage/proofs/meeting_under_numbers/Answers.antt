use Rattle.lf_coverage.proofs.RenumberedSplit.{never_is_apart_under_numbers, open_under_numbers, solved_shares_instance_under_numbers}
use Rattle.lf_coverage.proofs.meeting_under_numbers.Goals as goal

pub returns-clause-never : goal.returns-clause-never
returns-clause-never c = never_is_apart_under_numbers

pub returns-clause-solved : goal.returns-clause-solved
returns-clause-solved c = solved_shares_instance_under_numbers

pub returns-clause-open : goal.returns-clause-open
returns-clause-open c = open_under_numbers
