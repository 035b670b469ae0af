use Rattle.lf_coverage.proofs.ExamplesSubordinate.{arguments_are_not_enough, functions_are_split, outputs_are_raised_below, addition_is_tested, plus_run_is_answered, odd_case_comes_by_none, loose_case_is_split}
use Rattle.lf_coverage.proofs.plus_run_is_answered.Goals as goal

pub returns-clause-arguments : goal.returns-clause-arguments
returns-clause-arguments c = arguments_are_not_enough

pub returns-clause-functions : goal.returns-clause-functions
returns-clause-functions c = functions_are_split

pub returns-clause-test : goal.returns-clause-test
returns-clause-test c = addition_is_tested

pub returns-clause-run : goal.returns-clause-run
returns-clause-run c = plus_run_is_answered

pub returns-clause-odd : goal.returns-clause-odd
returns-clause-odd c = odd_case_comes_by_none

pub returns-clause-loose : goal.returns-clause-loose
returns-clause-loose c = loose_case_is_split

pub returns-clause-outputs : goal.returns-clause-outputs
returns-clause-outputs c = outputs_are_raised_below
