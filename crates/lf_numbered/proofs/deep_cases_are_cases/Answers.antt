use Rattle.lf_numbered.proofs.DeepCases.{deep_run_is_of_goal, deep_split_is_of_case, reached_is_case_of, split_case_is_case_of}
use Rattle.lf_numbered.proofs.deep_cases_are_cases.Goals as goal

pub returns-clause-split_case : goal.returns-clause-split_case
returns-clause-split_case c = split_case_is_case_of

pub returns-clause-reached_case : goal.returns-clause-reached_case
returns-clause-reached_case c = reached_is_case_of

pub returns-clause-split : goal.returns-clause-split
returns-clause-split c = deep_split_is_of_case

pub returns-clause-run : goal.returns-clause-run
returns-clause-run c = deep_run_is_of_goal
