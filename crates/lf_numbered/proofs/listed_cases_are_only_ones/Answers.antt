use Rattle.lf_numbered.proofs.OnlyList.{split_case_is_listed, split_has_one_list}
use Rattle.lf_numbered.proofs.listed_cases_are_only_ones.Goals as goal

pub returns-clause-list : goal.returns-clause-list
returns-clause-list c = split_has_one_list

pub returns-clause-case : goal.returns-clause-case
returns-clause-case c = split_case_is_listed
