use Rattle.lf_coverage.proofs.PatternSplits.{split_case_is_pattern, split_store_is_pattern}
use Rattle.lf_coverage.proofs.split_case_is_pattern.Goals as goal

pub returns-clause-store : goal.returns-clause-store
returns-clause-store c = split_store_is_pattern

pub returns-clause-case : goal.returns-clause-case
returns-clause-case c = split_case_is_pattern
