use Rattle.lf_coverage.proofs.PatternCases.{solved_case_is_pattern}
use Rattle.lf_coverage.proofs.PatternCaseTests.{pattern_case_has_patterns}
use Rattle.lf_coverage.proofs.solved_case_is_pattern.Goals as goal

pub returns-clause-solved : goal.returns-clause-solved
returns-clause-solved c = solved_case_is_pattern

pub returns-clause-matching : goal.returns-clause-matching
returns-clause-matching c = pattern_case_has_patterns
