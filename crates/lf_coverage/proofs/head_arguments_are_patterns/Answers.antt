use Rattle.lf_coverage.proofs.PatternHeads.{head_arguments_are_patterns, variables_are_patterns}
use Rattle.lf_coverage.proofs.PatternHeadTerm.{head_term_is_pattern}
use Rattle.lf_coverage.proofs.head_arguments_are_patterns.Goals as goal

pub returns-clause-arguments : goal.returns-clause-arguments
returns-clause-arguments c = head_arguments_are_patterns

pub returns-clause-variables : goal.returns-clause-variables
returns-clause-variables c = variables_are_patterns

pub returns-clause-head : goal.returns-clause-head
returns-clause-head c = head_term_is_pattern
