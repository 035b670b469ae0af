use Rattle.lf_coverage.proofs.ExamplesPatterns.{bound_are_distinct, equations_of_patterns, nat_has_no_indices, stuck_is_no_pattern}
use Rattle.lf_coverage.proofs.stuck_is_no_pattern.Goals as goal

pub returns-clause-distinct : goal.returns-clause-distinct
returns-clause-distinct c = bound_are_distinct

pub returns-clause-equations : goal.returns-clause-equations
returns-clause-equations c = equations_of_patterns

pub returns-clause-stuck : goal.returns-clause-stuck
returns-clause-stuck c = stuck_is_no_pattern

pub returns-clause-indices : goal.returns-clause-indices
returns-clause-indices c = nat_has_no_indices
