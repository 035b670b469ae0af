use Rattle.lf_coverage.proofs.ExamplesIndices.{nested_has_none, nested_is_no_pattern, usual_families_have_patterns}
use Rattle.lf_coverage.proofs.usual_families_have_patterns.Goals as goal

pub returns-clause-usual : goal.returns-clause-usual
returns-clause-usual c = usual_families_have_patterns

pub returns-clause-nested : goal.returns-clause-nested
returns-clause-nested c = nested_has_none

pub returns-clause-case : goal.returns-clause-case
returns-clause-case c = nested_is_no_pattern
