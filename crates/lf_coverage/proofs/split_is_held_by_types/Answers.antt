use Rattle.lf_coverage.proofs.ExamplesIndices.{type_holds_equation}
use Rattle.lf_coverage.proofs.IndicesHeld.{indexed_run_is_held_by_types}
use Rattle.lf_coverage.proofs.IndicesLeft.{split_is_held_by_types}
use Rattle.lf_coverage.proofs.split_is_held_by_types.Goals as goal

pub returns-clause-split : goal.returns-clause-split
returns-clause-split c = split_is_held_by_types

pub returns-clause-run : goal.returns-clause-run
returns-clause-run c = indexed_run_is_held_by_types

pub returns-clause-example : goal.returns-clause-example
returns-clause-example c = type_holds_equation
