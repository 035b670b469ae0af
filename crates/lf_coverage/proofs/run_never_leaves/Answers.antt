use Rattle.lf_coverage.proofs.ExamplesIndices.{vectors_are_layers}
use Rattle.lf_coverage.proofs.IndicesLayers.{layered_run_never_leaves}
use Rattle.lf_coverage.proofs.IndicesNever.{run_never_leaves}
use Rattle.lf_coverage.proofs.run_never_leaves.Goals as goal

pub returns-clause-plain : goal.returns-clause-plain
returns-clause-plain c = run_never_leaves

pub returns-clause-layered : goal.returns-clause-layered
returns-clause-layered c = layered_run_never_leaves

pub returns-clause-example : goal.returns-clause-example
returns-clause-example c = vectors_are_layers
