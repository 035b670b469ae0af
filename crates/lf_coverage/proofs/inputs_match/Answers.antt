use Rattle.lf_coverage.proofs.InputsMatching.{inputs_match}
use Rattle.lf_coverage.proofs.inputs_match.Goals as goal

pub returns : goal.returns
returns c = inputs_match
