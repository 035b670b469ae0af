use Rattle.lf_cases.proofs.OverMore.{inputs_over_more}
use Rattle.lf_cases.proofs.covered_inputs_over_more.Goals as goal

pub returns : goal.returns
returns c = inputs_over_more
