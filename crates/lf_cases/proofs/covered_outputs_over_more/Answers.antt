use Rattle.lf_cases.proofs.OverMore.{outputs_over_more}
use Rattle.lf_cases.proofs.covered_outputs_over_more.Goals as goal

pub returns : goal.returns
returns c = outputs_over_more
