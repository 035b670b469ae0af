use Rattle.lf_coverage.proofs.SplitInstance.{split_case_is_instance}
use Rattle.lf_coverage.proofs.split_case_is_instance.Goals as goal

pub returns : goal.returns
returns c = split_case_is_instance
