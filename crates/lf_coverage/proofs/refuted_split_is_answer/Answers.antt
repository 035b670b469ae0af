use Rattle.lf_coverage.proofs.RefutedSplits.{refuted_split_is_answer}
use Rattle.lf_coverage.proofs.refuted_split_is_answer.Goals as goal

pub returns : goal.returns
returns c = refuted_split_is_answer
