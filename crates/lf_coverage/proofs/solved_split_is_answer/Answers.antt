use Rattle.lf_coverage.proofs.CasesOf.{solved_split_is_answer}
use Rattle.lf_coverage.proofs.solved_split_is_answer.Goals as goal

pub returns : goal.returns
returns c = solved_split_is_answer
