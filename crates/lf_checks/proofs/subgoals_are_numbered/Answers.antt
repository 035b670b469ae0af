use Rattle.lf_checks.proofs.Numbered.{has_number, number_of, in_order, one_number}
use Rattle.lf_checks.proofs.subgoals_are_numbered.Goals as goal

pub returns : goal.returns
returns c = λ k. (has_number k, number_of k, in_order k, one_number k)
