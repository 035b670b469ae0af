use Rattle.lf.specs.Substitution.{reduce}
use Rattle.lf.proofs.Renaming.{rename_substituted, reduction_is_natural}
use Rattle.lf.proofs.result_is_renamed.Goals as goal

pub returns : goal.returns
returns c = λ ρ σ M. rename_substituted reduce reduction_is_natural ρ σ M
