use Rattle.lf.specs.Substitution.{reduce}
use Rattle.lf.proofs.Renaming.{substitute_renamed}
use Rattle.lf.proofs.renamed_is_substituted.Goals as goal

pub returns : goal.returns
returns c = λ σ ρ M. substitute_renamed reduce σ ρ M
