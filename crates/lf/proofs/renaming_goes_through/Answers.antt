use Rattle.lf.specs.Substitution.{reduce}
use Rattle.lf.proofs.Renaming.{rename_single, reduction_is_natural}
use Rattle.lf.proofs.renaming_goes_through.Goals as goal

pub returns : goal.returns
returns c = λ ρ a N M. rename_single reduce reduction_is_natural ρ a N M
