use Rattle.lf.proofs.Renaming.{renamings_compose}
use Rattle.lf.proofs.renamings_compose.Goals as goal

pub returns : goal.returns
returns c = λ ρ τ M. renamings_compose ρ τ M
