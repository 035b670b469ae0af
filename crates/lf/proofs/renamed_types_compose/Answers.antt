use Rattle.lf.proofs.TypeLaws.{renamings_compose_type}
use Rattle.lf.proofs.renamed_types_compose.Goals as goal

pub returns : goal.returns
returns c = λ ρ τ A. renamings_compose_type ρ τ A
