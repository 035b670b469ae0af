use Rattle.lf.proofs.Composition.{substitutions_compose}
use Rattle.lf.proofs.substitutions_compose.Goals as goal

pub returns : goal.returns
returns c = substitutions_compose
