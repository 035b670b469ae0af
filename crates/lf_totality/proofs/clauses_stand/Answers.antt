use Rattle.lf_totality.proofs.ExamplesSplits.{clauses_stand as proved}
use Rattle.lf_totality.proofs.clauses_stand.Goals as goal

pub returns : goal.returns
returns c = proved
