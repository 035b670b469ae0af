use Rattle.lf_numbered.proofs.OwnValuesExamples.{pruned_stays_on_own_terms as proved}
use Rattle.lf_numbered.proofs.pruned_stays_on_own_terms.Goals as goal

pub returns : goal.returns
returns c = proved
