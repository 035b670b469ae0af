use Rattle.lf_numbered.proofs.ExamplesWriting.{head_is_on_other_terms as proved}
use Rattle.lf_numbered.proofs.head_is_on_other_terms.Goals as goal

pub returns : goal.returns
returns c = proved
