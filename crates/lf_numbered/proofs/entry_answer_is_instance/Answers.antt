use Rattle.lf_numbered.proofs.OwnValuesExamplesAnswer.{entry_answer_is_instance as proved}
use Rattle.lf_numbered.proofs.entry_answer_is_instance.Goals as goal

pub returns : goal.returns
returns c = proved
