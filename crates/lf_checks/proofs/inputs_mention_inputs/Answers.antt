use Rattle.lf_checks.proofs.Marks.{sound_inputs}
use Rattle.lf_checks.proofs.inputs_mention_inputs.Goals as goal

pub returns : goal.returns
returns c = sound_inputs
