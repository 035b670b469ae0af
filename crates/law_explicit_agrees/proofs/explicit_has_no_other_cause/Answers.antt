use Rattle.law_explicit_agrees.proofs.Only.{no_other_cause as proved}
use Rattle.law_explicit_agrees.proofs.explicit_has_no_other_cause.Goals as goal

pub returns : goal.returns
returns c = proved
