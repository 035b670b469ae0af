use Rattle.law_explicit_agrees.proofs.OnlyDefinitions.{definition_no_other as proved}
use Rattle.law_explicit_agrees.proofs.definition_has_no_other_cause.Goals as goal

pub returns : goal.returns
returns c = proved
