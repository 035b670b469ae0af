use Rattle.law_explicit_agrees.proofs.Deep.{explicit_deep_only_so as proved}
use Rattle.law_explicit_agrees.proofs.explicit_is_deep_only_so.Goals as goal

pub returns : goal.returns
returns c = proved
