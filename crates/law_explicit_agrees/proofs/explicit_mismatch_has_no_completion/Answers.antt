use Rattle.law_explicit_agrees.proofs.Mismatch.{explicit_mismatch as proved}
use Rattle.law_explicit_agrees.proofs.explicit_mismatch_has_no_completion.Goals as goal

pub returns : goal.returns
returns c = proved
