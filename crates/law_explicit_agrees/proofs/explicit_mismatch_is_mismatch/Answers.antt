use Rattle.law_explicit_agrees.proofs.Reconstructed.{explicit_refused as proved}
use Rattle.law_explicit_agrees.proofs.explicit_mismatch_is_mismatch.Goals as goal

pub returns : goal.returns
returns c = proved
