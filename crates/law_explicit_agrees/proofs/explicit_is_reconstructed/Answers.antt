use Rattle.law_explicit_agrees.proofs.Reconstructed.{explicit_reconstructed as proved}
use Rattle.law_explicit_agrees.proofs.explicit_is_reconstructed.Goals as goal

pub returns : goal.returns
returns c = proved
