use Rattle.lf_numbered.proofs.EntryTermsConstants.{constant_matches_by_number as proved}
use Rattle.lf_numbered.proofs.constant_matches_by_number.Goals as goal

pub returns : goal.returns
returns c = proved
