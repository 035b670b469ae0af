use Rattle.lf_totality.proofs.Copying.{copies}
use Rattle.lf_totality.proofs.terms_have_copies.Goals as goal

pub returns : goal.returns
returns c = copies
