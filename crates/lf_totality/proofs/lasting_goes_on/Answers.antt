use Rattle.lf_totality.proofs.Lasting.{lasting_on}
use Rattle.lf_totality.proofs.lasting_goes_on.Goals as goal

pub returns : goal.returns
returns c = lasting_on
