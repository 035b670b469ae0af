use Rattle.lf_totality.proofs.After.{lasting_more}
use Rattle.lf_totality.proofs.lasting_over_more.Goals as goal

pub returns : goal.returns
returns c = lasting_more
