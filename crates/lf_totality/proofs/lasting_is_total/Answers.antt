use Rattle.lf_totality.proofs.After.{lasting_total}
use Rattle.lf_totality.proofs.lasting_is_total.Goals as goal

pub returns : goal.returns
returns c = λ Σ ok f m W S l. lasting_total Σ f m W S ok l
