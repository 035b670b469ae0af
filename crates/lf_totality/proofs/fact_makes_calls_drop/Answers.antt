use Rattle.lf_totality.proofs.ExamplesFacts.{fact_makes_calls_drop}
use Rattle.lf_totality.proofs.fact_makes_calls_drop.Goals as goal

pub returns : goal.returns
returns c = fact_makes_calls_drop
