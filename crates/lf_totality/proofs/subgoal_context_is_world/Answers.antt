use Rattle.lf_totality.proofs.RaisedOutputs.{subgoal_world}
use Rattle.lf_totality.proofs.subgoal_context_is_world.Goals as goal

pub returns : goal.returns
returns c = λ Σ ok W bt m S c U A ct seq needs Σ' x G w σ v. subgoal_world Σ ok W m S bt c U A ct seq needs Σ' x G w σ v
