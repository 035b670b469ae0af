use Rattle.lf_closures.proofs.Steps.{argument_applies, argument_value}
use Rattle.lf_closures.proofs.lambda_takes_closure.Goals as goal

pub returns : goal.returns
returns w a b M N e S c f = (argument_applies a b M N e S c f, argument_value a b M N e S c f)
