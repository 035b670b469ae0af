use Rattle.lf_numbered.proofs.NumberedBesideFamiliesExamples.{some_is_outside, exp_is_in, open_each_is_covered}
use Rattle.lf_numbered.proofs.open_each_is_covered.Goals as goal

pub returns-clause-worlds : goal.returns-clause-worlds
returns-clause-worlds c = some_is_outside

pub returns-clause-items : goal.returns-clause-items
returns-clause-items c = exp_is_in

pub returns-clause-run : goal.returns-clause-run
returns-clause-run c = open_each_is_covered
