use Rattle.lf_numbered.proofs.NumberedBesideExamples.{taking_is_less, high_block_takes_more, open_inputs_are_covered}
use Rattle.lf_numbered.proofs.open_inputs_are_covered.Goals as goal

pub returns-clause-taking : goal.returns-clause-taking
returns-clause-taking c = taking_is_less

pub returns-clause-worlds : goal.returns-clause-worlds
returns-clause-worlds c = high_block_takes_more

pub returns-clause-run : goal.returns-clause-run
returns-clause-run c = open_inputs_are_covered
