use Rattle.lf_numbered.proofs.NeededLeftExamples.{circle_alone_is_refused, circle_has_tuple, circle_is_needed, needed_circle_is_true}
use Rattle.lf_numbered.proofs.circle_is_needed.Goals as goal

pub returns-clause-run : goal.returns-clause-run
returns-clause-run c = circle_is_needed

pub returns-clause-tuples : goal.returns-clause-tuples
returns-clause-tuples c = needed_circle_is_true

pub returns-clause-tuple : goal.returns-clause-tuple
returns-clause-tuple c = circle_has_tuple

pub returns-clause-alone : goal.returns-clause-alone
returns-clause-alone c = circle_alone_is_refused
