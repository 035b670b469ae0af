use Rattle.lf_numbered.proofs.LeftEquations.{head_is_given, left_holds_true, left_is_true, new_head_is_given, run_left_holds_true}
use Rattle.lf_numbered.proofs.LeftGiven.{head_is_offered}
use Rattle.lf_numbered.proofs.left_equations_are_true.Goals as goal

pub returns-clause-instances : goal.returns-clause-instances
returns-clause-instances c = left_is_true

pub returns-clause-tuples : goal.returns-clause-tuples
returns-clause-tuples c = left_holds_true

pub returns-clause-run : goal.returns-clause-run
returns-clause-run c = run_left_holds_true

pub returns-clause-given : goal.returns-clause-given
returns-clause-given c = head_is_given

pub returns-clause-new_given : goal.returns-clause-new_given
returns-clause-new_given c = new_head_is_given

pub returns-clause-offered : goal.returns-clause-offered
returns-clause-offered c = head_is_offered
