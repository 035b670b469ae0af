use Rattle.lf_numbered.proofs.NumberedNeedsExamples.{open_subgoal_is_refused, other_family_is_refused, other_type_is_refused}
use Rattle.lf_numbered.proofs.NumberedNeedsPlus.{plus_has_needs}
use Rattle.lf_numbered.proofs.NumberedNeedsUntyped.{untyped_block_is_refused}
use Rattle.lf_numbered.proofs.needs_are_worked.Goals as goal

pub returns-clause-plus : goal.returns-clause-plus
returns-clause-plus c = plus_has_needs

pub returns-clause-family : goal.returns-clause-family
returns-clause-family c = other_family_is_refused

pub returns-clause-argument : goal.returns-clause-argument
returns-clause-argument c = other_type_is_refused

pub returns-clause-open : goal.returns-clause-open
returns-clause-open c = open_subgoal_is_refused

pub returns-clause-block : goal.returns-clause-block
returns-clause-block c = untyped_block_is_refused
