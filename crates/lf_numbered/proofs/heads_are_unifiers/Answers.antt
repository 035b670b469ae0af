use Rattle.lf_numbered.proofs.LeftBack.{unifier_has_head}
use Rattle.lf_numbered.proofs.LeftTyped.{over_head_is_typed}
use Rattle.lf_numbered.proofs.LeftUnifiers.{head_is_unifier}
use Rattle.lf_numbered.proofs.heads_are_unifiers.Goals as goal

pub returns-clause-typed : goal.returns-clause-typed
returns-clause-typed c = over_head_is_typed

pub returns-clause-unifier : goal.returns-clause-unifier
returns-clause-unifier c = head_is_unifier

pub returns-clause-back : goal.returns-clause-back
returns-clause-back c = unifier_has_head
