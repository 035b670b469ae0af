use Rattle.lf_numbered.proofs.MetDeep.{standing_tuple_unifies_deep, unifier_solves_reached}
use Rattle.lf_numbered.proofs.tuples_unify_what_is_deep.Goals as goal

pub returns-clause-reached : goal.returns-clause-reached
returns-clause-reached c = unifier_solves_reached

pub returns-clause-deep : goal.returns-clause-deep
returns-clause-deep c = standing_tuple_unifies_deep
