use Rattle.lf_numbered.proofs.MetLeft.{unifier_solves_left}
use Rattle.lf_numbered.proofs.MetTuples.{standing_tuple_has_unifier, standing_tuple_solves_left, unsolved_left_has_no_tuple}
use Rattle.lf_numbered.proofs.MetPlaces.{tuple_stands_somewhere}
use Rattle.lf_numbered.proofs.tuples_solve_what_is_left.Goals as goal

pub returns-clause-left : goal.returns-clause-left
returns-clause-left c = unifier_solves_left

pub returns-clause-unifier : goal.returns-clause-unifier
returns-clause-unifier c = standing_tuple_has_unifier

pub returns-clause-solves : goal.returns-clause-solves
returns-clause-solves c = standing_tuple_solves_left

pub returns-clause-none : goal.returns-clause-none
returns-clause-none c = unsolved_left_has_no_tuple

pub returns-clause-stands : goal.returns-clause-stands
returns-clause-stands c = tuple_stands_somewhere
