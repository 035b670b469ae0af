use Rattle.lf_numbered.proofs.NumberedBeside.{offers_quantify_below, unified_by_number_is_answered}
use Rattle.lf_numbered.proofs.NumberedBesideGoals.{inputs_take_below, outputs_take_below, numbered_takes_below}
use Rattle.lf_numbered.proofs.NumberedBesideTypes.{takers_take_below, worlds_of_atoms}
use Rattle.lf_numbered.proofs.numbered_splits_take_below.Goals as goal

pub returns-clause-taken : goal.returns-clause-taken
returns-clause-taken c = takers_take_below

pub returns-clause-offers : goal.returns-clause-offers
returns-clause-offers c = offers_quantify_below

pub returns-clause-split : goal.returns-clause-split
returns-clause-split c = unified_by_number_is_answered

pub returns-clause-inputs : goal.returns-clause-inputs
returns-clause-inputs c = inputs_take_below

pub returns-clause-outputs : goal.returns-clause-outputs
returns-clause-outputs c = outputs_take_below

pub returns-clause-numbered : goal.returns-clause-numbered
returns-clause-numbered c = numbered_takes_below

pub returns-clause-atoms : goal.returns-clause-atoms
returns-clause-atoms c = worlds_of_atoms
