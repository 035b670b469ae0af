use Rattle.lf_coverage.proofs.ExamplesRenumbering.{new_takes_another, numbers_differ, turned_is_solved}
use Rattle.lf_coverage.proofs.numbers_are_turned.Goals as goal

pub returns-clause-solved : goal.returns-clause-solved
returns-clause-solved c = turned_is_solved

pub returns-clause-differ : goal.returns-clause-differ
returns-clause-differ c = numbers_differ

pub returns-clause-new : goal.returns-clause-new
returns-clause-new c = new_takes_another
