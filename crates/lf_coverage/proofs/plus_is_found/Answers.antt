use Rattle.lf_coverage.proofs.ExamplesRefutingNumbers.{successor_has_numbers, numbered_is_found, successor_is_found, clash_is_refuted, plus_is_found}
use Rattle.lf_coverage.proofs.plus_is_found.Goals as goal

pub returns-clause-numbers : goal.returns-clause-numbers
returns-clause-numbers c = successor_has_numbers

pub returns-clause-own_numbers : goal.returns-clause-own_numbers
returns-clause-own_numbers c = numbered_is_found

pub returns-clause-solved : goal.returns-clause-solved
returns-clause-solved c = successor_is_found

pub returns-clause-refuted : goal.returns-clause-refuted
returns-clause-refuted c = clash_is_refuted

pub returns-clause-split : goal.returns-clause-split
returns-clause-split c = plus_is_found
