use Rattle.lf_coverage.proofs.RefutingNumbers.{found_split_is_refuted, refuted_split_is_found, found_split_is_answer, found_run_is_refuted}
use Rattle.lf_coverage.proofs.RefutingNumbersStores.{numbered_store_is_found}
use Rattle.lf_coverage.proofs.found_split_is_refuted.Goals as goal

pub returns-clause-split : goal.returns-clause-split
returns-clause-split c = found_split_is_refuted

pub returns-clause-any_numbers : goal.returns-clause-any_numbers
returns-clause-any_numbers c = refuted_split_is_found

pub returns-clause-answer : goal.returns-clause-answer
returns-clause-answer c = found_split_is_answer

pub returns-clause-run : goal.returns-clause-run
returns-clause-run c = found_run_is_refuted

pub returns-clause-own_numbers : goal.returns-clause-own_numbers
returns-clause-own_numbers c = numbered_store_is_found
