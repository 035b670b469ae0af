use Rattle.lf_numbered.proofs.NumberedCallsRows.{copies_are_equated, own_terms_are_no_candidates}
use Rattle.lf_numbered.proofs.rows_by_number.Goals as goal

pub returns-clause-equated : goal.returns-clause-equated
returns-clause-equated c = copies_are_equated

pub returns-clause-candidates : goal.returns-clause-candidates
returns-clause-candidates c = own_terms_are_no_candidates
