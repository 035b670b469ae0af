use Rattle.lf_checks.proofs.Called.{rows_met, first_met}
use Rattle.lf_checks.proofs.families_met_have_rows.Goals as goal

pub returns : goal.returns
returns c = λ rows clauses. (rows_met rows clauses, first_met rows clauses)
