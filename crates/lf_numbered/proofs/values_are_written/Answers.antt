use Rattle.lf_numbered.proofs.WritingReadTyped.{values_are_written}
use Rattle.lf_numbered.proofs.WritingOwn.{written_values_are_typed}
use Rattle.lf_numbered.proofs.values_are_written.Goals as goal

pub returns-clause-values : goal.returns-clause-values
returns-clause-values c = values_are_written

pub returns-clause-typed : goal.returns-clause-typed
returns-clause-typed c = written_values_are_typed
