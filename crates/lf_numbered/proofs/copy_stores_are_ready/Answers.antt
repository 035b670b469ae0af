use Rattle.lf_numbered.proofs.MeetsReadyExamples.{copy_stores_are_ready, two_copies_are_ready}
use Rattle.lf_numbered.proofs.copy_stores_are_ready.Goals as goal

pub returns-clause-all : goal.returns-clause-all
returns-clause-all c = copy_stores_are_ready

pub returns-clause-worked : goal.returns-clause-worked
returns-clause-worked c = two_copies_are_ready
