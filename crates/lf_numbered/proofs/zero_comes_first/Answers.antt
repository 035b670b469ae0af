use Rattle.lf_numbered.proofs.OnlyExamples.{exchanged_is_same, idle_is_not_same, zero_comes_first}
use Rattle.lf_numbered.proofs.zero_comes_first.Goals as goal

pub returns-clause-list : goal.returns-clause-list
returns-clause-list c = zero_comes_first

pub returns-clause-exchanged : goal.returns-clause-exchanged
returns-clause-exchanged c = exchanged_is_same

pub returns-clause-idle : goal.returns-clause-idle
returns-clause-idle c = idle_is_not_same
