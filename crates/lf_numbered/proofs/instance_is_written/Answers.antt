use Rattle.lf_numbered.proofs.WritingInstance.{entries_extend, instance_is_written}
use Rattle.lf_numbered.proofs.instance_is_written.Goals as goal

pub returns-clause-extends : goal.returns-clause-extends
returns-clause-extends c = entries_extend

pub returns-clause-written : goal.returns-clause-written
returns-clause-written c = instance_is_written
