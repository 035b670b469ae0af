use Rattle.lf_numbered.proofs.NumberedBesideFamilies.{worlds_without_some, unified_by_number_keeps_families, unified_each_is_answer, unified_each_covers_inputs, unified_each_gives_outputs}
use Rattle.lf_numbered.proofs.unified_each_covers.Goals as goal

pub returns-clause-without : goal.returns-clause-without
returns-clause-without c = worlds_without_some

pub returns-clause-kept : goal.returns-clause-kept
returns-clause-kept c = unified_by_number_keeps_families

pub returns-clause-answer : goal.returns-clause-answer
returns-clause-answer c = unified_each_is_answer

pub returns-clause-inputs : goal.returns-clause-inputs
returns-clause-inputs c = unified_each_covers_inputs

pub returns-clause-outputs : goal.returns-clause-outputs
returns-clause-outputs c = unified_each_gives_outputs
