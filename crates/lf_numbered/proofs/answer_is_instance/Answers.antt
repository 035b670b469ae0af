use Rattle.lf_numbered.proofs.OwnValuesAnswer.{answer_is_instance}
use Rattle.lf_numbered.proofs.OwnValuesTuples.{tuple_is_of_answer}
use Rattle.lf_numbered.proofs.answer_is_instance.Goals as goal

pub returns-clause-instance : goal.returns-clause-instance
returns-clause-instance c = answer_is_instance

pub returns-clause-tuples : goal.returns-clause-tuples
returns-clause-tuples c = tuple_is_of_answer
