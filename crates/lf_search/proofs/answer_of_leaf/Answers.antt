use Rattle.lf_search.proofs.LeafAnswer.{leaf_answer, leaf_is_read}
use Rattle.lf_search.proofs.answer_of_leaf.Goals as goal

pub returns : goal.returns
returns c = λ es ok G A d t leaves tries agenda run l i e. (leaf_answer es ok G A d t leaves tries agenda run l i e, leaf_is_read es ok G A d t leaves tries agenda run l i e)
