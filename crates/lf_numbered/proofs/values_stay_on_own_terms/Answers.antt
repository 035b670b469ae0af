use Rattle.lf_numbered.proofs.OwnValuesSteps.{new_values_are_on_own_terms, own_terms_extend}
use Rattle.lf_numbered.proofs.OwnValuesSolved.{solved_comes_on_own_terms}
use Rattle.lf_numbered.proofs.OwnValuesTerms.{answer_keeps_own_terms}
use Rattle.lf_numbered.proofs.values_stay_on_own_terms.Goals as goal

pub returns-clause-new : goal.returns-clause-new
returns-clause-new c = new_values_are_on_own_terms

pub returns-clause-extend : goal.returns-clause-extend
returns-clause-extend c = own_terms_extend

pub returns-clause-solved : goal.returns-clause-solved
returns-clause-solved c = solved_comes_on_own_terms

pub returns-clause-answer : goal.returns-clause-answer
returns-clause-answer c = answer_keeps_own_terms
