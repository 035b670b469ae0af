use Rattle.tw_abstract.proofs.Stores.{generalized_terms, generalized_types}
use Rattle.tw_abstract.proofs.generalizing_laws.generalizing_is_filling.Goals as goal

pub returns : goal.returns
returns c = λ Σ ok s w D. (generalized_terms Σ ok s w D, generalized_types Σ ok s w D)
