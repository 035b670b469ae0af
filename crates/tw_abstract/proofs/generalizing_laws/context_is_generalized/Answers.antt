use Rattle.std.proofs.Common.{ap}
use Rattle.lf_unification.specs.Dependency.{add_free, free_context, values}
use Rattle.lf_unification.specs.Filling.{fill_type}
use Rattle.lf_unification.specs.OpenTyping.{skeletons_of}
use Rattle.tw_abstract.proofs.Stores.{generalized_context}
use Rattle.tw_abstract.proofs.generalizing_laws.context_is_generalized.Goals as goal

pub returns : goal.returns
returns c = λ Σ ok s w inner outer it A' e f d. (
  fill_type (skeletons_of s.metavariables) (values (skeletons_of s.metavariables) outer) it.of_type,
  generalized_context Σ ok s w inner outer it A' e d,
  ap (λ x. add_free x (fill_type (skeletons_of s.metavariables) (values (skeletons_of s.metavariables) outer) it.of_type) (free_context (skeletons_of s.metavariables) outer)) f,
)
