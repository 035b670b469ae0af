use Rattle.tests_substitution.proofs.Bindings.{declared_is_bound}
use Rattle.tests_substitution.proofs.stores.declare.Goals as goal

pub returns : goal.returns
returns c = λ σ Γ b. declared_is_bound σ Γ _ _ _ _ c.in_ok-fresh.ensures.ok b
