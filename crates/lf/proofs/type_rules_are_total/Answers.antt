use Rattle.lf.proofs.Rules.{rules_total_type, rules_total_kind}
use Rattle.lf.proofs.type_rules_are_total.Goals as goal

pub returns : goal.returns
returns c = λ κ φ Γ Δ σ w. (λ A. rules_total_type κ φ Γ Δ σ A w, λ K. rules_total_kind κ φ Γ Δ σ K w)
