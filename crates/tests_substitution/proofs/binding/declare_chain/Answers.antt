use Rattle.tests_substitution.proofs.binding.declare_chain.Goals as goal

pub loop-init : goal.loop-init
loop-init c = λ σ Γ b. b

pub loop-preserved : goal.loop-preserved
loop-preserved c = λ σ Γ b. c.in_ok-declare.ensures σ Γ (c.loop.invariant σ Γ b)
