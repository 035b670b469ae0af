use Rattle.tests_substitution.proofs.binding.declare_all.Goals as goal

pub loop-ty-init : goal.loop-ty-init
loop-ty-init c = λ σ Γ b. b

pub loop-ty-preserved : goal.loop-ty-preserved
loop-ty-preserved c = λ σ Γ b. c.in_ok-declare.ensures σ Γ (c.loop-ty.invariant σ Γ b)

pub returns : goal.returns
returns c = λ σ Γ b. c.in_ok-declare_chain.ensures σ Γ (c.loop-ty.invariant σ Γ b)
