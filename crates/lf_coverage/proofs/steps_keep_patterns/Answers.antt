use Rattle.lf_coverage.proofs.PatternSteps.{step_keeps, step_keeps_types, run_keeps}
use Rattle.lf_coverage.proofs.steps_keep_patterns.Goals as goal

pub returns-clause-step : goal.returns-clause-step
returns-clause-step c = λ Σ before after p h. step_keeps Σ p h

pub returns-clause-types : goal.returns-clause-types
returns-clause-types c = λ Σ before after p h t. step_keeps_types Σ p h t

pub returns-clause-solved : goal.returns-clause-solved
returns-clause-solved c = λ Σ before after s h t. run_keeps Σ s.run h t
