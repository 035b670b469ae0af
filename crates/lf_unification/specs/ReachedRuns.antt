-- Runs of steps of unification that renew only what is reached. The steps may renew any other metavariable, a hole of a proof too; a solver has
-- no need to.
use Rattle.lf.specs.Typing.{Signature}
use Rattle.lf_unification.specs.DeepEquations.{EquationsReach}
use Rattle.lf_unification.specs.Steps.{Run, Step, bind, drop_equal, equal_heads, next_equation, no_step, open_lambdas, prune_both, prune_inside, put_bindings, renew, then_run}
use Rattle.lf_unification.specs.Unifiers.{Store}

-- A step that renews a metavariable renews one that is reached from an equation.
abbrev pub RenewsReached : {Σ : Signature} {s s' : Store} → Step Σ s s' → Type 0
RenewsReached (next_equation es e fs) = Unit {0}
RenewsReached (put_bindings p q) = Unit {0}
RenewsReached drop_equal = Unit {0}
RenewsReached open_lambdas = Unit {0}
RenewsReached (equal_heads h A r t) = Unit {0}
RenewsReached (bind side D m xs N C e u p b) = Unit {0}
RenewsReached (prune_inside side D m xs N C e k p u n c) = Unit {0}
RenewsReached (prune_both side D m xs N C e k p u n c) = Unit {0}
RenewsReached (renew {Ψ = Ψ} {bs = bs} {es = es} m A A' e u t p n c) = EquationsReach (record { metavariables = Ψ; bindings = bs; equations = es }) m

-- each step of a run
abbrev pub RunRenewsReached : {Σ : Signature} {s s' : Store} → Run Σ s s' → Type 0
RunRenewsReached no_step = Unit {0}
RunRenewsReached (then_run p r) = RenewsReached p × RunRenewsReached r

-- from one store to the other goes a run that renews only what is reached
pub record ReachedRun (Σ : Signature) (s s' : Store) : Type 0 where
  pub run : Run Σ s s'
  pub renews : RunRenewsReached run
