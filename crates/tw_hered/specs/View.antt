-- The environments that values of the program stand for.
use Rattle.lf.specs.Syntax as lf
use Rattle.lf_closures.specs.Environments as pure
use Rattle.lf_closures.specs.Environments.{stays, closure, move_by, value_in, spine_value_in, applied_in}
use Rattle.lf_closures.specs.Typing.{ClosureFits, SpineClosureFits, ClosureApplies}
use Rattle.tw_terms.specs.View.{head_of, term_of, spine_of, args_of, skeleton_of}
use Rattle.tw_hered.specs.declared.environment.Environment.{Environment, fold-Environment}
use Rattle.tw_hered.specs.declared.environment.Environment.TheOpen.{Environment-F}
use Rattle.tw_hered.specs.declared.environment.Found.{Found}
use Rattle.tw_hered.specs.declared.head.Exposed.{Exposed}
use Rattle.tw_hered.specs.declared.head.Step.{Step}

-- one level, with each part already seen as its environment
abbrev pub environment_step : Environment-F pure.Environment → pure.Environment
environment_step Environment-F.Outside = pure.outside
environment_step (Environment-F.Under n e) = pure.under n e.now
environment_step (Environment-F.Moved n e) = pure.moved n e.now
environment_step (Environment-F.Extended a N c e) = pure.extended (skeleton_of a.now) (term_of N.now) c.now e.now

unfoldable pub environment_of : Environment → pure.Environment
environment_of = fold-Environment pure.Environment environment_step

-- what a lookup found
abbrev pub found_of : Found → pure.Found
found_of (Found.Variable i) = stays i
found_of (Found.Closure x) = closure (skeleton_of x.skeleton.now) (term_of x.term.now) (environment_of x.scope.now) x.binders

-- the canonical form of a term whose head is found
abbrev pub value_of_exposed : Exposed → lf.Term
value_of_exposed (Exposed.Lam M e) = value_in (environment_of e.now) (lf.lambda (term_of M.now))
value_of_exposed (Exposed.Root h S e) = lf.root (head_of h) (spine_value_in (environment_of e.now) (spine_of S.now))
value_of_exposed (Exposed.Applied x ts e) = applied_in (skeleton_of x.skeleton.now) (term_of x.term.now) (move_by x.binders (environment_of x.scope.now)) (args_of ts.now) (environment_of e.now)

-- its parts have skeletons
abbrev pub ExposedFits : Exposed → Type 0
ExposedFits (Exposed.Lam M e) = ClosureFits (environment_of e.now) (lf.lambda (term_of M.now))
ExposedFits (Exposed.Root h S e) = SpineClosureFits (environment_of e.now) (spine_of S.now)
ExposedFits (Exposed.Applied x ts e) = ClosureApplies (skeleton_of x.skeleton.now) (term_of x.term.now) (move_by x.binders (environment_of x.scope.now)) (args_of ts.now) (environment_of e.now)

-- the same after one step
abbrev pub value_of_step : Step → lf.Term
value_of_step (Step.Exposed x) = value_of_exposed x
value_of_step (Step.Entered x) = value_in (environment_of x.environment.now) (term_of x.body.now)

abbrev pub StepFits : Step → Type 0
StepFits (Step.Exposed x) = ExposedFits x
StepFits (Step.Entered x) = ClosureFits (environment_of x.environment.now) (term_of x.body.now)
