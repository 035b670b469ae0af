-- The environments that values of the program stand for.
use Rattle.std.specs.Prelude.{ℕ}
use Rattle.lf.specs.Syntax as lf
use Rattle.lf.specs.Syntax.{skeleton}
use Rattle.lf_closures.specs.Environments as pure
use Rattle.lf_closures.specs.Environments.{stays, closure}
use Rattle.tw_metas.specs.State.{State}
use Rattle.tw_terms.specs.OpenView.{open_head_of, open_term_of, open_spine_of, open_type_of}
use Rattle.tw_putting.specs.Frames.{WalkFits, WalkSpineFits}
use Rattle.tw_putting.specs.Values.{put_value, put_spine_value}
use Rattle.tw_putting.specs.declared.environment.Environment.{Environment, fold-Environment}
use Rattle.tw_putting.specs.declared.environment.Environment.TheOpen.{Environment-F}
use Rattle.tw_putting.specs.declared.environment.Found.{Found}
use Rattle.tw_putting.specs.declared.head.Exposed.{Exposed}
use Rattle.tw_putting.specs.declared.head.Step.{Step}

-- one level, with each part already seen as its environment
abbrev pub environment_step : Environment-F pure.Environment → pure.Environment
environment_step Environment-F.Outside = pure.outside
environment_step (Environment-F.Under n e) = pure.under n e.now
environment_step (Environment-F.Moved n e) = pure.moved n e.now
environment_step (Environment-F.Extended a N c e) = pure.extended (skeleton (open_type_of a.now)) (open_term_of N.now) c.now e.now

unfoldable pub environment_of : Environment → pure.Environment
environment_of = fold-Environment pure.Environment environment_step

-- what a lookup found
abbrev pub found_of : Found → pure.Found
found_of (Found.Variable i) = stays i
found_of (Found.Closure x) = closure (skeleton (open_type_of x.ty.now)) (open_term_of x.term.now) (environment_of x.scope.now) x.binders

-- the canonical form of a term whose head is found, with the values of the state put in, under k binders
abbrev pub value_of_exposed : State → ℕ → Exposed → lf.Term
value_of_exposed s k (Exposed.Lam M e) = put_value s k (environment_of e.now) (lf.lambda (open_term_of M.now))
value_of_exposed s k (Exposed.Root h S e) = lf.root (open_head_of h) (put_spine_value s k (environment_of e.now) (open_spine_of S.now))

-- its parts have skeletons
abbrev pub ExposedFits : State → ℕ → Exposed → Type 0
ExposedFits s k (Exposed.Lam M e) = WalkFits s k (environment_of e.now) (lf.lambda (open_term_of M.now))
ExposedFits s k (Exposed.Root h S e) = WalkSpineFits s k (environment_of e.now) (open_spine_of S.now)

-- the same after one step
abbrev pub value_of_step : State → ℕ → Step → lf.Term
value_of_step s k (Step.Exposed x) = value_of_exposed s k x
value_of_step s k (Step.Entered x) = put_value s k (environment_of x.environment.now) (open_term_of x.body.now)

abbrev pub StepFits : State → ℕ → Step → Type 0
StepFits s k (Step.Exposed x) = ExposedFits s k x
StepFits s k (Step.Entered x) = WalkFits s k (environment_of x.environment.now) (open_term_of x.body.now)
