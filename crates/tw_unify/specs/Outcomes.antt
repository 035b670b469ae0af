-- What a part of the work comes to, between the whole store before and after it.
use Rattle.std.specs.Prelude.{List, map, reverse}
use Rattle.lf.specs.Depth.{depth_limit}
use Rattle.lf.specs.Typing.{Signature}
use Rattle.lf_unification.specs.DeepEquations.{AreDeep}
use Rattle.lf_unification.specs.ReachedRuns.{ReachedRun}
use Rattle.lf_unification.specs.Steps.{CanRefute}
use Rattle.lf_unification.specs.Unifiers as unifiers
use Rattle.tw_metas.specs.View.{equation_of}
use Rattle.tw_metas.specs.declared.equation.Equation.{Equation}
use Rattle.tw_unify.specs.declared.fault.UnifyFault.{UnifyFault}
use Rattle.tw_unify.specs.declared.fault.UnifyFault.TheVariants.{TooDeep, NoMemory}
use Rattle.tw_unify.specs.declared.work.Advance.{Advance}
use Rattle.tw_unify.specs.declared.work.Advance.TheVariants.{Went, Bound, Postponed, Refuted}

-- a stack of equations, the last one first
abbrev pub stacked : List Equation → List unifiers.Equation
stacked es = reverse (map equation_of es)

-- steps were made, which renewed only what is reached, or the store can be refuted
abbrev pub Advances : Advance → Signature → unifiers.Store → unifiers.Store → Type 0
Advances Went Σ before after = ReachedRun Σ before after
Advances (Bound m) Σ before after = ReachedRun Σ before after
Advances Postponed Σ before after = ReachedRun Σ before after
Advances Refuted Σ before after = CanRefute Σ before

-- the cause of a fault
abbrev pub Explains : UnifyFault → Signature → unifiers.Store → Type 0
Explains TooDeep Σ before = AreDeep depth_limit Σ before
Explains NoMemory Σ before = Unit {0}
