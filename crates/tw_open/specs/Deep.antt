-- Kinds with deep domains, also behind arguments, and equations of a deep type.
use Rattle.std.specs.Prelude.{ℕ, ◌<◌, ◌⊎◌, List}
use Rattle.lf.specs.Depth.{type_depth}
use Rattle.lf.specs.Subordination.{Member}
use Rattle.lf.specs.Syntax.{Kind, Spine, app, kind_pi, nil, star}
use Rattle.lf.specs.Typing.{instantiate_kind}
use Rattle.lf_unification.specs.Unifiers.{Equation}

-- some domain of the kind is deeper than the limit; what it takes before that one counts for nothing
abbrev pub HasDeepDomain : ℕ → Kind → Type 0
HasDeepDomain limit (kind_pi A K) = (limit < type_depth A) ⊎ HasDeepDomain limit K
HasDeepDomain limit star = ⊥

-- Of the arguments that the kind takes one after another, one leaves a kind with a domain that is deeper than the limit.
abbrev pub KindTakesDeep : ℕ → Kind → Spine → Type 0
KindTakesDeep limit (kind_pi A K) (app M S) = HasDeepDomain limit (instantiate_kind A M K) ⊎ KindTakesDeep limit (instantiate_kind A M K) S
KindTakesDeep limit (kind_pi A K) nil = ⊥
KindTakesDeep limit star S = ⊥

-- some equation has a type deeper than the limit
abbrev pub HasDeepType : ℕ → List Equation → Type 0
HasDeepType limit es = (e : Equation) × Member e es × (limit < type_depth e.of_type)
