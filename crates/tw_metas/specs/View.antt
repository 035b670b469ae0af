-- What the values of the program stand for.
use Rattle.std.specs.Prelude.{ℕ, List, [], ◌∷◌, Option, Box, map, reverse}
use Rattle.std.specs.Global.{Global}
use Rattle.std.specs.Option.{option_map}
use Rattle.lf.specs.Syntax.{Term}
use Rattle.tw_terms.specs.OpenView.{open_term_of, open_type_of}
use Rattle.lf_unification.specs.Unifiers as unifiers
use Rattle.tw_metas.specs.State.{Declaration, State}
use Rattle.tw_metas.specs.declared.change.Change.{Change}
use Rattle.tw_metas.specs.declared.change.Change.TheVariants.{Declared, Bound, Postponed, Settled}
use Rattle.tw_metas.specs.declared.contents.Contents.{Contents}
use Rattle.tw_metas.specs.declared.contents.Metavariable.{Metavariable}
use Rattle.tw_metas.specs.declared.equation.Equation.{Equation}

abbrev pub equation_of : Equation → unifiers.Equation
equation_of e = record { local = e.context; left = open_term_of e.left; right = open_term_of e.right; of_type = open_type_of e.ty }

-- an equation that a store keeps, which stands in a box
abbrev pub kept_equation_of : Box Equation Global → unifiers.Equation
kept_equation_of e = equation_of e.value

abbrev pub declaration_of : Metavariable → Declaration
declaration_of x = record { context = x.context; of_type = open_type_of x.ty }

abbrev pub value_in : Metavariable → Option Term
value_in x = option_map open_term_of x.value

-- the numbers of the metavariables that were bound by the changes, which stand the newest in front
abbrev pub bound_by : List Change → List ℕ
bound_by [] = []
bound_by (Declared ∷ cs) = bound_by cs
bound_by (Bound m ∷ cs) = m ∷ bound_by cs
bound_by (Postponed ∷ cs) = bound_by cs
bound_by (Settled at e ∷ cs) = bound_by cs

abbrev pub state_of : Contents → State
state_of c = record { declared = map declaration_of c.metas.items; values = map value_in c.metas.items; bound = bound_by (reverse c.trail.items); equations = map kept_equation_of c.equations.items }
