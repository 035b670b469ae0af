-- Rows of arguments, read one after another.
use Rattle.std.specs.Prelude.{◌≡◌, List, [], ◌∷◌, Option, None, Some}
use Rattle.lf.specs.Entries.{Entry}
use Rattle.tw_approx.specs.Names.{IsFreeIn}
use Rattle.tw_approx.specs.Reading.{IsApplied, TermIsRead}
use Rattle.tw_approx.specs.Skeletons.{term_skeleton}
use Rattle.tw_approx.specs.Walks.{State, filled_all, ReadsShape}
use Rattle.tw_approx.specs.declared.chains.ArgumentRow.{ArgumentRow}
use Rattle.tw_parse.specs.Applied.{applied_to, written_terms}
use Rattle.tw_parse.specs.Syntax.{Term}
use Rattle.tw_shapes.specs.Shapes.{Shape}
use Rattle.tw_shapes.specs.View.{shape_of}

-- what is read so far is some term, which is the whole one where it is applied to these
abbrev pub IsApplying : List Entry → State → State → Term → List Term → Shape → Type 0
IsApplying es s t M Ps S = (T : Term) × (applied_to T Ps ≡ M) × ReadsShape (λ f θ. term_skeleton es f s.names (filled_all θ s.context) T) (λ x. IsFreeIn es x s.names T) s t S

-- the row of a term of which some is read, or none, where the term has no reading
abbrev pub IsBegun : List Entry → State → State → Term → Option ArgumentRow → Type 0
IsBegun es s t M None = TermIsRead es s t M None
IsBegun es s t M (Some r) = IsApplying es s t M (written_terms r.arguments.items) (shape_of r.function)

-- the row on one argument more, of this shape
abbrev pub IsResumed : State → State → ArgumentRow → Shape → Option ArgumentRow → Type 0
IsResumed s t r U None = IsApplied s t (shape_of r.function) U None
IsResumed s t r U (Some q) = IsApplied s t (shape_of r.function) U (Some q.function) × (q.arguments ≡ r.arguments)
