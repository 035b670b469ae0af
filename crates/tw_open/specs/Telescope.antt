-- A kind as a type that takes the same arguments, and the equations of arguments of known types.
use Rattle.std.specs.Prelude.{List, [], ◌∷◌}
use Rattle.lf.specs.AtOnce.{shift_by}
use Rattle.lf.specs.Syntax.{Kind, LfType, Spine, app, kind_pi, nil, pi, rename_type, star}
use Rattle.lf_unification.specs.Unifiers.{Equation}

-- The kind {x:A} K with a type at its end, which is the last domain once more: of {x:n} {y:v x} type this is {x:n} {y:v x} v x.
abbrev pub as_type : LfType → Kind → LfType
as_type A (kind_pi B K) = pi A (as_type B K)
as_type A star = pi A (rename_type (shift_by 1) A)

-- the equations of two rows of arguments of these types, as many as there are of each
abbrev pub equations_of : List LfType → List LfType → Spine → Spine → List Equation
equations_of D (A ∷ As) (app M S) (app N T) = record { local = D; left = M; right = N; of_type = A } ∷ equations_of D As S T
equations_of D (A ∷ As) (app M S) nil = []
equations_of D (A ∷ As) nil T = []
equations_of D [] S T = []
