-- What is read off a text as it stands: whether it is a kind, and the names of its leading binders.
use Rattle.std.specs.Prelude.{ℕ, List, [], ◌∷◌, Bool, true, false, Option, None}
use Rattle.tw_names.specs.Scope.{binder_name}
use Rattle.tw_parse.specs.Syntax.{Term, star, arrow, pi}

-- whether a written type is a kind
abbrev pub ends_in_type : Term → Bool
ends_in_type (arrow U V) = ends_in_type V
ends_in_type (pi x at D V) = ends_in_type V
ends_in_type star = true
ends_in_type _ = false

-- for each leading quantifier the name of its binder; an arrow has none
abbrev pub hints : Term → List (Option (List ℕ))
hints (arrow U V) = None ∷ hints V
hints (pi x at D V) = binder_name x ∷ hints V
hints _ = []
