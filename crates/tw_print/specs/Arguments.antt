-- The arguments of heads, with the types that lambdas are shown by.
use Rattle.std.specs.Prelude.{ℕ, suc, zero, List, [], ◌∷◌, Option, Some, None, cond, slice_get, length}
use Rattle.lf.specs.Syntax.{Head, constant, variable, metavariable, Term, lambda, root, Spine, nil, app, LfType, pi, atom, Kind, kind_pi, star, rename_type}
use Rattle.lf.specs.AtOnce.{shift_by}
use Rattle.lf.specs.Typing.{instantiate_type}
use Rattle.lf.specs.Entries.{Entry, entry, type_of, kind_of}
use Rattle.tw_print.specs.Names.{Scene}

-- A term and, where it is a lambda, its type. A root is shown without its type.
abbrev pub Argument : Type 0
Argument = Term × Option LfType

abbrev pub with_type : Term → LfType → Argument
with_type (lambda M) A = (lambda M, Some A)
with_type (root h S) A = (root h S, None)

-- A spine's arguments at the type of its head: each has the domain of the type that is left once those before it are put in.
abbrev pub arguments : LfType → Spine → List Argument
arguments A nil = []
arguments (pi A B) (app M S) = with_type M A ∷ arguments (instantiate_type A M B) S
arguments (atom a T) (app M S) = (M, None) ∷ arguments (atom a T) S

-- the same without types, as of a spine without lambdas
abbrev pub bare_arguments : Spine → List Argument
bare_arguments nil = []
bare_arguments (app M S) = (M, None) ∷ bare_arguments S

-- A family's arguments are those of a constant whose type has the quantifiers of the family's kind, over some family.
abbrev pub kind_as_type : ℕ → Kind → LfType
kind_as_type a (kind_pi A K) = pi A (kind_as_type a K)
kind_as_type a star = atom a nil

abbrev pub type_or : Option LfType → LfType
type_or (Some A) = A
type_or None = atom zero nil

abbrev pub kind_or : Option Kind → Kind
kind_or (Some K) = K
kind_or None = star

-- the type of a variable of the context, moved over the variables inside it
abbrev pub variable_type : Option LfType → ℕ → LfType
variable_type (Some A) i = rename_type (shift_by (suc i)) A
variable_type None i = atom zero nil

abbrev pub head_type : Scene → List LfType → Head → LfType
head_type s G (constant c) = type_or (type_of (entry s.entries c))
head_type s G (variable i) = variable_type (slice_get G i) i
head_type s G (metavariable m) = atom zero nil

abbrev pub family_type : Scene → ℕ → LfType
family_type s a = kind_as_type (length s.entries) (kind_or (kind_of (entry s.entries a)))

abbrev pub implicit_in : Option Entry → ℕ
implicit_in (Some e) = e.implicit
implicit_in None = zero

-- How many of a constant's first arguments are hidden: the implicit ones, unless they are to be shown.
abbrev pub hidden : Scene → ℕ → ℕ
hidden s c = cond s.implicit zero (implicit_in (entry s.entries c))

abbrev pub head_hidden : Scene → Head → ℕ
head_hidden s (constant c) = hidden s c
head_hidden s (variable i) = zero
head_hidden s (metavariable m) = zero

-- how many arguments a spine has
abbrev pub spine_length : Spine → ℕ
spine_length nil = zero
spine_length (app M S) = suc (spine_length S)
