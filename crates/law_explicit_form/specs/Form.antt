-- The explicit form: each binder has its type, nothing is left to be found, no name is that of a definition or has implicit arguments, and each head has just the arguments
-- that its shape asks for.
use Rattle.std.specs.Prelude.{ℕ, zero, List, [], ◌∷◌, Bool, true, false, ◌&&◌, Option, None, Some, slice_get, if◌then◌else◌}
use Rattle.lf.specs.Entries.{Entry, Body, declare_family, declare_constant, entry}
use Rattle.lf.specs.Syntax.{Head, constant, variable, metavariable, Skeleton, base, arrow as shape_arrow, LfType, pi as lf_pi, atom, Kind, kind_pi, star as lf_star}
use Rattle.tw_fixity.specs.Names.{Names}
use Rattle.tw_names.specs.Scope.{binder_name, named}
use Rattle.tw_parse.specs.Syntax.{Term, Domain, identifier, hole, star, arrow, pi, lambda, application, ascription, untyped, typed, Declaration, declare, define, prefer, give}

-- The shape of a type is its skeleton with all families taken alike.
abbrev pub Shape : Type 0
Shape = Skeleton

abbrev pub point : Shape
point = base zero

abbrev pub shape : LfType → Shape
shape (lf_pi A B) = shape_arrow (shape A) (shape B)
shape (atom a S) = point

abbrev pub kind_shape : Kind → Shape
kind_shape (kind_pi A K) = shape_arrow (shape A) (kind_shape K)
kind_shape lf_star = point

-- A definition has no shape, and neither has what has so many implicit arguments, unless none.
abbrev pub explicit_shape : ℕ → Body → Option Shape
explicit_shape zero (declare_family K) = Some (kind_shape K)
explicit_shape zero (declare_constant A) = Some (shape A)
explicit_shape _ _ = None

abbrev pub entry_shape : Option Entry → Option Shape
entry_shape None = None
entry_shape (Some e) = explicit_shape e.implicit e.body

-- the shape of a written type
abbrev mutual
  pub written_shape : Term → Shape
  written_shape (arrow U V) = shape_arrow (written_shape U) (written_shape V)
  written_shape (pi x at D V) = shape_arrow (domain_shape D) (written_shape V)
  written_shape _ = point

  pub domain_shape : Domain → Shape
  domain_shape untyped = point
  domain_shape (typed U) = written_shape U

-- of what a name names, where the variables in scope have these shapes
abbrev pub head_shape : List Entry → List Shape → Option Head → Option Shape
head_shape es T None = None
head_shape es T (Some (constant c)) = entry_shape (entry es c)
head_shape es T (Some (variable i)) = slice_get T i
head_shape es T (Some (metavariable m)) = None

-- nothing more is due
abbrev pub is_point : Option Shape → Bool
is_point (Some (base c)) = true
is_point _ = false

-- what is left of a shape behind an argument, which stands in the form for what is due
abbrev pub shape_behind : (Shape → Bool) → Option Shape → Option Shape
shape_behind fits (Some (shape_arrow s t)) = if fits s then Some t else None
shape_behind fits _ = None

abbrev mutual
  -- A written type or kind. N are the named variables in scope and T their shapes; that of an arrow has no name. Where `type` stands in a wrong
  -- place is a question of typing.
  pub is_type_form : List Entry → Names → List Shape → Term → Bool
  is_type_form es N T (arrow U V) = is_type_form es N T U && is_type_form es N T V
  is_type_form es N T (pi x at D V) = is_domain_form es N T D && is_type_form es (binder_name x ∷ N) (domain_shape D ∷ T) V
  is_type_form es N T star = true
  is_type_form es N T (identifier x at) = is_point (head_shape es T (named es N x))
  is_type_form es N T (application M P) = is_point (shape_behind (is_term_form es N T P) (shape_left es N T M))
  is_type_form es N T (hole at) = false
  is_type_form es N T (lambda x at D M) = false
  is_type_form es N T (ascription M A) = false

  -- the type of a binder is written
  pub is_domain_form : List Entry → Names → List Shape → Domain → Bool
  is_domain_form es N T untyped = false
  is_domain_form es N T (typed U) = is_type_form es N T U

  -- A written term where this shape is due: a lambda exactly for an arrow. A type in the place of a term is a question of typing.
  pub is_term_form : List Entry → Names → List Shape → Term → Shape → Bool
  is_term_form es N T (lambda x at D M) (shape_arrow s t) = is_domain_form es N T D && is_term_form es (binder_name x ∷ N) (domain_shape D ∷ T) M t
  is_term_form es N T (lambda x at D M) (base c) = false
  is_term_form es N T (identifier x at) (base c) = is_point (head_shape es T (named es N x))
  is_term_form es N T (identifier x at) (shape_arrow s t) = false
  is_term_form es N T (application M P) (base c) = is_point (shape_behind (is_term_form es N T P) (shape_left es N T M))
  is_term_form es N T (application M P) (shape_arrow s t) = false
  is_term_form es N T (arrow U V) s = is_type_form es N T U && is_type_form es N T V
  is_term_form es N T (pi x at D V) s = is_domain_form es N T D && is_type_form es (binder_name x ∷ N) (domain_shape D ∷ T) V
  is_term_form es N T star s = true
  is_term_form es N T (hole at) s = false
  is_term_form es N T (ascription M A) s = false

  -- the shape that is left of a name's shape behind its arguments, if each is in the form
  pub shape_left : List Entry → Names → List Shape → Term → Option Shape
  shape_left es N T (identifier x at) = head_shape es T (named es N x)
  shape_left es N T (application M P) = shape_behind (is_term_form es N T P) (shape_left es N T M)
  shape_left es N T _ = None

-- a declaration whose type is in the form; a definition isn't
abbrev pub is_explicit : List Entry → Declaration → Bool
is_explicit es (declare c at U) = is_type_form es [] [] U
is_explicit es (define c A M b) = false
is_explicit es (prefer a x y) = false
is_explicit es (give fix names) = false
