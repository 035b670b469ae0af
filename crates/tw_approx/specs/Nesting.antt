-- How deep a text nests, at the least, where it is declared: how many names, rows, arrows and binders stand inside one another in what stays of it, or of a type that annotates it.
use Rattle.std.specs.Prelude.{ℕ, zero, suc, max, List, Bool, true, false, Option, None, Some, if◌then◌else◌}
use Rattle.lf.specs.Entries.{Entry, Body, declare_family, declare_constant, declare_definition, entry}
use Rattle.tw_parse.specs.Syntax.{Term, Domain, identifier, hole, star, arrow, pi, lambda, application, ascription, untyped, typed, Declaration, declare, define, prefer, give}
use Rattle.tw_signature.specs.Names.{number_of}

-- a family or a constant, which stays where it is written; a definition is reduced away
abbrev pub is_declared_body : Body → Bool
is_declared_body (declare_family K) = true
is_declared_body (declare_constant A) = true
is_declared_body (declare_definition M A b) = false

abbrev pub is_declared_entry : Option Entry → Bool
is_declared_entry None = false
is_declared_entry (Some e) = is_declared_body e.body

abbrev pub is_declared_number : List Entry → Option ℕ → Bool
is_declared_number es None = false
is_declared_number es (Some c) = is_declared_entry (entry es c)

-- The newest entry of the name is a family or a constant.
abbrev pub is_declared : List Entry → List ℕ → Bool
is_declared es x = is_declared_number es (number_of es x)

-- A row stays as it is written, with all its arguments: its head is the name of a family or a constant. A definition or a lambda can be reduced away with its arguments, and
-- what a free variable or a hole stands for can drop them. Scopes aren't looked at: the arguments of a variable in scope stay, and count just where a constant has its name.
abbrev pub is_kept : List Entry → Term → Bool
is_kept es (identifier x at) = is_declared es x
is_kept es (application M P) = is_kept es M
is_kept es _ = false

-- A row that is kept is one level, however many its arguments are: `plus X Y` is 2 deep, and `s (s X)` is 3. The arguments of other rows don't count: `same (s (s X))`, where
-- `same` is a definition, is 1 deep. Nor does an annotation, which is a type at a lambda or an ascribed one: `z : a -> b` is 1 deep, and `[x : a -> b] x` is 2 deep, as `[x] x` is.
module _ (es : List Entry) where
  abbrev mutual
    pub written_depth : Term → ℕ
    written_depth (identifier x at) = 1
    written_depth (hole at) = 1
    written_depth star = 1
    written_depth (arrow U V) = suc (max (written_depth U) (written_depth V))
    written_depth (pi x at D V) = suc (max (domain_depth D) (written_depth V))
    written_depth (lambda x at D M) = suc (written_depth M)
    written_depth (application M P) = if is_kept es M then max (written_depth M) (suc (written_depth P)) else 1
    written_depth (ascription M A) = written_depth M

    pub domain_depth : Domain → ℕ
    domain_depth untyped = zero
    domain_depth (typed A) = written_depth A

  -- The deepest annotation of a text: of the types at lambdas and of those that are ascribed, wherever they stand, also on arguments that don't stay. What is annotated inside
  -- of one doesn't count, since no entry's typing goes through it: in `[x : a -> b] f (y : c -> a -> b)` it is 3, and in `[x : vec (y : a -> b)] x` it is 2.
  abbrev mutual
    pub annotation_depth : Term → ℕ
    annotation_depth (identifier x at) = zero
    annotation_depth (hole at) = zero
    annotation_depth star = zero
    annotation_depth (arrow U V) = max (annotation_depth U) (annotation_depth V)
    annotation_depth (pi x at D V) = max (domain_annotation_depth D) (annotation_depth V)
    annotation_depth (lambda x at D M) = max (domain_depth D) (annotation_depth M)
    annotation_depth (application M P) = max (annotation_depth M) (annotation_depth P)
    annotation_depth (ascription M A) = max (annotation_depth M) (written_depth A)

    -- a domain of a quantifier is a part of its type
    pub domain_annotation_depth : Domain → ℕ
    domain_annotation_depth untyped = zero
    domain_annotation_depth (typed A) = annotation_depth A

  -- how deep a text nests, in what stays of it or in an annotation
  abbrev pub text_depth : Term → ℕ
  text_depth U = max (written_depth U) (annotation_depth U)

  -- of the type of a definition, if it is written
  abbrev pub type_depth : Option Term → ℕ
  type_depth None = zero
  type_depth (Some A) = text_depth A

  -- of a declaration
  abbrev pub declared_depth : Declaration → ℕ
  declared_depth (declare c at U) = text_depth U
  declared_depth (define c A M b) = max (type_depth A) (text_depth M)
  declared_depth (prefer a x y) = zero
  declared_depth (give fix names) = zero
