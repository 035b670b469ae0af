-- The skeletons of what is written: its types up to their indices. A text has at most one, once it is told what isn't written: the skeleton of each free variable, of
-- each hole, and of each binder without a type.
use Rattle.std.specs.Prelude.{◌≡◌, ℕ, zero, suc, drop, List, [], ◌∷◌, Bool, false, ◌==◌, ◌&&◌, Option, None, Some, slice_get, if◌then◌else◌}
use Rattle.lf.specs.Entries.{Entry, Body, declare_family, declare_constant, declare_definition, entry}
use Rattle.lf.specs.Syntax.{Head, constant, variable, metavariable, Skeleton, base, arrow as arrow_skeleton, skeleton, Kind, kind_pi, star as lf_star}
use Rattle.tw_approx.specs.Readings.{Reading, take, found, and_then}
use Rattle.tw_names.specs.Texts.{ends_in_type}
use Rattle.tw_names.specs.Scope.{binder_name, named}
use Rattle.tw_names.specs.Unknown.{is_uppercase}
use Rattle.tw_parse.specs.Syntax.{Term, Domain, identifier, hole, star, arrow, pi, lambda, application, ascription, untyped, typed, Declaration, declare, define, prefer, give}
use Rattle.tw_fixity.specs.Names.{Names}

-- what each free variable has, by its name
abbrev pub Frees : Type 0
Frees = List ℕ → Skeleton

abbrev pub same_skeleton : Skeleton → Skeleton → Bool
same_skeleton (base a) (base b) = a == b
same_skeleton (arrow_skeleton s t) (arrow_skeleton u v) = same_skeleton s u && same_skeleton t v
same_skeleton _ _ = false

abbrev pub same_skeletons : List Skeleton → List Skeleton → Bool
same_skeletons [] [] = Bool.true
same_skeletons (s ∷ ss) (t ∷ ts) = same_skeleton s t && same_skeletons ss ts
same_skeletons _ _ = false

-- What is left of a skeleton behind its first arguments: those that are implicit aren't written.
abbrev pub behind : ℕ → Skeleton → Option Skeleton
behind zero s = Some s
behind (suc k) (arrow_skeleton s t) = behind k t
behind (suc k) (base a) = None

-- of a constant or a definition where it is used
abbrev pub object_skeleton : ℕ → Body → Option Skeleton
object_skeleton k (declare_family K) = None
object_skeleton k (declare_constant A) = behind k (skeleton A)
object_skeleton k (declare_definition M A b) = behind k (skeleton A)

abbrev pub entry_skeleton : Option Entry → Option Skeleton
entry_skeleton None = None
entry_skeleton (Some e) = object_skeleton e.implicit e.body

-- of what a name names, where the variables in scope have these skeletons; a name in upper case that names nothing is a free variable
abbrev pub name_skeleton : List Entry → Frees → List Skeleton → Option Head → List ℕ → Option Skeleton
name_skeleton es f G (Some (constant c)) x = entry_skeleton (entry es c)
name_skeleton es f G (Some (variable i)) x = slice_get G i
name_skeleton es f G (Some (metavariable m)) x = None
name_skeleton es f G None x = if is_uppercase x then Some (f x) else None

-- What a written family or type is: a family that is still due these arguments, and the skeleton of the type that it then makes; or a hole, for a type of this skeleton.
pub data Family : Type 0 where
  known : List Skeleton → Skeleton → Family
  unknown : Skeleton → Family

-- the skeletons of the arguments that a family of this kind is due
abbrev pub due : Kind → List Skeleton
due (kind_pi A K) = skeleton A ∷ due K
due lf_star = []

abbrev pub family_of_body : ℕ → ℕ → Body → Option Family
family_of_body c k (declare_family K) = Some (known (drop k (due K)) (base c))
family_of_body c k (declare_constant A) = None
family_of_body c k (declare_definition M A b) = None

abbrev pub family_of_entry : ℕ → Option Entry → Option Family
family_of_entry c None = None
family_of_entry c (Some e) = family_of_body c e.implicit e.body

-- only a constant is a family
abbrev pub family_named : List Entry → Option Head → Option Family
family_named es (Some (constant c)) = family_of_entry c (entry es c)
family_named es (Some (variable i)) = None
family_named es (Some (metavariable m)) = None
family_named es None = None

-- a term on an argument
abbrev pub applied : Skeleton → Skeleton → List Skeleton → Reading Skeleton
applied (arrow_skeleton s t) u o = if same_skeleton s u then Some (t, o) else None
applied (base a) u o = None

-- a term and the type that is written for it
abbrev pub ascribed : Skeleton → Skeleton → List Skeleton → Reading Skeleton
ascribed s t o = if same_skeleton s t then Some (s, o) else None

-- A family on an argument. What a hole on arguments stands for is a family that nothing tells: it leaves out one skeleton more, which may be any.
abbrev pub family_applied : Family → Skeleton → List Skeleton → Reading Family
family_applied (known (s ∷ ss) t) u o = if same_skeleton s u then Some (known ss t, o) else None
family_applied (known [] t) u o = None
family_applied (unknown t) u o = and_then (take o) (λ any p. Some (unknown t, p))

-- a family and the kind that is written for it
abbrev pub family_ascribed : Family → List Skeleton → List Skeleton → Reading Family
family_ascribed (known ss t) ds o = if same_skeletons ss ds then Some (known ss t, o) else None
family_ascribed (unknown t) [] o = Some (known [] t, o)
family_ascribed (unknown t) (d ∷ ds) o = and_then (take o) (λ any p. Some (known (d ∷ ds) t, p))

-- a type is a family that is due nothing more
abbrev pub whole : Family → List Skeleton → Reading Skeleton
whole (known [] t) o = Some (t, o)
whole (known (s ∷ ss) t) o = None
whole (unknown t) o = Some (t, o)

-- N are the names of the variables in scope, and G are their skeletons; the variable of an arrow has no name.
module _ (es : List Entry) (f : Frees) where
  abbrev mutual
    -- of a written term
    pub term_skeleton : Names → List Skeleton → Term → List Skeleton → Reading Skeleton
    term_skeleton N G (identifier x at) o = found (name_skeleton es f G (named es N x) x) o
    term_skeleton N G (hole at) o = take o
    term_skeleton N G (lambda x at D M) o = and_then (domain_skeleton N G D o) (λ s p. and_then (term_skeleton (binder_name x ∷ N) (s ∷ G) M p) (λ t q. Some (arrow_skeleton s t, q)))
    term_skeleton N G (application M P) o = and_then (term_skeleton N G M o) (λ s p. and_then (term_skeleton N G P p) (applied s))
    term_skeleton N G (ascription M A) o = and_then (term_skeleton N G M o) (λ s p. and_then (and_then (family_skeleton N G A p) whole) (ascribed s))
    term_skeleton N G _ o = None

    -- of a written family or type; a type is read as a family that is whole
    pub family_skeleton : Names → List Skeleton → Term → List Skeleton → Reading Family
    family_skeleton N G (identifier x at) o = found (family_named es (named es N x)) o
    family_skeleton N G (hole at) o = and_then (take o) (λ t p. Some (unknown t, p))
    family_skeleton N G (arrow U V) o = and_then (and_then (family_skeleton N G U o) whole) (λ s p. and_then (and_then (family_skeleton (None ∷ N) (s ∷ G) V p) whole) (λ t q. Some (known [] (arrow_skeleton s t), q)))
    family_skeleton N G (pi x at D V) o = and_then (domain_skeleton N G D o) (λ s p. and_then (and_then (family_skeleton (binder_name x ∷ N) (s ∷ G) V p) whole) (λ t q. Some (known [] (arrow_skeleton s t), q)))
    family_skeleton N G (application M P) o = and_then (family_skeleton N G M o) (λ F p. and_then (term_skeleton N G P p) (family_applied F))
    family_skeleton N G (ascription M K) o = and_then (family_skeleton N G M o) (λ F p. and_then (kind_due N G K p) (family_ascribed F))
    family_skeleton N G _ o = None

    -- of the variable of a binder
    pub domain_skeleton : Names → List Skeleton → Domain → List Skeleton → Reading Skeleton
    domain_skeleton N G untyped o = take o
    domain_skeleton N G (typed A) o = and_then (family_skeleton N G A o) whole

    -- what a family of the written kind is due
    pub kind_due : Names → List Skeleton → Term → List Skeleton → Reading (List Skeleton)
    kind_due N G star o = Some ([], o)
    kind_due N G (arrow U K) o = and_then (and_then (family_skeleton N G U o) whole) (λ s p. and_then (kind_due (None ∷ N) (s ∷ G) K p) (λ ds q. Some (s ∷ ds, q)))
    kind_due N G (pi x at D K) o = and_then (domain_skeleton N G D o) (λ s p. and_then (kind_due (binder_name x ∷ N) (s ∷ G) K p) (λ ds q. Some (s ∷ ds, q)))
    kind_due N G _ o = None

  -- of a written type
  abbrev pub type_skeleton : Names → List Skeleton → Term → List Skeleton → Reading Skeleton
  type_skeleton N G A o = and_then (family_skeleton N G A o) whole

  -- of a written kind or type: what a family would be due, or a constant's skeleton
  abbrev pub FitsClassifier : Term → List Skeleton → Bool → Type 0
  FitsClassifier U o Bool.true = (ds : List Skeleton) × (kind_due [] [] U o ≡ Some (ds, []))
  FitsClassifier U o false = (s : Skeleton) × (type_skeleton [] [] U o ≡ Some (s, []))

  -- a definition, with the type that is written for it, if one is
  abbrev pub definition_skeleton : Option Term → Term → List Skeleton → Reading Skeleton
  definition_skeleton None M o = term_skeleton [] [] M o
  definition_skeleton (Some A) M o = and_then (type_skeleton [] [] A o) (λ s p. and_then (term_skeleton [] [] M p) (ascribed s))

  -- The declaration has skeletons throughout, where its free variables have these, and this list is what isn't written.
  abbrev pub Fits : List Skeleton → Declaration → Type 0
  Fits o (declare c at U) = FitsClassifier U o (ends_in_type U)
  Fits o (define c A M b) = (s : Skeleton) × (definition_skeleton A M o ≡ Some (s, []))
  Fits o (prefer a x y) = ⊥
  Fits o (give fix names) = ⊥

  -- The goal of a query is a type, and the same of it.
  abbrev pub FitsQuery : List Skeleton → Term → Type 0
  FitsQuery o A = (s : Skeleton) × (type_skeleton [] [] A o ≡ Some (s, []))
