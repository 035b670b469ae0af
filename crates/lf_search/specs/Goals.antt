-- The query of a goal: the variables of its context are metavariables, numbered from the outermost, and the hole of the proof is the next one.
-- Of `p X Y`, over X : nat and Y : nat, it is `p 0 1` with the hole 2.
use Rattle.std.specs.Prelude.{◌≡◌, ℕ, zero, suc, List, [], ◌∷◌, length, Option, Some, None}
use Rattle.lf.specs.Syntax.{Head, LfType, Spine, Term, app, atom, constant, lambda, metavariable, nil, pi, rename_head, root, variable}
use Rattle.lf_unification.specs.OpenTyping.{set_at}
use Rattle.lf_unification.specs.Query.{Query, start}
use Rattle.lf_unification.specs.Search.{Node}

-- heads that stand for variables, under one more binder
abbrev pub under_head : (ℕ → Head) → ℕ → Head
under_head h zero = variable zero
under_head h (suc i) = rename_head suc (h i)

-- a term with these heads for its variables
abbrev mutual
  pub with_heads : (ℕ → Head) → Term → Term
  with_heads h (lambda M) = lambda (with_heads (under_head h) M)
  with_heads h (root (constant c) S) = root (constant c) (spine_with_heads h S)
  with_heads h (root (metavariable m) S) = root (metavariable m) (spine_with_heads h S)
  with_heads h (root (variable i) S) = root (h i) (spine_with_heads h S)

  -- the same, argument by argument
  pub spine_with_heads : (ℕ → Head) → Spine → Spine
  spine_with_heads h nil = nil
  spine_with_heads h (app M S) = app (with_heads h M) (spine_with_heads h S)

-- the same in a type
abbrev pub type_with_heads : (ℕ → Head) → LfType → LfType
type_with_heads h (pi A B) = pi (type_with_heads h A) (type_with_heads (under_head h) B)
type_with_heads h (atom a S) = atom a (spine_with_heads h S)

-- the metavariables that stand for the variables of a context
abbrev pub variable_heads : List LfType → ℕ → Head
variable_heads [] i = variable i
variable_heads (A ∷ G) zero = metavariable (length G)
variable_heads (A ∷ G) (suc i) = variable_heads G i

-- a type in the context, over these metavariables
abbrev pub over_metavariables : List LfType → LfType → LfType
over_metavariables G A = type_with_heads (variable_heads G) A

-- they themselves, with their types
abbrev pub metavariables_of : List LfType → ℕ → Option LfType
metavariables_of [] m = None
metavariables_of (A ∷ G) m = set_at (length G) (Some (over_metavariables G A)) (metavariables_of G) m

-- The root of the search for the goal A over the context G: the hole of the proof is one more variable, of type A.
abbrev pub root_of : List LfType → LfType → Node
root_of G A = record {
  store = record { metavariables = metavariables_of (A ∷ G); bindings = []; equations = [] };
  next = suc (length G);
  goals = length G ∷ [];
}

-- the query of the goal
abbrev pub IsQueryOf : List LfType → LfType → Query → Type 0
IsQueryOf G A q = start q ≡ root_of G A
