-- Which variables of the context the text of a term or a type shows, as they come from the left. One that is shown twice comes twice.
-- What hidden arguments have isn't shown. A lambda shows the type of its variable. An operator is a constant, so it doesn't matter where it stands.
use Rattle.std.specs.Prelude.{ℕ, zero, suc, List, [], ◌∷◌, ◌++◌, drop, Option, Some, None, Bool, false, ◌==◌, ◌||◌}
use Rattle.lf.specs.Syntax.{Head, constant, variable, metavariable, Term, lambda, root, Spine, LfType, pi, atom}
use Rattle.tw_print.specs.Arguments.{Argument, arguments, head_type, family_type, hidden, head_hidden}
use Rattle.tw_print.specs.Names.{Scene}
use Rattle.tw_print.specs.Shown.{nesting_limit}

-- those of a term at its type (a root needs none), and of a type, each in a context of types
pub record Shown : Type 0 where
  pub term : List LfType → Term → Option LfType → List ℕ
  pub type : List LfType → LfType → List ℕ

-- variables as seen from outside a binder, whose own variable isn't there
abbrev pub outer : List ℕ → List ℕ
outer [] = []
outer (zero ∷ is) = outer is
outer (suc i ∷ is) = i ∷ outer is

-- the same from outside so many binders
abbrev pub outside : ℕ → List ℕ → List ℕ
outside zero is = is
outside (suc n) is = outside n (outer is)

-- whether a variable is among those that are shown
abbrev pub is_shown : ℕ → List ℕ → Bool
is_shown i [] = false
is_shown i (j ∷ js) = j == i || is_shown i js

abbrev pub of_head : Head → List ℕ
of_head (constant c) = []
of_head (variable i) = i ∷ []
of_head (metavariable m) = []

module _ (p : Shown) (s : Scene) (G : List LfType) where
  abbrev pub of_arguments : List Argument → List ℕ
  of_arguments [] = []
  of_arguments (a ∷ xs) = p.term G a.0 a.1 ++ of_arguments xs

  abbrev pub of_root : Head → Spine → List ℕ
  of_root h S = of_head h ++ of_arguments (drop (head_hidden s h) (arguments (head_type s G h) S))

  abbrev pub of_atom : ℕ → Spine → List ℕ
  of_atom a S = of_arguments (drop (hidden s a) (arguments (family_type s a) S))

module _ (p : Shown) (s : Scene) where
  abbrev pub of_term : List LfType → Term → Option LfType → List ℕ
  of_term G (root h S) t = of_root p s G h S
  of_term G (lambda M) (Some (pi A B)) = p.type G A ++ outer (p.term (A ∷ G) M (Some B))
  of_term G (lambda M) (Some (atom a T)) = []
  of_term G (lambda M) None = []

  abbrev pub of_type : List LfType → LfType → List ℕ
  of_type G (pi A B) = p.type G A ++ outer (p.type (A ∷ G) B)
  of_type G (atom a S) = of_atom p s G a S

-- in what nests no deeper than the levels
abbrev pub shown_within : Scene → ℕ → Shown
shown_within s zero = record { term = λ G M t. []; type = λ G A. [] }
shown_within s (suc n) = record { term = of_term (shown_within s n) s; type = of_type (shown_within s n) s }

-- those of a whole text
abbrev pub shown_in_term : Scene → List LfType → Term → LfType → List ℕ
shown_in_term s G M A = (shown_within s nesting_limit).term G M (Some A)

abbrev pub shown_in_type : Scene → List LfType → LfType → List ℕ
shown_in_type s G A = (shown_within s nesting_limit).type G A
