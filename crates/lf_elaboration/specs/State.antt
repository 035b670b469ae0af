-- What elaboration has made so far: metavariables for what isn't written, and equations where types are compared.
use Rattle.std.specs.Prelude.{ℕ, zero, suc, List, [], ◌∷◌, Option, Some, None}
use Rattle.lf.specs.Syntax.{Head-discrete, Kind, LfType, Spine, Term-discrete, atom, kind_pi, pi}
use Rattle.lf.specs.Typing.{Signature}
use Rattle.lf_unification.specs.Lists.{followed}
use Rattle.lf_unification.specs.Offering.{pi_over, spine_equations}
use Rattle.lf_unification.specs.OpenTyping.{set_at}
use Rattle.lf_unification.specs.Unifiers.{Equation, Store}
use native.Mathlib.Decide.{ℕ_discrete}

-- the metavariables with their types, the next number, and the equations, the oldest first
pub record State : Type 0 where
  pub metavariables : ℕ → Option LfType
  pub next : ℕ
  pub equations : List Equation

abbrev pub nothing_yet : State
nothing_yet = record { metavariables = λ m. None; next = zero; equations = [] }

-- one metavariable more, whose type is A closed over the local context
abbrev pub with_metavariable : List LfType → LfType → State → State
with_metavariable D A s = record { metavariables = set_at s.next (Some (pi_over D A)) s.metavariables; next = suc s.next; equations = s.equations }

abbrev pub with_equations : List Equation → State → State
with_equations es s = record { metavariables = s.metavariables; next = s.next; equations = followed s.equations es }

-- what is to be solved
abbrev pub store_of : State → Store
store_of s = record { metavariables = s.metavariables; bindings = []; equations = s.equations }

-- the equation in front of the others, unless its sides are the same
abbrev pub unless_same : {Same : Type 0} → Dec Same → Equation → List Equation → List Equation
unless_same (yes same) e es = es
unless_same (no differ) e es = e ∷ es

-- Those with two sides that aren't the same text: s N = s N says nothing, and isn't kept.
abbrev pub differing : List Equation → List Equation
differing [] = []
differing (e ∷ es) = unless_same (Term-discrete (Head-discrete ℕ_discrete) e.left e.right) e (differing es)

module _ (Σ : Signature) where
  -- between the arguments of a family of this kind, where they differ
  abbrev pub index_equations : Option Kind → List LfType → Spine → Spine → List Equation
  index_equations None D S T = []
  index_equations (Some K) D S T = differing (spine_equations D K S T)

  -- Between two types of one skeleton: equal where their indices are. The type that was found is on the left, and the expected one on the right.
  -- Two types that are the same have none.
  abbrev pub type_equations : List LfType → LfType → LfType → List Equation
  type_equations D (pi A B) (pi X Y) = followed (type_equations D A X) (type_equations (A ∷ D) B Y)
  type_equations D (atom a S) (atom b T) = index_equations (Σ.kinds a) D S T
  type_equations D _ _ = []

  -- the same of kinds
  abbrev pub kind_equations : List LfType → Kind → Kind → List Equation
  kind_equations D (kind_pi A K) (kind_pi X L) = followed (type_equations D A X) (kind_equations (A ∷ D) K L)
  kind_equations D _ _ = []
