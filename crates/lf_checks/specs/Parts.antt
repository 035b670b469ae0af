-- The parts of a clause as data: its variables, its head, its subgoals in solving order, and where each of them stands.
use Rattle.std.specs.Prelude.{ℕ, zero, suc, List, [], ◌∷◌, Bool, cond, Option, Some, None}
use Rattle.lf.specs.Syntax.{Spine, LfType, pi, atom, rename_type, rename_spine, weaken}
use Rattle.lf.specs.Entries.{quantifiers}
use Rattle.lf.specs.Variables.{target, target_arguments}
use Rattle.lf_unification.specs.Search.{occurs_type}
use Rattle.lf_checks.specs.Clause.{Clause, scope, variables}

-- the type of variable i of a context, if it has one
abbrev pub weakened : Option LfType → Option LfType
weakened (Some A) = Some (weaken A)
weakened None = None

abbrev pub type_at : List LfType → ℕ → Option LfType
type_at [] i = None
type_at (A ∷ G) zero = Some (weaken A)
type_at (A ∷ G) (suc i) = weakened (type_at G i)

-- The quantifiers that are no variables, among n of them from index i on. The last quantifier has index 0, so this is the solving order.
abbrev pub subgoals_among : (ℕ → Bool) → ℕ → ℕ → List ℕ
subgoals_among V zero i = []
subgoals_among V (suc n) i = cond (V i) (subgoals_among V n (suc i)) (i ∷ subgoals_among V n (suc i))

-- where the subgoals of a clause stand in its scope, in solving order
abbrev pub subgoals : Clause → List ℕ
subgoals c = subgoals_among (variables c) (quantifiers c.type) zero

-- the element with this number, where the first one has number 1
abbrev pub numbered : {X : Type 0} → List X → ℕ → Option X
numbered [] k = None
numbered (x ∷ xs) zero = None
numbered (x ∷ xs) (suc zero) = Some x
numbered (x ∷ xs) (suc (suc k)) = numbered xs (suc k)

-- where subgoal k stands in the scope, if there is one
abbrev pub subgoal_at : Clause → ℕ → Option ℕ
subgoal_at c k = numbered (subgoals c) k

-- how many of the numbers below i are in V
abbrev pub count_below : (ℕ → Bool) → ℕ → ℕ
count_below V zero = zero
count_below V (suc i) = cond (V i) (suc (count_below V i)) (count_below V i)

-- Without the subgoals, the variable at index i of the scope has this number among the clause's variables and what stands outside.
abbrev pub variable_number : Clause → ℕ → ℕ
variable_number c = count_below (variables c)

-- a set of numbers, without the first one
abbrev pub past_first : (ℕ → Bool) → ℕ → Bool
past_first V i = V (suc i)

-- The variables of V among the first n of a context, each type over those before it.
abbrev pub kept_types : (ℕ → Bool) → ℕ → List LfType → List LfType
kept_types V zero G = []
kept_types V (suc n) [] = []
kept_types V (suc n) (A ∷ G) = cond (V zero) (rename_type (count_below (past_first V)) A ∷ kept_types (past_first V) n G) (kept_types (past_first V) n G)

-- for each leading quantifier, the first one first: whether it is a variable
abbrev pub shape : LfType → List Bool
shape (pi A B) = occurs_type zero B ∷ shape B
shape (atom a S) = []

-- The parts of a clause. All stand over its variables, which have the newest in front, and over what stands outside the clause;
-- the subgoals are in solving order.
pub record Parts : Type 0 where
  pub variables : List LfType
  pub shape : List Bool
  pub family : ℕ
  pub head : Spine
  pub subgoals : List LfType

-- one more subgoal in front
abbrev pub with_subgoal : (ℕ → ℕ) → Option LfType → List LfType → List LfType
with_subgoal ρ (Some A) gs = rename_type ρ A ∷ gs
with_subgoal ρ None gs = gs

-- the types at these indices, renamed
abbrev pub types_at : (ℕ → ℕ) → List LfType → List ℕ → List LfType
types_at ρ G [] = []
types_at ρ G (i ∷ is) = with_subgoal ρ (type_at G i) (types_at ρ G is)

abbrev pub parts : Clause → Parts
parts c = record {
  variables = kept_types (variables c) (quantifiers c.type) (scope c);
  shape = shape c.type;
  family = target c.type;
  head = rename_spine (variable_number c) (target_arguments c.type);
  subgoals = types_at (variable_number c) (scope c) (subgoals c);
}
