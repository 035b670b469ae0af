-- Sizes of calls: what an order names in a tuple, measured, and compared from left to right.
use Rattle.std.specs.Prelude.{◌≡◌, ℕ, zero, List, [], ◌∷◌, ◌++◌, ◌<◌, length, Option, Some, None, ◌⊎◌}
use Rattle.lf.specs.Syntax.{Term, Spine, LfType}
use Rattle.lf.specs.Substitution.{Image, substitute_spine, substitute_type, reduce}
use Rattle.lf.specs.Typing.{Signature}
use Rattle.lf.specs.Variables.{target, target_arguments}
use Rattle.lf.specs.Subordination.{Block, Member}
use Rattle.lf_checks.specs.Clause.{Clause, IsClause, IsSubgoal, outside}
use Rattle.lf_checks.specs.Order.{Order, Orders, place, lexicographic, simultaneous, no_order, next_order, argument_at, size, KeepsVariables}
use Rattle.lf_checks.specs.Descent.{SameCall, LeadsTo}

-- the size of an argument, 0 where there is none
abbrev pub size_of : Option Term → ℕ
size_of (Some M) = size M
size_of None = zero

-- the sizes of the arguments that an order names, from left to right
abbrev mutual
  pub sizes_by : Order → Spine → List ℕ
  sizes_by (place i) S = size_of (argument_at i S) ∷ []
  sizes_by (lexicographic Os) S = all_sizes_by Os S
  sizes_by (simultaneous Os) S = all_sizes_by Os S

  -- of each order of a list
  pub all_sizes_by : Orders → Spine → List ℕ
  all_sizes_by no_order S = []
  all_sizes_by (next_order O Os) S = sizes_by O S ++ all_sizes_by Os S

-- of two lists of one length the first is less where they first differ
abbrev pub AreLess : List ℕ → List ℕ → Type 0
AreLess [] ys = ⊥
AreLess (x ∷ xs) [] = ⊥
AreLess (x ∷ xs) (y ∷ ys) = ((x < y) × (length xs ≡ length ys)) ⊎ ((x ≡ y) × AreLess xs ys)

-- the sizes of an instance of the call A, and of the head of its clause
abbrev pub call_sizes : (ℕ → Order) → (ℕ → Image) → LfType → List ℕ
call_sizes order σ A = sizes_by (order (target A)) (target_arguments (substitute_type reduce σ A))

abbrev pub head_sizes : (ℕ → Order) → (ℕ → Image) → Clause → List ℕ
head_sizes order σ c = sizes_by (order (target c.type)) (substitute_spine reduce σ (target_arguments c.type))

-- The sizes drop from the clause's head to its call A, in the instances of which K is known: they are less in each; or the call counts
-- as equal to the head, by E, and they are greater in none.
abbrev pub SizesDropBy : ((ℕ → Image) → Type 0) → Type 0 → (ℕ → Order) → Clause → LfType → Type 0
SizesDropBy K E order c A = ((σ : ℕ → Image) → K σ → AreLess (call_sizes order σ A) (head_sizes order σ c)) ⊎ (E × ((σ : ℕ → Image) → K σ → AreLess (call_sizes order σ A) (head_sizes order σ c) ⊎ (call_sizes order σ A ≡ head_sizes order σ c)))

-- They drop by the orders alone: in each instance that keeps the fixed variables variables; and an equal call is the same as the head by
-- the orders, and no equal calls lead back from it.
abbrev pub SizesDrop : Signature → List Block → (ℕ → Order) → List ℕ → Clause → LfType → Type 0
SizesDrop Σ W order group c A = SizesDropBy (KeepsVariables (outside c.type c.fixed)) (SameCall order c A × (LeadsTo Σ W order group (target A) (target c.type) → ⊥)) order c A

-- they drop in each call to the group in a clause of the group
abbrev pub CallsDrop : Signature → List Block → (ℕ → Order) → List ℕ → Type 0
CallsDrop Σ W order group = (c : Clause) → IsClause Σ W c → Member (target c.type) group → (i : ℕ) (A : LfType) → IsSubgoal c i A → Member (target A) group → SizesDrop Σ W order group c A
