-- Descent of the calls of a group.
use Rattle.std.specs.Prelude.{◌≡◌, ℕ, suc, List, Bool, ◌⊎◌, true, ◌↔◌, Some}
use Rattle.lf.specs.Syntax.{Term, Spine, LfType, Kind, pi, atom, rename_spine}
use Rattle.lf.specs.Typing.{Signature}
use Rattle.lf.specs.Variables.{target, target_arguments, binders, under, nothing}
use Rattle.lf.specs.Subordination.{Block, Member}
use Rattle.lf_checks.specs.Clause.{Clause, scope, IsClause, IsSubgoal, outside}
use Rattle.lf_checks.specs.Order.{Smaller, Order, argument_at, place_type, Alike, Same, Less}

-- a set of what stands outside a type, under its quantifiers, with the variables of these
abbrev pub inside : LfType → (ℕ → Bool) → ℕ → Bool
inside (pi A B) V = inside B (under V)
inside (atom a S) V = V

-- the numbers of variables, moved under the quantifiers of a type
abbrev pub past_quantifiers : LfType → (ℕ → ℕ) → ℕ → ℕ
past_quantifiers (pi A B) ρ = past_quantifiers B (λ i. suc (ρ i))
past_quantifiers (atom a S) ρ = ρ

-- the arguments of the clause's head, under the quantifiers of the subgoal
abbrev pub moved_head : Clause → LfType → Spine
moved_head c A = rename_spine (past_quantifiers A (λ i. i)) (target_arguments c.type)

-- place i of the subgoal and place j of the head hold the same argument
abbrev pub SameArgument : Clause → LfType → ℕ → ℕ → Type 0
SameArgument c A i j = (M : Term) × (argument_at i (target_arguments A) ≡ Some M) × (argument_at j (moved_head c A) ≡ Some M)

-- that at place i of the subgoal is smaller than that at place j of the head
abbrev pub SmallerArgument : Signature → Clause → LfType → ℕ → ℕ → Type 0
SmallerArgument Σ c A i j = (M N : Term) × (argument_at i (target_arguments A) ≡ Some M) × (argument_at j (moved_head c A) ≡ Some N) × (K : Kind) × (Σ.kinds (target c.type) ≡ Some K) × (X : LfType) × (place_type j (moved_head c A) K ≡ Some X) × Smaller Σ (binders (scope c) A) (inside A nothing) (inside A (outside c.type c.fixed)) M N X

-- the call is the same as the head by their orders, and less than it
abbrev pub SameCall : (ℕ → Order) → Clause → LfType → Type 0
SameCall order c A = Same (SameArgument c A) (order (target A)) (order (target c.type))

-- it is less than the head by their orders
abbrev pub LessCall : Signature → (ℕ → Order) → Clause → LfType → Type 0
LessCall Σ order c A = Less (SmallerArgument Σ c A) (SameArgument c A) (order (target A)) (order (target c.type))

-- a clause of a has an equal call to b, both of the group
pub record EqualCall (Σ : Signature) (W : List Block) (order : ℕ → Order) (group : List ℕ) (a b : ℕ) : Type 0 where
  pub clause : Clause
  pub is_clause : IsClause Σ W clause
  pub caller : target clause.type ≡ a
  pub caller_in : Member a group
  pub index : ℕ
  pub subgoal : LfType
  pub is_subgoal : IsSubgoal clause index subgoal
  pub callee : target subgoal ≡ b
  pub callee_in : Member b group
  pub same : SameCall order clause subgoal

-- equal calls lead from a to b
pub data LeadsTo (Σ : Signature) (W : List Block) (order : ℕ → Order) (group : List ℕ) : ℕ → ℕ → Type 0 where
  no_call : {a : ℕ} → LeadsTo Σ W order group a a
  after_call : {a b c : ℕ} → EqualCall Σ W order group a b → LeadsTo Σ W order group b c → LeadsTo Σ W order group a c

-- A call descends: the orders are alike, and it is less than the head, or the same where no equal calls lead back from it.
abbrev pub CallDescends : Signature → List Block → (ℕ → Order) → List ℕ → Clause → LfType → Type 0
CallDescends Σ W order group c A = Alike (order (target A)) (order (target c.type)) × (LessCall Σ order c A ⊎ (SameCall order c A × (LeadsTo Σ W order group (target A) (target c.type) → ⊥)))

-- each call to the group in a clause of the group descends
abbrev pub GroupDescends : Signature → List Block → (ℕ → Order) → List ℕ → Type 0
GroupDescends Σ W order group = (c : Clause) → IsClause Σ W c → Member (target c.type) group → (i : ℕ) (A : LfType) → IsSubgoal c i A → Member (target A) group → CallDescends Σ W order group c A

-- The same of any test of calls: they lead from a to b.
pub data CallsLead (calls : ℕ → ℕ → Bool) : ℕ → ℕ → Type 0 where
  stay : {a : ℕ} → CallsLead calls a a
  step_on : {a b c : ℕ} → calls a b ≡ true → CallsLead calls b c → CallsLead calls a c

-- the test decides which families of the group have an equal call to which
abbrev pub IsEqualCallTest : Signature → List Block → (ℕ → Order) → List ℕ → (ℕ → ℕ → Bool) → Type 0
IsEqualCallTest Σ W order group calls = (a b : ℕ) → (calls a b ≡ true) ↔ EqualCall Σ W order group a b
