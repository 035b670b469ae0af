-- Worked cases of the strategy: candidates, a case that is reached, one that can't be split; output goals.
use Rattle.std.specs.Prelude.{◌≡◌, refl, ℕ, zero, suc, List, [], ◌∷◌, Bool, true, false, Option, Some, None}
use Rattle.lf.specs.Syntax.{lambda, constant, variable, root, nil, app, LfType, Kind, pi, atom, kind_pi, star}
use Rattle.lf.specs.Typing.{Signature}
use Rattle.lf.specs.Variables.{same_number, nothing}
use Rattle.lf_checks.specs.Tests.{either}
use Rattle.lf_checks.specs.Clause.{Clause, constant_clause, entry_clause, among}
use Rattle.lf_cases.specs.Full.{IsLinear, IsFull, OneChosen}
use Rattle.lf_cases.specs.Missing.{IsMissing, CommonInstance}
use Rattle.lf_checks.specs.Marks.{Mark, input, output, input_places}
use Rattle.lf_cases.specs.Case.{Case, free_variable, block_variable}
use Rattle.lf_cases.specs.Pattern.{Pattern, of_constant, of_entry, head_pattern, subgoal_pattern}
use Rattle.lf_checks.specs.Ground.{ground_first}
use Rattle.lf.specs.Subordination.{Block}
use Rattle.lf.specs.Substitution.{keep}
use Rattle.lf_cases.specs.OutputGoal.{output_goal}
use Rattle.lf_totality.specs.Examples.{Addition, Copying, copy_block, copy_entry, copying_marks, addition_marks, nat, z, var, successor, applied_to, on_two, on_three, plus_z, plus_s, plus_input_goal, plus_zero_case, plus_successor_case, plus_output_case, plus_kind, first_below_second, exp, function, lam, cp, cp_lam}
use Rattle.lf_totality.specs.ExamplesMissing.{Unfinished, unfinished_heads, eq_r}
use Rattle.lf_cases.specs.Candidates.{case_candidates}
use Rattle.lf_cases.specs.Reached.{LeavesAll, IsInstanceOf, Reached, IsUnsplit}

-- eq X Y, with eq +X +Y and eq = 2
abbrev pub eq_goal : Case
eq_goal = record { items = free_variable nat ∷ free_variable nat ∷ []; given = []; local = []; family = 2; arguments = Some (var 1) ∷ Some (var 0) ∷ [] }

-- cp E _, cp (lam [x] E x) _, and a clause for the identity alone: cp (lam [x] x) (lam [x] x)
abbrev pub cp_goal : Case
cp_goal = record { items = free_variable exp ∷ []; given = []; local = []; family = 1; arguments = Some (var 0) ∷ None ∷ [] }

abbrev pub cp_lam_case : Case
cp_lam_case = record { items = free_variable function ∷ []; given = []; local = []; family = 1; arguments = Some (lam (applied_to 1 0)) ∷ None ∷ [] }

abbrev pub cp_identity : Clause
cp_identity = constant_clause (cp (lam (var 0)) (lam (var 0)))

-- {X:nat} {Y:nat} {Z:nat} plus X Y (s Z) -> plus (s X) Y (s (s Z)), whose subgoal asks for a sum that isn't zero
abbrev pub plus_narrow : Clause
plus_narrow = constant_clause (pi nat (pi nat (pi nat (pi (on_three 1 (var 2) (var 1) (successor (var 0))) (on_three 1 (successor (var 3)) (var 2) (successor (successor (var 1))))))))

-- its subgoal, under the other quantifiers
abbrev pub narrow_goal : LfType
narrow_goal = on_three 1 (var 3) (var 2) (successor (var 1))

-- the head of a constant of this type, and of the entry of a block with one entry
abbrev pub head_of : LfType → Pattern
head_of U = head_pattern (constant_clause U) (of_constant U)

-- the narrow subgoal as a pattern
abbrev pub narrow : Pattern
narrow = subgoal_pattern plus_narrow (of_constant plus_narrow.type) narrow_goal

-- Of plus X Y _, X is the candidate by each clause, and there is none any more in plus z Y _. In cp (lam [x] E x) _ there is none by cp-lam,
-- which has a variable there; by the clause for the identity E is one. In eq X Y there is none. Of the outputs of the narrow subgoal the
-- output itself is one.
abbrev pub CandidatesStand : Type 0
CandidatesStand = (case_candidates plus_input_goal (head_of plus_z.type) ≡ 1 ∷ []) × (case_candidates plus_input_goal (head_of plus_s.type) ≡ 1 ∷ []) × (case_candidates plus_zero_case (head_of plus_s.type) ≡ []) × (case_candidates cp_goal (head_of cp_lam.type) ≡ 0 ∷ []) × (case_candidates cp_lam_case (head_of cp_lam.type) ≡ []) × (case_candidates cp_lam_case (head_of cp_identity.type) ≡ 0 ∷ []) × (case_candidates eq_goal (head_of eq_r.type) ≡ []) × (case_candidates plus_output_case narrow ≡ 0 ∷ [])

-- Without plus-z the strategy reaches plus z Y _, which is missing.
abbrev pub ZeroIsReached : Type 0
ZeroIsReached = Reached Unfinished [] (λ C p. ⊥) first_below_second unfinished_heads plus_input_goal plus_zero_case

-- nat, eq and the clause eq-r, whose number is 2
abbrev pub equal_types : ℕ → Option LfType
equal_types zero = Some nat
equal_types (suc zero) = Some (pi nat nat)
equal_types (suc (suc zero)) = Some eq_r.type
equal_types (suc (suc (suc n))) = None

abbrev pub equal_kinds : ℕ → Option Kind
equal_kinds zero = Some star
equal_kinds (suc zero) = None
equal_kinds (suc (suc zero)) = Some (kind_pi nat (kind_pi nat star))
equal_kinds (suc (suc (suc n))) = None

abbrev pub Equality : Signature
Equality = record { types = equal_types; kinds = equal_kinds }

abbrev pub equality_heads : List Pattern
equality_heads = head_of eq_r.type ∷ []

-- The strategy can't split eq X Y: the clause meets it, and has a variable wherever the case has one. Yet eq z (s z) has no clause.
abbrev pub EqualityIsUnsplit : Type 0
EqualityIsUnsplit = IsUnsplit Equality [] (λ C p. ⊥) equality_heads eq_goal

-- The output z of the narrow subgoal is missing.
abbrev pub narrow_zero : Case
narrow_zero = record { items = free_variable nat ∷ free_variable nat ∷ []; given = None ∷ None ∷ Some (var 0) ∷ Some (var 1) ∷ []; local = []; family = 1; arguments = None ∷ None ∷ Some z ∷ [] }

abbrev pub NarrowZeroIsMissing : Type 0
NarrowZeroIsMissing = IsMissing Unfinished [] (narrow ∷ []) plus_output_case narrow_zero

-- and the strategy reaches it
abbrev pub NarrowZeroIsReached : Type 0
NarrowZeroIsReached = Reached Unfinished [] (λ C p. ⊥) first_below_second (narrow ∷ []) plus_output_case narrow_zero

-- The entry u : cp x x of the block {x:exp} {u:cp x x} is linear: the one input of its head is x. And so it would not be where its input were lam [y] x.
abbrev pub EntryIsLinear : Type 0
EntryIsLinear = IsLinear copying_marks copy_entry × OneChosen (among (exp ∷ [])) (input_places (copying_marks 1)) (app (var 0) (app (var 0) nil)) × (OneChosen (among (exp ∷ [])) (input_places (copying_marks 1)) (app (lam (var 1)) (app (var 0) nil)) → ⊥)

-- {E:exp} {F:exp} cp (lam [x] E) (lam [x] F): where E isn't applied to x, though x is of a family below its own
abbrev pub cp_constant : Clause
cp_constant = constant_clause (pi exp (pi exp (cp (lam (var 2)) (lam (var 1)))))

-- plus-s is full, and that clause isn't
abbrev pub FullClauses : Type 0
FullClauses = IsFull Addition first_below_second addition_marks plus_s × (IsFull Copying first_below_second copying_marks cp_constant → ⊥)

-- A subgoal {x:exp} q x (D x) whose output has the type d x, where d = 2 and q = 3. Its goal has a variable D : {x:exp} d x, also by a relation in
-- which exp isn't below d: the type mentions x.
abbrev pub q_kind : Kind
q_kind = kind_pi exp (kind_pi (atom 2 (app (var 0) nil)) star)

abbrev pub q_clause : Clause
q_clause = constant_clause (pi (pi exp (atom 2 (app (var 0) nil))) (pi (pi exp (atom 3 (app (var 0) (app (applied_to 1 0) nil)))) (atom 4 nil)))

abbrev pub q_goal : LfType
q_goal = pi exp (atom 3 (app (var 0) (app (applied_to 2 0) nil)))

abbrev pub q_marks : ℕ → List Mark
q_marks a = input ∷ output ∷ []

abbrev pub q_case : Case
q_case = record { items = free_variable (pi exp (atom 2 (app (var 0) nil))) ∷ []; given = None ∷ None ∷ []; local = exp ∷ []; family = 3; arguments = None ∷ Some (applied_to 1 0) ∷ [] }

abbrev pub MentionedIsRaised : Type 0
MentionedIsRaised = (output_goal same_number q_marks (of_constant q_clause.type) nothing q_goal q_kind ≡ q_case) × (output_goal (λ a b. true) q_marks (of_constant q_clause.type) nothing q_goal q_kind ≡ q_case)

-- It is so by subordination too, which doesn't look at the types of `some` variables. Families a = 0, b = 1, d : b -> type = 2,
-- q : {y:b} d y -> type = 3 and r = 4; the constant g : {y:b} d y = 0; and some {f:a -> b} block {u:({x:a} q (f x) (g (f x))) -> r}. The
-- output has the type d (f x), and a is not below d. Its variable is raised over x, so that the goal is q (f x) (Y x) for Y : {x:a} d (f x).
abbrev pub below_by_types : ℕ → ℕ → Bool
below_by_types zero b = same_number 0 b
below_by_types (suc zero) b = same_number 1 b
below_by_types (suc (suc zero)) zero = false
below_by_types (suc (suc zero)) (suc b) = either (same_number 0 b) (same_number 1 b)
below_by_types (suc (suc (suc n))) b = true

abbrev pub some_goal : ℕ → LfType
some_goal f = pi (atom 0 nil) (atom 3 (app (applied_to f 0) (app (root (constant 0) (app (applied_to f 0) nil)) nil)))

abbrev pub some_entry : LfType
some_entry = pi (some_goal 1) (atom 4 nil)

abbrev pub some_block : Block
some_block = record { label = 108 ∷ []; some = pi (atom 0 nil) (atom 1 nil) ∷ []; entries = some_entry ∷ [] }

abbrev pub some_case : Case
some_case = record {
  items = free_variable (pi (atom 0 nil) (atom 2 (app (applied_to 2 0) nil))) ∷ block_variable some_block keep ∷ free_variable (pi (atom 0 nil) (atom 1 nil)) ∷ [];
  given = None ∷ [];
  local = atom 0 nil ∷ [];
  family = 3;
  arguments = None ∷ Some (applied_to 1 0) ∷ [];
}

abbrev pub SomeVariableIsRaised : Type 0
SomeVariableIsRaised = output_goal below_by_types q_marks (of_entry some_block [] some_entry [] refl) (ground_first q_marks (entry_clause some_block [] some_entry)) (some_goal 2) (kind_pi (atom 1 nil) (kind_pi (atom 2 (app (var 0) nil)) star)) ≡ some_case

-- {N:nat} {F:nat -> nat} {V:vec (F N)} {Y:nat} r Y -> p (F N) V, with vec = 1, p = 2 and r = 3: V is ground by the inputs of the head, F and N
-- aren't. The goal of the outputs of r Y has V with N and F, which its type mentions, and V alone is given.
abbrev pub open_clause : Clause
open_clause = constant_clause (pi nat (pi (pi nat nat) (pi (atom 1 (app (applied_to 0 1) nil)) (pi nat (pi (atom 3 (app (var 0) nil)) (atom 2 (app (applied_to 3 4) (app (var 2) nil))))))))

abbrev pub open_marks : ℕ → List Mark
open_marks zero = []
open_marks (suc zero) = []
open_marks (suc (suc zero)) = input ∷ input ∷ []
open_marks (suc (suc (suc n))) = output ∷ []

abbrev pub open_case : Case
open_case = record {
  items = free_variable nat ∷ free_variable (atom 1 (app (applied_to 0 1) nil)) ∷ free_variable (pi nat nat) ∷ free_variable nat ∷ [];
  given = None ∷ None ∷ Some (var 1) ∷ None ∷ None ∷ [];
  local = [];
  family = 3;
  arguments = Some (var 0) ∷ [];
}

abbrev pub GoalIsClosed : Type 0
GoalIsClosed = output_goal first_below_second open_marks (of_constant open_clause.type) (ground_first open_marks open_clause) (atom 3 (app (var 1) nil)) (kind_pi nat star) ≡ open_case

-- A block whose entry is a clause with a subgoal: some {n:nat} block {u:{Y:nat} {Z:nat} plus n Y Z -> plus (s n) Y (s Z)}.
abbrev pub sum_entry : LfType
sum_entry = pi nat (pi nat (pi (on_three 1 (var 2) (var 1) (var 0)) (on_three 1 (successor (var 3)) (var 2) (successor (var 1)))))

abbrev pub sum_block : Block
sum_block = record { label = 108 ∷ []; some = nat ∷ []; entries = sum_entry ∷ [] }

-- The goal of its outputs: n, the block variable on n, Y, which is given, and a new variable for Z.
abbrev pub entry_output_case : Case
entry_output_case = record { items = free_variable nat ∷ free_variable nat ∷ block_variable sum_block keep ∷ free_variable nat ∷ []; given = None ∷ None ∷ Some (var 1) ∷ []; local = []; family = 1; arguments = None ∷ None ∷ Some (var 0) ∷ [] }

abbrev pub EntryOutputGoal : Type 0
EntryOutputGoal = output_goal first_below_second addition_marks (of_entry sum_block [] sum_entry [] refl) (ground_first addition_marks (entry_clause sum_block [] sum_entry)) (on_three 1 (var 3) (var 2) (var 1)) plus_kind ≡ entry_output_case

-- {E:exp -> exp} ({x:exp} cp x x -> cp (E x) x) -> cp (lam [x] E x) (lam [x] x): its subgoal asks for the local variable x as output.
abbrev pub cp_local : Clause
cp_local = constant_clause (pi function (pi (pi exp (pi (cp (var 0) (var 0)) (cp (applied_to 2 1) (var 1)))) (cp (lam (applied_to 2 0)) (lam (var 0)))))

abbrev pub local_goal : LfType
local_goal = pi exp (pi (cp (var 0) (var 0)) (cp (applied_to 3 1) (var 1)))

abbrev pub local_case : Case
local_case = record { items = free_variable function ∷ free_variable function ∷ []; given = None ∷ Some (lambda (applied_to 2 0)) ∷ []; local = cp (var 0) (var 0) ∷ exp ∷ []; family = 1; arguments = None ∷ Some (applied_to 2 1) ∷ [] }

-- the entry of the block as a pattern
abbrev pub sum_head : Pattern
sum_head = head_pattern (entry_clause sum_block [] sum_entry) (of_entry sum_block [] sum_entry [] refl)

-- eq X X, of which X is the candidate by a clause for two zeros, once
abbrev pub eq_same : Case
eq_same = record { items = free_variable nat ∷ []; given = []; local = []; family = 2; arguments = Some (var 0) ∷ Some (var 0) ∷ [] }

-- More candidates: E of cp E _ where a block's entry has another entry; none where an entry has a `some` variable, in plus (s X) Y _; the
-- output F of cp (E x) (F x) where the subgoal has a local variable; and a variable that stands twice is one candidate.
abbrev pub MoreCandidatesStand : Type 0
MoreCandidatesStand = (case_candidates cp_goal (head_pattern copy_entry (of_entry copy_block [] (cp (var 0) (var 0)) (exp ∷ []) refl)) ≡ 0 ∷ []) × (case_candidates plus_input_goal sum_head ≡ 1 ∷ []) × (case_candidates plus_successor_case sum_head ≡ []) × (case_candidates local_case (subgoal_pattern cp_local (of_constant cp_local.type) local_goal) ≡ 0 ∷ []) × (case_candidates eq_same (head_of (on_two 2 z z)) ≡ 0 ∷ [])

-- The head of {F:nat -> nat} k (F z), with k = 2: F has no strict occurrence. So k X is no instance of it, though a value of F would make
-- it one; it meets k X, and has no candidate. The strategy stops there.
abbrev pub applied_clause : Clause
applied_clause = constant_clause (pi (pi nat nat) (atom 2 (app (root (variable 0) (app z nil)) nil)))

abbrev pub applied_types : ℕ → Option LfType
applied_types zero = Some nat
applied_types (suc zero) = Some (pi nat nat)
applied_types (suc (suc zero)) = Some applied_clause.type
applied_types (suc (suc (suc n))) = None

abbrev pub applied_kinds : ℕ → Option Kind
applied_kinds zero = Some star
applied_kinds (suc zero) = None
applied_kinds (suc (suc zero)) = Some (kind_pi nat star)
applied_kinds (suc (suc (suc n))) = None

abbrev pub Applied : Signature
Applied = record { types = applied_types; kinds = applied_kinds }

abbrev pub applied_goal : Case
applied_goal = record { items = free_variable nat ∷ []; given = []; local = []; family = 2; arguments = Some (var 0) ∷ [] }

abbrev pub AppliedIsUnsplit : Type 0
AppliedIsUnsplit = IsUnsplit Applied [] (λ C p. ⊥) (head_of applied_clause.type ∷ []) applied_goal

-- Without an occurrence that is strict it would be an instance: with the value [x] X of F.
abbrev pub AppliedHasValue : Type 0
AppliedHasValue = (s : CommonInstance Applied [] applied_goal (head_of applied_clause.type)) × (s.items ≡ applied_goal.items) × LeavesAll applied_goal.items s.case_values

-- The subgoal k (F z) of a clause {F:nat -> nat} k (F z) -> r F, with r = 3. Where no term is given for F, it isn't ground before, whatever the
-- head has: so k X is no instance of the subgoal.
abbrev pub asks_applied : Pattern
asks_applied = subgoal_pattern (constant_clause (pi (pi nat nat) (pi (atom 2 (app (root (variable 0) (app z nil)) nil)) (atom 3 (app (lambda (applied_to 2 0)) nil))))) (of_constant (pi (pi nat nat) (pi (atom 2 (app (root (variable 0) (app z nil)) nil)) (atom 3 (app (lambda (applied_to 2 0)) nil))))) (atom 2 (app (root (variable 1) (app z nil)) nil))

abbrev pub asked_case : Case
asked_case = record { items = free_variable nat ∷ []; given = None ∷ None ∷ []; local = []; family = 2; arguments = Some (var 0) ∷ [] }

abbrev pub UngivenIsNotGround : Type 0
UngivenIsNotGround = IsInstanceOf Applied [] asked_case asks_applied → ⊥

-- Not linear: an entry with a subgoal whose output is a `some` variable, as of some {n:nat} block {x:e} {u:q x n -> r x}, with e = 1,
-- q = 2 and r = 3: the `some` variable is ground before the subgoal.
abbrev pub asks_some_entry : LfType
asks_some_entry = pi (on_two 2 (var 0) (var 1)) (atom 3 (app (var 1) nil))

abbrev pub asks_some_block : Block
asks_some_block = record { label = 108 ∷ []; some = nat ∷ []; entries = asks_some_entry ∷ atom 1 nil ∷ [] }

abbrev pub SomeOutputIsNotLinear : Type 0
SomeOutputIsNotLinear = IsLinear q_marks (entry_clause asks_some_block (atom 1 nil ∷ []) asks_some_entry) → ⊥
