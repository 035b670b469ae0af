-- Worked goals by number: the goal of an output whose inputs aren't all ground, the goal of an output whose subgoal asks for a `some` variable, and the goal
-- of the inputs of a family without a clause.
use Rattle.std.specs.Prelude.{ℕ, zero, suc, [], ◌∷◌, Bool, Option, Some, None, refl}
use Rattle.lf.specs.Syntax.{nil, app, Kind, pi, atom, kind_pi, star}
use Rattle.lf.specs.Typing.{Signature}
use Rattle.lf_checks.specs.Below.{IsSubordination}
use Rattle.lf_checks.specs.Clause.{Clause, entry_clause}
use Rattle.lf_checks.specs.Ground.{ground_first}
use Rattle.lf_cases.specs.Pattern.{Origin, Pattern, of_constant, of_entry, subgoal_pattern}
use Rattle.lf_totality.specs.Examples.{applied_to, first_below_second, nat, on_two, var}
use Rattle.lf_totality.specs.ExamplesReached.{asks_some_block, asks_some_entry, open_clause, open_marks, q_marks}
use Rattle.lf_coverage.specs.Calls.{stuck}
use Rattle.lf_numbered.specs.NumberedCalls.{NumberedCoverIs, NumberedMatchedIs, NumberedOutputGoalIs, NumberedSplitIs, all_covered, numbered_cases, one_missing, one_unsplit}
use Rattle.lf_numbered.specs.NumberedCase.{NumberedCase}
use Rattle.lf_numbered.specs.NumberedSplitsExamples.{Bare, open_case}

-- The clause is {N:nat} {F:nat -> nat} {V:vec (F N)} {Y:nat} r Y -> p (F N) V, where the families vec, p and r are 1, 2 and 3. The inputs of its head make V
-- ground, but not F and N, which the type of V mentions. The goal r Y of the output keeps variables for all three, and V alone is given.
abbrev pub closed_goal : NumberedCase
closed_goal = record {
  blocks = [];
  variables = nat ∷ atom 1 (app (applied_to 0 1) nil) ∷ pi nat nat ∷ nat ∷ [];
  given = None ∷ None ∷ Some (var 1) ∷ None ∷ None ∷ [];
  local = [];
  family = 3;
  arguments = Some (var 0) ∷ [];
}

abbrev pub OutputGoalIsClosed : Type 0
OutputGoalIsClosed = NumberedOutputGoalIs 4 first_below_second open_marks (of_constant open_clause.type) (ground_first open_marks open_clause) (atom 3 (app (var 1) nil)) (kind_pi nat star) closed_goal (subgoal_pattern open_clause (of_constant open_clause.type) (atom 3 (app (var 1) nil)))

-- The families are nat : type (0), e : type (1), q : e -> nat -> type (2) and r : e -> type (3), and there are no constants. The block is some {n:nat} block
-- {x:e} {u:q x n -> r x}, and the mode of q is q + -.
abbrev pub asking_kinds : ℕ → Option Kind
asking_kinds zero = Some star
asking_kinds (suc zero) = Some star
asking_kinds (suc (suc zero)) = Some (kind_pi (atom 1 nil) (kind_pi nat star))
asking_kinds (suc (suc (suc zero))) = Some (kind_pi (atom 1 nil) star)
asking_kinds (suc (suc (suc (suc a)))) = None

abbrev pub Asking : Signature
Asking = record { types = λ c. None; kinds = asking_kinds }

abbrev pub asks_some_clause : Clause
asks_some_clause = entry_clause asks_some_block (atom 1 nil ∷ []) asks_some_entry

abbrev pub asks_some_origin : Origin asks_some_clause
asks_some_origin = of_entry asks_some_block [] asks_some_entry (atom 1 nil ∷ []) refl

abbrev pub asks_some : Pattern
asks_some = subgoal_pattern asks_some_clause asks_some_origin (on_two 2 (var 1) (var 2))

-- The goal of the output is q b.x Y, for the block variable b on N to which u itself belongs.
abbrev pub asks_some_goal : NumberedCase
asks_some_goal = record { blocks = record { block = asks_some_block; terms = app (var 1) nil } ∷ []; variables = nat ∷ nat ∷ []; given = None ∷ []; local = []; family = 2; arguments = None ∷ Some (var 0) ∷ [] }

-- The subgoal of u asks for q x n, where n is ground before it. The goal q b.x Y shares q b.x N with it and is no instance of it, and where the subgoal has
-- the `some` variable n there is no candidate. So the strategy can't split the goal. Such an entry isn't linear, since n is ground before the subgoal that has
-- it as its output.
abbrev pub SomeOutputIsUnsplit : Type 0
SomeOutputIsUnsplit =
    NumberedOutputGoalIs 4 first_below_second q_marks asks_some_origin (ground_first q_marks asks_some_clause) (on_two 2 (var 1) (var 2)) (kind_pi (atom 1 nil) (kind_pi nat star)) asks_some_goal asks_some
    × NumberedMatchedIs Asking 4 (asks_some_block ∷ []) asks_some_goal asks_some stuck
    × ((below : ℕ → ℕ → Bool) → NumberedCoverIs Asking 4 (asks_some_block ∷ []) below (asks_some ∷ []) asks_some_goal (one_unsplit asks_some_goal))

-- The last goal is p X in the empty world, where exp has no constant and p has no clause. A split has no case, so the goal is covered, as it has no instance.
-- Without a clause there is no candidate, so the strategy doesn't split the goal, and answers that it is missing. Both answers are right.
abbrev pub MissingHasNoInstance : Type 0
MissingHasNoInstance = (below : ℕ → ℕ → Bool) → IsSubordination Bare [] below → NumberedSplitIs Bare 2 [] below open_case 0 (numbered_cases []) × NumberedCoverIs Bare 2 [] below [] open_case all_covered × NumberedCoverIs Bare 2 [] below [] open_case (one_missing open_case)
