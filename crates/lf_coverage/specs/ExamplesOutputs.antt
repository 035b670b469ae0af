-- Worked goals of outputs: typed beside a subgoal, or not; and one that is an instance at once.
use Rattle.std.specs.Prelude.{◌≡◌, refl, [], ◌∷◌, Some}
use Rattle.lf.specs.Syntax.{nil, app, atom, kind_pi, star}
use Rattle.lf.specs.Typing.{Signature}
use Rattle.lf_checks.specs.Clause.{entry_clause}
use Rattle.lf_checks.specs.Ground.{ground_first}
use Rattle.lf_cases.specs.Cover.{CoveredOutputs}
use Rattle.lf_cases.specs.OutputGoal.{output_goal}
use Rattle.lf_cases.specs.Pattern.{of_constant, of_entry, subgoal_pattern}
use Rattle.lf_totality.specs.Examples.{Addition, Copying, addition_marks, copying_marks, copy_block, copy_subgoal, cp_kind, cp_lam, first_below_second, on_three, plus_kind, plus_s, var}
use Rattle.lf_totality.specs.ExamplesReached.{open_case, open_clause, some_block, some_case, some_entry, some_goal}
use Rattle.lf_coverage.specs.TypedCase.{IsTypedBeside}

-- The goal plus X Y Z of the outputs of plus-s's subgoal plus X Y _, where X and Y are given, is typed beside it.
abbrev pub PlusOutputsAreTyped : Type 0
PlusOutputsAreTyped = IsTypedBeside Addition [] (output_goal first_below_second addition_marks (of_constant plus_s.type) (ground_first addition_marks plus_s) (on_three 1 (var 3) (var 2) (var 1)) plus_kind) (subgoal_pattern plus_s (of_constant plus_s.type) (on_three 1 (var 3) (var 2) (var 1)))

-- So is the goal cp (E x) (F x) under {x:exp} {u:cp x x} of copying under a binder, where E is given and F is raised over x.
abbrev pub CopyOutputsAreTyped : Type 0
CopyOutputsAreTyped = IsTypedBeside Copying (copy_block ∷ []) (output_goal first_below_second copying_marks (of_constant cp_lam.type) (ground_first copying_marks cp_lam) copy_subgoal cp_kind) (subgoal_pattern cp_lam (of_constant cp_lam.type) copy_subgoal)

-- The goal of {N:nat} {F:nat -> nat} {V:vec (F N)} {Y:nat} r Y -> p (F N) V isn't, where V is given and N and F, which its type mentions, are not.
abbrev pub OpenGoalIsUntyped : Type 0
OpenGoalIsUntyped = (Σ : Signature) → IsTypedBeside Σ [] open_case (subgoal_pattern open_clause (of_constant open_clause.type) (atom 3 (app (var 1) nil))) → ⊥

-- Nor is that of the entry some {f:a -> b} block {u:({x:a} q (f x) (g (f x))) -> r}: its output has the type d (f x) for the block variable's own f, and
-- beside the subgoal the clause's f is another. So it is with each entry whose outputs' types mention `some` variables or earlier entries.
abbrev pub EntryGoalIsUntyped : Type 0
EntryGoalIsUntyped = (Σ : Signature) → Σ.kinds 3 ≡ Some (kind_pi (atom 1 nil) (kind_pi (atom 2 (app (var 0) nil)) star)) → IsTypedBeside Σ (some_block ∷ []) some_case (subgoal_pattern (entry_clause some_block [] some_entry) (of_entry some_block [] some_entry [] refl) (some_goal 2)) → ⊥

-- The goal of plus-s's subgoal is an instance of it, so that its run ends at once and the outputs are covered.
abbrev pub PlusOutputsAreCovered : Type 0
PlusOutputsAreCovered = CoveredOutputs Addition addition_marks [] (first_below_second 1) plus_s (ground_first addition_marks plus_s) (on_three 1 (var 3) (var 2) (var 1))
