-- Worked goals of outputs.
use Rattle.std.proofs.Common.{◌≡◌, ℕ, zero, suc, List, [], ◌∷◌, inl, inr, refl, sym, ap, ◌∙◌, subst}
use Rattle.std.specs.Prelude.{Bool, true}
use Rattle.lf.specs.Syntax.{Spine, LfType, Kind, nil, app, atom, pi, kind_pi, star, weaken}
use Rattle.lf.specs.Typing.{TypeAt, SpineType}
use Rattle.lf.specs.Subordination.{Block, Member, IsTypedBlock}
use Rattle.lf.specs.Variables.{UsesType, binders, onto, target_arguments}
use Rattle.lf.proofs.Decidability.{variable_type_unique}
use Rattle.lf_checks.specs.Clause.{entry_clause, scope}
use Rattle.lf_checks.specs.Ground.{ground_first}
use Rattle.lf_checks.specs.Worlded.{no_instance}
use Rattle.lf_cases.specs.Candidates.{with_given}
use Rattle.lf_cases.specs.Case.{items_context}
use Rattle.lf_cases.specs.Pattern.{is_given}
use Rattle.lf_cases.specs.Split.{at_leaf}
use Rattle.lf_totality.specs.Examples.{Addition, Copying, addition_marks, copying_marks, copy_block, copy_subgoal, cp_kind, cp_lam, exp, first_below_second, function, on_three, plus_kind, plus_s, var, applied_to}
use Rattle.lf_totality.specs.ExamplesReached.{open_case, some_block, some_case, some_entry, some_goal}
use Rattle.lf_totality.proofs.Addition.{addition_ok}
use Rattle.lf_totality.proofs.Copying.{copying_ok}
use Rattle.lf_coverage.specs.ExamplesOutputs.{PlusOutputsAreTyped, CopyOutputsAreTyped, OpenGoalIsUntyped, EntryGoalIsUntyped, PlusOutputsAreCovered}
use Rattle.lf_coverage.specs.ExamplesAnsweredOutputs.{PlusOutputRunCovers, plus_output_patterns, CopyOutputRunStaysTyped}
use Rattle.lf_coverage.specs.TypedCase.{TypedArguments}
use Rattle.lf_coverage.proofs.AnsweredOutputs.{output_goal_quantifies_below, answered_run_covers_outputs, output_run_stays_typed}
use Rattle.lf_coverage.proofs.ExamplesSubordinate.{addition_is_tested}
use Rattle.lf_coverage.proofs.Examples.{plus_subordination}
use Rattle.lf_coverage.proofs.ExamplesLeaf.{output_leaf, at_two, at_three}
use Rattle.lf_coverage.proofs.OutputBeside.{output_goal_is_typed}
use Rattle.lf_coverage.proofs.OutputRuns.{solved_run_gives_outputs}
use Rattle.lf_coverage.proofs.Parts.{some_same}

abbrev plus_ground : ℕ → Bool
plus_ground = ground_first addition_marks plus_s

plus_closed : (i : ℕ) (A : LfType) → TypeAt (scope plus_s) i A → plus_ground i ≡ true → UsesType plus_ground A
plus_closed zero A g u = absurd cc
plus_closed (suc zero) A g u = absurd cc
plus_closed (suc (suc zero)) A g u = subst (UsesType plus_ground) (at_two A g) tt
plus_closed (suc (suc (suc zero))) A g u = subst (UsesType plus_ground) (at_three A g) tt
plus_closed (suc (suc (suc (suc i)))) A (C, (D, (E, (F, g, e), e1), e2), e3) u = absurd g

pub plus_outputs_are_typed : PlusOutputsAreTyped
plus_outputs_are_typed = (output_goal_is_typed Addition addition_ok [] (λ B m. absurd m) first_below_second addition_marks 3 plus_s.type refl plus_ground plus_closed 0 (on_three 1 (var 3) (var 2) (var 1)) (refl, refl) ((refl, tt), ((refl, tt), tt)) (plus_kind, refl, (tt, (tt, tt))) tt plus_kind refl).0

abbrev copy_ground : ℕ → Bool
copy_ground = ground_first copying_marks cp_lam

copy_closed : (i : ℕ) (A : LfType) → TypeAt (scope cp_lam) i A → copy_ground i ≡ true → UsesType copy_ground A
copy_closed zero A g u = absurd cc
copy_closed (suc zero) A g u = absurd cc
copy_closed (suc (suc zero)) A g u = subst (UsesType copy_ground) (sym (variable_type_unique (scope cp_lam) 2 A function g (function, (function, refl, refl), refl))) (tt, tt)
copy_closed (suc (suc (suc i))) A (C, (D, (E, g, e), e1), e2) u = absurd g

copy_world : (B : Block) → Member B (copy_block ∷ []) → IsTypedBlock Copying B
copy_world B (inl e) = subst (IsTypedBlock Copying) (sym e) typed
  where
    typed : IsTypedBlock Copying copy_block
    typed = ((tt, (_, refl, tt)), (cp_kind, refl, ((exp, refl, refl), ((exp, refl, refl), tt))))
copy_world B (inr m) = absurd m

pub copy_outputs_are_typed : CopyOutputsAreTyped
copy_outputs_are_typed = (output_goal_is_typed Copying copying_ok (copy_block ∷ []) copy_world first_below_second copying_marks 1 cp_lam.type refl copy_ground copy_closed 0 copy_subgoal (refl, refl) (tt, (((refl, tt), ((refl, tt), tt)), ((refl, ((refl, tt), tt)), tt))) (cp_kind, refl, (tt, tt)) tt cp_kind refl).0

pub open_goal_is_untyped : OpenGoalIsUntyped
open_goal_is_untyped Σ t = no (t.given.closed 2 _ (_, (_, refl, refl), refl) refl)
  where
    no : UsesType (is_given open_case.given) (atom 1 (app (applied_to 3 4) nil)) → ⊥
    no ((u, v), w) = cc

abbrev entry_kind : Kind
entry_kind = kind_pi (atom 1 nil) (kind_pi (atom 2 (app (var 0) nil)) star)

-- what stands in front of the clause's variables, and the subgoal's arguments with what is given put in
abbrev entry_context : List LfType
entry_context = onto some_case.local (onto (items_context some_case.items) (scope (entry_clause some_block [] some_entry)))

abbrev entry_arguments : Spine
entry_arguments = with_given some_case (entry_clause some_block [] some_entry) (binders [] (some_goal 2)) (target_arguments (some_goal 2))

pub entry_goal_is_untyped : EntryGoalIsUntyped
entry_goal_is_untyped Σ e t = by (subst (TypedArguments Σ entry_context some_case.arguments entry_arguments) (some_same (sym t.of_family ∙ e)) t.arguments)
  where
    last : SpineType Σ entry_context (app (var 0) nil) (weaken (weaken (pi (atom 0 nil) (atom 2 (app (applied_to 2 0) nil))))) (atom 2 (app (applied_to 5 0) nil)) → ⊥
    last (m, q) = cc

    no : (A : LfType) → TypeAt entry_context 1 A → SpineType Σ entry_context (app (var 0) nil) A (atom 2 (app (applied_to 5 0) nil)) → ⊥
    no A (C, c, q) s = last (subst (λ X. SpineType Σ entry_context (app (var 0) nil) X (atom 2 (app (applied_to 5 0) nil))) (q ∙ ap weaken c) s)

    by : TypedArguments Σ entry_context some_case.arguments entry_arguments entry_kind → ⊥
    by ((A, g, s), h) = no A g s

pub plus_outputs_are_covered : PlusOutputsAreCovered
plus_outputs_are_covered = solved_run_gives_outputs Addition addition_ok [] (λ B m. absurd m) first_below_second plus_subordination addition_marks 1 (plus_kind, refl) 3 plus_s.type refl refl plus_ground (λ j e. outer j e) 0 (on_three 1 (var 3) (var 2) (var 1)) (refl, refl) no_instance ((refl, tt), ((refl, tt), tt)) (plus_kind, refl, (tt, (tt, tt))) tt plus_kind refl ((_, refl), refl, refl, ((_, refl), refl, refl, ((_, refl), refl, refl, tt))) (at_leaf output_leaf)
  where
    outer : (j : ℕ) → Rattle.lf_checks.specs.Clause.outside plus_s.type Rattle.lf.specs.Variables.everything j ≡ true → plus_ground j ≡ true
    outer zero e = absurd cc
    outer (suc zero) e = absurd cc
    outer (suc (suc zero)) e = absurd cc
    outer (suc (suc (suc zero))) e = absurd cc
    outer (suc (suc (suc (suc j)))) e = refl

pub plus_output_run_covers : PlusOutputRunCovers
plus_output_run_covers = (
  output_goal_quantifies_below Addition addition_ok [] (λ B m. absurd m) first_below_second addition_is_tested addition_marks 3 plus_s.type refl plus_ground 0 (on_three 1 (var 3) (var 2) (var 1)) (refl, refl) ((refl, tt), ((refl, tt), tt)) (plus_kind, refl, (tt, (tt, tt))) tt plus_kind refl,
  at_leaf output_leaf,
  λ S sc t. answered_run_covers_outputs Addition addition_ok [] (λ B m. absurd m) first_below_second addition_is_tested addition_marks 3 plus_s.type refl plus_ground 0 (on_three 1 (var 3) (var 2) (var 1)) (refl, refl) ((refl, tt), ((refl, tt), tt)) (plus_kind, refl, (tt, (tt, tt))) tt plus_kind refl plus_output_patterns (at_leaf output_leaf) S sc t,
)

pub copy_output_run_stays_typed : CopyOutputRunStaysTyped
copy_output_run_stays_typed D r = output_run_stays_typed Copying copying_ok (copy_block ∷ []) copy_world first_below_second copying_marks 1 cp_lam.type refl copy_ground copy_closed 0 copy_subgoal (refl, refl) (tt, (((refl, tt), ((refl, tt), tt)), ((refl, ((refl, tt), tt)), tt))) (cp_kind, refl, (tt, tt)) tt cp_kind refl D r
