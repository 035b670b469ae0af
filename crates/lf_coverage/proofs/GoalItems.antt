-- The items of a goal of outputs: at most one is a block variable.
use Rattle.std.proofs.Common.{ℕ, zero, suc, List, [], ◌∷◌, length}
use Rattle.std.specs.Prelude.{Bool, true, false, cond}
use Rattle.lf.specs.Syntax.{Spine, nil, app, LfType, Kind, kind_pi, star, rename_spine, rename_type, rename_kind, lift_renaming}
use Rattle.lf.specs.AtOnce.{lift_renaming_by}
use Rattle.lf.specs.Typing.{Signature, instantiate_kind}
use Rattle.lf.specs.Variables.{target, target_arguments, binders}
use Rattle.lf.specs.Subordination.{Block}
use Rattle.lf_checks.specs.Clause.{Clause, IsClause, from_constant, from_entry}
use Rattle.lf_checks.specs.Marks.{Mark, output_places}
use Rattle.lf_cases.specs.Case.{Item, free_variable, block_variable}
use Rattle.lf_cases.specs.OutputGoal.{outside_items, outside_number, closed_over, kept_number, kept_items, renumber, over_item, raised_variable, goal_number, goal_masks, output_goal, output_items}
use Rattle.lf_cases.specs.Pattern.{Origin, origin}
use Rattle.lf_cases.specs.Raised.{raise_by, first_mask, other_masks}
use Rattle.lf_cases.specs.Split.{HasNoBlockVariable, HasOneBlockVariable}
use Rattle.lf_coverage.proofs.SolvedCase.{free_without}

-- What items keep where free variables come, the goal has of what stands outside the clause.
module _ (P : List Item → Type 0) (next : (A : LfType) (I : List Item) → P I → P (free_variable A ∷ I)) where
  kept_keep : (V : ℕ → Bool) (D : List LfType) (ρ : ℕ → ℕ) (I : List Item) → P I → P (kept_items V D ρ I)
  kept_keep V [] ρ I p = p
  kept_keep V (A ∷ D) ρ I p = by (V zero) (kept_keep (λ j. V (suc j)) D ρ I p)
    where
      by : (b : Bool) → P (kept_items (λ j. V (suc j)) D ρ I) → P (cond b (free_variable (rename_type (kept_number (λ j. V (suc j)) D ρ) A) ∷ kept_items (λ j. V (suc j)) D ρ I) (kept_items (λ j. V (suc j)) D ρ I))
      by true h = next (rename_type (kept_number (λ j. V (suc j)) D ρ) A) (kept_items (λ j. V (suc j)) D ρ I) h
      by false h = h

  output_keep : (ks : List (List Bool)) (D : List LfType) (b : List Bool) (T : Spine) (K : Kind) (I : List Item) → P I → P (output_items ks D b T K I)
  output_keep ks D [] T K I p = p
  output_keep ks D (b ∷ m) nil K I p = p
  output_keep ks D (b ∷ m) (app M T) star I p = p
  output_keep ks D (false ∷ m) (app M T) (kind_pi A K) I p = output_keep ks D m T (instantiate_kind A M K) I p
  output_keep ks D (true ∷ m) (app M T) (kind_pi A K) I p = output_keep (other_masks ks) (renumber suc D) m (rename_spine (over_item D) T) (instantiate_kind A (raised_variable (first_mask ks) D A zero) (rename_kind (lift_renaming (over_item D)) K)) (free_variable (raise_by (first_mask ks) D A) ∷ I) (next (raise_by (first_mask ks) D A) I p)

  pub goal_keeps : (below : ℕ → ℕ → Bool) (m : ℕ → List Mark) {c : Clause} (o : Origin c) (U : ℕ → Bool) (A : LfType) (K : Kind) → P (outside_items o) → P (output_goal below m o U A K).items
  goal_keeps below m {c = c} o U A K p =
      let V : ℕ → Bool = closed_over (binders [] c.type) U in
      let ρ : ℕ → ℕ = goal_number o V in
      output_keep (goal_masks below m o V A K) (renumber ρ (binders [] A)) (output_places (m (target A))) (rename_spine (lift_renaming_by (length (binders [] A)) ρ) (target_arguments A)) K (kept_items V (binders [] c.type) (outside_number o) (outside_items o)) (kept_keep V (binders [] c.type) (outside_number o) (outside_items o) p)

pub one_outside : {Σ : Signature} {W : List Block} {c : Clause} (d : IsClause Σ W c) → HasOneBlockVariable (outside_items (origin d))
one_outside (from_constant k U e) = tt
one_outside (from_entry B later E es m e) = free_without B.some

pub one_without : (I : List Item) → HasNoBlockVariable I → HasOneBlockVariable I
one_without [] n = tt
one_without (free_variable A ∷ I) n = one_without I n
one_without (block_variable B υ ∷ I) n = absurd n
