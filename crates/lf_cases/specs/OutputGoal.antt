-- The goal of output coverage of a subgoal.
use Rattle.std.specs.Prelude.{ℕ, zero, suc, ◌+◌, List, [], ◌∷◌, length, Bool, true, false, cond, Option, Some, None}
use Rattle.lf.specs.Syntax.{variable, Term, Spine, nil, app, LfType, Kind, kind_pi, star, skeleton, rename_spine, rename_type, rename_kind, lift_renaming}
use Rattle.lf.specs.Substitution.{keep}
use Rattle.lf.specs.Typing.{instantiate_kind}
use Rattle.lf.specs.AtOnce.{lift_renaming_by}
use Rattle.lf.specs.Eta.{eta_expand, eta_long}
use Rattle.lf.specs.Variables.{target, target_arguments, binders}
use Rattle.lf_unification.specs.Search.{occurs_type}
use Rattle.lf_checks.specs.Tests.{both, either}
use Rattle.lf_checks.specs.Clause.{Clause}
use Rattle.lf_checks.specs.Marks.{Mark, output_places}
use Rattle.lf_cases.specs.Case.{Item, free_variable, block_variable, Case, past_place, chosen_count}
use Rattle.lf_cases.specs.Pattern.{Origin, of_constant, of_entry}
use Rattle.lf_cases.specs.Raised.{raise_by, locals_by, raised_over, first_mask, other_masks}

-- a free variable for each type of a context
abbrev pub free_variables : List LfType → List Item
free_variables [] = []
free_variables (A ∷ G) = free_variable A ∷ free_variables G

-- What stands outside the clause, as items: nothing for a constant; for an entry free variables for the `some` variables of its
-- block, and a block variable on them.
abbrev pub outside_items : {c : Clause} → Origin c → List Item
outside_items (of_constant U) = []
outside_items (of_entry B later E es e) = block_variable B keep ∷ free_variables B.some

-- the number there of what stands outside the clause: the entry itself and those after it are passed over
abbrev pub outside_number : {c : Clause} → Origin c → ℕ → ℕ
outside_number (of_constant U) i = i
outside_number (of_entry B later E es e) i = i + suc (length later)

-- The set U of variables of a context with the variables in the types of its variables, step by step.
abbrev pub closed_over : List LfType → (ℕ → Bool) → ℕ → Bool
closed_over [] U i = U i
closed_over (A ∷ G) U zero = U zero
closed_over (A ∷ G) U (suc i) = closed_over G (λ j. either (U (suc j)) (both (U zero) (occurs_type j A))) i

-- Of the quantifiers of the clause, the last in front, those in U are kept as free variables. The number of each there; what a
-- quantifier that isn't kept gets has no meaning, where U holds the variables in the types of its variables.
abbrev pub kept_number : (ℕ → Bool) → List LfType → (ℕ → ℕ) → ℕ → ℕ
kept_number U [] ρ = ρ
kept_number U (A ∷ D) ρ = cond (U zero) (lift_renaming (kept_number (λ i. U (suc i)) D ρ)) (past_place (kept_number (λ i. U (suc i)) D ρ))

-- the items with these free variables
abbrev pub kept_items : (ℕ → Bool) → List LfType → (ℕ → ℕ) → List Item → List Item
kept_items U [] ρ I = I
kept_items U (A ∷ D) ρ I = cond (U zero) (free_variable (rename_type (kept_number (λ i. U (suc i)) D ρ) A) ∷ kept_items (λ i. U (suc i)) D ρ I) (kept_items (λ i. U (suc i)) D ρ I)

-- each of them, eta-long, as a given term
abbrev pub kept_terms : (ℕ → Bool) → List LfType → (ℕ → ℕ) → List (Option Term)
kept_terms U [] ρ = []
kept_terms U (A ∷ D) ρ = cond (U zero) (Some (eta_long (skeleton A) (variable (ρ zero)))) None ∷ kept_terms (λ i. U (suc i)) D (λ i. ρ (suc i))

-- a local context, with what stands outside it renumbered
abbrev pub renumber : (ℕ → ℕ) → List LfType → List LfType
renumber ρ [] = []
renumber ρ (A ∷ D) = rename_type (lift_renaming_by (length D) ρ) A ∷ renumber ρ D

-- what stands outside the local context D moves over one more item
abbrev pub over_item : List LfType → ℕ → ℕ
over_item D = lift_renaming_by (length D) suc

-- The newest item, of a type that is raised over the local variables of D that the mask chooses, applied to these: a term of the type B under D.
abbrev pub raised_variable : List Bool → List LfType → LfType → ℕ → Term
raised_variable k D B n = eta_expand (skeleton B) (variable (n + length D)) (locals_by k D)

-- For each output place the local variables over which its variable is raised. S has the arguments of the subgoal and K the kind of its family,
-- both under the local context D. Types of later places mention the arguments of earlier ones: at an input the subgoal's, at an output the
-- raised variable.
abbrev pub output_masks : (ℕ → ℕ → Bool) → List LfType → List Bool → Spine → Kind → List (List Bool)
output_masks below D [] S K = []
output_masks below D (b ∷ m) nil K = []
output_masks below D (b ∷ m) (app M S) star = []
output_masks below D (false ∷ m) (app M S) (kind_pi A K) = output_masks below D m S (instantiate_kind A M K)
output_masks below D (true ∷ m) (app M S) (kind_pi A K) =
    raised_over (below (target A)) D A
    ∷ output_masks below (renumber suc D) m (rename_spine (over_item D) S) (instantiate_kind A (raised_variable (raised_over (below (target A)) D A) D A zero) (rename_kind (lift_renaming (over_item D)) K))

-- for each output place a free variable of its type, raised so
abbrev pub output_items : List (List Bool) → List LfType → List Bool → Spine → Kind → List Item → List Item
output_items ks D [] S K I = I
output_items ks D (b ∷ m) nil K I = I
output_items ks D (b ∷ m) (app M S) star I = I
output_items ks D (false ∷ m) (app M S) (kind_pi A K) I = output_items ks D m S (instantiate_kind A M K) I
output_items ks D (true ∷ m) (app M S) (kind_pi A K) I =
    output_items (other_masks ks) (renumber suc D) m (rename_spine (over_item D) S)
    (instantiate_kind A (raised_variable (first_mask ks) D A zero) (rename_kind (lift_renaming (over_item D)) K))
    (free_variable (raise_by (first_mask ks) D A) ∷ I)

-- The arguments of the goal: at each output place its variable, applied to these local variables, and nothing at the others.
abbrev pub output_arguments : List (List Bool) → List LfType → List Bool → Kind → List (Option Term)
output_arguments ks D [] K = []
output_arguments ks D (b ∷ m) star = []
output_arguments ks D (true ∷ m) (kind_pi A K) = Some (raised_variable (first_mask ks) D A (chosen_count m K)) ∷ output_arguments (other_masks ks) D m K
output_arguments ks D (false ∷ m) (kind_pi A K) = None ∷ output_arguments ks D m K

-- what stands outside a subgoal, and the variables of the clause, over the items of the goal without its outputs
abbrev pub goal_number : {c : Clause} → Origin c → (ℕ → Bool) → ℕ → ℕ
goal_number {c = c} o U = kept_number U (binders [] c.type) (outside_number o)

-- The masks of its outputs, where V is kept.
abbrev pub goal_masks : (ℕ → ℕ → Bool) → (ℕ → List Mark) → {c : Clause} → Origin c → (ℕ → Bool) → LfType → Kind → List (List Bool)
goal_masks below m o V A K = output_masks below (renumber (goal_number o V) (binders [] A)) (output_places (m (target A))) (rename_spine (lift_renaming_by (length (binders [] A)) (goal_number o V)) (target_arguments A)) K

-- The goal with the variables in V as items, and given terms for those in U.
abbrev pub goal_over : (ℕ → ℕ → Bool) → (ℕ → List Mark) → {c : Clause} → Origin c → (ℕ → Bool) → (ℕ → Bool) → LfType → Kind → Case
goal_over below m {c = c} o V U A K = record {
  items = output_items (goal_masks below m o V A K) (renumber (goal_number o V) (binders [] A)) (output_places (m (target A))) (rename_spine (lift_renaming_by (length (binders [] A)) (goal_number o V)) (target_arguments A)) K (kept_items V (binders [] c.type) (outside_number o) (outside_items o));
  given = kept_terms U (binders [] c.type) (λ i. goal_number o V i + chosen_count (output_places (m (target A))) K);
  local = renumber (λ i. goal_number o V i + chosen_count (output_places (m (target A))) K) (binders [] A);
  family = target A;
  arguments = output_arguments (goal_masks below m o V A K) (binders [] A) (output_places (m (target A))) K;
}

-- The goal of output coverage of the subgoal A of a clause, where U is ground before it and K is the kind of its family. What is in U and,
-- step by step, in the types of its variables is kept, so that the types of the items mention items alone; what is in U is given. The local
-- context is the subgoal's.
abbrev pub output_goal : (ℕ → ℕ → Bool) → (ℕ → List Mark) → {c : Clause} → Origin c → (ℕ → Bool) → LfType → Kind → Case
output_goal below m {c = c} o U A K = goal_over below m o (closed_over (binders [] c.type) U) U A K
