-- A head that is applied to terms already, before its new variables, and the store of a split with it. For a head k on
-- the term N it has X = k N Y, where Y is new; not X = k M Y, where M is new too, as it has for k on no terms.
use Rattle.std.specs.Prelude.{ℕ, zero, ◌+◌, List, [], ◌∷◌, length, Bool}
use Rattle.lf.specs.Syntax.{Head, variable, Term, Spine, root, LfType, Kind, skeleton, rename_head, rename_spine, rename_type}
use Rattle.lf.specs.AtOnce.{shift_by, lift_renaming_by}
use Rattle.lf.specs.Eta.{append, eta_long, lambdas}
use Rattle.lf.specs.Variables.{target_arguments}
use Rattle.lf_unification.specs.Offering.{spine_equations}
use Rattle.lf_unification.specs.Unifiers.{Store}
use Rattle.lf_cases.specs.Case.{Item, items_context}
use Rattle.lf_cases.specs.Reached.{arguments_count, head_masks, head_spine, taken, split_items}
use Rattle.lf_coverage.specs.Heads.{result_type}
use Rattle.lf_coverage.specs.SplitStore.{open_term, open_spine, open_type, open_locals, context_metavariables}

-- The head on these terms, applied to new variables for the quantifiers of the type A that is left. On no terms it is the head's term of a split.
abbrev pub applied_term : (ℕ → ℕ → Bool) → List LfType → Head → Spine → LfType → Term
applied_term below D h U A =
    let ρ : ℕ → ℕ = lift_renaming_by (length D) (shift_by (arguments_count A)) in
    lambdas (length D) (root (rename_head ρ h) (append (rename_spine ρ U) (head_spine (head_masks below D (arguments_count A) A) D A)))

-- The split store with this term in place of the head's.
abbrev pub applied_store : (ℕ → ℕ → Bool) → ℕ → LfType → List Item → ℕ → Head → Spine → LfType → Kind → Store
applied_store below x X I n h U A K = record {
  metavariables = context_metavariables (items_context (split_items below X I n A));
  bindings = [];
  equations = record {
    local = [];
    left = open_term zero (eta_long (skeleton X) (variable (x + (n + arguments_count A))));
    right = open_term zero (applied_term below (taken (rename_type (shift_by n) X)) h U A);
    of_type = open_type zero (rename_type (shift_by (n + arguments_count A)) X);
  } ∷ spine_equations (open_locals (taken (rename_type (shift_by (n + arguments_count A)) X))) K (open_spine (length (taken X)) (target_arguments (rename_type (shift_by (n + arguments_count A)) X))) (open_spine (length (taken X)) (target_arguments (result_type (head_masks below (taken (rename_type (shift_by n) X)) (arguments_count A) A) (taken (rename_type (shift_by n) X)) (arguments_count A) A)));
}
