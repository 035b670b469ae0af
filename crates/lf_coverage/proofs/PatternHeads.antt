-- The new variables of a head stand on distinct variables.
use Rattle.std.proofs.Common.{◌≡◌, ℕ, zero, suc, List, [], ◌∷◌, length, refl, sym, ap, ap₂, ◌∙◌, subst, arith}
use Rattle.std.specs.Prelude.{◌+◌, Bool, true, false, Option, Some}
use Rattle.lf.specs.AtOnce.{shift_by}
use Rattle.lf.specs.Eta.{add_last, append, arity, eta_arguments, eta_expand, eta_long}
use Rattle.lf.specs.Skeletons.{context_skeletons}
use Rattle.lf.specs.Syntax.{variable, metavariable, Term, Spine, root, nil, LfType, pi, atom, Skeleton, base, skeleton, rename_spine, rename_type, weaken}
use Rattle.lf.specs.Typing.{Signature, TypeAt}
use Rattle.lf.specs.Variables.{target}
use Rattle.lf.proofs.AtOnce.{eta_expand_at_once}
use Rattle.lf.proofs.TypeLaws.{skeleton_renamed}
use Rattle.lf_unification.specs.Patterns.{context_under, lambdas_of, skeleton_target}
use Rattle.lf_cases.specs.Case.{Item, free_variable, items_context}
use Rattle.lf_cases.specs.OutputGoal.{raised_variable, renumber}
use Rattle.lf_cases.specs.Raised.{first_mask, locals_by, other_masks, raise_by}
use Rattle.lf_cases.specs.Reached.{arguments_count, head_items, head_spine}
use Rattle.lf_cases.proofs.OutputItems.{length_renumber}
use Rattle.lf_coverage.specs.PatternHeads.{HeadArgumentsArePatterns, VariablesArePatterns}
use Rattle.lf_coverage.specs.PatternStores.{AreDistinct, ArePatternArguments, IsPatternTerm}
use Rattle.lf_coverage.specs.SplitStore.{context_metavariables, open_some, open_spine, open_term, open_type, open_variable}
use Rattle.lf_coverage.specs.TermMatching.{over}
use Rattle.lf_coverage.proofs.PatternDistinct.{raised, skeleton_raised, raised_target, raised_distinct}
use Rattle.lf_coverage.proofs.PatternEta.{eta_is_pattern, same_lambdas}
use Rattle.lf_coverage.proofs.PatternSides.{closed}
use Rattle.lf_coverage.proofs.PatternValues.{open_expand, outer_opens, open_last as open_append}
use Rattle.lf_coverage.proofs.ResultType.{next_count, next_skeleton, next_spine, next_type}
use Rattle.lf_coverage.proofs.SolvedCase.{behind_types}
use Rattle.lf_coverage.proofs.StoreSolution.{looked_up, skeleton_open}

-- locals stay when they are opened
open_locals_by : (ks : List Bool) (D : List LfType) → open_spine (length D) (locals_by ks D) ≡ locals_by ks D
open_locals_by ks [] = refl
open_locals_by [] (A ∷ D) = refl
open_locals_by (true ∷ ks) (A ∷ D) = open_append (suc (length D)) (rename_spine suc (locals_by ks D)) (eta_long (skeleton A) (variable zero)) ∙ ap₂ add_last (Rattle.lf_coverage.proofs.OpenTyped.open_renamed_spine (length D) (suc (length D)) suc (λ i. refl) (locals_by ks D) ∙ ap (rename_spine suc) (open_locals_by ks D)) (open_expand (suc (length D)) (skeleton A) zero nil)
open_locals_by (false ∷ ks) (A ∷ D) = Rattle.lf_coverage.proofs.OpenTyped.open_renamed_spine (length D) (suc (length D)) suc (λ i. refl) (locals_by ks D) ∙ ap (rename_spine suc) (open_locals_by ks D)

over_sum : (n i : ℕ) → i + n ≡ over n i
over_sum zero i = omega arith
over_sum (suc n) i = next i n ∙ ap suc (over_sum n i)
  where
    next : (i n : ℕ) → i + suc n ≡ suc (i + n)
    next i n = omega arith

-- a raised variable
pub raised_is_pattern : (Σ : Signature) (Φ : ℕ → Option LfType) (ks : List Bool) (D : List LfType) (B Z : LfType) (n : ℕ) → Φ n ≡ Some Z → skeleton Z ≡ skeleton (raise_by ks D B) → IsPatternTerm Σ Φ (context_skeletons D) (open_term (length D) (raised_variable ks D B n)) (skeleton B)
raised_is_pattern Σ Φ ks D B Z n e q =
    let b : Skeleton = skeleton B in
    let s : skeleton Z ≡ raised ks D b = q ∙ skeleton_raised ks D B in
    let is : open_term (length D) (raised_variable ks D B n) ≡ lambdas_of b (root (metavariable n) (append (rename_spine (shift_by (arity b)) (locals_by ks D)) (eta_arguments b))) =
    open_expand (length D) b (n + length D) (locals_by ks D)
    ∙ ap₂ (eta_expand b) (ap (open_variable (length D)) (over_sum (length D) n) ∙ outer_opens (length D) n) (open_locals_by ks D)
    ∙ eta_expand_at_once b (metavariable n) (locals_by ks D)
    ∙ same_lambdas b (root (metavariable n) (append (rename_spine (shift_by (arity b)) (locals_by ks D)) (eta_arguments b))) in
    subst (λ M. IsPatternTerm Σ Φ (context_skeletons D) M b) (sym is) (closed Σ Φ b (context_skeletons D) (root (metavariable n) (append (rename_spine (shift_by (arity b)) (locals_by ks D)) (eta_arguments b))) (Z, e, ap skeleton_target s ∙ raised_target ks D b, subst (λ t. AreDistinct (context_under b (context_skeletons D)) t (append (rename_spine (shift_by (arity b)) (locals_by ks D)) (eta_arguments b))) (sym s) (raised_distinct ks D b)))

pub renumber_same : (ρ : ℕ → ℕ) (D : List LfType) → context_skeletons (renumber ρ D) ≡ context_skeletons D
renumber_same ρ [] = refl
renumber_same ρ (A ∷ D) = ap₂ ◌∷◌ (skeleton_renamed _ A) (renumber_same ρ D)

target_renamed : (ρ : ℕ → ℕ) (A : LfType) → target (rename_type ρ A) ≡ target A
target_renamed ρ (pi A B) = target_renamed _ B
target_renamed ρ (atom a S) = refl

target_substituted : (r : Skeleton → Term → Spine → Term) (σ : ℕ → Rattle.lf.specs.Substitution.Image) (A : LfType) → target (Rattle.lf.specs.Substitution.substitute_type r σ A) ≡ target A
target_substituted r σ (pi A B) = target_substituted r _ B
target_substituted r σ (atom a S) = refl

pub head_arguments_are_patterns : HeadArgumentsArePatterns
head_arguments_are_patterns Σ ks D zero (atom a S) I e = refl
head_arguments_are_patterns Σ ks D zero (pi A B) I e = absurd (no e)
  where
    no : suc (arguments_count B) ≡ zero → ⊥
    no e = omega (arith, e)
head_arguments_are_patterns Σ ks D (suc n) (atom a S) I e = absurd (no e)
  where
    no : zero ≡ suc n → ⊥
    no e = omega (arith, e)
head_arguments_are_patterns Σ ks D (suc n) (pi A B) I e =
    let k : List Bool = first_mask ks in
    let Z : LfType = raise_by k D A in
    let J : List Item = free_variable Z ∷ I in
    let D1 : List LfType = renumber suc D in
    let A1 : LfType = next_type ks D A B in
    let Y : List LfType = items_context (head_items (other_masks ks) D1 n A1 J) in
    let Φ : ℕ → Option LfType = context_metavariables Y in
    let c : arguments_count A1 ≡ n = next_count ks D A B ∙ suc_same e in
    let at : TypeAt Y n (rename_type (shift_by n) (weaken Z)) = subst (λ j. TypeAt Y j (rename_type (shift_by n) (weaken Z))) (none n) (behind_types (other_masks ks) D1 n A1 J c zero (weaken Z) refl) in
    let d : Φ n ≡ Some (open_type zero (rename_type (shift_by n) (weaken Z))) = ap open_some (looked_up Y n (rename_type (shift_by n) (weaken Z)) at) in
    let s : skeleton (open_type zero (rename_type (shift_by n) (weaken Z))) ≡ skeleton Z = skeleton_open zero (rename_type (shift_by n) (weaken Z)) ∙ skeleton_renamed (shift_by n) (weaken Z) ∙ skeleton_renamed suc Z in
    let first : IsPatternTerm Σ Φ (context_skeletons D) (open_term (length D) (raised_variable k D A n)) (skeleton A) = raised_is_pattern Σ Φ k D A (open_type zero (rename_type (shift_by n) (weaken Z))) n d s in
    let ih : ArePatternArguments Σ Φ (context_skeletons D1) (open_spine (length D1) (head_spine (other_masks ks) D1 A1)) (skeleton A1) (base (target A1)) = head_arguments_are_patterns Σ (other_masks ks) D1 n A1 J c in
    let ih2 : ArePatternArguments Σ Φ (context_skeletons D) (open_spine (length D) (head_spine (other_masks ks) D1 A1)) (skeleton A1) (base (target A1)) = subst (λ Γ. ArePatternArguments Σ Φ Γ (open_spine (length D) (head_spine (other_masks ks) D1 A1)) (skeleton A1) (base (target A1))) (renumber_same suc D) (subst (λ l. ArePatternArguments Σ Φ (context_skeletons D1) (open_spine l (head_spine (other_masks ks) D1 A1)) (skeleton A1) (base (target A1))) (length_renumber suc D) ih) in
    let ih3 : ArePatternArguments Σ Φ (context_skeletons D) (open_spine (length D) (head_spine (other_masks ks) D B)) (skeleton A1) (base (target A1)) = subst (λ S. ArePatternArguments Σ Φ (context_skeletons D) (open_spine (length D) S) (skeleton A1) (base (target A1))) (next_spine ks D A B) ih2 in
    let t : target A1 ≡ target B = target_substituted _ _ (rename_type _ B) ∙ target_renamed _ B in (
      subst (λ j. IsPatternTerm Σ Φ (context_skeletons D) (open_term (length D) (raised_variable k D A j)) (skeleton A)) (sym (suc_same e)) first,
      subst (λ u. ArePatternArguments Σ Φ (context_skeletons D) (open_spine (length D) (head_spine (other_masks ks) D B)) u (base (target B))) (next_skeleton ks D A B) (subst (λ a. ArePatternArguments Σ Φ (context_skeletons D) (open_spine (length D) (head_spine (other_masks ks) D B)) (skeleton A1) (base a)) t ih3),
    )
  where
    suc_same : suc (arguments_count B) ≡ suc n → arguments_count B ≡ n
    suc_same e = omega (arith, e)

    none : (n : ℕ) → zero + n ≡ n
    none n = omega arith

pub variables_are_patterns : VariablesArePatterns
variables_are_patterns Σ G x X g = subst (λ M. IsPatternTerm Σ (context_metavariables G) [] M (skeleton X)) (sym (open_expand zero (skeleton X) x nil)) (subst (λ a. IsPatternTerm Σ (context_metavariables G) [] (eta_expand a (metavariable x) nil) a) (skeleton_open zero X) (eta_is_pattern Σ (context_metavariables G) x (open_type zero X) (ap open_some (looked_up G x X g))))
