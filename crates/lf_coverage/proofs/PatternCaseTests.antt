-- A case of patterns has patterns as matching asks.
use Rattle.std.proofs.Common.{◌≡◌, ℕ, ◌⊎◌, List, [], ◌∷◌, length, inl, inr, refl, sym, ap, ap₂, ◌∙◌, subst}
use Rattle.std.specs.Prelude.{Bool, true, false, Option, Some, None}
use Rattle.lf.specs.SkeletonTyping.{TermSkeleton, SpineSkeleton}
use Rattle.lf.specs.Skeletons.{constant_skeletons}
use Rattle.lf.specs.Syntax.{constant, variable, metavariable, Term, Spine, lambda, root, nil, app, LfType, Skeleton, base, arrow, skeleton}
use Rattle.lf.specs.Typing.{Signature}
use Rattle.lf.specs.Variables.{nothing}
use Rattle.lf_unification.specs.OpenTyping.{MetavariablesIn, MetavariablesInSpine}
use Rattle.lf_unification.specs.Patterns.{pattern}
use Rattle.lf_unification.proofs.BindTyped.{in_pattern}
use Rattle.lf_checks.specs.Strict.{pattern_arguments}
use Rattle.lf_checks.specs.Tests.{choose}
use Rattle.lf_cases.specs.Candidates.{free_among}
use Rattle.lf_cases.specs.Case.{items_context}
use Rattle.lf_coverage.specs.FullMatching.{AllHavePatterns}
use Rattle.lf_coverage.specs.Heads.{HaveSkeletons}
use Rattle.lf_coverage.specs.PatternCases.{ArgumentsArePatterns, PatternCaseHasPatterns}
use Rattle.lf_coverage.specs.PatternStores.{ArePatternArguments, IsPatternTerm}
use Rattle.lf_coverage.specs.SplitStore.{context_metavariables, open_some, open_spine, open_term, open_variable, type_in}
use Rattle.lf_coverage.specs.TermMatching.{HasPatterns, HavePatterns, bound, hidden, over}
use Rattle.lf_coverage.proofs.PatternOpened.{open_cases, kinds_differ, opened_as, opened_spine_same}
use Rattle.lf_coverage.proofs.PatternTests.{distinct_pass}
use Rattle.lf_coverage.proofs.PatternValues.{bound_stays, open_expand}
use Rattle.lf_coverage.proofs.SolvedCase.{all_free}
use Rattle.lf_coverage.proofs.StoreSolution.{found_type}
use Rattle.lf_coverage.proofs.UnderBound.{hidden_is_over, hidden_over}

-- a pattern of bound variables stays
open_pattern : (Γ : List Skeleton) (t : Skeleton) (xs : List ℕ) → Rattle.lf_unification.specs.Patterns.PatternFits Γ t xs → open_spine (length Γ) (pattern t xs) ≡ pattern t xs
open_pattern Γ (base c) xs p = refl
open_pattern Γ (arrow a b) [] p = absurd p
open_pattern Γ (arrow a b) (x ∷ xs) (e, p) = ap₂ app (open_expand (length Γ) a x nil ∙ ap (λ h. Rattle.lf.specs.Eta.eta_expand a h nil) (bound_stays Γ x a e)) (open_pattern Γ b xs p)

-- what constants' skeletons type has no metavariables
module _ (Σ : Signature) where
  mutual
    plain : (Γ : List Skeleton) (M : Term) (t : Skeleton) → TermSkeleton (constant_skeletons Σ) Γ M t → MetavariablesIn (λ m. ⊥) M
    plain Γ (lambda M) (arrow a b) m = plain (a ∷ Γ) M b m
    plain Γ (lambda M) (base c) m = absurd m
    plain Γ (root h S) (arrow a b) m = absurd m
    plain Γ (root (constant k) S) (base c) (t, e, s) = plain_spine Γ S t (base c) s
    plain Γ (root (variable k) S) (base c) (t, e, s) = plain_spine Γ S t (base c) s
    plain Γ (root (metavariable k) S) (base c) (t, e, s) = absurd cc

    plain_spine : (Γ : List Skeleton) (S : Spine) (t u : Skeleton) → SpineSkeleton (constant_skeletons Σ) Γ S t u → MetavariablesInSpine (λ m. ⊥) S
    plain_spine Γ nil t u s = tt
    plain_spine Γ (app M S) (arrow a b) u (m, s) = (plain Γ M a m, plain_spine Γ S b u s)
    plain_spine Γ (app M S) (base c) u s = absurd s

  -- the test that matching asks
  module _ (Ψ : ℕ → Option LfType) (F : ℕ → Bool) (free : (j : ℕ) (A : LfType) → Ψ j ≡ Some A → F j ≡ true) where
    chosen_true : (b : Bool) (P Q : Type 0) → b ≡ true → P → choose b P Q
    chosen_true true P Q e p = p
    chosen_true false P Q e p = absurd cc

    chosen_false : (b : Bool) (P Q : Type 0) → b ≡ false → Q → choose b P Q
    chosen_false true P Q e q = absurd cc
    chosen_false false P Q e q = q

    not_hidden : (k i : ℕ) → open_variable k i ≡ variable i → (b : Bool) → hidden k F i ≡ b → hidden k F i ≡ false
    not_hidden k i e false q = q
    not_hidden k i e true q = let (y, r, f) = hidden_is_over k F i q in absurd (kinds_differ (sym e ∙ opened_as k i y r))

    at_outer : (Γ : List Skeleton) (i j : ℕ) (S : Spine) (c : ℕ) → i ≡ over (length Γ) j → MetavariablesInSpine (λ m. ⊥) S → IsPatternTerm Σ Ψ Γ (root (metavariable j) (open_spine (length Γ) S)) (base c) → choose (hidden (length Γ) F i) (pattern_arguments (bound (length Γ)) [] S ≡ true) (HavePatterns (bound (length Γ)) (hidden (length Γ) F) S)
    at_outer Γ i j S c e v (A, g, q, d) =
        let same : S ≡ pattern (skeleton A) d.variables = opened_spine_same (length Γ) S (pattern (skeleton A) d.variables) v (in_pattern (λ m. ⊥) (skeleton A) d.variables) (d.same ∙ sym (open_pattern Γ (skeleton A) d.variables d.places)) in
        chosen_true (hidden (length Γ) F i) (pattern_arguments (bound (length Γ)) [] S ≡ true) (HavePatterns (bound (length Γ)) (hidden (length Γ) F) S) (ap (hidden (length Γ) F) e ∙ hidden_over (length Γ) F j ∙ free j A g) (subst (λ T. pattern_arguments (bound (length Γ)) [] T ≡ true) (d.same ∙ sym same) (distinct_pass Γ (skeleton A) (open_spine (length Γ) S) d))

    mutual
      has_patterns : (Γ : List Skeleton) (M : Term) (t : Skeleton) → MetavariablesIn (λ m. ⊥) M → IsPatternTerm Σ Ψ Γ (open_term (length Γ) M) t → HasPatterns (bound (length Γ)) (hidden (length Γ) F) M
      has_patterns Γ (lambda M) (arrow a b) v p = has_patterns (a ∷ Γ) M b v p
      has_patterns Γ (lambda M) (base c) v p = absurd p
      has_patterns Γ (root (constant k) S) (arrow a b) v p = absurd p
      has_patterns Γ (root (variable i) S) (arrow a b) v p = absurd p
      has_patterns Γ (root (metavariable m) S) t (x, v) p = absurd x
      has_patterns Γ (root (constant k) S) (base c) v (t, e, s) = have_patterns Γ S t (base c) v s
      has_patterns Γ (root (variable i) S) (base c) v p = by (open_cases (length Γ) i) (λ t s. have_patterns Γ S t (base c) v s)
        where
          by : (open_variable (length Γ) i ≡ variable i) ⊎ ((j : ℕ) × (i ≡ over (length Γ) j)) → ((t : Skeleton) → ArePatternArguments Σ Ψ Γ (open_spine (length Γ) S) t (base c) → HavePatterns (bound (length Γ)) (hidden (length Γ) F) S) → choose (hidden (length Γ) F i) (pattern_arguments (bound (length Γ)) [] S ≡ true) (HavePatterns (bound (length Γ)) (hidden (length Γ) F) S)
          by (inl e) h = let (t, g, s) = subst (λ k. IsPatternTerm Σ Ψ Γ (root k (open_spine (length Γ) S)) (base c)) e p in chosen_false (hidden (length Γ) F i) (pattern_arguments (bound (length Γ)) [] S ≡ true) (HavePatterns (bound (length Γ)) (hidden (length Γ) F) S) (not_hidden (length Γ) i e (hidden (length Γ) F i) refl) (h t s)
          by (inr (j, e)) h = at_outer Γ i j S c e v (subst (λ k. IsPatternTerm Σ Ψ Γ (root k (open_spine (length Γ) S)) (base c)) (opened_as (length Γ) i j e) p)

      have_patterns : (Γ : List Skeleton) (S : Spine) (t u : Skeleton) → MetavariablesInSpine (λ m. ⊥) S → ArePatternArguments Σ Ψ Γ (open_spine (length Γ) S) t u → HavePatterns (bound (length Γ)) (hidden (length Γ) F) S
      have_patterns Γ nil t u v p = tt
      have_patterns Γ (app M S) (arrow a b) u (v, w) (p, s) = (has_patterns Γ M a v p, have_patterns Γ S b u w s)
      have_patterns Γ (app M S) (base c) u v p = absurd p

    all_have : (Γ : List Skeleton) (Ms : List (Option Term)) → HaveSkeletons (constant_skeletons Σ) Γ Ms → ArgumentsArePatterns Σ Ψ Ms → AllHavePatterns nothing F Ms
    all_have Γ [] k h = tt
    all_have Γ (Some M ∷ Ms) ((a, m), k) ((t, p), h) = (has_patterns [] M t (plain Γ M a m) p, all_have Γ Ms k h)
    all_have Γ (None ∷ Ms) k h = all_have Γ Ms k h

pub pattern_case_has_patterns : PatternCaseHasPatterns
pattern_case_has_patterns Σ W C nb tc h = all_have Σ (context_metavariables (items_context C.items)) (free_among C.items) free _ C.arguments tc.arguments h.arguments
  where
    free : (j : ℕ) (A : LfType) → context_metavariables (items_context C.items) j ≡ Some A → free_among C.items j ≡ true
    free j A e = by (type_in (items_context C.items) j) refl e
      where
        by : (y : Option LfType) → type_in (items_context C.items) j ≡ y → open_some y ≡ Some A → free_among C.items j ≡ true
        by None q e = absurd cc
        by (Some X) q e = all_free C.items nb j X (found_type (items_context C.items) j X q)
