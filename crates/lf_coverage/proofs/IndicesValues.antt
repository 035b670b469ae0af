-- What is read off a solved store keeps what the existential variables in types are applied to.
use Rattle.std.proofs.Common.{◌≡◌, ℕ, zero, suc, ◌⊎◌, List, [], ◌∷◌, inl, inr, length, refl, sym, ap, ap₂, ◌∙◌, subst}
use Rattle.std.specs.Prelude.{Bool, true, false, Option, Some, None}
use Rattle.lf.specs.Eta.{eta_expand}
use Rattle.lf.specs.SkeletonTyping.{SkeletonAt, TermSkeleton}
use Rattle.lf.specs.Skeletons.{context_skeletons}
use Rattle.lf.specs.Syntax.{constant, variable, metavariable, Term, Spine, lambda, root, nil, app, LfType, pi, atom, Skeleton, base, arrow, skeleton}
use Rattle.lf.specs.Typing.{Signature, IsSignature}
use Rattle.lf.specs.Variables.{hide, nothing, under}
use Rattle.lf.proofs.Checker.{both_of}
use Rattle.lf_checks.specs.Strict.{pattern_arguments}
use Rattle.lf_checks.proofs.EtaTest.{both_l, both_r}
use Rattle.lf_unification.specs.Dependency.{IsDependencyOrder, IsListed, ListedMetavariable, free_context, values}
use Rattle.lf_unification.specs.Filling.{fill, fill_spine, fill_type, moved}
use Rattle.lf_unification.specs.OpenTyping.{MetavariablesIn, MetavariablesInSpine, MetavariablesInType, skeletons_of}
use Rattle.lf_unification.specs.Patterns.{skeleton_target}
use Rattle.lf_unification.specs.Skeletons.{TotalSkeletons, as_head_skeletons, total_skeletons}
use Rattle.lf_unification.proofs.Generic.{ordered_at, stage}
use Rattle.lf_unification.proofs.Patterns.{fill_pattern, moved_id, moved_moved}
use Rattle.lf_coverage.specs.Indices.{head_has_patterns, item_has_patterns, spine_has_patterns, takes, term_has_patterns}
use Rattle.lf_coverage.specs.PatternStores.{ArePatternArguments, IsPatternTerm, IsPatternType, TypesArePatterns}
use Rattle.lf_coverage.specs.SplitStore.{context_metavariables, open_some, open_spine, open_term, open_type, open_variable, type_in}
use Rattle.lf_coverage.specs.TermMatching.{over}
use Rattle.lf_coverage.proofs.IndicesCore.{body_has}
use Rattle.lf_coverage.proofs.IndicesRenamed.{choice, chosen, passed_over, takes_newer}
use Rattle.lf_coverage.proofs.IndicesSteps.{NoneOutside, TypesHave}
use Rattle.lf_coverage.proofs.IndicesTests.{Passes, passes_from}
use Rattle.lf_coverage.proofs.IndicesTyped.{newer_stays}
use Rattle.lf_coverage.proofs.PatternValues.{ValuesArePatterns, bound_stays, fills, have_all, on_variables, open_expand}
use Rattle.lf_coverage.proofs.StoreSolution.{found_type}

first_of : {M N : Term} {S T : Spine} → app M S ≡ app N T → M ≡ N
first_of e = cc

-- bound variables stay
passes_filled : (μ : ℕ → Skeleton) (β : ℕ → Option Term) (k : ℕ) (R : ℕ → Bool) (seen : List ℕ) (S : Spine) → ((y : ℕ) → R y ≡ true → open_variable k y ≡ variable y) → Passes R seen S → open_spine k (fill_spine μ β S) ≡ S
passes_filled μ β k R seen nil h p = refl
passes_filled μ β k R seen (app M S) h (y, b, q, r, f, p) = ap₂ app (ap (λ N. open_term k (fill μ β N)) q ∙ ap (open_term k) (first_of (fill_pattern μ (arrow b (base zero)) β (y ∷ []))) ∙ open_expand k b y nil ∙ ap (λ g. eta_expand b g nil) (h y r) ∙ sym q) (passes_filled μ β k R (y ∷ seen) S h p)

module _ (Σ : Signature) (Ψ Φ : ℕ → Option LfType) (Δ : List Skeleton) (β : ℕ → Option Term) (κ : TotalSkeletons) (V : ℕ → Type 0) (value_fits : (m : ℕ) (A : LfType) (N : Term) → V m → Ψ m ≡ Some A → β m ≡ Some N → TermSkeleton (as_head_skeletons κ) Δ N (skeleton A)) (have : (m : ℕ) (A : LfType) → V m → Ψ m ≡ Some A → (N : Term) × (β m ≡ Some N) × IsPatternTerm Σ Φ [] (open_term zero N) (skeleton A)) where
  abbrev μ : ℕ → Skeleton
  μ = skeletons_of Ψ

  abbrev read : List Skeleton → Term → Term
  read Γ M = open_term (length Γ) (fill μ (moved (over (length Γ)) β) M)

  abbrev read_spine : List Skeleton → Spine → Spine
  read_spine Γ S = open_spine (length Γ) (fill_spine μ (moved (over (length Γ)) β) S)

  variable_filled : (Γ : List Skeleton) (E : ℕ → Bool) (i : ℕ) (t : Skeleton) (S : Spine) → SkeletonAt Γ i t → (spine_has_patterns E S ≡ true → spine_has_patterns E (read_spine Γ S) ≡ true) → ((E i ≡ true) × (pattern_arguments (takes E i) [] S ≡ true)) ⊎ ((E i ≡ false) × (spine_has_patterns E S ≡ true)) → term_has_patterns E (root (open_variable (length Γ) i) (read_spine Γ S)) ≡ true
  variable_filled Γ E i t S g h x = subst (λ k. term_has_patterns E (root k (read_spine Γ S)) ≡ true) (sym (bound_stays Γ i t g)) (by x)
    where
      by : ((E i ≡ true) × (pattern_arguments (takes E i) [] S ≡ true)) ⊎ ((E i ≡ false) × (spine_has_patterns E S ≡ true)) → term_has_patterns E (root (variable i) (read_spine Γ S)) ≡ true
      by (inl (u, e)) = chosen (E i) (pattern_arguments (takes E i) [] (read_spine Γ S)) (spine_has_patterns E (read_spine Γ S)) u (subst (λ T. pattern_arguments (takes E i) [] T ≡ true) (sym (passes_filled μ (moved (over (length Γ)) β) (length Γ) (takes E i) [] S (λ y r. newer_stays Γ i y t g (takes_newer E i y r)) (passes_from (takes E i) [] S e))) e)
      by (inr (u, e)) = passed_over (E i) (pattern_arguments (takes E i) [] (read_spine Γ S)) (spine_has_patterns E (read_spine Γ S)) u (h e)

  mutual
    filled_has : (Γ : List Skeleton) (E : ℕ → Bool) → NoneOutside Γ E → (M : Term) (t : Skeleton) → MetavariablesIn V M → IsPatternTerm Σ Ψ Γ M t → term_has_patterns E M ≡ true → term_has_patterns E (read Γ M) ≡ true
    filled_has Γ E o (lambda M) (arrow a b) v p e = subst (λ f. term_has_patterns (hide E) (open_term (suc (length Γ)) (fill μ f M)) ≡ true) (sym (moved_moved suc (over (length Γ)) β)) (filled_has (a ∷ Γ) (hide E) o M b v p e)
    filled_has Γ E o (lambda M) (base c) v p e = absurd p
    filled_has Γ E o (root h S) (arrow a b) v p e = absurd p
    filled_has Γ E o (root (constant k) S) (base c) v (t, g, s) e = filled_spine_has Γ E o S t (base c) v s e
    filled_has Γ E o (root (variable i) S) (base c) v (t, g, s) e = variable_filled Γ E i t S g (filled_spine_has Γ E o S t (base c) v s) (choice (E i) (pattern_arguments (takes E i) [] S) (spine_has_patterns E S) e)
    filled_has Γ E o (root (metavariable m) S) (base c) (v, w) (A, g, q, d) e = let (W, is, x) = on_variables Σ Ψ Φ Δ β κ V value_fits have Γ m A S v g d in subst (λ M. term_has_patterns E M ≡ true) (sym is) (body_has Σ Φ Γ E o (skeleton A) S d e W (skeleton_target (skeleton A)) x)

    filled_spine_has : (Γ : List Skeleton) (E : ℕ → Bool) → NoneOutside Γ E → (S : Spine) (t u : Skeleton) → MetavariablesInSpine V S → ArePatternArguments Σ Ψ Γ S t u → spine_has_patterns E S ≡ true → spine_has_patterns E (read_spine Γ S) ≡ true
    filled_spine_has Γ E o nil t u v p e = refl
    filled_spine_has Γ E o (app M S) (arrow a b) u (v, w) (p, s) e = both_of (term_has_patterns E (read Γ M)) (spine_has_patterns E (read_spine Γ S)) (filled_has Γ E o M a v p (both_l (term_has_patterns E M) (spine_has_patterns E S) e)) (filled_spine_has Γ E o S b u w s (both_r (term_has_patterns E M) (spine_has_patterns E S) e))
    filled_spine_has Γ E o (app M S) (base c) u v p e = absurd p

  abbrev read_type : List Skeleton → LfType → LfType
  read_type Γ A = open_type (length Γ) (fill_type μ (moved (over (length Γ)) β) A)

  mutual
    filled_item : (Γ : List Skeleton) (E : ℕ → Bool) → NoneOutside Γ E → (A : LfType) → MetavariablesInType V A → IsPatternType Σ Ψ Γ A → item_has_patterns E A ≡ true → item_has_patterns E (read_type Γ A) ≡ true
    filled_item Γ E o (pi A B) (v, w) (a, b) e = both_of (head_has_patterns E (read_type Γ A)) (item_has_patterns (hide E) (open_type (suc (length Γ)) (fill_type μ (moved suc (moved (over (length Γ)) β)) B))) (filled_head Γ E o A v a (both_l (head_has_patterns E A) (item_has_patterns (hide E) B) e)) (subst (λ f. item_has_patterns (hide E) (open_type (suc (length Γ)) (fill_type μ f B)) ≡ true) (sym (moved_moved suc (over (length Γ)) β)) (filled_item (skeleton A ∷ Γ) (hide E) o B w b (both_r (head_has_patterns E A) (item_has_patterns (hide E) B) e)))
    filled_item Γ E o (atom a S) v (t, g, s) e = filled_spine_has Γ E o S t (base a) v s e

    filled_head : (Γ : List Skeleton) (E : ℕ → Bool) → NoneOutside Γ E → (A : LfType) → MetavariablesInType V A → IsPatternType Σ Ψ Γ A → head_has_patterns E A ≡ true → head_has_patterns E (read_type Γ A) ≡ true
    filled_head Γ E o (pi A B) (v, w) (a, b) e = both_of (item_has_patterns E (read_type Γ A)) (head_has_patterns (under E) (open_type (suc (length Γ)) (fill_type μ (moved suc (moved (over (length Γ)) β)) B))) (filled_item Γ E o A v a (both_l (item_has_patterns E A) (head_has_patterns (under E) B) e)) (subst (λ f. head_has_patterns (under E) (open_type (suc (length Γ)) (fill_type μ f B)) ≡ true) (sym (moved_moved suc (over (length Γ)) β)) (filled_head (skeleton A ∷ Γ) (under E) o B w b (both_r (item_has_patterns E A) (head_has_patterns (under E) B) e)))
    filled_head Γ E o (atom a S) v (t, g, s) e = filled_spine_has Γ E o S t (base a) v s e

  -- in the empty context
  pub filled_closed_item : (A : LfType) → MetavariablesInType V A → IsPatternType Σ Ψ [] A → item_has_patterns nothing A ≡ true → item_has_patterns nothing (open_type zero (fill_type μ β A)) ≡ true
  filled_closed_item A v p e = subst (λ f. item_has_patterns nothing (open_type zero (fill_type μ f A)) ≡ true) (moved_id β) (filled_item [] nothing (λ j. refl) A v p e)

-- the types of what stays free
module _ (Σ : Signature) (ok : IsSignature Σ) (Ψ : ℕ → Option LfType) (U : (ℕ → Option Term) → Type 0) (order : List ListedMetavariable) (is_order : IsDependencyOrder Σ Ψ U order) (ps : ValuesArePatterns Σ ok Ψ U order is_order order) where
  some_same : {X Y : LfType} → Some X ≡ Some Y → X ≡ Y
  some_same e = cc

  pub types_read_have : TypesArePatterns Σ Ψ → TypesHave Ψ → TypesHave (context_metavariables (free_context (skeletons_of Ψ) order))
  types_read_have h x i A e = by (type_in (free_context (skeletons_of Ψ) order) i) refl e
    where
      by : (y : Option LfType) → type_in (free_context (skeletons_of Ψ) order) i ≡ y → open_some y ≡ Some A → item_has_patterns nothing A ≡ true
      by None q e = absurd cc
      by (Some X) q e =
          let (m, B, l, d, y) = (stage Σ (skeletons_of Ψ) ok Ψ U order is_order).entries i X (found_type (free_context (skeletons_of Ψ) order) i X q) in
          let (B', d', v, t, c) = ordered_at Σ (skeletons_of Ψ) ok Ψ U order is_order m l in
          let b : B' ≡ B = some_same (sym d' ∙ d) in
          subst (λ Z. item_has_patterns nothing Z ≡ true) (ap (open_type zero) (sym y) ∙ some_same e) (filled_closed_item Σ Ψ (context_metavariables (free_context (skeletons_of Ψ) order)) (context_skeletons (free_context (skeletons_of Ψ) order)) (values (skeletons_of Ψ) order) (total_skeletons Σ (skeletons_of Ψ)) (IsListed order) (λ k B M l. fills Σ ok Ψ U order is_order k B M) (have_all Σ ok Ψ U order is_order ps) B (subst (MetavariablesInType (IsListed order)) b v) (h m B d) (x m B d))
