-- A metavariable that loses arguments which its value does not use: pruning, and two patterns of one metavariable.
use Rattle.std.proofs.Common.{◌≡◌, ℕ, zero, suc, List, [], ◌∷◌, Option, Some, refl, sym, ap, ◌∙◌, subst}
use Rattle.lf.specs.SkeletonTyping.{TermSkeleton}
use Rattle.lf.specs.Syntax.{Skeleton, Term, arrow, base, metavariable, rename, root}
use Rattle.lf_unification.specs.Filling.{fill, moved}
use Rattle.lf_unification.specs.Patterns.{InImage, FreeVariablesIn, PatternFits, extend_renaming, lambdas_of, past, pattern, pattern_renaming, context_under, skeleton_target}
use Rattle.lf_unification.specs.Skeletons.{TotalSkeletons, as_head_skeletons}
use Rattle.lf.specs.SkeletonTyping.{RenamingBySkeletons}
use Rattle.lf_unification.proofs.Eta.{argument_by_skeletons}
use Rattle.lf_unification.proofs.Inverse.{rename_agree, unren}
use Rattle.lf_unification.proofs.Patterns.{fill_lambdas, left_side}
use Rattle.lf_unification.proofs.Prune.{SkeletonsBack, TermSkeleton-unrename}
use Rattle.lf_unification.proofs.ToSkeletons.{SkeletonAt-once}

pub RenamingBySkeletons-pattern : (Γ Δ : List Skeleton) (t : Skeleton) (xs : List ℕ) (τ : ℕ → ℕ) → RenamingBySkeletons Γ Δ τ → PatternFits Δ t xs → RenamingBySkeletons (context_under t Γ) Δ (pattern_renaming t xs τ)
RenamingBySkeletons-pattern Γ Δ (base c) xs τ g p = g
RenamingBySkeletons-pattern Γ Δ (arrow a b) [] τ g p = absurd p
RenamingBySkeletons-pattern Γ Δ (arrow a b) (x ∷ xs) τ g (e, p) = RenamingBySkeletons-pattern (a ∷ Γ) Δ b xs (extend_renaming x τ) (argument_by_skeletons a x τ Γ Δ g e) p

pub SkeletonsBack-pattern : (Γ Δ : List Skeleton) (t : Skeleton) (xs : List ℕ) (τ : ℕ → ℕ) → SkeletonsBack Γ Δ τ → PatternFits Δ t xs → SkeletonsBack (context_under t Γ) Δ (pattern_renaming t xs τ)
SkeletonsBack-pattern Γ Δ (base c) xs τ g p = g
SkeletonsBack-pattern Γ Δ (arrow a b) [] τ g p = absurd p
SkeletonsBack-pattern Γ Δ (arrow a b) (x ∷ xs) τ g (e, p) = SkeletonsBack-pattern (a ∷ Γ) Δ b xs (extend_renaming x τ) back p
  where
    back : SkeletonsBack (a ∷ Γ) Δ (extend_renaming x τ)
    back zero t h = SkeletonAt-once Δ x a t e h
    back (suc i) t h = g i t h

pub RenamingBySkeletons-past : (t : Skeleton) (Γ : List Skeleton) → RenamingBySkeletons Γ (context_under t Γ) (past t)
RenamingBySkeletons-past (base c) Γ i u h = h
RenamingBySkeletons-past (arrow a b) Γ i u h = RenamingBySkeletons-past b (a ∷ Γ) (suc i) u h

pub SkeletonsBack-past : (t : Skeleton) (Γ : List Skeleton) → SkeletonsBack Γ (context_under t Γ) (past t)
SkeletonsBack-past (base c) Γ i u h = h
SkeletonsBack-past (arrow a b) Γ i u h = SkeletonsBack-past b (a ∷ Γ) (suc i) u h

module _ (κ : TotalSkeletons) where
  pub lambdas_skeletons : (t : Skeleton) (Γ : List Skeleton) (B : Term) → TermSkeleton (as_head_skeletons κ) Γ (lambdas_of t B) t → TermSkeleton (as_head_skeletons κ) (context_under t Γ) B (base (skeleton_target t))
  lambdas_skeletons (base c) Γ B m = m
  lambdas_skeletons (arrow a b) Γ B m = lambdas_skeletons b (a ∷ Γ) B m

  pub skeletons_lambdas : (t : Skeleton) (Γ : List Skeleton) (B : Term) → TermSkeleton (as_head_skeletons κ) (context_under t Γ) B (base (skeleton_target t)) → TermSkeleton (as_head_skeletons κ) Γ (lambdas_of t B) t
  skeletons_lambdas (base c) Γ B m = m
  skeletons_lambdas (arrow a b) Γ B m = skeletons_lambdas b (a ∷ Γ) B m

  -- n has the value W, whose body B uses only the arguments zs; n' is to take these alone
  module _ (Γ : List Skeleton) (n n' : ℕ) (zs : List ℕ) (W B : Term) (same : skeleton_target (κ.metavariable_skeleton n) ≡ skeleton_target (κ.metavariable_skeleton n')) (w : TermSkeleton (as_head_skeletons κ) Γ W (κ.metavariable_skeleton n)) (q : W ≡ lambdas_of (κ.metavariable_skeleton n) B) (z : PatternFits (context_under (κ.metavariable_skeleton n) Γ) (κ.metavariable_skeleton n') zs) where
    abbrev t : Skeleton
    t = κ.metavariable_skeleton n

    abbrev t' : Skeleton
    t' = κ.metavariable_skeleton n'

    abbrev kept : ℕ → ℕ
    kept = pattern_renaming t' zs (past t)

    pub shrink : FreeVariablesIn (InImage kept) B → (W' : Term) × TermSkeleton (as_head_skeletons κ) Γ W' t' × ((β : ℕ → Option Term) → β n' ≡ Some W' → W ≡ fill κ.metavariable_skeleton β (lambdas_of t (root (metavariable n') (pattern t' zs))))
    shrink o =
        let (B', r) = unren kept B o in
        let b : TermSkeleton (as_head_skeletons κ) (context_under t Γ) B (base (skeleton_target t)) = lambdas_skeletons t Γ B (subst (λ X. TermSkeleton (as_head_skeletons κ) Γ X t) q w) in
        let b' : TermSkeleton (as_head_skeletons κ) (context_under t' Γ) B' (base (skeleton_target t')) = TermSkeleton-unrename κ (context_under t' Γ) (context_under t Γ) kept B' (base (skeleton_target t')) (SkeletonsBack-pattern Γ (context_under t Γ) t' zs (past t) (SkeletonsBack-past t Γ) z) (subst (λ c. TermSkeleton (as_head_skeletons κ) (context_under t Γ) (rename kept B') (base c)) same (subst (λ X. TermSkeleton (as_head_skeletons κ) (context_under t Γ) X (base (skeleton_target t))) (sym r) b)) in
        let v' : TermSkeleton (as_head_skeletons κ) Γ (lambdas_of t' B') t' = skeletons_lambdas t' Γ B' b' in (
          lambdas_of t' B',
          v',
          λ β e.
              q ∙ ap (lambdas_of t) (sym r ∙ sym (left_side κ Γ (context_under t Γ) (past t) (RenamingBySkeletons-past t Γ) n' zs z β (lambdas_of t' B') e v' B' refl))
              ∙ sym (fill_lambdas κ.metavariable_skeleton t β (root (metavariable n') (pattern t' zs))),
        )

  -- one metavariable on two patterns: its body uses only the arguments at which they agree
  pub must_agree : (Γ Δ : List Skeleton) (τ : ℕ → ℕ) (g : RenamingBySkeletons Γ Δ τ) (m : ℕ) (xs ys : List ℕ) (p : PatternFits Δ (κ.metavariable_skeleton m) xs) (p' : PatternFits Δ (κ.metavariable_skeleton m) ys) (β : ℕ → Option Term) (V B : Term) (e : β m ≡ Some V) (v : TermSkeleton (as_head_skeletons κ) Γ V (κ.metavariable_skeleton m)) → V ≡ lambdas_of (κ.metavariable_skeleton m) B →
      fill κ.metavariable_skeleton (moved τ β) (root (metavariable m) (pattern (κ.metavariable_skeleton m) xs)) ≡ fill κ.metavariable_skeleton (moved τ β) (root (metavariable m) (pattern (κ.metavariable_skeleton m) ys)) →
      FreeVariablesIn (λ i. pattern_renaming (κ.metavariable_skeleton m) xs τ i ≡ pattern_renaming (κ.metavariable_skeleton m) ys τ i) B
  must_agree Γ Δ τ g m xs ys p p' β V B e v q h =
      let t : Skeleton = κ.metavariable_skeleton m in
      rename_agree (pattern_renaming t xs τ) (pattern_renaming t ys τ) B (sym (left_side κ Γ Δ τ g m xs p β V e v B q) ∙ h ∙ left_side κ Γ Δ τ g m ys p' β V e v B q)
