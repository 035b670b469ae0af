-- A metavariable applied to a pattern: application is renaming of the body, and inversion is its inverse.
use Rattle.std.proofs.Common.{◌≡◌, ℕ, zero, suc, List, [], ◌∷◌, Option, Some, None, refl, sym, ap, ap₂, ◌∙◌, subst}
use mathlib.Core.Path.{fun_ext}
use Rattle.lf.specs.Eta.{eta_expand, add_last}
use Rattle.lf.specs.Substitution.{reduce, single}
use Rattle.lf.specs.SkeletonTyping.{TermSkeleton}
use Rattle.lf.specs.Syntax.{Skeleton, Spine, Term, app, arrow, base, lambda, metavariable, nil, rename, rename_spine, root, lift_renaming, variable}
use Rattle.lf_unification.specs.Filling.{fill, fill_spine, moved, fill_metavariable, rename_value}
use Rattle.lf_unification.specs.Patterns.{Injective, PatternFits, eta_variable, extend_renaming, lambdas_of, past, pattern, pattern_renaming}
use Rattle.lf_unification.specs.Skeletons.{TotalSkeletons, as_head_skeletons}
use Rattle.lf.proofs.Renaming.{reduction_beta, renamings_compose, substitute_renamed}
use Rattle.lf.specs.SkeletonTyping.{RenamingBySkeletons}
use Rattle.lf_unification.proofs.Eta.{argument_fits, argument_like, argument_by_skeletons, rename_id, substituted_like}
use Rattle.lf_unification.proofs.Filling.{fill_rename, fill_rename_spine}
use Rattle.lf_unification.proofs.Inverse.{rename_injective}

-- filling does nothing to a pattern
pub fill_add : (μ : ℕ → Skeleton) (β : ℕ → Option Term) (S : Spine) (N : Term) → fill_spine μ β (add_last S N) ≡ add_last (fill_spine μ β S) (fill μ β N)
fill_add μ β nil N = refl
fill_add μ β (app M S) N = ap (app (fill μ β M)) (fill_add μ β S N)

pub fill_expand : (μ : ℕ → Skeleton) (a : Skeleton) (β : ℕ → Option Term) (x : ℕ) (S : Spine) → fill μ β (eta_expand a (variable x) S) ≡ eta_expand a (variable x) (fill_spine μ β S)
fill_expand μ (base c) β x S = refl
fill_expand μ (arrow a b) β x S = ap lambda (fill_expand μ b (moved suc β) (suc x) (add_last (rename_spine suc S) (eta_variable a zero))
    ∙ ap (eta_expand b (variable (suc x))) (fill_add μ (moved suc β) (rename_spine suc S) (eta_variable a zero) ∙ ap₂ add_last (sym (fill_rename_spine μ suc β S)) (fill_expand μ a (moved suc β) zero nil)))

pub fill_pattern : (μ : ℕ → Skeleton) (t : Skeleton) (β : ℕ → Option Term) (xs : List ℕ) → fill_spine μ β (pattern t xs) ≡ pattern t xs
fill_pattern μ (base c) β xs = refl
fill_pattern μ (arrow a b) β [] = refl
fill_pattern μ (arrow a b) β (x ∷ xs) = ap₂ app (fill_expand μ a β x nil) (fill_pattern μ b β xs)

pub moved_moved : (ρ τ : ℕ → ℕ) (β : ℕ → Option Term) → moved ρ (moved τ β) ≡ moved (λ i. ρ (τ i)) β
moved_moved ρ τ β = fun_ext (λ m. go (β m))
  where
    go : (x : Option Term) → rename_value ρ (rename_value τ x) ≡ rename_value (λ i. ρ (τ i)) x
    go None = refl
    go (Some N) = ap Some (renamings_compose ρ τ N)

pub moved_id : (β : ℕ → Option Term) → moved (λ i. i) β ≡ β
moved_id β = fun_ext (λ m. go (β m))
  where
    go : (x : Option Term) → rename_value (λ i. i) x ≡ x
    go None = refl
    go (Some N) = ap Some (rename_id N)

pub fill_lambdas : (μ : ℕ → Skeleton) (t : Skeleton) (β : ℕ → Option Term) (M : Term) → fill μ β (lambdas_of t M) ≡ lambdas_of t (fill μ (moved (past t) β) M)
fill_lambdas μ (base c) β M = ap (λ f. fill μ f M) (sym (moved_id β))
fill_lambdas μ (arrow a b) β M = ap lambda (fill_lambdas μ b (moved suc β) M ∙ ap (λ f. lambdas_of b (fill μ f M)) (moved_moved (past b) suc β))

pub past_rename : (Δ : List Skeleton) (t : Skeleton) (xs : List ℕ) (τ : ℕ → ℕ) (i : ℕ) → PatternFits Δ t xs → pattern_renaming t xs τ (past t i) ≡ τ i
past_rename Δ (base c) xs τ i p = refl
past_rename Δ (arrow a b) [] τ i p = absurd p
past_rename Δ (arrow a b) (x ∷ xs) τ i p = past_rename Δ b xs (extend_renaming x τ) (suc i) p.1

pub lambdas_injective : (t : Skeleton) (M N : Term) → lambdas_of t M ≡ lambdas_of t N → M ≡ N
lambdas_injective (base c) M N e = e
lambdas_injective (arrow a b) M N e = lambdas_injective b M N cc

module _ (κ : TotalSkeletons) where
  -- a term of a skeleton has the lambdas of that skeleton
  pub body : (Γ : List Skeleton) (t : Skeleton) (V : Term) → TermSkeleton (as_head_skeletons κ) Γ V t → (M : Term) × (V ≡ lambdas_of t M)
  body Γ (base c) V v = (V, refl)
  body Γ (arrow a b) (root h S) v = absurd v
  body Γ (arrow a b) (lambda V) v = let (M, e) = body (a ∷ Γ) b V v in (M, ap lambda e)

  -- a term applied to a pattern is its body, renamed
  pub apply_pattern : (t : Skeleton) (Γ Δ : List Skeleton) (τ : ℕ → ℕ) (xs : List ℕ) (M : Term) → RenamingBySkeletons Γ Δ τ → PatternFits Δ t xs → TermSkeleton (as_head_skeletons κ) Γ (lambdas_of t M) t → reduce t (rename τ (lambdas_of t M)) (pattern t xs) ≡ rename (pattern_renaming t xs τ) M
  apply_pattern (base c) Γ Δ τ xs M g p m = refl
  apply_pattern (arrow a b) Γ Δ τ [] M g p m = absurd p
  apply_pattern (arrow a b) Γ Δ τ (x ∷ xs) M g (e, p) m =
      let L : Term = lambdas_of b M in
      reduction_beta a b (rename (lift_renaming τ) L) (eta_variable a x) (pattern b xs)
      ∙ ap (λ z. reduce b z (pattern b xs)) (substitute_renamed reduce (single a (eta_variable a x)) (lift_renaming τ) L ∙ substituted_like (as_head_skeletons κ) (a ∷ Γ) Δ (λ i. single a (eta_variable a x) (lift_renaming τ i)) (extend_renaming x τ) L b (argument_like a x τ) (argument_fits a x τ Γ) (argument_by_skeletons a x τ Γ Δ g e) m)
      ∙ apply_pattern b (a ∷ Γ) Δ (extend_renaming x τ) xs M (argument_by_skeletons a x τ Γ Δ g e) p m

  -- Γ is the outer context and Δ the equation's, τ moves the one into the other; m has the value V.
  module _ (Γ Δ : List Skeleton) (τ : ℕ → ℕ) (g : RenamingBySkeletons Γ Δ τ) (m : ℕ) (xs : List ℕ) (p : PatternFits Δ (κ.metavariable_skeleton m) xs) (β : ℕ → Option Term) (V : Term) (e : β m ≡ Some V) (v : TermSkeleton (as_head_skeletons κ) Γ V (κ.metavariable_skeleton m)) where
    abbrev μ : ℕ → Skeleton
    μ = κ.metavariable_skeleton

    abbrev ρ : ℕ → ℕ
    ρ = pattern_renaming (μ m) xs τ

    pub left_side : (M : Term) → V ≡ lambdas_of (μ m) M → fill μ (moved τ β) (root (metavariable m) (pattern (μ m) xs)) ≡ rename ρ M
    left_side M q = ap₂ (fill_metavariable (μ m) m) (ap (rename_value τ) (e ∙ ap Some q)) (fill_pattern μ (μ m) (moved τ β) xs) ∙ apply_pattern (μ m) Γ Δ τ xs M g p (subst (λ X. TermSkeleton (as_head_skeletons κ) Γ X (μ m)) q v)

    right_side : (N : Term) → fill μ (moved τ β) (rename ρ N) ≡ rename ρ (fill μ (moved (past (μ m)) β) N)
    right_side N = ap (λ f. fill μ f (rename ρ N)) (ap (λ f. moved f β) (fun_ext (λ i. sym (past_rename Δ (μ m) xs τ i p))) ∙ sym (moved_moved ρ (past (μ m)) β)) ∙ sym (fill_rename μ ρ (moved (past (μ m)) β) N)

    -- Binding: where the other side is inverted, the equation says exactly that the value is the inversion.
    pub bind_complete : Injective ρ → (N : Term) → fill μ (moved τ β) (root (metavariable m) (pattern (μ m) xs)) ≡ fill μ (moved τ β) (rename ρ N) → V ≡ fill μ β (lambdas_of (μ m) N)
    bind_complete inj N h =
        let (M, q) = body Γ (μ m) V v in
        q ∙ ap (lambdas_of (μ m)) (rename_injective ρ inj M (fill μ (moved (past (μ m)) β) N) (sym (left_side M q) ∙ h ∙ right_side N)) ∙ sym (fill_lambdas μ (μ m) β N)

    pub bind_sound : (N : Term) → V ≡ fill μ β (lambdas_of (μ m) N) → fill μ (moved τ β) (root (metavariable m) (pattern (μ m) xs)) ≡ fill μ (moved τ β) (rename ρ N)
    bind_sound N h = left_side (fill μ (moved (past (μ m)) β) N) (h ∙ fill_lambdas μ (μ m) β N) ∙ sym (right_side N)
