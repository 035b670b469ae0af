-- More on eta-long heads: at the end of a spine, and in every context.
use Rattle.std.proofs.Common.{◌≡◌, ℕ, zero, suc, List, ◌∷◌, refl, sym, ap, ap₂, ◌∙◌, subst}
use Rattle.lf.specs.Eta.{add_last}
use Rattle.lf.specs.Substitution.{Image, reduce, single, substitute, substitute_spine}
use Rattle.lf.specs.SkeletonTyping.{SkeletonAt, HeadSkeleton, SpineSkeleton, TermSkeleton, HeadSkeletons}
use Rattle.lf.specs.Syntax.{Head, Skeleton, Spine, Term, LfType, app, arrow, base, constant, lambda, metavariable, nil, rename, rename_head, rename_spine, rename_type, root, lift_renaming, variable}
use Rattle.lf_unification.specs.Patterns.{eta_variable, extend_renaming}
use Rattle.lf.proofs.Eta.{EtaLike, Fits, eta_both, eta_expand_has_skeleton, eta_rename_spine, eta_renames, reduce_nil}
use Rattle.lf.proofs.Renaming.{reduction_beta, substitute_identity, substitute_renamed}
use Rattle.lf.specs.SkeletonTyping.{RenamingBySkeletons}
use Rattle.lf.proofs.SkeletonTyping.{single_by_skeletons, substitution_keeps_skeletons}
use Rattle.lf.proofs.TypeLaws.{substitution_as_renaming, substitution_as_renaming_type, substitute_identity_type}

pub rename_add_last : (ρ : ℕ → ℕ) (S : Spine) (N : Term) → rename_spine ρ (add_last S N) ≡ add_last (rename_spine ρ S) (rename ρ N)
rename_add_last ρ nil N = refl
rename_add_last ρ (app M S) N = ap (app (rename ρ M)) (rename_add_last ρ S N)

pub rename_id : (M : Term) → rename (λ i. i) M ≡ M
rename_id M = sym (substitution_as_renaming reduce (λ i. i) M) ∙ substitute_identity reduce M

pub rename_id_type : (A : LfType) → rename_type (λ i. i) A ≡ A
rename_id_type A = sym (substitution_as_renaming_type reduce (λ i. i) A) ∙ substitute_identity_type reduce A

module _ (κ : HeadSkeletons) where
  pub SpineSkeleton-add_last : (Δ : List Skeleton) (S : Spine) (X : Term) (t a b : Skeleton) → SpineSkeleton κ Δ S t (arrow a b) → TermSkeleton κ Δ X a → SpineSkeleton κ Δ (add_last S X) t b
  SpineSkeleton-add_last Δ nil X t a b s x = subst (λ z. SpineSkeleton κ Δ (app X nil) z b) (sym s) (x, refl)
  SpineSkeleton-add_last Δ (app M S) X (arrow c d) a b (m, s) x = (m, SpineSkeleton-add_last Δ S X d a b s x)
  SpineSkeleton-add_last Δ (app M S) X (base c) a b s x = absurd s

  pub HeadSkeleton-weak : (Γ : List Skeleton) (a : Skeleton) (h : Head) (t : Skeleton) → HeadSkeleton κ Γ h t → HeadSkeleton κ (a ∷ Γ) (rename_head suc h) t
  HeadSkeleton-weak Γ a (constant c) t g = g
  HeadSkeleton-weak Γ a (variable i) t g = g
  HeadSkeleton-weak Γ a (metavariable m) t g = g

  pub skeletons_zero : (b : Skeleton) (Γ : List Skeleton) → TermSkeleton κ (b ∷ Γ) (eta_variable b zero) b
  skeletons_zero b Γ = eta_expand_has_skeleton κ b b (b ∷ Γ) (variable zero) nil refl refl

  -- `reduce` on a longer spine
  pub reduce_add_last : (t : Skeleton) (Δ : List Skeleton) (N : Term) (S : Spine) (X : Term) (a b : Skeleton) → TermSkeleton κ Δ N t → SpineSkeleton κ Δ S t (arrow a b) → reduce t N (add_last S X) ≡ reduce (arrow a b) (reduce t N S) (app X nil)
  reduce_add_last t Δ N nil X a b n s = ap₂ (λ u Y. reduce u Y (app X nil)) s (sym (reduce_nil t N))
  reduce_add_last (base c) Δ N (app M S) X a b n s = absurd s
  reduce_add_last (arrow c d) Δ (root h T) (app M S) X a b n s = absurd n
  reduce_add_last (arrow c d) Δ (lambda N) (app M S) X a b n (m, s) = reduction_beta c d N M (add_last S X) ∙ reduce_add_last d Δ (substitute reduce (single c M) N) S X a b (substitution_keeps_skeletons κ (c ∷ Δ) Δ (single c M) N d (single_by_skeletons κ c Δ M m) n) s ∙ ap (λ Y. reduce (arrow a b) Y (app X nil)) (sym (reduction_beta c d N M S))

  -- Eta-long variables put in for variables rename.
  pub substituted_like : (Γ Δ : List Skeleton) (σ : ℕ → Image) (ρ : ℕ → ℕ) (M : Term) (t : Skeleton) → EtaLike (λ c. Unit {0}) σ ρ → Fits Γ σ → RenamingBySkeletons Γ Δ ρ → TermSkeleton κ Γ M t → substitute reduce σ M ≡ rename ρ M
  substituted_like = eta_renames κ

  pub substituted_like_spine : (Γ Δ : List Skeleton) (σ : ℕ → Image) (ρ : ℕ → ℕ) (S : Spine) (t u : Skeleton) → EtaLike (λ c. Unit {0}) σ ρ → Fits Γ σ → RenamingBySkeletons Γ Δ ρ → SpineSkeleton κ Γ S t u → substitute_spine reduce σ S ≡ rename_spine ρ S
  substituted_like_spine = eta_rename_spine κ (λ c. Unit {0}) (λ c e. (eta_both κ c).0)

  -- the newest variable for itself
  pub self_like : (a : Skeleton) → EtaLike (λ c. Unit {0}) (λ i. single a (eta_variable a zero) (lift_renaming suc i)) (λ i. i)
  self_like a zero = (tt, refl)
  self_like a (suc i) = refl

  pub self_fits : (a : Skeleton) (Γ : List Skeleton) → Fits (a ∷ Γ) (λ i. single a (eta_variable a zero) (lift_renaming suc i))
  self_fits a Γ zero t e = e
  self_fits a Γ (suc i) t e = tt

  -- eta of a term
  pub eta_reduced : (a b : Skeleton) (Δ : List Skeleton) (Y : Term) → TermSkeleton κ Δ Y (arrow a b) → lambda (reduce (arrow a b) (rename suc Y) (app (eta_variable a zero) nil)) ≡ Y
  eta_reduced a b Δ (root h S) y = absurd y
  eta_reduced a b Δ (lambda M) y = ap lambda (reduction_beta a b (rename (lift_renaming suc) M) (eta_variable a zero) nil ∙ reduce_nil b (substitute reduce (single a (eta_variable a zero)) (rename (lift_renaming suc) M)) ∙ substitute_renamed reduce (single a (eta_variable a zero)) (lift_renaming suc) M ∙ substituted_like (a ∷ Δ) (a ∷ Δ) (λ i. single a (eta_variable a zero) (lift_renaming suc i)) (λ i. i) M b (self_like a) (self_fits a Δ) (λ i t g. g) y ∙ rename_id M)

-- a variable put in for the newest one, with the others moved by τ
pub argument_like : (a : Skeleton) (x : ℕ) (τ : ℕ → ℕ) → EtaLike (λ c. Unit {0}) (λ i. single a (eta_variable a x) (lift_renaming τ i)) (extend_renaming x τ)
argument_like a x τ zero = (tt, refl)
argument_like a x τ (suc i) = refl

pub argument_fits : (a : Skeleton) (x : ℕ) (τ : ℕ → ℕ) (Γ : List Skeleton) → Fits (a ∷ Γ) (λ i. single a (eta_variable a x) (lift_renaming τ i))
argument_fits a x τ Γ zero t e = e
argument_fits a x τ Γ (suc i) t e = tt

pub argument_by_skeletons : (a : Skeleton) (x : ℕ) (τ : ℕ → ℕ) (Γ Δ : List Skeleton) → RenamingBySkeletons Γ Δ τ → SkeletonAt Δ x a → RenamingBySkeletons (a ∷ Γ) Δ (extend_renaming x τ)
argument_by_skeletons a x τ Γ Δ g e zero t h = subst (SkeletonAt Δ x) h e
argument_by_skeletons a x τ Γ Δ g e (suc i) t h = g i t h
