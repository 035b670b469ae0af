-- Typing goes back through an injective renaming: strengthening.
use Rattle.std.proofs.Common.{◌≡◌, ℕ, zero, suc, List, [], ◌∷◌, refl, sym, ap, ◌∙◌, subst}
use Rattle.lf.specs.Substitution.{reduce, single, substitute_kind}
use Rattle.lf.specs.Syntax.{Kind, Spine, Term, LfType, app, atom, constant, kind_pi, lambda, metavariable, nil, pi, rename, rename_kind, rename_spine, rename_type, root, skeleton, star, lift_renaming, variable, weaken}
use Rattle.lf.specs.Typing.{TypeAt, SpineFitsKind, SpineType, HasType, IsContext, IsSignature, IsType, Signature, instantiate_kind, instantiate_type}
use Rattle.lf_unification.specs.Patterns.{Injective}
use Rattle.lf.proofs.Closed.{closed_type_renamed, closed_kind_renamed}
use Rattle.lf.proofs.Strength.{rename_instance}
use Rattle.lf.proofs.TypeLaws.{rename_single_kind, rename_weakened, skeleton_renamed}
use Rattle.lf_unification.proofs.Inverse.{rename_injective_type, up_injective}

-- what G has at a renamed variable is a renamed type of G'
abbrev pub Back : List LfType → List LfType → (ℕ → ℕ) → Type 0
Back G' G ρ = (i : ℕ) (X : LfType) → TypeAt G (ρ i) X → (Y : LfType) × TypeAt G' i Y × (X ≡ rename_type ρ Y)

pub Back-lift_renaming : (G' G : List LfType) (ρ : ℕ → ℕ) (A : LfType) → Back G' G ρ → Back (A ∷ G') (rename_type ρ A ∷ G) (lift_renaming ρ)
Back-lift_renaming G' G ρ A h zero X e = (weaken A, refl, e ∙ sym (rename_weakened ρ A))
Back-lift_renaming G' G ρ A h (suc i) X (C, g, e) = let (Y, k, q) = h i C g in (weaken Y, (Y, k, refl), e ∙ ap weaken q ∙ sym (rename_weakened ρ Y))

module _ (Σ : Signature) (ok : IsSignature Σ) where
  mutual
    pub HasType-unrename : (G' G : List LfType) (ρ : ℕ → ℕ) (M : Term) (A : LfType) → Injective ρ → Back G' G ρ → HasType Σ G (rename ρ M) (rename_type ρ A) → HasType Σ G' M A
    HasType-unrename G' G ρ (lambda M) (pi A B) i h m = HasType-unrename (A ∷ G') (rename_type ρ A ∷ G) (lift_renaming ρ) M B (up_injective ρ i) (Back-lift_renaming G' G ρ A h) m
    HasType-unrename G' G ρ (lambda M) (atom a T) i h m = m
    HasType-unrename G' G ρ (root k S) (pi A B) i h m = m
    HasType-unrename G' G ρ (root (constant c) S) (atom a T) i h (A, e, s) = (A, e, SpineType-unrename G' G ρ S A (atom a T) i h (subst (λ X. SpineType Σ G (rename_spine ρ S) X (rename_type ρ (atom a T))) (sym (closed_type_renamed Σ ρ A (ok.types_ok c A e))) s))
    HasType-unrename G' G ρ (root (variable j) S) (atom a T) i h (X, g, s) = let (Y, k, q) = h j X g in (Y, k, SpineType-unrename G' G ρ S Y (atom a T) i h (subst (λ X. SpineType Σ G (rename_spine ρ S) X (rename_type ρ (atom a T))) q s))
    HasType-unrename G' G ρ (root (metavariable m) S) (atom a T) i h (A, g, s) = absurd g

    pub SpineType-unrename : (G' G : List LfType) (ρ : ℕ → ℕ) (S : Spine) (A C : LfType) → Injective ρ → Back G' G ρ → SpineType Σ G (rename_spine ρ S) (rename_type ρ A) (rename_type ρ C) → SpineType Σ G' S A C
    SpineType-unrename G' G ρ nil A C i h e = rename_injective_type ρ i A C e
    SpineType-unrename G' G ρ (app M S) (pi A B) C i h (m, s) = (HasType-unrename G' G ρ M A i h m, SpineType-unrename G' G ρ S (instantiate_type A M B) C i h (subst (λ X. SpineType Σ G (rename_spine ρ S) X (rename_type ρ C)) (sym (rename_instance ρ A M B)) s))
    SpineType-unrename G' G ρ (app M S) (atom a T) C i h s = s

  SpineFitsKind-unrename : (G' G : List LfType) (ρ : ℕ → ℕ) (S : Spine) (K : Kind) → Injective ρ → Back G' G ρ → SpineFitsKind Σ G (rename_spine ρ S) (rename_kind ρ K) → SpineFitsKind Σ G' S K
  SpineFitsKind-unrename G' G ρ nil (kind_pi A K) i h s = s
  SpineFitsKind-unrename G' G ρ nil star i h s = s
  SpineFitsKind-unrename G' G ρ (app M S) (kind_pi A K) i h (m, s) = (HasType-unrename G' G ρ M A i h m, SpineFitsKind-unrename G' G ρ S (instantiate_kind A M K) i h (subst (SpineFitsKind Σ G (rename_spine ρ S)) (sym (rename_single_kind ρ (skeleton A) M K ∙ ap (λ t. substitute_kind reduce (single t (rename ρ M)) (rename_kind (lift_renaming ρ) K)) (sym (skeleton_renamed ρ A)))) s))
  SpineFitsKind-unrename G' G ρ (app M S) star i h s = s

  pub IsType-unrename : (G' G : List LfType) (ρ : ℕ → ℕ) (A : LfType) → Injective ρ → Back G' G ρ → IsType Σ G (rename_type ρ A) → IsType Σ G' A
  IsType-unrename G' G ρ (pi A B) i h (a, b) = (IsType-unrename G' G ρ A i h a, IsType-unrename (A ∷ G') (rename_type ρ A ∷ G) (lift_renaming ρ) B (up_injective ρ i) (Back-lift_renaming G' G ρ A h) b)
  IsType-unrename G' G ρ (atom a S) i h (K, e, s) = (K, e, SpineFitsKind-unrename G' G ρ S K i h (subst (SpineFitsKind Σ G (rename_spine ρ S)) (sym (closed_kind_renamed Σ ρ K (ok.kinds_ok a K e))) s))

  -- a context each of whose types is typed in the whole of it is a context
  pub is_context : (F : List LfType) → ((i : ℕ) (A : LfType) → TypeAt F i A → IsType Σ F A) → IsContext Σ F
  is_context [] h = tt
  is_context (B ∷ F) h = (is_context F (λ i A g. IsType-unrename F (B ∷ F) suc A (λ i j e. cc) (λ i X g. g) (h (suc i) (weaken A) (A, g, refl))), IsType-unrename F (B ∷ F) suc B (λ i j e. cc) (λ i X g. g) (h zero (weaken B) refl))
