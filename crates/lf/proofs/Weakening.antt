-- Weakening: typing is kept by every renaming of one context into another.
use Rattle.std.proofs.Common.{◌≡◌, ℕ, zero, suc, List, [], ◌∷◌, Some, refl, sym, ap, ◌∙◌, subst}
use Rattle.lf.specs.Syntax.{Head, constant, variable, metavariable, Term, Spine, lambda, root, nil, app, LfType, Kind, pi, atom, kind_pi, star, skeleton, lift_renaming, rename_head, rename, rename_spine, rename_type, rename_kind}
use Rattle.lf.specs.Substitution.{single, substitute_type, substitute_kind, reduce}
use Rattle.lf.specs.Typing.{Signature, TypeAt, HeadHasType, instantiate_type, instantiate_kind, HasType, SpineType, SpineFitsKind, IsType, IsKind, IsContext, IsSignature, IsTypedRenaming}
use Rattle.lf.proofs.TypeLaws.{skeleton_renamed, rename_single_type, rename_single_kind, rename_weakened}
use Rattle.lf.proofs.Closed.{closed_type_renamed, closed_kind_renamed}

pub renames_under_binder : (G D : List LfType) (ρ : ℕ → ℕ) (B : LfType) → IsTypedRenaming G D ρ → IsTypedRenaming (B ∷ G) (rename_type ρ B ∷ D) (lift_renaming ρ)
renames_under_binder G D ρ B h zero A e = ap (rename_type (lift_renaming ρ)) e ∙ rename_weakened ρ B
renames_under_binder G D ρ B h (suc i) A (C, g, e) = (rename_type ρ C, h i C g, ap (rename_type (lift_renaming ρ)) e ∙ rename_weakened ρ C)

pub weakening_renames : (G : List LfType) (B : LfType) → IsTypedRenaming G (B ∷ G) suc
weakening_renames G B i A g = (A, g, refl)

rename_instance : (ρ : ℕ → ℕ) (A : LfType) (M : Term) (B : LfType) → rename_type ρ (instantiate_type A M B) ≡ instantiate_type (rename_type ρ A) (rename ρ M) (rename_type (lift_renaming ρ) B)
rename_instance ρ A M B = rename_single_type ρ (skeleton A) M B ∙ ap (λ t. substitute_type reduce (single t (rename ρ M)) (rename_type (lift_renaming ρ) B)) (sym (skeleton_renamed ρ A))

instance_kind_renamed : (ρ : ℕ → ℕ) (A : LfType) (M : Term) (K : Kind) → rename_kind ρ (instantiate_kind A M K) ≡ instantiate_kind (rename_type ρ A) (rename ρ M) (rename_kind (lift_renaming ρ) K)
instance_kind_renamed ρ A M K = rename_single_kind ρ (skeleton A) M K ∙ ap (λ t. substitute_kind reduce (single t (rename ρ M)) (rename_kind (lift_renaming ρ) K)) (sym (skeleton_renamed ρ A))

module _ (Σ : Signature) (ok : IsSignature Σ) where
  pub HeadHasType-renamed : (G D : List LfType) (ρ : ℕ → ℕ) (h : Head) (A : LfType) → IsTypedRenaming G D ρ → HeadHasType Σ G h A → HeadHasType Σ D (rename_head ρ h) (rename_type ρ A)
  HeadHasType-renamed G D ρ (constant c) A w e = subst (λ X. Σ.types c ≡ Some X) (sym (closed_type_renamed Σ ρ A (ok.types_ok c A e))) e
  HeadHasType-renamed G D ρ (metavariable m) A w e = e
  HeadHasType-renamed G D ρ (variable i) A w g = w i A g

  mutual
    pub renaming_keeps_typing : (G D : List LfType) (ρ : ℕ → ℕ) (M : Term) (A : LfType) → IsTypedRenaming G D ρ → HasType Σ G M A → HasType Σ D (rename ρ M) (rename_type ρ A)
    renaming_keeps_typing G D ρ (lambda M) (pi A B) w m = renaming_keeps_typing (A ∷ G) (rename_type ρ A ∷ D) (lift_renaming ρ) M B (renames_under_binder G D ρ A w) m
    renaming_keeps_typing G D ρ (lambda M) (atom a T) w m = m
    renaming_keeps_typing G D ρ (root h S) (pi A B) w m = m
    renaming_keeps_typing G D ρ (root h S) (atom a T) w (A, g, s) = (rename_type ρ A, HeadHasType-renamed G D ρ h A w g, renaming_keeps_spine_typing G D ρ S A (atom a T) w s)

    pub renaming_keeps_spine_typing : (G D : List LfType) (ρ : ℕ → ℕ) (S : Spine) (A C : LfType) → IsTypedRenaming G D ρ → SpineType Σ G S A C → SpineType Σ D (rename_spine ρ S) (rename_type ρ A) (rename_type ρ C)
    renaming_keeps_spine_typing G D ρ nil A C w e = ap (rename_type ρ) e
    renaming_keeps_spine_typing G D ρ (app M S) (pi A B) C w (m, s) = (renaming_keeps_typing G D ρ M A w m, subst (λ X. SpineType Σ D (rename_spine ρ S) X (rename_type ρ C)) (rename_instance ρ A M B) (renaming_keeps_spine_typing G D ρ S (instantiate_type A M B) C w s))
    renaming_keeps_spine_typing G D ρ (app M S) (atom a T) C w s = absurd s

  pub renaming_keeps_kind_spines : (G D : List LfType) (ρ : ℕ → ℕ) (S : Spine) (K : Kind) → IsTypedRenaming G D ρ → SpineFitsKind Σ G S K → SpineFitsKind Σ D (rename_spine ρ S) (rename_kind ρ K)
  renaming_keeps_kind_spines G D ρ nil (kind_pi A K) w s = absurd s
  renaming_keeps_kind_spines G D ρ nil star w s = s
  renaming_keeps_kind_spines G D ρ (app M S) (kind_pi A K) w (m, s) = (renaming_keeps_typing G D ρ M A w m, subst (SpineFitsKind Σ D (rename_spine ρ S)) (instance_kind_renamed ρ A M K) (renaming_keeps_kind_spines G D ρ S (instantiate_kind A M K) w s))
  renaming_keeps_kind_spines G D ρ (app M S) star w s = absurd s

  pub renaming_keeps_types : (G D : List LfType) (ρ : ℕ → ℕ) (A : LfType) → IsTypedRenaming G D ρ → IsType Σ G A → IsType Σ D (rename_type ρ A)
  renaming_keeps_types G D ρ (pi A B) w (a, b) = (renaming_keeps_types G D ρ A w a, renaming_keeps_types (A ∷ G) (rename_type ρ A ∷ D) (lift_renaming ρ) B (renames_under_binder G D ρ A w) b)
  renaming_keeps_types G D ρ (atom a S) w (K, e, s) = (K, e, subst (SpineFitsKind Σ D (rename_spine ρ S)) (closed_kind_renamed Σ ρ K (ok.kinds_ok a K e)) (renaming_keeps_kind_spines G D ρ S K w s))

  pub renaming_keeps_kinds : (G D : List LfType) (ρ : ℕ → ℕ) (K : Kind) → IsTypedRenaming G D ρ → IsKind Σ G K → IsKind Σ D (rename_kind ρ K)
  renaming_keeps_kinds G D ρ (kind_pi A K) w (a, k) = (renaming_keeps_types G D ρ A w a, renaming_keeps_kinds (A ∷ G) (rename_type ρ A ∷ D) (lift_renaming ρ) K (renames_under_binder G D ρ A w) k)
  renaming_keeps_kinds G D ρ star w k = k

  -- each type of a typed context is typed in the whole of it
  pub declared_is_type : (G : List LfType) (i : ℕ) (A : LfType) → IsContext Σ G → TypeAt G i A → IsType Σ G A
  declared_is_type [] i A c g = absurd g
  declared_is_type (B ∷ G) zero A c e = subst (IsType Σ (B ∷ G)) (sym e) (renaming_keeps_types G (B ∷ G) suc B (weakening_renames G B) c.1)
  declared_is_type (B ∷ G) (suc i) A c (C, g, e) = subst (IsType Σ (B ∷ G)) (sym e) (renaming_keeps_types G (B ∷ G) suc C (weakening_renames G B) (declared_is_type G i C c.0 g))
