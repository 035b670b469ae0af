-- The eta-long form of a variable is typed.
use Rattle.std.proofs.Common.{◌≡◌, ℕ, zero, suc, List, ◌∷◌, Option, Some, refl, sym, ap, ap₂, ◌∙◌, subst}
use Rattle.lf.specs.Eta.{eta_expand, add_last}
use Rattle.lf.specs.Substitution.{Image, lift, reduce, single, substitute_type}
use Rattle.lf.specs.SkeletonTyping.{SkeletonAt, TypeBySkeletons, HeadSkeletons}
use Rattle.lf.specs.Skeletons.{context_skeletons, family_skeletons}
use Rattle.lf.specs.Syntax.{Head, Skeleton, Spine, Term, LfType, app, arrow, atom, base, constant, metavariable, nil, pi, rename_head, rename_spine, rename_type, skeleton, lift_renaming, variable, weaken}
use Rattle.lf.specs.Typing.{TypeAt, HeadHasType, SpineType, HasType, IsSignature, Signature, instantiate_type}
use Rattle.lf_unification.specs.Patterns.{eta_variable, extend_renaming}
use Rattle.lf_unification.specs.Skeletons.{as_head_skeletons, total_skeletons}
use Rattle.lf.proofs.Closed.{closed_type_renamed}
use Rattle.lf.proofs.Eta.{EtaLike, EtaLike-lift, Fits, Fits-lift}
use Rattle.lf.specs.SkeletonTyping.{RenamingBySkeletons}
use Rattle.lf.proofs.SkeletonTyping.{renaming_by_skeletons_under_binder}
use Rattle.lf.proofs.TypeLaws.{skeleton_renamed, substitute_renamed_type}
use Rattle.lf.proofs.Weakening.{renaming_keeps_spine_typing, weakening_renames}
use Rattle.lf_unification.proofs.Eta.{argument_fits, argument_like, argument_by_skeletons, rename_id_type, self_fits, self_like, substituted_like_spine}
use Rattle.lf_unification.proofs.Substitution.{SkeletonType, SkeletonType-weakened}

module _ (φ : ℕ → Option Skeleton) (κ : HeadSkeletons) where
  pub substituted_like_type : (Γ Δ : List Skeleton) (σ : ℕ → Image) (ρ : ℕ → ℕ) (A : LfType) → EtaLike (λ c. Unit {0}) σ ρ → Fits Γ σ → RenamingBySkeletons Γ Δ ρ → TypeBySkeletons φ κ Γ A → substitute_type reduce σ A ≡ rename_type ρ A
  substituted_like_type Γ Δ σ ρ (pi A B) l f g (x, y) = ap₂ pi (substituted_like_type Γ Δ σ ρ A l f g x) (substituted_like_type (skeleton A ∷ Γ) (skeleton A ∷ Δ) (lift σ) (lift_renaming ρ) B (EtaLike-lift (λ c. Unit {0}) σ ρ l) (Fits-lift Γ (skeleton A) σ f) (renaming_by_skeletons_under_binder Γ Δ ρ (skeleton A) g) y)
  substituted_like_type Γ Δ σ ρ (atom c S) l f g (t, e, s) = ap (atom c) (substituted_like_spine κ Γ Δ σ ρ S t (base c) l f g s)

  -- the newest variable for itself
  pub substituted_self_type : (a : Skeleton) (Γ : List Skeleton) (B : LfType) → TypeBySkeletons φ κ (a ∷ Γ) B → substitute_type reduce (single a (eta_variable a zero)) (rename_type (lift_renaming suc) B) ≡ B
  substituted_self_type a Γ B b = substitute_renamed_type reduce (single a (eta_variable a zero)) (lift_renaming suc) B ∙ substituted_like_type (a ∷ Γ) (a ∷ Γ) (λ i. single a (eta_variable a zero) (lift_renaming suc i)) (λ i. i) B (self_like κ a) (self_fits κ a Γ) (λ i t g. g) b ∙ rename_id_type B

  -- a variable for the newest one
  pub substituted_argument_type : (a : Skeleton) (x : ℕ) (τ : ℕ → ℕ) (Γ Δ : List Skeleton) (B : LfType) → RenamingBySkeletons Γ Δ τ → SkeletonAt Δ x a → TypeBySkeletons φ κ (a ∷ Γ) B → substitute_type reduce (single a (eta_variable a x)) (rename_type (lift_renaming τ) B) ≡ rename_type (extend_renaming x τ) B
  substituted_argument_type a x τ Γ Δ B g e b = substitute_renamed_type reduce (single a (eta_variable a x)) (lift_renaming τ) B ∙ substituted_like_type (a ∷ Γ) Δ (λ i. single a (eta_variable a x) (lift_renaming τ i)) (extend_renaming x τ) B (argument_like a x τ) (argument_fits a x τ Γ) (argument_by_skeletons a x τ Γ Δ g e) b

module _ (Σ : Signature) (μ : ℕ → Skeleton) (ok : IsSignature Σ) where
  SpineType-add_last : (G : List LfType) (S : Spine) (N : Term) (A B C : LfType) → SpineType Σ G S A (pi B C) → HasType Σ G N B → SpineType Σ G (add_last S N) A (instantiate_type B N C)
  SpineType-add_last G nil N A B C e n = subst (λ X. SpineType Σ G (app N nil) X (instantiate_type B N C)) (sym e) (n, refl)
  SpineType-add_last G (app M S) N (pi A A') B C (m, s) n = (m, SpineType-add_last G S N (instantiate_type A M A') B C s n)
  SpineType-add_last G (app M S) N (atom a T) B C s n = absurd s

  head_weakened : (G : List LfType) (B : LfType) (h : Head) (H : LfType) → HeadHasType Σ G h H → HeadHasType Σ (B ∷ G) (rename_head suc h) (weaken H)
  head_weakened G B (constant c) H e = subst (λ X. Σ.types c ≡ Some X) (sym (closed_type_renamed Σ suc H (ok.types_ok c H e))) e
  head_weakened G B (variable i) H g = (H, g, refl)
  head_weakened G B (metavariable m) H g = g

  -- a head of type H, applied to S so far, which takes H to A; t is the skeleton of A
  pub expand_typed : (t : Skeleton) (G : List LfType) (h : Head) (S : Spine) (H A : LfType) → t ≡ skeleton A → SkeletonType Σ μ ok G A → HeadHasType Σ G h H → SpineType Σ G S H A → HasType Σ G (eta_expand t h S) A
  expand_typed (base c) G h S H (pi B C) e k g s = cc
  expand_typed (base c) G h S H (atom a T) e k g s = (H, g, s)
  expand_typed (arrow b d) G h S H (atom a T) e k g s = cc
  expand_typed (arrow b d) G h S H (pi B C) e (kb, kc) g s =
      let p : b ≡ skeleton B = cc in
      let q : d ≡ skeleton C = cc in
      let k0 : SkeletonType Σ μ ok (B ∷ G) (weaken B) = SkeletonType-weakened Σ μ ok G B B kb in
      let zero_ok : HasType Σ (B ∷ G) (eta_variable b zero) (weaken B) = expand_typed b (B ∷ G) (variable zero) nil (weaken B) (weaken B) (p ∙ sym (skeleton_renamed suc B)) k0 refl refl in
      let s' : SpineType Σ (B ∷ G) (add_last (rename_spine suc S) (eta_variable b zero)) (weaken H) (instantiate_type (weaken B) (eta_variable b zero) (rename_type (lift_renaming suc) C))
      = SpineType-add_last (B ∷ G) (rename_spine suc S) (eta_variable b zero) (weaken H) (weaken B) (rename_type (lift_renaming suc) C) (renaming_keeps_spine_typing Σ ok G (B ∷ G) suc S H (pi B C) (weakening_renames G B) s) zero_ok in
      let r : instantiate_type (weaken B) (eta_variable b zero) (rename_type (lift_renaming suc) C) ≡ C
      = ap (λ t. substitute_type reduce (single t (eta_variable b zero)) (rename_type (lift_renaming suc) C)) (skeleton_renamed suc B ∙ sym p) ∙ substituted_self_type (family_skeletons Σ) (as_head_skeletons (total_skeletons Σ μ)) b (context_skeletons G) C (subst (λ t. TypeBySkeletons (family_skeletons Σ) (as_head_skeletons (total_skeletons Σ μ)) (t ∷ context_skeletons G) C) (sym p) kc) in
      expand_typed d (B ∷ G) (rename_head suc h) (add_last (rename_spine suc S) (eta_variable b zero)) (weaken H) C q kc (head_weakened G B h H g) (subst (SpineType Σ (B ∷ G) (add_last (rename_spine suc S) (eta_variable b zero)) (weaken H)) r s')

  pub eta_typed : (G : List LfType) (x : ℕ) (A : LfType) → SkeletonType Σ μ ok G A → TypeAt G x A → HasType Σ G (eta_variable (skeleton A) x) A
  eta_typed G x A k g = expand_typed (skeleton A) G (variable x) nil A A refl k g refl
