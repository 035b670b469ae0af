-- Terms with other constants: through renaming and substitution, and typed.
use Rattle.std.proofs.Common.{◌≡◌, ℕ, zero, suc, List, [], ◌∷◌, Option, Some, None, refl, sym, ap, ap₂, ◌∙◌, subst}
use Rattle.lf.specs.Syntax.{constant, variable, metavariable, Term, Spine, lambda, root, nil, app, LfType, Kind, pi, atom, kind_pi, star, Skeleton, base, arrow, skeleton, lift_renaming, rename, rename_spine, rename_type}
use Rattle.lf.specs.Substitution.{Image, keep, put, rename_image, lift, single, apply_image, substitute, substitute_spine, substitute_type, substitute_kind, reduce}
use Rattle.lf.specs.Typing.{Signature, TypeAt, ImageHasType, HasType, SpineType, SpineFitsKind, instantiate_type, instantiate_kind, IsType, IsKind}
use Rattle.lf.specs.Variables.{target}
use Rattle.lf.proofs.Renaming.{OnPut, Puts, Puts-lift, Puts-single, OnPut-all, reduction_beta}
use Rattle.lf_numbered.specs.NumberedInstance.{move, move_spine, move_type, move_types}
use Rattle.lf_numbered.specs.Reading.{drop_arguments, weaken_read, read_constant, read, read_spine, read_type}
use Rattle.lf_numbered.specs.WritingRoom.{move_kind, move_image}
use Rattle.lf_numbered.proofs.Reading.{under_read, OnlyConstants, SpineOnlyConstants, TypeOnlyConstants}
use mathlib.Core.Path.{fun_ext}

module _ (γ : ℕ → ℕ) where
  -- Renaming
  mutual
    pub move_renamed : (ρ : ℕ → ℕ) (M : Term) → move γ (rename ρ M) ≡ rename ρ (move γ M)
    move_renamed ρ (lambda M) = ap lambda (move_renamed (lift_renaming ρ) M)
    move_renamed ρ (root (constant c) S) = ap (root (constant (γ c))) (move_spine_renamed ρ S)
    move_renamed ρ (root (variable i) S) = ap (root (variable (ρ i))) (move_spine_renamed ρ S)
    move_renamed ρ (root (metavariable m) S) = ap (root (metavariable m)) (move_spine_renamed ρ S)

    pub move_spine_renamed : (ρ : ℕ → ℕ) (S : Spine) → move_spine γ (rename_spine ρ S) ≡ rename_spine ρ (move_spine γ S)
    move_spine_renamed ρ nil = refl
    move_spine_renamed ρ (app M S) = ap₂ app (move_renamed ρ M) (move_spine_renamed ρ S)

  pub move_type_renamed : (ρ : ℕ → ℕ) (A : LfType) → move_type γ (rename_type ρ A) ≡ rename_type ρ (move_type γ A)
  move_type_renamed ρ (pi A B) = ap₂ pi (move_type_renamed ρ A) (move_type_renamed (lift_renaming ρ) B)
  move_type_renamed ρ (atom a S) = ap (atom a) (move_spine_renamed ρ S)

  pub skeleton_moved : (A : LfType) → skeleton (move_type γ A) ≡ skeleton A
  skeleton_moved (pi A B) = ap₂ arrow (skeleton_moved A) (skeleton_moved B)
  skeleton_moved (atom a S) = refl

  pub target_moved : (A : LfType) → target (move_type γ A) ≡ target A
  target_moved (pi A B) = target_moved B
  target_moved (atom a S) = refl

  -- Substitution
  pub image_moved_under : (x : Image) → rename_image suc (move_image γ x) ≡ move_image γ (rename_image suc x)
  image_moved_under (keep i) = refl
  image_moved_under (put a N) = ap (put a) (sym (move_renamed suc N))

  pub lift_moved : (σ : ℕ → Image) (i : ℕ) → lift (λ j. move_image γ (σ j)) i ≡ move_image γ (lift σ i)
  lift_moved σ zero = refl
  lift_moved σ (suc i) = image_moved_under (σ i)

  abbrev RedMove : Skeleton → Type 0
  RedMove a = (N : Term) (S : Spine) → move γ (reduce a N S) ≡ reduce a (move γ N) (move_spine γ S)

  plug_moved : (x : Image) (S S' : Spine) → OnPut RedMove x → move_spine γ S ≡ S' → move γ (apply_image reduce x S) ≡ apply_image reduce (move_image γ x) S'
  plug_moved (keep i) S S' k e = ap (root (variable i)) e
  plug_moved (put a N) S S' k e = k N S ∙ ap (reduce a (move γ N)) e

  mutual
    move_put : (σ : ℕ → Image) (M : Term) → Puts RedMove σ → move γ (substitute reduce σ M) ≡ substitute reduce (λ i. move_image γ (σ i)) (move γ M)
    move_put σ (lambda M) k = ap lambda (move_put (lift σ) M (Puts-lift RedMove σ k) ∙ ap (λ τ. substitute reduce τ (move γ M)) (sym (fun_ext (lift_moved σ))))
    move_put σ (root (constant c) S) k = ap (root (constant (γ c))) (move_put_spine σ S k)
    move_put σ (root (metavariable m) S) k = ap (root (metavariable m)) (move_put_spine σ S k)
    move_put σ (root (variable i) S) k = plug_moved (σ i) (substitute_spine reduce σ S) (substitute_spine reduce (λ j. move_image γ (σ j)) (move_spine γ S)) (k i) (move_put_spine σ S k)

    move_put_spine : (σ : ℕ → Image) (S : Spine) → Puts RedMove σ → move_spine γ (substitute_spine reduce σ S) ≡ substitute_spine reduce (λ i. move_image γ (σ i)) (move_spine γ S)
    move_put_spine σ nil k = refl
    move_put_spine σ (app M S) k = ap₂ app (move_put σ M k) (move_put_spine σ S k)

  single_moved : (a : Skeleton) (N : Term) (i : ℕ) → move_image γ (single a N i) ≡ single a (move γ N) i
  single_moved a N zero = refl
  single_moved a N (suc i) = refl

  reduce_moved : (a : Skeleton) → RedMove a
  reduce_moved (base c) N S = refl
  reduce_moved (arrow a b) (root (constant c) T) S = refl
  reduce_moved (arrow a b) (root (variable i) T) S = refl
  reduce_moved (arrow a b) (root (metavariable m) T) S = refl
  reduce_moved (arrow a b) (lambda M) nil = refl
  reduce_moved (arrow a b) (lambda M) (app N S) =
      ap (move γ) (reduction_beta a b M N S)
      ∙ reduce_moved b (substitute reduce (single a N) M) S
      ∙ ap (λ X. reduce b X (move_spine γ S)) (move_put (single a N) M (Puts-single RedMove a N (reduce_moved a)) ∙ ap (λ τ. substitute reduce τ (move γ M)) (fun_ext (single_moved a N)))
      ∙ sym (reduction_beta a b (move γ M) (move γ N) (move_spine γ S))

  pub move_substituted : (σ : ℕ → Image) (M : Term) → move γ (substitute reduce σ M) ≡ substitute reduce (λ i. move_image γ (σ i)) (move γ M)
  move_substituted σ M = move_put σ M (λ i. OnPut-all RedMove reduce_moved (σ i))

  pub move_spine_substituted : (σ : ℕ → Image) (S : Spine) → move_spine γ (substitute_spine reduce σ S) ≡ substitute_spine reduce (λ i. move_image γ (σ i)) (move_spine γ S)
  move_spine_substituted σ S = move_put_spine σ S (λ i. OnPut-all RedMove reduce_moved (σ i))

  pub move_type_substituted : (σ : ℕ → Image) (A : LfType) → move_type γ (substitute_type reduce σ A) ≡ substitute_type reduce (λ i. move_image γ (σ i)) (move_type γ A)
  move_type_substituted σ (pi A B) = ap₂ pi (move_type_substituted σ A) (move_type_substituted (lift σ) B ∙ ap (λ τ. substitute_type reduce τ (move_type γ B)) (sym (fun_ext (lift_moved σ))))
  move_type_substituted σ (atom a S) = ap (atom a) (move_spine_substituted σ S)

  pub move_kind_substituted : (σ : ℕ → Image) (K : Kind) → move_kind γ (substitute_kind reduce σ K) ≡ substitute_kind reduce (λ i. move_image γ (σ i)) (move_kind γ K)
  move_kind_substituted σ (kind_pi A K) = ap₂ kind_pi (move_type_substituted σ A) (move_kind_substituted (lift σ) K ∙ ap (λ τ. substitute_kind reduce τ (move_kind γ K)) (sym (fun_ext (lift_moved σ))))
  move_kind_substituted σ star = refl

  move_instance : (A : LfType) (M : Term) (B : LfType) → move_type γ (instantiate_type A M B) ≡ instantiate_type (move_type γ A) (move γ M) (move_type γ B)
  move_instance A M B = move_type_substituted (single (skeleton A) M) B ∙ ap (λ τ. substitute_type reduce τ (move_type γ B)) (fun_ext (single_moved (skeleton A) M)) ∙ ap (λ a. substitute_type reduce (single a (move γ M)) (move_type γ B)) (sym (skeleton_moved A))

  pub move_kind_instance : (A : LfType) (M : Term) (K : Kind) → move_kind γ (instantiate_kind A M K) ≡ instantiate_kind (move_type γ A) (move γ M) (move_kind γ K)
  move_kind_instance A M K = move_kind_substituted (single (skeleton A) M) K ∙ ap (λ τ. substitute_kind reduce τ (move_kind γ K)) (fun_ext (single_moved (skeleton A) M)) ∙ ap (λ a. substitute_kind reduce (single a (move γ M)) (move_kind γ K)) (sym (skeleton_moved A))

  -- Typing, where each constant has its type moved
  pub moved_at : (G : List LfType) (i : ℕ) (A : LfType) → TypeAt G i A → TypeAt (move_types γ G) i (move_type γ A)
  moved_at [] i A g = absurd g
  moved_at (B ∷ G) zero A e = ap (move_type γ) e ∙ move_type_renamed suc B
  moved_at (B ∷ G) (suc i) A (C, g, e) = (move_type γ C, moved_at G i C g, ap (move_type γ) e ∙ move_type_renamed suc C)

  module _ (Σ Σ₂ : Signature) (ts : (c : ℕ) (A : LfType) → Σ.types c ≡ Some A → Σ₂.types (γ c) ≡ Some (move_type γ A)) (ks : (a : ℕ) (K : Kind) → Σ.kinds a ≡ Some K → Σ₂.kinds a ≡ Some (move_kind γ K)) where
    mutual
      pub moved_typed : (G : List LfType) (M : Term) (A : LfType) → HasType Σ G M A → HasType Σ₂ (move_types γ G) (move γ M) (move_type γ A)
      moved_typed G (lambda M) (pi A B) m = moved_typed (A ∷ G) M B m
      moved_typed G (lambda M) (atom a T) m = absurd m
      moved_typed G (root h S) (pi A B) m = absurd m
      moved_typed G (root (constant c) S) (atom a T) (A, g, s) = (move_type γ A, ts c A g, moved_spine G S A (atom a T) s)
      moved_typed G (root (variable i) S) (atom a T) (A, g, s) = (move_type γ A, moved_at G i A g, moved_spine G S A (atom a T) s)
      moved_typed G (root (metavariable m) S) (atom a T) (A, g, s) = absurd g

      moved_spine : (G : List LfType) (S : Spine) (A C : LfType) → SpineType Σ G S A C → SpineType Σ₂ (move_types γ G) (move_spine γ S) (move_type γ A) (move_type γ C)
      moved_spine G nil A C e = ap (move_type γ) e
      moved_spine G (app M S) (pi A B) C (m, s) = (moved_typed G M A m, subst (λ X. SpineType Σ₂ (move_types γ G) (move_spine γ S) X (move_type γ C)) (move_instance A M B) (moved_spine G S (instantiate_type A M B) C s))
      moved_spine G (app M S) (atom a T) C s = absurd s

    moved_kind_spine : (G : List LfType) (S : Spine) (K : Kind) → SpineFitsKind Σ G S K → SpineFitsKind Σ₂ (move_types γ G) (move_spine γ S) (move_kind γ K)
    moved_kind_spine G nil (kind_pi A K) s = absurd s
    moved_kind_spine G nil star s = tt
    moved_kind_spine G (app M S) (kind_pi A K) (m, s) = (moved_typed G M A m, subst (SpineFitsKind Σ₂ (move_types γ G) (move_spine γ S)) (move_kind_instance A M K) (moved_kind_spine G S (instantiate_kind A M K) s))
    moved_kind_spine G (app M S) star s = absurd s

    pub moved_is_type : (G : List LfType) (A : LfType) → IsType Σ G A → IsType Σ₂ (move_types γ G) (move_type γ A)
    moved_is_type G (pi A B) (a, b) = (moved_is_type G A a, moved_is_type (A ∷ G) B b)
    moved_is_type G (atom a S) (K, e, s) = (move_kind γ K, ks a K e, moved_kind_spine G S K s)

    pub moved_is_kind : (G : List LfType) (K : Kind) → IsKind Σ G K → IsKind Σ₂ (move_types γ G) (move_kind γ K)
    moved_is_kind G (kind_pi A K) (a, k) = (moved_is_type G A a, moved_is_kind (A ∷ G) K k)
    moved_is_kind G star k = tt

    pub moved_image : (G : List LfType) (x : Image) (A : LfType) → ImageHasType Σ G x A → ImageHasType Σ₂ (move_types γ G) (move_image γ x) (move_type γ A)
    moved_image G (keep j) A g = moved_at G j A g
    moved_image G (put a N) A (e, n) = (skeleton_moved A ∙ e, moved_typed G N A n)

  un : (x : Option (ℕ × ℕ)) → weaken_read x ≡ None → x ≡ None
  un None e = refl
  un (Some (n, v)) e = absurd cc

  drop_moved : (n : ℕ) (S : Spine) → move_spine γ (drop_arguments n S) ≡ drop_arguments n (move_spine γ S)
  drop_moved zero S = refl
  drop_moved (suc n) nil = refl
  drop_moved (suc n) (app M S) = drop_moved n S

  constant_moved : (x : Option (ℕ × ℕ)) (c : ℕ) (S : Spine) → (x ≡ None → γ c ≡ c) → move_spine γ S ≡ S → move γ (read_constant x c S) ≡ read_constant x c S
  constant_moved None c S h e = ap₂ (λ d T. root (constant d) T) (h refl) e
  constant_moved (Some (n, v)) c S h e = ap (root (variable v)) (drop_moved n S ∙ ap (drop_arguments n) e)

  -- What has only constants that stay is the same, also when it is read.
  mutual
    pub same_moved : (P : ℕ → Type 0) (f : ℕ → Option (ℕ × ℕ)) (M : Term) → ((c : ℕ) → P c → f c ≡ None → γ c ≡ c) → OnlyConstants P M → move γ (read f M) ≡ read f M
    same_moved P f (lambda M) h m = ap lambda (same_moved P (under_read f) M (λ c p e. h c p (un (f c) e)) m)
    same_moved P f (root (constant c) S) h (p, s) = constant_moved (f c) c (read_spine f S) (h c p) (same_spine_moved P f S h s)
    same_moved P f (root (variable i) S) h s = ap (root (variable i)) (same_spine_moved P f S h s)
    same_moved P f (root (metavariable m) S) h s = ap (root (metavariable m)) (same_spine_moved P f S h s)

    pub same_spine_moved : (P : ℕ → Type 0) (f : ℕ → Option (ℕ × ℕ)) (S : Spine) → ((c : ℕ) → P c → f c ≡ None → γ c ≡ c) → SpineOnlyConstants P S → move_spine γ (read_spine f S) ≡ read_spine f S
    same_spine_moved P f nil h s = refl
    same_spine_moved P f (app M S) h (m, s) = ap₂ app (same_moved P f M h m) (same_spine_moved P f S h s)

  pub same_type_moved : (P : ℕ → Type 0) (f : ℕ → Option (ℕ × ℕ)) (A : LfType) → ((c : ℕ) → P c → f c ≡ None → γ c ≡ c) → TypeOnlyConstants P A → move_type γ (read_type f A) ≡ read_type f A
  same_type_moved P f (pi A B) h (a, b) = ap₂ pi (same_type_moved P f A h a) (same_type_moved P (under_read f) B (λ c p e. h c p (un (f c) e)) b)
  same_type_moved P f (atom a S) h s = ap (atom a) (same_spine_moved P f S h s)
