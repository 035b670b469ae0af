-- Renaming, substitution and eta-expansion bring in no metavariable.
use Rattle.std.proofs.Common.{ℕ, zero, suc, List, [], ◌∷◌}
use Rattle.lf.specs.Eta.{eta_expand, add_last}
use Rattle.lf.specs.Substitution.{Image, keep, lift, apply_image, put, reduce, rename_image, single, substitute, substitute_kind, substitute_spine, substitute_type}
use Rattle.lf.specs.Syntax.{Head, Kind, Skeleton, Spine, Term, LfType, app, arrow, atom, base, constant, kind_pi, lambda, metavariable, nil, pi, rename, rename_head, rename_spine, rename_type, root, skeleton, star, lift_renaming, variable}
use Rattle.lf.specs.Typing.{SpineFitsKind, SpineType, HasType, IsKind, IsType, Signature, instantiate_kind, instantiate_type}
use Rattle.lf_unification.specs.OpenTyping.{MetavariablesIn, MetavariablesInSpine, MetavariablesInType}
use Rattle.lf_unification.specs.Patterns.{eta_variable}
use Rattle.lf_unification.specs.Offering.{local_arguments, raised}

-- each metavariable of a kind is in V
abbrev pub MetavariablesInKind : (ℕ → Type 0) → Kind → Type 0
MetavariablesInKind V (kind_pi A K) = MetavariablesInType V A × MetavariablesInKind V K
MetavariablesInKind V star = Unit {0}

module _ (V : ℕ → Type 0) where
  mutual
    pub in_rename : (ρ : ℕ → ℕ) (M : Term) → MetavariablesIn V M → MetavariablesIn V (rename ρ M)
    in_rename ρ (lambda M) i = in_rename (lift_renaming ρ) M i
    in_rename ρ (root (constant c) S) i = in_rename_spine ρ S i
    in_rename ρ (root (variable c) S) i = in_rename_spine ρ S i
    in_rename ρ (root (metavariable c) S) (v, i) = (v, in_rename_spine ρ S i)

    pub in_rename_spine : (ρ : ℕ → ℕ) (S : Spine) → MetavariablesInSpine V S → MetavariablesInSpine V (rename_spine ρ S)
    in_rename_spine ρ nil i = i
    in_rename_spine ρ (app M S) (i, j) = (in_rename ρ M i, in_rename_spine ρ S j)

  pub in_rename_type : (ρ : ℕ → ℕ) (A : LfType) → MetavariablesInType V A → MetavariablesInType V (rename_type ρ A)
  in_rename_type ρ (pi A B) (i, j) = (in_rename_type ρ A i, in_rename_type (lift_renaming ρ) B j)
  in_rename_type ρ (atom a S) i = in_rename_spine ρ S i

  abbrev InImg : Image → Type 0
  InImg (keep i) = Unit {0}
  InImg (put a N) = MetavariablesIn V N

  abbrev InRed : (Skeleton → Term → Spine → Term) → Type 0
  InRed r = (a : Skeleton) (N : Term) (S : Spine) → MetavariablesIn V N → MetavariablesInSpine V S → MetavariablesIn V (r a N S)

  in_lift : (σ : ℕ → Image) → ((i : ℕ) → InImg (σ i)) → (i : ℕ) → InImg (lift σ i)
  in_lift σ h zero = tt
  in_lift σ h (suc i) = go (σ i) (h i)
    where
      go : (x : Image) → InImg x → InImg (rename_image suc x)
      go (keep j) p = p
      go (put a N) p = in_rename suc N p

  in_plug : (r : Skeleton → Term → Spine → Term) → InRed r → (x : Image) (S : Spine) → InImg x → MetavariablesInSpine V S → MetavariablesIn V (apply_image r x S)
  in_plug r k (keep i) S p s = s
  in_plug r k (put a N) S p s = k a N S p s

  mutual
    in_substituted : (r : Skeleton → Term → Spine → Term) → InRed r → (σ : ℕ → Image) → ((i : ℕ) → InImg (σ i)) → (M : Term) → MetavariablesIn V M → MetavariablesIn V (substitute r σ M)
    in_substituted r k σ h (lambda M) i = in_substituted r k (lift σ) (in_lift σ h) M i
    in_substituted r k σ h (root (constant c) S) i = in_substituted_spine r k σ h S i
    in_substituted r k σ h (root (variable c) S) i = in_plug r k (σ c) (substitute_spine r σ S) (h c) (in_substituted_spine r k σ h S i)
    in_substituted r k σ h (root (metavariable c) S) (v, i) = (v, in_substituted_spine r k σ h S i)

    in_substituted_spine : (r : Skeleton → Term → Spine → Term) → InRed r → (σ : ℕ → Image) → ((i : ℕ) → InImg (σ i)) → (S : Spine) → MetavariablesInSpine V S → MetavariablesInSpine V (substitute_spine r σ S)
    in_substituted_spine r k σ h nil i = i
    in_substituted_spine r k σ h (app M S) (i, j) = (in_substituted r k σ h M i, in_substituted_spine r k σ h S j)

  in_substituted_type : (r : Skeleton → Term → Spine → Term) → InRed r → (σ : ℕ → Image) → ((i : ℕ) → InImg (σ i)) → (A : LfType) → MetavariablesInType V A → MetavariablesInType V (substitute_type r σ A)
  in_substituted_type r k σ h (pi A B) (i, j) = (in_substituted_type r k σ h A i, in_substituted_type r k (lift σ) (in_lift σ h) B j)
  in_substituted_type r k σ h (atom a S) i = in_substituted_spine r k σ h S i

  in_single : (a : Skeleton) (N : Term) → MetavariablesIn V N → (i : ℕ) → InImg (single a N i)
  in_single a N p zero = p
  in_single a N p (suc i) = tt

  pub in_reduced : InRed reduce
  in_reduced (base c) N S p s = p
  in_reduced (arrow a b) (root h T) S p s = p
  in_reduced (arrow a b) (lambda M) nil p s = p
  in_reduced (arrow a b) (lambda M) (app N S) p (n, s) = in_reduced b (substitute (λ c. reduce a) (single a N) M) S (in_substituted (λ c. reduce a) (λ c. in_reduced a) (single a N) (in_single a N n) M p) s

  pub in_instance : (A : LfType) (N : Term) (B : LfType) → MetavariablesIn V N → MetavariablesInType V B → MetavariablesInType V (instantiate_type A N B)
  in_instance A N B p b = in_substituted_type reduce in_reduced (single (skeleton A) N) (in_single (skeleton A) N p) B b

  in_substituted_kind : (r : Skeleton → Term → Spine → Term) → InRed r → (σ : ℕ → Image) → ((i : ℕ) → InImg (σ i)) → (K : Kind) → MetavariablesInKind V K → MetavariablesInKind V (substitute_kind r σ K)
  in_substituted_kind r k σ h (kind_pi A K) (i, j) = (in_substituted_type r k σ h A i, in_substituted_kind r k (lift σ) (in_lift σ h) K j)
  in_substituted_kind r k σ h star i = i

  pub in_instance_kind : (A : LfType) (N : Term) (K : Kind) → MetavariablesIn V N → MetavariablesInKind V K → MetavariablesInKind V (instantiate_kind A N K)
  in_instance_kind A N K p b = in_substituted_kind reduce in_reduced (single (skeleton A) N) (in_single (skeleton A) N p) K b

  in_add : (S : Spine) (N : Term) → MetavariablesInSpine V S → MetavariablesIn V N → MetavariablesInSpine V (add_last S N)
  in_add nil N s p = (p, s)
  in_add (app M S) N (i, s) p = (i, in_add S N s p)

  abbrev pub HeadIn : Head → Type 0
  HeadIn (constant c) = Unit {0}
  HeadIn (variable i) = Unit {0}
  HeadIn (metavariable m) = V m

  in_root : (h : Head) (S : Spine) → HeadIn h → MetavariablesInSpine V S → MetavariablesIn V (root h S)
  in_root (constant c) S p s = s
  in_root (variable i) S p s = s
  in_root (metavariable m) S p s = (p, s)

  head_up : (h : Head) → HeadIn h → HeadIn (rename_head suc h)
  head_up (constant c) p = p
  head_up (variable i) p = p
  head_up (metavariable m) p = p

  pub in_expand : (a : Skeleton) (h : Head) (S : Spine) → HeadIn h → MetavariablesInSpine V S → MetavariablesIn V (eta_expand a h S)
  in_expand (base c) h S p s = in_root h S p s
  in_expand (arrow a b) h S p s = in_expand b (rename_head suc h) (add_last (rename_spine suc S) (eta_variable a zero)) (head_up h p) (in_add (rename_spine suc S) (eta_variable a zero) (in_rename_spine suc S s) (in_expand a (variable zero) nil tt tt))

  in_locals : (D : List LfType) → MetavariablesInSpine V (local_arguments D)
  in_locals [] = tt
  in_locals (A ∷ D) = in_add (rename_spine suc (local_arguments D)) (eta_variable (skeleton A) zero) (in_rename_spine suc (local_arguments D) (in_locals D)) (in_expand (skeleton A) (variable zero) nil tt tt)

  pub in_raised : (D : List LfType) (B : LfType) (n : ℕ) → V n → MetavariablesIn V (raised D B n)
  in_raised D B n v = in_expand (skeleton B) (metavariable n) (local_arguments D) v (in_locals D)

  -- where all are in the set
  module _ (all : (m : ℕ) → V m) where
    mutual
      pub in_all : (M : Term) → MetavariablesIn V M
      in_all (lambda M) = in_all M
      in_all (root (constant c) S) = in_all_spine S
      in_all (root (variable i) S) = in_all_spine S
      in_all (root (metavariable m) S) = (all m, in_all_spine S)

      pub in_all_spine : (S : Spine) → MetavariablesInSpine V S
      in_all_spine nil = tt
      in_all_spine (app M S) = (in_all M, in_all_spine S)

    pub in_all_type : (A : LfType) → MetavariablesInType V A
    in_all_type (pi A B) = (in_all_type A, in_all_type B)
    in_all_type (atom a S) = in_all_spine S

  -- what is typed mentions none
  module _ (Σ : Signature) where
    mutual
      pub in_typed : (G : List LfType) (M : Term) (A : LfType) → HasType Σ G M A → MetavariablesIn V M
      in_typed G (lambda M) (pi A B) m = in_typed (A ∷ G) M B m
      in_typed G (lambda M) (atom a T) m = absurd m
      in_typed G (root k S) (pi A B) m = absurd m
      in_typed G (root (constant c) S) (atom a T) (A, g, s) = in_typed_spine G S A (atom a T) s
      in_typed G (root (variable i) S) (atom a T) (A, g, s) = in_typed_spine G S A (atom a T) s
      in_typed G (root (metavariable m) S) (atom a T) (A, g, s) = absurd g

      in_typed_spine : (G : List LfType) (S : Spine) (A C : LfType) → SpineType Σ G S A C → MetavariablesInSpine V S
      in_typed_spine G nil A C s = tt
      in_typed_spine G (app M S) (pi A B) C (m, s) = (in_typed G M A m, in_typed_spine G S (instantiate_type A M B) C s)
      in_typed_spine G (app M S) (atom a T) C s = absurd s

    in_typed_kind_spine : (G : List LfType) (S : Spine) (K : Kind) → SpineFitsKind Σ G S K → MetavariablesInSpine V S
    in_typed_kind_spine G nil K s = tt
    in_typed_kind_spine G (app M S) (kind_pi A K) (m, s) = (in_typed G M A m, in_typed_kind_spine G S (instantiate_kind A M K) s)
    in_typed_kind_spine G (app M S) star s = absurd s

    pub in_typed_type : (G : List LfType) (A : LfType) → IsType Σ G A → MetavariablesInType V A
    in_typed_type G (pi A B) (a, b) = (in_typed_type G A a, in_typed_type (A ∷ G) B b)
    in_typed_type G (atom a S) (K, e, s) = in_typed_kind_spine G S K s

    pub in_typed_kind : (G : List LfType) (K : Kind) → IsKind Σ G K → MetavariablesInKind V K
    in_typed_kind G (kind_pi A K) (a, k) = (in_typed_type G A a, in_typed_kind (A ∷ G) K k)
    in_typed_kind G star k = tt

module _ (V W : ℕ → Type 0) (h : (m : ℕ) → V m → W m) where
  mutual
    pub in_weaker : (M : Term) → MetavariablesIn V M → MetavariablesIn W M
    in_weaker (lambda M) i = in_weaker M i
    in_weaker (root (constant c) S) i = in_weaker_spine S i
    in_weaker (root (variable c) S) i = in_weaker_spine S i
    in_weaker (root (metavariable m) S) (v, i) = (h m v, in_weaker_spine S i)

    pub in_weaker_spine : (S : Spine) → MetavariablesInSpine V S → MetavariablesInSpine W S
    in_weaker_spine nil i = i
    in_weaker_spine (app M S) (i, j) = (in_weaker M i, in_weaker_spine S j)

  pub in_weaker_type : (A : LfType) → MetavariablesInType V A → MetavariablesInType W A
  in_weaker_type (pi A B) (i, j) = (in_weaker_type A i, in_weaker_type B j)
  in_weaker_type (atom a S) i = in_weaker_spine S i
