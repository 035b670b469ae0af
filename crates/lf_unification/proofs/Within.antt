-- The type of an atomic term mentions only what the term, and the types of its variables, mention. So where a metavariable must lose an
-- argument that its target needs, in no argument of a metavariable, there is no unifier.
use Rattle.std.proofs.Common.{◌≡◌, ℕ, zero, suc, List, [], ◌∷◌, Option, Some, ap, ◌∙◌, subst}
use Rattle.lf.specs.Substitution.{Image, keep, lift, apply_image, put, reduce, rename_image, single, substitute, substitute_spine, substitute_type}
use Rattle.lf.specs.Syntax.{Kind, Skeleton, Spine, Term, LfType, app, arrow, atom, base, constant, kind_pi, lambda, metavariable, nil, pi, root, skeleton, star, variable}
use Rattle.lf.specs.Typing.{TypeAt, SpineFitsKind, SpineType, HasType, IsSignature, IsType, Signature, instantiate_kind, instantiate_type}
use Rattle.lf.specs.Variables.{onto}
use Rattle.lf_unification.specs.Filling.{fill_spine, fill_type}
use Rattle.lf_unification.specs.OpenTyping.{IsInstance, fill_locals, skeletons_of, under_locals}
use Rattle.lf_unification.specs.Patterns.{FreeVariablesIn, FreeVariablesInSpine, LiftedSet}
use Rattle.lf_unification.specs.Rigid.{LiftedSetBy, RigidInSpine}
use Rattle.lf_unification.specs.Offering.{lambda_over, pi_over}
use Rattle.lf_unification.proofs.Inverse.{FreeVariablesIn-weaker, FreeVariablesInSpine-weaker, LiftedSet-weaker}
use Rattle.lf_unification.proofs.Prune.{only_rigid_spine}
use Rattle.lf_unification.proofs.Raise.{fill_pis, has_body, lambda_over_fill}
use Rattle.lf_unification.proofs.StepLemmas.{value_of}
use Rattle.lf_unification.proofs.Total.{only_forth}

abbrev pub FreeVariablesInType : (ℕ → Type 0) → LfType → Type 0
FreeVariablesInType P (pi A B) = FreeVariablesInType P A × FreeVariablesInType (LiftedSet P) B
FreeVariablesInType P (atom a S) = FreeVariablesInSpine P S

pub only_weaker_type : (P Q : ℕ → Type 0) → ((i : ℕ) → P i → Q i) → (A : LfType) → FreeVariablesInType P A → FreeVariablesInType Q A
only_weaker_type P Q h (pi A B) (a, b) = (only_weaker_type P Q h A a, only_weaker_type (LiftedSet P) (LiftedSet Q) (LiftedSet-weaker P Q h) B b)
only_weaker_type P Q h (atom a S) s = FreeVariablesInSpine-weaker P Q h S s

-- through hereditary substitution
abbrev OnlyImg : (ℕ → Type 0) → Image → Type 0
OnlyImg Q (keep i) = Q i
OnlyImg Q (put a N) = FreeVariablesIn Q N

abbrev OnlyRed : (Skeleton → Term → Spine → Term) → Type 1
OnlyRed r = (Q : ℕ → Type 0) (a : Skeleton) (N : Term) (S : Spine) → FreeVariablesIn Q N → FreeVariablesInSpine Q S → FreeVariablesIn Q (r a N S)

only_lift : (P Q : ℕ → Type 0) (σ : ℕ → Image) → ((i : ℕ) → P i → OnlyImg Q (σ i)) → (i : ℕ) → LiftedSet P i → OnlyImg (LiftedSet Q) (lift σ i)
only_lift P Q σ h zero p = tt
only_lift P Q σ h (suc i) p = go (σ i) (h i p)
  where
    go : (x : Image) → OnlyImg Q x → OnlyImg (LiftedSet Q) (rename_image suc x)
    go (keep j) q = q
    go (put a N) q = only_forth Q (LiftedSet Q) suc (λ j x. x) N q

only_plug : (r : Skeleton → Term → Spine → Term) → OnlyRed r → (Q : ℕ → Type 0) (x : Image) (S : Spine) → OnlyImg Q x → FreeVariablesInSpine Q S → FreeVariablesIn Q (apply_image r x S)
only_plug r k Q (keep i) S q s = (q, s)
only_plug r k Q (put a N) S q s = k Q a N S q s

mutual
  only_substituted : (r : Skeleton → Term → Spine → Term) → OnlyRed r → (P Q : ℕ → Type 0) (σ : ℕ → Image) → ((i : ℕ) → P i → OnlyImg Q (σ i)) → (M : Term) → FreeVariablesIn P M → FreeVariablesIn Q (substitute r σ M)
  only_substituted r k P Q σ h (lambda M) o = only_substituted r k (LiftedSet P) (LiftedSet Q) (lift σ) (only_lift P Q σ h) M o
  only_substituted r k P Q σ h (root (constant c) S) o = only_substituted_spine r k P Q σ h S o
  only_substituted r k P Q σ h (root (metavariable c) S) o = only_substituted_spine r k P Q σ h S o
  only_substituted r k P Q σ h (root (variable i) S) (p, o) = only_plug r k Q (σ i) (substitute_spine r σ S) (h i p) (only_substituted_spine r k P Q σ h S o)

  only_substituted_spine : (r : Skeleton → Term → Spine → Term) → OnlyRed r → (P Q : ℕ → Type 0) (σ : ℕ → Image) → ((i : ℕ) → P i → OnlyImg Q (σ i)) → (S : Spine) → FreeVariablesInSpine P S → FreeVariablesInSpine Q (substitute_spine r σ S)
  only_substituted_spine r k P Q σ h nil o = o
  only_substituted_spine r k P Q σ h (app M S) (o, p) = (only_substituted r k P Q σ h M o, only_substituted_spine r k P Q σ h S p)

only_substituted_type : (r : Skeleton → Term → Spine → Term) → OnlyRed r → (P Q : ℕ → Type 0) (σ : ℕ → Image) → ((i : ℕ) → P i → OnlyImg Q (σ i)) → (A : LfType) → FreeVariablesInType P A → FreeVariablesInType Q (substitute_type r σ A)
only_substituted_type r k P Q σ h (pi A B) (a, b) = (only_substituted_type r k P Q σ h A a, only_substituted_type r k (LiftedSet P) (LiftedSet Q) (lift σ) (only_lift P Q σ h) B b)
only_substituted_type r k P Q σ h (atom a S) s = only_substituted_spine r k P Q σ h S s

only_single : (Q : ℕ → Type 0) (a : Skeleton) (N : Term) → FreeVariablesIn Q N → (i : ℕ) → LiftedSet Q i → OnlyImg Q (single a N i)
only_single Q a N n zero p = n
only_single Q a N n (suc i) p = p

only_reduced : (a : Skeleton) (Q : ℕ → Type 0) (N : Term) (S : Spine) → FreeVariablesIn Q N → FreeVariablesInSpine Q S → FreeVariablesIn Q (reduce a N S)
only_reduced (base c) Q N S p s = p
only_reduced (arrow a b) Q (root h T) S p s = p
only_reduced (arrow a b) Q (lambda M) nil p s = p
only_reduced (arrow a b) Q (lambda M) (app N S) p (n, s) = only_reduced b Q (substitute (λ c. reduce a) (single a N) M) S (only_substituted (λ c. reduce a) (λ R c. only_reduced a R) (LiftedSet Q) Q (single a N) (only_single Q a N n) M p) s

pub only_instance : (Q : ℕ → Type 0) (A : LfType) (M : Term) (B : LfType) → FreeVariablesIn Q M → FreeVariablesInType (LiftedSet Q) B → FreeVariablesInType Q (instantiate_type A M B)
only_instance Q A M B m b = only_substituted_type reduce (λ R a. only_reduced a R) (LiftedSet Q) Q (single (skeleton A) M) (only_single Q (skeleton A) M m) B b

-- what is typed mentions only the variables of its context
abbrev InCtx : List LfType → ℕ → Type 0
InCtx G i = (A : LfType) × TypeAt G i A

in_push : (G : List LfType) (B : LfType) (i : ℕ) → InCtx (B ∷ G) i → LiftedSet (InCtx G) i
in_push G B zero x = tt
in_push G B (suc i) (A, (C, g, e)) = (C, g)

module _ (Σ : Signature) where
  mutual
    typed_only : (G : List LfType) (M : Term) (A : LfType) → HasType Σ G M A → FreeVariablesIn (InCtx G) M
    typed_only G (lambda M) (pi A B) m = FreeVariablesIn-weaker (InCtx (A ∷ G)) (LiftedSet (InCtx G)) (in_push G A) M (typed_only (A ∷ G) M B m)
    typed_only G (lambda M) (atom a T) m = absurd m
    typed_only G (root h S) (pi A B) m = absurd m
    typed_only G (root (constant c) S) (atom a T) (A, g, s) = typed_only_spine G S A (atom a T) s
    typed_only G (root (variable i) S) (atom a T) (A, g, s) = ((A, g), typed_only_spine G S A (atom a T) s)
    typed_only G (root (metavariable m) S) (atom a T) (A, g, s) = absurd g

    typed_only_spine : (G : List LfType) (S : Spine) (A C : LfType) → SpineType Σ G S A C → FreeVariablesInSpine (InCtx G) S
    typed_only_spine G nil A C s = tt
    typed_only_spine G (app M S) (pi A B) C (m, s) = (typed_only G M A m, typed_only_spine G S (instantiate_type A M B) C s)
    typed_only_spine G (app M S) (atom a T) C s = absurd s

  typed_only_kind : (G : List LfType) (S : Spine) (K : Kind) → SpineFitsKind Σ G S K → FreeVariablesInSpine (InCtx G) S
  typed_only_kind G nil K s = tt
  typed_only_kind G (app M S) (kind_pi A K) (m, s) = (typed_only G M A m, typed_only_kind G S (instantiate_kind A M K) s)
  typed_only_kind G (app M S) star s = absurd s

  typed_only_type : (G : List LfType) (A : LfType) → IsType Σ G A → FreeVariablesInType (InCtx G) A
  typed_only_type G (pi A B) (a, b) = (typed_only_type G A a, only_weaker_type (InCtx (A ∷ G)) (LiftedSet (InCtx G)) (in_push G A) B (typed_only_type (A ∷ G) B b))
  typed_only_type G (atom a S) (K, e, s) = typed_only_kind G S K s

  pub closed_only : (P : ℕ → Type 0) (A : LfType) → IsType Σ [] A → FreeVariablesInType P A
  closed_only P A a = only_weaker_type (InCtx []) P (λ i x. absurd x.1) A (typed_only_type [] A a)

  spine_within : (P : ℕ → Type 0) (G : List LfType) (S : Spine) (A C : LfType) → SpineType Σ G S A C → FreeVariablesInSpine P S → FreeVariablesInType P A → FreeVariablesInType P C
  spine_within P G nil A C e s a = subst (FreeVariablesInType P) e a
  spine_within P G (app M S) (pi A B) C (m, h) (o, s) (a, b) = spine_within P G S (instantiate_type A M B) C h s (only_instance P A M B o b)
  spine_within P G (app M S) (atom a T) C h s x = absurd h

  -- THE lemma: P holds, of each variable in it, the variables of its type
  pub type_within : IsSignature Σ → (P : ℕ → Type 0) (G : List LfType) → ((i : ℕ) (A : LfType) → TypeAt G i A → P i → FreeVariablesInType P A) → (M : Term) (a : ℕ) (T : Spine) → HasType Σ G M (atom a T) → FreeVariablesIn P M → FreeVariablesInSpine P T
  type_within ok P G h (lambda M) a T m o = absurd m
  type_within ok P G h (root (constant c) S) a T (A, g, s) o = spine_within P G S A (atom a T) s o (closed_only P A (ok.types_ok c A g))
  type_within ok P G h (root (variable i) S) a T (A, g, s) (p, o) = spine_within P G S A (atom a T) s o (h i A g p)
  type_within ok P G h (root (metavariable m) S) a T (A, g, s) o = absurd g

-- n, of the type of `a . T` closed over E, has a value that uses only P; P is closed under the types of the filled context.
-- Then a variable outside P does not stand in T, in no argument of a metavariable.
pub target_never : (Σ : Signature) (ok : IsSignature Σ) (G : List LfType) (Ψ : ℕ → Option LfType) (F : List LfType) (β : ℕ → Option Term) → IsInstance Σ G Ψ F β → (n : ℕ) (E : List LfType) (a : ℕ) (T : Spine) → Ψ n ≡ Some (pi_over E (atom a T)) →
    (P : ℕ → Type 0) → ((i : ℕ) (A : LfType) → TypeAt (onto (fill_locals (skeletons_of Ψ) β E) F) i A → P i → FreeVariablesInType P A) → ((B : Term) → β n ≡ Some (lambda_over E B) → FreeVariablesIn P B) →
    (k i : ℕ) (S : Spine) → RigidInSpine (root (variable i) S) k T → (LiftedSetBy k P i → ⊥) → ⊥
target_never Σ ok G Ψ F β w n E a T d P h uses k i S o bad =
    let (V, f, v) = value_of Σ G Ψ F β w n (pi_over E (atom a T)) d in
    let (B, q, b) = has_body Σ F (fill_locals (skeletons_of Ψ) β E) V (fill_type (skeletons_of Ψ) (under_locals E β) (atom a T)) (subst (HasType Σ F V) (fill_pis (skeletons_of Ψ) β E (atom a T)) v) in
    let t : FreeVariablesInSpine P (fill_spine (skeletons_of Ψ) (under_locals E β) T) = type_within Σ ok P (onto (fill_locals (skeletons_of Ψ) β E) F) h B a (fill_spine (skeletons_of Ψ) (under_locals E β) T) b (uses B (f ∙ ap Some (q ∙ lambda_over_fill (skeletons_of Ψ) β E B))) in
    bad (only_rigid_spine (skeletons_of Ψ) (under_locals E β) P o t).0
