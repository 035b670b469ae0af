-- What is typed in a context is typed over the metavariables that stand for its variables.
use Rattle.std.proofs.Common.{◌≡◌, ℕ, zero, suc, List, [], ◌∷◌, Option, Some, refl, sym, ap, ◌∙◌, subst}
use Rattle.lf.specs.Syntax.{Head, Kind, LfType, Spine, Term, app, atom, constant, kind_pi, lambda, metavariable, nil, pi, rename_head, root, skeleton, star, variable, weaken}
use Rattle.lf.specs.Typing.{HasType, IsKind, IsSignature, IsType, Signature, SpineFitsKind, SpineType, TypeAt, instantiate_kind, instantiate_type}
use Rattle.lf.proofs.Closed.{closed_type_renamed}
use Rattle.lf_unification.specs.Filling.{fill_type}
use Rattle.lf_unification.specs.OpenTyping.{OpenHasType, OpenHeadHasType, OpenIsType, OpenSpineFitsKind, OpenSpineType, skeletons_of, under_locals}
use Rattle.lf_unification.specs.Patterns.{FreeVariablesIn, FreeVariablesInSpine, LiftedSet}
use Rattle.lf_unification.proofs.Inverse.{FreeVariablesIn-weaker}
use Rattle.lf_unification.proofs.Within.{FreeVariablesInType, closed_only, only_weaker_type}
use Rattle.lf_search.specs.Goals.{under_head, with_heads, spine_with_heads, type_with_heads}
use Rattle.lf_search.proofs.WithHeads.{FreeVariablesInKind, heads_of_instance, heads_of_instance_kind, heads_of_weakened, heads_themselves_kind, heads_themselves_type, kind_with_heads, same_heads_kind, same_heads_type}

-- the variables of a context
abbrev pub InContext : List LfType → ℕ → Type 0
InContext G i = (A : LfType) × TypeAt G i A

in_push : (G : List LfType) (B : LfType) (i : ℕ) → InContext (B ∷ G) i → LiftedSet (InContext G) i
in_push G B zero x = tt
in_push G B (suc i) (A, (C, g, e)) = (C, g)

-- what is typed mentions only the variables of its context
module _ (Σ : Signature) where
  mutual
    pub typed_only : (G : List LfType) (M : Term) (A : LfType) → HasType Σ G M A → FreeVariablesIn (InContext G) M
    typed_only G (lambda M) (pi A B) m = FreeVariablesIn-weaker (InContext (A ∷ G)) (LiftedSet (InContext G)) (in_push G A) M (typed_only (A ∷ G) M B m)
    typed_only G (lambda M) (atom a T) m = absurd m
    typed_only G (root h S) (pi A B) m = absurd m
    typed_only G (root (constant c) S) (atom a T) (A, g, s) = typed_only_spine G S A (atom a T) s
    typed_only G (root (variable i) S) (atom a T) (A, g, s) = ((A, g), typed_only_spine G S A (atom a T) s)
    typed_only G (root (metavariable m) S) (atom a T) (A, g, s) = absurd g

    typed_only_spine : (G : List LfType) (S : Spine) (A C : LfType) → SpineType Σ G S A C → FreeVariablesInSpine (InContext G) S
    typed_only_spine G nil A C s = tt
    typed_only_spine G (app M S) (pi A B) C (m, s) = (typed_only G M A m, typed_only_spine G S (instantiate_type A M B) C s)
    typed_only_spine G (app M S) (atom a T) C s = absurd s

  typed_only_kind : (G : List LfType) (S : Spine) (K : Kind) → SpineFitsKind Σ G S K → FreeVariablesInSpine (InContext G) S
  typed_only_kind G nil K s = tt
  typed_only_kind G (app M S) (kind_pi A K) (m, s) = (typed_only G M A m, typed_only_kind G S (instantiate_kind A M K) s)
  typed_only_kind G (app M S) star s = absurd s

  pub typed_only_type : (G : List LfType) (A : LfType) → IsType Σ G A → FreeVariablesInType (InContext G) A
  typed_only_type G (pi A B) (a, b) = (typed_only_type G A a, only_weaker_type (InContext (A ∷ G)) (LiftedSet (InContext G)) (in_push G A) B (typed_only_type (A ∷ G) B b))
  typed_only_type G (atom a S) (K, e, s) = typed_only_kind G S K s

  kind_weaker : (P Q : ℕ → Type 0) → ((i : ℕ) → P i → Q i) → (K : Kind) → FreeVariablesInKind P K → FreeVariablesInKind Q K
  kind_weaker P Q h (kind_pi A K) (a, b) = (only_weaker_type P Q h A a, kind_weaker (LiftedSet P) (LiftedSet Q) (lifted P Q h) K b)
    where
      lifted : (P Q : ℕ → Type 0) → ((i : ℕ) → P i → Q i) → (i : ℕ) → LiftedSet P i → LiftedSet Q i
      lifted P Q h zero p = tt
      lifted P Q h (suc i) p = h i p
  kind_weaker P Q h star s = tt

  kind_only : (G : List LfType) (K : Kind) → IsKind Σ G K → FreeVariablesInKind (InContext G) K
  kind_only G (kind_pi A K) (a, b) = (typed_only_type G A a, kind_weaker (InContext (A ∷ G)) (LiftedSet (InContext G)) (in_push G A) K (kind_only (A ∷ G) K b))
  kind_only G star k = tt

  -- what is closed has no variable for which a head could stand
  pub closed_type_heads : (h : ℕ → Head) (A : LfType) → IsType Σ [] A → type_with_heads h A ≡ A
  closed_type_heads h A a = same_heads_type (λ i. ⊥) h variable (λ i p. absurd p) A (closed_only Σ (λ i. ⊥) A a) ∙ heads_themselves_type A

  closed_kind_heads : (h : ℕ → Head) (K : Kind) → IsKind Σ [] K → kind_with_heads h K ≡ K
  closed_kind_heads h K k = same_heads_kind (λ i. ⊥) h variable (λ i p. absurd p) K (kind_weaker (InContext []) (λ i. ⊥) (λ i x. absurd x.1) K (kind_only [] K k)) ∙ heads_themselves_kind K

module _ (Σ : Signature) (ok : IsSignature Σ) (Ψ : ℕ → Option LfType) (U : (ℕ → Option Term) → Type 0) where
  -- each variable of E has a head of its type, in the local context D
  abbrev pub HeadsHaveTypes : List LfType → List LfType → (ℕ → Head) → Type 0
  HeadsHaveTypes E D h = (i : ℕ) (A : LfType) → TypeAt E i A → OpenHeadHasType Σ [] Ψ U D (h i) (type_with_heads h A)

  head_up : (D : List LfType) (B : LfType) (g : Head) (X : LfType) → OpenHeadHasType Σ [] Ψ U D g X → OpenHeadHasType Σ [] Ψ U (B ∷ D) (rename_head suc g) (weaken X)
  head_up D B (constant c) X e = subst (λ Y. Σ.types c ≡ Some Y) (sym (closed_type_renamed Σ suc X (ok.types_ok c X e))) e
  head_up D B (variable i) X g = (X, g, refl)
  head_up D B (metavariable m) X (Y, g, e) = (Y, g, ap weaken e)

  heads_under : (E D : List LfType) (h : ℕ → Head) (B : LfType) → HeadsHaveTypes E D h → HeadsHaveTypes (B ∷ E) (type_with_heads h B ∷ D) (under_head h)
  heads_under E D h B w zero A e = ap (type_with_heads (under_head h)) e ∙ heads_of_weakened h B
  heads_under E D h B w (suc i) A (C, g, e) = subst (OpenHeadHasType Σ [] Ψ U (type_with_heads h B ∷ D) (rename_head suc (h i))) (sym (ap (type_with_heads (under_head h)) e ∙ heads_of_weakened h C)) (head_up D (type_with_heads h B) (h i) (type_with_heads h C) (w i C g))

  mutual
    pub open_typed : (E D : List LfType) (h : ℕ → Head) → HeadsHaveTypes E D h → (M : Term) (A : LfType) → HasType Σ E M A → OpenHasType Σ [] Ψ U D (with_heads h M) (type_with_heads h A)
    open_typed E D h w (lambda M) (pi A B) m = open_typed (A ∷ E) (type_with_heads h A ∷ D) (under_head h) (heads_under E D h A w) M B m
    open_typed E D h w (lambda M) (atom a T) m = absurd m
    open_typed E D h w (root g S) (pi A B) m = absurd m
    open_typed E D h w (root (constant c) S) (atom a T) (A, e, s) = (A, e, subst (λ X. OpenSpineType Σ [] Ψ U D (spine_with_heads h S) X (type_with_heads h (atom a T))) (closed_type_heads Σ h A (ok.types_ok c A e)) (open_typed_spine E D h w S A (atom a T) s))
    open_typed E D h w (root (variable i) S) (atom a T) (A, g, s) = (type_with_heads h A, w i A g, open_typed_spine E D h w S A (atom a T) s)
    open_typed E D h w (root (metavariable m) S) (atom a T) (A, g, s) = absurd g

    open_typed_spine : (E D : List LfType) (h : ℕ → Head) → HeadsHaveTypes E D h → (S : Spine) (A C : LfType) → SpineType Σ E S A C → OpenSpineType Σ [] Ψ U D (spine_with_heads h S) (type_with_heads h A) (type_with_heads h C)
    open_typed_spine E D h w nil A C e = (ap (λ X. skeleton (type_with_heads h X)) e, λ β u. ap (λ X. fill_type (skeletons_of Ψ) (under_locals D β) (type_with_heads h X)) e)
    open_typed_spine E D h w (app M S) (pi A B) C (m, s) = (open_typed E D h w M A m, subst (λ X. OpenSpineType Σ [] Ψ U D (spine_with_heads h S) X (type_with_heads h C)) (heads_of_instance h A M B) (open_typed_spine E D h w S (instantiate_type A M B) C s))
    open_typed_spine E D h w (app M S) (atom a T) C s = absurd s

  open_typed_kind : (E D : List LfType) (h : ℕ → Head) → HeadsHaveTypes E D h → (S : Spine) (K : Kind) → SpineFitsKind Σ E S K → OpenSpineFitsKind Σ [] Ψ U D (spine_with_heads h S) (kind_with_heads h K)
  open_typed_kind E D h w nil (kind_pi A K) s = absurd s
  open_typed_kind E D h w nil star s = tt
  open_typed_kind E D h w (app M S) (kind_pi A K) (m, s) = (open_typed E D h w M A m, subst (OpenSpineFitsKind Σ [] Ψ U D (spine_with_heads h S)) (heads_of_instance_kind h A M K) (open_typed_kind E D h w S (instantiate_kind A M K) s))
  open_typed_kind E D h w (app M S) star s = absurd s

  pub open_typed_type : (E D : List LfType) (h : ℕ → Head) → HeadsHaveTypes E D h → (A : LfType) → IsType Σ E A → OpenIsType Σ [] Ψ U D (type_with_heads h A)
  open_typed_type E D h w (pi A B) (a, b) = (open_typed_type E D h w A a, open_typed_type (A ∷ E) (type_with_heads h A ∷ D) (under_head h) (heads_under E D h A w) B b)
  open_typed_type E D h w (atom a S) (K, e, s) = (K, e, subst (OpenSpineFitsKind Σ [] Ψ U D (spine_with_heads h S)) (closed_kind_heads Σ h K (ok.kinds_ok a K e)) (open_typed_kind E D h w S K s))
