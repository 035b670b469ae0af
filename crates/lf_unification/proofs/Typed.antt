-- The values of a store are typed, along an order of dependency, under each unifier that is typed at what has no value.
use Rattle.std.proofs.Common.{◌≡◌, ℕ, List, [], ◌∷◌, Option, Some, ◌⊎◌, inl, inr, refl, sym, subst}
use Rattle.lf.specs.Subordination.{Member}
use Rattle.lf.specs.Syntax.{Kind, Spine, Term, LfType, app, atom, constant, kind_pi, lambda, metavariable, nil, pi, root, star, variable}
use Rattle.lf.specs.Typing.{HasType, IsSignature, Signature, instantiate_kind, instantiate_type}
use Rattle.lf_unification.specs.Filling.{fill, fill_type}
use Rattle.lf_unification.specs.PartialInstance.{PartialInstance}
use Rattle.lf_unification.specs.OpenTyping.{OpenSpineFitsKind, DeclarationsAreTyped, OpenSpineType, OpenHasType, OpenIsType, ValueHasType, skeletons_of}
use Rattle.lf_unification.specs.Dependency.{IsDependencyOrder, IsListed, ListedMetavariable, ValueIsOrdered}
use Rattle.lf_unification.proofs.OpenSound.{OpenHasType-sound}
use Rattle.lf_unification.proofs.Scope.{in_weaker}

-- typing up to fewer fillings
module _ (Σ : Signature) (G : List LfType) (Ψ : ℕ → Option LfType) (U U' : (ℕ → Option Term) → Type 0) (fewer : (β : ℕ → Option Term) → U' β → U β) where
  mutual
    pub OpenHasType-weaker : (D : List LfType) (M : Term) (A : LfType) → OpenHasType Σ G Ψ U D M A → OpenHasType Σ G Ψ U' D M A
    OpenHasType-weaker D (lambda M) (pi A B) m = OpenHasType-weaker (A ∷ D) M B m
    OpenHasType-weaker D (lambda M) (atom a T) m = m
    OpenHasType-weaker D (root h S) (pi A B) m = m
    OpenHasType-weaker D (root (constant c) S) (atom a T) (A, g, s) = (A, g, OpenSpineType-weaker D S A (atom a T) s)
    OpenHasType-weaker D (root (variable c) S) (atom a T) (A, g, s) = (A, g, OpenSpineType-weaker D S A (atom a T) s)
    OpenHasType-weaker D (root (metavariable c) S) (atom a T) (A, g, s) = (A, g, OpenSpineType-weaker D S A (atom a T) s)

    pub OpenSpineType-weaker : (D : List LfType) (S : Spine) (A C : LfType) → OpenSpineType Σ G Ψ U D S A C → OpenSpineType Σ G Ψ U' D S A C
    OpenSpineType-weaker D nil A C (e, f) = (e, λ β u. f β (fewer β u))
    OpenSpineType-weaker D (app M S) (pi A B) C (m, s) = (OpenHasType-weaker D M A m, OpenSpineType-weaker D S (instantiate_type A M B) C s)
    OpenSpineType-weaker D (app M S) (atom a T) C s = s

  pub OpenSpineFitsKind-weaker : (D : List LfType) (S : Spine) (K : Kind) → OpenSpineFitsKind Σ G Ψ U D S K → OpenSpineFitsKind Σ G Ψ U' D S K
  OpenSpineFitsKind-weaker D nil (kind_pi A K) s = s
  OpenSpineFitsKind-weaker D nil star s = s
  OpenSpineFitsKind-weaker D (app M S) (kind_pi A K) (m, s) = (OpenHasType-weaker D M A m, OpenSpineFitsKind-weaker D S (instantiate_kind A M K) s)
  OpenSpineFitsKind-weaker D (app M S) star s = s

  pub OpenIsType-weaker : (D : List LfType) (A : LfType) → OpenIsType Σ G Ψ U D A → OpenIsType Σ G Ψ U' D A
  OpenIsType-weaker D (pi A B) (a, b) = (OpenIsType-weaker D A a, OpenIsType-weaker (A ∷ D) B b)
  OpenIsType-weaker D (atom a S) (K, e, s) = (K, e, OpenSpineFitsKind-weaker D S K s)

module _ (Σ : Signature) (ok : IsSignature Σ) (Ψ : ℕ → Option LfType) (U : (ℕ → Option Term) → Type 0) (declarations_typed : DeclarationsAreTyped Σ [] Ψ U) (F : List LfType) (β : ℕ → Option Term) (u : U β) (V : ℕ → Type 0) where
  abbrev TypedAt : ℕ → Type 0
  TypedAt m = ValueHasType Σ F (skeletons_of Ψ) β (Ψ m) (β m)

  -- it is typed by V, or has its listed value, filled
  abbrev pub Known : ListedMetavariable → Type 0
  Known it = V it.of ⊎ ((N : Term) × (it.value ≡ Some N) × (β it.of ≡ Some (fill (skeletons_of Ψ) β N)))

  put_typed : (x : Option LfType) (y : Option Term) (A : LfType) (N : Term) → x ≡ Some A → y ≡ Some N → HasType Σ F N (fill_type (skeletons_of Ψ) β A) → ValueHasType Σ F (skeletons_of Ψ) β x y
  put_typed x y A N e f h = subst (λ z. ValueHasType Σ F (skeletons_of Ψ) β z y) (sym e) (subst (λ z. ValueHasType Σ F (skeletons_of Ψ) β (Some A) z) (sym f) h)

  retyped : (W W' : ℕ → Type 0) → PartialInstance Σ [] Ψ W F β → ((m : ℕ) → W' m → TypedAt m) → PartialInstance Σ [] Ψ W' F β
  retyped W W' w t = record { context = w.context; outer = w.outer; by_skeletons = w.by_skeletons; typed = t; plain_context = w.plain_context; plain_values = w.plain_values }

  -- THE theorem on an order of dependency: what is listed is typed, where each is typed already or has its value
  pub values_typed : (is : List ListedMetavariable) → PartialInstance Σ [] Ψ V F β → IsDependencyOrder Σ Ψ U is → ((it : ListedMetavariable) → Member it is → Known it) → PartialInstance Σ [] Ψ (λ m. V m ⊎ IsListed is m) F β
  values_typed [] w o each = retyped V (λ m. V m ⊎ ⊥) w at
    where
      at : (m : ℕ) → V m ⊎ ⊥ → TypedAt m
      at m (inl v) = w.typed m v
      at m (inr l) = absurd l
  values_typed (it ∷ is) w o each = next (values_typed is w o.0 (λ x i. each x (inr i)))
    where
      next : PartialInstance Σ [] Ψ (λ m. V m ⊎ IsListed is m) F β → PartialInstance Σ [] Ψ (λ m. V m ⊎ IsListed (it ∷ is) m) F β
      next rest = retyped (λ m. V m ⊎ IsListed is m) (λ m. V m ⊎ IsListed (it ∷ is) m) rest at
        where
          valued : (N : Term) → it.value ≡ Some N → β it.of ≡ Some (fill (skeletons_of Ψ) β N) → TypedAt it.of
          valued N q e =
              let v : ValueIsOrdered Σ Ψ U is it.of_type (Some N) = subst (ValueIsOrdered Σ Ψ U is it.of_type) q o.6 in
              put_typed (Ψ it.of) (β it.of) it.of_type (fill (skeletons_of Ψ) β N) o.1 e
              (OpenHasType-sound Σ ok [] Ψ U (λ m. V m ⊎ IsListed is m) F β rest declarations_typed u [] N it.of_type tt (declarations_typed.metavariables_typed it.of it.of_type o.1) (in_weaker (IsListed is) (λ m. V m ⊎ IsListed is m) (λ m l. inr l) N v.0) v.1)

          here : Known it → TypedAt it.of
          here (inl v) = w.typed it.of v
          here (inr (N, q, e)) = valued N q e

          at : (m : ℕ) → V m ⊎ IsListed (it ∷ is) m → TypedAt m
          at m (inl v) = w.typed m v
          at m (inr (inl e)) = subst TypedAt (sym e) (here (each it (inl refl)))
          at m (inr (inr l)) = rest.typed m (inr l)
