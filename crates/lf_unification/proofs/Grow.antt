-- Typing up to U goes along when metavariables are declared: U' over the larger store, whose fillings are, on what was declared, fillings of U.
use Rattle.std.proofs.Common.{◌≡◌, ℕ, zero, suc, List, [], ◌∷◌, Option, Some, sym, ap, ◌∙◌, subst}
use Rattle.lf.specs.Syntax.{Kind, Spine, Term, LfType, app, atom, constant, lambda, metavariable, nil, kind_pi, pi, root, star, variable}
use Rattle.lf.specs.Typing.{TypeAt, IsSignature, Signature, instantiate_kind, instantiate_type}
use Rattle.lf.specs.Variables.{onto}
use Rattle.lf_unification.specs.Filling.{fill_type}
use Rattle.lf_unification.specs.OpenTyping.{Declares, MetavariablesIn, MetavariablesInSpine, MetavariablesInType, OpenIsType, OpenSpineFitsKind, OpenSpineType, OpenHasType, skeletons_of, weaken_past, under_locals}
use Rattle.lf_unification.specs.Offering.{MetavariablesInLocals}
use Rattle.lf_unification.specs.Skeletons.{skeleton_or_default}
use Rattle.lf_unification.proofs.Agree.{fill_agree_type}
use Rattle.lf_unification.proofs.Offer.{under_agree}
use Rattle.lf_unification.proofs.Scope.{MetavariablesInKind, in_instance, in_instance_kind, in_typed_kind, in_rename_type, in_typed_type}

module _ (Σ : Signature) (ok : IsSignature Σ) (G : List LfType) (Ψ Ψ' : ℕ → Option LfType) (U U' : (ℕ → Option Term) → Type 0) (grows : (m : ℕ) (A : LfType) → Ψ m ≡ Some A → Ψ' m ≡ Some A) (part : (β' : ℕ → Option Term) → U' β' → (β : ℕ → Option Term) × U β × ((m : ℕ) → Declares Ψ m → β m ≡ β' m)) (outer : (i : ℕ) (A : LfType) → TypeAt G i A → MetavariablesInType (Declares Ψ) A) (types : (m : ℕ) (A : LfType) → Ψ m ≡ Some A → MetavariablesInType (Declares Ψ) A) where
  abbrev V : ℕ → Type 0
  V = Declares Ψ

  at_in : (D : List LfType) (i : ℕ) (A : LfType) → MetavariablesInLocals V D → TypeAt (onto D G) i A → MetavariablesInType V A
  at_in [] i A l g = outer i A g
  at_in (B ∷ D) zero A l e = subst (MetavariablesInType V) (sym e) (in_rename_type V suc B l.1)
  at_in (B ∷ D) (suc i) A l (C, g, e) = subst (MetavariablesInType V) (sym e) (in_rename_type V suc C (at_in D i C l.0 g))

  raise_in : (D : List LfType) (A : LfType) → MetavariablesInType V A → MetavariablesInType V (weaken_past D A)
  raise_in [] A i = i
  raise_in (B ∷ D) A i = in_rename_type V suc (weaken_past D A) (raise_in D A i)

  mutual
    pub open_in : (D : List LfType) (M : Term) (A : LfType) → OpenHasType Σ G Ψ U D M A → MetavariablesIn V M
    open_in D (lambda M) (pi A B) m = open_in (A ∷ D) M B m
    open_in D (lambda M) (atom a T) m = absurd m
    open_in D (root h S) (pi A B) m = absurd m
    open_in D (root (constant c) S) (atom a T) (A, g, s) = open_in_spine D S A (atom a T) s
    open_in D (root (variable i) S) (atom a T) (A, g, s) = open_in_spine D S A (atom a T) s
    open_in D (root (metavariable m) S) (atom a T) (A, (B, g, e), s) = ((B, g), open_in_spine D S A (atom a T) s)

    open_in_spine : (D : List LfType) (S : Spine) (A C : LfType) → OpenSpineType Σ G Ψ U D S A C → MetavariablesInSpine V S
    open_in_spine D nil A C s = tt
    open_in_spine D (app M S) (pi A B) C (m, s) = (open_in D M A m, open_in_spine D S (instantiate_type A M B) C s)
    open_in_spine D (app M S) (atom a T) C s = absurd s

  same_fill : (D : List LfType) (A : LfType) (β β' : ℕ → Option Term) → ((m : ℕ) → V m → β m ≡ β' m) → MetavariablesInType V A → fill_type (skeletons_of Ψ) (under_locals D β) A ≡ fill_type (skeletons_of Ψ') (under_locals D β') A
  same_fill D A β β' h i = fill_agree_type V (skeletons_of Ψ) (skeletons_of Ψ') (λ m d. ap skeleton_or_default (d.1 ∙ sym (grows m d.0 d.1))) (under_locals D β) (under_locals D β') A (under_agree V D β β' h) i

  mutual
    pub OpenHasType-grow : (D : List LfType) (M : Term) (A : LfType) → MetavariablesInLocals V D → MetavariablesInType V A → OpenHasType Σ G Ψ U D M A → OpenHasType Σ G Ψ' U' D M A
    OpenHasType-grow D (lambda M) (pi A B) l i m = OpenHasType-grow (A ∷ D) M B (l, i.0) i.1 m
    OpenHasType-grow D (lambda M) (atom a T) l i m = m
    OpenHasType-grow D (root h S) (pi A B) l i m = m
    OpenHasType-grow D (root (constant c) S) (atom a T) l i (A, g, s) = (A, g, OpenSpineType-grow D S A (atom a T) l (in_typed_type V Σ [] A (ok.types_ok c A g)) i s)
    OpenHasType-grow D (root (variable k) S) (atom a T) l i (A, g, s) = (A, g, OpenSpineType-grow D S A (atom a T) l (at_in D k A l g) i s)
    OpenHasType-grow D (root (metavariable m) S) (atom a T) l i (A, (B, g, e), s) = (A, (B, grows m B g, e), OpenSpineType-grow D S A (atom a T) l (subst (MetavariablesInType V) (sym e) (raise_in D B (types m B g))) i s)

    pub OpenSpineType-grow : (D : List LfType) (S : Spine) (A C : LfType) → MetavariablesInLocals V D → MetavariablesInType V A → MetavariablesInType V C → OpenSpineType Σ G Ψ U D S A C → OpenSpineType Σ G Ψ' U' D S A C
    OpenSpineType-grow D nil A C l i j (e, f) = (e, λ β' u'. let (β, u, h) = part β' u' in sym (same_fill D A β β' h i) ∙ f β u ∙ same_fill D C β β' h j)
    OpenSpineType-grow D (app M S) (pi A B) C l i j (m, s) = (OpenHasType-grow D M A l i.0 m, OpenSpineType-grow D S (instantiate_type A M B) C l (in_instance V A M B (open_in D M A m) i.1) j s)
    OpenSpineType-grow D (app M S) (atom a T) C l i j s = s

  OpenSpineFitsKind-grow : (D : List LfType) (S : Spine) (K : Kind) → MetavariablesInLocals V D → MetavariablesInKind V K → OpenSpineFitsKind Σ G Ψ U D S K → OpenSpineFitsKind Σ G Ψ' U' D S K
  OpenSpineFitsKind-grow D nil (kind_pi A K) l i s = s
  OpenSpineFitsKind-grow D nil star l i s = s
  OpenSpineFitsKind-grow D (app M S) (kind_pi A K) l (i, j) (m, s) = (OpenHasType-grow D M A l i m, OpenSpineFitsKind-grow D S (instantiate_kind A M K) l (in_instance_kind V A M K (open_in D M A m) j) s)
  OpenSpineFitsKind-grow D (app M S) star l i s = s

  pub OpenIsType-grow : (D : List LfType) (A : LfType) → MetavariablesInLocals V D → MetavariablesInType V A → OpenIsType Σ G Ψ U D A → OpenIsType Σ G Ψ' U' D A
  OpenIsType-grow D (pi A B) l (i, j) (a, b) = (OpenIsType-grow D A l i a, OpenIsType-grow (A ∷ D) B (l, i) j b)
  OpenIsType-grow D (atom a S) l i (K, e, s) = (K, e, OpenSpineFitsKind-grow D S K l (in_typed_kind V Σ [] K (ok.kinds_ok a K e)) s)
