-- Down a rigid path: where the filled term and its type mention only P, closed under types, so do the binders on the way and the part's type.
use Rattle.std.proofs.Common.{◌≡◌, ℕ, zero, suc, List, [], ◌∷◌, Option, refl, sym, subst}
use Rattle.lf.specs.SkeletonTyping.{TypeBySkeletons}
use Rattle.lf.specs.Skeletons.{context_skeletons, family_skeletons}
use Rattle.lf.specs.Syntax.{Spine, Term, LfType, atom, pi, rename_type, skeleton, lift_renaming}
use Rattle.lf.specs.Typing.{TypeAt, IsSignature, Signature, instantiate_type}
use Rattle.lf.specs.Variables.{onto}
use Rattle.lf_unification.specs.Filling.{fill, fill_spine, fill_type, moved}
use Rattle.lf_unification.specs.PartialInstance.{PartialInstance, LocalBySkeletonsUpTo, TypeBySkeletonsUpTo}
use Rattle.lf_unification.specs.OpenTyping.{DeclarationsAreTyped, OpenSpineType, OpenHasType, fill_locals, skeletons_of, under_locals}
use Rattle.lf_unification.specs.Inversion.{IsUnderBinders}
use Rattle.lf_unification.specs.Patterns.{FreeVariablesIn, FreeVariablesInSpine, LiftedSet}
use Rattle.lf_unification.specs.Rigid.{LiftedSetBy, Rigid, RigidInSpine, first, here, in_constant, in_lambda, in_variable, later}
use Rattle.lf_unification.specs.Skeletons.{as_head_skeletons, total_skeletons}
use Rattle.lf.proofs.Substitution.{constant_type}
use Rattle.lf_unification.proofs.Exhaust.{local_skeleton_context}
use Rattle.lf_unification.proofs.Filling.{fill_instance}
use Rattle.lf_unification.proofs.Fillings.{at_skeletons, next_skeletons}
use Rattle.lf_unification.proofs.OpenSound.{OpenHasType-by_skeletons, fill_typed_type, local_at, skeletons_under}
use Rattle.lf_unification.proofs.Raise.{local_skeleton_fill}
use Rattle.lf_unification.proofs.ToSkeletons.{type_by_skeletons}
use Rattle.lf_unification.proofs.Total.{only_forth_spine, push_forth}
use Rattle.lf_unification.proofs.Within.{FreeVariablesInType, closed_only, only_instance}

only_forth_type : (P Q : ℕ → Type 0) (ρ : ℕ → ℕ) → ((i : ℕ) → P i → Q (ρ i)) → (A : LfType) → FreeVariablesInType P A → FreeVariablesInType Q (rename_type ρ A)
only_forth_type P Q ρ h (pi A B) (a, b) = (only_forth_type P Q ρ h A a, only_forth_type (LiftedSet P) (LiftedSet Q) (lift_renaming ρ) (push_forth P Q ρ h) B b)
only_forth_type P Q ρ h (atom a S) s = only_forth_spine P Q ρ h S s

-- P holds, of each variable of the context in it, the variables of its type
abbrev pub ClosedIn : List LfType → (ℕ → Type 0) → Type 0
ClosedIn H P = (i : ℕ) (A : LfType) → TypeAt H i A → P i → FreeVariablesInType P A

closed_push : (H : List LfType) (B : LfType) (P : ℕ → Type 0) → ClosedIn H P → FreeVariablesInType P B → ClosedIn (B ∷ H) (LiftedSet P)
closed_push H B P h b zero A e p = subst (FreeVariablesInType (LiftedSet P)) (sym e) (only_forth_type P (LiftedSet P) suc (λ i q. q) B b)
closed_push H B P h b (suc i) A (C, g, e) p = subst (FreeVariablesInType (LiftedSet P)) (sym e) (only_forth_type P (LiftedSet P) suc (λ j q. q) C (h i C g p))

extended_suc : (A : LfType) (D E : List LfType) (k : ℕ) → IsUnderBinders (A ∷ D) k E → IsUnderBinders D (suc k) E
extended_suc A D [] zero e = cc
extended_suc A D (X ∷ E) zero e = (let p : X ∷ E ≡ A ∷ D = e in cc)
extended_suc A D [] (suc k) e = e
extended_suc A D (X ∷ E) (suc k) e = extended_suc A D E k e

module _ (Σ : Signature) (ok : IsSignature Σ) (G : List LfType) (Ψ : ℕ → Option LfType) (U : (ℕ → Option Term) → Type 0) (o : DeclarationsAreTyped Σ G Ψ U) (F : List LfType) (β : ℕ → Option Term) (w : PartialInstance Σ G Ψ (λ m. ⊥) F β) (u : U β) where
  abbrev pub filled : List LfType → List LfType
  filled D = onto (fill_locals (skeletons_of Ψ) β D) F

  -- what is found at the part N
  pub record Found (N : Term) (k : ℕ) (D : List LfType) (P : ℕ → Type 0) : Type 0 where
    pub context : List LfType
    pub extended : IsUnderBinders D k context
    pub local_typed : LocalBySkeletonsUpTo Σ G Ψ U context
    pub of_type : LfType
    pub type_typed : TypeBySkeletonsUpTo Σ G Ψ U context of_type
    pub typed : OpenHasType Σ G Ψ U context N of_type
    pub closed : (i : ℕ) (A : LfType) → TypeAt (onto (fill_locals (skeletons_of Ψ) β context) F) i A → LiftedSetBy k P i → FreeVariablesInType (LiftedSetBy k P) A
    pub within : FreeVariablesInType (LiftedSetBy k P) (fill_type (skeletons_of Ψ) (under_locals context β) of_type)

  deeper : (N : Term) (k : ℕ) (A : LfType) (D : List LfType) (P : ℕ → Type 0) → Found N k (A ∷ D) (LiftedSet P) → Found N (suc k) D P
  deeper N k A D P f = record { context = f.context; extended = extended_suc A D f.context k f.extended; local_typed = f.local_typed; of_type = f.of_type; type_typed = f.type_typed; typed = f.typed; closed = f.closed; within = f.within }

  next_within : (D : List LfType) (A : LfType) (M : Term) (B : LfType) (P : ℕ → Type 0) → OpenHasType Σ G Ψ U D M A → TypeBySkeletonsUpTo Σ G Ψ U D (pi A B) → FreeVariablesIn P (fill (skeletons_of Ψ) (under_locals D β) M) → FreeVariablesInType (LiftedSet P) (fill_type (skeletons_of Ψ) (moved suc (under_locals D β)) B) → FreeVariablesInType P (fill_type (skeletons_of Ψ) (under_locals D β) (instantiate_type A M B))
  next_within D A M B P m b p q =
      subst (FreeVariablesInType P) (sym (fill_instance (total_skeletons Σ (skeletons_of Ψ)) (family_skeletons Σ) (context_skeletons (onto (fill_locals (skeletons_of Ψ) β D) F)) (under_locals D β) A M B (skeletons_under Σ ok G Ψ U (λ k. ⊥) F β w D) (OpenHasType-by_skeletons Σ ok G Ψ U (λ k. ⊥) F β w D M A m)
      (subst (λ Γ. TypeBySkeletons (family_skeletons Σ) (as_head_skeletons (total_skeletons Σ (skeletons_of Ψ))) (skeleton A ∷ Γ) B) (sym (local_skeleton_fill (skeletons_of Ψ) β D F)) (b F β w u).1)))
      (only_instance P (fill_type (skeletons_of Ψ) (under_locals D β) A) (fill (skeletons_of Ψ) (under_locals D β) M) (fill_type (skeletons_of Ψ) (moved suc (under_locals D β)) B) p q)

  mutual
    -- THE lemma
    pub walk : {N : Term} {k : ℕ} {M : Term} → Rigid N k M → (D : List LfType) (A : LfType) (P : ℕ → Type 0) → LocalBySkeletonsUpTo Σ G Ψ U D → TypeBySkeletonsUpTo Σ G Ψ U D A → OpenHasType Σ G Ψ U D M A → ClosedIn (onto (fill_locals (skeletons_of Ψ) β D) F) P → FreeVariablesIn P (fill (skeletons_of Ψ) (under_locals D β) M) → FreeVariablesInType P (fill_type (skeletons_of Ψ) (under_locals D β) A) → Found N k D P
    walk here D A P l a m h p q = record { context = D; extended = refl; local_typed = l; of_type = A; type_typed = a; typed = m; closed = h; within = q }
    walk {N = N} (in_lambda {k = k} r) D (pi A B) P l a m h p q = deeper N k A D P (walk r (A ∷ D) B (LiftedSet P) (l, λ F' β' w' u'. (a F' β' w' u').0) (λ F' β' w' u'. (a F' β' w' u').1) m (closed_push (onto (fill_locals (skeletons_of Ψ) β D) F) (fill_type (skeletons_of Ψ) (under_locals D β) A) P h q.0) p q.1)
    walk (in_lambda r) D (atom a T) P l x m h p q = absurd m
    walk (in_constant r) D (pi A B) P l a m h p q = absurd m
    walk (in_constant {c = c} r) D (atom a T) P l x (A, g, s) h p q =
        walk_spine r D A (atom a T) P l (λ F' β' w' u'. subst (λ Γ. TypeBySkeletons (family_skeletons Σ) (as_head_skeletons (total_skeletons Σ (skeletons_of Ψ))) Γ A) (local_skeleton_context D F') (type_by_skeletons Σ (skeletons_of Ψ) (onto D F') A (constant_type Σ ok (onto D F') c A g))) s h p
        (subst (FreeVariablesInType P) (sym (fill_typed_type Σ (skeletons_of Ψ) [] (under_locals D β) A (ok.types_ok c A g))) (closed_only Σ P A (ok.types_ok c A g)))
    walk (in_variable r) D (pi A B) P l a m h p q = absurd m
    walk (in_variable {i = i} r) D (atom a T) P l x (A, g, s) h p q =
        walk_spine r D A (atom a T) P l (at_skeletons Σ ok G Ψ U o D l i A g) s h p.1 (h i (fill_type (skeletons_of Ψ) (under_locals D β) A) (local_at Σ ok G Ψ U (λ k. ⊥) F β w D i A g) p.0)

    walk_spine : {N : Term} {k : ℕ} {S : Spine} → RigidInSpine N k S → (D : List LfType) (A C : LfType) (P : ℕ → Type 0) → LocalBySkeletonsUpTo Σ G Ψ U D → TypeBySkeletonsUpTo Σ G Ψ U D A → OpenSpineType Σ G Ψ U D S A C → ClosedIn (onto (fill_locals (skeletons_of Ψ) β D) F) P → FreeVariablesInSpine P (fill_spine (skeletons_of Ψ) (under_locals D β) S) → FreeVariablesInType P (fill_type (skeletons_of Ψ) (under_locals D β) A) → Found N k D P
    walk_spine (first r) D (pi A B) C P l a (m, s) h (p, ps) (q, qs) = walk r D A P l (λ F' β' w' u'. (a F' β' w' u').0) m h p q
    walk_spine (first r) D (atom b T) C P l a s h p q = absurd s
    walk_spine (later {M = M} r) D (pi A B) C P l a (m, s) h (p, ps) (q, qs) = walk_spine r D (instantiate_type A M B) C P l (next_skeletons Σ ok G Ψ U D A M B m a) s h ps (next_within D A M B P m a p qs)
    walk_spine (later r) D (atom b T) C P l a s h p q = absurd s
