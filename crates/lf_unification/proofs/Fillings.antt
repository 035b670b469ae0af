-- The fillings up to which a store is typed; typing up to fewer fillings.
use Rattle.std.proofs.Common.{ℕ, zero, suc, List, [], ◌∷◌, Option, sym, subst}
use Rattle.lf.specs.SkeletonTyping.{TermSkeleton, TypeBySkeletons}
use Rattle.lf.specs.Skeletons.{context_skeletons, family_skeletons}
use Rattle.lf.specs.Syntax.{Term, LfType, lambda, pi, skeleton}
use Rattle.lf.specs.Typing.{TypeAt, IsSignature, Signature, instantiate_type}
use Rattle.lf.specs.Variables.{onto}
use Rattle.lf_unification.specs.PartialInstance.{EquationIsTyped, EquationsAreTyped, IsFilling, PartialInstance, LocalBySkeletonsUpTo, TypeBySkeletonsUpTo}
use Rattle.lf_unification.specs.OpenTyping.{OpenIsContext, DeclarationsAreTyped, OpenHasType, OpenIsType, fill_locals, skeletons_of}
use Rattle.lf_unification.specs.Patterns.{local_skeletons}
use Rattle.lf_unification.specs.Skeletons.{as_head_skeletons, total_skeletons}
use Rattle.lf_unification.specs.Unifiers.{Binding, BindingsAreTyped, Equation, EquationIsFullyTyped, Solution, Store, Unifies}
use Rattle.lf.proofs.SkeletonTypes.{renaming_keeps_types_by_skeletons, single_type_by_skeletons}
use Rattle.lf_unification.proofs.OpenSound.{SkeletonContext-fill, PartialInstance-of, LocalTypesBySkeletons, OpenHasType-by_skeletons, OpenIsType-by_skeletons}
use Rattle.lf_unification.proofs.Raise.{local_skeleton_fill}
use Rattle.lf_unification.proofs.Substitution.{SkeletonContext}
use Rattle.lf_unification.proofs.Typed.{OpenHasType-weaker, OpenIsType-weaker}

pub fillings_half : (Σ : Signature) (G : List LfType) (s : Store) (β : ℕ → Option Term) → IsFilling Σ G s β → (F : List LfType) × PartialInstance Σ G s.metavariables (λ m. ⊥) F β
fillings_half Σ G s β (F, w, u) = (F, w)

pub solution_fills : (Σ : Signature) (ok : IsSignature Σ) (G : List LfType) (s : Store) (F : List LfType) (β : ℕ → Option Term) → Solution Σ G s F β → IsFilling Σ G s β
solution_fills Σ ok G s F β (w, u) = (F, PartialInstance-of Σ ok G s.metavariables (λ m. ⊥) F β w, u)

-- with the same metavariables, more to be unified leaves fewer fillings
pub fillings_fewer : (Σ : Signature) (G : List LfType) (Ψ : ℕ → Option LfType) (bs bs' : List Binding) (es es' : List Equation) →
    ((β : ℕ → Option Term) → Unifies (record { metavariables = Ψ; bindings = bs'; equations = es' }) β → Unifies (record { metavariables = Ψ; bindings = bs; equations = es }) β) →
    (β : ℕ → Option Term) → IsFilling Σ G (record { metavariables = Ψ; bindings = bs'; equations = es' }) β → IsFilling Σ G (record { metavariables = Ψ; bindings = bs; equations = es }) β
fillings_fewer Σ G Ψ bs bs' es es' h β (F, w, u) = (F, w, h β u)

module _ (Σ : Signature) (G : List LfType) (Ψ : ℕ → Option LfType) (U U' : (ℕ → Option Term) → Type 0) (fewer : (β : ℕ → Option Term) → U' β → U β) where
  pub OpenIsContext-weaker : (D : List LfType) → OpenIsContext Σ G Ψ U D → OpenIsContext Σ G Ψ U' D
  OpenIsContext-weaker [] l = l
  OpenIsContext-weaker (A ∷ D) (l, a) = (OpenIsContext-weaker D l, OpenIsType-weaker Σ G Ψ U U' fewer D A a)

  pub DeclarationsAreTyped-weaker : DeclarationsAreTyped Σ G Ψ U → DeclarationsAreTyped Σ G Ψ U'
  DeclarationsAreTyped-weaker w = record { outer_typed = λ i A g. OpenIsType-weaker Σ G Ψ U U' fewer [] A (w.outer_typed i A g); metavariables_typed = λ m A e. OpenIsType-weaker Σ G Ψ U U' fewer [] A (w.metavariables_typed m A e) }

  pub EquationIsFullyTyped-weaker : (e : Equation) → EquationIsFullyTyped Σ G Ψ U e → EquationIsFullyTyped Σ G Ψ U' e
  EquationIsFullyTyped-weaker e w = record {
    local_typed = OpenIsContext-weaker e.local w.local_typed;
    type_typed = OpenIsType-weaker Σ G Ψ U U' fewer e.local e.of_type w.type_typed;
    left_typed = OpenHasType-weaker Σ G Ψ U U' fewer e.local e.left e.of_type w.left_typed;
    right_typed = OpenHasType-weaker Σ G Ψ U U' fewer e.local e.right e.of_type w.right_typed;
  }

  pub TypeBySkeletonsUpTo-weaker : (D : List LfType) (A : LfType) → TypeBySkeletonsUpTo Σ G Ψ U D A → TypeBySkeletonsUpTo Σ G Ψ U' D A
  TypeBySkeletonsUpTo-weaker D A a F β w u = a F β w (fewer β u)

  pub LocalBySkeletonsUpTo-weaker : (D : List LfType) → LocalBySkeletonsUpTo Σ G Ψ U D → LocalBySkeletonsUpTo Σ G Ψ U' D
  LocalBySkeletonsUpTo-weaker [] l = l
  LocalBySkeletonsUpTo-weaker (A ∷ D) (l, a) = (LocalBySkeletonsUpTo-weaker D l, TypeBySkeletonsUpTo-weaker D A a)

  pub EquationIsTyped-weaker : (e : Equation) → EquationIsTyped Σ G Ψ U e → EquationIsTyped Σ G Ψ U' e
  EquationIsTyped-weaker e w = record {
    local_typed = LocalBySkeletonsUpTo-weaker e.local w.local_typed;
    type_typed = TypeBySkeletonsUpTo-weaker e.local e.of_type w.type_typed;
    left_typed = OpenHasType-weaker Σ G Ψ U U' fewer e.local e.left e.of_type w.left_typed;
    right_typed = OpenHasType-weaker Σ G Ψ U U' fewer e.local e.right e.of_type w.right_typed;
  }

  pub EquationsAreTyped-weaker : (es : List Equation) → EquationsAreTyped Σ G Ψ U es → EquationsAreTyped Σ G Ψ U' es
  EquationsAreTyped-weaker [] w = w
  EquationsAreTyped-weaker (e ∷ es) (w, ws) = (EquationIsTyped-weaker e w, EquationsAreTyped-weaker es ws)

  pub BindingsAreTyped-weaker : (bs : List Binding) → BindingsAreTyped Σ G Ψ U bs → BindingsAreTyped Σ G Ψ U' bs
  BindingsAreTyped-weaker [] w = w
  BindingsAreTyped-weaker (b ∷ bs) ((A, e, t), w) = ((A, e, OpenHasType-weaker Σ G Ψ U U' fewer [] b.value A t), BindingsAreTyped-weaker bs w)

-- what is typed up to U is so by skeletons
module _ (Σ : Signature) (ok : IsSignature Σ) (G : List LfType) (Ψ : ℕ → Option LfType) (U : (ℕ → Option Term) → Type 0) where
  pub TypeBySkeletonsUpTo-of : (D : List LfType) (A : LfType) → OpenIsType Σ G Ψ U D A → TypeBySkeletonsUpTo Σ G Ψ U D A
  TypeBySkeletonsUpTo-of D A a F β w u = subst (λ Γ. TypeBySkeletons (family_skeletons Σ) (as_head_skeletons (total_skeletons Σ (skeletons_of Ψ))) Γ A) (local_skeleton_fill (skeletons_of Ψ) β D F) (OpenIsType-by_skeletons Σ ok G Ψ U (λ m. ⊥) F β w D A a)

  pub LocalBySkeletonsUpTo-of : (D : List LfType) → OpenIsContext Σ G Ψ U D → LocalBySkeletonsUpTo Σ G Ψ U D
  LocalBySkeletonsUpTo-of [] l = l
  LocalBySkeletonsUpTo-of (A ∷ D) (l, a) = (LocalBySkeletonsUpTo-of D l, TypeBySkeletonsUpTo-of D A a)

  pub EquationIsTyped-of : (e : Equation) → EquationIsFullyTyped Σ G Ψ U e → EquationIsTyped Σ G Ψ U e
  EquationIsTyped-of e w = record { local_typed = LocalBySkeletonsUpTo-of e.local w.local_typed; type_typed = TypeBySkeletonsUpTo-of e.local e.of_type w.type_typed; left_typed = w.left_typed; right_typed = w.right_typed }

  -- each type of the context is so, and the filled context
  pub at_skeletons : DeclarationsAreTyped Σ G Ψ U → (D : List LfType) → LocalBySkeletonsUpTo Σ G Ψ U D → (i : ℕ) (X : LfType) → TypeAt (onto D G) i X → TypeBySkeletonsUpTo Σ G Ψ U D X
  at_skeletons o [] l i X g = TypeBySkeletonsUpTo-of [] X (o.outer_typed i X g)
  at_skeletons o (B ∷ D) l zero X e = λ F β w u. subst (TypeBySkeletons (family_skeletons Σ) (as_head_skeletons (total_skeletons Σ (skeletons_of Ψ))) (skeleton B ∷ local_skeletons D (context_skeletons F))) (sym e) (renaming_keeps_types_by_skeletons (family_skeletons Σ) (as_head_skeletons (total_skeletons Σ (skeletons_of Ψ))) (local_skeletons D (context_skeletons F)) (skeleton B ∷ local_skeletons D (context_skeletons F)) suc B (λ i t g. g) (l.1 F β w u))
  at_skeletons o (B ∷ D) l (suc i) X (C, g, e) = λ F β w u. subst (TypeBySkeletons (family_skeletons Σ) (as_head_skeletons (total_skeletons Σ (skeletons_of Ψ))) (skeleton B ∷ local_skeletons D (context_skeletons F))) (sym e) (renaming_keeps_types_by_skeletons (family_skeletons Σ) (as_head_skeletons (total_skeletons Σ (skeletons_of Ψ))) (local_skeletons D (context_skeletons F)) (skeleton B ∷ local_skeletons D (context_skeletons F)) suc C (λ i t g. g) (at_skeletons o D l.0 i C g F β w u))

  module _ (F : List LfType) (β : ℕ → Option Term) (w : PartialInstance Σ G Ψ (λ m. ⊥) F β) (o : DeclarationsAreTyped Σ G Ψ U) (u : U β) where
    back_skeletons : (D : List LfType) (A : LfType) → TypeBySkeletonsUpTo Σ G Ψ U D A → TypeBySkeletons (family_skeletons Σ) (as_head_skeletons (total_skeletons Σ (skeletons_of Ψ))) (context_skeletons (onto (fill_locals (skeletons_of Ψ) β D) F)) A
    back_skeletons D A a = subst (λ Γ. TypeBySkeletons (family_skeletons Σ) (as_head_skeletons (total_skeletons Σ (skeletons_of Ψ))) Γ A) (sym (local_skeleton_fill (skeletons_of Ψ) β D F)) (a F β w u)

    pub local_at_skeletons : (D : List LfType) → LocalBySkeletonsUpTo Σ G Ψ U D → LocalTypesBySkeletons Σ ok G Ψ U (λ m. ⊥) F β w o u D
    local_at_skeletons D l i A g = back_skeletons D A (at_skeletons o D l i A g)

    pub filled_context_skeletons : (D : List LfType) → LocalBySkeletonsUpTo Σ G Ψ U D → SkeletonContext Σ (skeletons_of Ψ) ok (onto (fill_locals (skeletons_of Ψ) β D) F)
    filled_context_skeletons [] l = w.context
    filled_context_skeletons (B ∷ D) l = SkeletonContext-fill Σ ok G Ψ U (λ m. ⊥) F β w o u D B (filled_context_skeletons D l.0) (back_skeletons D B l.1)

  -- the next type of a spine
  pub next_skeletons : (D : List LfType) (A : LfType) (M : Term) (B : LfType) → OpenHasType Σ G Ψ U D M A → TypeBySkeletonsUpTo Σ G Ψ U D (pi A B) → TypeBySkeletonsUpTo Σ G Ψ U D (instantiate_type A M B)
  next_skeletons D A M B m b F β w u = single_type_by_skeletons (family_skeletons Σ) (as_head_skeletons (total_skeletons Σ (skeletons_of Ψ))) (skeleton A) (local_skeletons D (context_skeletons F)) M B (subst (λ Γ. TermSkeleton (as_head_skeletons (total_skeletons Σ (skeletons_of Ψ))) Γ M (skeleton A)) (local_skeleton_fill (skeletons_of Ψ) β D F) (OpenHasType-by_skeletons Σ ok G Ψ U (λ m. ⊥) F β w D M A m)) (b F β w u).1

  -- opening lambdas
  pub lambda_skeletons : (D : List LfType) (A B : LfType) (M N : Term) → EquationIsTyped Σ G Ψ U (record { local = D; left = lambda M; right = lambda N; of_type = pi A B }) → EquationIsTyped Σ G Ψ U (record { local = A ∷ D; left = M; right = N; of_type = B })
  lambda_skeletons D A B M N w = record { local_typed = (w.local_typed, λ F β h u. (w.type_typed F β h u).0); type_typed = λ F β h u. (w.type_typed F β h u).1; left_typed = w.left_typed; right_typed = w.right_typed }
