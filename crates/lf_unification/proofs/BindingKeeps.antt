-- A binding keeps the typing of a store, up to its own fillings.
use Rattle.std.proofs.Common.{◌≡◌, ℕ, List, [], ◌∷◌, Option, Some, None, refl, sym, ap, subst}
use Rattle.lf.specs.SkeletonTyping.{TermSkeleton}
use Rattle.lf.specs.Skeletons.{context_skeletons}
use Rattle.lf.specs.Syntax.{Skeleton, Spine, Term, LfType, arrow, atom, base, metavariable, rename, root, skeleton}
use Rattle.lf.specs.Typing.{IsSignature, Signature}
use Rattle.lf_unification.specs.Filling.{fill}
use Rattle.lf_unification.specs.PartialInstance.{IsFilling, PartialInstance, ValueBySkeletons, IsTypedStore}
use Rattle.lf_unification.specs.OpenTyping.{MetavariablesIn, OpenHasType, skeletons_of}
use Rattle.lf_unification.specs.Patterns.{beyond, local_skeletons}
use Rattle.lf_unification.specs.Patterns.{Injective, PatternFits, lambdas_of, pattern, pattern_renaming}
use Rattle.lf_unification.specs.Skeletons.{TotalSkeletons, as_head_skeletons, total_skeletons, skeleton_or_default}
use Rattle.lf_unification.specs.Unifiers.{Binding, Equation, Solves, Store}
use Rattle.lf_unification.proofs.BindTyped.{binding_typed}
use Rattle.lf_unification.proofs.Fillings.{BindingsAreTyped-weaker, EquationsAreTyped-weaker, DeclarationsAreTyped-weaker, fillings_half}
use Rattle.lf_unification.proofs.Patterns.{bind_sound}
use Rattle.lf_unification.proofs.StepLemmas.{beyond_skeletons, under_moved}
use Rattle.lf_unification.proofs.Typed.{OpenHasType-weaker}

pub in_lambdas : (V : ℕ → Type 0) (t : Skeleton) (N : Term) → MetavariablesIn V N → MetavariablesIn V (lambdas_of t N)
in_lambdas V (base c) N i = i
in_lambdas V (arrow a b) N i = in_lambdas V b N i

module _ (Σ : Signature) (ok : IsSignature Σ) (G : List LfType) (Ψ : ℕ → Option LfType) (bs : List Binding) (es : List Equation) (D : List LfType) (m : ℕ) (A : LfType) (declared : Ψ m ≡ Some A) (xs : List ℕ) (places : (Γ : List Skeleton) → PatternFits (local_skeletons D Γ) (skeletons_of Ψ m) xs) (inj : Injective (pattern_renaming (skeletons_of Ψ m) xs (beyond D))) (N : Term) (c : ℕ) (T : Spine) where
  abbrev μ : ℕ → Skeleton
  μ = skeletons_of Ψ

  abbrev κ : TotalSkeletons
  κ = total_skeletons Σ μ

  abbrev equation : Equation
  equation = record { local = D; left = root (metavariable m) (pattern (skeletons_of Ψ m) xs); right = rename (pattern_renaming (skeletons_of Ψ m) xs (beyond D)) N; of_type = atom c T }

  abbrev pub before : Store
  before = record { metavariables = Ψ; bindings = bs; equations = record { local = D; left = root (metavariable m) (pattern (skeletons_of Ψ m) xs); right = rename (pattern_renaming (skeletons_of Ψ m) xs (beyond D)) N; of_type = atom c T } ∷ es }

  abbrev pub after : Store
  after = record { metavariables = Ψ; bindings = record { of = m; value = lambdas_of (skeletons_of Ψ m) N } ∷ bs; equations = es }

  same_skeleton : skeletons_of Ψ m ≡ skeleton A
  same_skeleton = ap skeleton_or_default declared

  value_skeletons : (F : List LfType) (V : Term) (x : Option LfType) (y : Option Term) → x ≡ Some A → y ≡ Some V → ValueBySkeletons Σ F μ x y → TermSkeleton (as_head_skeletons κ) (context_skeletons F) V (skeleton A)
  value_skeletons F V None y e f w = cc
  value_skeletons F V (Some B) None e f w = absurd w
  value_skeletons F V (Some B) (Some W) e f w = let p : B ≡ A = cc in let q : W ≡ V = cc in subst (λ X. TermSkeleton (as_head_skeletons κ) (context_skeletons F) V (skeleton X)) p (subst (λ X. TermSkeleton (as_head_skeletons κ) (context_skeletons F) X (skeleton B)) q w)

  -- the binding solves the equation, at each filling by skeletons
  solves_half : (F : List LfType) (β : ℕ → Option Term) → PartialInstance Σ G Ψ (λ k. ⊥) F β → β m ≡ Some (fill μ β (lambdas_of (μ m) N)) → Solves μ β equation
  solves_half F β w q =
      subst (λ b. fill μ b (root (metavariable m) (pattern (μ m) xs)) ≡ fill μ b (rename (pattern_renaming (μ m) xs (beyond D)) N)) (sym (under_moved D β))
      (bind_sound κ (context_skeletons F) (local_skeletons D (context_skeletons F)) (beyond D) (beyond_skeletons D (context_skeletons F)) m xs (places (context_skeletons F)) β (fill μ β (lambdas_of (μ m) N)) q
      (subst (TermSkeleton (as_head_skeletons κ) (context_skeletons F) (fill μ β (lambdas_of (μ m) N))) (sym same_skeleton) (value_skeletons F (fill μ β (lambdas_of (μ m) N)) (Ψ m) (β m) declared q (w.by_skeletons m))) N refl)

  pub fewer : (β : ℕ → Option Term) → IsFilling Σ G after β → IsFilling Σ G before β
  fewer β (F, w, ((q, r), s)) = (F, w, (r, (solves_half F β w q, s)))

  -- THE theorem on the typing of a binding
  pub bind_ok : IsTypedStore Σ G before → IsTypedStore Σ G after
  bind_ok w = record {
    declarations_typed = DeclarationsAreTyped-weaker Σ G Ψ (IsFilling Σ G before) (IsFilling Σ G after) fewer w.declarations_typed;
    bindings_typed = (
      (A, declared, OpenHasType-weaker Σ G Ψ (IsFilling Σ G before) (IsFilling Σ G after) fewer [] (lambdas_of (skeletons_of Ψ m) N) A value),
      BindingsAreTyped-weaker Σ G Ψ (IsFilling Σ G before) (IsFilling Σ G after) fewer bs w.bindings_typed,
    );
    equations_typed = EquationsAreTyped-weaker Σ G Ψ (IsFilling Σ G before) (IsFilling Σ G after) fewer es w.equations_typed.1;
  }
    where
      value : OpenHasType Σ G Ψ (IsFilling Σ G before) [] (lambdas_of (skeletons_of Ψ m) N) A
      value =
          let e = w.equations_typed.0 in
          let q : skeletons_of Ψ m ≡ skeleton A = same_skeleton in
          subst (λ t. OpenHasType Σ G Ψ (IsFilling Σ G before) [] (lambdas_of t N) A) (sym q)
          (binding_typed Σ ok G Ψ (IsFilling Σ G before) w.declarations_typed (fillings_half Σ G before) D e.local_typed m A declared xs
          (λ Γ. subst (λ t. PatternFits (local_skeletons D Γ) t xs) q (places Γ))
          (subst (λ t. Injective (pattern_renaming t xs (beyond D))) q inj) c T
          (subst (λ t. OpenHasType Σ G Ψ (IsFilling Σ G before) D (root (metavariable m) (pattern t xs)) (atom c T)) q e.left_typed) N e.type_typed
          (subst (λ t. OpenHasType Σ G Ψ (IsFilling Σ G before) D (rename (pattern_renaming t xs (beyond D)) N) (atom c T)) q e.right_typed))
