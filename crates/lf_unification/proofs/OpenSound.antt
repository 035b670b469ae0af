-- What is typed up to U is typed under each instance in U.
use Rattle.std.proofs.Common.{◌≡◌, ℕ, zero, suc, List, [], ◌∷◌, Option, Some, None, refl, sym, ap, ap₂, ◌∙◌, subst}
use Rattle.lf.specs.Substitution.{reduce, single}
use Rattle.lf.specs.SkeletonTyping.{SkeletonAt, SpineSkeleton, TermSkeleton, TypeBySkeletons}
use Rattle.lf.specs.Skeletons.{context_skeletons, family_skeletons, family_skeleton, type_skeleton}
use Rattle.lf.specs.Syntax.{Kind, Skeleton, Spine, Term, LfType, app, atom, base, constant, kind_pi, lambda, metavariable, nil, pi, rename, root, skeleton, kind_skeleton, star, variable}
use Rattle.lf.specs.Typing.{TypeAt, SpineFitsKind, SpineType, HasType, IsContext, IsSignature, IsType, Signature, instantiate_kind, instantiate_type}
use Rattle.lf.specs.Variables.{onto}
use Rattle.lf_unification.specs.Filling.{fill, fill_spine, fill_type, moved, fill_metavariable, rename_value}
use Rattle.lf_unification.specs.PartialInstance.{PartialInstance, ValueBySkeletons, ValueIsPlain}
use Rattle.lf_unification.specs.OpenTyping.{IsInstance, MetavariablesIn, MetavariablesInSpine, MetavariablesInType, OpenSpineFitsKind, OpenIsContext, DeclarationsAreTyped, OpenSpineType, OpenHasType, OpenIsType, ValueHasType, fill_locals, skeletons_of, weaken_past, under_locals}
use Rattle.lf_unification.specs.Skeletons.{TotalSkeletons, as_head_skeletons, total_skeletons, skeleton_or_default}
use Rattle.lf.proofs.SkeletonTypes.{single_type_by_skeletons}
use Rattle.lf.proofs.Substitution.{constant_type}
use Rattle.lf.proofs.ToSkeletons.{variable_has_skeleton, kind_skeleton_substituted}
use Rattle.lf.proofs.TypeLaws.{skeleton_renamed, skeleton_substituted}
use Rattle.lf.proofs.Weakening.{renaming_keeps_typing, weakening_renames}
use Rattle.lf_unification.proofs.Filling.{SkeletonsFill, SkeletonsFill-weak, ValueHasSkeleton, TypeBySkeletons-fill, fill_instance, fill_rename_type, skeleton_fill}
use Rattle.lf_unification.proofs.Scope.{in_rename_type, in_typed, in_typed_type}
use Rattle.lf_unification.proofs.Substitution.{SkeletonContext, skeleton_context_of, skeleton_context_push, SkeletonType-weakened, reduction_keeps_typing}
use Rattle.lf_unification.proofs.ToSkeletons.{typed_has_skeleton, type_by_skeletons}

-- what is typed has no metavariable to fill
module _ (Σ : Signature) (μ : ℕ → Skeleton) where
  mutual
    pub fill_typed : (G : List LfType) (β : ℕ → Option Term) (M : Term) (A : LfType) → HasType Σ G M A → fill μ β M ≡ M
    fill_typed G β (lambda M) (pi A B) m = ap lambda (fill_typed (A ∷ G) (moved suc β) M B m)
    fill_typed G β (lambda M) (atom a T) m = absurd m
    fill_typed G β (root k S) (pi A B) m = absurd m
    fill_typed G β (root (constant c) S) (atom a T) (A, g, s) = ap (root (constant c)) (fill_typed_spine G β S A (atom a T) s)
    fill_typed G β (root (variable i) S) (atom a T) (A, g, s) = ap (root (variable i)) (fill_typed_spine G β S A (atom a T) s)
    fill_typed G β (root (metavariable m) S) (atom a T) (A, g, s) = absurd g

    pub fill_typed_spine : (G : List LfType) (β : ℕ → Option Term) (S : Spine) (A C : LfType) → SpineType Σ G S A C → fill_spine μ β S ≡ S
    fill_typed_spine G β nil A C s = refl
    fill_typed_spine G β (app M S) (pi A B) C (m, s) = ap₂ app (fill_typed G β M A m) (fill_typed_spine G β S (instantiate_type A M B) C s)
    fill_typed_spine G β (app M S) (atom a T) C s = absurd s

  pub fill_typed_kind_spine : (G : List LfType) (β : ℕ → Option Term) (S : Spine) (K : Kind) → SpineFitsKind Σ G S K → fill_spine μ β S ≡ S
  fill_typed_kind_spine G β nil K s = refl
  fill_typed_kind_spine G β (app M S) (kind_pi A K) (m, s) = ap₂ app (fill_typed G β M A m) (fill_typed_kind_spine G β S (instantiate_kind A M K) s)
  fill_typed_kind_spine G β (app M S) star s = absurd s

  pub fill_typed_type : (G : List LfType) (β : ℕ → Option Term) (A : LfType) → IsType Σ G A → fill_type μ β A ≡ A
  fill_typed_type G β (pi A B) (a, b) = ap₂ pi (fill_typed_type G β A a) (fill_typed_type (A ∷ G) (moved suc β) B b)
  fill_typed_type G β (atom a S) (K, e, s) = ap (atom a) (fill_typed_kind_spine G β S K s)

pub skeleton_raise : (D : List LfType) (A : LfType) → skeleton (weaken_past D A) ≡ skeleton A
skeleton_raise [] A = refl
skeleton_raise (B ∷ D) A = skeleton_renamed suc (weaken_past D A) ∙ skeleton_raise D A

by_skeletons_of : (Σ : Signature) (F : List LfType) (μ : ℕ → Skeleton) (β : ℕ → Option Term) (x : Option LfType) (y : Option Term) → ValueHasType Σ F μ β x y → ValueBySkeletons Σ F μ x y
by_skeletons_of Σ F μ β None None t = t
by_skeletons_of Σ F μ β None (Some N) t = t
by_skeletons_of Σ F μ β (Some A) None t = t
by_skeletons_of Σ F μ β (Some A) (Some N) t = subst (TermSkeleton (as_head_skeletons (total_skeletons Σ μ)) (context_skeletons F) N) (skeleton_fill μ β A) (typed_has_skeleton Σ μ F N (fill_type μ β A) t)

-- what is typed has no metavariable
plain_at : (Σ : Signature) (F : List LfType) → IsContext Σ F → (i : ℕ) (A : LfType) → TypeAt F i A → MetavariablesInType (λ m. ⊥) A
plain_at Σ [] w i A g = absurd g
plain_at Σ (B ∷ F) (w, b) zero A e = subst (MetavariablesInType (λ m. ⊥)) (sym e) (in_rename_type (λ m. ⊥) suc B (in_typed_type (λ m. ⊥) Σ F B b))
plain_at Σ (B ∷ F) (w, b) (suc i) A (C, g, e) = subst (MetavariablesInType (λ m. ⊥)) (sym e) (in_rename_type (λ m. ⊥) suc C (plain_at Σ F w i C g))

plain_of : (Σ : Signature) (F : List LfType) (μ : ℕ → Skeleton) (β : ℕ → Option Term) (x : Option LfType) (y : Option Term) → ValueHasType Σ F μ β x y → ValueIsPlain y
plain_of Σ F μ β None None t = tt
plain_of Σ F μ β None (Some N) t = absurd t
plain_of Σ F μ β (Some A) None t = absurd t
plain_of Σ F μ β (Some A) (Some N) t = in_typed (λ m. ⊥) Σ F N (fill_type μ β A) t

pub PartialInstance-of : (Σ : Signature) (ok : IsSignature Σ) (G : List LfType) (Ψ : ℕ → Option LfType) (V : ℕ → Type 0) (F : List LfType) (β : ℕ → Option Term) → IsInstance Σ G Ψ F β → PartialInstance Σ G Ψ V F β
PartialInstance-of Σ ok G Ψ V F β w = record {
  context = skeleton_context_of Σ (skeletons_of Ψ) ok F w.context;
  outer = w.outer;
  by_skeletons = λ m. by_skeletons_of Σ F (skeletons_of Ψ) β (Ψ m) (β m) (w.typed m);
  typed = λ m v. w.typed m;
  plain_context = λ i A g. plain_at Σ F w.context i A g;
  plain_values = λ m. plain_of Σ F (skeletons_of Ψ) β (Ψ m) (β m) (w.typed m);
}

module _ (Σ : Signature) (ok : IsSignature Σ) (G : List LfType) (Ψ : ℕ → Option LfType) (U : (ℕ → Option Term) → Type 0) (V : ℕ → Type 0) (F : List LfType) (β : ℕ → Option Term) (w : PartialInstance Σ G Ψ V F β) where
  abbrev μ : ℕ → Skeleton
  μ = skeletons_of Ψ

  abbrev κ : TotalSkeletons
  κ = total_skeletons Σ μ

  -- the filled context
  abbrev pub ctx : List LfType → List LfType
  ctx D = onto (fill_locals μ β D) F

  abbrev Γ : List LfType → List Skeleton
  Γ D = context_skeletons (ctx D)

  abbrev Sk : List LfType → LfType → Type 0
  Sk D A = TypeBySkeletons (family_skeletons Σ) (as_head_skeletons κ) (Γ D) A

  pub local_at : (D : List LfType) (i : ℕ) (A : LfType) → TypeAt (onto D G) i A → TypeAt (ctx D) i (fill_type μ (under_locals D β) A)
  local_at [] i A g = w.outer i A g
  local_at (B ∷ D) zero A e = ap (fill_type μ (moved suc (under_locals D β))) e ∙ sym (fill_rename_type μ suc (under_locals D β) B)
  local_at (B ∷ D) (suc i) A (C, g, e) = (fill_type μ (under_locals D β) C, local_at D i C g, ap (fill_type μ (moved suc (under_locals D β))) e ∙ sym (fill_rename_type μ suc (under_locals D β) C))

  at_skeleton : (D : List LfType) (i : ℕ) (A : LfType) → TypeAt (onto D G) i A → SkeletonAt (Γ D) i (skeleton A)
  at_skeleton D i A g = subst (SkeletonAt (Γ D) i) (skeleton_fill μ (under_locals D β) A) (variable_has_skeleton (ctx D) i (fill_type μ (under_locals D β) A) (local_at D i A g))

  typed_option : (x : Option LfType) (y : Option Term) → ValueBySkeletons Σ F μ x y → ValueHasSkeleton κ (context_skeletons F) y (skeleton_or_default x)
  typed_option None None t = tt
  typed_option None (Some N) t = absurd t
  typed_option (Some A) None t = absurd t
  typed_option (Some A) (Some N) t = t

  pub skeletons_under : (D : List LfType) → SkeletonsFill κ (Γ D) (under_locals D β)
  skeletons_under [] m = typed_option (Ψ m) (β m) (w.by_skeletons m)
  skeletons_under (A ∷ D) m = SkeletonsFill-weak κ (skeleton (fill_type μ (under_locals D β) A)) (Γ D) (under_locals D β) (skeletons_under D) m

  -- skeletons
  mutual
    pub OpenHasType-by_skeletons : (D : List LfType) (M : Term) (A : LfType) → OpenHasType Σ G Ψ U D M A → TermSkeleton (as_head_skeletons κ) (Γ D) M (skeleton A)
    OpenHasType-by_skeletons D (lambda M) (pi A B) m = subst (λ t. TermSkeleton (as_head_skeletons κ) (t ∷ Γ D) M (skeleton B)) (skeleton_fill μ (under_locals D β) A) (OpenHasType-by_skeletons (A ∷ D) M B m)
    OpenHasType-by_skeletons D (lambda M) (atom a T) m = m
    OpenHasType-by_skeletons D (root h S) (pi A B) m = m
    OpenHasType-by_skeletons D (root (constant c) S) (atom a T) (A, g, s) = (skeleton A, ap type_skeleton g, OpenSpineType-by_skeletons D S A (atom a T) s)
    OpenHasType-by_skeletons D (root (variable i) S) (atom a T) (A, g, s) = (skeleton A, at_skeleton D i A g, OpenSpineType-by_skeletons D S A (atom a T) s)
    OpenHasType-by_skeletons D (root (metavariable m) S) (atom a T) (A, (B, g, e), s) = (skeleton A, ap Some (sym (ap skeleton e ∙ skeleton_raise D B ∙ sym (ap skeleton_or_default g))), OpenSpineType-by_skeletons D S A (atom a T) s)

    pub OpenSpineType-by_skeletons : (D : List LfType) (S : Spine) (A C : LfType) → OpenSpineType Σ G Ψ U D S A C → SpineSkeleton (as_head_skeletons κ) (Γ D) S (skeleton A) (skeleton C)
    OpenSpineType-by_skeletons D nil A C e = e.0
    OpenSpineType-by_skeletons D (app M S) (pi A B) C (m, s) = (OpenHasType-by_skeletons D M A m, subst (λ t. SpineSkeleton (as_head_skeletons κ) (Γ D) S t (skeleton C)) (skeleton_substituted reduce (single (skeleton A) M) B) (OpenSpineType-by_skeletons D S (instantiate_type A M B) C s))
    OpenSpineType-by_skeletons D (app M S) (atom a T) C s = absurd s

  OpenSpineFitsKind-by_skeletons : (a : ℕ) (D : List LfType) (S : Spine) (K : Kind) → OpenSpineFitsKind Σ G Ψ U D S K → SpineSkeleton (as_head_skeletons κ) (Γ D) S (kind_skeleton a K) (base a)
  OpenSpineFitsKind-by_skeletons a D nil (kind_pi A K) s = absurd s
  OpenSpineFitsKind-by_skeletons a D nil star s = refl
  OpenSpineFitsKind-by_skeletons a D (app M S) (kind_pi A K) (m, s) = (OpenHasType-by_skeletons D M A m, subst (λ t. SpineSkeleton (as_head_skeletons κ) (Γ D) S t (base a)) (kind_skeleton_substituted a reduce (single (skeleton A) M) K) (OpenSpineFitsKind-by_skeletons a D S (instantiate_kind A M K) s))
  OpenSpineFitsKind-by_skeletons a D (app M S) star s = absurd s

  pub OpenIsType-by_skeletons : (D : List LfType) (A : LfType) → OpenIsType Σ G Ψ U D A → Sk D A
  OpenIsType-by_skeletons D (pi A B) (a, b) = (OpenIsType-by_skeletons D A a, subst (λ t. TypeBySkeletons (family_skeletons Σ) (as_head_skeletons κ) (t ∷ Γ D) B) (skeleton_fill μ (under_locals D β) A) (OpenIsType-by_skeletons (A ∷ D) B b))
  OpenIsType-by_skeletons D (atom a S) (K, e, s) = (kind_skeleton a K, ap (family_skeleton a) e, OpenSpineFitsKind-by_skeletons a D S K s)

  skeletons_raise : (D : List LfType) (A : LfType) → Sk [] A → Sk D (weaken_past D A)
  skeletons_raise [] A a = a
  skeletons_raise (B ∷ D) A a = SkeletonType-weakened Σ μ ok (ctx D) (fill_type μ (under_locals D β) B) (weaken_past D A) (skeletons_raise D A a)

  skeletons_fill : (D : List LfType) (A : LfType) → Sk D A → Sk D (fill_type μ (under_locals D β) A)
  skeletons_fill D A a = TypeBySkeletons-fill κ (family_skeletons Σ) (Γ D) (under_locals D β) A (skeletons_under D) a

  -- the values, under the local context
  value : (x : Option LfType) (y : Option Term) (B : LfType) → ValueHasType Σ F μ β x y → x ≡ Some B → (N : Term) × (y ≡ Some N) × HasType Σ F N (fill_type μ β B)
  value None None B t e = cc
  value None (Some N) B t e = absurd t
  value (Some A) None B t e = absurd t
  value (Some A) (Some N) B t e = (N, refl, (let p : A ≡ B = cc in subst (λ X. HasType Σ F N (fill_type μ β X)) p t))

  pub typed_under : (D : List LfType) (m : ℕ) (B : LfType) → V m → Ψ m ≡ Some B → (N : Term) × (under_locals D β m ≡ Some N) × HasType Σ (ctx D) N (fill_type μ (under_locals D β) (weaken_past D B))
  typed_under [] m B v e = value (Ψ m) (β m) B (w.typed m v) e
  typed_under (A ∷ D) m B v e =
      let (N, q, n) = typed_under D m B v e in
      let A' : LfType = fill_type μ (under_locals D β) A in
      (rename suc N, ap (rename_value suc) q, subst (HasType Σ (A' ∷ ctx D) (rename suc N)) (fill_rename_type μ suc (under_locals D β) (weaken_past D B)) (renaming_keeps_typing Σ ok (ctx D) (A' ∷ ctx D) suc N (fill_type μ (under_locals D β) (weaken_past D B)) (weakening_renames (ctx D) A') n))

  module _ (declarations_typed : DeclarationsAreTyped Σ G Ψ U) (u : U β) where
    pub skeletons_metavariable : (D : List LfType) (m : ℕ) (B : LfType) → Ψ m ≡ Some B → Sk D (weaken_past D B)
    skeletons_metavariable D m B e = skeletons_raise D B (OpenIsType-by_skeletons [] B (declarations_typed.metavariables_typed m B e))

    skeletons_constant : (D : List LfType) (c : ℕ) (A : LfType) → Σ.types c ≡ Some A → Sk D A
    skeletons_constant D c A e = type_by_skeletons Σ μ (ctx D) A (constant_type Σ ok (ctx D) c A e)

    -- the types of the open context are typed by skeletons, which is all that typing asks of them
    abbrev pub LocalTypesBySkeletons : List LfType → Type 0
    LocalTypesBySkeletons D = (i : ℕ) (A : LfType) → TypeAt (onto D G) i A → Sk D A

    pub LocalTypesBySkeletons-push : (D : List LfType) (B : LfType) → LocalTypesBySkeletons D → Sk D B → LocalTypesBySkeletons (B ∷ D)
    LocalTypesBySkeletons-push D B l b zero A e = subst (Sk (B ∷ D)) (sym e) (SkeletonType-weakened Σ μ ok (ctx D) (fill_type μ (under_locals D β) B) B b)
    LocalTypesBySkeletons-push D B l b (suc i) A (C, g, e) = subst (Sk (B ∷ D)) (sym e) (SkeletonType-weakened Σ μ ok (ctx D) (fill_type μ (under_locals D β) B) C (l i C g))

    pub LocalTypesBySkeletons-of : (D : List LfType) → OpenIsContext Σ G Ψ U D → LocalTypesBySkeletons D
    LocalTypesBySkeletons-of [] l i A g = OpenIsType-by_skeletons [] A (declarations_typed.outer_typed i A g)
    LocalTypesBySkeletons-of (B ∷ D) l i A g = LocalTypesBySkeletons-push D B (LocalTypesBySkeletons-of D l.0) (OpenIsType-by_skeletons D B l.1) i A g

    pub SkeletonContext-fill : (D : List LfType) (B : LfType) → SkeletonContext Σ μ ok (ctx D) → Sk D B → SkeletonContext Σ μ ok (ctx (B ∷ D))
    SkeletonContext-fill D B c b = skeleton_context_push Σ μ ok (ctx D) (fill_type μ (under_locals D β) B) c (skeletons_fill D B b)

    pub SkeletonContext-local : (D : List LfType) → OpenIsContext Σ G Ψ U D → SkeletonContext Σ μ ok (ctx D)
    SkeletonContext-local [] l = w.context
    SkeletonContext-local (B ∷ D) l = SkeletonContext-fill D B (SkeletonContext-local D l.0) (OpenIsType-by_skeletons D B l.1)

    pub skeletons_instance : (D : List LfType) (A : LfType) (M : Term) (B : LfType) → OpenHasType Σ G Ψ U D M A → Sk D (pi A B) → Sk D (instantiate_type A M B)
    skeletons_instance D A M B m b = single_type_by_skeletons (family_skeletons Σ) (as_head_skeletons κ) (skeleton A) (Γ D) M B (OpenHasType-by_skeletons D M A m) b.1

    fill_closed : (D : List LfType) (c : ℕ) (A : LfType) → Σ.types c ≡ Some A → fill_type μ (under_locals D β) A ≡ A
    fill_closed D c A e = fill_typed_type Σ μ [] (under_locals D β) A (ok.types_ok c A e)

    metavariable_sound : (D : List LfType) (m : ℕ) (A B : LfType) (S : Spine) (C : LfType) → V m → Ψ m ≡ Some B → A ≡ weaken_past D B → SkeletonContext Σ μ ok (ctx D) → Sk D A → SpineType Σ (ctx D) (fill_spine μ (under_locals D β) S) (fill_type μ (under_locals D β) A) (fill_type μ (under_locals D β) C) → HasType Σ (ctx D) (fill μ (under_locals D β) (root (metavariable m) S)) (fill_type μ (under_locals D β) C)
    metavariable_sound D m A B S C v g e c t s =
        let (N, q, n) = typed_under D m B v g in
        let n' : HasType Σ (ctx D) N (fill_type μ (under_locals D β) A) = subst (λ X. HasType Σ (ctx D) N (fill_type μ (under_locals D β) X)) (sym e) n in
        let k : skeleton (fill_type μ (under_locals D β) A) ≡ μ m = skeleton_fill μ (under_locals D β) A ∙ ap skeleton e ∙ skeleton_raise D B ∙ sym (ap skeleton_or_default g) in
        subst (λ y. HasType Σ (ctx D) (fill_metavariable (μ m) m y (fill_spine μ (under_locals D β) S)) (fill_type μ (under_locals D β) C)) (sym q)
        (reduction_keeps_typing Σ μ ok (μ m) (ctx D) N (fill_spine μ (under_locals D β) S) (fill_type μ (under_locals D β) A) (fill_type μ (under_locals D β) C) k c (skeletons_fill D A t) n' s)

    mutual
      -- THE theorem
      pub OpenHasType-sound' : (D : List LfType) (M : Term) (A : LfType) → LocalTypesBySkeletons D → SkeletonContext Σ μ ok (ctx D) → Sk D A → MetavariablesIn V M → OpenHasType Σ G Ψ U D M A → HasType Σ (ctx D) (fill μ (under_locals D β) M) (fill_type μ (under_locals D β) A)
      OpenHasType-sound' D (lambda M) (pi A B) l c t v m = OpenHasType-sound' (A ∷ D) M B (LocalTypesBySkeletons-push D A l t.0) (SkeletonContext-fill D A c t.0) (subst (λ x. TypeBySkeletons (family_skeletons Σ) (as_head_skeletons κ) ((x ∷ (Γ D))) B) (sym (skeleton_fill μ (under_locals D β) A)) t.1) v m
      OpenHasType-sound' D (lambda M) (atom a T) l c t v m = absurd m
      OpenHasType-sound' D (root h S) (pi A B) l c t v m = absurd m
      OpenHasType-sound' D (root (constant d) S) (atom a T) l c t v (A, g, s) = (fill_type μ (under_locals D β) A, subst (λ X. Σ.types d ≡ Some X) (sym (fill_closed D d A g)) g, OpenSpineType-sound' D S A (atom a T) l c (skeletons_constant D d A g) v s)
      OpenHasType-sound' D (root (variable i) S) (atom a T) l c t v (A, g, s) = (fill_type μ (under_locals D β) A, local_at D i A g, OpenSpineType-sound' D S A (atom a T) l c (l i A g) v s)
      OpenHasType-sound' D (root (metavariable m) S) (atom a T) l c t v (A, (B, g, e), s) =
          let a_ok : Sk D A = subst (Sk D) (sym e) (skeletons_metavariable D m B g) in
          metavariable_sound D m A B S (atom a T) v.0 g e c a_ok (OpenSpineType-sound' D S A (atom a T) l c a_ok v.1 s)

      pub OpenSpineType-sound' : (D : List LfType) (S : Spine) (A C : LfType) → LocalTypesBySkeletons D → SkeletonContext Σ μ ok (ctx D) → Sk D A → MetavariablesInSpine V S → OpenSpineType Σ G Ψ U D S A C → SpineType Σ (ctx D) (fill_spine μ (under_locals D β) S) (fill_type μ (under_locals D β) A) (fill_type μ (under_locals D β) C)
      OpenSpineType-sound' D nil A C l c t v e = e.1 β u
      OpenSpineType-sound' D (app M S) (pi A B) C l c t v (m, s) = (
        OpenHasType-sound' D M A l c t.0 v.0 m,
        subst (λ X. SpineType Σ (ctx D) (fill_spine μ (under_locals D β) S) X (fill_type μ (under_locals D β) C)) (fill_instance κ (family_skeletons Σ) (Γ D) (under_locals D β) A M B (skeletons_under D) (OpenHasType-by_skeletons D M A m) t.1) (OpenSpineType-sound' D S (instantiate_type A M B) C l c (skeletons_instance D A M B m t) v.1 s),
      )
      OpenSpineType-sound' D (app M S) (atom a T) C l c t v s = absurd s

    pub OpenHasType-sound : (D : List LfType) (M : Term) (A : LfType) → OpenIsContext Σ G Ψ U D → OpenIsType Σ G Ψ U D A → MetavariablesIn V M → OpenHasType Σ G Ψ U D M A → HasType Σ (ctx D) (fill μ (under_locals D β) M) (fill_type μ (under_locals D β) A)
    OpenHasType-sound D M A l a v m = OpenHasType-sound' D M A (LocalTypesBySkeletons-of D l) (SkeletonContext-local D l) (OpenIsType-by_skeletons D A a) v m
