-- A store whose metavariables are the variables of a context has an order of dependency: theirs. So it is well formed where its equations are typed.
use Rattle.std.proofs.Common.{◌≡◌, ℕ, zero, suc, ◌+◌, ◌≤◌, List, [], ◌∷◌, inl, inr, refl, sym, ap, ◌∙◌, subst, arith}
use Rattle.std.specs.Prelude.{Option, Some, None}
use Rattle.lf.specs.Syntax.{Head, constant, variable, metavariable, Term, Spine, lambda, root, nil, app, LfType, pi, atom, Skeleton, base, arrow, skeleton, weaken, lift_renaming, rename_head, rename, rename_spine, rename_type}
use Rattle.lf.specs.AtOnce.{shift_by}
use Rattle.lf.specs.SkeletonTyping.{SkeletonAt, TermSkeleton, SpineSkeleton, TypeBySkeletons}
use Rattle.lf.specs.Skeletons.{constant_skeletons, family_skeletons, context_skeletons}
use Rattle.lf.specs.Typing.{Signature, TypeAt, IsContext, IsSignature}
use Rattle.lf.proofs.ToSkeletons.{type_by_skeletons}
use Rattle.lf.proofs.TypeLaws.{renamings_compose_type}
use Rattle.lf.proofs.Weakening.{declared_is_type}
use Rattle.lf_unification.specs.Dependency.{ListedMetavariable, IsListed, IsDependencyOrder}
use Rattle.lf_unification.specs.OpenTyping.{DeclarationsAreTyped, MetavariablesIn, MetavariablesInSpine, MetavariablesInType, OpenIsType}
use Rattle.lf_unification.specs.PartialInstance.{EquationsAreTyped, IsFilling}
use Rattle.lf_unification.specs.Solving.{IsWellFormed, ValuesAreBindings}
use Rattle.lf_unification.specs.Unifiers.{Equation}
use Rattle.lf_coverage.specs.SplitStore.{open_variable, open_term, open_spine, open_type, open_some, type_in, context_metavariables}
use Rattle.lf_coverage.proofs.Forms.{no_shift_type}
use Rattle.lf_coverage.proofs.OpenTyped.{opened_is_closed, type_opened}
use Rattle.lf_coverage.proofs.Parts.{none_some}
use Rattle.lf_coverage.proofs.StoreSolution.{looked_up, found_type}
use mathlib.Core.Path.{fun_ext}

-- The metavariables of the variables of a context G that stand behind n newer ones, the newest first.
abbrev pub order_of : ℕ → List LfType → List ListedMetavariable
order_of n [] = []
order_of n (A ∷ G) = record { of = n; of_type = open_type zero (rename_type (shift_by (suc n)) A); value = None } ∷ order_of (suc n) G

listed_far : (n m : ℕ) (G : List LfType) → IsListed (order_of n G) m → n ≤ m
listed_far n m [] h = absurd h
listed_far n m (A ∷ G) (inl e) = same n m e
  where
    same : (n m : ℕ) → m ≡ n → n ≤ m
    same n m e = omega arith
listed_far n m (A ∷ G) (inr h) = before n m (listed_far (suc n) m G h)
  where
    before : (n m : ℕ) → suc n ≤ m → n ≤ m
    before n m h = omega arith

listed_at : (n i : ℕ) (G : List LfType) (t : Skeleton) → SkeletonAt (context_skeletons G) i t → IsListed (order_of n G) (i + n)
listed_at n i [] t g = absurd g
listed_at n zero (A ∷ G) t g = inl (none n)
  where
    none : (n : ℕ) → 0 + n ≡ n
    none n = omega arith
listed_at n (suc i) (A ∷ G) t g = inr (subst (IsListed (order_of (suc n) G)) (next i n) (listed_at (suc n) i G t g))
  where
    next : (i n : ℕ) → i + suc n ≡ suc i + n
    next i n = omega arith

-- the metavariable that a head is is in V
abbrev HeadIn : (ℕ → Type 0) → Head → Type 0
HeadIn V (constant c) = Unit {0}
HeadIn V (variable i) = Unit {0}
HeadIn V (metavariable m) = V m

head_in_next : (V : ℕ → Type 0) (h : Head) → HeadIn V h → HeadIn V (rename_head suc h)
head_in_next V (constant c) w = w
head_in_next V (variable i) w = w
head_in_next V (metavariable m) w = w

root_in : (V : ℕ → Type 0) (h : Head) (S : Spine) → HeadIn V h → MetavariablesInSpine V S → MetavariablesIn V (root h S)
root_in V (constant c) S w s = s
root_in V (variable i) S w s = s
root_in V (metavariable m) S w s = (w, s)

module _ (Σ : Signature) (V : ℕ → Type 0) where
  abbrev AllIn : ℕ → List Skeleton → (ℕ → ℕ) → Type 0
  AllIn k Γ ρ = (i : ℕ) (t : Skeleton) → SkeletonAt Γ i t → HeadIn V (open_variable k (ρ i))

  all_in_under : (k : ℕ) (Γ : List Skeleton) (ρ : ℕ → ℕ) (a : Skeleton) → AllIn k Γ ρ → AllIn (suc k) (a ∷ Γ) (lift_renaming ρ)
  all_in_under k Γ ρ a h zero t g = tt
  all_in_under k Γ ρ a h (suc i) t g = head_in_next V (open_variable k (ρ i)) (h i t g)

  mutual
    opened_in : (k : ℕ) (Γ : List Skeleton) (ρ : ℕ → ℕ) → AllIn k Γ ρ → (M : Term) (t : Skeleton) → TermSkeleton (constant_skeletons Σ) Γ M t → MetavariablesIn V (open_term k (rename ρ M))
    opened_in k Γ ρ h (lambda M) (arrow a b) m = opened_in (suc k) (a ∷ Γ) (lift_renaming ρ) (all_in_under k Γ ρ a h) M b m
    opened_in k Γ ρ h (lambda M) (base c) m = absurd m
    opened_in k Γ ρ h (root g S) (arrow a b) m = absurd m
    opened_in k Γ ρ h (root (constant c) S) (base d) (t, g, m) = opened_in_spine k Γ ρ h S t (base d) m
    opened_in k Γ ρ h (root (metavariable c) S) (base d) (t, g, m) = absurd cc
    opened_in k Γ ρ h (root (variable i) S) (base d) (t, g, m) = root_in V (open_variable k (ρ i)) (open_spine k (rename_spine ρ S)) (h i t g) (opened_in_spine k Γ ρ h S t (base d) m)

    opened_in_spine : (k : ℕ) (Γ : List Skeleton) (ρ : ℕ → ℕ) → AllIn k Γ ρ → (S : Spine) (t u : Skeleton) → SpineSkeleton (constant_skeletons Σ) Γ S t u → MetavariablesInSpine V (open_spine k (rename_spine ρ S))
    opened_in_spine k Γ ρ h nil t u m = tt
    opened_in_spine k Γ ρ h (app M S) (arrow a b) u (m, n) = (opened_in k Γ ρ h M a m, opened_in_spine k Γ ρ h S b u n)
    opened_in_spine k Γ ρ h (app M S) (base c) u m = absurd m

  opened_in_type : (k : ℕ) (Γ : List Skeleton) (ρ : ℕ → ℕ) → AllIn k Γ ρ → (A : LfType) → TypeBySkeletons (family_skeletons Σ) (constant_skeletons Σ) Γ A → MetavariablesInType V (open_type k (rename_type ρ A))
  opened_in_type k Γ ρ h (pi A B) (a, b) = (opened_in_type k Γ ρ h A a, opened_in_type (suc k) (skeleton A ∷ Γ) (lift_renaming ρ) (all_in_under k Γ ρ (skeleton A) h) B b)
  opened_in_type k Γ ρ h (atom a S) (t, e, m) = opened_in_spine k Γ ρ h S t (base a) m

module _ (Σ : Signature) (ok : IsSignature Σ) (O : List LfType) (c : IsContext Σ O) where
  module _ (U : (ℕ → Option Term) → Type 0) where
    declared_open : (m : ℕ) (A : LfType) → context_metavariables O m ≡ Some A → OpenIsType Σ [] (context_metavariables O) U [] A
    declared_open m A e = by (type_in O m) refl e
      where
        some_same : (X : LfType) → Some (open_type zero X) ≡ Some A → open_type zero X ≡ A
        some_same X e = cc

        by : (y : Option LfType) → type_in O m ≡ y → open_some y ≡ Some A → OpenIsType Σ [] (context_metavariables O) U [] A
        by None q e = absurd (none_some e)
        by (Some X) q e = subst (OpenIsType Σ [] (context_metavariables O) U []) (some_same X e) (type_opened Σ ok O U [] X (declared_is_type Σ ok O m X c (found_type O m X q)))

    pub context_declared : DeclarationsAreTyped Σ [] (context_metavariables O) U
    context_declared = record { outer_typed = λ i A g. absurd g; metavariables_typed = declared_open }

    -- the metavariables of a part of the context
    part_ordered : (n : ℕ) (G : List LfType) → IsContext Σ G → ((i : ℕ) (A : LfType) → TypeAt G i A → TypeAt O (i + n) (rename_type (shift_by n) A)) → IsDependencyOrder Σ (context_metavariables O) U (order_of n G)
    part_ordered n [] d h = tt
    part_ordered n (A ∷ G) (d, t) h =
        let X : LfType = rename_type (shift_by (suc n)) A in
        let at : TypeAt O n X = subst (TypeAt O n) (renamings_compose_type (shift_by n) suc A ∙ ap (λ ρ. rename_type ρ A) (fun_ext (λ i. next i n))) (subst (λ j. TypeAt O j (rename_type (shift_by n) (weaken A))) (none n) (h zero (weaken A) refl)) in (
          part_ordered (suc n) G d (λ i B g. subst (λ Y. TypeAt O (i + suc n) Y) (renamings_compose_type (shift_by n) suc B ∙ ap (λ ρ. rename_type ρ B) (fun_ext (λ j. next j n))) (subst (λ j. TypeAt O j (rename_type (shift_by n) (weaken B))) (next i n) (h (suc i) (weaken B) (B, g, refl)))),
          ap open_some (looked_up O n X at),
          (λ l. no_more n (listed_far (suc n) n G l)),
          opened_in_type Σ (IsListed (order_of (suc n) G)) zero (context_skeletons G) (shift_by (suc n)) (λ i s g. listed_at (suc n) i G s g) A (type_by_skeletons Σ G A t),
          type_opened Σ ok O U [] X (declared_is_type Σ ok O n X c at),
          (λ ρ. opened_is_closed ρ X),
          tt,
        )
      where
        next : (i n : ℕ) → suc i + n ≡ i + suc n
        next i n = omega arith

        none : (n : ℕ) → 0 + n ≡ n
        none n = omega arith

        no_more : (n : ℕ) → suc n ≤ n → ⊥
        no_more n h = omega arith

    pub context_ordered : IsDependencyOrder Σ (context_metavariables O) U (order_of zero O)
    context_ordered = part_ordered zero O c (λ i A g. subst (λ j. TypeAt O j (rename_type (shift_by zero) A)) (none i) (subst (TypeAt O i) (sym (no_shift_type A)) g))
      where
        none : (i : ℕ) → i ≡ i + 0
        none i = omega arith

  all_listed : (m : ℕ) (A : LfType) → context_metavariables O m ≡ Some A → IsListed (order_of zero O) m
  all_listed m A e = by (type_in O m) refl e
    where
      none : (i : ℕ) → i + 0 ≡ i
      none i = omega arith

      at : (G : List LfType) (i : ℕ) (X : LfType) → TypeAt G i X → (t : Skeleton) × SkeletonAt (context_skeletons G) i t
      at [] i X g = absurd g
      at (B ∷ G) zero X g = (skeleton B, refl)
      at (B ∷ G) (suc i) X (C, g, e) = at G i C g

      by : (y : Option LfType) → type_in O m ≡ y → open_some y ≡ Some A → IsListed (order_of zero O) m
      by None q e = absurd (none_some e)
      by (Some X) q e = let (t, s) = at O m X (found_type O m X q) in subst (IsListed (order_of zero O)) (none m) (listed_at zero m O t s)

  no_values : (n : ℕ) (G : List LfType) → ValuesAreBindings [] (order_of n G)
  no_values n [] = tt
  no_values n (A ∷ G) = ((λ N e. absurd (none_some e)), no_values (suc n) G)

  -- The lemma
  pub context_store_ready : (es : List Equation) → EquationsAreTyped Σ [] (context_metavariables O) (IsFilling Σ [] (record { metavariables = context_metavariables O; bindings = []; equations = es })) es → IsWellFormed Σ (record { metavariables = context_metavariables O; bindings = []; equations = es })
  context_store_ready es h =
      let U : (ℕ → Option Term) → Type 0 = IsFilling Σ [] (record { metavariables = context_metavariables O; bindings = []; equations = es }) in
      record {
        order = order_of zero O;
        is_order = context_ordered U;
        all_listed = all_listed;
        bindings_listed = tt;
        values_bound = no_values zero O;
        typed = record { declarations_typed = context_declared U; bindings_typed = tt; equations_typed = h };
      }
