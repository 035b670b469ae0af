-- Each step of unification keeps the typed unifiers.
use Rattle.std.proofs.Common.{◌≡◌, ℕ, suc, List, [], ◌∷◌, Option, Some, None, refl, sym, ap, ap₂, ◌∙◌, subst}
use mathlib.Core.Path.{fun_ext}
use Rattle.lf.specs.Substitution.{reduce, single}
use Rattle.lf.specs.SkeletonTyping.{SpineSkeleton, TermSkeleton}
use Rattle.lf.specs.Skeletons.{context_skeletons}
use Rattle.lf.specs.Syntax.{Head, Skeleton, Spine, Term, LfType, app, atom, base, constant, lambda, metavariable, nil, pi, rename, root, skeleton, variable}
use Rattle.lf.specs.Typing.{HeadHasType, SpineType, HasType, Signature, instantiate_type}
use Rattle.lf_unification.specs.Filling.{fill, fill_spine, fill_type, moved}
use Rattle.lf_unification.specs.OpenTyping.{IsInstance, ValueHasType, skeletons_of, under_locals}
use Rattle.lf_unification.specs.Patterns.{beyond, local_skeletons}
use Rattle.lf_unification.specs.Patterns.{Injective, PatternFits, lambdas_of, pattern, pattern_renaming}
use Rattle.lf_unification.specs.Offering.{argument_equations}
use Rattle.lf_unification.specs.Skeletons.{TotalSkeletons, as_head_skeletons, total_skeletons, skeleton_or_default}
use Rattle.lf_unification.specs.Unifiers.{KeepsUnifiers}
use Rattle.lf_unification.specs.Unifiers.{Binding, Equation, ExtendsFilling, Solves, SolvesAll, Unifies}
use Rattle.lf.proofs.Decidability.{variable_type_unique}
use Rattle.lf.specs.SkeletonTyping.{RenamingBySkeletons}
use Rattle.lf.proofs.TypeLaws.{skeleton_substituted}
use Rattle.lf_unification.proofs.Filling.{skeleton_fill}
use Rattle.lf_unification.proofs.Patterns.{bind_complete, bind_sound, moved_id, moved_moved}
use Rattle.lf_unification.proofs.ToSkeletons.{typed_has_skeleton}

-- Opening lambdas
module _ (μ : ℕ → Skeleton) (β : ℕ → Option Term) where
  pub open_lambda : (D : List LfType) (A B C : LfType) (M N : Term) → Solves μ β (record { local = D; left = lambda M; right = lambda N; of_type = C }) → Solves μ β (record { local = A ∷ D; left = M; right = N; of_type = B })
  open_lambda D A B C M N e = cc

  pub close_lambda : (D : List LfType) (A B C : LfType) (M N : Term) → Solves μ β (record { local = A ∷ D; left = M; right = N; of_type = B }) → Solves μ β (record { local = D; left = lambda M; right = lambda N; of_type = C })
  close_lambda D A B C M N e = ap lambda e

  -- equal rigid heads
  pub arguments_complete : (D : List LfType) (A : LfType) (S T : Spine) → fill_spine μ (under_locals D β) S ≡ fill_spine μ (under_locals D β) T → SolvesAll μ β (argument_equations D A S T)
  arguments_complete D (pi A B) (app M S) (app N T) e = ((let p : fill μ (under_locals D β) M ≡ fill μ (under_locals D β) N = cc in p), arguments_complete D (instantiate_type A M B) S T cc)
  arguments_complete D (pi A B) (app M S) nil e = tt
  arguments_complete D (pi A B) nil T e = tt
  arguments_complete D (atom a U) S T e = tt

  -- (both spines are taken by the skeleton of A to a base)
  pub arguments_sound : (κ : TotalSkeletons) (Γ : List Skeleton) (D : List LfType) (A : LfType) (S T : Spine) (c d : ℕ) → SpineSkeleton (as_head_skeletons κ) Γ S (skeleton A) (base c) → SpineSkeleton (as_head_skeletons κ) Γ T (skeleton A) (base d) → SolvesAll μ β (argument_equations D A S T) → fill_spine μ (under_locals D β) S ≡ fill_spine μ (under_locals D β) T
  arguments_sound κ Γ D (pi A B) (app M S) (app N T) c d s t (e, h) = ap₂ app e (arguments_sound κ Γ D (instantiate_type A M B) S T c d (again A M B S c s.1) (again A M B T d t.1) h)
    where
      again : (A : LfType) (M : Term) (B : LfType) (S : Spine) (c : ℕ) → SpineSkeleton (as_head_skeletons κ) Γ S (skeleton B) (base c) → SpineSkeleton (as_head_skeletons κ) Γ S (skeleton (instantiate_type A M B)) (base c)
      again A M B S c s = subst (λ t. SpineSkeleton (as_head_skeletons κ) Γ S t (base c)) (sym (skeleton_substituted reduce (single (skeleton A) M) B)) s
  arguments_sound κ Γ D (pi A B) (app M S) nil c d s t h = cc
  arguments_sound κ Γ D (pi A B) nil T c d s t h = cc
  arguments_sound κ Γ D (atom a U) nil nil c d s t h = refl
  arguments_sound κ Γ D (atom a U) (app M S) T c d s t h = absurd s
  arguments_sound κ Γ D (atom a U) nil (app N T) c d s t h = absurd t

  pub constant_complete : (D : List LfType) (A C : LfType) (c : ℕ) (S T : Spine) → Solves μ β (record { local = D; left = root (constant c) S; right = root (constant c) T; of_type = C }) → SolvesAll μ β (argument_equations D A S T)
  constant_complete D A C c S T e = arguments_complete D A S T cc

  pub variable_complete : (D : List LfType) (A C : LfType) (i : ℕ) (S T : Spine) → Solves μ β (record { local = D; left = root (variable i) S; right = root (variable i) T; of_type = C }) → SolvesAll μ β (argument_equations D A S T)
  variable_complete D A C i S T e = arguments_complete D A S T cc

  -- unequal rigid heads
  pub clash_constant : (D : List LfType) (C : LfType) (c d : ℕ) (S T : Spine) → (c ≡ d → ⊥) → Solves μ β (record { local = D; left = root (constant c) S; right = root (constant d) T; of_type = C }) → ⊥
  clash_constant D C c d S T n e = n (let p : c ≡ d = cc in p)

  pub clash_variable : (D : List LfType) (C : LfType) (i j : ℕ) (S T : Spine) → (i ≡ j → ⊥) → Solves μ β (record { local = D; left = root (variable i) S; right = root (variable j) T; of_type = C }) → ⊥
  clash_variable D C c d S T n e = n (let p : c ≡ d = cc in p)

  pub clash_constant_variable : (D : List LfType) (C : LfType) (c i : ℕ) (S T : Spine) → Solves μ β (record { local = D; left = root (constant c) S; right = root (variable i) T; of_type = C }) → ⊥
  clash_constant_variable D C c i S T e = cc

-- moving an outer filling under the local context
pub under_moved : (D : List LfType) (β : ℕ → Option Term) → under_locals D β ≡ moved (beyond D) β
under_moved [] β = sym (moved_id β)
under_moved (A ∷ D) β = ap (moved suc) (under_moved D β) ∙ moved_moved suc (beyond D) β

pub beyond_skeletons : (D : List LfType) (Γ : List Skeleton) → RenamingBySkeletons Γ (local_skeletons D Γ) (beyond D)
beyond_skeletons [] Γ i t g = g
beyond_skeletons (A ∷ D) Γ i t g = beyond_skeletons D Γ i t g

-- the value of a declared metavariable
pub value_of : (Σ : Signature) (G : List LfType) (Ψ : ℕ → Option LfType) (F : List LfType) (β : ℕ → Option Term) → IsInstance Σ G Ψ F β → (m : ℕ) (A : LfType) → Ψ m ≡ Some A → (V : Term) × (β m ≡ Some V) × HasType Σ F V (fill_type (skeletons_of Ψ) β A)
value_of Σ G Ψ F β w m A e = go (Ψ m) (β m) e refl (w.typed m)
  where
    go : (x : Option LfType) (y : Option Term) → x ≡ Some A → β m ≡ y → ValueHasType Σ F (skeletons_of Ψ) β x y → (V : Term) × (β m ≡ Some V) × HasType Σ F V (fill_type (skeletons_of Ψ) β A)
    go None None p f t = cc
    go None (Some V) p f t = absurd t
    go (Some B) None p f t = absurd t
    go (Some B) (Some V) p f t = (V, f, (let q : B ≡ A = cc in subst (λ X. HasType Σ F V (fill_type (skeletons_of Ψ) β X)) q t))

-- two instances that agree on what is declared are one
pub instance_same : (Σ : Signature) (G : List LfType) (Ψ : ℕ → Option LfType) (F : List LfType) (β β' : ℕ → Option Term) → IsInstance Σ G Ψ F β → IsInstance Σ G Ψ F β' → ExtendsFilling Ψ β β' → β' ≡ β
instance_same Σ G Ψ F β β' w w' x = fun_ext (λ m. go m (Ψ m) (β m) (β' m) refl refl refl (w.typed m) (w'.typed m))
  where
    go : (m : ℕ) (t : Option LfType) (y y' : Option Term) → Ψ m ≡ t → β m ≡ y → β' m ≡ y' → ValueHasType Σ F (skeletons_of Ψ) β t y → ValueHasType Σ F (skeletons_of Ψ) β' t y' → y' ≡ y
    go m None None None p q r a b = refl
    go m None None (Some N) p q r a b = absurd b
    go m None (Some N) None p q r a b = absurd a
    go m None (Some N) (Some N') p q r a b = absurd a
    go m (Some A) y y' p q r a b = sym r ∙ x m A p ∙ q

module _ (Σ : Signature) (G : List LfType) where
  -- a change of the store that keeps the metavariables, and the unifiers among the instances
  pub same_metavariables : (Ψ : ℕ → Option LfType) (bs bs' : List Binding) (es es' : List Equation) →
      ((F : List LfType) (β : ℕ → Option Term) → IsInstance Σ G Ψ F β → Unifies (record { metavariables = Ψ; bindings = bs; equations = es }) β → Unifies (record { metavariables = Ψ; bindings = bs'; equations = es' }) β) →
      ((F : List LfType) (β : ℕ → Option Term) → IsInstance Σ G Ψ F β → Unifies (record { metavariables = Ψ; bindings = bs'; equations = es' }) β → Unifies (record { metavariables = Ψ; bindings = bs; equations = es }) β) →
      KeepsUnifiers Σ G (record { metavariables = Ψ; bindings = bs; equations = es }) (record { metavariables = Ψ; bindings = bs'; equations = es' })
  same_metavariables Ψ bs bs' es es' to from = record {
    grows = λ m A e. e;
    sound = λ F β' s. (β', λ m A e. refl, (s.0, from F β' s.0 s.1));
    complete = λ F β s. (β, λ m A e. refl, (s.0, to F β s.0 s.1));
  }

  -- Binding by inversion
  module _ (Ψ : ℕ → Option LfType) (D : List LfType) (m : ℕ) (A : LfType) (declared : Ψ m ≡ Some A) (xs : List ℕ) (places : (Γ : List Skeleton) → PatternFits (local_skeletons D Γ) (skeletons_of Ψ m) xs) (N : Term) (C : LfType) (F : List LfType) (β : ℕ → Option Term) (w : IsInstance Σ G Ψ F β) where
    abbrev μ : ℕ → Skeleton
    μ = skeletons_of Ψ

    abbrev equation : Equation
    equation = record { local = D; left = root (metavariable m) (pattern (μ m) xs); right = rename (pattern_renaming (μ m) xs (beyond D)) N; of_type = C }

    abbrev κ : TotalSkeletons
    κ = total_skeletons Σ μ

    skeletons_value : (V : Term) → HasType Σ F V (fill_type μ β A) → TermSkeleton (as_head_skeletons κ) (context_skeletons F) V (μ m)
    skeletons_value V v = subst (TermSkeleton (as_head_skeletons κ) (context_skeletons F) V) (skeleton_fill μ β A ∙ sym (ap skeleton_or_default declared)) (typed_has_skeleton Σ μ F V (fill_type μ β A) v)

    pub binding_complete : Injective (pattern_renaming (μ m) xs (beyond D)) → Solves μ β equation → β m ≡ Some (fill μ β (lambdas_of (μ m) N))
    binding_complete inj e =
        let (V, f, v) = value_of Σ G Ψ F β w m A declared in
        f ∙ ap Some (bind_complete κ (context_skeletons F) (local_skeletons D (context_skeletons F)) (beyond D) (beyond_skeletons D (context_skeletons F)) m xs (places (context_skeletons F)) β V f (skeletons_value V v) inj N
        (subst (λ b. fill μ b (root (metavariable m) (pattern (μ m) xs)) ≡ fill μ b (rename (pattern_renaming (μ m) xs (beyond D)) N)) (under_moved D β) e))

    pub binding_sound : β m ≡ Some (fill μ β (lambdas_of (μ m) N)) → Solves μ β equation
    binding_sound q =
        let (V, f, v) = value_of Σ G Ψ F β w m A declared in
        subst (λ b. fill μ b (root (metavariable m) (pattern (μ m) xs)) ≡ fill μ b (rename (pattern_renaming (μ m) xs (beyond D)) N)) (sym (under_moved D β))
        (bind_sound κ (context_skeletons F) (local_skeletons D (context_skeletons F)) (beyond D) (beyond_skeletons D (context_skeletons F)) m xs (places (context_skeletons F)) β V f (skeletons_value V v) N (let p : V ≡ fill μ β (lambdas_of (μ m) N) = cc in p))

-- The equation of types: an atomic term has one type, so it holds for each typed unifier.
module _ (Σ : Signature) where
  at_once : (F : List LfType) (S : Spine) (A C C' : LfType) → SpineType Σ F S A C → SpineType Σ F S A C' → C ≡ C'
  at_once F nil A C C' e f = sym e ∙ f
  at_once F (app M S) (pi A B) C C' (m, s) (m', s') = at_once F S (instantiate_type A M B) C C' s s'
  at_once F (app M S) (atom a T) C C' s s' = absurd s

  head_once : (F : List LfType) (h : Head) (A B : LfType) → HeadHasType Σ F h A → HeadHasType Σ F h B → A ≡ B
  head_once F (constant c) A B e f = (let p : Some A ≡ Some B = sym e ∙ f in cc)
  head_once F (variable i) A B e f = variable_type_unique F i A B e f
  head_once F (metavariable m) A B e f = absurd e

  pub one_type : (F : List LfType) (h : Head) (S : Spine) (a b : ℕ) (T U : Spine) → HasType Σ F (root h S) (atom a T) → HasType Σ F (root h S) (atom b U) → atom a T ≡ atom b U
  one_type F h S a b T U (A, g, s) (B, k, t) = at_once F S A (atom a T) (atom b U) s (subst (λ X. SpineType Σ F S X (atom b U)) (head_once F h B A k g) t)

  pub type_equation : (F : List LfType) (M N : Term) (a b : ℕ) (T U : Spine) → M ≡ N → HasType Σ F M (atom a T) → HasType Σ F N (atom b U) → atom a T ≡ atom b U
  type_equation F (lambda M) N a b T U e m n = absurd m
  type_equation F (root h S) N a b T U e m n = one_type F h S a b T U m (subst (λ X. HasType Σ F X (atom b U)) (sym e) n)
