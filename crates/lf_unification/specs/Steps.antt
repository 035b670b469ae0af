-- The steps of unification, in any order. The equation at work stands first. No step exchanges its sides: a step at a metavariable on a
-- pattern is taken at the side where that stands.
use Rattle.std.specs.Prelude.{◌≡◌, ℕ, List, ◌∷◌, [], Option, Some}
use Rattle.lf.specs.Syntax.{Head, Spine, Term, LfType, atom, constant, lambda, metavariable, pi, root, variable}
use Rattle.lf.specs.Typing.{Signature}
use Rattle.lf_unification.specs.Inversion.{IsPattern, NeverInverted, OccursRigid}
use Rattle.lf_unification.specs.Lists.{followed}
use Rattle.lf_unification.specs.Offering.{argument_equations}
use Rattle.lf_unification.specs.OpenTyping.{MetavariablesInType, OpenHeadHasType, skeletons_of}
use Rattle.lf_unification.specs.Outside.{CanBind, IsLambda}
use Rattle.lf_unification.specs.Patterns.{lambdas_of, pattern}
use Rattle.lf_unification.specs.Pruning.{CanAgree, CanDrop, pruned_store}
use Rattle.lf_unification.specs.Putting.{IsRigidHead, PutsInType, PutsSome, Unbound, binders}
use Rattle.lf_unification.specs.Renewing.{renewed_store}
use Rattle.lf_unification.specs.Scope.{IsScoped}
use Rattle.lf_unification.specs.Unifiers.{Binding, Equation, Side, Store, equation_on, on_left}

-- a store whose first equation has M on this side and N on the other, at a type, in a local context
abbrev pub store_at : Side → (ℕ → Option LfType) → List Binding → List Equation → List LfType → Term → Term → LfType → Store
store_at side Ψ bs es D M N C = record { metavariables = Ψ; bindings = bs; equations = equation_on side D M N C ∷ es }

-- metavariable m on a pattern
abbrev pub on_pattern : (ℕ → Option LfType) → ℕ → List ℕ → Term
on_pattern Ψ m xs = root (metavariable m) (pattern (skeletons_of Ψ m) xs)

pub data Step (Σ : Signature) : Store → Store → Type 0 where
  -- another equation is taken first
  next_equation : {Ψ : ℕ → Option LfType} {bs : List Binding} (es : List Equation) (e : Equation) (fs : List Equation) →
      Step Σ (record { metavariables = Ψ; bindings = bs; equations = followed es (e ∷ fs) }) (record { metavariables = Ψ; bindings = bs; equations = e ∷ followed es fs })
  -- some bindings are put into the sides
  put_bindings : {Ψ : ℕ → Option LfType} {bs : List Binding} {es : List Equation} {D : List LfType} {M M' N N' : Term} {C : LfType} →
      PutsSome Ψ bs (binders D) M M' → PutsSome Ψ bs (binders D) N N' →
      Step Σ (store_at on_left Ψ bs es D M N C) (store_at on_left Ψ bs es D M' N' C)
  -- the sides are equal
  drop_equal : {Ψ : ℕ → Option LfType} {bs : List Binding} {es : List Equation} {D : List LfType} {M : Term} {C : LfType} →
      Step Σ (store_at on_left Ψ bs es D M M C) (record { metavariables = Ψ; bindings = bs; equations = es })
  -- lambdas are opened on both sides
  open_lambdas : {Ψ : ℕ → Option LfType} {bs : List Binding} {es : List Equation} {D : List LfType} {M N : Term} {A B : LfType} →
      Step Σ (store_at on_left Ψ bs es D (lambda M) (lambda N) (pi A B)) (store_at on_left Ψ bs es (A ∷ D) M N B)
  -- equal constants or variables as heads give the equations of their arguments
  equal_heads : {Ψ : ℕ → Option LfType} {bs : List Binding} {es : List Equation} {D : List LfType} {S T I : Spine} {a : ℕ} (h : Head) (A : LfType) →
      IsRigidHead h → OpenHeadHasType Σ [] Ψ (λ β. Unit {0}) D h A →
      Step Σ (store_at on_left Ψ bs es D (root h S) (root h T) (atom a I)) (record { metavariables = Ψ; bindings = bs; equations = followed (argument_equations D A S T) es })
  -- a metavariable on a pattern is bound to the inversion of the other side, as that stands
  bind : {Ψ : ℕ → Option LfType} {bs : List Binding} {es : List Equation} {A : LfType} (side : Side) (D : List LfType) (m : ℕ) (xs : List ℕ) (N : Term) (C : LfType) →
      Ψ m ≡ Some A → Unbound bs m → IsPattern D (skeletons_of Ψ m) xs → (b : CanBind Ψ bs D m xs N) →
      Step Σ (store_at side Ψ bs es D (on_pattern Ψ m xs) N C)
      (record { metavariables = Ψ; bindings = record { of = m; value = lambdas_of (skeletons_of Ψ m) b.inverted.inversion } ∷ bs; equations = es })
  -- a metavariable in the other side loses an argument that must not be used
  prune_inside : {Ψ : ℕ → Option LfType} {bs : List Binding} {es : List Equation} {A : LfType} (side : Side) (D : List LfType) (m : ℕ) (xs : List ℕ) (N : Term) (C : LfType) →
      Ψ m ≡ Some A → IsPattern D (skeletons_of Ψ m) xs → (p : CanDrop Ψ D (skeletons_of Ψ m) xs N) → Unbound bs p.drop.m → (n : ℕ) →
      IsScoped Ψ n bs (equation_on side D (on_pattern Ψ m xs) N C ∷ es) →
      Step Σ (store_at side Ψ bs es D (on_pattern Ψ m xs) N C)
      (pruned_store (store_at side Ψ bs es D (on_pattern Ψ m xs) N C) p.drop.m p.dropped p.pruned n)
  -- one metavariable on two patterns loses an argument at which these differ
  prune_both : {Ψ : ℕ → Option LfType} {bs : List Binding} {es : List Equation} {A : LfType} (side : Side) (D : List LfType) (m : ℕ) (xs : List ℕ) (N : Term) (C : LfType) →
      Ψ m ≡ Some A → IsPattern D (skeletons_of Ψ m) xs → (p : CanAgree Ψ D m xs N) → Unbound bs m → (n : ℕ) →
      IsScoped Ψ n bs (equation_on side D (on_pattern Ψ m xs) N C ∷ es) →
      Step Σ (store_at side Ψ bs es D (on_pattern Ψ m xs) N C)
      (pruned_store (store_at side Ψ bs es D (on_pattern Ψ m xs) N C) m p.dropped p.pruned n)
  -- a metavariable whose type mentions a bound one is renewed
  renew : {Ψ : ℕ → Option LfType} {bs : List Binding} {es : List Equation} (m : ℕ) (A A' : LfType) →
      Ψ m ≡ Some A → Unbound bs m → (MetavariablesInType (Unbound bs) A → ⊥) → PutsInType Ψ bs 0 A A' → (n : ℕ) → IsScoped Ψ n bs es →
      Step Σ (record { metavariables = Ψ; bindings = bs; equations = es }) (renewed_store (record { metavariables = Ψ; bindings = bs; equations = es }) m A A' n)

-- Steps one after another.
pub data Run (Σ : Signature) : Store → Store → Type 0 where
  no_step : {s : Store} → Run Σ s s
  then_run : {s s' s'' : Store} → Step Σ s s' → Run Σ s' s'' → Run Σ s s''

-- The first equation has no typed unifier.
pub data IsRefuted : Store → Type 0 where
  -- different rigid heads
  constants_differ : {Ψ : ℕ → Option LfType} {bs : List Binding} {es : List Equation} {D : List LfType} {S T : Spine} {C : LfType} {c d : ℕ} →
      (c ≡ d → ⊥) → IsRefuted (store_at on_left Ψ bs es D (root (constant c) S) (root (constant d) T) C)
  variables_differ : {Ψ : ℕ → Option LfType} {bs : List Binding} {es : List Equation} {D : List LfType} {S T : Spine} {C : LfType} {i j : ℕ} →
      (i ≡ j → ⊥) → IsRefuted (store_at on_left Ψ bs es D (root (variable i) S) (root (variable j) T) C)
  constant_or_variable : {Ψ : ℕ → Option LfType} {bs : List Binding} {es : List Equation} (side : Side) (D : List LfType) (c i : ℕ) (S T : Spine) (C : LfType) →
      IsRefuted (store_at side Ψ bs es D (root (constant c) S) (root (variable i) T) C)
  -- a variable stands rigid in the other side that the pattern does not have
  variable_escapes : {Ψ : ℕ → Option LfType} {bs : List Binding} {es : List Equation} {A : LfType} (side : Side) (D : List LfType) (m : ℕ) (xs : List ℕ) (N : Term) (C : LfType) →
      Ψ m ≡ Some A → IsPattern D (skeletons_of Ψ m) xs → NeverInverted Ψ D (skeletons_of Ψ m) xs N →
      IsRefuted (store_at side Ψ bs es D (on_pattern Ψ m xs) N C)
  -- the metavariable itself stands rigid inside the other side
  occurs_inside : {Ψ : ℕ → Option LfType} {bs : List Binding} {es : List Equation} {A : LfType} (side : Side) (D : List LfType) (m : ℕ) (xs : List ℕ) (N : Term) (C : LfType) →
      Ψ m ≡ Some A → IsPattern D (skeletons_of Ψ m) xs → (IsLambda N → ⊥) → OccursRigid Ψ D m xs N →
      IsRefuted (store_at side Ψ bs es D (on_pattern Ψ m xs) N C)

-- Steps lead from the store to one whose first equation is refuted. So it is with a store that has the equation z = s X; not with
-- Y = s X, which is solved.
pub record CanRefute (Σ : Signature) (s : Store) : Type 0 where
  pub reached : Store
  pub run : Run Σ s reached
  pub refuted : IsRefuted reached
