-- Each step that a settled equation allows: binding, no unifier, what is lost; and the steps that only turn or drop an equation.
use Rattle.std.proofs.Common.{◌≡◌, ℕ, List, ◌∷◌, Option, Some, inl, refl, sym, subst}
use Rattle.lf.specs.Syntax.{Term, LfType, constant, lambda, metavariable, root, variable}
use Rattle.lf.specs.Typing.{IsSignature, Signature}
use Rattle.lf_unification.specs.Filling.{fill}
use Rattle.lf_unification.specs.PartialInstance.{IsFilling, IsTypedStore}
use Rattle.lf_unification.specs.OpenTyping.{skeletons_of, under_locals}
use Rattle.lf_unification.specs.Inversion.{Allowed, IsUnderBinders, Inverted, IsPattern, MustDrop, NeverInverted, OccursRigid, SameMetavariable}
use Rattle.lf_unification.specs.Outside.{IsLambda}
use Rattle.lf_unification.specs.Patterns.{beyond}
use Rattle.lf_unification.specs.Patterns.{FreeVariablesIn, lambdas_of, pattern, pattern_renaming}
use Rattle.lf_unification.specs.Rigid.{Rigid, here, in_constant, in_lambda, in_variable, past_binders}
use Rattle.lf_unification.specs.Unifiers.{KeepsUnifiers}
use Rattle.lf_unification.specs.Unifiers.{Binding, Equation, Solution, Store, Unifies}
use Rattle.lf_unification.proofs.Fillings.{EquationsAreTyped-weaker}
use Rattle.lf_unification.proofs.RigidSteps.{change_ok}
use Rattle.lf_unification.proofs.StepLemmas.{same_metavariables}
use Rattle.lf_unification.proofs.Stores.{binding_step}
use Rattle.lf_unification.proofs.Unused.{no_solution, occurs_in_constant, occurs_in_variable, unused_agree, unused_lose}

module _ (Σ : Signature) (ok : IsSignature Σ) (G : List LfType) (Ψ : ℕ → Option LfType) (bs : List Binding) (es : List Equation) where
  -- an equation in first place
  abbrev pub first_is : List LfType → Term → Term → LfType → Store
  first_is D M N C = record { metavariables = Ψ; bindings = bs; equations = record { local = D; left = M; right = N; of_type = C } ∷ es }

  abbrev pub rest_of : Store
  rest_of = record { metavariables = Ψ; bindings = bs; equations = es }

  pub swap_step : (D : List LfType) (M N : Term) (C : LfType) → KeepsUnifiers Σ G (first_is D M N C) (first_is D N M C)
  swap_step D M N C = same_metavariables Σ G Ψ bs bs (record { local = D; left = M; right = N; of_type = C } ∷ es) (record { local = D; left = N; right = M; of_type = C } ∷ es)
      (λ F β w u. (u.0, (sym u.1.0, u.1.1))) (λ F β w u. (u.0, (sym u.1.0, u.1.1)))

  pub swap_ok : (D : List LfType) (M N : Term) (C : LfType) → IsTypedStore Σ G (first_is D M N C) → IsTypedStore Σ G (first_is D N M C)
  swap_ok D M N C w =
      change_ok Σ G Ψ bs (record { local = D; left = M; right = N; of_type = C } ∷ es) (record { local = D; left = N; right = M; of_type = C } ∷ es) fewer w
      (EquationsAreTyped-weaker Σ G Ψ (IsFilling Σ G (first_is D M N C)) (IsFilling Σ G (first_is D N M C)) fewer (record { local = D; left = N; right = M; of_type = C } ∷ es)
      (record { local_typed = w.equations_typed.0.local_typed; type_typed = w.equations_typed.0.type_typed; left_typed = w.equations_typed.0.right_typed; right_typed = w.equations_typed.0.left_typed }, w.equations_typed.1))
    where
      fewer : (β : ℕ → Option Term) → IsFilling Σ G (first_is D N M C) β → IsFilling Σ G (first_is D M N C) β
      fewer β (F, h, (r, (x, y))) = (F, h, (r, (sym x, y)))

  -- an equation whose sides have equal fillings already
  pub drop_step : (D : List LfType) (M N : Term) (C : LfType) → ((β : ℕ → Option Term) → Unifies rest_of β → fill (skeletons_of Ψ) (under_locals D β) M ≡ fill (skeletons_of Ψ) (under_locals D β) N) → KeepsUnifiers Σ G (first_is D M N C) rest_of
  drop_step D M N C h = same_metavariables Σ G Ψ bs bs (record { local = D; left = M; right = N; of_type = C } ∷ es) es
      (λ F β w u. (u.0, u.1.1)) (λ F β w u. (u.0, (h β u, u.1)))

  pub drop_ok : (D : List LfType) (M N : Term) (C : LfType) → ((β : ℕ → Option Term) → Unifies rest_of β → fill (skeletons_of Ψ) (under_locals D β) M ≡ fill (skeletons_of Ψ) (under_locals D β) N) → IsTypedStore Σ G (first_is D M N C) → IsTypedStore Σ G rest_of
  drop_ok D M N C h w =
      change_ok Σ G Ψ bs (record { local = D; left = M; right = N; of_type = C } ∷ es) es fewer w (EquationsAreTyped-weaker Σ G Ψ (IsFilling Σ G (first_is D M N C)) (IsFilling Σ G rest_of) fewer es w.equations_typed.1)
    where
      fewer : (β : ℕ → Option Term) → IsFilling Σ G rest_of β → IsFilling Σ G (first_is D M N C) β
      fewer β (F, v, (r, y)) = (F, v, (r, (h β (r, y), y)))

  -- m on a pattern, on the left
  module _ (D : List LfType) (m : ℕ) (A : LfType) (declared : Ψ m ≡ Some A) (xs : List ℕ) (p : IsPattern D (skeletons_of Ψ m) xs) (N : Term) (C : LfType) where
    abbrev pub posed : Store
    posed = first_is D (root (metavariable m) (pattern (skeletons_of Ψ m) xs)) N C

    pub inverted_step : (i : Inverted Ψ D (skeletons_of Ψ m) xs N) → KeepsUnifiers Σ G posed (record { metavariables = Ψ; bindings = record { of = m; value = lambdas_of (skeletons_of Ψ m) i.inversion } ∷ bs; equations = es })
    inverted_step i = subst (λ X. KeepsUnifiers Σ G (first_is D (root (metavariable m) (pattern (skeletons_of Ψ m) xs)) X C) (record { metavariables = Ψ; bindings = record { of = m; value = lambdas_of (skeletons_of Ψ m) i.inversion } ∷ bs; equations = es })) i.is
        (binding_step Σ G Ψ bs es D m A declared xs p.places p.distinct i.inversion C)

    pub never_step : NeverInverted Ψ D (skeletons_of Ψ m) xs N → (F : List LfType) (β : ℕ → Option Term) → Solution Σ G posed F β → ⊥
    never_step n F β u = no_solution Σ ok G posed F β u D m A declared xs p.places N C (inl refl) n.depth n.bad n.spine n.at n.is_bad

    occurs : (k : ℕ) (E : List LfType) → IsUnderBinders D k E → (ys : List ℕ) → IsPattern E (skeletons_of Ψ m) ys → (X : Term) → N ≡ X → Rigid (root (metavariable m) (pattern (skeletons_of Ψ m) ys)) k X → (IsLambda N → ⊥) → (N ≡ root (metavariable m) (pattern (skeletons_of Ψ m) ys) → ⊥) → (F : List LfType) (β : ℕ → Option Term) → Solution Σ G posed F β → ⊥
    occurs k E x ys q X e here l n F β u = n e
    occurs k E x ys q (lambda X) e (in_lambda o) l n F β u = l (subst IsLambda (sym e) tt)
    occurs k E x ys q (root (constant c) S) e (in_constant o) l n F β u = occurs_in_constant Σ ok G posed F β u D m A declared xs p.places N C (inl refl) k E x ys q.places c S e o
    occurs k E x ys q (root (variable c) S) e (in_variable o) l n F β u = occurs_in_variable Σ ok G posed F β u D m A declared xs p.places N C (inl refl) k E x ys q.places c S e o

    pub occurs_step : OccursRigid Ψ D m xs N → (IsLambda N → ⊥) → (F : List LfType) (β : ℕ → Option Term) → Solution Σ G posed F β → ⊥
    occurs_step o l = occurs o.depth o.context o.context_is o.ys o.is_pattern N refl o.at l o.inside

    -- the value of what must be pruned uses no bad argument
    pub drop_uses : (d : MustDrop Ψ D (skeletons_of Ψ m) xs N) (B' : LfType) → Ψ d.m ≡ Some B' → (F : List LfType) (β : ℕ → Option Term) → Solution Σ G posed F β → (B : Term) → β d.m ≡ Some (lambdas_of (skeletons_of Ψ d.m) B) →
        FreeVariablesIn (λ i. Allowed D (skeletons_of Ψ m) xs d.depth (pattern_renaming (skeletons_of Ψ d.m) d.ys (λ j. past_binders d.depth (beyond D j)) i)) B
    drop_uses d B' e F β u = unused_lose Σ ok G posed F β u D m A declared xs p.places N C (inl refl) d.depth d.context d.context_is d.m B' e d.ys d.is_pattern.places d.at
        (λ i. Allowed D (skeletons_of Ψ m) xs d.depth (pattern_renaming (skeletons_of Ψ d.m) d.ys (λ j. past_binders d.depth (beyond D j)) i)) (λ i h. h)

    pub same_uses : (d : SameMetavariable Ψ D m xs N) → (F : List LfType) (β : ℕ → Option Term) → Solution Σ G posed F β → (B : Term) → β m ≡ Some (lambdas_of (skeletons_of Ψ m) B) →
        FreeVariablesIn (λ i. pattern_renaming (skeletons_of Ψ m) xs (beyond D) i ≡ pattern_renaming (skeletons_of Ψ m) d.ys (beyond D) i) B
    same_uses d F β u = unused_agree Σ ok G posed F β u D m A declared xs p.places N C (inl refl) d.ys d.is_pattern.places d.is
        (λ i. pattern_renaming (skeletons_of Ψ m) xs (beyond D) i ≡ pattern_renaming (skeletons_of Ψ m) d.ys (beyond D) i) (λ i h. h)
