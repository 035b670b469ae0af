-- Opening lambdas, and equal rigid heads: the steps keep the typed unifiers, and the typing of the store up to its fillings.
use Rattle.std.proofs.Common.{◌≡◌, ℕ, List, [], ◌∷◌, Option, Some, refl, sym, ap, ◌∙◌, subst}
use Rattle.lf.specs.SkeletonTyping.{TypeBySkeletons}
use Rattle.lf.specs.Skeletons.{context_skeletons, family_skeletons}
use Rattle.lf.specs.Syntax.{Head, Skeleton, Spine, Term, LfType, atom, constant, lambda, metavariable, pi, root, variable}
use Rattle.lf.specs.Typing.{IsSignature, Signature}
use Rattle.lf.specs.Variables.{onto}
use Rattle.lf_unification.specs.Filling.{fill, fill_spine}
use Rattle.lf_unification.specs.PartialInstance.{EquationIsTyped, EquationsAreTyped, IsFilling, PartialInstance, LocalBySkeletonsUpTo, IsTypedStore, TypeBySkeletonsUpTo}
use Rattle.lf_unification.specs.OpenTyping.{OpenHeadHasType, DeclarationsAreTyped, OpenSpineType, OpenHasType, fill_locals, skeletons_of, under_locals}
use Rattle.lf_unification.specs.Offering.{argument_equations}
use Rattle.lf_unification.specs.Skeletons.{as_head_skeletons, total_skeletons}
use Rattle.lf_unification.specs.Putting.{IsRigidHead}
use Rattle.lf_unification.specs.Unifiers.{KeepsUnifiers}
use Rattle.lf_unification.specs.Lists.{followed}
use Rattle.lf_unification.specs.Unifiers.{Binding, Equation, SolvesAll, Store}
use Rattle.lf.proofs.Decidability.{variable_type_unique}
use Rattle.lf.proofs.Substitution.{constant_type}
use Rattle.lf_unification.proofs.Exhaust.{local_skeleton_context}
use Rattle.lf_unification.proofs.EquationLemmas.{solves_followed}
use Rattle.lf_unification.proofs.Fillings.{BindingsAreTyped-weaker, EquationIsTyped-weaker, EquationsAreTyped-weaker, DeclarationsAreTyped-weaker, at_skeletons, fillings_half, lambda_skeletons}
use Rattle.lf_unification.proofs.Indices.{arguments_ok}
use Rattle.lf_unification.proofs.OpenSound.{PartialInstance-of, OpenSpineType-by_skeletons}
use Rattle.lf_unification.proofs.EquationLemmas.{solves_first}
use Rattle.lf_unification.proofs.StepLemmas.{arguments_complete, arguments_sound, close_lambda, open_lambda, same_metavariables}
use Rattle.lf_unification.proofs.ToSkeletons.{type_by_skeletons}

fill_stiff : (μ : ℕ → Skeleton) (β : ℕ → Option Term) (h : Head) (S : Spine) → IsRigidHead h → fill μ β (root h S) ≡ root h (fill_spine μ β S)
fill_stiff μ β (constant c) S r = refl
fill_stiff μ β (variable i) S r = refl
fill_stiff μ β (metavariable m) S r = absurd r

pub solves_rest : (μ : ℕ → Skeleton) (β : ℕ → Option Term) (es fs : List Equation) → SolvesAll μ β (followed es fs) → SolvesAll μ β fs
solves_rest μ β [] fs s = s
solves_rest μ β (e ∷ es) fs (x, s) = solves_rest μ β es fs s

equations_followed : (Σ : Signature) (G : List LfType) (Ψ : ℕ → Option LfType) (U : (ℕ → Option Term) → Type 0) (es fs : List Equation) → EquationsAreTyped Σ G Ψ U es → EquationsAreTyped Σ G Ψ U fs → EquationsAreTyped Σ G Ψ U (followed es fs)
equations_followed Σ G Ψ U [] fs w v = v
equations_followed Σ G Ψ U (e ∷ es) fs (x, w) v = (x, equations_followed Σ G Ψ U es fs w v)

-- a change of equations that leaves no filling more
pub change_ok : (Σ : Signature) (G : List LfType) (Ψ : ℕ → Option LfType) (bs : List Binding) (es es' : List Equation) →
    ((β : ℕ → Option Term) → IsFilling Σ G (record { metavariables = Ψ; bindings = bs; equations = es' }) β → IsFilling Σ G (record { metavariables = Ψ; bindings = bs; equations = es }) β) →
    IsTypedStore Σ G (record { metavariables = Ψ; bindings = bs; equations = es }) → EquationsAreTyped Σ G Ψ (IsFilling Σ G (record { metavariables = Ψ; bindings = bs; equations = es' })) es' → IsTypedStore Σ G (record { metavariables = Ψ; bindings = bs; equations = es' })
change_ok Σ G Ψ bs es es' f w e = record {
  declarations_typed = DeclarationsAreTyped-weaker Σ G Ψ (IsFilling Σ G (record { metavariables = Ψ; bindings = bs; equations = es })) (IsFilling Σ G (record { metavariables = Ψ; bindings = bs; equations = es' })) f w.declarations_typed;
  bindings_typed = BindingsAreTyped-weaker Σ G Ψ (IsFilling Σ G (record { metavariables = Ψ; bindings = bs; equations = es })) (IsFilling Σ G (record { metavariables = Ψ; bindings = bs; equations = es' })) f bs w.bindings_typed;
  equations_typed = e;
}

module _ (Σ : Signature) (ok : IsSignature Σ) (G : List LfType) (Ψ : ℕ → Option LfType) (bs : List Binding) (es : List Equation) (D : List LfType) where
  abbrev μ : ℕ → Skeleton
  μ = skeletons_of Ψ

  -- a store with these first equations
  abbrev pub with_first : List Equation → Store
  with_first fs = record { metavariables = Ψ; bindings = bs; equations = followed fs es }

  -- lambdas
  module _ (A B : LfType) (M N : Term) where
    abbrev pub closed : Store
    closed = record { metavariables = Ψ; bindings = bs; equations = record { local = D; left = lambda M; right = lambda N; of_type = pi A B } ∷ es }

    abbrev pub opened : Store
    opened = record { metavariables = Ψ; bindings = bs; equations = record { local = A ∷ D; left = M; right = N; of_type = B } ∷ es }

    pub lambda_step : KeepsUnifiers Σ G closed opened
    lambda_step = same_metavariables Σ G Ψ bs bs (record { local = D; left = lambda M; right = lambda N; of_type = pi A B } ∷ es) (record { local = A ∷ D; left = M; right = N; of_type = B } ∷ es)
        (λ F β w u. (u.0, (open_lambda μ β D A B (pi A B) M N u.1.0, u.1.1)))
        (λ F β w u. (u.0, (close_lambda μ β D A B (pi A B) M N u.1.0, u.1.1)))

    pub lambda_ok : IsTypedStore Σ G closed → IsTypedStore Σ G opened
    lambda_ok w = change_ok Σ G Ψ bs (record { local = D; left = lambda M; right = lambda N; of_type = pi A B } ∷ es) (record { local = A ∷ D; left = M; right = N; of_type = B } ∷ es) fewer w
        (EquationsAreTyped-weaker Σ G Ψ (IsFilling Σ G closed) (IsFilling Σ G opened) fewer (record { local = A ∷ D; left = M; right = N; of_type = B } ∷ es) (lambda_skeletons Σ ok G Ψ (IsFilling Σ G closed) D A B M N w.equations_typed.0, w.equations_typed.1))
      where
        fewer : (β : ℕ → Option Term) → IsFilling Σ G opened β → IsFilling Σ G closed β
        fewer β (F, h, (r, (x, y))) = (F, h, (r, (close_lambda (skeletons_of Ψ) β D A B (pi A B) M N x, y)))

  -- equal rigid heads, of type A
  module _ (h : Head) (stiff : IsRigidHead h) (A : LfType) (typed : OpenHeadHasType Σ G Ψ (λ β. Unit {0}) D h A) (S T : Spine) (a : ℕ) (I : Spine) where
    abbrev pub whole : Store
    whole = record { metavariables = Ψ; bindings = bs; equations = record { local = D; left = root h S; right = root h T; of_type = atom a I } ∷ es }

    abbrev pub parts : Store
    parts = record { metavariables = Ψ; bindings = bs; equations = followed (argument_equations D A S T) es }

    head_once : (k : Head) (U : (ℕ → Option Term) → Type 0) (X Y : LfType) → IsRigidHead k → OpenHeadHasType Σ G Ψ (λ β. Unit {0}) D k X → OpenHeadHasType Σ G Ψ U D k Y → Y ≡ X
    head_once (constant c) U X Y r g e = (let p : Some Y ≡ Some X = sym e ∙ g in cc)
    head_once (variable i) U X Y r g e = variable_type_unique (onto D G) i Y X e g
    head_once (metavariable m) U X Y r g e = absurd r

    spine_at : (U : (ℕ → Option Term) → Type 0) (R : Spine) → OpenHasType Σ G Ψ U D (root h R) (atom a I) → OpenSpineType Σ G Ψ U D R A (atom a I)
    spine_at U R (X, g, s) = subst (λ Z. OpenSpineType Σ G Ψ U D R Z (atom a I)) (head_once h U A X stiff typed g) s

    head_skeletons : (U : (ℕ → Option Term) → Type 0) → DeclarationsAreTyped Σ G Ψ U → LocalBySkeletonsUpTo Σ G Ψ U D → (k : Head) → IsRigidHead k → OpenHeadHasType Σ G Ψ (λ β. Unit {0}) D k A → TypeBySkeletonsUpTo Σ G Ψ U D A
    head_skeletons U o l (constant c) r e = λ F β w u. subst (λ Γ. TypeBySkeletons (family_skeletons Σ) (as_head_skeletons (total_skeletons Σ (skeletons_of Ψ))) Γ A) (local_skeleton_context D F) (type_by_skeletons Σ (skeletons_of Ψ) (onto D F) A (constant_type Σ ok (onto D F) c A e))
    head_skeletons U o l (variable i) r g = at_skeletons Σ ok G Ψ U o D l i A g
    head_skeletons U o l (metavariable m) r g = absurd r

    -- the arguments solved, the whole is
    solves_whole : (U : (ℕ → Option Term) → Type 0) (F : List LfType) (β : ℕ → Option Term) → PartialInstance Σ G Ψ (λ m. ⊥) F β → OpenSpineType Σ G Ψ U D S A (atom a I) → OpenSpineType Σ G Ψ U D T A (atom a I) → SolvesAll μ β (argument_equations D A S T) → fill μ (under_locals D β) (root h S) ≡ fill μ (under_locals D β) (root h T)
    solves_whole U F β w s t x =
        fill_stiff μ (under_locals D β) h S stiff
        ∙ ap (root h) (arguments_sound μ β (total_skeletons Σ μ) (context_skeletons (onto (fill_locals μ β D) F)) D A S T a a (OpenSpineType-by_skeletons Σ ok G Ψ U (λ m. ⊥) F β w D S A (atom a I) s) (OpenSpineType-by_skeletons Σ ok G Ψ U (λ m. ⊥) F β w D T A (atom a I) t) x)
        ∙ sym (fill_stiff μ (under_locals D β) h T stiff)

    root_arguments : (X Y : Spine) → root h X ≡ root h Y → X ≡ Y
    root_arguments X Y e = cc

    solves_parts : (β : ℕ → Option Term) → fill μ (under_locals D β) (root h S) ≡ fill μ (under_locals D β) (root h T) → SolvesAll μ β (argument_equations D A S T)
    solves_parts β e = arguments_complete μ β D A S T (root_arguments (fill_spine μ (under_locals D β) S) (fill_spine μ (under_locals D β) T) (sym (fill_stiff μ (under_locals D β) h S stiff) ∙ e ∙ fill_stiff μ (under_locals D β) h T stiff))

    pub parts_fewer : IsTypedStore Σ G whole → (β : ℕ → Option Term) → IsFilling Σ G parts β → IsFilling Σ G whole β
    parts_fewer w β (F, v, (r, x)) =
        (F, v, (r, (solves_whole (IsFilling Σ G whole) F β v (spine_at (IsFilling Σ G whole) S w.equations_typed.0.left_typed) (spine_at (IsFilling Σ G whole) T w.equations_typed.0.right_typed) (solves_first μ β (argument_equations D A S T) es x), solves_rest μ β (argument_equations D A S T) es x)))

    -- THE theorem on equal rigid heads
    pub parts_step : IsTypedStore Σ G whole → KeepsUnifiers Σ G whole parts
    parts_step w = same_metavariables Σ G Ψ bs bs (record { local = D; left = root h S; right = root h T; of_type = atom a I } ∷ es) (followed (argument_equations D A S T) es)
        (λ F β v u. (u.0, solves_followed μ β (argument_equations D A S T) es (solves_parts β u.1.0) u.1.1))
        (λ F β v u. (parts_fewer w β (F, PartialInstance-of Σ ok G Ψ (λ m. ⊥) F β v, u)).2)

    pub parts_ok : IsTypedStore Σ G whole → IsTypedStore Σ G parts
    parts_ok w = change_ok Σ G Ψ bs (record { local = D; left = root h S; right = root h T; of_type = atom a I } ∷ es) (followed (argument_equations D A S T) es) (parts_fewer w) w
        (equations_followed Σ G Ψ (IsFilling Σ G parts) (argument_equations D A S T) es
        (arguments_ok Σ ok G Ψ (IsFilling Σ G parts) open' (fillings_half Σ G parts) D local' A A S T (atom a I) (atom a I) (head_skeletons (IsFilling Σ G parts) open' local' h stiff typed) (head_skeletons (IsFilling Σ G parts) open' local' h stiff typed) (refl, λ β u. refl)
        (spine_at (IsFilling Σ G parts) S e.left_typed) (spine_at (IsFilling Σ G parts) T e.right_typed)
        (λ β u. solves_first (skeletons_of Ψ) β (argument_equations D A S T) es u.2.1))
        (EquationsAreTyped-weaker Σ G Ψ (IsFilling Σ G whole) (IsFilling Σ G parts) (parts_fewer w) es w.equations_typed.1))
      where
        open' : DeclarationsAreTyped Σ G Ψ (IsFilling Σ G parts)
        open' = DeclarationsAreTyped-weaker Σ G Ψ (IsFilling Σ G whole) (IsFilling Σ G parts) (parts_fewer w) w.declarations_typed

        e : EquationIsTyped Σ G Ψ (IsFilling Σ G parts) (record { local = D; left = root h S; right = root h T; of_type = atom a I })
        e = EquationIsTyped-weaker Σ G Ψ (IsFilling Σ G whole) (IsFilling Σ G parts) (parts_fewer w) (record { local = D; left = root h S; right = root h T; of_type = atom a I }) w.equations_typed.0

        local' : LocalBySkeletonsUpTo Σ G Ψ (IsFilling Σ G parts) D
        local' = (EquationIsTyped-weaker Σ G Ψ (IsFilling Σ G whole) (IsFilling Σ G parts) (parts_fewer w) (record { local = D; left = root h S; right = root h T; of_type = atom a I }) w.equations_typed.0).local_typed
