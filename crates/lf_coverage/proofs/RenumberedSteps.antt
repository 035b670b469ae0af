-- A step of a store is one of the store under other numbers, where the new metavariable's number is free there.
use Rattle.std.proofs.Common.{◌≡◌, ℕ, ◌≤◌, List, [], ◌∷◌, refl, sym, ap, ◌∙◌, subst}
use Rattle.std.specs.Prelude.{Option, None}
use Rattle.lf.specs.Eta.{eta_long}
use Rattle.lf.specs.Syntax.{constant, variable, metavariable, Term, Spine, lambda, root, nil, app, LfType, pi, atom, skeleton}
use Rattle.lf.specs.Typing.{Signature, IsSignature}
use Rattle.lf_unification.specs.Lists.{followed}
use Rattle.lf_unification.specs.Offering.{MetavariablesInLocals, argument_equations}
use Rattle.lf_unification.specs.OpenTyping.{Declares, MetavariablesIn, MetavariablesInSpine, MetavariablesInType, skeletons_of}
use Rattle.lf_unification.specs.Patterns.{lambdas_of}
use Rattle.lf_unification.specs.Putting.{PutsSome, Unbound}
use Rattle.lf_unification.specs.Scope.{IsScoped, MetavariablesInBindings, MetavariablesInEquationTypes, MetavariablesInEquations}
use Rattle.lf_unification.specs.Steps.{Step, bind, drop_equal, equal_heads, next_equation, on_pattern, open_lambdas, prune_both, prune_inside, put_bindings, renew}
use Rattle.lf_unification.specs.Unifiers.{Binding, Equation, Side, Store, equation_on, on_left, on_right}
use Rattle.lf_coverage.specs.Renumbering.{Renumbering, undone, renumbered_head, renumbered, renumbered_spine, renumbered_type, renumbered_locals, renumbered_equation, renumbered_equations, renumbered_bindings, renumbered_types, renumbered_filling, renumbered_store}
use Rattle.lf_coverage.proofs.RenumberedBack.{declared_at, followed_filling, skeleton_at}
use Rattle.lf_coverage.proofs.RenumberedSyntax.{eta_expanded, skeleton_renumbered, under_lambdas}
use Rattle.lf_coverage.proofs.RenumberedTyping.{declared_back, in_renumbered, in_renumbered_type, open_head}
use Rattle.lf_coverage.proofs.RenumberedRules.{arguments_same, binders_same, followed_same, puts_in_type, puts_some, rigid_head, unbound, unbound_back}
use Rattle.lf_coverage.proofs.RenumberedPatterns.{can_agree, can_bind, can_drop, is_pattern, pattern_is, pruned_same, set_types, store_same}

module _ (V W : ℕ → Type 0) (f : ℕ → ℕ) (h : (m : ℕ) → W (f m) → V m) where
  mutual
    in_back : (M : Term) → MetavariablesIn W (renumbered f M) → MetavariablesIn V M
    in_back (lambda M) v = in_back M v
    in_back (root (constant c) S) v = in_back_spine S v
    in_back (root (variable c) S) v = in_back_spine S v
    in_back (root (metavariable m) S) (x, v) = (h m x, in_back_spine S v)

    in_back_spine : (S : Spine) → MetavariablesInSpine W (renumbered_spine f S) → MetavariablesInSpine V S
    in_back_spine nil v = tt
    in_back_spine (app M S) (v, w) = (in_back M v, in_back_spine S w)

  pub in_back_type : (A : LfType) → MetavariablesInType W (renumbered_type f A) → MetavariablesInType V A
  in_back_type (pi A B) (v, w) = (in_back_type A v, in_back_type B w)
  in_back_type (atom a S) v = in_back_spine S v

module _ (π : Renumbering) where
  module _ (Ψ : ℕ → Option LfType) where
    abbrev Φ₁ : ℕ → Option LfType
    Φ₁ = renumbered_types π Ψ

    -- what is mentioned is declared
    abbrev declares : (m : ℕ) → Declares Ψ m → Declares Φ₁ (π.to m)
    declares m (A, e) = (renumbered_type π.to A, declared_at π Ψ m A e)

    scoped_bindings : (bs : List Binding) → MetavariablesInBindings (Declares Ψ) bs → MetavariablesInBindings (Declares Φ₁) (renumbered_bindings π.to bs)
    scoped_bindings [] v = v
    scoped_bindings (b ∷ bs) (v, w, r) = (declares b.of v, in_renumbered (Declares Ψ) (Declares Φ₁) π.to declares b.value w, scoped_bindings bs r)

    scoped_equations : (es : List Equation) → MetavariablesInEquations (Declares Ψ) es → MetavariablesInEquations (Declares Φ₁) (renumbered_equations π.to es)
    scoped_equations [] v = v
    scoped_equations (e ∷ es) (v, w, r) = (in_renumbered (Declares Ψ) (Declares Φ₁) π.to declares e.left v, in_renumbered (Declares Ψ) (Declares Φ₁) π.to declares e.right w, scoped_equations es r)

    scoped_locals : (D : List LfType) → MetavariablesInLocals (Declares Ψ) D → MetavariablesInLocals (Declares Φ₁) (renumbered_locals π.to D)
    scoped_locals [] v = v
    scoped_locals (A ∷ D) (v, w) = (scoped_locals D v, in_renumbered_type (Declares Ψ) (Declares Φ₁) π.to declares A w)

    scoped_types : (es : List Equation) → MetavariablesInEquationTypes (Declares Ψ) es → MetavariablesInEquationTypes (Declares Φ₁) (renumbered_equations π.to es)
    scoped_types [] v = v
    scoped_types (e ∷ es) (v, w, r) = (scoped_locals e.local v, in_renumbered_type (Declares Ψ) (Declares Φ₁) π.to declares e.of_type w, scoped_types es r)

    pub scoped : (n n' : ℕ) (bs : List Binding) (es : List Equation) → ((m : ℕ) → n' ≤ m → Φ₁ m ≡ None) → IsScoped Ψ n bs es → IsScoped Φ₁ n' (renumbered_bindings π.to bs) (renumbered_equations π.to es)
    scoped n n' bs es new c = record {
      fresh = new;
      types = λ m A e. let (B, q, r) = declared_back π Ψ m A e in subst (MetavariablesInType (Declares Φ₁)) r (in_renumbered_type (Declares Ψ) (Declares Φ₁) π.to declares B (c.types (π.back m) B q));
      bindings = scoped_bindings bs c.bindings;
      equations = scoped_equations es c.equations;
      equation_types = scoped_types es c.equation_types;
    }

-- the sides of an equation
side_same : (f : ℕ → ℕ) (side : Side) (D : List LfType) (M N : Term) (C : LfType) → renumbered_equation f (equation_on side D M N C) ≡ equation_on side (renumbered_locals f D) (renumbered f M) (renumbered f N) (renumbered_type f C)
side_same f on_left D M N C = refl
side_same f on_right D M N C = refl

-- The number of a step's new metavariable is free under the renumbering.
abbrev pub NewIsFree : (π : Renumbering) {Σ : Signature} {s s' : Store} → Step Σ s s' → Type 0
NewIsFree π (next_equation es e fs) = Unit {0}
NewIsFree π (put_bindings p q) = Unit {0}
NewIsFree π drop_equal = Unit {0}
NewIsFree π open_lambdas = Unit {0}
NewIsFree π (equal_heads h A r t) = Unit {0}
NewIsFree π (bind side D m xs N C e u p b) = Unit {0}
NewIsFree π (prune_inside {Ψ = Ψ} side D m xs N C e k p u n c) = (j : ℕ) → π.to n ≤ j → renumbered_types π Ψ j ≡ None
NewIsFree π (prune_both {Ψ = Ψ} side D m xs N C e k p u n c) = (j : ℕ) → π.to n ≤ j → renumbered_types π Ψ j ≡ None
NewIsFree π (renew {Ψ = Ψ} m A A' e u t p n c) = (j : ℕ) → π.to n ≤ j → renumbered_types π Ψ j ≡ None

module _ (Σ : Signature) (ok : IsSignature Σ) (π : Renumbering) where
  between : {s s' t t' : Store} → s ≡ t → s' ≡ t' → Step Σ t t' → Step Σ s s'
  between {s} {s'} {t} {t'} p q r = subst (λ x. Step Σ x s') (sym p) (subst (Step Σ t) (sym q) r)

  -- the equations with m on a pattern in front
  pub at_pattern : (Ψ : ℕ → Option LfType) (es : List Equation) (side : Side) (D : List LfType) (m : ℕ) (xs : List ℕ) (N : Term) (C : LfType) → renumbered_equations π.to (equation_on side D (on_pattern Ψ m xs) N C ∷ es) ≡ equation_on side (renumbered_locals π.to D) (on_pattern (renumbered_types π Ψ) (π.to m) xs) (renumbered π.to N) (renumbered_type π.to C) ∷ renumbered_equations π.to es
  at_pattern Ψ es side D m xs N C = ap (λ e. e ∷ renumbered_equations π.to es) (side_same π.to side D (on_pattern Ψ m xs) N C ∙ ap (λ M. equation_on side (renumbered_locals π.to D) M (renumbered π.to N) (renumbered_type π.to C)) (pattern_is π Ψ m xs))

  pub step_moved : {s s' : Store} (p : Step Σ s s') → NewIsFree π p → Step Σ (renumbered_store π s) (renumbered_store π s')
  step_moved (next_equation es e fs) new = between (store_same refl refl (followed_same π.to es (e ∷ fs))) (store_same refl refl (ap (λ gs. renumbered_equation π.to e ∷ gs) (followed_same π.to es fs))) (next_equation (renumbered_equations π.to es) (renumbered_equation π.to e) (renumbered_equations π.to fs))
  step_moved (put_bindings {Ψ = Ψ} {bs = bs} {D = D} {M = M} {M' = M'} {N = N} {N' = N'} p q) new = put_bindings (subst (λ k. PutsSome (renumbered_types π Ψ) (renumbered_bindings π.to bs) k (renumbered π.to M) (renumbered π.to M')) (sym (binders_same π.to D)) (puts_some π Ψ bs p)) (subst (λ k. PutsSome (renumbered_types π Ψ) (renumbered_bindings π.to bs) k (renumbered π.to N) (renumbered π.to N')) (sym (binders_same π.to D)) (puts_some π Ψ bs q))
  step_moved drop_equal new = drop_equal
  step_moved open_lambdas new = open_lambdas
  step_moved (equal_heads {Ψ = Ψ} {es = es} {D = D} {S = S} {T = T} h A r t) new = between refl (store_same refl refl (followed_same π.to (argument_equations D A S T) es ∙ ap (λ gs. followed gs (renumbered_equations π.to es)) (arguments_same π.to D A S T))) (equal_heads (renumbered_head π.to h) (renumbered_type π.to A) (rigid_head π.to h r) (open_head Σ ok π Ψ (λ β. Unit {0}) (λ β. Unit {0}) (λ γ v. (renumbered_filling (undone π) γ, tt, followed_filling π γ)) D h A t))
  step_moved (bind {Ψ = Ψ} {bs = bs} {es = es} {A = A} side D m xs N C e u p b) new = between (store_same refl refl (at_pattern Ψ es side D m xs N C)) (store_same refl (ap (λ M. record { of = π.to m; value = M } ∷ renumbered_bindings π.to bs) (under_lambdas π.to (skeletons_of Ψ m) b.inverted.inversion ∙ ap (λ t. lambdas_of t (renumbered π.to b.inverted.inversion)) (sym (skeleton_at π Ψ m)))) refl) (bind side (renumbered_locals π.to D) (π.to m) xs (renumbered π.to N) (renumbered_type π.to C) (declared_at π Ψ m A e) (unbound π bs m u) (is_pattern π Ψ D m xs p) (can_bind π Ψ bs D m xs N b))
  step_moved (prune_inside {Ψ = Ψ} {bs = bs} {es = es} {A = A} side D m xs N C e k p u n c) new = between (store_same refl refl (at_pattern Ψ es side D m xs N C)) (pruned_same π Ψ p.drop.m p.dropped p.pruned (equation_on side D (on_pattern Ψ m xs) N C ∷ es) bs (equation_on side (renumbered_locals π.to D) (on_pattern (renumbered_types π Ψ) (π.to m) xs) (renumbered π.to N) (renumbered_type π.to C) ∷ renumbered_equations π.to es) n (at_pattern Ψ es side D m xs N C)) (prune_inside side (renumbered_locals π.to D) (π.to m) xs (renumbered π.to N) (renumbered_type π.to C) (declared_at π Ψ m A e) (is_pattern π Ψ D m xs k) (can_drop π Ψ D m xs N p) (unbound π bs p.drop.m u) (π.to n) (subst (IsScoped (renumbered_types π Ψ) (π.to n) (renumbered_bindings π.to bs)) (at_pattern Ψ es side D m xs N C) (scoped π Ψ n (π.to n) bs (equation_on side D (on_pattern Ψ m xs) N C ∷ es) new c)))
  step_moved (prune_both {Ψ = Ψ} {bs = bs} {es = es} {A = A} side D m xs N C e k p u n c) new = between (store_same refl refl (at_pattern Ψ es side D m xs N C)) (pruned_same π Ψ m p.dropped p.pruned (equation_on side D (on_pattern Ψ m xs) N C ∷ es) bs (equation_on side (renumbered_locals π.to D) (on_pattern (renumbered_types π Ψ) (π.to m) xs) (renumbered π.to N) (renumbered_type π.to C) ∷ renumbered_equations π.to es) n (at_pattern Ψ es side D m xs N C)) (prune_both side (renumbered_locals π.to D) (π.to m) xs (renumbered π.to N) (renumbered_type π.to C) (declared_at π Ψ m A e) (is_pattern π Ψ D m xs k) (can_agree π Ψ D m xs N p) (unbound π bs m u) (π.to n) (subst (IsScoped (renumbered_types π Ψ) (π.to n) (renumbered_bindings π.to bs)) (at_pattern Ψ es side D m xs N C) (scoped π Ψ n (π.to n) bs (equation_on side D (on_pattern Ψ m xs) N C ∷ es) new c)))
  step_moved (renew {Ψ = Ψ} {bs = bs} {es = es} m A A' e u t p n c) new = between refl (store_same (set_types π n A' Ψ) (ap (λ M. record { of = π.to m; value = M } ∷ renumbered_bindings π.to bs) (eta_expanded π.to (skeleton A) (metavariable n) nil ∙ ap (λ a. eta_long a (metavariable (π.to n))) (sym (skeleton_renumbered π.to A)))) refl) (renew (π.to m) (renumbered_type π.to A) (renumbered_type π.to A') (declared_at π Ψ m A e) (unbound π bs m u) (λ h. t (in_back_type (Unbound bs) (Unbound (renumbered_bindings π.to bs)) π.to (unbound_back π bs) A h)) (puts_in_type π Ψ bs p) (π.to n) (scoped π Ψ n (π.to n) bs es new c))
