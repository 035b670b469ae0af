-- What is left over is so under other numbers.
use Rattle.std.proofs.Common.{◌≡◌, ℕ, ◌⊎◌, List, [], ◌∷◌, inl, inr, refl, sym, ap, ◌∙◌, subst}
use Rattle.std.specs.Prelude.{Option}
use Rattle.lf.specs.Syntax.{constant, variable, metavariable, Term, Spine, lambda, root, nil, app, LfType, pi, atom}
use Rattle.lf_unification.specs.Inversion.{Inverted, IsPattern, NeverInverted, OccursRigid}
use Rattle.lf_unification.specs.OpenTyping.{Declares, MetavariablesIn, MetavariablesInType, skeletons_of}
use Rattle.lf_unification.specs.Outside.{IsFlexible, IsLambda, IsStuck, NoStep, Outside}
use Rattle.lf_unification.specs.Pruning.{CanAgree, CanDrop}
use Rattle.lf_unification.specs.Putting.{PutsIn, Unbound, binders}
use Rattle.lf_unification.specs.Reach.{IsInside, IsReached, Mentions, SpineMentions, TypeMentions, in_term, in_type, in_value, inside_value, is_given}
use Rattle.lf_unification.specs.Solving.{AllLeftOver, LeftOver}
use Rattle.lf_unification.specs.Steps.{on_pattern}
use Rattle.lf_unification.specs.Unifiers.{Binding, Equation, Store}
use Rattle.lf_coverage.specs.Renumbering.{Renumbering, undone, renumbered, renumbered_spine, renumbered_type, renumbered_locals, renumbered_equation, renumbered_equations, renumbered_binding, renumbered_bindings, renumbered_types, renumbered_store}
use Rattle.lf_coverage.proofs.RenumberedPatterns.{can_agree, can_drop, inverted, is_pattern, never_inverted, occurs_rigid, pattern_is}
use Rattle.lf_coverage.proofs.RenumberedRules.{binders_same, binding_in, puts_in, unbound, unbound_back}
use Rattle.lf_coverage.proofs.RenumberedBack.{declared_at, returned, returned_bindings, returned_locals, returned_types}
use Rattle.lf_coverage.proofs.RenumberedTyping.{declared_back, in_renumbered, in_renumbered_type}

module _ (f : ℕ → ℕ) (m : ℕ) where
  mutual
    pub mentions : (M : Term) → Mentions m M → Mentions (f m) (renumbered f M)
    mentions (lambda M) h = mentions M h
    mentions (root (constant c) S) h = mentions_spine S h
    mentions (root (variable i) S) h = mentions_spine S h
    mentions (root (metavariable n) S) (inl e) = inl (ap f e)
    mentions (root (metavariable n) S) (inr h) = inr (mentions_spine S h)

    mentions_spine : (S : Spine) → SpineMentions m S → SpineMentions (f m) (renumbered_spine f S)
    mentions_spine nil h = h
    mentions_spine (app M S) (inl h) = inl (mentions M h)
    mentions_spine (app M S) (inr h) = inr (mentions_spine S h)

  mentions_type : (A : LfType) → TypeMentions m A → TypeMentions (f m) (renumbered_type f A)
  mentions_type (pi A B) (inl h) = inl (mentions_type A h)
  mentions_type (pi A B) (inr h) = inr (mentions_type B h)
  mentions_type (atom a S) h = mentions_spine S h

was_lambda : (f : ℕ → ℕ) (M : Term) → IsLambda (renumbered f M) → IsLambda M
was_lambda f (lambda M) h = h
was_lambda f (root h S) k = k

flexible : (f : ℕ → ℕ) (M : Term) → IsFlexible M → IsFlexible (renumbered f M)
flexible f (lambda M) h = h
flexible f (root (constant c) S) h = h
flexible f (root (variable i) S) h = h
flexible f (root (metavariable m) S) h = h

module _ (π : Renumbering) where
  pub same_terms : (M N : Term) → renumbered π.to M ≡ renumbered π.to N → M ≡ N
  same_terms M N e = sym (returned π M) ∙ ap (renumbered π.back) e ∙ returned π N

  -- what is undone is as it was, of all that such a fact speaks of
  as_it_was : (P : (ℕ → Option LfType) → List Binding → List LfType → ℕ → Term → Type 0) (Ψ : ℕ → Option LfType) (bs : List Binding) (D : List LfType) (m : ℕ) (N : Term) → P (renumbered_types (undone π) (renumbered_types π Ψ)) (renumbered_bindings π.back (renumbered_bindings π.to bs)) (renumbered_locals π.back (renumbered_locals π.to D)) (π.back (π.to m)) (renumbered π.back (renumbered π.to N)) → P Ψ bs D m N
  as_it_was P Ψ bs D m N h =
      let h1 : P Ψ (renumbered_bindings π.back (renumbered_bindings π.to bs)) (renumbered_locals π.back (renumbered_locals π.to D)) (π.back (π.to m)) (renumbered π.back (renumbered π.to N)) = subst (λ x. P x (renumbered_bindings π.back (renumbered_bindings π.to bs)) (renumbered_locals π.back (renumbered_locals π.to D)) (π.back (π.to m)) (renumbered π.back (renumbered π.to N))) (returned_types π Ψ) h in
      let h2 : P Ψ bs (renumbered_locals π.back (renumbered_locals π.to D)) (π.back (π.to m)) (renumbered π.back (renumbered π.to N)) = subst (λ x. P Ψ x (renumbered_locals π.back (renumbered_locals π.to D)) (π.back (π.to m)) (renumbered π.back (renumbered π.to N))) (returned_bindings π bs) h1 in
      let h3 : P Ψ bs D (π.back (π.to m)) (renumbered π.back (renumbered π.to N)) = subst (λ x. P Ψ bs x (π.back (π.to m)) (renumbered π.back (renumbered π.to N))) (returned_locals π D) h2 in
      let h4 : P Ψ bs D m (renumbered π.back (renumbered π.to N)) = subst (λ x. P Ψ bs D x (renumbered π.back (renumbered π.to N))) (π.back_to m) h3 in
      subst (P Ψ bs D m) (returned π N) h4

  module _ (Ψ : ℕ → Option LfType) (bs : List Binding) where
    pub reached : {N : Term} {m : ℕ} → IsReached Ψ bs N m → IsReached (renumbered_types π Ψ) (renumbered_bindings π.to bs) (renumbered π.to N) (π.to m)
    reached {N = N} (in_term {m = m} h) = in_term (mentions π.to m N h)
    reached (in_type {m = m} {k = k} {A = A} r e h) = in_type (reached r) (declared_at π Ψ k A e) (mentions_type π.to m A h)
    reached (in_value {m = m} b r i h) = in_value (renumbered_binding π.to b) (reached r) (binding_in π b bs i) (mentions π.to m b.value h)

    pub inside : (given there : ℕ → Type 0) → ((m : ℕ) → given m → there (π.to m)) → {m : ℕ} → IsInside given bs m → IsInside there (renumbered_bindings π.to bs) (π.to m)
    inside given there g (is_given {m = m} h) = is_given (g m h)
    inside given there g (inside_value {m = m} b r i h) = inside_value (renumbered_binding π.to b) (inside given there g r) (binding_in π b bs i) (mentions π.to m b.value h)

module _ (π : Renumbering) (Ψ : ℕ → Option LfType) (bs : List Binding) where
  abbrev Φ : ℕ → Option LfType
  Φ = renumbered_types π Ψ

  abbrev cs : List Binding
  cs = renumbered_bindings π.to bs

  no_step : (D : List LfType) (m : ℕ) (xs : List ℕ) (N : Term) → NoStep Ψ bs D m xs N → NoStep Φ cs (renumbered_locals π.to D) (π.to m) xs (renumbered π.to N)
  no_step D m xs N n = record {
    circular = λ i. reached π Ψ bs (n.circular (as_it_was π (λ Ψ bs D m N. Inverted Ψ D (skeletons_of Ψ m) xs N) Ψ bs D m N (inverted (undone π) Φ (renumbered_locals π.to D) (π.to m) xs (renumbered π.to N) i)));
    invertible = λ i. n.invertible (as_it_was π (λ Ψ bs D m N. NeverInverted Ψ D (skeletons_of Ψ m) xs N) Ψ bs D m N (never_inverted (undone π) Φ (renumbered_locals π.to D) (π.to m) xs (renumbered π.to N) i));
    not_inside = λ i. n.not_inside (as_it_was π (λ Ψ bs D m N. OccursRigid Ψ D m xs N) Ψ bs D m N (occurs_rigid (undone π) Φ (renumbered_locals π.to D) (π.to m) xs (renumbered π.to N) i));
    no_drop = λ i. n.no_drop (as_it_was π (λ Ψ bs D m N. CanDrop Ψ D (skeletons_of Ψ m) xs N) Ψ bs D m N (can_drop (undone π) Φ (renumbered_locals π.to D) (π.to m) xs (renumbered π.to N) i));
    no_agreement = λ i. n.no_agreement (as_it_was π (λ Ψ bs D m N. CanAgree Ψ D m xs N) Ψ bs D m N (can_agree (undone π) Φ (renumbered_locals π.to D) (π.to m) xs (renumbered π.to N) i));
    renewed = λ k A r u e.
        let (B, q, t) = declared_back π Ψ k A e in
        let r0 : IsReached Ψ bs N (π.back k) = as_it_was π (λ Ψ bs D m N. IsReached Ψ bs N (π.back k)) Ψ bs D m N (reached (undone π) Φ cs r) in
        let u0 : Unbound bs (π.back k) = unbound_back π bs (π.back k) (subst (Unbound cs) (sym (π.to_back k)) u) in
        subst (MetavariablesInType (Unbound cs)) t (in_renumbered_type (Unbound bs) (Unbound cs) π.to (unbound π bs) B (n.renewed (π.back k) B r0 u0 q));
  }

  stuck : (D : List LfType) (M N : Term) → IsStuck Ψ bs D M N → IsStuck Φ cs (renumbered_locals π.to D) (renumbered π.to M) (renumbered π.to N)
  stuck D M N h m xs p e =
      let p1 : IsPattern (renumbered_locals π.back (renumbered_locals π.to D)) (skeletons_of (renumbered_types (undone π) Φ) (π.back m)) xs = is_pattern (undone π) Φ (renumbered_locals π.to D) m xs p in
      let p2 : IsPattern D (skeletons_of (renumbered_types (undone π) Φ) (π.back m)) xs = subst (λ E. IsPattern E (skeletons_of (renumbered_types (undone π) Φ) (π.back m)) xs) (returned_locals π D) p1 in
      let p3 : IsPattern D (skeletons_of Ψ (π.back m)) xs = subst (λ X. IsPattern D (skeletons_of X (π.back m)) xs) (returned_types π Ψ) p2 in
      let q : M ≡ on_pattern Ψ (π.back m) xs = sym (returned π M) ∙ ap (renumbered π.back) e ∙ pattern_is (undone π) Φ m xs ∙ ap (λ X. on_pattern X (π.back m) xs) (returned_types π Ψ) in
      subst (λ j. NoStep Φ cs (renumbered_locals π.to D) j xs (renumbered π.to N)) (π.to_back m) (no_step D (π.back m) xs N (h (π.back m) xs p3 q))

  flexible_side : (M N : Term) → IsFlexible M ⊎ IsFlexible N → IsFlexible (renumbered π.to M) ⊎ IsFlexible (renumbered π.to N)
  flexible_side M N (inl h) = inl (flexible π.to M h)
  flexible_side M N (inr h) = inr (flexible π.to N h)

  pub outside : (e : Equation) → Outside Ψ bs e → Outside Φ cs (renumbered_equation π.to e)
  outside e o = record {
    differ = λ q. o.differ (same_terms π e.left e.right q);
    left_root = λ h. o.left_root (was_lambda π.to e.left h);
    right_root = λ h. o.right_root (was_lambda π.to e.right h);
    flexible = flexible_side e.left e.right o.flexible;
    stuck_left = stuck e.local e.left e.right o.stuck_left;
    stuck_right = stuck e.local e.right e.left o.stuck_right;
  }

module _ (π : Renumbering) (given there : ℕ → Option LfType) (g : (m : ℕ) → Declares given m → Declares there (π.to m)) (s : Store) where
  put_side : (D : List LfType) (M M' : Term) → PutsIn s.metavariables s.bindings (binders D) M M' → PutsIn (renumbered_types π s.metavariables) (renumbered_bindings π.to s.bindings) (binders (renumbered_locals π.to D)) (renumbered π.to M) (renumbered π.to M')
  put_side D M M' p = subst (λ k. PutsIn (renumbered_types π s.metavariables) (renumbered_bindings π.to s.bindings) k (renumbered π.to M) (renumbered π.to M')) (sym (binders_same π.to D)) (puts_in π s.metavariables s.bindings p)

  inside_side : (M : Term) → MetavariablesIn (IsInside (Declares given) s.bindings) M → MetavariablesIn (IsInside (Declares there) (renumbered_bindings π.to s.bindings)) (renumbered π.to M)
  inside_side M h = in_renumbered (IsInside (Declares given) s.bindings) (IsInside (Declares there) (renumbered_bindings π.to s.bindings)) π.to (λ m x. inside π s.metavariables s.bindings (Declares given) (Declares there) g x) M h

  pub left_over : (e : Equation) → LeftOver given s e → LeftOver there (renumbered_store π s) (renumbered_equation π.to e)
  left_over e o = record {
    shown = renumbered_equation π.to o.shown;
    same_local = ap (renumbered_locals π.to) o.same_local;
    put_left = put_side e.local e.left o.shown.left o.put_left;
    put_right = put_side e.local e.right o.shown.right o.put_right;
    inside_left = inside_side o.shown.left o.inside_left;
    inside_right = inside_side o.shown.right o.inside_right;
    outside = outside π s.metavariables s.bindings o.shown o.outside;
  }

  pub shown_is : (e : Equation) (o : LeftOver given s e) → (left_over e o).shown ≡ renumbered_equation π.to o.shown
  unfolding left_over
  shown_is e o = refl

  pub all_left_over : (es : List Equation) → AllLeftOver given s es → AllLeftOver there (renumbered_store π s) (renumbered_equations π.to es)
  all_left_over [] h = h
  all_left_over (e ∷ es) (o, h) = (left_over e o, all_left_over es h)
