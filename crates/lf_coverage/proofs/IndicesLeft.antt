-- Why an equation of patterns is left over: its flexible side is on a pattern, and so is each metavariable of the other, so that types alone can hold it.
use Rattle.std.proofs.Common.{◌≡◌, ℕ, ◌⊎◌, List, [], ◌∷◌, inl, inr, refl, sym, ap, ◌∙◌, subst}
use Rattle.std.specs.Prelude.{Option}
use Rattle.lf.specs.Subordination.{Member}
use Rattle.lf.specs.Syntax.{constant, variable, metavariable, Term, Spine, lambda, root, LfType, Skeleton, skeleton}
use Rattle.lf.specs.Typing.{Signature}
use Rattle.lf_unification.specs.Inversion.{Allowed, Inversion, OccursRigid, is_flexible, is_inverted, is_never}
use Rattle.lf_unification.specs.OpenTyping.{skeletons_of}
use Rattle.lf_unification.specs.Outside.{IsFlexible, NoStep, Outside}
use Rattle.lf_unification.specs.Patterns.{FreeVariablesInSpine, local_skeletons, pattern}
use Rattle.lf_unification.specs.Reach.{Mentions}
use Rattle.lf_unification.specs.Rigid.{Rigid}
use Rattle.lf_unification.specs.Solving.{LeftOver}
use Rattle.lf_unification.specs.Steps.{on_pattern}
use Rattle.lf_unification.specs.Unifiers.{Binding, Equation, Store}
use Rattle.lf_unification.proofs.Offer.{decide}
use Rattle.lf_unification.proofs.Putting.{put_some}
use Rattle.lf_unification.proofs.Total.{inversion_total, must_drop}
use Rattle.lf_coverage.specs.IndicesLeft.{EquationIsHeld, IsHeldByTypes, SplitIsHeldByTypes, circular_by_type, keeps_both, keeps_inside}
use Rattle.lf_coverage.specs.PatternStores.{IsPatternStore, IsPatternTerm, SidesArePatterns}
use Rattle.lf_coverage.specs.SplitStore.{split_store}
use Rattle.lf_coverage.proofs.PatternSplits.{split_store_is_pattern}
use Rattle.lf_coverage.proofs.PatternSteps.{run_keeps}
use Rattle.lf_coverage.proofs.PatternSides.{puts}
use Rattle.lf_coverage.proofs.PatternMoves.{length_local}
use Rattle.lf_coverage.proofs.IndicesParts.{found, is_on, mentions_or_not, part_of}

module _ (Σ : Signature) (Ψ : ℕ → Option LfType) where
  -- the term is m on arguments, or isn't
  headed : (m : ℕ) (N : Term) → ((S : Spine) × (N ≡ root (metavariable m) S)) ⊎ ((S : Spine) → N ≡ root (metavariable m) S → ⊥)
  headed m (lambda M) = inr (λ S e. cc)
  headed m (root (constant c) T) = inr (λ S e. cc)
  headed m (root (variable c) T) = inr (λ S e. cc)
  headed m (root (metavariable n) T) = go (decide n m)
    where
      go : (n ≡ m) ⊎ (n ≡ m → ⊥) → ((S : Spine) × (root (metavariable n) T ≡ root (metavariable m) S)) ⊎ ((S : Spine) → root (metavariable n) T ≡ root (metavariable m) S → ⊥)
      go (inl e) = inl (T, ap (λ k. root (metavariable k) T) e)
      go (inr h) = inr (λ S e. h cc)

  module _ (bs : List Binding) (D : List LfType) (m : ℕ) (xs : List ℕ) (N : Term) (t : Skeleton) (p : IsPatternTerm Σ Ψ (local_skeletons D []) N t) (s : NoStep Ψ bs D m xs N) (differ : on_pattern Ψ m xs ≡ N → ⊥) where
    held_same : (S : Spine) → N ≡ root (metavariable m) S → IsHeldByTypes Ψ bs D m xs N
    held_same S e = let (ys, q, x) = is_on Σ Ψ D m S t (subst (λ M. IsPatternTerm Σ Ψ (local_skeletons D []) M t) e p) in keeps_both (record { ys = ys; is_pattern = x; is = e ∙ ap (root (metavariable m)) q }) differ s.no_agreement

    occurs : ((S : Spine) → N ≡ root (metavariable m) S → ⊥) → Mentions m N → OccursRigid Ψ D m xs N
    occurs h k =
        let (d, S, r) = found Σ Ψ m N (local_skeletons D []) t p k in
        let (F, x, u, q) = part_of Σ Ψ D d (root (metavariable m) S) N t r p in
        let (ys, z, y) = is_on Σ Ψ F m S u q in
        record { depth = d; context = F; context_is = x; ys = ys; is_pattern = y; at = subst (λ T. Rigid (root (metavariable m) T) d N) z r; inside = λ e. h (pattern (skeletons_of Ψ m) ys) e }

    held_other : ((S : Spine) → N ≡ root (metavariable m) S → ⊥) → Inversion Ψ D (skeletons_of Ψ m) xs N → IsHeldByTypes Ψ bs D m xs N
    held_other h (is_never v) = absurd (s.invertible v)
    held_other h (is_inverted v) = by (mentions_or_not m N)
      where
        by : Mentions m N ⊎ (Mentions m N → ⊥) → IsHeldByTypes Ψ bs D m xs N
        by (inl k) = absurd (s.not_inside (occurs h k))
        by (inr k) = circular_by_type v (s.circular v) k
    held_other h (is_flexible d n S r b) =
        let (F, x, u, q) = part_of Σ Ψ D d (root (metavariable n) S) N t r p in
        let (ys, z, y) = is_on Σ Ψ F n S u q in
        keeps_inside (must_drop Ψ D (skeletons_of Ψ m) xs N d n F ys x y (subst (λ T. Rigid (root (metavariable n) T) d N) z r) (λ f. b (subst (FreeVariablesInSpine (Allowed D (skeletons_of Ψ m) xs d)) (sym z) f))) s.no_drop

    pub held : IsHeldByTypes Ψ bs D m xs N
    held = by (headed m N)
      where
        by : ((S : Spine) × (N ≡ root (metavariable m) S)) ⊎ ((S : Spine) → N ≡ root (metavariable m) S → ⊥) → IsHeldByTypes Ψ bs D m xs N
        by (inl (S, e)) = held_same S e
        by (inr h) = held_other h (inversion_total Ψ D (skeletons_of Ψ m) xs N)

  -- an equation of patterns outside the fragment
  pub equation_held : (bs : List Binding) (e : Equation) (t : Skeleton) → IsPatternTerm Σ Ψ (local_skeletons e.local []) e.left t → IsPatternTerm Σ Ψ (local_skeletons e.local []) e.right t → Outside Ψ bs e → EquationIsHeld Ψ bs e
  equation_held bs e t p q o = by o.flexible
    where
      flexible : (M : Term) → IsFlexible M → (m : ℕ) × (S : Spine) × (M ≡ root (metavariable m) S)
      flexible (lambda M) f = absurd f
      flexible (root (constant c) S) f = absurd f
      flexible (root (variable c) S) f = absurd f
      flexible (root (metavariable m) S) f = (m, S, refl)

      by : IsFlexible e.left ⊎ IsFlexible e.right → EquationIsHeld Ψ bs e
      by (inl f) =
          let (m, S, x) = flexible e.left f in
          let (ys, z, y) = is_on Σ Ψ e.local m S t (subst (λ M. IsPatternTerm Σ Ψ (local_skeletons e.local []) M t) x p) in
          let is : e.left ≡ on_pattern Ψ m ys = x ∙ ap (root (metavariable m)) z in
          record { metavariable = m; variables = ys; is_pattern = y; other = e.right; sides = inl (is, refl); held = held bs e.local m ys e.right t q (o.stuck_left m ys y is) (λ d. o.differ (is ∙ d)) }
      by (inr f) =
          let (m, S, x) = flexible e.right f in
          let (ys, z, y) = is_on Σ Ψ e.local m S t (subst (λ M. IsPatternTerm Σ Ψ (local_skeletons e.local []) M t) x q) in
          let is : e.right ≡ on_pattern Ψ m ys = x ∙ ap (root (metavariable m)) z in
          record { metavariable = m; variables = ys; is_pattern = y; other = e.left; sides = inr (is, refl); held = held bs e.local m ys e.left t p (o.stuck_right m ys y is) (λ d. o.differ (sym (is ∙ d))) }

-- an equation of a store of patterns, with the bindings put in
pub side_at : (Σ : Signature) (Ψ : ℕ → Option LfType) (es : List Equation) → SidesArePatterns Σ Ψ es → (e : Equation) → Member e es → IsPatternTerm Σ Ψ (local_skeletons e.local []) e.left (skeleton e.of_type) × IsPatternTerm Σ Ψ (local_skeletons e.local []) e.right (skeleton e.of_type)
side_at Σ Ψ [] h e m = absurd m
side_at Σ Ψ (f ∷ es) (x, h) e (inl q) = subst (λ g. IsPatternTerm Σ Ψ (local_skeletons g.local []) g.left (skeleton g.of_type) × IsPatternTerm Σ Ψ (local_skeletons g.local []) g.right (skeleton g.of_type)) (sym q) x
side_at Σ Ψ (f ∷ es) (x, h) e (inr m) = side_at Σ Ψ es h e m

pub shown_is_pattern : (Σ : Signature) (s : Store) → IsPatternStore Σ s → (given : ℕ → Option LfType) (e : Equation) → Member e s.equations → (o : LeftOver given s e) → IsPatternTerm Σ s.metavariables (local_skeletons o.shown.local []) o.shown.left (skeleton e.of_type) × IsPatternTerm Σ s.metavariables (local_skeletons o.shown.local []) o.shown.right (skeleton e.of_type)
shown_is_pattern Σ s h given e m o =
    let (p, q) = side_at Σ s.metavariables s.equations h.sides e m in
    let Γ : List Skeleton = local_skeletons e.local [] in
    let same : Γ ≡ local_skeletons o.shown.local [] = ap (λ D. local_skeletons D []) (sym o.same_local) in (
      subst (λ Δ. IsPatternTerm Σ s.metavariables Δ o.shown.left (skeleton e.of_type)) same (puts Σ s.metavariables s.bindings h.bindings (put_some o.put_left) Γ (skeleton e.of_type) (length_local e.local) p),
      subst (λ Δ. IsPatternTerm Σ s.metavariables Δ o.shown.right (skeleton e.of_type)) same (puts Σ s.metavariables s.bindings h.bindings (put_some o.put_right) Γ (skeleton e.of_type) (length_local e.local) q),
    )

pub split_is_held_by_types : SplitIsHeldByTypes
split_is_held_by_types Σ W below I J x X at n h A sh nb K e hp after l f m o =
    let (s, t) = run_keeps Σ l.run (split_store_is_pattern Σ W below I J x X at n h A sh nb K e hp) hp.declared in
    let (p, q) = shown_is_pattern Σ after s (split_store below x X J n h A K).metavariables f m o in
    equation_held Σ after.metavariables after.bindings o.shown (skeleton f.of_type) p q o.outside
