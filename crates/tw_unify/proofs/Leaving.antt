-- The equations that are left: each is a left-over one, since each metavariable is a given one or stands in the value of one.
use Rattle.std.proofs.Common.{◌≡◌, ℕ, zero, suc, List, [], ◌∷◌, Option, Some, inl, inr, refl, sym, ap, ◌∙◌, subst}
use Rattle.lf.specs.Eta.{add_last, eta_expand, eta_long}
use Rattle.lf.specs.Syntax.{LfType, Skeleton, Spine, Term, arrow, atom, base, metavariable, nil, rename_spine, root, skeleton, variable}
use Rattle.lf.specs.Typing.{IsSignature, Signature}
use Rattle.lf_unification.specs.Lists.{followed}
use Rattle.lf_unification.specs.Offering.{pi_over}
use Rattle.lf_unification.specs.OpenTyping.{Declares, skeletons_of}
use Rattle.lf_unification.specs.Patterns.{lambdas_of, local_skeletons, pattern}
use Rattle.lf_unification.specs.PartialInstance.{IsFilling}
use Rattle.lf_unification.specs.Pruning.{PrunedType, pruned_store}
use Rattle.lf_unification.specs.Reach.{IsInside, Mentions, inside_value, is_given}
use Rattle.lf_unification.specs.Solving.{AllLeftOver, IsWellFormed}
use Rattle.lf_unification.specs.Renewing.{renewed_store}
use Rattle.lf_unification.specs.Steps.{Run, Step, bind, drop_equal, equal_heads, next_equation, no_step, on_pattern, open_lambdas, prune_both, prune_inside, put_bindings, renew, store_at, then_run}
use Rattle.lf_unification.specs.Unifiers.{Binding, Equation, Store}
use Rattle.lf_unification.proofs.Agree.{set_cases}
use Rattle.lf_unification.proofs.Putting.{put_some}
use Rattle.lf_unification.proofs.Runs.{run_form}
use Rattle.lf_unification.proofs.Scope.{in_weaker}
use Rattle.tw_metas.specs.State.{State}
use Rattle.tw_putting.specs.Stores.{bindings_of, types_of}
use Rattle.tw_putting.specs.Ready.{IsReady, TypesBySkeletons}
use Rattle.tw_unify.specs.Sides.{AllLeft, AllMayBeLeft, EquationFits, PutsBoth, with_sides}
use Rattle.tw_putting.specs.Whole.{whole}
use Rattle.tw_putting.proofs.Readiness.{ready_values}
use Rattle.tw_unify.proofs.Fitting.{can_take}
use Rattle.tw_putting.proofs.Skeletons.{run_types, term_declared, term_scoped}

module _ (given : ℕ → Option LfType) where
  -- each declared metavariable is inside the given ones
  abbrev pub AllInside : Store → Type 0
  AllInside s = (m : ℕ) → Declares s.metavariables m → IsInside (Declares given) s.bindings m

  inside_more : (b : Binding) (bs : List Binding) {m : ℕ} → IsInside (Declares given) bs m → IsInside (Declares given) (b ∷ bs) m
  inside_more b bs (is_given g) = is_given g
  inside_more b bs (inside_value d i h m) = inside_value d (inside_more b bs i) (inr h) m

  mentions_lambdas : (n : ℕ) (t : Skeleton) (M : Term) → Mentions n M → Mentions n (lambdas_of t M)
  mentions_lambdas n (base c) M h = h
  mentions_lambdas n (arrow a b) M h = mentions_lambdas n b M h

  pruned_inside : (s : Store) (k dropped : ℕ) (p : PrunedType s.metavariables k dropped) (n : ℕ) → AllInside s → AllInside (pruned_store s k dropped p n)
  pruned_inside s k dropped p n f m (A, d) =
      let V = lambdas_of (skeleton (pi_over p.local (atom p.family p.indices))) (root (metavariable n) (pattern (skeleton (pi_over p.kept_local (atom p.family p.kept_indices))) p.kept)) in
      let b : Binding = record { of = k; value = V } in
      elim (set_cases n (Some (pi_over p.kept_local (atom p.family p.kept_indices))) s.metavariables m) [
        | inl e ↦ inside_value b (inside_more b s.bindings (f k (pi_over p.local (atom p.family p.indices), p.declared))) (inl refl)
            (mentions_lambdas m (skeleton (pi_over p.local (atom p.family p.indices))) (root (metavariable n) (pattern (skeleton (pi_over p.kept_local (atom p.family p.kept_indices))) p.kept)) (inl e))
        | inr e ↦ inside_more b s.bindings (f m (A, sym e ∙ d))
      ]

  mentions_expanded : (n : ℕ) (t : Skeleton) (S : Spine) → Mentions n (eta_expand t (metavariable n) S)
  mentions_expanded n (base c) S = inl refl
  mentions_expanded n (arrow a b) S = mentions_expanded n b (add_last (rename_spine suc S) (eta_expand a (variable zero) nil))

  renewed_inside : (s : Store) (m : ℕ) (A A' : LfType) (n : ℕ) → s.metavariables m ≡ Some A → AllInside s → AllInside (renewed_store s m A A' n)
  renewed_inside s m A A' n d f k (X, e) =
      let b : Binding = record { of = m; value = eta_long (skeleton A) (metavariable n) } in
      elim (set_cases n (Some A') s.metavariables k) [
        | inl h ↦ inside_value b (inside_more b s.bindings (f m (A, d))) (inl refl) (subst (λ j. Mentions j (eta_long (skeleton A) (metavariable n))) (sym h) (mentions_expanded n (skeleton A) nil))
        | inr h ↦ inside_more b s.bindings (f k (X, sym h ∙ e))
      ]

  module _ (Σ : Signature) where
    step_inside : {s s' : Store} → Step Σ s s' → AllInside s → AllInside s'
    step_inside (next_equation es e fs) f = f
    step_inside (put_bindings p q) f = f
    step_inside drop_equal f = f
    step_inside open_lambdas f = f
    step_inside (equal_heads h A r g) f = f
    step_inside (bind {Ψ = Ψ} {bs = bs} side D m xs N C d u p b) f = λ k h. inside_more (record { of = m; value = lambdas_of (skeletons_of Ψ m) b.inverted.inversion }) bs (f k h)
    step_inside (prune_inside {Ψ = Ψ} {bs = bs} {es = es} side D m xs N C d p c u n x) f = pruned_inside (store_at side Ψ bs es D (on_pattern Ψ m xs) N C) c.drop.m c.dropped c.pruned n f
    step_inside (prune_both {Ψ = Ψ} {bs = bs} {es = es} side D m xs N C d p c u n x) f = pruned_inside (store_at side Ψ bs es D (on_pattern Ψ m xs) N C) m c.dropped c.pruned n f
    step_inside (renew {Ψ = Ψ} {bs = bs} {es = es} m A A' d u q p n x) f = renewed_inside (record { metavariables = Ψ; bindings = bs; equations = es }) m A A' n d f

    pub run_inside : {s s' : Store} → Run Σ s s' → AllInside s → AllInside s'
    run_inside no_step f = f
    run_inside (then_run p r) f = run_inside r (step_inside p f)

module _ (Σ : Signature) (ok : IsSignature Σ) (s : State) (r : IsReady Σ [] s) where
  abbrev here_first : Equation → List Equation → Store
  here_first e es = record { metavariables = types_of s; bindings = bindings_of s; equations = e ∷ es }

  -- a first equation of a well-formed store over the same state
  first_fits : (e : Equation) (es : List Equation) → IsWellFormed Σ (here_first e es) → TypesBySkeletons Σ (types_of s) (e ∷ es) → EquationFits Σ s e
  first_fits e es w t = record {
    consistent = r.consistent;
    store_typed = ready_values Σ [] s r;
    locals = t.0.0;
    left_typed = term_declared Σ (types_of s) (IsFilling Σ [] (here_first e es)) e.local e.left e.of_type w.typed.equations_typed.0.left_typed;
    right_typed = term_declared Σ (types_of s) (IsFilling Σ [] (here_first e es)) e.local e.right e.of_type w.typed.equations_typed.0.right_typed;
  }

  brought : (es : List Equation) (e : Equation) (fs : List Equation) → s.equations ≡ followed es (e ∷ fs) → Run Σ (whole [] s) (here_first e (followed es fs))
  brought es e fs is = subst (λ gs. Run Σ (record { metavariables = types_of s; bindings = bindings_of s; equations = gs }) (here_first e (followed es fs))) (sym is) (then_run (next_equation es e fs) no_step)

  at_place : (es : List Equation) (e : Equation) (fs : List Equation) → s.equations ≡ followed es (e ∷ fs) → EquationFits Σ s e
  at_place es e fs is = let p = brought es e fs is in first_fits e (followed es fs) (run_form Σ ok r.well_formed p) (run_types Σ ok p r.well_formed r.types)

  shown_at : (es : List Equation) (e : Equation) (fs : List Equation) → s.equations ≡ followed es (e ∷ fs) → (M N : Term) → PutsBoth s e M N → EquationFits Σ s (with_sides e M N)
  shown_at es e fs is M N (p, q) =
      let w = run_form Σ ok r.well_formed (brought es e fs is) in
      let t = run_types Σ ok (brought es e fs is) r.well_formed r.types in
      let put : Run Σ (here_first e (followed es fs)) (here_first (with_sides e M N) (followed es fs)) = then_run (put_bindings (put_some p) (put_some q)) no_step in
      first_fits (with_sides e M N) (followed es fs) (run_form Σ ok w put) (run_types Σ ok put w t)

  next_place : (es : List Equation) (e : Equation) (fs : List Equation) → followed es (e ∷ fs) ≡ followed (followed es (e ∷ [])) fs
  next_place [] e fs = refl
  next_place (d ∷ es) e fs = ap (λ gs. d ∷ gs) (next_place es e fs)

  may_be_left_from : (es fs : List Equation) → s.equations ≡ followed es fs → AllMayBeLeft s fs
  may_be_left_from es [] is = tt
  may_be_left_from es (e ∷ fs) is = (
    record { signature = Σ; takes = can_take Σ s e (at_place es e fs is); shown = shown_at es e fs is },
    may_be_left_from (followed es (e ∷ [])) fs (is ∙ next_place es e fs),
  )

  -- the bindings can be put into the postponed equations
  pub all_may_be_left : AllMayBeLeft s s.equations
  all_may_be_left = may_be_left_from [] s.equations refl

  left_over_from : (given : ℕ → Option LfType) → AllInside given (whole [] s) → (es fs : List Equation) → s.equations ≡ followed es fs → AllLeft s fs → AllLeftOver given (whole [] s) fs
  left_over_from given f es [] is l = tt
  left_over_from given f es (e ∷ fs) is (l, ls) = (
    let x = shown_at es e fs is l.left l.right l.puts in
        record {
          shown = with_sides e l.left l.right;
          same_local = refl;
          put_left = l.puts.0;
          put_right = l.puts.1;
          inside_left = in_weaker (Declares (types_of s)) (IsInside (Declares given) (bindings_of s)) f l.left (term_scoped Σ (types_of s) (local_skeletons e.local []) l.left (skeleton e.of_type) x.left_typed);
          inside_right = in_weaker (Declares (types_of s)) (IsInside (Declares given) (bindings_of s)) f l.right (term_scoped Σ (types_of s) (local_skeletons e.local []) l.right (skeleton e.of_type) x.right_typed);
          outside = l.outside;
        },
    left_over_from given f (followed es (e ∷ [])) fs (is ∙ next_place es e fs) ls,
  )

  -- those that are left are left over
  pub all_left_over : (before : Store) → Run Σ before (whole [] s) → AllLeft s s.equations → AllLeftOver before.metavariables (whole [] s) s.equations
  all_left_over before p l = left_over_from before.metavariables (run_inside before.metavariables Σ p (λ m d. is_given d)) [] s.equations refl l
