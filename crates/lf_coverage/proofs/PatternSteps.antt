-- Each step of unification takes a store of patterns to one.
use Rattle.std.proofs.Common.{◌≡◌, ℕ, [], ◌∷◌, refl, sym, subst, arith}
use Rattle.std.specs.Prelude.{Some, None}
use Rattle.lf.specs.Eta.{eta_long}
use Rattle.lf.specs.Syntax.{metavariable, atom, skeleton}
use Rattle.lf.specs.Typing.{Signature}
use Rattle.lf_unification.specs.Offering.{argument_equations, pi_over}
use Rattle.lf_unification.specs.OpenTyping.{set_at}
use Rattle.lf_unification.specs.Patterns.{local_skeletons}
use Rattle.lf_unification.specs.Pruning.{PrunedType, pruned_store, pruned_type}
use Rattle.lf_unification.specs.Steps.{Step, next_equation, put_bindings, drop_equal, open_lambdas, equal_heads, bind, on_pattern, prune_inside, prune_both, renew, Run, no_step, then_run}
use Rattle.lf_unification.specs.Unifiers.{Store, equation_on}
use Rattle.lf_unification.proofs.Agree.{set_here}
use Rattle.lf_unification.proofs.Putting.{put_type_skeleton}
use Rattle.lf_coverage.specs.PatternStores.{IsPatternStore, IsPatternTerm, TypesArePatterns}
use Rattle.lf_coverage.proofs.PatternMoves.{length_local}
use Rattle.lf_coverage.proofs.PatternSides.{puts, puts_type, sides_first, sides_second, sides_both, rigid_sides, of_side, inverted}
use Rattle.lf_coverage.proofs.PatternEta.{eta_is_pattern}
use Rattle.lf_coverage.proofs.PatternPruned.{grows, bindings_grow, sides_grow, types_grow, pruned_pattern, pruned_value}

module _ (Σ : Signature) where
  pruned_keeps : (s : Store) (n dropped : ℕ) (p : PrunedType s.metavariables n dropped) (n' : ℕ) → s.metavariables n' ≡ None → IsPatternStore Σ s → IsPatternStore Σ (pruned_store s n dropped p n')
  pruned_keeps s n dropped p n' new h = record {
    bindings = ((pi_over p.local (atom p.family p.indices), grows Σ s.metavariables n' (pruned_type p) new n _ p.declared, pruned_value Σ s.metavariables n dropped p n' new), bindings_grow Σ s.metavariables n' (pruned_type p) new s.bindings h.bindings);
    sides = sides_grow Σ s.metavariables n' (pruned_type p) new s.equations h.sides;
  }

  pub step_keeps : {s s' : Store} → Step Σ s s' → IsPatternStore Σ s → IsPatternStore Σ s'
  step_keeps (next_equation {Ψ = Ψ} es e fs) h = let (x, r) = sides_second Σ Ψ es (e ∷ fs) h.sides in record { bindings = h.bindings; sides = (x, sides_both Σ Ψ es fs (sides_first Σ Ψ es (e ∷ fs) h.sides) r) }
  step_keeps (put_bindings {Ψ = Ψ} {bs = bs} {D = D} {C = C} p q) h = let ((m, n), r) = h.sides in record { bindings = h.bindings; sides = ((puts Σ Ψ bs h.bindings p (local_skeletons D []) (skeleton C) (length_local D) m, puts Σ Ψ bs h.bindings q (local_skeletons D []) (skeleton C) (length_local D) n), r) }
  step_keeps drop_equal h = let (x, r) = h.sides in record { bindings = h.bindings; sides = r }
  step_keeps open_lambdas h = let (x, r) = h.sides in record { bindings = h.bindings; sides = (x, r) }
  step_keeps (equal_heads {Ψ = Ψ} {es = es} {D = D} {S = S} {T = T} {a = a} g A r t) h = let ((m, n), k) = h.sides in record { bindings = h.bindings; sides = sides_both Σ Ψ (argument_equations D A S T) es (rigid_sides Σ Ψ D g A S T a r t m n) k }
  step_keeps (bind {Ψ = Ψ} {bs = bs} {es = es} {A = A} side D m xs N C e u p b) h = let (l, n, r) = of_side Σ Ψ side D (on_pattern Ψ m xs) N C es h.sides in record { bindings = ((A, e, inverted Σ Ψ D m A xs N b.inverted.inversion C e p b.inverted.is l n), h.bindings); sides = r }
  step_keeps (prune_inside {Ψ = Ψ} {bs = bs} {es = es} side D m xs N C e i p u n sc) h = pruned_keeps (record { metavariables = Ψ; bindings = bs; equations = equation_on side D (on_pattern Ψ m xs) N C ∷ es }) p.drop.m p.dropped p.pruned n (sc.fresh n (omega arith)) h
  step_keeps (prune_both {Ψ = Ψ} {bs = bs} {es = es} side D m xs N C e i p u n sc) h = pruned_keeps (record { metavariables = Ψ; bindings = bs; equations = equation_on side D (on_pattern Ψ m xs) N C ∷ es }) m p.dropped p.pruned n (sc.fresh n (omega arith)) h
  step_keeps (renew {Ψ = Ψ} {bs = bs} {es = es} m A A' e u o p n sc) h =
      let new : Ψ n ≡ None = sc.fresh n (omega arith) in
      let same : skeleton A' ≡ skeleton A = sym (put_type_skeleton p) in
      record {
        bindings = ((A, grows Σ Ψ n A' new m A e, subst (λ t. IsPatternTerm Σ (set_at n (Some A') Ψ) [] (eta_long t (metavariable n)) t) same (eta_is_pattern Σ (set_at n (Some A') Ψ) n A' (set_here n (Some A') Ψ))), bindings_grow Σ Ψ n A' new bs h.bindings);
        sides = sides_grow Σ Ψ n A' new es h.sides;
      }

  pub step_keeps_types : {s s' : Store} → Step Σ s s' → IsPatternStore Σ s → TypesArePatterns Σ s.metavariables → TypesArePatterns Σ s'.metavariables
  step_keeps_types (next_equation es e fs) h t = t
  step_keeps_types (put_bindings p q) h t = t
  step_keeps_types drop_equal h t = t
  step_keeps_types open_lambdas h t = t
  step_keeps_types (equal_heads g A r k) h t = t
  step_keeps_types (bind side D m xs N C e u p b) h t = t
  step_keeps_types (prune_inside {Ψ = Ψ} side D m xs N C e i p u n sc) h t = types_grow Σ Ψ n (pruned_type p.pruned) (sc.fresh n (omega arith)) t (pruned_pattern Σ Ψ p.drop.m p.dropped p.pruned (t p.drop.m _ p.pruned.declared))
  step_keeps_types (prune_both {Ψ = Ψ} side D m xs N C e i p u n sc) h t = types_grow Σ Ψ n (pruned_type p.pruned) (sc.fresh n (omega arith)) t (pruned_pattern Σ Ψ m p.dropped p.pruned (t m _ p.pruned.declared))
  step_keeps_types (renew {Ψ = Ψ} {bs = bs} m A A' e u o p n sc) h t = types_grow Σ Ψ n A' (sc.fresh n (omega arith)) t (puts_type Σ Ψ bs h.bindings p [] refl (t m A e))

  pub run_keeps : {s s' : Store} → Run Σ s s' → IsPatternStore Σ s → TypesArePatterns Σ s.metavariables → IsPatternStore Σ s' × TypesArePatterns Σ s'.metavariables
  run_keeps no_step h t = (h, t)
  run_keeps (then_run p r) h t = run_keeps r (step_keeps p h) (step_keeps_types p h t)
