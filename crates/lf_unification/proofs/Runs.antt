-- Runs of steps from a well-formed store: they keep the typed unifiers and the store's form, and give the answers of solving.
use Rattle.std.proofs.Common.{◌≡◌, []}
use Rattle.lf.specs.Typing.{IsSignature, Signature}
use Rattle.lf_unification.specs.Solving.{AllLeftOver, IsWellFormed, Left, Never, Solved}
use Rattle.lf_unification.specs.Steps.{IsRefuted, Run, Step, bind, drop_equal, equal_heads, next_equation, no_step, on_pattern, open_lambdas, prune_both, prune_inside, put_bindings, renew, store_at, then_run}
use Rattle.lf_unification.specs.Unifiers.{KeepsUnifiers, Store}
use Rattle.lf_unification.proofs.Decompose.{keeps_unifiers_refl, keeps_unifiers_then}
use Rattle.lf_unification.proofs.PruneTyped.{prune_keeps_form}
use Rattle.lf_unification.proofs.RenewForm.{renew_keeps_form}
use Rattle.lf_unification.proofs.StepTyping.{step_keeps_form}
use Rattle.lf_unification.proofs.Steps.{refuted_never, step_keeps_unifiers}

module _ (Σ : Signature) (ok : IsSignature Σ) where
  -- THE theorem: each step keeps a store well formed
  pub step_form : {s s' : Store} → IsWellFormed Σ s → Step Σ s s' → IsWellFormed Σ s'
  step_form w (next_equation es e fs) = step_keeps_form Σ ok w (next_equation es e fs) (λ x. x)
  step_form w (put_bindings f g) = step_keeps_form Σ ok w (put_bindings f g) (λ x. x)
  step_form w drop_equal = step_keeps_form Σ ok w drop_equal (λ x. x)
  step_form w open_lambdas = step_keeps_form Σ ok w open_lambdas (λ x. x)
  step_form w (equal_heads h A r t) = step_keeps_form Σ ok w (equal_heads h A r t) (λ x. x)
  step_form w (bind side D m xs N C d u p b) = step_keeps_form Σ ok w (bind side D m xs N C d u p b) (λ x. x)
  step_form w (prune_inside {Ψ = Ψ} {bs = bs} {es = es} side D m xs N C d p c u n x) = prune_keeps_form Σ ok (store_at side Ψ bs es D (on_pattern Ψ m xs) N C) c.drop.m c.dropped n c.pruned x w u
  step_form w (prune_both {Ψ = Ψ} {bs = bs} {es = es} side D m xs N C d p c u n x) = prune_keeps_form Σ ok (store_at side Ψ bs es D (on_pattern Ψ m xs) N C) m c.dropped n c.pruned x w u
  step_form w (renew {Ψ = Ψ} {bs = bs} {es = es} m A A' d u b p n x) = renew_keeps_form Σ ok (record { metavariables = Ψ; bindings = bs; equations = es }) m n A A' d u p x w

  -- THE theorem on runs
  pub run_keeps_unifiers : {s s' : Store} → IsWellFormed Σ s → Run Σ s s' → KeepsUnifiers Σ [] s s'
  run_keeps_unifiers w (no_step {s = s}) = keeps_unifiers_refl Σ [] s
  run_keeps_unifiers w (then_run {s = s} {s' = s'} {s'' = s''} p r) = keeps_unifiers_then Σ [] s s' s'' (step_keeps_unifiers Σ ok w.typed p) (run_keeps_unifiers (step_form w p) r)

  pub run_form : {s s' : Store} → IsWellFormed Σ s → Run Σ s s' → IsWellFormed Σ s'
  run_form w no_step = w
  run_form w (then_run p r) = run_form (step_form w p) r

  pub run_refuted : {s s' : Store} → IsWellFormed Σ s → Run Σ s s' → IsRefuted s' → Never Σ [] s
  run_refuted w r n F β u = let (β', x, v) = (run_keeps_unifiers w r).complete F β u in refuted_never Σ ok n F β' v

  pub run_solved : {s s' : Store} → IsWellFormed Σ s → Run Σ s s' → s'.equations ≡ [] → Solved Σ s s'
  run_solved w r e = record { run = r; keeps = run_keeps_unifiers w r; well_formed = run_form w r; none_left = e }

  pub run_left : {s s' : Store} → IsWellFormed Σ s → Run Σ s s' → (s'.equations ≡ [] → ⊥) → AllLeftOver s.metavariables s' s'.equations → Left Σ s s'
  run_left w r n a = record { run = r; keeps = run_keeps_unifiers w r; well_formed = run_form w r; some_left = n; all_left_over = a }
