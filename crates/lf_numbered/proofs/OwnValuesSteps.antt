-- Along a run of steps a typed unifier on own terms extends to one on own terms.
use Rattle.std.proofs.Common.{◌≡◌, ℕ, List, [], Option, Some, ◌⊎◌, inl, inr, sym, ap, ◌∙◌}
use Rattle.lf.specs.Syntax.{Term, Spine, LfType, atom, skeleton}
use Rattle.lf.specs.Typing.{Signature, IsSignature}
use Rattle.lf_unification.specs.Offering.{pi_over}
use Rattle.lf_unification.specs.OpenTyping.{set_at}
use Rattle.lf_unification.specs.Pruning.{PrunedType, pruned_store}
use Rattle.lf_unification.specs.Putting.{PutsInType}
use Rattle.lf_unification.specs.Renewing.{renewed_store}
use Rattle.lf_unification.specs.Solving.{IsWellFormed}
use Rattle.lf_unification.specs.Steps.{Run, Step, bind, drop_equal, equal_heads, next_equation, no_step, on_pattern, open_lambdas, prune_both, prune_inside, put_bindings, renew, store_at, then_run}
use Rattle.lf_unification.specs.Unifiers.{Solution, Store}
use Rattle.lf_unification.proofs.Agree.{set_cases, set_here}
use Rattle.lf_unification.proofs.Putting.{put_type_skeleton}
use Rattle.lf_unification.proofs.Runs.{run_keeps_unifiers, step_form}
use Rattle.lf_unification.proofs.Steps.{step_keeps_unifiers}
use Rattle.lf_numbered.specs.OwnTerms.{OnOwnTerms}
use Rattle.lf_numbered.specs.OwnValues.{ValuesOnOwnTerms, NewValuesAreOnOwnTerms, OwnTermsExtend}
use Rattle.lf_numbered.proofs.OwnValues.{pruned_is_own, renewed_is_own}

module _ (Σ : Signature) (ok : IsSignature Σ) (F : List LfType) (o : ℕ → Option Spine) where
  -- one new metavariable
  with_new : (Ψ : ℕ → Option LfType) (n : ℕ) (X : LfType) (β : ℕ → Option Term) → ((W : Term) → β n ≡ Some W → OnOwnTerms o W) → ValuesOnOwnTerms o Ψ β → ValuesOnOwnTerms o (set_at n (Some X) Ψ) β
  with_new Ψ n X β new h m A N d e = by (set_cases n (Some X) Ψ m)
    where
      by : (m ≡ n) ⊎ (set_at n (Some X) Ψ m ≡ Ψ m) → OnOwnTerms o N
      by (inl q) = new N (sym (ap β q) ∙ e)
      by (inr q) = h m A N (sym q ∙ d) e

  pruned_values : (s : Store) (n d : ℕ) (p : PrunedType s.metavariables n d) (n' : ℕ) (β : ℕ → Option Term) → Solution Σ [] (pruned_store s n d p n') F β → ValuesOnOwnTerms o s.metavariables β → ValuesOnOwnTerms o (pruned_store s n d p n').metavariables β
  pruned_values s n d p n' β u h =
      let X : LfType = pi_over p.kept_local (atom p.family p.kept_indices) in
      with_new s.metavariables n' X β (λ W e. pruned_is_own Σ ok (set_at n' (Some X) s.metavariables) F β u.0 n' X (set_here n' (Some X) s.metavariables) W e o (skeleton (pi_over p.local (atom p.family p.indices))) p.kept p.distinct p.places (h n (pi_over p.local (atom p.family p.indices)) _ p.declared u.1.0.0)) h

  renewed_values : (s : Store) (n : ℕ) (A A' : LfType) (n' : ℕ) → s.metavariables n ≡ Some A → PutsInType s.metavariables s.bindings 0 A A' → (β : ℕ → Option Term) → Solution Σ [] (renewed_store s n A A' n') F β → ValuesOnOwnTerms o s.metavariables β → ValuesOnOwnTerms o (renewed_store s n A A' n').metavariables β
  renewed_values s n A A' n' d p β u h = with_new s.metavariables n' A' β (λ W e. renewed_is_own Σ ok (set_at n' (Some A') s.metavariables) F β u.0 n' A' (set_here n' (Some A') s.metavariables) W e o (skeleton A) (put_type_skeleton p) (h n A _ d u.1.0.0)) h

  -- one step
  pub step_values : {s s' : Store} → Step Σ s s' → (β : ℕ → Option Term) → Solution Σ [] s' F β → ValuesOnOwnTerms o s.metavariables β → ValuesOnOwnTerms o s'.metavariables β
  step_values (next_equation es e fs) β u h = h
  step_values (put_bindings f g) β u h = h
  step_values drop_equal β u h = h
  step_values open_lambdas β u h = h
  step_values (equal_heads k A r t) β u h = h
  step_values (bind side D m xs N C d x p b) β u h = h
  step_values (prune_inside {Ψ = Ψ} {bs = bs} {es = es} side D m xs N C d p c x n scoped) β u h = pruned_values (store_at side Ψ bs es D (on_pattern Ψ m xs) N C) c.drop.m c.dropped c.pruned n β u h
  step_values (prune_both {Ψ = Ψ} {bs = bs} {es = es} side D m xs N C d p c x n scoped) β u h = pruned_values (store_at side Ψ bs es D (on_pattern Ψ m xs) N C) m c.dropped c.pruned n β u h
  step_values (renew {Ψ = Ψ} {bs = bs} {es = es} m A A' d x b p n scoped) β u h = renewed_values (record { metavariables = Ψ; bindings = bs; equations = es }) m A A' n d p β u h

  -- a run
  pub run_values : {s s' : Store} → IsWellFormed Σ s → Run Σ s s' → (β : ℕ → Option Term) → Solution Σ [] s' F β → ValuesOnOwnTerms o s.metavariables β → ValuesOnOwnTerms o s'.metavariables β
  run_values w no_step β u h = h
  run_values w (then_run {s = s} {s' = s'} {s'' = s''} p r) β u h =
      let (γ, x, v) = (run_keeps_unifiers Σ ok (step_form Σ ok w p) r).sound F β u in
      run_values (step_form Σ ok w p) r β u (λ m A N d e. step_values p γ v (λ k B M b q. h k B M b (x k B ((step_keeps_unifiers Σ ok w.typed p).grows k B b) ∙ q)) m A N d (sym (x m A d) ∙ e))

pub new_values_are_on_own_terms : NewValuesAreOnOwnTerms
new_values_are_on_own_terms Σ ok s s' w r F β u o h = run_values Σ ok F o w r β u h

pub own_terms_extend : OwnTermsExtend
own_terms_extend Σ ok s s' w r F β u o h =
    let (γ, x, v) = (run_keeps_unifiers Σ ok w r).complete F β u in
    (γ, x, v, run_values Σ ok F o w r γ v (λ m A N d e. h m A N d (sym (x m A d) ∙ e)))
