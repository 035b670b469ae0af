-- The answers of solving, from a run of steps.
use Rattle.std.proofs.Common.{◌≡◌, List, [], ◌∷◌, Option, Some, None, sym, ap, subst}
use Rattle.std.specs.Option.{MatchOption}
use Rattle.lf.specs.Typing.{IsSignature, Signature}
use Rattle.lf_unification.specs.Solving as solving
use Rattle.lf_unification.specs.ReachedRuns.{ReachedRun}
use Rattle.lf_unification.specs.Steps.{CanRefute}
use Rattle.lf_unification.specs.Unifiers.{Equation, Store}
use Rattle.lf_unification.proofs.Runs.{run_left, run_refuted, run_solved}
use Rattle.lf_unification.proofs.Sides.{run_origin}
use Rattle.tw_metas.specs.State.{State, Story}
use Rattle.tw_metas.specs.View.{equation_of}
use Rattle.tw_metas.specs.declared.equation.Equation.{Equation as RustEquation}
use Rattle.tw_unify.specs.Answers.{Answers, KeepsSides, RenewsOnlyReached, RestIs, StaysReady}
use Rattle.tw_unify.specs.Outcomes.{Explains}
use Rattle.tw_putting.specs.Ready.{IsReady}
use Rattle.tw_unify.specs.Sides.{AllLeft}
use Rattle.tw_putting.specs.Whole.{IsConsistent, whole}
use Rattle.tw_unify.specs.declared.fault.UnifyFault.{UnifyFault}
use Rattle.tw_unify.specs.declared.fault.UnifyFault.TheVariants.{NoMemory, TooDeep}
use Rattle.tw_unify.specs.declared.solving.Unified.{Unified}
use Rattle.tw_unify.specs.declared.solving.Unified.TheVariants.{Left, Never, Solved}
use Rattle.tw_unify.proofs.Leaving.{all_left_over}
use Rattle.tw_unify.proofs.Orders.{both_runs}
use Rattle.tw_putting.proofs.Readiness.{ready_after}

-- a fault after a run
pub explains_after : (Σ : Signature) (f : UnifyFault) (s t : Store) → ReachedRun Σ s t → Explains f Σ t → Explains f Σ s
explains_after Σ TooDeep s t p d = record { reached = d.reached; run = both_runs Σ p.run d.run; deep = d.deep }
explains_after Σ NoMemory s t p d = tt

module _ (Σ : Signature) (ok : IsSignature Σ) (given : List Equation) (s t : State) (r : IsReady Σ given s) (c : IsConsistent t) where
  -- nothing is at work any more
  module _ (es : List Equation) (none : es ≡ []) (p : ReachedRun Σ (whole given s) (whole es t)) (l : AllLeft t t.equations) where
    arrived : ReachedRun Σ (whole given s) (whole [] t)
    arrived = subst (λ fs. ReachedRun Σ (whole given s) (whole fs t)) none p

    ready : IsReady Σ [] t
    ready = ready_after Σ ok given [] s t r arrived.run c

    pub rest_answers : (a : Unified) → RestIs a t.equations → Answers a Σ (whole given s) (whole [] t)
    rest_answers Solved e = run_solved Σ ok r.well_formed arrived.run e
    rest_answers Never e = absurd e
    rest_answers Left n = run_left Σ ok r.well_formed arrived.run n (all_left_over Σ ok t ready (whole given s) arrived.run l)

    pub rest_ready : (a : Unified) → RestIs a t.equations → StaysReady a Σ t
    rest_ready Solved e = ready
    rest_ready Never e = tt
    rest_ready Left n = ready

    rest_sides : (a : Unified) → RestIs a t.equations → KeepsSides a (whole given s) (whole [] t)
    rest_sides Solved e = tt
    rest_sides Never e = tt
    rest_sides Left n = λ e i. run_origin Σ ok r.well_formed arrived.run e i

    rest_renews : (a : Unified) → RestIs a t.equations → RenewsOnlyReached a Σ (whole given s) (whole [] t)
    rest_renews Solved e = arrived
    rest_renews Never e = absurd e
    rest_renews Left n = arrived

    -- in the store as the call leaves it
    pub rest_told : (t' : State) → t' ≡ t → (a : Unified) → RestIs a t'.equations → Answers a Σ (whole given s) (whole [] t') × StaysReady a Σ t' × KeepsSides a (whole given s) (whole [] t') × RenewsOnlyReached a Σ (whole given s) (whole [] t')
    rest_told t' e a h =
        let h' : RestIs a t.equations = subst (λ (u : State). RestIs a u.equations) e h in
        (subst (λ (u : State). Answers a Σ (whole given s) (whole [] u)) (sym e) (rest_answers a h'), subst (λ (u : State). StaysReady a Σ u) (sym e) (rest_ready a h'), subst (λ (u : State). KeepsSides a (whole given s) (whole [] u)) (sym e) (rest_sides a h'), subst (λ (u : State). RenewsOnlyReached a Σ (whole given s) (whole [] u)) (sym e) (rest_renews a h'))

  -- it is refuted
  pub refuted_from : (es : List Equation) → ReachedRun Σ (whole given s) (whole es t) → CanRefute Σ (whole es t) → CanRefute Σ (whole given s)
  refuted_from es p q = record { reached = q.reached; run = both_runs Σ p.run q.run; refuted = q.refuted }

  pub refuted_answers : (es : List Equation) → ReachedRun Σ (whole given s) (whole es t) → CanRefute Σ (whole es t) → solving.Never Σ [] (whole given s)
  refuted_answers es p q = let u = refuted_from es p q in run_refuted Σ ok r.well_formed u.run u.refuted

-- what comes next, where nothing does, and where an equation does
module _ (Σ : Signature) (es : List Equation) (old new : Story) (o : Option RustEquation) (fs : List Equation) where
  abbrev NextIs : Option RustEquation → Type 0
  NextIs p = MatchOption p ((es ≡ []) × AllLeft old.now old.now.equations × (new ≡ old)) (λ d. ReachedRun Σ (whole es old.now) (whole (equation_of d ∷ fs) new.now))

  pub none_next : o ≡ None → NextIs o → (es ≡ []) × AllLeft old.now old.now.equations × (new.now ≡ old.now)
  none_next e n = let m : NextIs None = subst NextIs e n in (m.0, m.1, ap (λ (x : Story). x.now) m.2)

  pub some_next : (d : RustEquation) → o ≡ Some d → NextIs o → ReachedRun Σ (whole es old.now) (whole (equation_of d ∷ fs) new.now)
  some_next d e n = subst NextIs e n
