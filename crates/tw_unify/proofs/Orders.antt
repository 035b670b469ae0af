-- Runs that change nothing but the order of the equations.
use Rattle.std.proofs.Common.{◌≡◌, ℕ, List, [], ◌∷◌, Option, refl, sym, ap, ◌∙◌, subst}
use Rattle.lf.specs.Syntax.{LfType}
use Rattle.lf.specs.Typing.{Signature}
use Rattle.lf_unification.specs.Lists.{followed}
use Rattle.lf_unification.specs.ReachedRuns.{RenewsReached, RunRenewsReached}
use Rattle.lf_unification.specs.ReachedRuns.{ReachedRun}
use Rattle.lf_unification.specs.Steps.{Run, Step, next_equation, no_step, then_run}
use Rattle.lf_unification.specs.Unifiers.{Binding, Equation, Store}

pub followed_nothing : {A : Type 0} (xs : List A) → followed xs [] ≡ xs
followed_nothing [] = refl
followed_nothing (x ∷ xs) = ap (λ ys. x ∷ ys) (followed_nothing xs)

pub followed_twice : {A : Type 0} (xs ys zs : List A) → followed (followed xs ys) zs ≡ followed xs (followed ys zs)
followed_twice [] ys zs = refl
followed_twice (x ∷ xs) ys zs = ap (λ us. x ∷ us) (followed_twice xs ys zs)

module _ (Σ : Signature) where
  -- one run after another
  pub both_runs : {s s' s'' : Store} → Run Σ s s' → Run Σ s' s'' → Run Σ s s''
  both_runs no_step r = r
  both_runs (then_run p q) r = then_run p (both_runs q r)

  both_renew : {s s' s'' : Store} (p : Run Σ s s') (q : Run Σ s' s'') → RunRenewsReached p → RunRenewsReached q → RunRenewsReached (both_runs p q)
  unfolding both_runs
  both_renew no_step q i j = j
  both_renew (then_run p r) q (i, k) j = (i, both_renew r q k j)

  -- the same of runs that renew only what is reached
  pub both_reached : {s s' s'' : Store} → ReachedRun Σ s s' → ReachedRun Σ s' s'' → ReachedRun Σ s s''
  both_reached p q = record { run = both_runs p.run q.run; renews = both_renew p.run q.run p.renews q.renews }

  pub none_made : {s : Store} → ReachedRun Σ s s
  none_made = record { run = no_step; renews = tt }

  pub one_step : {s s' : Store} (p : Step Σ s s') → RenewsReached p → ReachedRun Σ s s'
  one_step p i = record { run = then_run p no_step; renews = (i, tt) }

  module _ (Ψ : ℕ → Option LfType) (bs : List Binding) where
    abbrev pub holding : List Equation → Store
    holding es = record { metavariables = Ψ; bindings = bs; equations = es }

    -- the equation behind es comes to the front
    pub to_front : (es : List Equation) (e : Equation) (fs : List Equation) → ReachedRun Σ (holding (followed es (e ∷ fs))) (holding (e ∷ followed es fs))
    to_front es e fs = one_step (next_equation es e fs) tt

    -- two lists of equations change places
    pub places_change : (xs ys zs : List Equation) → ReachedRun Σ (holding (followed xs (followed ys zs))) (holding (followed ys (followed xs zs)))
    places_change xs [] zs = none_made
    places_change xs (y ∷ ys) zs =
        let shifted : ReachedRun Σ (holding (followed (followed xs (y ∷ [])) (followed ys zs))) (holding (followed ys (followed (followed xs (y ∷ [])) zs))) = places_change (followed xs (y ∷ [])) ys zs in
        let from : followed (followed xs (y ∷ [])) (followed ys zs) ≡ followed xs (y ∷ followed ys zs) = followed_twice xs (y ∷ []) (followed ys zs) in
        let to : followed ys (followed (followed xs (y ∷ [])) zs) ≡ followed (followed ys xs) (y ∷ zs) =
        ap (followed ys) (followed_twice xs (y ∷ []) zs) ∙ sym (followed_twice ys xs (y ∷ zs)) in
        let moved : ReachedRun Σ (holding (followed xs (y ∷ followed ys zs))) (holding (followed (followed ys xs) (y ∷ zs))) =
        subst (λ es. ReachedRun Σ (holding es) (holding (followed (followed ys xs) (y ∷ zs)))) from (subst (λ es. ReachedRun Σ (holding (followed (followed xs (y ∷ [])) (followed ys zs))) (holding es)) to shifted) in
        let front : ReachedRun Σ (holding (followed (followed ys xs) (y ∷ zs))) (holding (y ∷ followed ys (followed xs zs))) =
        subst (λ es. ReachedRun Σ (holding (followed (followed ys xs) (y ∷ zs))) (holding (y ∷ es))) (followed_twice ys xs zs) (to_front (followed ys xs) y zs) in
        both_reached moved front
