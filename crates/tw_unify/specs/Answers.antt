-- What solving answers.
use Rattle.std.specs.Prelude.{◌≡◌, List, []}
use Rattle.lf.specs.Subordination.{Member}
use Rattle.lf.specs.Typing.{Signature}
use Rattle.lf_unification.specs.Origins.{ComesFrom}
use Rattle.lf_unification.specs.ReachedRuns.{ReachedRun}
use Rattle.lf_unification.specs.Solving as solving
use Rattle.lf_unification.specs.Steps.{CanRefute}
use Rattle.lf_unification.specs.Unifiers.{Equation, Store}
use Rattle.tw_metas.specs.State.{State}
use Rattle.tw_putting.specs.Ready.{IsReady}
use Rattle.tw_unify.specs.declared.solving.Unified.{Unified}
use Rattle.tw_unify.specs.declared.solving.Unified.TheVariants.{Solved, Never, Left}

-- of the store before, with the given equations, and the store after
abbrev pub Answers : Unified → Signature → Store → Store → Type 0
Answers Solved Σ before after = solving.Solved Σ before after
Answers Never Σ before after = solving.Never Σ [] before
Answers Left Σ before after = solving.Left Σ before after

-- where there may be a typed unifier, steps led there that renewed only metavariables that are reached from the equations; where there is none, steps refute the store
abbrev pub RenewsOnlyReached : Unified → Signature → Store → Store → Type 0
RenewsOnlyReached Solved Σ before after = ReachedRun Σ before after
RenewsOnlyReached Never Σ before after = CanRefute Σ before
RenewsOnlyReached Left Σ before after = ReachedRun Σ before after

-- each equation that is left comes from one that was there or was given, the left side from the left one
abbrev pub SidesStay : Store → Store → Type 0
SidesStay before after = (e : Equation) → Member e after.equations → (given : Equation) × Member given before.equations × ComesFrom after.metavariables after.bindings given e

-- where equations are left, their sides are where they were
abbrev pub KeepsSides : Unified → Store → Store → Type 0
KeepsSides Solved before after = Unit {0}
KeepsSides Never before after = Unit {0}
KeepsSides Left before after = SidesStay before after

-- where there may be a typed unifier, the store can be solved again
abbrev pub StaysReady : Unified → Signature → State → Type 0
StaysReady Solved Σ s = IsReady Σ [] s
StaysReady Never Σ s = Unit {0}
StaysReady Left Σ s = IsReady Σ [] s

-- nothing is left, or something
abbrev pub RestIs : Unified → List Equation → Type 0
RestIs Solved es = es ≡ []
RestIs Never es = ⊥
RestIs Left es = es ≡ [] → ⊥
