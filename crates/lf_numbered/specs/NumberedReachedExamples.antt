-- Worked, in the worlds of {x:exp} {u:p x}, where exp has no constant: p X, which is split into p b.x alone.
use Rattle.std.specs.Prelude.{ℕ, [], ◌∷◌}
use Rattle.lf.specs.Syntax.{variable, root, nil, app, base}
use Rattle.lf.specs.Substitution.{Image, keep, put}
use Rattle.lf.specs.AtOnce.{in_front}
use Rattle.lf.specs.Variables.{nothing}
use Rattle.lf.specs.Worlds.{World}
use Rattle.lf_numbered.specs.NumberedArguments.{HasNumberedArguments}
use Rattle.lf_numbered.specs.NumberedBesideInstances.{two_instances, older, with_newer}
use Rattle.lf_numbered.specs.NumberedCase.{IsNumberedInstance}
use Rattle.lf_numbered.specs.NumberedInstance.{IsNumberedInstanceOf}
use Rattle.lf_numbered.specs.NumberedReached.{HoldsBack, KeepsBlocks}
use Rattle.lf_numbered.specs.NumberedSplitsExamples.{Bare, entry_case, exp_block, open_case}

-- In the context {x:exp} {u:p x} {y:exp} {v:p y} the case p b.x holds x, where b stands for the older instance, and so does p X. With y for X the case p X
-- holds y, and p b.x doesn't.
abbrev pub OpenHoldsBack : Type 0
OpenHoldsBack = (w : World Bare (exp_block ∷ []) nothing two_instances) × IsNumberedInstance w 2 entry_case (λ k. older) keep × HasNumberedArguments 2 entry_case (λ k. older) keep (app (root (variable 3) nil) nil) × HoldsBack w 2 entry_case (λ k. older) keep open_case × (HoldsBack w 2 open_case (λ k. older) (in_front (put (base 0) (root (variable 1) nil)) keep) entry_case → ⊥)

-- p b.x keeps its block variable beside a new one; p X has none.
abbrev pub NewBlockKeepsBlocks : Type 0
NewBlockKeepsBlocks = KeepsBlocks entry_case with_newer × (KeepsBlocks entry_case open_case → ⊥)

-- p b.x is a typed instance of p X, and p X isn't one of p b.x, whatever the block variable becomes.
abbrev pub EntryIsNumberedInstance : Type 0
EntryIsNumberedInstance = ((σ : ℕ → Image) × IsNumberedInstanceOf Bare 2 entry_case open_case (λ k. k) σ) × ((π : ℕ → ℕ) (σ : ℕ → Image) → IsNumberedInstanceOf Bare 2 open_case entry_case π σ → ⊥)
