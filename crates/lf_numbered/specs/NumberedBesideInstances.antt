-- Worked, in the worlds of {x:exp} {u:p x}, where exp has no constant: which ground instances make a split, and what a case with one more block variable
-- holds.
use Rattle.std.specs.Prelude.{ℕ, suc, List, [], ◌∷◌, Bool, Some}
use Rattle.lf.specs.Syntax.{constant, variable, root, nil, app, LfType}
use Rattle.lf.specs.Substitution.{Image, keep}
use Rattle.lf.specs.Variables.{nothing}
use Rattle.lf.specs.Worlds.{World}
use Rattle.lf_cases.specs.Cover.{InstanceIn}
use Rattle.lf_numbered.specs.EntryPatternsRuns.{IsNumberedSplit}
use Rattle.lf_numbered.specs.EntryPatternsSplits.{HoldsAs}
use Rattle.lf_numbered.specs.NewBlock.{with_new_block}
use Rattle.lf_numbered.specs.NewInstance.{with_instance}
use Rattle.lf_numbered.specs.NumberedArguments.{HasNumberedArguments}
use Rattle.lf_numbered.specs.NumberedCase.{NumberedCase, IsNumberedInstance}
use Rattle.lf_numbered.specs.NumberedSplitsExamples.{Bare, entry_case, exp, exp_block, has}

-- p b.x, with a variable Z : exp that occurs nowhere
abbrev pub spare_case : NumberedCase
spare_case = record { blocks = record { block = exp_block; terms = nil } ∷ []; variables = exp ∷ []; given = []; local = []; family = 1; arguments = Some (root (constant 2) nil) ∷ [] }

-- Each of its ground instances is one of p b.x, with the same instance for b: so p b.x is a split of it. But p b.x isn't split into no case at all.
abbrev pub SpareIsSplit : Type 0
SpareIsSplit = ((S : ℕ → Bool) → IsNumberedSplit Bare 2 (exp_block ∷ []) S spare_case (entry_case ∷ [])) × (IsNumberedSplit Bare 2 (exp_block ∷ []) nothing entry_case [] → ⊥)

-- the context {x:exp} {u:p x} {y:exp} {v:p y}, and what its two instances give u and x, and v and y
abbrev pub two_instances : List LfType
two_instances = has (root (variable 0) nil) ∷ exp ∷ has (root (variable 0) nil) ∷ exp ∷ []

abbrev pub older : ℕ → Image
older i = keep (suc (suc i))

abbrev pub newer : ℕ → Image
newer i = keep i

-- Where b stands for the instance of x, p b.x holds the tuple x. With a new block variable for that of y it holds the same: x, and not y.
abbrev pub with_newer : NumberedCase
with_newer = with_new_block exp_block entry_case

abbrev pub NewBlockHoldsSame : Type 0
NewBlockHoldsSame = (w : World Bare (exp_block ∷ []) nothing two_instances) × InstanceIn w exp_block newer × IsNumberedInstance w 2 entry_case (λ k. older) keep × IsNumberedInstance w 2 with_newer (with_instance 1 newer (λ k. older)) keep × HoldsAs 2 entry_case (λ k. older) keep with_newer (with_instance 1 newer (λ k. older)) keep × HasNumberedArguments 2 entry_case (λ k. older) keep (app (root (variable 3) nil) nil) × (HasNumberedArguments 2 with_newer (with_instance 1 newer (λ k. older)) keep (app (root (variable 1) nil) nil) → ⊥)
