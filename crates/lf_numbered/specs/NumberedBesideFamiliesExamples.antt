-- Worked: worlds whose `some` variables are of families in a set, and a run along which no family is looked at.
use Rattle.std.specs.Prelude.{ℕ, [], ◌∷◌, Bool, true}
use Rattle.lf.specs.Syntax.{kind_pi, star}
use Rattle.lf.specs.Subordination.{IsBelowTest}
use Rattle.lf.specs.Variables.{same_number}
use Rattle.lf_cases.specs.Case.{input_goal}
use Rattle.lf_coverage.specs.Calls.{CoverIs, covered}
use Rattle.lf_numbered.specs.EntryPatternsExamples.{asking_block}
use Rattle.lf_numbered.specs.EntryPatternsRuns.{IsNumberedLeaf}
use Rattle.lf_cases.specs.Split.{Ends}
use Rattle.lf_numbered.specs.NumberedBesideFamilies.{FreeAreIn, UnifiesEachByNumber, WorldsAreIn}
use Rattle.lf_numbered.specs.Numbering.{numbered}
use Rattle.lf_numbered.specs.NumberedSplitsExamples.{Bare, exp, exp_block, has_head}

-- {x:exp} {u:p x} has no `some` variable. That of some {n:exp} block {v:..} is of exp = 0, and so isn't in the set that holds the family 3 of v alone.
abbrev pub SomeIsOutside : Type 0
SomeIsOutside = ((S : ℕ → Bool) → WorldsAreIn S (exp_block ∷ [])) × WorldsAreIn (λ a. true) (asking_block ∷ []) × (WorldsAreIn (same_number 3) (asking_block ∷ []) → ⊥)

-- The item X : exp of p X is of a family in a set just where exp is.
abbrev pub ExpIsIn : Type 0
ExpIsIn = FreeAreIn (same_number 0) (input_goal 1 (true ∷ []) (kind_pi exp star)).items × (FreeAreIn (same_number 1) (input_goal 1 (true ∷ []) (kind_pi exp star)).items → ⊥)

-- p X is split by b.x, and u covers it: in these worlds nothing is asked of families at all.
abbrev pub OpenEachIsCovered : Type 0
OpenEachIsCovered = (below : ℕ → ℕ → Bool) → ((f : ℕ) → IsBelowTest Bare (exp_block ∷ []) (below f) f) → Ends (IsNumberedLeaf Bare 2 (exp_block ∷ []) (has_head ∷ [])) (UnifiesEachByNumber Bare 2 (exp_block ∷ []) below) (numbered 2 (input_goal 1 (true ∷ []) (kind_pi exp star))) × CoverIs Bare (exp_block ∷ []) below (has_head ∷ []) (input_goal 1 (true ∷ []) (kind_pi exp star)) covered
