-- Worked: p b.x is a case of p X, in the worlds of {x:exp} {u:p x}, and p X is none of p b.x; and a goal with 4,096
-- times s is too deep, of which it is said that it is a case of itself, and that with one s more is none of it.
use Rattle.std.specs.Prelude.{ℕ, [], ◌∷◌, Bool, Some, None}
use Rattle.lf_totality.specs.Examples.{nat, var}
use Rattle.lf_numbered.specs.DeepCases.{DeepRunSays, IsCaseOf}
use Rattle.lf_coverage.specs.Examples.{number}
use Rattle.lf_coverage.specs.ExamplesStuck.{Zeros}
use Rattle.lf_numbered.specs.NumberedCallsExamples.{deep_zero}
use Rattle.lf_numbered.specs.NumberedCallsOutside.{IsDeepByNumber}
use Rattle.lf_numbered.specs.NumberedCallsReached.{RunIsTooDeepByNumber}
use Rattle.lf_numbered.specs.NumberedCase.{NumberedCase}
use Rattle.lf_numbered.specs.NumberedSplitsExamples.{Bare, entry_case, exp_block, open_case}
use Rattle.lf_numbered.specs.TypedNumbered.{IsTypedNumberedCase}

abbrev pub EntryIsCaseOf : Type 0
EntryIsCaseOf = IsCaseOf Bare 2 (exp_block ∷ []) open_case entry_case × (IsCaseOf Bare 2 (exp_block ∷ []) entry_case open_case → ⊥)

-- So it is said of each run from it that is too deep.
abbrev pub DeepZeroIsItsCase : Type 0
DeepZeroIsItsCase = IsCaseOf Zeros 3 [] deep_zero deep_zero × ((below : ℕ → ℕ → Bool) (d : RunIsTooDeepByNumber Zeros 3 [] below [] deep_zero) → DeepRunSays d)

-- The case with one s more is typed and deep, and no case of the goal.
abbrev pub deeper_zero : NumberedCase
deeper_zero = record { blocks = []; variables = nat ∷ []; given = []; local = []; family = 1; arguments = Some (number 4097) ∷ Some (var 0) ∷ None ∷ [] }

abbrev pub DeeperIsNoCase : Type 0
DeeperIsNoCase = IsTypedNumberedCase Zeros 3 [] deeper_zero × IsDeepByNumber deeper_zero × (IsCaseOf Zeros 3 [] deep_zero deeper_zero → ⊥)
