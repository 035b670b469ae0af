-- Worked places of patterns of the first block variable alone, in the worlds of {x:exp} {u:p x}.
use Rattle.std.specs.Prelude.{ℕ, [], ◌∷◌, true, Some, refl}
use Rattle.lf.specs.Syntax.{constant, variable, root, nil}
use Rattle.lf.specs.Substitution.{Image}
use Rattle.lf.specs.Subordination.{Block}
use Rattle.lf_cases.specs.Pattern.{Pattern, of_entry, subgoal_pattern}
use Rattle.lf_numbered.specs.NumberedCallsMeeting.{SharesInstance}
use Rattle.lf_numbered.specs.NumberedCallsStores.{IsPutBeside, identified}
use Rattle.lf_numbered.specs.NumberedCase.{NumberedCase}
use Rattle.lf_numbered.specs.NumberedMeets.{HasFirst}
use Rattle.lf_numbered.specs.NumberedSplitsExamples.{Bare, entry_case, exp, exp_block, has, has_entry, open_case}

-- p x for the entry x of the first block variable alone
abbrev pub first_has : Pattern
first_has = subgoal_pattern has_entry (of_entry exp_block [] (has (root (variable 0) nil)) (exp ∷ []) refl) (has (root (variable 0) nil))

-- p b.x has a first block variable. p X has none; it shares p b.x with the pattern, which has no place beside it.
abbrev pub FirstIsNeeded : Type 0
FirstIsNeeded = HasFirst true entry_case × (HasFirst true open_case → ⊥) × SharesInstance Bare 2 (exp_block ∷ []) open_case first_has × ((π : ℕ → ℕ) (J : NumberedCase) (φ : ℕ → Image) → IsPutBeside 2 (identified 2 π open_case) π true first_has.clause first_has.origin J φ → ⊥)

-- {y:exp}, and p b.y for this block
abbrev pub other_block : Block
other_block = record { label = 99 ∷ []; some = []; entries = exp ∷ [] }

abbrev pub other_case : NumberedCase
other_case = record { blocks = record { block = other_block; terms = nil } ∷ []; variables = []; given = []; local = []; family = 1; arguments = Some (root (constant 2) nil) ∷ [] }

-- Its first block variable has another block, so it shares nothing with the pattern.
abbrev pub OtherSharesNone : Type 0
OtherSharesNone = SharesInstance Bare 2 (exp_block ∷ other_block ∷ []) other_case first_has → ⊥
