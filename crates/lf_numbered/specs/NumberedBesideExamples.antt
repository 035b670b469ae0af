-- Worked: what `some` variables take, and a run from a goal of inputs by an entry alone.
use Rattle.std.specs.Prelude.{ℕ, List, [], ◌∷◌, Bool, true}
use Rattle.lf.specs.Syntax.{nil, LfType, pi, atom, kind_pi, star}
use Rattle.lf.specs.Typing.{Signature}
use Rattle.lf.specs.Subordination.{Block, IsBelowTest}
use Rattle.lf_cases.specs.Case.{input_goal}
use Rattle.lf_coverage.specs.Calls.{CoverIs, covered}
use Rattle.lf_coverage.specs.ExamplesSubordinate.{all_below_second, over_function}
use Rattle.lf_coverage.specs.Subordinate.{QuantifiersAreBelow}
use Rattle.lf_numbered.specs.NewBlock.{with_new_block}
use Rattle.lf_numbered.specs.NumberedBeside.{TakesAtoms, TakesBelow, WorldsTakeBelow, ItemsTakeBelow, IsUnifiedByNumber}
use Rattle.lf_numbered.specs.NumberedCase.{NumberedCase}
use Rattle.lf_numbered.specs.NumberedSplits.{IsAnsweredByNumber}
use Rattle.lf_numbered.specs.NumberedSplitsExamples.{Bare, exp, exp_block, has_head, open_case, entry_case}

-- Of the families a = 0, c = 1 and d = 2 all are below c, and no other is below another. {x:c} a quantifies c over a, which isn't below; but it takes
-- only an x of an atomic type. {y : {u:d} a} c takes a function that quantifies d over a.
abbrev pub of_second : LfType
of_second = pi (atom 1 nil) (atom 0 nil)

abbrev pub TakingIsLess : Type 0
TakingIsLess = TakesAtoms of_second × (TakesAtoms over_function → ⊥) × TakesBelow all_below_second of_second × (QuantifiersAreBelow all_below_second of_second → ⊥) × (TakesBelow all_below_second over_function → ⊥)

-- some {f : {x:c} a} block {v:c}, and some {f : {y : {u:d} a} c} block {v:c}
abbrev pub low_block : Block
low_block = record { label = 49 ∷ []; some = of_second ∷ []; entries = atom 1 nil ∷ [] }

abbrev pub high_block : Block
high_block = record { label = 50 ∷ []; some = over_function ∷ []; entries = atom 1 nil ∷ [] }

-- The first is a block of such worlds and the second isn't: a case with a new block variable of it has f as a free variable, whose argument y is a
-- head of which d isn't known to be below a, so it has no split by `IsAnsweredByNumber`.
abbrev pub HighBlockTakesMore : Type 0
HighBlockTakesMore = WorldsTakeBelow all_below_second (low_block ∷ []) × (WorldsTakeBelow all_below_second (high_block ∷ []) → ⊥) × ((Σ : Signature) (first : ℕ) (C : NumberedCase) (Cs : List NumberedCase) → IsAnsweredByNumber Σ first (high_block ∷ []) all_below_second (with_new_block high_block C) 0 Cs → ⊥)

-- p X, the goal of inputs in the worlds of {x:exp} {u:p x}, is split into p b.x, and u covers it: nothing is asked of the families in types.
abbrev pub OpenInputsAreCovered : Type 0
OpenInputsAreCovered = ((below : ℕ → ℕ → Bool) → IsUnifiedByNumber Bare 2 (exp_block ∷ []) below open_case 0 (entry_case ∷ []) × ItemsTakeBelow below (input_goal 1 (true ∷ []) (kind_pi exp star)).items × WorldsTakeBelow below (exp_block ∷ [])) × ((below : ℕ → ℕ → Bool) → ((f : ℕ) → IsBelowTest Bare (exp_block ∷ []) (below f) f) → CoverIs Bare (exp_block ∷ []) below (has_head ∷ []) (input_goal 1 (true ∷ []) (kind_pi exp star)) covered)
