-- Worked cases by number that share an instance with a pattern, are no instance of it and have no candidate, so that the strategy can't split them: for no
-- occurrence is strict, as of F in F z; the pattern has a `some` variable at the place; the family has no places; or the variable stands in an argument of an
-- entry, or of a `some` variable.
use Rattle.std.specs.Prelude.{ℕ, [], ◌∷◌, Bool, Some, refl}
use Rattle.lf.specs.Syntax.{constant, variable, lambda, root, nil, app, LfType, pi}
use Rattle.lf.specs.Subordination.{Block}
use Rattle.lf_checks.specs.Clause.{entry_clause}
use Rattle.lf_cases.specs.Pattern.{Pattern, of_entry, head_pattern}
use Rattle.lf_totality.specs.Examples.{var}
use Rattle.lf_totality.specs.ExamplesReached.{Applied, applied_clause, applied_goal, head_of}
use Rattle.lf_coverage.specs.Calls.{instance, apart, stuck}
use Rattle.lf_numbered.specs.NumberedCalls.{NumberedCoverIs, NumberedMatchedIs, one_missing, one_unsplit}
use Rattle.lf_numbered.specs.NumberedCase.{NumberedCase}
use Rattle.lf_numbered.specs.Numbering.{numbered}
use Rattle.lf_numbered.specs.NumberedSplitsExamples.{Bare, exp, has, open_case}

-- The case k X meets the head of {F:nat -> nat} k (F z). A value of F makes the head k X, but no occurrence of F is strict. So k X is stuck, and can't be
-- split.
abbrev pub AppliedIsStuck : Type 0
AppliedIsStuck = (NumberedMatchedIs Applied 3 [] (numbered 3 applied_goal) (head_of applied_clause.type) instance → ⊥) × NumberedMatchedIs Applied 3 [] (numbered 3 applied_goal) (head_of applied_clause.type) stuck × ((below : ℕ → ℕ → Bool) → NumberedCoverIs Applied 3 [] below (head_of applied_clause.type ∷ []) (numbered 3 applied_goal) (one_unsplit (numbered 3 applied_goal)))

-- some {n:exp} block {u:p n}
abbrev pub number_block : Block
number_block = record { label = 98 ∷ []; some = exp ∷ []; entries = has (var 0) ∷ [] }

abbrev pub number_head : Pattern
number_head = head_pattern (entry_clause number_block [] (has (var 0))) (of_entry number_block [] (has (var 0)) [] refl)

-- The case p X shares p N with u : p n, for a block variable on N. Where the pattern has the `some` variable n there is no candidate; so p X can't be split,
-- and it isn't missing.
abbrev pub SomeVariableGivesNoCandidate : Type 0
SomeVariableGivesNoCandidate = NumberedMatchedIs Bare 2 (number_block ∷ []) open_case number_head stuck × ((below : ℕ → ℕ → Bool) → NumberedCoverIs Bare 2 (number_block ∷ []) below (number_head ∷ []) open_case (one_unsplit open_case) × (NumberedCoverIs Bare 2 (number_block ∷ []) below (number_head ∷ []) open_case (one_missing open_case) → ⊥))

-- The block is {x:exp}, and the goal is of exp itself, which has no places.
abbrev pub only_block : Block
only_block = record { label = 98 ∷ []; some = []; entries = exp ∷ [] }

abbrev pub only_head : Pattern
only_head = head_pattern (entry_clause only_block [] exp) (of_entry only_block [] exp [] refl)

abbrev pub no_places : NumberedCase
no_places = record { blocks = []; variables = []; given = []; local = []; family = 0; arguments = [] }

-- There may be an instance of the block in the context, so x : exp meets the goal. There needn't be one, so the goal is no instance of x. It can't be split,
-- and it isn't missing.
abbrev pub NoPlacesAreStuck : Type 0
NoPlacesAreStuck = NumberedMatchedIs Bare 2 (only_block ∷ []) no_places only_head stuck × ((below : ℕ → ℕ → Bool) → NumberedCoverIs Bare 2 (only_block ∷ []) below (only_head ∷ []) no_places (one_unsplit no_places) × (NumberedCoverIs Bare 2 (only_block ∷ []) below (only_head ∷ []) no_places (one_missing no_places) → ⊥))

-- The block is {x:exp} {u:{Y:exp -> exp} p (Y x)}, and the case is p b.x for a block variable b. The constant of b.x is 2.
abbrev pub taking_type : LfType
taking_type = pi (pi exp exp) (has (root (variable 0) (app (var 1) nil)))

abbrev pub taking_block : Block
taking_block = record { label = 98 ∷ []; some = []; entries = taking_type ∷ exp ∷ [] }

abbrev pub taking_head : Pattern
taking_head = head_pattern (entry_clause taking_block (exp ∷ []) taking_type) (of_entry taking_block [] taking_type (exp ∷ []) refl)

abbrev pub taking_case : NumberedCase
taking_case = record { blocks = record { block = taking_block; terms = nil } ∷ []; variables = []; given = []; local = []; family = 1; arguments = Some (root (constant 2) nil) ∷ [] }

-- For a variable of the clause an entry isn't a bound variable: Y x doesn't determine Y. So p b.x is no instance of p (Y x), though [y] y is a value of Y that
-- makes them equal.
abbrev pub EntryDeterminesNothing : Type 0
EntryDeterminesNothing = NumberedMatchedIs Bare 2 (taking_block ∷ []) taking_case taking_head stuck × (NumberedMatchedIs Bare 2 (taking_block ∷ []) taking_case taking_head apart → ⊥)

-- The block is some {f:exp -> exp} block {u:{Z:exp} p (f Z)}, and the case is p N for a block variable b on [x] x.
abbrev pub moving_type : LfType
moving_type = pi exp (has (root (variable 1) (app (var 0) nil)))

abbrev pub moving_block : Block
moving_block = record { label = 98 ∷ []; some = pi exp exp ∷ []; entries = moving_type ∷ [] }

abbrev pub moving_head : Pattern
moving_head = head_pattern (entry_clause moving_block [] moving_type) (of_entry moving_block [] moving_type [] refl)

abbrev pub moving_case : NumberedCase
moving_case = record { blocks = record { block = moving_block; terms = app (lambda (var 0)) nil } ∷ []; variables = exp ∷ []; given = []; local = []; family = 1; arguments = Some (var 0) ∷ [] }

-- In the instance b the entry u has the type {Z:exp} p Z, of which p N would be an instance. But whether Z is strict is seen in the entry of the block itself,
-- where Z is an argument of the `some` variable f: so p N is no instance of p (f Z).
abbrev pub SomeTermsDetermineNothing : Type 0
SomeTermsDetermineNothing = NumberedMatchedIs Bare 2 (moving_block ∷ []) moving_case moving_head stuck × (NumberedMatchedIs Bare 2 (moving_block ∷ []) moving_case moving_head apart → ⊥)
