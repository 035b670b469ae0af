-- Worked answers of the calls by number: cp in the worlds of {x:exp} {u:cp x x}; p in those of {x:exp} {u:p x}, where exp has no constant; and eq z (F z).
use Rattle.std.specs.Prelude.{ℕ, [], ◌∷◌, Bool, Some, None}
use Rattle.lf.specs.Syntax.{variable, metavariable, root, nil, app, pi}
use Rattle.lf.specs.Subordination.{IsBelowTest}
use Rattle.lf_unification.specs.Unifiers.{Equation}
use Rattle.lf_checks.specs.Below.{IsSubordination}
use Rattle.lf_totality.specs.Examples.{Copying, nat, on_two, var, z}
use Rattle.lf_coverage.specs.Calls.{instance, apart, candidates, stuck}
use Rattle.lf_coverage.specs.Examples.{number}
use Rattle.lf_coverage.specs.ExamplesCopying.{copy_app_head, copy_entry_head, copy_goal, copy_worlds}
use Rattle.lf_coverage.specs.ExamplesMeetings.{zeros}
use Rattle.lf_coverage.specs.ExamplesStuck.{Zeros}
use Rattle.lf_numbered.specs.ExamplesNumbered.{one_copy, two_copies}
use Rattle.lf_numbered.specs.NumberedCalls.{NumberedCoverIs, NumberedCoverNeeds, NumberedMatchedIs, NumberedSplitAnswer, NumberedSplitIs, all_covered, numbered_cases, one_missing, one_unsplit, outside_over, run_too_deep}
use Rattle.lf_numbered.specs.NumberedCallsOutside.{IsDeepByNumber}
use Rattle.lf_numbered.specs.NumberedCallsReached.{ReachedByNumber}
use Rattle.lf_numbered.specs.NumberedCallsStores.{IsOpenByNumber}
use Rattle.lf_numbered.specs.NumberedCase.{NumberedCase}
use Rattle.lf_numbered.specs.NumberedSplitsExamples.{Bare, entry_case, exp_block, has_head, open_case}
use Rattle.lf_numbered.specs.Numbering.{numbered}

-- cp b.x b.x is an instance of u : cp x x, and apart from cp-app. cp b.x c.x is no instance of u, since b and c are different, and not apart from it, since
-- they may be one; no variable stands anywhere, so it is stuck. In the goal cp X _ the candidate for u is X.
abbrev pub CopiesAreMatched : Type 0
CopiesAreMatched = NumberedMatchedIs Copying 4 copy_worlds one_copy copy_entry_head instance × NumberedMatchedIs Copying 4 copy_worlds one_copy copy_app_head apart × (NumberedMatchedIs Copying 4 copy_worlds two_copies copy_entry_head instance → ⊥) × (NumberedMatchedIs Copying 4 copy_worlds two_copies copy_entry_head apart → ⊥) × NumberedMatchedIs Copying 4 copy_worlds two_copies copy_entry_head stuck × (NumberedMatchedIs Copying 4 copy_worlds one_copy copy_entry_head stuck → ⊥) × NumberedMatchedIs Copying 4 copy_worlds (numbered 4 copy_goal) copy_entry_head (candidates (0 ∷ []))

-- So the case cp b.x c.x can't be split with u alone, and isn't missing. cp b.x b.x is missing where cp-app is alone, and not where u is there.
abbrev pub CopiesAreReached : Type 0
CopiesAreReached = (below : ℕ → ℕ → Bool) → NumberedCoverIs Copying 4 copy_worlds below (copy_entry_head ∷ []) two_copies (one_unsplit two_copies) × (NumberedCoverIs Copying 4 copy_worlds below (copy_entry_head ∷ []) two_copies (one_missing two_copies) → ⊥) × NumberedCoverIs Copying 4 copy_worlds below (copy_app_head ∷ []) one_copy (one_missing one_copy) × (NumberedCoverIs Copying 4 copy_worlds below (copy_entry_head ∷ []) one_copy (one_unsplit one_copy) → ⊥)

-- A goal with one block variable is one that may be handed in, and cp b.x c.x isn't: only what the definitions say of it is worked above.
abbrev pub CopiesAreGoals : Type 0
CopiesAreGoals = (below : ℕ → ℕ → Bool) → ((f : ℕ) → IsBelowTest Copying copy_worlds (below f) f) → NumberedCoverNeeds Copying 4 copy_worlds below (copy_entry_head ∷ []) one_copy × (NumberedCoverNeeds Copying 4 copy_worlds below (copy_entry_head ∷ []) two_copies → ⊥)

-- The goal p X is split at its candidate into p b.x alone, which is reached, and an instance; so it is covered. There is no variable 1 to be split.
abbrev pub OpenIsAnswered : Type 0
OpenIsAnswered = (below : ℕ → ℕ → Bool) → IsSubordination Bare (exp_block ∷ []) below → NumberedMatchedIs Bare 2 (exp_block ∷ []) open_case has_head (candidates (0 ∷ [])) × NumberedSplitIs Bare 2 (exp_block ∷ []) below open_case 0 (numbered_cases (entry_case ∷ [])) × ((a : NumberedSplitAnswer) → NumberedSplitIs Bare 2 (exp_block ∷ []) below open_case 1 a → ⊥) × ReachedByNumber Bare 2 (exp_block ∷ []) below (has_head ∷ []) open_case entry_case × NumberedMatchedIs Bare 2 (exp_block ∷ []) entry_case has_head instance × NumberedCoverIs Bare 2 (exp_block ∷ []) below (has_head ∷ []) open_case all_covered

-- Without u it is missing, and not covered.
abbrev pub OpenIsMissing : Type 0
OpenIsMissing = (below : ℕ → ℕ → Bool) → NumberedCoverIs Bare 2 (exp_block ∷ []) below [] open_case (one_missing open_case) × (NumberedCoverIs Bare 2 (exp_block ∷ []) below [] open_case all_covered → ⊥) × (NumberedCoverIs Bare 2 (exp_block ∷ []) below (has_head ∷ []) open_case (one_missing open_case) → ⊥)

-- eq z (F z) and the head eq z z: unification leaves F z = z, so it is open whether they meet, and the case is stuck.
abbrev pub applied_zero : NumberedCase
applied_zero = record { blocks = []; variables = pi nat nat ∷ []; given = []; local = []; family = 2; arguments = Some z ∷ Some (root (variable 0) (app z nil)) ∷ [] }

abbrev pub AppliedIsOpen : Type 0
AppliedIsOpen = IsOpenByNumber Zeros 3 applied_zero zeros × NumberedMatchedIs Zeros 3 [] applied_zero zeros stuck

-- A goal with 4,096 times s is too deep; p X isn't deep.
abbrev pub deep_zero : NumberedCase
deep_zero = record { blocks = []; variables = nat ∷ []; given = []; local = []; family = 1; arguments = Some (number 4096) ∷ Some (var 0) ∷ None ∷ [] }

abbrev pub DeepIsTooDeep : Type 0
DeepIsTooDeep = ((below : ℕ → ℕ → Bool) → NumberedCoverIs Zeros 3 [] below [] deep_zero run_too_deep) × (IsDeepByNumber open_case → ⊥)

-- A split at which an equation is left: X of the type eq z (F z) and the head of the type eq z z. F z = z is shown, where F has the number 1.
abbrev pub leaving_case : NumberedCase
leaving_case = record { blocks = []; variables = on_two 2 z (root (variable 0) (app z nil)) ∷ pi nat nat ∷ []; given = []; local = []; family = 2; arguments = Some z ∷ Some (root (variable 1) (app z nil)) ∷ [] }

abbrev pub left_equation : Equation
left_equation = record { local = []; left = root (metavariable 1) (app z nil); right = z; of_type = nat }

abbrev pub LeavingIsOutside : Type 0
LeavingIsOutside = (below : ℕ → ℕ → Bool) → NumberedSplitIs Zeros 3 [] below leaving_case 0 (outside_over leaving_case left_equation) × (NumberedSplitIs Zeros 3 [] below leaving_case 0 (outside_over deep_zero left_equation) → ⊥)
