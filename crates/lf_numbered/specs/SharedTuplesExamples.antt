-- Worked tuples of what a case by number and a pattern share: of cp b.x c.x and u : cp x x, and of eq z (F z) and eq z
-- z.
use Rattle.std.specs.Prelude.{◌≡◌, ℕ, [], ◌∷◌, Bool, false}
use Rattle.lf.specs.Syntax.{nil, app}
use Rattle.lf.specs.Substitution.{Image, keep}
use Rattle.lf.specs.Subordination.{IsBelowTest}
use Rattle.lf.specs.Worlds.{World}
use Rattle.lf_totality.specs.Examples.{Copying, cp, exp, var, z}
use Rattle.lf_coverage.specs.ExamplesCopying.{copy_app_head, copy_entry_head, copy_worlds}
use Rattle.lf_coverage.specs.ExamplesMeetings.{zeros}
use Rattle.lf_coverage.specs.ExamplesStuck.{Zeros}
use Rattle.lf_numbered.specs.ExamplesNumbered.{one_copy, two_copies}
use Rattle.lf_numbered.specs.NumberedCalls.{NumberedCoverIs, NumberedCoverNeeds, one_unsplit}
use Rattle.lf_numbered.specs.NumberedCallsExamples.{applied_zero}
use Rattle.lf_numbered.specs.NumberedCallsMeeting.{IsApartByNumber, SharesInstance}
use Rattle.lf_numbered.specs.NumberedCase.{IsNumberedInstance}
use Rattle.lf_numbered.specs.SharedInstances.{HoldsAsInstance}
use Rattle.lf_numbered.specs.SharedTuples.{SharesTupleIn}

-- cp b.x c.x shares cp b.x b.x with u : cp x x, where both b and c are b. This has a ground instance in {x:exp} {u:cp
-- x x}; so cp b.x c.x holds x, x there, and u has it, and they aren't apart. cp-app has no tuple there that the case
-- holds.
abbrev pub CopiesShareGround : Type 0
CopiesShareGround = (w : World Copying copy_worlds (λ b. false) (cp (var 0) (var 0) ∷ exp ∷ [])) × (s : SharesInstance Copying 4 copy_worlds two_copies copy_entry_head) × (s.common ≡ one_copy) × (θ : ℕ → ℕ → Image) × IsNumberedInstance w 4 s.common θ keep × HoldsAsInstance w 4 s.common θ keep two_copies s.numbers s.values × (t : SharesTupleIn w 4 two_copies copy_entry_head) × (t.tuple ≡ app (var 1) (app (var 1) nil)) × (IsApartByNumber Copying 4 copy_worlds two_copies copy_entry_head → ⊥) × (SharesTupleIn w 4 two_copies copy_app_head → ⊥)

-- With eq z z alone the goal eq z (F z) can't be split. It shares eq z z, where F is [y] y; so the goal holds z, z in
-- the empty world, and the clause has it.
abbrev pub AppliedZeroIsMet : Type 0
AppliedZeroIsMet = (below : ℕ → ℕ → Bool) → ((f : ℕ) → IsBelowTest Zeros [] (below f) f) → NumberedCoverNeeds Zeros 3 [] below (zeros ∷ []) applied_zero × NumberedCoverIs Zeros 3 [] below (zeros ∷ []) applied_zero (one_unsplit applied_zero) × (w : World Zeros [] (λ b. false) []) × (t : SharesTupleIn w 3 applied_zero zeros) × (t.tuple ≡ app z (app z nil))
