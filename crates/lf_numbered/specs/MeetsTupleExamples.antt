-- Worked tuples of cp b.x c.x, whose block variables b and c of {x:exp} {u:cp x x} may be one: with the head of cp-app, and with the entry u.
use Rattle.std.specs.Prelude.{◌≡◌, ◌≤◌, ℕ, [], ◌∷◌}
use Rattle.lf.specs.Syntax.{constant, root, nil}
use Rattle.lf.specs.Substitution.{keep}
use Rattle.lf_unification.specs.Steps.{CanRefute}
use Rattle.lf_unification.specs.Unifiers.{Equation}
use Rattle.lf_totality.specs.Examples.{Copying, cp_kind, exp}
use Rattle.lf_coverage.specs.ExamplesCopying.{copy_app_head, copy_entry_head}
use Rattle.lf_numbered.specs.EntryConstants.{with_entries}
use Rattle.lf_numbered.specs.ExamplesNumbered.{two_copies}
use Rattle.lf_numbered.specs.MeetsTuple.{SharesTuple}
use Rattle.lf_numbered.specs.NumberedCallsStores.{identified, meet_store_by_number}
use Rattle.lf_numbered.specs.NumberedTuplesExamples.{applied}
use Rattle.lf_numbered.specs.OwnTerms.{blocks_of}

-- the equation of a constant with app E1 E2
abbrev pub applied_constant : ℕ → ℕ → ℕ → Equation
applied_constant b m n = record { local = []; left = root (constant b) nil; right = applied m n; of_type = exp }

-- Where b and c are different, the equations are b.x = app E1 E2 and c.x = app F1 F2, with 4 for b.x and 6 for c.x; where they are one, both are of b.x. The
-- metavariables of cp-app have the numbers from 0 to 5.
abbrev pub CopiesAreApplied : Type 0
CopiesAreApplied = ((meet_store_by_number (λ k. k) (identified 4 (λ k. k) two_copies) copy_app_head keep cp_kind).equations ≡ applied_constant 4 5 4 ∷ applied_constant 6 3 2 ∷ []) × ((meet_store_by_number (λ k. 0) (identified 4 (λ k. 0) two_copies) copy_app_head keep cp_kind).equations ≡ applied_constant 4 5 4 ∷ applied_constant 4 3 2 ∷ [])

-- Steps refute b.x = app E1 E2 for each way in which b and c are one or not; and in no context has cp-app a tuple that cp b.x c.x holds, whatever
-- instances b and c stand for.
abbrev pub CopiesAreRefuted : Type 0
CopiesAreRefuted = (π : ℕ → ℕ) → ((k : ℕ) → π k ≤ k) → CanRefute (with_entries Copying 4 (blocks_of (identified 4 π two_copies).blocks)) (meet_store_by_number π (identified 4 π two_copies) copy_app_head keep cp_kind)

abbrev pub CopiesHaveNoApplied : Type 0
CopiesHaveNoApplied = SharesTuple Copying 4 two_copies copy_app_head → ⊥

-- The entry u has one: x, x in the context x:exp, u:cp x x, where b and c are both its instance.
abbrev pub CopiesShareTuple : Type 0
CopiesShareTuple = SharesTuple Copying 4 two_copies copy_entry_head
