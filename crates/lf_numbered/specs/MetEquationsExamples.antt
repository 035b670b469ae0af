-- Worked tuples at places: x, x of cp b.x c.x and u : cp x x, and z, z of eq z (F z) and eq z z, where unification
-- leaves F z = z.
use Rattle.std.specs.Prelude.{◌≡◌, Some}
use Rattle.lf.specs.Syntax.{nil, app, lambda}
use Rattle.lf.specs.Substitution.{keep}
use Rattle.lf_unification.specs.Solving.{Left}
use Rattle.lf_unification.specs.Unifiers.{Store}
use Rattle.lf_totality.specs.Examples.{Copying, cp_kind, var, z}
use Rattle.lf_coverage.specs.Examples.{two_nats}
use Rattle.lf_coverage.specs.ExamplesCopying.{copy_entry_head}
use Rattle.lf_coverage.specs.ExamplesMeetings.{zeros}
use Rattle.lf_coverage.specs.ExamplesStuck.{Zeros}
use Rattle.lf_numbered.specs.ExamplesNumbered.{two_copies}
use Rattle.lf_numbered.specs.MeetsAnswers.{HasUnifier, IsPlace, entries_at}
use Rattle.lf_numbered.specs.MeetsAnswersExamples.{one_of_two}
use Rattle.lf_numbered.specs.MeetsTuple.{SharesTuple}
use Rattle.lf_numbered.specs.MetEquations.{SolvesLeft, TupleStandsAt}
use Rattle.lf_numbered.specs.NumberedCallsExamples.{applied_zero}
use Rattle.lf_numbered.specs.NumberedCallsRows.{copy_outer}
use Rattle.lf_numbered.specs.NumberedCallsStores.{IsOpenByNumber, meet_store_by_number}

-- The tuple x, x of {x:exp} {u:cp x x} stands where b and c are one, at the entry of b; so b.x = b.x has a typed
-- unifier there. It doesn't stand where b and c are different, since both are the instance of x and u.
abbrev pub CopiesStandAtOne : Type 0
CopiesStandAtOne = (t : SharesTuple Copying 4 two_copies copy_entry_head) × (x : IsPlace 4 two_copies copy_entry_head (λ k. 0) one_of_two copy_outer) × TupleStandsAt Copying 4 two_copies copy_entry_head t (λ k. 0) one_of_two copy_outer x × HasUnifier (entries_at Copying 4 one_of_two) (meet_store_by_number (λ k. 0) one_of_two copy_entry_head copy_outer cp_kind) × ((x : IsPlace 4 two_copies copy_entry_head (λ k. k) two_copies copy_outer) → TupleStandsAt Copying 4 two_copies copy_entry_head t (λ k. k) two_copies copy_outer x → ⊥)

-- It is open whether eq z (F z) and eq z z meet. They share the tuple z, z, where F is [y] y; so whatever unification
-- leaves of them, as F z = z, has a typed unifier with this value of F.
abbrev pub AppliedZeroSolvesLeft : Type 0
AppliedZeroSolvesLeft = IsOpenByNumber Zeros 3 applied_zero zeros × (t : SharesTuple Zeros 3 applied_zero zeros) × (t.tuple ≡ app z (app z nil)) × (x : IsPlace 3 applied_zero zeros (λ k. k) applied_zero keep) × TupleStandsAt Zeros 3 applied_zero zeros t (λ k. k) applied_zero keep x × ((after : Store) (l : Left (entries_at Zeros 3 applied_zero) (meet_store_by_number (λ k. k) applied_zero zeros keep two_nats) after) → (u : HasUnifier (entries_at Zeros 3 applied_zero) (meet_store_by_number (λ k. k) applied_zero zeros keep two_nats)) × (u.filling 0 ≡ Some (lambda (var 0))) × SolvesLeft (entries_at Zeros 3 applied_zero) (meet_store_by_number (λ k. k) applied_zero zeros keep two_nats) after l u)
