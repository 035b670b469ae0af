-- Worked meetings of a case with the clause eq z z: unification never solves, it solves, or it leaves an equation outside the pattern fragment.
use Rattle.std.specs.Prelude.{[], ◌∷◌, Some}
use Rattle.lf.specs.Subordination.{Member}
use Rattle.lf_unification.specs.Solving.{Never}
use Rattle.lf_unification.specs.Steps.{CanRefute}
use Rattle.lf_cases.specs.Case.{free_variable, Case}
use Rattle.lf_cases.specs.Pattern.{Pattern}
use Rattle.lf_cases.specs.Reached.{IsApart}
use Rattle.lf_totality.specs.Examples.{nat, on_two, successor, var, z}
use Rattle.lf_totality.specs.ExamplesReached.{head_of}
use Rattle.lf_coverage.specs.Examples.{two_nats}
use Rattle.lf_coverage.specs.ExamplesRenumbering.{exchanged}
use Rattle.lf_coverage.specs.ExamplesStuck.{Zeros, applied_case, solved_case}
use Rattle.lf_coverage.specs.MeetStore.{IsOpen, meet_store}
use Rattle.lf_coverage.specs.Renumbering.{renumbered_store}
use Rattle.lf_coverage.specs.Stuck.{IsAnswered}

-- eq z z
abbrev pub zeros : Pattern
zeros = head_of (on_two 2 z z)

-- eq (s X) Y
abbrev pub successor_case : Case
successor_case = record { items = free_variable nat ∷ free_variable nat ∷ []; given = []; local = []; family = 2; arguments = Some (successor (var 1)) ∷ Some (var 0) ∷ [] }

-- Unification of eq (s X) Y with eq z z never solves s X = z. That of eq z Y solves Y = z, so that there is a typed unifier. That of eq z (F z) leaves
-- F z = z, so that it is open whether they meet. So unification answers for each of the three.
abbrev pub MeetingsAreAnswered : Type 0
MeetingsAreAnswered = Never Zeros [] (meet_store successor_case zeros two_nats) × (Never Zeros [] (meet_store solved_case zeros two_nats) → ⊥) × IsOpen Zeros applied_case zeros × ((C : Case) → Member C (successor_case ∷ solved_case ∷ applied_case ∷ []) → IsAnswered Zeros two_nats C zeros)

-- Steps refute the store of the first with its two numbers exchanged, s 0 = z; so it is apart from eq z z.
abbrev pub SuccessorIsApart : Type 0
SuccessorIsApart = CanRefute Zeros (renumbered_store exchanged (meet_store successor_case zeros two_nats)) × IsApart Zeros [] (IsOpen Zeros) successor_case zeros
