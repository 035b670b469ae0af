-- Worked cases of a run that is never stuck.
use Rattle.std.specs.Prelude.{◌≡◌, List, [], ◌∷◌, Some}
use Rattle.lf.specs.Subordination.{Member}
use Rattle.lf_cases.specs.Candidates.{case_candidates}
use Rattle.lf_cases.specs.Case.{Case, free_variable}
use Rattle.lf_cases.specs.Missing.{CommonInstance}
use Rattle.lf_cases.specs.Pattern.{Pattern}
use Rattle.lf_cases.specs.Reached.{FirstCandidate, IsInstanceOf, IsUnsplit}
use Rattle.lf_totality.specs.Examples.{Addition, addition_marks, plus_heads, plus_input_goal, plus_successor_case, plus_zero_case, z, nat, var, on_two, first_below_second}
use Rattle.lf_totality.specs.ExamplesMissing.{eq_r}
use Rattle.lf_totality.specs.ExamplesReached.{Applied, Equality, applied_clause, head_of}
use Rattle.lf_coverage.specs.ExamplesStuck.{Zeros, zeros_below, zero_heads, one_input, two_inputs, applied_case, solved_case, lower_below, lower_case}
use Rattle.lf_coverage.specs.ExamplesTyped.{plus_s_head}
use Rattle.lf_coverage.specs.Stuck.{IsStrategyCase, IsStrategyHead, SplitsAtFirst}

-- plus-z and plus-s are heads for the strategy, and eq z z is; not k (F z), nor eq-r, which has X twice.
abbrev pub HeadsAreStrategys : Type 0
HeadsAreStrategys = ((p : Pattern) → Member p plus_heads → IsStrategyHead Addition first_below_second addition_marks 1 p) × IsStrategyHead Zeros zeros_below two_inputs 2 (head_of (on_two 2 z z)) × (IsStrategyHead Applied first_below_second one_input 2 (head_of applied_clause.type) → ⊥) × (IsStrategyHead Equality zeros_below two_inputs 2 (head_of eq_r.type) → ⊥)

-- plus X Y Z, with its output
abbrev pub full_case : Case
full_case = record { items = free_variable nat ∷ free_variable nat ∷ free_variable nat ∷ []; given = []; local = []; family = 1; arguments = Some (var 2) ∷ Some (var 1) ∷ Some (var 0) ∷ [] }

-- plus X Y _, plus (s X) Y _ and eq z Y are cases of the strategy; not plus X Y Z, nor eq z (F z), nor p (l ([x] k (F x))), where F takes what isn't below its own family.
abbrev pub CasesAreStrategys : Type 0
CasesAreStrategys = IsStrategyCase first_below_second addition_marks plus_input_goal × IsStrategyCase first_below_second addition_marks plus_successor_case × IsStrategyCase zeros_below two_inputs solved_case × (IsStrategyCase zeros_below two_inputs applied_case → ⊥) × (IsStrategyCase lower_below one_input lower_case → ⊥) × (IsStrategyCase first_below_second addition_marks full_case → ⊥)

-- plus (s X) Y _ shares an instance with plus-s and has no candidate with it, so it is an instance of it: a run by plus-z and plus-s isn't stuck there.
abbrev pub SuccessorIsNotStuck : Type 0
SuccessorIsNotStuck = CommonInstance Addition [] plus_successor_case plus_s_head × (case_candidates plus_successor_case plus_s_head ≡ []) × IsInstanceOf Addition [] plus_successor_case plus_s_head × (IsUnsplit Addition [] (λ C p. ⊥) plus_heads plus_successor_case → ⊥)

-- eq z Y shares an instance with eq z z, and Y is a candidate: it is split at Y.
abbrev pub SolvedIsNotStuck : Type 0
SolvedIsNotStuck = FirstCandidate Zeros [] (λ C p. ⊥) solved_case 0 zero_heads × (IsUnsplit Zeros [] (λ C p. ⊥) zero_heads solved_case → ⊥)

-- The strategy splits plus X Y _ at X, its first candidate, by z and s; and plus (s X) Y _ not at all, since it is an instance.
abbrev pub PlusSplitsAtFirst : Type 0
PlusSplitsAtFirst = SplitsAtFirst Addition first_below_second plus_heads plus_input_goal (plus_zero_case ∷ plus_successor_case ∷ []) × ((Cs : List Case) → SplitsAtFirst Addition first_below_second plus_heads plus_successor_case Cs → ⊥)
