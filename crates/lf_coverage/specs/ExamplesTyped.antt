-- Worked cases: goals that are typed beside a clause and a subgoal, and what unification says of them.
use Rattle.std.specs.Prelude.{[], ◌∷◌, Some, None}
use Rattle.lf.specs.Syntax.{constant, pi}
use Rattle.lf_unification.specs.Solving.{IsWellFormed, Never}
use Rattle.lf_cases.specs.Case.{free_variable, Case}
use Rattle.lf_cases.specs.Pattern.{Pattern, of_constant, head_pattern}
use Rattle.lf_cases.specs.Reached.{IsApart, IsSplitBy}
use Rattle.lf_totality.specs.Examples.{Addition, nat, z, var, on_three, plus_s, plus_kind, plus_input_goal, plus_zero_case, plus_successor_case, plus_output_case, first_below_second}
use Rattle.lf_coverage.specs.ExamplesLeaves.{plus_asked}
use Rattle.lf_coverage.specs.Heads.{IsTypedCase}
use Rattle.lf_coverage.specs.MeetStore.{IsOpen, meet_store}
use Rattle.lf_coverage.specs.TypedCase.{IsTypedBeside}

-- the head of plus-s
abbrev pub plus_s_head : Pattern
plus_s_head = head_pattern plus_s (of_constant plus_s.type)

-- The goal plus X Y _ is typed beside the head of plus-s, and the goal plus X Y Z of its outputs, where X and Y are given, beside its subgoal: so both
-- stores are ready to be solved.
abbrev pub PlusGoalsAreTyped : Type 0
PlusGoalsAreTyped = IsTypedBeside Addition [] plus_input_goal plus_s_head × IsTypedBeside Addition [] plus_output_case plus_asked × IsWellFormed Addition (meet_store plus_input_goal plus_s_head plus_kind) × IsWellFormed Addition (meet_store plus_output_case plus_asked plus_kind)

-- The case plus P X _ with P : plus z X X has skeletons, and isn't typed: the first place is one for numbers.
abbrev pub odd_case : Case
odd_case = record { items = free_variable (on_three 1 z (var 0) (var 0)) ∷ free_variable nat ∷ []; given = []; local = []; family = 1; arguments = Some (var 0) ∷ Some (var 1) ∷ None ∷ [] }

abbrev pub OddCaseIsUntyped : Type 0
OddCaseIsUntyped = IsTypedCase Addition [] odd_case × (IsTypedBeside Addition [] odd_case plus_s_head → ⊥)

-- plus z Y _ and the head of plus-s: z = s X' is never solved, and they are apart.
abbrev pub ZeroIsApart : Type 0
ZeroIsApart = Never Addition [] (meet_store plus_zero_case plus_s_head plus_kind) × IsApart Addition [] (IsOpen Addition) plus_zero_case plus_s_head

-- plus (s X') Y _ is the case that the split of plus X Y _ at X gives by s.
abbrev pub SuccessorIsSplit : Type 0
SuccessorIsSplit = IsSplitBy Addition [] first_below_second plus_input_goal 1 nat plus_input_goal.items 0 (constant 1) (pi nat nat) plus_successor_case
