-- Worked cases: one that is missing, and such that are not; clauses that are linear, and one that is not.
use Rattle.std.specs.Prelude.{ℕ, zero, suc, List, [], ◌∷◌, Option, None}
use Rattle.lf.specs.Syntax.{LfType, pi}
use Rattle.lf.specs.Typing.{Signature}
use Rattle.lf_checks.specs.Clause.{Clause, constant_clause}
use Rattle.lf_checks.specs.Marks.{input}
use Rattle.lf_totality.specs.Examples.{Addition, addition_types, addition_kinds, addition_marks, nat, var, on_two, plus_s, plus_heads, plus_input_goal, plus_zero_case}
use Rattle.lf_cases.specs.Pattern.{Pattern, of_constant, head_pattern}
use Rattle.lf_cases.specs.Missing.{IsMissing}
use Rattle.lf_cases.specs.Full.{IsLinear}

-- addition without the clause plus-z
abbrev pub unfinished_types : ℕ → Option LfType
unfinished_types zero = addition_types 0
unfinished_types (suc zero) = addition_types 1
unfinished_types (suc (suc zero)) = None
unfinished_types (suc (suc (suc n))) = addition_types (suc (suc (suc n)))

abbrev pub Unfinished : Signature
Unfinished = record { types = unfinished_types; kinds = addition_kinds }

-- the head of plus-s alone
abbrev pub unfinished_heads : List Pattern
unfinished_heads = head_pattern plus_s (of_constant plus_s.type) ∷ []

-- there plus z Y _ is missing
abbrev pub ZeroIsMissing : Type 0
ZeroIsMissing = IsMissing Unfinished [] unfinished_heads plus_input_goal plus_zero_case

-- But the goal itself, plus X Y _, is not: it shares plus (s X) Y _ with plus-s. And in the whole of addition plus z Y _ is not missing.
abbrev pub GoalIsNotMissing : Type 0
GoalIsNotMissing = (IsMissing Unfinished [] unfinished_heads plus_input_goal plus_input_goal → ⊥) × (IsMissing Addition [] plus_heads plus_input_goal plus_zero_case → ⊥)

-- plus-s is linear; eq-r : {X:nat} eq X X, with eq +X +Y, is not
abbrev pub eq_r : Clause
eq_r = constant_clause (pi nat (on_two 2 (var 0) (var 0)))

abbrev pub LinearClauses : Type 0
LinearClauses = IsLinear addition_marks plus_s × (IsLinear (λ a. input ∷ input ∷ []) eq_r → ⊥)
