-- Worked: the split of plus X Y _ at X lists the case by z and then that by s; and which cases are the same but for
-- their variables.
use Rattle.std.specs.Prelude.{[], ◌∷◌, Some, None}
use Rattle.lf_totality.specs.Examples.{Addition, first_below_second, nat, plus_input_goal, plus_successor_case, plus_zero_case, successor, var, z}
use Rattle.lf_numbered.specs.NumberedCalls.{ListsCases}
use Rattle.lf_numbered.specs.NumberedCase.{NumberedCase}
use Rattle.lf_numbered.specs.Numbering.{numbered}
use Rattle.lf_numbered.specs.OnlyCase.{AreSameCase}

abbrev pub zero_case : NumberedCase
zero_case = numbered 4 plus_zero_case

abbrev pub successor_case : NumberedCase
successor_case = numbered 4 plus_successor_case

-- plus z Y _ and plus (s X) Y _, in this order, are the list. Exchanged they are none, and neither of them is one
-- alone.
abbrev pub ZeroComesFirst : Type 0
ZeroComesFirst = ListsCases Addition 4 [] first_below_second (numbered 4 plus_input_goal) 1 (zero_case ∷ successor_case ∷ []) × (ListsCases Addition 4 [] first_below_second (numbered 4 plus_input_goal) 1 (successor_case ∷ zero_case ∷ []) → ⊥) × (ListsCases Addition 4 [] first_below_second (numbered 4 plus_input_goal) 1 (zero_case ∷ []) → ⊥) × (ListsCases Addition 4 [] first_below_second (numbered 4 plus_input_goal) 1 (successor_case ∷ []) → ⊥)

-- plus (s Y) X _, where Y is the newer variable, and plus z Y _ with one more variable, which occurs nowhere
abbrev pub exchanged_case : NumberedCase
exchanged_case = record { blocks = []; variables = nat ∷ nat ∷ []; given = []; local = []; family = 1; arguments = Some (successor (var 0)) ∷ Some (var 1) ∷ None ∷ [] }

abbrev pub idle_case : NumberedCase
idle_case = record { blocks = []; variables = nat ∷ nat ∷ []; given = []; local = []; family = 1; arguments = Some z ∷ Some (var 0) ∷ None ∷ [] }

-- The former is the same case as plus (s X) Y _, and the latter isn't the same as plus z Y _.
abbrev pub ExchangedIsSame : Type 0
ExchangedIsSame = AreSameCase Addition 4 successor_case exchanged_case

abbrev pub IdleIsNotSame : Type 0
IdleIsNotSame = AreSameCase Addition 4 zero_case idle_case → ⊥
