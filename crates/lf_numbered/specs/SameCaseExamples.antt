-- Worked: plus X Y _ and plus (s X) Y _ don't hold the same tuples, so they aren't the same case.
use Rattle.lf_totality.specs.Examples.{Addition, plus_input_goal}
use Rattle.lf_numbered.specs.Numbering.{numbered}
use Rattle.lf_numbered.specs.OnlyCase.{AreSameCase}
use Rattle.lf_numbered.specs.OnlyExamples.{successor_case}
use Rattle.lf_numbered.specs.SameCaseHolds.{HoldSame}

-- The tuple z, z, z is held by the first alone, in the empty context.
abbrev pub OpenHoldsMore : Type 0
OpenHoldsMore = (HoldSame Addition 4 (numbered 4 plus_input_goal) successor_case → ⊥) × (AreSameCase Addition 4 (numbered 4 plus_input_goal) successor_case → ⊥)
