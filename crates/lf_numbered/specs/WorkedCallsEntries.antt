-- A worked split of p M, over a signature that has exp and p : exp -> type alone: a block variable of some {n:exp} block {x:exp} stands on the variable M that
-- is split.
use Rattle.std.specs.Prelude.{ℕ, [], ◌∷◌, Bool, Some}
use Rattle.lf.specs.Syntax.{constant, Term, root, nil, app, star}
use Rattle.lf.specs.Subordination.{Block}
use Rattle.lf_checks.specs.Below.{IsSubordination}
use Rattle.lf_totality.specs.Examples.{var}
use Rattle.lf_numbered.specs.NumberedCalls.{NumberedSplitIs, numbered_cases}
use Rattle.lf_numbered.specs.NumberedCase.{NumberedCase}
use Rattle.lf_numbered.specs.NumberedSplits.{NumberedOffer, NumberedUnifierFinds}
use Rattle.lf_numbered.specs.NumberedSplitsExamples.{Bare, exp}
use Rattle.std.specs.Prelude.{None}

-- some {n:exp} block {x:exp}
abbrev pub number_block : Block
number_block = record { label = 98 ∷ []; some = exp ∷ []; entries = exp ∷ [] }

-- The case is p M, where the block variable b stands on M itself: n is M in b.
abbrev pub own_case : NumberedCase
own_case = record { blocks = record { block = number_block; terms = app (var 0) nil } ∷ []; variables = exp ∷ []; given = []; local = []; family = 1; arguments = Some (var 0) ∷ [] }

-- The entry b.x on M is offered to M itself. The constant of b.x is 2.
abbrev pub own_offer : NumberedOffer
own_offer = record { case = own_case; variable = 0; type = exp; head = constant 2; terms = app (var 0) nil; left = exp }

-- The split gives p (c.x N), for a new block variable c on N, and b stands on c.x N then. The constant of c.x is 3.
abbrev pub newer_entry : Term
newer_entry = root (constant 3) (app (var 0) nil)

abbrev pub newer_case : NumberedCase
newer_case = record {
  blocks = record { block = number_block; terms = app newer_entry nil } ∷ record { block = number_block; terms = app (var 0) nil } ∷ [];
  variables = exp ∷ [];
  given = [];
  local = [];
  family = 1;
  arguments = Some newer_entry ∷ [];
}

-- The term of a `some` variable doesn't mention its own instance of the block: M = b.x M fails, since M occurs on the right, so b.x gives no case. So M is the
-- entry c.x N of a new block variable c, and the older block variable b stands on it.
abbrev pub OwnTermGivesNoCase : Type 0
OwnTermGivesNoCase = (below : ℕ → ℕ → Bool) → IsSubordination Bare (number_block ∷ []) below → NumberedUnifierFinds Bare 2 below own_offer star None × NumberedSplitIs Bare 2 (number_block ∷ []) below own_case 0 (numbered_cases (newer_case ∷ []))
