-- Worked cases with two block variables: one that stands on the entry of a newer one, and two that are identified.
use Rattle.std.specs.Prelude.{◌≡◌, ℕ, zero, suc, ◌+◌, [], ◌∷◌, Option, Some, None}
use Rattle.lf.specs.Syntax.{constant, root, nil, app, LfType, Kind, pi, kind_pi, star}
use Rattle.lf.specs.Substitution.{keep}
use Rattle.lf.specs.Typing.{Signature}
use Rattle.lf.specs.Subordination.{Block}
use Rattle.lf_cases.specs.Case.{Case, block_variable}
use Rattle.lf_totality.specs.Examples.{Copying, copy_block, exp, on_two, var}
use Rattle.lf_totality.specs.ExamplesGroups.{on_one}
use Rattle.lf_numbered.specs.NumberedCase.{NumberedCase, AreTypedVariables}
use Rattle.lf_numbered.specs.Numbering.{numbered}
use Rattle.lf_numbered.specs.NumberedInstance.{IsNumberedInstanceOf, KeepsNumbersApart}

-- Families: exp = 0, t = 1, exp -> type, and f = 2, {N:exp} t N -> type. One constant, a : exp, 0.
abbrev pub turning_types : ℕ → Option LfType
turning_types zero = Some exp
turning_types (suc n) = None

abbrev pub turning_kinds : ℕ → Option Kind
turning_kinds zero = Some star
turning_kinds (suc zero) = Some (kind_pi exp star)
turning_kinds (suc (suc zero)) = Some (kind_pi exp (kind_pi (on_one 1 (var 0)) star))
turning_kinds (suc (suc (suc n))) = None

abbrev pub Turning : Signature
Turning = record { types = turning_types; kinds = turning_kinds }

-- some {n:exp} block {y:t n}, and block {x:exp} {u:{Y:t x} f x Y}
abbrev pub first_block : Block
first_block = record { label = 49 ∷ []; some = exp ∷ []; entries = on_one 1 (var 0) ∷ [] }

abbrev pub second_block : Block
second_block = record { label = 50 ∷ []; some = []; entries = pi (on_one 1 (var 0)) (on_two 2 (var 1) (var 0)) ∷ exp ∷ [] }

-- The case f N b.y of a block variable b on N, split at N by the entry x of a new block variable c, is f c.x b.y, where b is on c.x: the older one
-- stands on the entry of the newer one and keeps its number. From the number 1 on: b.y = 1, c.x = 2, c.u = 3.
abbrev pub turned : NumberedCase
turned = record { blocks = record { block = first_block; terms = app (root (constant 2) nil) nil } ∷ record { block = second_block; terms = nil } ∷ []; variables = []; given = []; local = []; family = 2; arguments = Some (root (constant 2) nil) ∷ Some (root (constant 1) (app (root (constant 2) nil) nil)) ∷ [] }

abbrev pub TurnedIsTyped : Type 0
TurnedIsTyped = AreTypedVariables Turning 1 (first_block ∷ second_block ∷ []) turned

-- Two block variables of {x:exp} {u:cp x x}: cp b.x c.x. Identified, they are one: cp b.x b.x, which is an instance. A split doesn't identify them.
abbrev pub two_copies : NumberedCase
two_copies = record { blocks = record { block = copy_block; terms = nil } ∷ record { block = copy_block; terms = nil } ∷ []; variables = []; given = []; local = []; family = 1; arguments = Some (root (constant 4) nil) ∷ Some (root (constant 6) nil) ∷ [] }

abbrev pub one_copy : NumberedCase
one_copy = record { blocks = record { block = copy_block; terms = nil } ∷ []; variables = []; given = []; local = []; family = 1; arguments = Some (root (constant 4) nil) ∷ Some (root (constant 4) nil) ∷ [] }

abbrev pub BlocksAreIdentified : Type 0
BlocksAreIdentified = IsNumberedInstanceOf Copying 4 one_copy two_copies (λ k. 0) (λ i. keep (i + 0)) × (KeepsNumbersApart two_copies (λ k. 0) → ⊥)

-- The numbered form of cp x y for the entries of two block variables among the items: the older one has the number 0.
abbrev pub copies : Case
copies = record { items = block_variable copy_block keep ∷ block_variable copy_block keep ∷ []; given = []; local = []; family = 1; arguments = Some (var 3) ∷ Some (var 1) ∷ [] }

abbrev pub CopiesAreNumbered : Type 0
CopiesAreNumbered = numbered 4 copies ≡ two_copies
