-- The variables that are ground before a subgoal, as a function.
use Rattle.std.specs.Prelude.{ℕ, zero, suc, List, Bool, true, false, Option, Some, None}
use Rattle.lf.specs.Syntax.{LfType}
use Rattle.lf.specs.Entries.{quantifiers}
use Rattle.lf_checks.specs.Clause.{Clause, scope, variables}
use Rattle.lf_checks.specs.Marks.{Mark}
use Rattle.lf_checks.specs.Ground.{ground_after, ground_from}
use Rattle.lf_checks.specs.Parts.{type_at}

-- what is ground past a quantifier of this type: a variable adds nothing, a subgoal what is strict in its outputs
abbrev pub ground_past : (ℕ → List Mark) → Clause → Bool → Option LfType → (ℕ → Bool) → ℕ → Bool
ground_past m c true t U = U
ground_past m c false (Some A) U = ground_after m c A U
ground_past m c false None U = U

-- what is ground before the quantifier at index i of the scope, where of what stands outside the variables of V are
abbrev pub ground_until : (ℕ → Bool) → (ℕ → List Mark) → Clause → ℕ → ℕ → Bool
ground_until V m c zero = ground_from V m c
ground_until V m c (suc i) = ground_past m c (variables c i) (type_at (scope c) i) (ground_until V m c i)

-- and at the end
abbrev pub ground_at_end : (ℕ → Bool) → (ℕ → List Mark) → Clause → ℕ → Bool
ground_at_end V m c = ground_until V m c (quantifiers c.type)
