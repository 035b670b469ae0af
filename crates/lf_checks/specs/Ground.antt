-- Ground variables: before the first subgoal, and after each.
use Rattle.std.specs.Prelude.{ℕ, zero, suc, List, Bool}
use Rattle.lf.specs.Syntax.{LfType, pi, atom}
use Rattle.lf.specs.Typing.{TypeAt}
use Rattle.lf.specs.Entries.{quantifiers}
use Rattle.lf.specs.Variables.{target, target_arguments, under, everything, nothing, UsesType}
use Rattle.lf_checks.specs.Tests.{either, both, choose}
use Rattle.lf_checks.specs.Clause.{Clause, scope, variables, outside}
use Rattle.lf_checks.specs.Marks.{Mark, input_places, output_places, UsesPlaces}
use Rattle.lf_checks.specs.Strict.{strict_at, strict_goal}

-- Ground at first: of what stands outside the variables of V, and the variables with a strict occurrence in the chosen places of
-- the head.
abbrev pub ground_by : (ℕ → Bool) → List Bool → Clause → ℕ → Bool
ground_by V m c i = either (outside c.type V i) (both (variables c i) (strict_at m nothing (outside c.type c.fixed) i (target_arguments c.type)))

-- in its input places
abbrev pub ground_from : (ℕ → Bool) → (ℕ → List Mark) → Clause → ℕ → Bool
ground_from V m c = ground_by V (input_places (m (target c.type))) c

-- of a constant or a block entry, where all that stands outside is ground
abbrev pub ground_first : (ℕ → List Mark) → Clause → ℕ → Bool
ground_first m c = ground_from everything m c

-- Ground after a subgoal: those before it, and the variables with a strict occurrence in its output places.
abbrev pub ground_after : (ℕ → List Mark) → Clause → LfType → (ℕ → Bool) → ℕ → Bool
ground_after m c A U i = either (U i) (both (variables c i) (strict_goal (output_places (m (target A))) nothing (outside c.type c.fixed) i A))

-- The variables in the types of the subgoal's local hypotheses, and those at the chosen places, are in U.
abbrev pub UsesGoal : (ℕ → Bool) → List Bool → LfType → Type 0
UsesGoal U m (pi A B) = UsesType U A × UsesGoal (under U) m B
UsesGoal U m (atom a S) = UsesPlaces U m S

-- The subgoals in solving order, from index i on, among n quantifiers: P holds of each, with the set that is ground before
-- it, and Q of the set that is ground at the end.
abbrev pub EachSubgoal : (ℕ → List Mark) → Clause → ((ℕ → Bool) → LfType → Type 0) → ((ℕ → Bool) → Type 0) → ℕ → ℕ → (ℕ → Bool) → Type 0
EachSubgoal m c P Q zero i U = Q U
EachSubgoal m c P Q (suc n) i U = choose (variables c i) (EachSubgoal m c P Q n (suc i) U) ((A : LfType) → TypeAt (scope c) i A → P U A × EachSubgoal m c P Q n (suc i) (ground_after m c A U))

-- all subgoals, where of what stands outside the variables of V are ground
abbrev pub SubgoalsFrom : (ℕ → Bool) → (ℕ → List Mark) → Clause → ((ℕ → Bool) → LfType → Type 0) → ((ℕ → Bool) → Type 0) → Type 0
SubgoalsFrom V m c P Q = EachSubgoal m c P Q (quantifiers c.type) zero (ground_from V m c)

-- all subgoals of a constant or a block entry
abbrev pub Subgoals : (ℕ → List Mark) → Clause → ((ℕ → Bool) → LfType → Type 0) → ((ℕ → Bool) → Type 0) → Type 0
Subgoals m c P Q = SubgoalsFrom everything m c P Q
