-- What is ground while the subgoals of a clause are met, and what needn't be ground.
use Rattle.std.specs.Prelude.{◌≡◌, ℕ, zero, suc, List, [], ◌∷◌, ◌++◌, Bool, true, false, not, length, Option, Some, None}
use Rattle.lf.specs.Syntax.{LfType, pi, atom}
use Rattle.lf.specs.Typing.{Signature}
use Rattle.lf.specs.Variables.{everything, nothing, target, target_arguments}
use Rattle.lf_checks.specs.Clause.{Clause, IsSubgoal, outside, scope, variables}
use Rattle.lf_checks.specs.GroundUntil.{ground_until}
use Rattle.lf_checks.specs.Marks.{Mark, free_places, output_places}
use Rattle.lf_checks.specs.ModeFaults.{ModedBefore, SubgoalFault}
use Rattle.lf_checks.specs.Modes.{occurs_at, occurs_goal}
use Rattle.lf_checks.specs.Parts.{count_below, subgoal_at, type_at}
use Rattle.lf_checks.specs.Strict.{strict_goal}
use Rattle.lf_checks.specs.Tests.{either}
use Rattle.tw_mode.specs.Scopes.{in_marks}
use Rattle.tw_mode.specs.declared.clause.Walk.{Walk}
use Rattle.tw_mode.specs.declared.outside.Outside.{Outside}

-- after the subgoal A, where F are the fixed variables
abbrev pub after : (ℕ → List Mark) → (ℕ → Bool) → LfType → (ℕ → Bool) → ℕ → Bool
after m F A U i = either (U i) (strict_goal (output_places (m (target A))) nothing F i A)

-- E, and what stands in a free place of the subgoal A
abbrev pub with_free : (ℕ → List Mark) → LfType → (ℕ → Bool) → ℕ → Bool
with_free m A E x = either (E x) (occurs_goal (free_places (m (target A))) x A)

-- so many more marks that say no
abbrev pub with_hidden : List Bool → ℕ → List Bool
with_hidden ms zero = ms
with_hidden ms (suc n) = with_hidden (ms ++ false ∷ []) n

-- and that say yes
abbrev pub with_shown : List Bool → ℕ → List Bool
with_shown ms zero = ms
with_shown ms (suc n) = with_shown (ms ++ true ∷ []) n

-- so many marks that say yes, in front
abbrev pub after_all : ℕ → List Bool → List Bool
after_all zero ms = ms
after_all (suc n) ms = true ∷ after_all n ms

-- the types of the leading quantifiers, the outermost first
abbrev pub domain_types : LfType → List LfType
domain_types (pi A B) = A ∷ domain_types B
domain_types (atom a S) = []

-- what is ground outside a type
abbrev pub ground_outside : Outside → ℕ → Bool
ground_outside o = in_marks true o.depth o.ground.now

-- the type as a clause, in some context
abbrev pub clause_in : List LfType → Outside → LfType → Clause
clause_in C o A = record { outer = C; fixed = in_marks false o.depth o.fixed.now; type = A }

-- a subgoal excuses what stands in its free places; a variable excuses nothing
abbrev pub free_past : (ℕ → List Mark) → Bool → Option LfType → ℕ → Bool
free_past m true t x = false
free_past m false (Some A) x = occurs_goal (free_places (m (target A))) x A
free_past m false None x = false

-- What needn't be ground, as far as the head and the subgoals before index i tell: what stands outside the clause, its subgoals, and the variables
-- in a free place.
abbrev pub excused : (ℕ → List Mark) → Clause → ℕ → ℕ → Bool
excused m c zero x = either (either (outside c.type everything x) (not (variables c x))) (occurs_at (free_places (m (target c.type))) x (target_arguments c.type))
excused m c (suc i) x = either (excused m c i x) (free_past m (variables c i) (type_at (scope c) i) x)

-- a walk stands before the quantifier at index i of the clause, with so many variables in scope
pub record Stands (m : ℕ → List Mark) (V : ℕ → Bool) (c : Clause) (depth : ℕ) (w : Walk) (i : ℕ) : Type 0 where
  pub ground : in_marks true depth w.ground.items ≡ ground_until V m c i
  pub excuses : in_marks true depth w.excused.items ≡ excused m c i
  pub met : w.subgoals ≡ count_below (λ j. not (variables c j)) i
  pub each_ground : length w.ground.items ≡ depth
  pub each_excused : length w.excused.items ≡ depth

-- a walk goes past the subgoal A
pub record GoesPast (m : ℕ → List Mark) (F : ℕ → Bool) (depth : ℕ) (A : LfType) (old new : Walk) : Type 0 where
  pub ground : in_marks true depth new.ground.items ≡ after m F A (in_marks true depth old.ground.items)
  pub excuses : in_marks true depth new.excused.items ≡ with_free m A (in_marks true depth old.excused.items)
  pub each_ground : length new.ground.items ≡ length old.ground.items
  pub each_excused : length new.excused.items ≡ length old.excused.items

-- subgoal k is the first with a fault, which is at argument j
pub record FirstFaulty (Σ : Signature) (m : ℕ → List Mark) (moded V : ℕ → Bool) (c : Clause) (k j : ℕ) : Type 0 where
  pub index : ℕ
  pub subgoal : LfType
  pub stands : subgoal_at c k ≡ Some index
  pub is_subgoal : IsSubgoal c index subgoal
  pub before : ModedBefore Σ m moded V c index
  pub fault : SubgoalFault Σ m moded c (ground_until V m c index) subgoal j
