-- Why bindings come to an end: what a binding mentions was bound later, or is free.
use Rattle.std.specs.Prelude.{◌≡◌, ℕ, zero, suc, ◌+◌, ◌-◌, ◌<◌, List, [], ◌∷◌, length, take, Option, Some, None, slice_set}
use Rattle.tw_shapes.specs.Shapes.{Shape, variable, base, arrow, AllVariables, IsWithin, Store, place_of, value_of}

-- how many of `count` bindings were made from this place on
abbrev pub height_at : ℕ → Option ℕ → ℕ
height_at count (Some p) = count - p
height_at count None = 0

-- how many bindings were made from a variable's on; 0 of a free one
abbrev pub height : Store → ℕ → ℕ
height s m = height_at (length s.values) (place_of s m)

-- A shape that is no bound variable: what a chain of bindings comes to.
abbrev pub IsFollowed : Store → Shape → Type 0
IsFollowed s (variable m) = value_of s m ≡ None
IsFollowed s (base c) = Unit {0}
IsFollowed s (arrow S T) = Unit {0}

-- Each place has a binding. Its variables are of the store, and lower than the variable that is bound to it.
pub record IsOrdered (s : Store) : Type 0 where
  pub placed : (m p : ℕ) → place_of s m ≡ Some p → p < length s.values
  pub lower : (m : ℕ) (S : Shape) → value_of s m ≡ Some S → AllVariables (λ n. height s n < height s m) S
  pub within : (m : ℕ) (S : Shape) → value_of s m ≡ Some S → IsWithin (length s.places) S

-- How far a walk goes: one step for each part, and one for each variable that is followed.
abbrev pub walk : (ℕ → ℕ) → Shape → ℕ
walk r (variable m) = suc (r m)
walk r (base c) = 1
walk r (arrow S T) = suc (walk r S + walk r T)

-- the walk from what a variable is bound to; none from a free one
abbrev pub walk_at : (ℕ → ℕ) → Option Shape → ℕ
walk_at r (Some S) = walk r S
walk_at r None = 0

-- where at most so many variables are followed one after the other
abbrev pub walk_below : Store → ℕ → ℕ → ℕ
walk_below s zero m = 0
walk_below s (suc k) m = walk_at (walk_below s k) (value_of s m)

-- how far the walk over a shape goes that follows each bound variable
abbrev pub length_of_walk : Store → Shape → ℕ
length_of_walk s S = walk (walk_below s (length s.values)) S

-- how many variables are free
abbrev pub count_unbound : List (Option ℕ) → ℕ
count_unbound [] = 0
count_unbound (None ∷ os) = suc (count_unbound os)
count_unbound (Some p ∷ os) = count_unbound os

-- without the newest binding, which is this variable's
abbrev pub without_binding : Store → ℕ → Store
without_binding s m = record { places = slice_set s.places m None; values = take (length s.values - 1) s.values }

-- without the bindings of these variables, the newest in front
abbrev pub without_bindings : Store → List ℕ → Store
without_bindings s [] = s
without_bindings s (m ∷ ms) = without_bindings (without_binding s m) ms
