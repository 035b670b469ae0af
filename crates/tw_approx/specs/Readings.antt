-- What is read where some of it isn't written.
use Rattle.std.specs.Prelude.{List, [], ◌∷◌, Option, None, Some}
use Rattle.lf.specs.Syntax.{Skeleton}

-- What isn't written is taken from a list, in the order in which a text is gone over. A reading gives a value and what is left of the list; there is none
-- where the text has no value, or the list is too short.
abbrev pub Reading : Type 0 → Type 0
Reading A = Option (A × List Skeleton)

-- the next skeleton of the list
abbrev pub take : List Skeleton → Reading Skeleton
take [] = None
take (s ∷ o) = Some (s, o)

-- a value that takes nothing
abbrev pub found : {A : Type 0} → Option A → List Skeleton → Reading A
found None o = None
found (Some a) o = Some (a, o)

-- one reading behind another
abbrev pub and_then : {A B : Type 0} → Reading A → (A → List Skeleton → Reading B) → Reading B
and_then None f = None
and_then (Some (a, o)) f = f a o
