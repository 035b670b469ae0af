-- The types of the arguments that a type takes.
use Rattle.std.specs.Prelude.{ℕ, ◌<◌, ◌⊎◌, List, [], ◌∷◌, Option}
use Rattle.lf.specs.Depth.{type_depth}
use Rattle.lf.specs.SkeletonTyping.{HeadSkeletons, SpineSkeleton, TypeBySkeletons}
use Rattle.lf.specs.Syntax.{LfType, Skeleton, Spine, app, atom, nil, pi, skeleton}
use Rattle.lf.specs.Typing.{instantiate_type}

-- The types of the arguments, the first one's first. Of {x:n} v x -> n on z and e these are n and v z.
abbrev pub domains : LfType → Spine → List LfType
domains (pi A B) (app M S) = A ∷ domains (instantiate_type A M B) S
domains (pi A B) nil = []
domains (atom a T) S = []

-- one of the types is deeper than k
abbrev pub AnyDeep : ℕ → List LfType → Type 0
AnyDeep k [] = ⊥
AnyDeep k (A ∷ As) = (k < type_depth A) ⊎ AnyDeep k As

-- how deep a type comes out, as one of these or with a term put in for its newest variable, before it counts as too deep
abbrev pub most_levels : ℕ
most_levels = 8500

-- skeletons type a type, and a spine that it takes
pub record TakesArguments (A : LfType) (S : Spine) : Type 0 where
  pub families : ℕ → Option Skeleton
  pub heads : HeadSkeletons
  pub context : List Skeleton
  pub result : Skeleton
  pub type_typed : TypeBySkeletons families heads context A
  pub spine_typed : SpineSkeleton heads context S (skeleton A) result
