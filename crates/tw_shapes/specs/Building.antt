-- Shapes that are built from their leaves, from left to right.
use Rattle.std.specs.Prelude.{◌≡◌, ℕ, ◌+◌, ◌<◌, ◌≤◌, List, [], ◌∷◌, length, None}
use Rattle.lf.specs.Syntax.{Skeleton}
use Rattle.tw_shapes.specs.Shapes.{Shape, arrow, AllVariables, IsWithin, Solves, Store, filled, value_of}
use Rattle.tw_shapes.specs.Order.{length_of_walk, walk, walk_below}

-- an arrow whose domain is being built before this range; one whose range is being built behind this domain
pub data Begun : Type 0 where
  before : Shape → Begun
  behind : Shape → Begun

-- the whole shape, where this part is put into the arrows that are begun, the innermost in front
abbrev pub put_into : List Begun → Shape → Shape
put_into [] S = S
put_into (before T ∷ bs) S = put_into bs (arrow S T)
put_into (behind T ∷ bs) S = put_into bs (arrow T S)

-- what is to be done behind a part that is built
pub data Built : Type 0 where
  whole : Shape → Built
  next : Shape → Built

-- a part that is built put where it belongs
abbrev pub closed : List Begun → Shape → List Begun × Built
closed [] S = ([], whole S)
closed (before T ∷ bs) S = (behind S ∷ bs, next T)
closed (behind T ∷ bs) S = closed bs (arrow T S)

-- a fact of each variable of what is built
abbrev pub AllBuilt : (ℕ → Type 0) → List Begun → Type 0
AllBuilt P [] = Unit {0}
AllBuilt P (before T ∷ bs) = AllBuilt P bs
AllBuilt P (behind T ∷ bs) = AllVariables P T × AllBuilt P bs

-- and of what is to be built
abbrev pub AllLeft : (ℕ → Type 0) → List Begun → Type 0
AllLeft P [] = Unit {0}
AllLeft P (before T ∷ bs) = AllVariables P T × AllLeft P bs
AllLeft P (behind T ∷ bs) = AllLeft P bs

-- how far the walk over what is to be built goes
abbrev pub walk_left : (ℕ → ℕ) → List Begun → ℕ
walk_left r [] = 0
walk_left r (before T ∷ bs) = walk r T + walk_left r bs
walk_left r (behind T ∷ bs) = walk_left r bs

-- how far the walk over what is to be built goes that follows each bound variable
abbrev pub length_left : Store → List Begun → ℕ
length_left s bs = walk_left (walk_below s (length s.values)) bs

-- The leaf T of a shape S, with its bindings followed, and the arrows that are begun before it.
pub record IsLeaf (s : Store) (old : List Begun) (S : Shape) (new : List Begun) (T : Shape) : Type 0 where
  pub same : (θ : ℕ → Skeleton) → Solves θ s → filled θ (put_into new T) ≡ filled θ (put_into old S)
  pub free : AllVariables (λ n. value_of s n ≡ None) T
  pub built : AllBuilt (λ n. value_of s n ≡ None) old → AllBuilt (λ n. value_of s n ≡ None) new
  pub built_within : AllBuilt (λ n. n < length s.places) old → AllBuilt (λ n. n < length s.places) new
  pub left_within : AllLeft (λ n. n < length s.places) old → IsWithin (length s.places) S → AllLeft (λ n. n < length s.places) new × IsWithin (length s.places) T
  pub shorter : length_of_walk s T + length_left s new ≤ length_of_walk s S + length_left s old

-- how large a shape is, and what is to be built, where no binding is followed
abbrev pub size : Shape → ℕ
size S = walk (λ m. 0) S

abbrev pub size_left : List Begun → ℕ
size_left bs = walk_left (λ m. 0) bs
