-- What stays from call to call.
use Rattle.std.specs.Prelude.{ℕ, ◌≤◌, Bool}
use Rattle.lf.specs.Syntax.{Skeleton}
use Rattle.tw_shapes.specs.Shapes.{Shape, IsWithin, Store, Unifies, OnlyNarrows, IsAlways}

-- A shape of some variables is one of more variables.
abbrev pub StaysWithin : Type 0
StaysWithin = (m n : ℕ) (S : Shape) → m ≤ n → IsWithin m S → IsWithin n S

-- Whatever unification answers, each solution that there is after it was one before.
abbrev pub UnifyingNarrows : Type 0
UnifyingNarrows = (old new : Store) (S T : Shape) (answer : Bool) → Unifies old new S T answer → OnlyNarrows old new

-- Where solutions only narrow, the skeleton that a shape is in each of them stays.
abbrev pub SkeletonStays : Type 0
SkeletonStays = (old new : Store) (S : Shape) (k : Skeleton) → OnlyNarrows old new → IsAlways old S k → IsAlways new S k
