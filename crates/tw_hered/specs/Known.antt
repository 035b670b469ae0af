-- Known skeletons of constants, by number.
use Rattle.std.specs.Prelude.{List, None, slice_get}
use Rattle.lf.specs.Syntax.{Skeleton}
use Rattle.lf.specs.SkeletonTyping.{HeadSkeletons}

-- no metavariable has one
abbrev pub heads_of : List Skeleton → HeadSkeletons
heads_of cs = record { constant_skeleton = λ c. slice_get cs c; metavariable_skeleton = λ m. None }
