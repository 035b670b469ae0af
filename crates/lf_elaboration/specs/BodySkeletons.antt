-- What has a completion has skeletons: those of the types that complete it.
use Rattle.std.specs.Prelude.{ℕ, List, [], ◌∷◌}
use Rattle.lf.specs.Entries.{Entry}
use Rattle.lf.specs.Syntax.{Skeleton, arrow, base}
use Rattle.lf_elaboration.specs.Principal.{Completion, IsCompletion, WrittenBody, written_constant, written_definition, written_definition_of, written_family}
use Rattle.lf_elaboration.specs.WrittenSkeletons.{KindHasSkeleton, WrittenHasSkeleton, WrittenTypeHasSkeleton}

-- the skeleton of a kind that is due these arguments, of the family a
abbrev pub due_skeleton : List Skeleton → ℕ → Skeleton
due_skeleton [] a = base a
due_skeleton (s ∷ ss) a = arrow s (due_skeleton ss a)

-- the skeletons of what is written, where the free variables have the skeletons ts: of a family's kind whatever the family
abbrev pub BodyHasSkeletons : List Entry → List Skeleton → WrittenBody → Type 0
BodyHasSkeletons es ts (written_family k) = (ds : List Skeleton) × ((a : ℕ) → KindHasSkeleton es ts [] k a (due_skeleton ds a))
BodyHasSkeletons es ts (written_constant U) = (s : Skeleton) × WrittenTypeHasSkeleton es ts [] U s
BodyHasSkeletons es ts (written_definition M b) = (s : Skeleton) × WrittenHasSkeleton es ts [] M s
BodyHasSkeletons es ts (written_definition_of M U b) = (s : Skeleton) × WrittenTypeHasSkeleton es ts [] U s × WrittenHasSkeleton es ts [] M s

-- What is written and has a completion has skeletons. So where it has none, as `s z` where z is no argument of s, nothing completes it.
abbrev pub CompletedHasSkeletons : Type 0
CompletedHasSkeletons = (es : List Entry) (ts : List Skeleton) (w : WrittenBody) (c : Completion) → IsCompletion es ts w c → BodyHasSkeletons es ts w
