-- What recognizing a pattern means.
use Rattle.std.specs.Prelude.{◌≡◌, ℕ, List, length, Option, Some}
use Rattle.lf.specs.SkeletonTyping.{HeadSkeletons, SpineSkeleton}
use Rattle.lf.specs.Syntax.{LfType, Skeleton, Spine, base}
use Rattle.lf_unification.specs.Patterns.{local_skeletons, pattern}
use Rattle.tw_prune.specs.Standing.{StandsIn}

-- In each local context of `inner` variables, where the spine takes a skeleton to a base, it is a pattern of the variables xs.
abbrev pub IsPatternOf : ℕ → Spine → List ℕ → Type 0
IsPatternOf inner S xs = (κ : HeadSkeletons) (D : List LfType) (outer : List Skeleton) (t : Skeleton) (c : ℕ) → length D ≡ inner → SpineSkeleton κ (local_skeletons D outer) S t (base c) → (S ≡ pattern t xs) × StandsIn inner D t xs

-- Where the spine is a pattern in a local context of `inner` variables, the answer has its variables.
abbrev pub HasEachPattern : ℕ → Spine → Option (List ℕ) → Type 0
HasEachPattern inner S answer = (D : List LfType) (t : Skeleton) (ys : List ℕ) → StandsIn inner D t ys → S ≡ pattern t ys → answer ≡ Some ys
