-- The skeletons of a signature and of a context.
use Rattle.std.specs.Prelude.{ℕ, List, [], ◌∷◌, Option, Some, None}
use Rattle.lf.specs.Syntax.{LfType, Kind, Skeleton, skeleton, kind_skeleton}
use Rattle.lf.specs.SkeletonTyping.{HeadSkeletons}
use Rattle.lf.specs.Typing.{Signature}

-- of a declared type, and of the kind of a family
abbrev pub type_skeleton : Option LfType → Option Skeleton
type_skeleton (Some A) = Some (skeleton A)
type_skeleton None = None

abbrev pub family_skeleton : ℕ → Option Kind → Option Skeleton
family_skeleton a (Some K) = Some (kind_skeleton a K)
family_skeleton a None = None

-- the skeletons of the constants of a signature, and of metavariables whose skeletons `μ` gives
abbrev pub signature_skeletons : Signature → (ℕ → Option Skeleton) → HeadSkeletons
signature_skeletons Σ μ = record { constant_skeleton = λ c. type_skeleton (Σ.types c); metavariable_skeleton = μ }

-- what is typed has no metavariables
abbrev pub constant_skeletons : Signature → HeadSkeletons
constant_skeletons Σ = signature_skeletons Σ (λ m. None)

-- the skeletons of the families of a signature
abbrev pub family_skeletons : Signature → ℕ → Option Skeleton
family_skeletons Σ a = family_skeleton a (Σ.kinds a)

-- the skeletons of the variables of a context
abbrev pub context_skeletons : List LfType → List Skeleton
context_skeletons [] = []
context_skeletons (A ∷ G) = skeleton A ∷ context_skeletons G
