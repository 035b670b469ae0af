-- What is shown has skeletons: so substitution is total on it. What is typed has them.
use Rattle.std.specs.Prelude.{List, [], ◌∷◌, Option, Some, None}
use Rattle.lf.specs.Syntax.{Term, lambda, root, Spine, nil, app, LfType, pi, atom, Kind, Skeleton, skeleton}
use Rattle.lf.specs.Skeletons.{constant_skeletons, family_skeletons, context_skeletons}
use Rattle.lf.specs.SkeletonTyping.{TermSkeleton, TypeBySkeletons, KindBySkeletons}
use Rattle.lf.specs.Substitution.{single}
use Rattle.lf.specs.Typing.{Signature, instantiate_type}
use Rattle.tw_hered.specs.Fits.{TypeFits}
use Rattle.tw_print.specs.Arguments.{Argument}

-- a term of this skeleton, a type and a kind, in a context
abbrev pub HasSkeleton : Signature → List LfType → Term → Skeleton → Type 0
HasSkeleton Σ G M t = TermSkeleton (constant_skeletons Σ) (context_skeletons G) M t

abbrev pub IsShowableType : Signature → List LfType → LfType → Type 0
IsShowableType Σ G A = TypeBySkeletons (family_skeletons Σ) (constant_skeletons Σ) (context_skeletons G) A

abbrev pub IsShowableKind : Signature → List LfType → Kind → Type 0
IsShowableKind Σ G K = KindBySkeletons (family_skeletons Σ) (constant_skeletons Σ) (context_skeletons G) K

-- each type in the part of the context before it
abbrev pub IsShowableContext : Signature → List LfType → Type 0
IsShowableContext Σ [] = Unit {0}
IsShowableContext Σ (A ∷ G) = IsShowableContext Σ G × IsShowableType Σ G A

-- a root has some skeleton, and a lambda that of the type that it is shown by
abbrev pub IsShowable : Signature → List LfType → Term → Option LfType → Type 0
IsShowable Σ G (root h S) t = (a : Skeleton) × HasSkeleton Σ G (root h S) a
IsShowable Σ G (lambda M) (Some A) = IsShowableType Σ G A × HasSkeleton Σ G (lambda M) (skeleton A)
IsShowable Σ G (lambda M) None = ⊥

abbrev pub AreShowable : Signature → List LfType → List Argument → Type 0
AreShowable Σ G [] = Unit {0}
AreShowable Σ G (a ∷ xs) = IsShowable Σ G a.0 a.1 × AreShowable Σ G xs

-- a type takes the arguments of a spine, each of the domain that is left
abbrev pub Takes : Signature → List LfType → Spine → LfType → Type 0
Takes Σ G nil T = Unit {0}
Takes Σ G (app M S) (pi A B) = IsShowableType Σ G A × HasSkeleton Σ G M (skeleton A) × TypeFits (single (skeleton A) M) B × Takes Σ G S (instantiate_type A M B)
Takes Σ G (app M S) (atom a T) = ⊥
