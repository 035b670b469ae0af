-- Equations between two lambdas, and between two rigid roots.
use Rattle.std.specs.Prelude.{◌≡◌, ℕ, List, [], ◌∷◌, Option}
use Rattle.lf.specs.SkeletonTyping.{HeadSkeleton, SpineSkeleton, TermSkeleton, TypeBySkeletons}
use Rattle.lf.specs.Skeletons.{family_skeletons}
use Rattle.lf.specs.Syntax.{Head, LfType, Skeleton, Spine, Term, app, atom, lambda, nil, pi, root, skeleton}
use Rattle.lf.specs.Typing.{Signature}
use Rattle.lf_unification.specs.Lists.{followed}
use Rattle.lf_unification.specs.Offering.{argument_equations}
use Rattle.lf_unification.specs.OpenTyping.{OpenHeadHasType}
use Rattle.lf_unification.specs.Outside.{IsLambda}
use Rattle.lf_unification.specs.Patterns.{local_skeletons}
use Rattle.lf_unification.specs.Putting.{IsRigidHead}
use Rattle.lf_unification.specs.Unifiers.{Equation}
use Rattle.tw_putting.specs.Domains.{AnyDeep, domains, most_levels}
use Rattle.tw_putting.specs.Fits.{declared_skeletons}
use Rattle.tw_putting.specs.Ready.{LocalsBySkeletons}
use Rattle.tw_unify.specs.Sides.{RootsHaveShape}
use Rattle.tw_unify.specs.declared.fault.UnifyFault.{UnifyFault}
use Rattle.tw_unify.specs.declared.fault.UnifyFault.TheVariants.{TooDeep, NoMemory}
use Rattle.tw_unify.specs.declared.sides.Shape.TheVariants as shape

-- the head is a constant or variable of this type
abbrev pub RigidHeadHasType : Signature → List LfType → Head → LfType → Type 0
RigidHeadHasType Σ D h A = IsRigidHead h × ((Ψ : ℕ → Option LfType) → OpenHeadHasType Σ [] Ψ (λ β. Unit {0}) D h A)

-- the equation e of two lambdas, in front of `old`, is opened
pub record Opens (e : Equation) (old new : List Equation) : Type 0 where
  pub left : Term
  pub right : Term
  pub domain : LfType
  pub range : LfType
  pub is : e ≡ record { local = e.local; left = lambda left; right = lambda right; of_type = pi domain range }
  pub gives : new ≡ record { local = domain ∷ e.local; left = left; right = right; of_type = range } ∷ old

-- the term is a root
abbrev pub IsRoot : Term → Type 0
IsRoot (lambda M) = ⊥
IsRoot (root h S) = Unit {0}

-- the type is one of functions
abbrev pub IsPi : LfType → Type 0
IsPi (pi A B) = Unit {0}
IsPi (atom a S) = ⊥

-- the sides are lambdas, and their type one of functions
pub record AreLambdas (e : Equation) : Type 0 where
  pub left_is : IsLambda e.left
  pub right_is : IsLambda e.right
  pub type_is : IsPi e.of_type

-- the sides are roots with one constant or variable as their heads
abbrev pub AreAlike : Equation → Type 0
AreAlike e = RootsHaveShape e.left e.right shape.Alike

-- the equations of the arguments, of these types, in order
abbrev pub equations_of : List LfType → List LfType → Spine → Spine → List Equation
equations_of D (A ∷ As) (app M S) (app N T) = record { local = D; left = M; right = N; of_type = A } ∷ equations_of D As S T
equations_of D (A ∷ As) (app M S) nil = []
equations_of D (A ∷ As) nil T = []
equations_of D [] S T = []

-- a constant or variable has a skeleton in the local context
pub record HeadFits (Σ : Signature) (D : List LfType) (h : Head) : Type 0 where
  pub rigid : IsRigidHead h
  pub declared : ℕ → Option LfType
  pub head_skeleton : Skeleton
  pub head_typed : HeadSkeleton (declared_skeletons Σ declared) (local_skeletons D []) h head_skeleton

-- skeletons type a type in the local context, and a spine that it takes to a family
pub record ArgumentsFit (D : List LfType) (A : LfType) (S : Spine) : Type 0 where
  pub signature : Signature
  pub declared : ℕ → Option LfType
  pub result : Skeleton
  pub type_typed : TypeBySkeletons (family_skeletons signature) (declared_skeletons signature declared) (local_skeletons D []) A
  pub spine_typed : SpineSkeleton (declared_skeletons signature declared) (local_skeletons D []) S (skeleton A) result

-- skeletons type the local context and the left side of the equation
pub record LeftFits (Σ : Signature) (e : Equation) : Type 0 where
  pub declared : ℕ → Option LfType
  pub locals : LocalsBySkeletons Σ declared e.local
  pub left_typed : TermSkeleton (declared_skeletons Σ declared) (local_skeletons e.local []) e.left (skeleton e.of_type)

-- the term is a root on these arguments
abbrev pub HasArguments : Term → Spine → Type 0
HasArguments M S = (h : Head) × (M ≡ root h S)

-- the term is a root with this head
abbrev pub HasHead : Term → Head → Type 0
HasHead M h = (S : Spine) × (M ≡ root h S)

-- both sides of the equation are roots of one family, and A is the type of their head, which is one constant or variable
pub record HasFunction (Σ : Signature) (e : Equation) (A : LfType) : Type 0 where
  pub head : Head
  pub left : Spine
  pub right : Spine
  pub family : ℕ
  pub indices : Spine
  pub typed : RigidHeadHasType Σ e.local head A
  pub left_is : e.left ≡ root head left
  pub right_is : e.right ≡ root head right
  pub type_is : e.of_type ≡ atom family indices

-- the type of an argument of the left side is too deep
abbrev pub BlamesArguments : UnifyFault → Signature → Equation → Type 0
BlamesArguments TooDeep Σ e = (A : LfType) × (f : HasFunction Σ e A) × AnyDeep most_levels (domains A f.left)
BlamesArguments NoMemory Σ e = Unit {0}

-- the equation e of two roots with one rigid head, in front of `old`, is replaced by those of the arguments
pub record Decomposes (Σ : Signature) (e : Equation) (old new : List Equation) : Type 0 where
  pub head : Head
  pub head_type : LfType
  pub left : Spine
  pub right : Spine
  pub family : ℕ
  pub indices : Spine
  pub typed : RigidHeadHasType Σ e.local head head_type
  pub is : e ≡ record { local = e.local; left = root head left; right = root head right; of_type = atom family indices }
  pub gives : new ≡ followed (argument_equations e.local head_type left right) old
