-- The sides of an equation, with the bindings put in.
use Rattle.std.specs.Prelude.{◌≡◌, ℕ, List, [], ◌∷◌, ◌⊎◌}
use Rattle.lf.specs.SkeletonTyping.{TermSkeleton}
use Rattle.lf.specs.Subordination.{Member}
use Rattle.lf.specs.Syntax.{Head, Spine, Term, constant, metavariable, root, skeleton, variable}
use Rattle.lf.specs.Typing.{Signature}
use Rattle.lf_unification.specs.OpenTyping.{MetavariablesIn}
use Rattle.lf_unification.specs.Outside.{IsLambda, Outside}
use Rattle.lf_unification.specs.Patterns.{local_skeletons}
use Rattle.lf_unification.specs.Putting.{IsRigidHead, Unbound, binders}
use Rattle.lf_unification.specs.Unifiers.{Equation}
use Rattle.tw_metas.specs.State.{State}
use Rattle.tw_putting.specs.Fits.{PutFits, StoreBySkeletons, declared_skeletons}
use Rattle.tw_putting.specs.Stores.{Puts, PutsDeep, bindings_of, types_of}
use Rattle.tw_putting.specs.Unfolding.{BecomesConstant, HeadStays, PutsPart, UnfoldsDeep}
use Rattle.tw_putting.specs.Ready.{LocalsBySkeletons}
use Rattle.tw_putting.specs.Whole.{IsConsistent}
use Rattle.tw_unify.specs.declared.fault.UnifyFault.{UnifyFault}
use Rattle.tw_unify.specs.declared.fault.UnifyFault.TheVariants.{TooDeep, NoMemory}
use Rattle.tw_unify.specs.declared.sides.Shape.{Shape}
use Rattle.tw_unify.specs.declared.sides.Shape.TheVariants as shape

-- skeletons type the equation in the state, and the state's values
pub record EquationFits (Σ : Signature) (s : State) (e : Equation) : Type 0 where
  pub consistent : IsConsistent s
  pub store_typed : StoreBySkeletons Σ [] s
  pub locals : LocalsBySkeletons Σ (types_of s) e.local
  pub left_typed : TermSkeleton (declared_skeletons Σ (types_of s)) (local_skeletons e.local []) e.left (skeleton e.of_type)
  pub right_typed : TermSkeleton (declared_skeletons Σ (types_of s)) (local_skeletons e.local []) e.right (skeleton e.of_type)

-- the bindings can be put into both sides
abbrev pub SidesCanTake : State → Equation → Type 0
SidesCanTake s e = PutFits s (binders e.local) e.left × PutFits s (binders e.local) e.right

-- M and N are the sides of e with the bindings put in
abbrev pub PutsBoth : State → Equation → Term → Term → Type 0
PutsBoth s e M N = Puts s (binders e.local) e.left M × Puts s (binders e.local) e.right N

-- putting them into one side meets something deep
abbrev pub BlamesSide : UnifyFault → State → ℕ → Term → Type 0
BlamesSide TooDeep s k M = PutsDeep s k M
BlamesSide NoMemory s k M = Unit {0}

-- putting them in meets something deep
abbrev pub BlamesDepth : UnifyFault → State → Equation → Type 0
BlamesDepth TooDeep s e = PutsDeep s (binders e.local) e.left ⊎ PutsDeep s (binders e.local) e.right
BlamesDepth NoMemory s e = Unit {0}

abbrev pub IsMetavariable : Head → Type 0
IsMetavariable (constant c) = ⊥
IsMetavariable (variable i) = ⊥
IsMetavariable (metavariable m) = Unit {0}

-- what is said of two heads
abbrev pub HeadsHaveShape : Head → Head → Shape → Type 0
HeadsHaveShape h k shape.Lambdas = ⊥
HeadsHaveShape h k shape.Alike = (h ≡ k) × IsRigidHead h
HeadsHaveShape h k shape.Apart = (h ≡ k → ⊥) × IsRigidHead h × IsRigidHead k
HeadsHaveShape h k shape.Flexible = IsMetavariable h ⊎ IsMetavariable k
HeadsHaveShape h k shape.Mixed = ⊥

-- two roots, and what is said of their heads
pub record RootsHaveShape (M N : Term) (v : Shape) : Type 0 where
  pub head : Head
  pub other : Head
  pub left : Spine
  pub right : Spine
  pub left_is : M ≡ root head left
  pub right_is : N ≡ root other right
  pub heads : HeadsHaveShape head other v

-- what is said of two sides
abbrev pub HaveShape : Term → Term → Shape → Type 0
HaveShape M N shape.Lambdas = IsLambda M × IsLambda N
HaveShape M N shape.Alike = RootsHaveShape M N shape.Alike
HaveShape M N shape.Apart = RootsHaveShape M N shape.Apart
HaveShape M N shape.Flexible = RootsHaveShape M N shape.Flexible
HaveShape M N shape.Mixed = (IsLambda M × (IsLambda N → ⊥)) ⊎ ((IsLambda M → ⊥) × IsLambda N)

-- the equation of the sides M and N, in the place of e
abbrev pub with_sides : Equation → Term → Term → Equation
with_sides e M N = record { local = e.local; left = M; right = N; of_type = e.of_type }

-- With the bindings put into the sides the equation is outside the pattern fragment.
pub record IsLeft (s : State) (e : Equation) : Type 0 where
  pub left : Term
  pub right : Term
  pub puts : PutsBoth s e left right
  pub outside : Outside (types_of s) (bindings_of s) (with_sides e left right)

-- each equation of a list
abbrev pub AllLeft : State → List Equation → Type 0
AllLeft s [] = Unit {0}
AllLeft s (e ∷ es) = IsLeft s e × AllLeft s es

-- no head of a side is bound
abbrev pub HeadsStay : State → Equation → Type 0
HeadsStay s e = HeadStays s e.left × HeadStays s e.right

-- with some values put in, the heads of the sides are different constants
pub record BecomeApart (s : State) (e : Equation) : Type 0 where
  pub left : ℕ
  pub right : ℕ
  pub left_becomes : BecomesConstant s (binders e.local) e.left left
  pub right_becomes : BecomesConstant s (binders e.local) e.right right
  pub differ : left ≡ right → ⊥

-- f is the equation e with values put into its sides as far as their heads
pub record UnfoldsBoth (s : State) (e f : Equation) : Type 0 where
  pub left : PutsPart s (binders e.local) e.left f.left
  pub right : PutsPart s (binders e.local) e.right f.right
  pub is : f ≡ with_sides e f.left f.right
  pub stay : HeadsStay s f

-- f is the equation e with the bindings put into its sides
pub record PutsAll (s : State) (e f : Equation) : Type 0 where
  pub puts : PutsBoth s e f.left f.right
  pub is : f ≡ with_sides e f.left f.right

-- the sides are two roots, and the head of one is a metavariable
abbrev pub IsFlexibleEquation : Equation → Type 0
IsFlexibleEquation e = RootsHaveShape e.left e.right shape.Flexible

-- what a side becomes so is deep
abbrev pub BlamesUnfolding : UnifyFault → State → Equation → Type 0
BlamesUnfolding TooDeep s e = UnfoldsDeep s (binders e.local) e.left ⊎ UnfoldsDeep s (binders e.local) e.right
BlamesUnfolding NoMemory s e = Unit {0}

-- no bound metavariable stands in the sides
abbrev pub SidesUnbound : State → Equation → Type 0
SidesUnbound s e = MetavariablesIn (Unbound (bindings_of s)) e.left × MetavariablesIn (Unbound (bindings_of s)) e.right

-- the bindings can be put into the sides, and skeletons type what they give
pub record MayBeLeft (s : State) (e : Equation) : Type 0 where
  pub signature : Signature
  pub takes : SidesCanTake s e
  pub shown : (M N : Term) → PutsBoth s e M N → EquationFits signature s (with_sides e M N)

-- each equation of a list
abbrev pub AllMayBeLeft : State → List Equation → Type 0
AllMayBeLeft s [] = Unit {0}
AllMayBeLeft s (e ∷ es) = MayBeLeft s e × AllMayBeLeft s es

-- one of the equations is deep
abbrev pub BlamesSome : UnifyFault → State → List Equation → Type 0
BlamesSome TooDeep s es = (e : Equation) × Member e es × (PutsDeep s (binders e.local) e.left ⊎ PutsDeep s (binders e.local) e.right)
BlamesSome NoMemory s es = Unit {0}
