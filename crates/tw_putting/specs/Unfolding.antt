-- Terms with values put in as far as their head.
use Rattle.std.specs.Prelude.{◌≡◌, ◌<◌, ℕ}
use Rattle.lf.specs.Depth.{depth, depth_limit}
use Rattle.lf.specs.Rules.{Reduces}
use Rattle.lf.specs.Subordination.{Member}
use Rattle.lf.specs.Syntax.{Skeleton, Spine, Term, constant, lambda, metavariable, rename, root, variable}
use Rattle.lf_closures.specs.Environments.{move_by, outside}
use Rattle.lf_unification.specs.OpenTyping.{skeletons_of}
use Rattle.lf_unification.specs.Putting.{PutsSome, Unbound}
use Rattle.lf_unification.specs.Rigid.{past_binders}
use Rattle.lf_unification.specs.Unifiers.{Binding}
use Rattle.tw_metas.specs.State.{State}
use Rattle.tw_putting.specs.Fits.{PutFits}
use Rattle.tw_putting.specs.Frames.{AppliesInFrame, Frame}
use Rattle.tw_putting.specs.Stores.{bindings_of, types_of}

-- the term N, moved over k binders, has the skeleton a in a frame, and takes all the arguments S
pub record AppliesUnder (k : ℕ) (a : Skeleton) (N : Term) (S : Spine) : Type 0 where
  pub frame : Frame
  pub applies : AppliesInFrame frame a N (move_by k outside) S outside

-- R is the term M with the value of its head, which is bound, in the place of the head
pub record UnfoldsTo (s : State) (k : ℕ) (M R : Term) : Type 0 where
  pub binding : Binding
  pub arguments : Spine
  pub bound : Member binding (bindings_of s)
  pub is : M ≡ root (metavariable binding.of) arguments
  pub reduces : Reduces (skeletons_of (types_of s) binding.of) (rename (past_binders k) binding.value) arguments R
  pub fits : PutFits s k R

-- the term is a lambda, or its head isn't bound
abbrev pub HeadStays : State → Term → Type 0
HeadStays s (lambda M) = Unit {0}
HeadStays s (root (constant c) S) = Unit {0}
HeadStays s (root (variable i) S) = Unit {0}
HeadStays s (root (metavariable m) S) = Unbound (bindings_of s) m

-- N is M with some values put in
abbrev pub PutsPart : State → ℕ → Term → Term → Type 0
PutsPart s k M N = PutsSome (types_of s) (bindings_of s) k M N

-- with some values put in, the head of M is the constant c
abbrev pub BecomesConstant : State → ℕ → Term → ℕ → Type 0
BecomesConstant s k M c = (S : Spine) × PutsPart s k M (root (constant c) S)

-- they are put in as far as the head
abbrev pub Unfolds : State → ℕ → Term → Term → Type 0
Unfolds s k M N = PutsPart s k M N × HeadStays s N

-- what they give so is deeper than 4,096
abbrev pub UnfoldsDeep : State → ℕ → Term → Type 0
UnfoldsDeep s k M = (N : Term) × PutsPart s k M N × (depth_limit < depth N)
