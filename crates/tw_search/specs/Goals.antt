-- A goal of a state of the store, and the heads that can be offered to it; the nodes and the agendas of goals.
use Rattle.std.specs.Prelude.{◌≡◌, ◌⊎◌, ℕ, List, [], ◌∷◌, length, Option, None, Some, map, reverse}
use Rattle.lf.specs.Subordination.{Member}
use Rattle.lf.specs.Syntax.{Head, LfType, Spine, atom, nil, skeleton}
use Rattle.lf.specs.Typing.{Signature}
use Rattle.lf.specs.Variables.{target_arguments}
use Rattle.lf_unification.specs.Lists.{followed}
use Rattle.lf_unification.specs.Offering.{pi_over}
use Rattle.lf_unification.specs.Patterns.{skeleton_target}
use Rattle.lf_unification.specs.Putting.{Unbound}
use Rattle.lf_unification.specs.Reach.{IsReached}
use Rattle.lf_unification.specs.Search.{IsNode, Node, OfferedHeadHasType, Pending, at_heads}
use Rattle.lf_unification.specs.Solving.{AllLeftOver}
use Rattle.lf_unification.specs.Unifiers.{Equation}
use Rattle.tw_metas.specs.State.{State}
use Rattle.tw_putting.specs.Ready.{IsReady}
use Rattle.tw_putting.specs.Stores.{bindings_of, types_of}
use Rattle.tw_putting.specs.Whole.{whole}
use Rattle.tw_terms.specs.declared.canonical.MetaId.{MetaId}
use Rattle.tw_search.specs.declared.goal.OpenGoal.{OpenGoal}

-- there is such a metavariable
abbrev pub IsDeclared : State → ℕ → Type 0
IsDeclared s m = (A : LfType) × (types_of s m ≡ Some A)

-- the arguments of the target of the type, where there is one
abbrev pub arguments_in : Option LfType → Spine
arguments_in None = nil
arguments_in (Some A) = target_arguments A

-- the indices of the goal of the hole m
abbrev pub indices_of : State → ℕ → Spine
indices_of s m = arguments_in (types_of s m)

-- the type of the goal's hole
abbrev pub goal_type : State → OpenGoal → LfType
goal_type s g = pi_over g.locals (atom g.family.0 (indices_of s g.hole.0))

-- the goal of the hole m
pub record IsOpened (s : State) (m : ℕ) (g : OpenGoal) : Type 0 where
  pub hole : g.hole.0 ≡ m
  pub declared : types_of s m ≡ Some (goal_type s g)

-- the node of a state of the store, with these goals
abbrev pub node_of : State → List ℕ → Node
node_of s gs = record { store = whole [] s; next = length s.declared; goals = gs }

-- Each equation that is postponed is left over: it is outside the pattern fragment with the bindings put in.
abbrev pub AreLeft : State → Type 0
AreLeft s = (given : ℕ → Option LfType) × AllLeftOver given (whole [] s) s.equations

-- the metavariable is reached from no equation that is postponed, through types and values
abbrev pub IsUnreached : State → ℕ → Type 0
IsUnreached s m = (e : Equation) → Member e s.equations → IsReached (types_of s) (bindings_of s) e.left m ⊎ IsReached (types_of s) (bindings_of s) e.right m → ⊥

-- The store is ready, and the goal's hole isn't bound. The postponed equations are left over, and do not hang on the hole.
pub record StandsAtGoal (Σ : Signature) (s : State) (g : OpenGoal) : Type 0 where
  pub ready : IsReady Σ [] s
  pub node : IsNode Σ (node_of s [])
  pub declared : types_of s g.hole.0 ≡ Some (goal_type s g)
  pub unbound : Unbound (bindings_of s) g.hole.0
  pub left : AreLeft s
  pub unreached : IsUnreached s g.hole.0

-- the head has a type whose target is the goal's family
pub record IsHeadFor (Σ : Signature) (g : OpenGoal) (h : Head) : Type 0 where
  pub head_type : LfType
  pub typed : OfferedHeadHasType Σ g.locals h head_type
  pub target : skeleton_target (skeleton head_type) ≡ g.family.0

-- the heads that are still to be tried at a goal, in front of the rest of the agenda
abbrev pub at_goal : State → OpenGoal → List ℕ → List Head → List Pending → List Pending
at_goal s g gs hs rest = at_heads (node_of s (g.hole.0 ∷ gs)) g.hole.0 gs g.locals g.family.0 (indices_of s g.hole.0) hs ∷ rest

-- the node of a child, with the holes of its subgoals in front of the goals that were left
abbrev pub child_node : State → List MetaId → List ℕ → Node
child_node s subgoals gs = node_of s (followed (reverse (map (λ m. m.0) subgoals)) gs)
