-- What a try comes to, between the states of the store before and after.
use Rattle.std.specs.Prelude.{◌≡◌, ℕ, List, [], Option, Some, None, length, map, reverse}
use Rattle.std.specs.Global.{Global}
use Rattle.std.specs.Prelude.{Vec}
use Rattle.lf.specs.Depth.{depth_limit}
use Rattle.lf.specs.Syntax.{Head, LfType}
use Rattle.lf.specs.Typing.{Signature}
use Rattle.lf_unification.specs.DeepEquations.{AreDeep}
use Rattle.lf_unification.specs.Search.{IsChild, Offer, holes}
use Rattle.lf_unification.specs.Solving.{Never}
use Rattle.lf_unification.specs.Unifiers.{Store}
use Rattle.lf_unification.specs.ReachedRuns.{RunRenewsReached}
use Rattle.tw_metas.specs.State.{State}
use Rattle.tw_putting.specs.Ready.{IsReady}
use Rattle.tw_putting.specs.Whole.{whole}
use Rattle.tw_terms.specs.declared.canonical.MetaId.{MetaId}
use Rattle.tw_unify.specs.declared.fault.UnifyFault.{UnifyFault}
use Rattle.tw_unify.specs.declared.fault.UnifyFault.TheVariants.{TooDeep, NoMemory}
use Rattle.tw_search.specs.Goals.{indices_of, node_of}
use Rattle.tw_search.specs.declared.goal.OpenGoal.{OpenGoal}

-- the head's offer to the goal, from a state of the store
pub record HasOffer (Σ : Signature) (s : State) (g : OpenGoal) (h : Head) : Type 0 where
  pub head_type : LfType
  pub offered : Store
  pub next : ℕ
  pub offer : Offer Σ (node_of s []) g.hole.0 g.locals g.family.0 (indices_of s g.hole.0) h head_type offered next

-- what is offered has no typed unifier
pub record NeverFits (Σ : Signature) (s : State) (g : OpenGoal) (h : Head) : Type 0 where
  pub has : HasOffer Σ s g h
  pub never : Never Σ [] has.offered

-- The try gives a child, which holds in the state `new`; `subgoals` are the holes of the head's subgoals, in the order of its quantifiers. Its
-- steps renew only what is reached from an equation.
pub record GivesChild (Σ : Signature) (old : State) (g : OpenGoal) (h : Head) (subgoals : List MetaId) (new : State) : Type 0 where
  pub has : HasOffer Σ old g h
  pub child : IsChild Σ has.offered (whole [] new)
  pub renews : RunRenewsReached child.run
  pub ready : IsReady Σ [] new
  pub subgoals_are : reverse (map (λ m. m.0) subgoals) ≡ holes (length old.declared) has.head_type

abbrev pub IsTried : Signature → State → OpenGoal → Head → Option (Vec MetaId Global) → State → Type 0
IsTried Σ old g h None new = NeverFits Σ old g h
IsTried Σ old g h (Some subgoals) new = GivesChild Σ old g h subgoals.items new

-- the equations of the store with those of the head are deep
pub record OfferIsDeep (Σ : Signature) (s : State) (g : OpenGoal) (h : Head) : Type 0 where
  pub has : HasOffer Σ s g h
  pub deep : AreDeep depth_limit Σ has.offered

abbrev pub TriesDeep : UnifyFault → Signature → State → OpenGoal → Head → Type 0
TriesDeep TooDeep Σ s g h = OfferIsDeep Σ s g h
TriesDeep NoMemory Σ s g h = Unit {0}
