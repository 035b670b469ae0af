-- When a split, and a run of the strategy, stops at an equation outside the pattern fragment.
use Rattle.std.specs.Prelude.{◌≡◌, ℕ, List, Bool, Some}
use Rattle.lf.specs.Syntax.{Kind, LfType}
use Rattle.lf.specs.Typing.{Signature, TypeAt}
use Rattle.lf.specs.Variables.{target}
use Rattle.lf.specs.Subordination.{Block, Member}
use Rattle.lf_unification.specs.Solving.{Left, LeftOver}
use Rattle.lf_unification.specs.Unifiers.{Equation, Store}
use Rattle.lf_cases.specs.Case.{Case, items_context}
use Rattle.lf_cases.specs.Pattern.{Pattern}
use Rattle.lf_cases.specs.Split.{HasNoBlockVariable}
use Rattle.lf_cases.specs.Reached.{SplitHead, IsInstanceOf, FirstCandidate, Reached}
use Rattle.lf_coverage.specs.HeadOrder.{Offer}
use Rattle.lf_coverage.specs.SplitStore.{split_store}

-- The split of x in C leaves this equation: for one of the heads unification solves all but equations outside the pattern fragment, and this is one
-- of those that are left, with the bindings put in.
pub record SplitLeaves (Σ : Signature) (W : List Block) (below : ℕ → ℕ → Bool) (C : Case) (x : ℕ) (shown : Equation) : Type 0 where
  pub type : LfType
  pub at : TypeAt (items_context C.items) x type
  pub offer : Offer
  pub is_head : SplitHead Σ W C.items type offer.items offer.moved offer.head offer.type
  pub no_block : HasNoBlockVariable offer.items
  pub kind : Kind
  pub of_family : Σ.kinds (target type) ≡ Some kind
  pub after : Store
  pub left : Left Σ (split_store below x type offer.items offer.moved offer.head offer.type kind) after
  pub equation : Equation
  pub listed : Member equation after.equations
  pub left_over : LeftOver (split_store below x type offer.items offer.moved offer.head offer.type kind).metavariables after equation
  pub is_shown : shown ≡ left_over.shown

-- A run stops outside: it reaches the case C, an instance of no pattern, whose split at the first candidate leaves this equation.
pub record RunLeaves (Σ : Signature) (W : List Block) (Open : Case → Pattern → Type 0) (below : ℕ → ℕ → Bool) (ps : List Pattern) (goal C : Case) (shown : Equation) : Type 0 where
  pub reached : Reached Σ W Open below ps goal C
  pub no_instance : (p : Pattern) → Member p ps → IsInstanceOf Σ W C p → ⊥
  pub candidate : ℕ
  pub is_first : FirstCandidate Σ W Open C candidate ps
  pub leaves : SplitLeaves Σ W below C candidate shown
