-- What a split leaves over, where its store is one of patterns: only types hold an equation.
use Rattle.std.specs.Prelude.{◌≡◌, ℕ, List, ◌⊎◌, Bool, true, Some, Option}
use Rattle.lf.specs.Subordination.{Block, Member, AreTypedBlocks, IsBelowTest, SelfContained}
use Rattle.lf.specs.Syntax.{Head, Term, LfType, Kind}
use Rattle.lf.specs.Typing.{Signature, TypeAt, IsSignature}
use Rattle.lf.specs.Variables.{nothing, target}
use Rattle.lf_checks.specs.Marks.{MentionChosenOnly}
use Rattle.lf_unification.specs.Inversion.{Inverted, IsPattern, MustDrop, SameMetavariable}
use Rattle.lf_unification.specs.OpenTyping.{skeletons_of}
use Rattle.lf_unification.specs.Pruning.{CanAgree, CanDrop}
use Rattle.lf_unification.specs.Reach.{IsReached, Mentions}
use Rattle.lf_unification.specs.Solving.{Left, LeftOver}
use Rattle.lf_unification.specs.Steps.{on_pattern}
use Rattle.lf_unification.specs.Unifiers.{Binding, Equation, Store}
use Rattle.lf_cases.specs.Case.{Item, Case, input_goal, items_context}
use Rattle.lf_cases.specs.Reached.{SplitHead}
use Rattle.lf_cases.specs.Split.{HasNoBlockVariable}
use Rattle.lf_coverage.specs.Indices.{ConstantsHavePatterns, kind_has_patterns}
use Rattle.lf_coverage.specs.Outside.{SplitLeaves}
use Rattle.lf_coverage.specs.PatternSplits.{HeadHasPatterns}
use Rattle.lf_coverage.specs.SplitStore.{AllFamiliesIn, split_store}
use Rattle.lf_coverage.specs.SubordinateRuns.{ComesBy}
use Rattle.lf_coverage.specs.UnifiedSplit.{AnswersEachHead}

-- The metavariable m on the pattern xs isn't made N, though nothing refutes it, and types alone are why: the binding would be circular through a type, m
-- standing nowhere in N; or the type of a metavariable in N keeps an argument that must go; or N is m on other variables, and its type keeps the argument
-- at which they differ. It is said of equations that are outside the pattern fragment.
pub data IsHeldByTypes (Ψ : ℕ → Option LfType) (bs : List Binding) (D : List LfType) (m : ℕ) (xs : List ℕ) (N : Term) : Type 0 where
  circular_by_type : Inverted Ψ D (skeletons_of Ψ m) xs N → IsReached Ψ bs N m → (Mentions m N → ⊥) → IsHeldByTypes Ψ bs D m xs N
  keeps_inside : MustDrop Ψ D (skeletons_of Ψ m) xs N → (CanDrop Ψ D (skeletons_of Ψ m) xs N → ⊥) → IsHeldByTypes Ψ bs D m xs N
  keeps_both : SameMetavariable Ψ D m xs N → (on_pattern Ψ m xs ≡ N → ⊥) → (CanAgree Ψ D m xs N → ⊥) → IsHeldByTypes Ψ bs D m xs N

-- One side of the equation is a metavariable on a pattern, and the other is held so.
pub record EquationIsHeld (Ψ : ℕ → Option LfType) (bs : List Binding) (e : Equation) : Type 0 where
  pub metavariable : ℕ
  pub variables : List ℕ
  pub is_pattern : IsPattern e.local (skeletons_of Ψ metavariable) variables
  pub other : Term
  pub sides : ((e.left ≡ on_pattern Ψ metavariable variables) × (e.right ≡ other)) ⊎ ((e.right ≡ on_pattern Ψ metavariable variables) × (e.left ≡ other))
  pub held : IsHeldByTypes Ψ bs e.local metavariable variables other

-- Each equation that a split by a head of patterns leaves over is held so: outside a run of such splits only types stand in the way.
abbrev pub SplitIsHeldByTypes : Type 0
SplitIsHeldByTypes = (Σ : Signature) (W : List Block) (below : ℕ → ℕ → Bool) (I J : List Item) (x : ℕ) (X : LfType) → TypeAt (items_context I) x X → (n : ℕ) (h : Head) (A : LfType) → SplitHead Σ W I X J n h A → HasNoBlockVariable J → (K : Kind) → Σ.kinds (target X) ≡ Some K → HeadHasPatterns Σ below X J n A → (after : Store) → Left Σ (split_store below x X J n h A K) after → (e : Equation) → Member e after.equations → (o : LeftOver (split_store below x X J n h A K).metavariables after e) → EquationIsHeld after.metavariables after.bindings o.shown

-- So where the types of the constants have patterns each equation at which a run from the goal of inputs stops is held by types.
abbrev pub IndexedRunIsHeldByTypes : Type 0
IndexedRunIsHeldByTypes = (Σ : Signature) → IsSignature Σ → (T : ℕ → Bool) → ConstantsHavePatterns Σ T → (W : List Block) → AreTypedBlocks Σ W → SelfContained Σ W T → (below : ℕ → ℕ → Bool) → ((f : ℕ) → IsBelowTest Σ W (below f) f) → (a : ℕ) (m : List Bool) (K : Kind) → Σ.kinds a ≡ Some K → MentionChosenOnly nothing m K → kind_has_patterns m K ≡ true → AllFamiliesIn T (items_context (input_goal a m K).items) → (D : Case) → ComesBy (AnswersEachHead Σ W below) (input_goal a m K) D → (x : ℕ) (shown : Equation) → (l : SplitLeaves Σ W below D x shown) → EquationIsHeld l.after.metavariables l.after.bindings shown
