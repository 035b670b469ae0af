-- When a split by number stops at an equation outside the pattern fragment, or is too deep.
use Rattle.std.specs.Prelude.{◌≡◌, ℕ, zero, ◌<◌, ◌⊎◌, List, [], ◌∷◌, length, Bool, Some}
use Rattle.lf.specs.Syntax.{Spine, nil, app, LfType, Kind}
use Rattle.lf.specs.AtOnce.{shift_by, lift_renaming_by}
use Rattle.lf.specs.Typing.{Signature, TypeAt}
use Rattle.lf.specs.Depth.{depth, depth_limit}
use Rattle.lf.specs.Variables.{target}
use Rattle.lf.specs.Subordination.{Block, Member}
use Rattle.lf_unification.specs.DeepEquations.{AreDeep}
use Rattle.lf_unification.specs.Solving.{Left, LeftOver}
use Rattle.lf_unification.specs.Unifiers.{Equation, Store}
use Rattle.lf_cases.specs.Case.{items_context}
use Rattle.lf_cases.specs.OutputGoal.{free_variables, renumber}
use Rattle.lf_cases.specs.Reached.{arguments_count, split_items}
use Rattle.lf_numbered.specs.EntryConstants.{with_entries}
use Rattle.lf_numbered.specs.NewBlock.{rename_all}
use Rattle.lf_numbered.specs.NumberedCase.{NumberedCase}
use Rattle.lf_numbered.specs.NumberedSplits.{NumberedOffer, IsOfferTo, NumberedUnifierFinds}
use Rattle.lf_numbered.specs.OwnStores.{numbered_store}
use Rattle.lf_numbered.specs.OwnTerms.{BlockVariable, blocks_of, rename_blocks}
use Rattle.lf_coverage.specs.TooDeep.{HasDeepTerm, HasDeepType}

-- The store of a head that is offered, and the signature with the entries of the case that it is offered to.
abbrev pub store_of : (ℕ → ℕ → Bool) → NumberedOffer → Kind → Store
store_of below o K = numbered_store below o.case o.variable o.type o.head o.terms o.left K

abbrev pub signature_of : Signature → ℕ → NumberedOffer → Signature
signature_of Σ first o = with_entries Σ first (blocks_of o.case.blocks)

-- The case that the head is offered to, with the variables for the arguments of the head in front: the metavariables of
-- the store, before it is solved, are its variables.
abbrev pub over_head : (ℕ → ℕ → Bool) → NumberedOffer → NumberedCase
over_head below o =
    let C : NumberedCase = o.case in
    let ρ : ℕ → ℕ = shift_by (arguments_count o.left) in
    record { blocks = rename_blocks ρ C.blocks; variables = items_context (split_items below o.type (free_variables C.variables) zero o.left); given = rename_all ρ C.given; local = renumber ρ C.local; family = C.family; arguments = rename_all (lift_renaming_by (length C.local) ρ) C.arguments }

-- The split of x in C leaves this equation: for one of the heads unification solves all but equations outside the
-- pattern fragment, and this is one of those that are left, with the bindings put in. It is shown over the case that
-- the head is offered to, which is C, or C with a new block variable: a metavariable whose number is below the count of
-- its variables is the variable of this number. Any other was made by solving, and stands in what solving gave for one
-- of these variables; it is no variable of the case, and has no type there. So is G' in G' z = z, where G had lost an
-- argument (`MadeBySolving`). The equation's context is as it was, without the bindings, and its type isn't said. The side of the variable that is split stands on the left; the text
-- of a refusal shows it on the right, as the head's type is written first there.
pub record SplitLeavesByNumber (Σ : Signature) (first : ℕ) (W : List Block) (below : ℕ → ℕ → Bool) (C : NumberedCase) (x : ℕ) (over : NumberedCase) (shown : Equation) : Type 0 where
  pub type : LfType
  pub at : TypeAt C.variables x type
  pub offer : NumberedOffer
  pub is_offered : IsOfferTo Σ first W C x type offer
  pub is_over : over ≡ over_head below offer
  pub kind : Kind
  pub of_family : Σ.kinds (target offer.type) ≡ Some kind
  pub after : Store
  pub left : Left (signature_of Σ first offer) (store_of below offer kind) after
  pub equation : Equation
  pub listed : Member equation after.equations
  pub left_over : LeftOver (store_of below offer kind).metavariables after equation
  pub is_shown : shown ≡ left_over.shown

-- one of the terms is deeper than the limit
abbrev pub HasDeepArgument : Spine → Type 0
HasDeepArgument nil = ⊥
HasDeepArgument (app M S) = (depth_limit < depth M) ⊎ HasDeepArgument S

-- one of the terms of these block variables is
abbrev pub HasDeepBlock : List BlockVariable → Type 0
HasDeepBlock [] = ⊥
HasDeepBlock (b ∷ bs) = HasDeepArgument b.terms ⊎ HasDeepBlock bs

-- A deep case: a term of a block variable is deep, the type of a free variable, a given term, a local type or an argument.
abbrev pub IsDeepByNumber : NumberedCase → Type 0
IsDeepByNumber C = HasDeepBlock C.blocks ⊎ HasDeepType C.variables ⊎ HasDeepTerm C.given ⊎ HasDeepType C.local ⊎ HasDeepTerm C.arguments

-- The split of x in C gives D: for a head that is offered, unification solves its store, and D is read off.
pub record IsSplitCaseByNumber (Σ : Signature) (first : ℕ) (W : List Block) (below : ℕ → ℕ → Bool) (C : NumberedCase) (x : ℕ) (D : NumberedCase) : Type 0 where
  pub type : LfType
  pub at : TypeAt C.variables x type
  pub offer : NumberedOffer
  pub is_offered : IsOfferTo Σ first W C x type offer
  pub kind : Kind
  pub of_family : Σ.kinds (target offer.type) ≡ Some kind
  pub finds : NumberedUnifierFinds Σ first below offer kind (Some D)

-- The split of x in C is too deep: for one of the heads the equations are deep, or the case that it gives is.
pub data SplitIsTooDeepByNumber (Σ : Signature) (first : ℕ) (W : List Block) (below : ℕ → ℕ → Bool) (C : NumberedCase) (x : ℕ) : Type 0 where
  deep_equations : (X : LfType) (o : NumberedOffer) (K : Kind) → TypeAt C.variables x X → IsOfferTo Σ first W C x X o → Σ.kinds (target o.type) ≡ Some K → AreDeep depth_limit (signature_of Σ first o) (store_of below o K) → SplitIsTooDeepByNumber Σ first W below C x
  deep_case : (D : NumberedCase) → IsSplitCaseByNumber Σ first W below C x D → IsDeepByNumber D → SplitIsTooDeepByNumber Σ first W below C x
