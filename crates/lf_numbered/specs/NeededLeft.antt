-- What an equation that a run leaves says of tuples of the goal, and what a head whose equations are deep says, where
-- what `cover` needs is so: nothing is asked of what the variable and the head take, which follows at a candidate.
use Rattle.std.specs.Prelude.{ℕ, List, Bool}
use Rattle.lf.specs.Syntax.{Spine, LfType}
use Rattle.lf.specs.Substitution.{Image}
use Rattle.lf.specs.Typing.{Signature, TypeAt, IsSignature}
use Rattle.lf.specs.Subordination.{Block, AreTypedBlocks, IsBelowTest, Member}
use Rattle.lf.specs.Worlds.{World}
use Rattle.lf.specs.Extension.{Extends}
use Rattle.lf_unification.specs.Unifiers.{Equation, Store}
use Rattle.lf_cases.specs.Pattern.{Known, Pattern}
use Rattle.lf_numbered.specs.DeepCases.{IsCaseOf}
use Rattle.lf_numbered.specs.EntryConstants.{IsFreeFrom}
use Rattle.lf_numbered.specs.EntryPatternsRuns.{HoldsApart}
use Rattle.lf_coverage.specs.Heads.{ArgumentsAreBelow}
use Rattle.lf_numbered.specs.LeftEquations.{GivesHead, HoldsTrue}
use Rattle.lf_numbered.specs.LeftUnifiers.{HeadUnifier}
use Rattle.lf_numbered.specs.NumberedBeside.{TakesBelow, TakesIn}
use Rattle.lf_numbered.specs.NumberedCalls.{IsBesideByNumber, NumberedCoverNeeds}
use Rattle.lf_numbered.specs.NumberedCallsOutside.{SplitIsTooDeepByNumber, deep_case, deep_equations}
use Rattle.lf_numbered.specs.NumberedCallsReached.{ReachedByNumber, RunIsTooDeepByNumber, RunLeavesByNumber, numbered_candidates, reaches_deep_case, splits_deep_case}
use Rattle.lf_numbered.specs.NumberedCase.{NumberedCase}
use Rattle.lf_numbered.specs.NumberedReached.{HoldsBack}
use Rattle.lf_numbered.specs.NumberedSplits.{IsOfferTo, NumberedOffer}
use Rattle.lf_numbered.specs.TypedNumbered.{IsTypedNumberedCase}

-- Where what a variable takes quantifies only over what is below, the families in the types of what each head that is
-- offered to it takes are below their own.
abbrev pub OfferedTakesBelow : Type 0
OfferedTakesBelow = (Σ : Signature) → IsSignature Σ → (W : List Block) → AreTypedBlocks Σ W → (below : ℕ → ℕ → Bool) → ((f : ℕ) → IsBelowTest Σ W (below f) f) → (first : ℕ) → IsFreeFrom Σ first → (C : NumberedCase) → IsTypedNumberedCase Σ first W C → (x : ℕ) (X : LfType) → TakesBelow below X → (o : NumberedOffer) → IsOfferTo Σ first W C x X o → ArgumentsAreBelow below o.left

-- A set beside which the goal is to be covered is one for each case that the strategy reaches.
abbrev pub ReachedIsBeside : Type 0
ReachedIsBeside = (Σ : Signature) (first : ℕ) (W : List Block) (below : ℕ → ℕ → Bool) (ps : List Pattern) (goal : NumberedCase) → NumberedCoverNeeds Σ first W below ps goal → (S : ℕ → Bool) → IsBesideByNumber Σ W S goal → (D : NumberedCase) → ReachedByNumber Σ first W below ps goal D → IsBesideByNumber Σ W S D

-- And there each candidate of a pattern of the list takes what is in the set, in the sense of `TakesIn`; and the
-- families in the types of what it takes, and its heads, are below their own.
abbrev pub NeededCandidateTakes : Type 0
NeededCandidateTakes = (Σ : Signature) (first : ℕ) (W : List Block) (below : ℕ → ℕ → Bool) (ps : List Pattern) (goal : NumberedCase) → NumberedCoverNeeds Σ first W below ps goal → (S : ℕ → Bool) → IsBesideByNumber Σ W S goal → (D : NumberedCase) → ReachedByNumber Σ first W below ps goal D → (p : Pattern) → Member p ps → (x : ℕ) → Member x (numbered_candidates first D p) → (X : LfType) → TypeAt D.variables x X → TakesIn S X × ArgumentsAreBelow below X × ((o : NumberedOffer) → IsOfferTo Σ first W D x X o → ArgumentsAreBelow below o.left)

-- So where a run stops at an equation, each tuple of the case that is reached in which the variable is that head is one
-- of the goal, and makes the equation that is shown true: beside each set beside which the goal is to be covered, in
-- each legal extension and each context. From p T K W X, beside p Z ([x] Z) W (refl Z), it is K W = T
-- (`NeededCircleIsTrue`): the tuple p z ([x] z) n (refl z) makes it true, and with [x] a for K it would be a = z.
abbrev pub NeededLeftHoldsTrue : Type 0
NeededLeftHoldsTrue = (Σ : Signature) (first : ℕ) (W : List Block) (below : ℕ → ℕ → Bool) (ps : List Pattern) (goal : NumberedCase) → NumberedCoverNeeds Σ first W below ps goal → (C over : NumberedCase) (shown : Equation) (r : RunLeavesByNumber Σ first W below ps goal C over shown) (S : ℕ → Bool) → IsBesideByNumber Σ W S goal → (Σ' : Signature) → Extends S Σ Σ' → (G : List LfType) (w : World Σ' W S G) (F : Known) (υ : ℕ → Image) (T : Spine) (h : HoldsApart w first C F υ T) → GivesHead w first C h.holds.instances h.holds.values r.candidate r.leaves.offer → HoldsBack w first C h.holds.instances h.holds.values goal × HoldsTrue w first over r.leaves.after shown F υ T

-- Each tuple of C in which the variable x is the head of this offer is one of the goal, and unifies this store: beside
-- S, in each legal extension and each context.
abbrev pub TuplesUnify : (Σ : Signature) (first : ℕ) (W : List Block) (below : ℕ → ℕ → Bool) (S : ℕ → Bool) (goal C : NumberedCase) (x : ℕ) (o : NumberedOffer) → Store → Type 0
TuplesUnify Σ first W below S goal C x o s = (Σ' : Signature) → Extends S Σ Σ' → (G : List LfType) (w : World Σ' W S G) (F : Known) (υ : ℕ → Image) (T : Spine) (h : HoldsApart w first C F υ T) (g : GivesHead w first C h.holds.instances h.holds.values x o) → HoldsBack w first C h.holds.instances h.holds.values goal × HeadUnifier w first below o g.instances g.values s

-- What a split that is too deep says beside S: the deep case that it gives is one of the goal; or the tuples with the
-- head whose equations are deep unify the store in which these are.
abbrev pub DeepSplitMeets : {Σ : Signature} {first : ℕ} {W : List Block} {below : ℕ → ℕ → Bool} {C : NumberedCase} {x : ℕ} → (ℕ → Bool) → NumberedCase → SplitIsTooDeepByNumber Σ first W below C x → Type 0
DeepSplitMeets {Σ = Σ} {first = first} {W = W} S goal (deep_case D s d) = IsCaseOf Σ first W goal D
DeepSplitMeets {Σ = Σ} {first = first} {W = W} {below = below} {C = C} {x = x} S goal (deep_equations X o K at f q d) = TuplesUnify Σ first W below S goal C x o d.reached

-- So a run that is too deep, of the deep case that it reaches or of its split.
abbrev pub DeepRunMeets : {Σ : Signature} {first : ℕ} {W : List Block} {below : ℕ → ℕ → Bool} {ps : List Pattern} {goal : NumberedCase} → (ℕ → Bool) → RunIsTooDeepByNumber Σ first W below ps goal → Type 0
DeepRunMeets {Σ = Σ} {first = first} {W = W} {goal = goal} S (reaches_deep_case D r d) = IsCaseOf Σ first W goal D
DeepRunMeets {goal = goal} S (splits_deep_case D x r n f s) = DeepSplitMeets S goal s

-- So it is of each run that is too deep.
abbrev pub NeededDeepRunMeets : Type 0
NeededDeepRunMeets = (Σ : Signature) (first : ℕ) (W : List Block) (below : ℕ → ℕ → Bool) (ps : List Pattern) (goal : NumberedCase) → NumberedCoverNeeds Σ first W below ps goal → (S : ℕ → Bool) → IsBesideByNumber Σ W S goal → (d : RunIsTooDeepByNumber Σ first W below ps goal) → DeepRunMeets S d
