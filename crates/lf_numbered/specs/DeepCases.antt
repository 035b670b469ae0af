-- What is too deep where a split or a run by number is: a case of the goal, all of whose tuples are the goal's, or what
-- the tuples of such a case unify.
use Rattle.std.specs.Prelude.{ℕ, List, Bool}
use Rattle.lf.specs.Syntax.{LfType, Kind}
use Rattle.lf.specs.Substitution.{Image}
use Rattle.lf.specs.Typing.{Signature, IsSignature}
use Rattle.lf.specs.Depth.{depth_limit}
use Rattle.lf.specs.Subordination.{Block, AreTypedBlocks, SelfContained}
use Rattle.lf.specs.Worlds.{World}
use Rattle.lf.specs.Extension.{Extends}
use Rattle.lf_checks.specs.Below.{IsSubordination}
use Rattle.lf_unification.specs.DeepEquations.{AreDeep}
use Rattle.lf_cases.specs.Pattern.{Pattern}
use Rattle.lf_numbered.specs.EntryConstants.{IsFreeFrom}
use Rattle.lf_coverage.specs.Heads.{ArgumentsAreBelow}
use Rattle.lf_numbered.specs.LeftUnifiers.{HasHead, HeadUnifier}
use Rattle.lf_numbered.specs.NewInstance.{AreApart}
use Rattle.lf_numbered.specs.NumberedCallsOutside.{IsSplitCaseByNumber, SplitIsTooDeepByNumber, deep_case, deep_equations, signature_of, store_of}
use Rattle.lf_numbered.specs.NumberedCallsReached.{ReachedByNumber, RunIsTooDeepByNumber, reaches_deep_case, splits_deep_case}
use Rattle.lf_numbered.specs.NumberedBeside.{TakesIn}
use Rattle.lf_numbered.specs.NumberedCase.{NumberedCase, IsNumberedInstance}
use Rattle.lf_numbered.specs.NumberedInstance.{IsNumberedInstanceOf}
use Rattle.lf_numbered.specs.NumberedReached.{HoldsBack}
use Rattle.lf_numbered.specs.NumberedSplits.{NumberedOffer}
use Rattle.lf_numbered.specs.TypedNumbered.{IsTypedNumberedCase}

-- D is a case of C: it is typed, and a typed instance of C in which each block variable keeps its number; and what D
-- holds, in each legal extension and each context of the worlds, C holds. So p b.x is one of p X, and p X isn't one of
-- p b.x.
pub record IsCaseOf (Σ : Signature) (first : ℕ) (W : List Block) (C D : NumberedCase) : Type 0 where
  pub typed : IsTypedNumberedCase Σ first W D
  pub values : ℕ → Image
  pub is_instance : IsNumberedInstanceOf Σ first D C (λ k. k) values
  pub holds_back : (S : ℕ → Bool) (Σ' : Signature) → Extends S Σ Σ' → (G : List LfType) (w : World Σ' W S G) (θ : ℕ → ℕ → Image) (ρ : ℕ → Image) → IsNumberedInstance w first D θ ρ → HoldsBack w first D θ ρ C

-- Each case that a split of a typed case gives, deep or not, is one of the case that is split; and each that is reached
-- is one of the goal.
abbrev pub SplitCaseIsCaseOf : Type 0
SplitCaseIsCaseOf = (Σ : Signature) → IsSignature Σ → (W : List Block) → AreTypedBlocks Σ W → (first : ℕ) → IsFreeFrom Σ first → (below : ℕ → ℕ → Bool) (C : NumberedCase) → IsTypedNumberedCase Σ first W C → (x : ℕ) (D : NumberedCase) → IsSplitCaseByNumber Σ first W below C x D → IsCaseOf Σ first W C D

abbrev pub ReachedIsCaseOf : Type 0
ReachedIsCaseOf = (Σ : Signature) → IsSignature Σ → (W : List Block) → AreTypedBlocks Σ W → (first : ℕ) → IsFreeFrom Σ first → (below : ℕ → ℕ → Bool) (ps : List Pattern) (goal : NumberedCase) → IsTypedNumberedCase Σ first W goal → (D : NumberedCase) → ReachedByNumber Σ first W below ps goal D → IsCaseOf Σ first W goal D

-- Each ground instance with block variables apart that gives the variable the head of this offer unifies, with its
-- values, the store that is deep.
abbrev pub MeetsDeep : (Σ : Signature) (first : ℕ) (W : List Block) (below : ℕ → ℕ → Bool) (X : LfType) (o : NumberedOffer) (K : Kind) → AreDeep depth_limit (signature_of Σ first o) (store_of below o K) → Type 0
MeetsDeep Σ first W below X o K d = IsSubordination Σ W below → (S : ℕ → Bool) → SelfContained Σ W S → TakesIn S X → ArgumentsAreBelow below X → ArgumentsAreBelow below o.left → (Σ' : Signature) → Extends S Σ Σ' → (G : List LfType) (w : World Σ' W S G) (θ : ℕ → ℕ → Image) (σ : ℕ → Image) → IsNumberedInstance w first o.case θ σ → AreApart o.case θ → HasHead first o θ σ → HeadUnifier w first below o θ σ d.reached

-- What a split that is too deep says: the deep case that it gives is one of the case that is split; or the tuples with
-- the head whose equations are deep unify these. It speaks of the very case and of the very equations that made the
-- answer. So of a deep goal it is said that it is a case of itself (`DeepZeroIsItsCase`); the case with one s more,
-- which is deep and typed too, is none of it.
abbrev pub DeepSplitSays : {Σ : Signature} {first : ℕ} {W : List Block} {below : ℕ → ℕ → Bool} {C : NumberedCase} {x : ℕ} → SplitIsTooDeepByNumber Σ first W below C x → Type 0
DeepSplitSays {Σ = Σ} {first = first} {W = W} {C = C} (deep_case D s d) = IsCaseOf Σ first W C D
DeepSplitSays {Σ = Σ} {first = first} {W = W} {below = below} (deep_equations X o K at f q d) = MeetsDeep Σ first W below X o K d

-- What a run that is too deep says: the case that it reaches is one of the goal, and of a split of it that is too deep
-- the same is so as of any.
abbrev pub DeepRunSays : {Σ : Signature} {first : ℕ} {W : List Block} {below : ℕ → ℕ → Bool} {ps : List Pattern} {goal : NumberedCase} → RunIsTooDeepByNumber Σ first W below ps goal → Type 0
DeepRunSays {Σ = Σ} {first = first} {W = W} {goal = goal} (reaches_deep_case D r d) = IsCaseOf Σ first W goal D
DeepRunSays {Σ = Σ} {first = first} {W = W} {goal = goal} (splits_deep_case D x r n f s) = IsCaseOf Σ first W goal D × DeepSplitSays s

-- So it is where a split of a typed case is too deep, and where a run from a typed goal is.
abbrev pub DeepSplitIsOfCase : Type 0
DeepSplitIsOfCase = (Σ : Signature) → IsSignature Σ → (W : List Block) → AreTypedBlocks Σ W → (first : ℕ) → IsFreeFrom Σ first → (below : ℕ → ℕ → Bool) (C : NumberedCase) → IsTypedNumberedCase Σ first W C → (x : ℕ) (d : SplitIsTooDeepByNumber Σ first W below C x) → DeepSplitSays d

abbrev pub DeepRunIsOfGoal : Type 0
DeepRunIsOfGoal = (Σ : Signature) → IsSignature Σ → (W : List Block) → AreTypedBlocks Σ W → (first : ℕ) → IsFreeFrom Σ first → (below : ℕ → ℕ → Bool) (ps : List Pattern) (goal : NumberedCase) → IsTypedNumberedCase Σ first W goal → (d : RunIsTooDeepByNumber Σ first W below ps goal) → DeepRunSays d
