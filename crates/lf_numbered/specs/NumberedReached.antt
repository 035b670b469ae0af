-- What a case that the strategy reaches holds, the goal holds. So a missing case that is reached and has a ground instance shows that the goal isn't covered.
use Rattle.std.specs.Prelude.{◌≡◌, ℕ, List, length, Bool, Some}
use Rattle.lf.specs.Syntax.{Spine, LfType}
use Rattle.lf.specs.Substitution.{Image}
use Rattle.lf.specs.Typing.{Signature, IsSignature}
use Rattle.lf.specs.Subordination.{Block, AreTypedBlocks, Member}
use Rattle.lf.specs.Worlds.{World}
use Rattle.lf.specs.Extension.{Extends}
use Rattle.lf_cases.specs.Pattern.{Pattern, HasGiven}
use Rattle.lf_numbered.specs.EntryConstants.{IsFreeFrom}
use Rattle.lf_numbered.specs.EntryPatternsRuns.{IsCoveredByNumber}
use Rattle.lf_numbered.specs.NumberedArguments.{HasNumberedArguments, read_all}
use Rattle.lf_numbered.specs.NumberedCalls.{HasOwnBlock, NumberedCoverIs, one_missing}
use Rattle.lf_numbered.specs.NumberedCallsOutside.{IsSplitCaseByNumber}
use Rattle.lf_numbered.specs.NumberedCallsReached.{ReachedByNumber}
use Rattle.lf_numbered.specs.NumberedCase.{NumberedCase, IsNumberedInstance}
use Rattle.lf_numbered.specs.NumberedInstance.{block_at}
use Rattle.lf_numbered.specs.OwnTerms.{BlockVariable, blocks_of}
use Rattle.lf_numbered.specs.Reading.{entry_reading}
use Rattle.lf_numbered.specs.TypedNumbered.{IsTypedNumberedCase}

-- What D holds by the ground instance of θ and ρ, C holds by that of θ and these values: the tuple, and the given terms. Each block variable of C stands
-- for what that of the same number of D stands for. So p X holds what p b.x holds.
pub record HoldsBack {Σ : Signature} {W : List Block} {S : ℕ → Bool} {G : List LfType} (w : World Σ W S G) (first : ℕ) (D : NumberedCase) (θ : ℕ → ℕ → Image) (ρ : ℕ → Image) (C : NumberedCase) : Type 0 where
  pub values : ℕ → Image
  pub is_ground : IsNumberedInstance w first C θ values
  pub arguments : (T : Spine) → HasNumberedArguments first D θ ρ T → HasNumberedArguments first C θ values T
  pub given : (τ : ℕ → Image) → HasGiven ρ (read_all (entry_reading first (blocks_of D.blocks) θ (length D.variables)) D.given) τ → HasGiven values (read_all (entry_reading first (blocks_of C.blocks) θ (length C.variables)) C.given) τ

-- Each block variable of C is one of D, of the same number and the same block; D may have further ones, behind.
abbrev pub KeepsBlocks : NumberedCase → NumberedCase → Type 0
KeepsBlocks C D = (k : ℕ) (b : BlockVariable) → block_at C.blocks k ≡ Some b → (d : BlockVariable) × (block_at D.blocks k ≡ Some d) × (d.block ≡ b.block)

-- A case that a split gives keeps the block variables of the case that is split, which holds what each ground instance of it holds: in each legal extension
-- and each context of the worlds.
abbrev pub SplitCaseHoldsBack : Type 0
SplitCaseHoldsBack = (Σ Σ' : Signature) → IsSignature Σ → (S : ℕ → Bool) → Extends S Σ Σ' → (W : List Block) → AreTypedBlocks Σ W → (first : ℕ) → IsFreeFrom Σ first → (below : ℕ → ℕ → Bool) (C : NumberedCase) → IsTypedNumberedCase Σ first W C → (x : ℕ) (D : NumberedCase) → IsSplitCaseByNumber Σ first W below C x D → KeepsBlocks C D × ((G : List LfType) (w : World Σ' W S G) (θ : ℕ → ℕ → Image) (ρ : ℕ → Image) → IsNumberedInstance w first D θ ρ → HoldsBack w first D θ ρ C)

-- So does each case that the strategy reaches from a typed goal.
abbrev pub ReachedHoldsBack : Type 0
ReachedHoldsBack = (Σ Σ' : Signature) → IsSignature Σ → (S : ℕ → Bool) → Extends S Σ Σ' → (W : List Block) → AreTypedBlocks Σ W → (first : ℕ) → IsFreeFrom Σ first → (below : ℕ → ℕ → Bool) (ps : List Pattern) (goal : NumberedCase) → IsTypedNumberedCase Σ first W goal → (D : NumberedCase) → ReachedByNumber Σ first W below ps goal D → KeepsBlocks goal D × ((G : List LfType) (w : World Σ' W S G) (θ : ℕ → ℕ → Image) (ρ : ℕ → Image) → IsNumberedInstance w first D θ ρ → HoldsBack w first D θ ρ goal)

-- A missing case with a ground instance, in some legal extension over S and some context of W beside S: the goal from which it is reached isn't covered
-- beside S. For a pattern of an entry of the first block variable alone the goal has this block variable, as each goal that is handed in.
abbrev pub ReachedMissingIsUncovered : Type 0
ReachedMissingIsUncovered = (Σ : Signature) → IsSignature Σ → (W : List Block) → AreTypedBlocks Σ W → (first : ℕ) → IsFreeFrom Σ first → (below : ℕ → ℕ → Bool) (ps : List Pattern) (goal D : NumberedCase) → IsTypedNumberedCase Σ first W goal → ((p : Pattern) → Member p ps → HasOwnBlock p.origin p.at_first goal) → NumberedCoverIs Σ first W below ps goal (one_missing D) → (S : ℕ → Bool) (Σ' : Signature) → Extends S Σ Σ' → (G : List LfType) (w : World Σ' W S G) (θ : ℕ → ℕ → Image) (ρ : ℕ → Image) → IsNumberedInstance w first D θ ρ → IsCoveredByNumber Σ first W S ps goal → ⊥
