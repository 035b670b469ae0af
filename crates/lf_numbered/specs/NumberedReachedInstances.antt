-- A case that a split by number gives is a typed instance of the case that is split, in which each block variable keeps its number.
use Rattle.std.specs.Prelude.{ℕ, List, Bool}
use Rattle.lf.specs.Substitution.{Image}
use Rattle.lf.specs.Typing.{Signature, IsSignature}
use Rattle.lf.specs.Subordination.{Block, AreTypedBlocks, Member}
use Rattle.lf_numbered.specs.EntryConstants.{IsFreeFrom}
use Rattle.lf_numbered.specs.NumberedCalls.{ListsCases}
use Rattle.lf_numbered.specs.NumberedCallsOutside.{IsSplitCaseByNumber}
use Rattle.lf_numbered.specs.NumberedCase.{NumberedCase}
use Rattle.lf_numbered.specs.NumberedInstance.{IsNumberedInstanceOf, KeepsNumbersApart}
use Rattle.lf_numbered.specs.TypedNumbered.{IsTypedNumberedCase}

-- So different block variables stay different; a new one comes behind them, as that of p b.x, which the split of p X gives.
abbrev pub SplitCaseIsNumberedInstance : Type 0
SplitCaseIsNumberedInstance = (Σ : Signature) → IsSignature Σ → (W : List Block) → AreTypedBlocks Σ W → (first : ℕ) → IsFreeFrom Σ first → (below : ℕ → ℕ → Bool) (C : NumberedCase) → IsTypedNumberedCase Σ first W C → (x : ℕ) (D : NumberedCase) → IsSplitCaseByNumber Σ first W below C x D → ((σ : ℕ → Image) × IsNumberedInstanceOf Σ first D C (λ k. k) σ) × KeepsNumbersApart C (λ k. k)

-- So is each case that the answer of a split lists.
abbrev pub ListedIsNumberedInstance : Type 0
ListedIsNumberedInstance = (Σ : Signature) → IsSignature Σ → (W : List Block) → AreTypedBlocks Σ W → (first : ℕ) → IsFreeFrom Σ first → (below : ℕ → ℕ → Bool) (C : NumberedCase) → IsTypedNumberedCase Σ first W C → (x : ℕ) (Cs : List NumberedCase) → ListsCases Σ first W below C x Cs → (D : NumberedCase) → Member D Cs → ((σ : ℕ → Image) × IsNumberedInstanceOf Σ first D C (λ k. k) σ) × KeepsNumbersApart C (λ k. k)
