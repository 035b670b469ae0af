-- The cases that a split lists, in their order, are the only ones.
use Rattle.std.specs.Prelude.{ℕ, List, [], ◌∷◌, Bool}
use Rattle.lf.specs.Typing.{Signature, IsSignature}
use Rattle.lf.specs.Subordination.{Block, AreTypedBlocks, Member}
use Rattle.lf_numbered.specs.EntryConstants.{IsFreeFrom}
use Rattle.lf_numbered.specs.NumberedCalls.{ListsCases}
use Rattle.lf_numbered.specs.NumberedCallsOutside.{IsSplitCaseByNumber}
use Rattle.lf_numbered.specs.NumberedCase.{NumberedCase}
use Rattle.lf_numbered.specs.OnlyCase.{AreSameCase}
use Rattle.lf_numbered.specs.TypedNumbered.{IsTypedNumberedCase}

-- As many cases, and each is the same as that at its place in the other list but for its variables. So it is with plus
-- z Y _, plus (s X) Y _ and with plus z X _, plus (s Y) X _; not with the latter two exchanged, nor with one of them.
abbrev pub AreSameCases : Signature → ℕ → List NumberedCase → List NumberedCase → Type 0
AreSameCases Σ first [] [] = Unit {0}
AreSameCases Σ first [] (E ∷ Es) = ⊥
AreSameCases Σ first (D ∷ Ds) [] = ⊥
AreSameCases Σ first (D ∷ Ds) (E ∷ Es) = AreSameCase Σ first D E × AreSameCases Σ first Ds Es

-- Two lists of cases for a variable of a typed case are so.
abbrev pub SplitHasOneList : Type 0
SplitHasOneList = (Σ : Signature) → IsSignature Σ → (W : List Block) → AreTypedBlocks Σ W → (first : ℕ) → IsFreeFrom Σ first → (below : ℕ → ℕ → Bool) (C : NumberedCase) → IsTypedNumberedCase Σ first W C → (x : ℕ) (Ds Es : List NumberedCase) → ListsCases Σ first W below C x Ds → ListsCases Σ first W below C x Es → AreSameCases Σ first Ds Es

-- And each case that the split gives, by whatever steps, is one of the list, but for its variables.
abbrev pub SplitCaseIsListed : Type 0
SplitCaseIsListed = (Σ : Signature) → IsSignature Σ → (W : List Block) → AreTypedBlocks Σ W → (first : ℕ) → IsFreeFrom Σ first → (below : ℕ → ℕ → Bool) (C : NumberedCase) → IsTypedNumberedCase Σ first W C → (x : ℕ) (Ds : List NumberedCase) → ListsCases Σ first W below C x Ds → (E : NumberedCase) → IsSplitCaseByNumber Σ first W below C x E → (D : NumberedCase) × Member D Ds × AreSameCase Σ first D E
