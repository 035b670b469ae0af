-- Two cases by number that are the same but for their variables hold the same tuples; and so do two lists of the cases
-- of a split, case by case.
use Rattle.std.specs.Prelude.{ℕ, List, [], ◌∷◌, Bool, ◌↔◌}
use Rattle.lf.specs.Syntax.{Spine, LfType}
use Rattle.lf.specs.Substitution.{Image}
use Rattle.lf.specs.Typing.{Signature, IsSignature}
use Rattle.lf.specs.Subordination.{Block, AreTypedBlocks}
use Rattle.lf.specs.Worlds.{World}
use Rattle.lf.specs.Extension.{Extends}
use Rattle.lf_cases.specs.Pattern.{Known}
use Rattle.lf_numbered.specs.EntryConstants.{IsFreeFrom}
use Rattle.lf_numbered.specs.EntryPatternsRuns.{HoldsByNumber, HoldsApart}
use Rattle.lf_numbered.specs.NumberedCalls.{ListsCases}
use Rattle.lf_numbered.specs.NumberedCase.{NumberedCase}
use Rattle.lf_numbered.specs.OnlyCase.{AreSameCase}
use Rattle.lf_numbered.specs.TypedNumbered.{IsTypedNumberedCase}

-- In each legal extension and each context of whatever typed worlds the one case holds a tuple where the other does,
-- with the same terms given and the same known of it; also with block variables apart. So do plus (s X) Y _ and
-- plus (s Y) X _. Not plus X Y _ and plus (s X) Y _: the tuple z, z is held by the first alone.
abbrev pub HoldSame : Signature → ℕ → NumberedCase → NumberedCase → Type 0
HoldSame Σ first D E = (V : List Block) → AreTypedBlocks Σ V → (S : ℕ → Bool) (Σ' : Signature) → Extends S Σ Σ' → (G : List LfType) (w : World Σ' V S G) (F : Known) (σ : ℕ → Image) (T : Spine) → (HoldsByNumber w first D F σ T ↔ HoldsByNumber w first E F σ T) × (HoldsApart w first D F σ T ↔ HoldsApart w first E F σ T)

-- As many cases, and each holds the same as that at its place in the other list.
abbrev pub EachHoldsSame : Signature → ℕ → List NumberedCase → List NumberedCase → Type 0
EachHoldsSame Σ first [] [] = Unit {0}
EachHoldsSame Σ first [] (E ∷ Es) = ⊥
EachHoldsSame Σ first (D ∷ Ds) [] = ⊥
EachHoldsSame Σ first (D ∷ Ds) (E ∷ Es) = HoldSame Σ first D E × EachHoldsSame Σ first Ds Es

-- Two typed cases that are the same but for their variables hold the same, of whatever worlds they are.
abbrev pub SameCaseHoldsSame : Type 0
SameCaseHoldsSame = (Σ : Signature) → IsSignature Σ → (first : ℕ) → IsFreeFrom Σ first → (W X : List Block) (D E : NumberedCase) → IsTypedNumberedCase Σ first W D → IsTypedNumberedCase Σ first X E → AreSameCase Σ first D E → HoldSame Σ first D E

-- So two lists of the cases for a variable of a typed case do, place by place.
abbrev pub SplitListsHoldSame : Type 0
SplitListsHoldSame = (Σ : Signature) → IsSignature Σ → (W : List Block) → AreTypedBlocks Σ W → (first : ℕ) → IsFreeFrom Σ first → (below : ℕ → ℕ → Bool) (C : NumberedCase) → IsTypedNumberedCase Σ first W C → (x : ℕ) (Ds Es : List NumberedCase) → ListsCases Σ first W below C x Ds → ListsCases Σ first W below C x Es → EachHoldsSame Σ first Ds Es
