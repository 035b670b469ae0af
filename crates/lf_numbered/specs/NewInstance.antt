-- An instance for which no block variable stands yet gets one.
use Rattle.std.specs.Prelude.{◌≡◌, ℕ, ◌+◌, ◌⊎◌, List, length, Bool, true, cond, Some}
use Rattle.lf.specs.Syntax.{Head, Term, Spine, root, LfType, skeleton}
use Rattle.lf.specs.Substitution.{Image, put}
use Rattle.lf.specs.Eta.{lambdas}
use Rattle.lf.specs.Typing.{Signature, TypeAt, IsSignature}
use Rattle.lf.specs.Variables.{same_number, target}
use Rattle.lf.specs.Subordination.{Block, Member, AreTypedBlocks}
use Rattle.lf.specs.Worlds.{World}
use Rattle.lf.specs.Extension.{Extends}
use Rattle.lf_cases.specs.Cover.{InstanceIn}
use Rattle.lf_cases.specs.Reached.{taken}
use Rattle.lf_numbered.specs.EntryConstants.{IsFreeFrom}
use Rattle.lf_numbered.specs.NewBlock.{with_new_block}
use Rattle.lf_numbered.specs.NumberedCase.{NumberedCase, AreTypedVariables, IsNumberedInstance}
use Rattle.lf_numbered.specs.NumberedHeads.{IsNumberedHead, StandsForNone}
use Rattle.lf_numbered.specs.NumberedInstance.{block_at}
use Rattle.lf_numbered.specs.OwnTerms.{BlockVariable}

-- the instances, where φ is that of the number n
abbrev pub with_instance : ℕ → (ℕ → Image) → (ℕ → ℕ → Image) → ℕ → ℕ → Image
with_instance n φ θ k = cond (same_number k n) φ (θ k)

-- A ground instance of a typed case, and an instance of a block in the context, are one of the case with a new block variable of that block: the new one
-- stands for it, the old ones for what they stood for, and the old free variables have their values.
abbrev pub NewInstanceIsOfNewBlock : Type 0
NewInstanceIsOfNewBlock = (Σ Σ' : Signature) → IsSignature Σ → (S : ℕ → Bool) → Extends S Σ Σ' → (W : List Block) → AreTypedBlocks Σ W → (first : ℕ) → IsFreeFrom Σ first → (C : NumberedCase) → AreTypedVariables Σ first W C → (G : List LfType) (w : World Σ' W S G) (θ : ℕ → ℕ → Image) (σ : ℕ → Image) → IsNumberedInstance w first C θ σ → (B : Block) → Member B W → (φ : ℕ → Image) → InstanceIn w B φ → (ρ : ℕ → Image) × IsNumberedInstance w first (with_new_block B C) (with_instance (length C.blocks) φ θ) ρ × ((i : ℕ) → ρ (i + length B.some) ≡ σ i)

-- Block variables of different numbers stand for different instances.
abbrev pub AreApart : NumberedCase → (ℕ → ℕ → Image) → Type 0
AreApart C θ = (j k : ℕ) (b c : BlockVariable) → block_at C.blocks j ≡ Some b → block_at C.blocks k ≡ Some c → b.block ≡ c.block → θ j ≡ θ k → j ≡ k

-- They still do with the new block variable, where none of them stood for its instance.
abbrev pub NewInstanceStaysApart : Type 0
NewInstanceStaysApart = (C : NumberedCase) (θ : ℕ → ℕ → Image) → AreApart C θ → (B : Block) (φ : ℕ → Image) → StandsForNone C θ B φ → AreApart (with_new_block B C) (with_instance (length C.blocks) φ θ)

-- So each free variable of a family in S is made one of the heads of the case by its instance; or one of the case with a new block variable, which has this
-- instance too, with block variables apart where they were.
abbrev pub HeadsAreOverEntries : Type 0
HeadsAreOverEntries = (Σ Σ' : Signature) → IsSignature Σ → (S : ℕ → Bool) → Extends S Σ Σ' → (W : List Block) → AreTypedBlocks Σ W → (first : ℕ) → IsFreeFrom Σ first → (C : NumberedCase) → AreTypedVariables Σ first W C → (G : List LfType) (w : World Σ' W S G) (θ : ℕ → ℕ → Image) (σ : ℕ → Image) → IsNumberedInstance w first C θ σ → AreApart C θ → (x : ℕ) (A : LfType) → TypeAt C.variables x A → S (target A) ≡ true → (N : Term) × (h : Head) × (T : Spine) × (σ x ≡ put (skeleton A) N) × (N ≡ lambdas (length (taken A)) (root h T)) × (IsNumberedHead Σ first C θ (length (taken A)) (target A) h ⊎ ((B : Block) × (φ : ℕ → Image) × (ρ : ℕ → Image) × Member B W × IsNumberedInstance w first (with_new_block B C) (with_instance (length C.blocks) φ θ) ρ × ((i : ℕ) → ρ (i + length B.some) ≡ σ i) × AreApart (with_new_block B C) (with_instance (length C.blocks) φ θ) × IsNumberedHead Σ first (with_new_block B C) (with_instance (length C.blocks) φ θ) (length (taken A)) (target A) h))
