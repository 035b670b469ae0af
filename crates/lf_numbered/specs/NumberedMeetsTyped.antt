-- The constants of a case by number, moved to those of an instance, keep their types there: so what is typed over the case's entries is typed over the instance's.
use Rattle.std.specs.Prelude.{◌≡◌, ℕ, List, Some}
use Rattle.lf.specs.Syntax.{LfType}
use Rattle.lf.specs.Substitution.{Image}
use Rattle.lf.specs.Typing.{Signature, IsSignature}
use Rattle.lf.specs.Subordination.{Block, AreTypedBlocks}
use Rattle.lf_numbered.specs.EntryConstants.{IsFreeFrom, with_entries}
use Rattle.lf_numbered.specs.NumberedCase.{NumberedCase, AreTypedVariables}
use Rattle.lf_numbered.specs.NumberedInstance.{IsTypedInstanceOf, moved_constant, move_type}
use Rattle.lf_numbered.specs.OwnTerms.{blocks_of}

-- The constant of an entry of b has, where b is c, the type of the same entry of c, in which the constants of b's earlier entries are those of c's.
abbrev pub MovedConstantsAreTyped : Type 0
MovedConstantsAreTyped = (Σ : Signature) → IsSignature Σ → (W : List Block) → AreTypedBlocks Σ W → (first : ℕ) → IsFreeFrom Σ first → (J C : NumberedCase) → AreTypedVariables Σ first W C → (ν : ℕ → ℕ) (σ : ℕ → Image) → IsTypedInstanceOf Σ first J C ν σ → (c : ℕ) (A : LfType) → (with_entries Σ first (blocks_of C.blocks)).types c ≡ Some A → (with_entries Σ first (blocks_of J.blocks)).types (moved_constant first (blocks_of C.blocks) (blocks_of J.blocks) ν c) ≡ Some (move_type (moved_constant first (blocks_of C.blocks) (blocks_of J.blocks) ν) A)
