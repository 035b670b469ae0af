-- A case with one more block variable, as a split makes it.
use Rattle.std.specs.Prelude.{ℕ, List, [], ◌∷◌, length, Option, Some, None}
use Rattle.lf.specs.Syntax.{Term, rename}
use Rattle.lf.specs.AtOnce.{shift_by, lift_renaming_by}
use Rattle.lf.specs.Typing.{Signature, IsSignature}
use Rattle.lf.specs.Variables.{onto}
use Rattle.lf.specs.Subordination.{Block, Member, AreTypedBlocks}
use Rattle.lf_cases.specs.OutputGoal.{renumber}
use Rattle.lf_numbered.specs.EntryConstants.{IsFreeFrom}
use Rattle.lf_numbered.specs.OwnTerms.{add_block}
use Rattle.lf_numbered.specs.NumberedCase.{NumberedCase, AreTypedVariables}

-- the terms of a list, renamed
abbrev pub rename_all : (ℕ → ℕ) → List (Option Term) → List (Option Term)
rename_all ρ [] = []
rename_all ρ (Some M ∷ Ms) = Some (rename ρ M) ∷ rename_all ρ Ms
rename_all ρ (None ∷ Ms) = None ∷ rename_all ρ Ms

-- The new block variable is the last, so no number and no constant changes; its terms are new free variables, in front of the others, which aren't
-- raised over anything.
abbrev pub with_new_block : Block → NumberedCase → NumberedCase
with_new_block B C =
    let ρ : ℕ → ℕ = shift_by (length B.some) in
    record { blocks = add_block B C.blocks; variables = onto B.some C.variables; given = rename_all ρ C.given; local = renumber ρ C.local; family = C.family; arguments = rename_all (lift_renaming_by (length C.local) ρ) C.arguments }

-- It is typed where the case is.
abbrev pub NewBlockIsTyped : Type 0
NewBlockIsTyped = (Σ : Signature) → IsSignature Σ → (W : List Block) → AreTypedBlocks Σ W → (first : ℕ) → IsFreeFrom Σ first → (C : NumberedCase) → AreTypedVariables Σ first W C → (B : Block) → Member B W → AreTypedVariables Σ first W (with_new_block B C)
