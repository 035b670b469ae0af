-- Each ground instance of an instance of a case is one of the case, also where block variables of the case have become
-- one.
use Rattle.std.specs.Prelude.{◌≡◌, ℕ, List, length, Bool}
use Rattle.lf.specs.Syntax.{Spine, LfType, skeleton}
use Rattle.lf.specs.Substitution.{Image}
use Rattle.lf.specs.Typing.{Signature, TypeAt, IsSignature}
use Rattle.lf.specs.Subordination.{Block, AreTypedBlocks}
use Rattle.lf.specs.Worlds.{World}
use Rattle.lf.specs.Extension.{Extends}
use Rattle.lf_cases.specs.Case.{as_term}
use Rattle.lf_cases.specs.Pattern.{HasGiven}
use Rattle.lf_numbered.specs.EntryConstants.{IsFreeFrom}
use Rattle.lf_numbered.specs.NumberedArguments.{HasNumberedArguments, read_all}
use Rattle.lf_numbered.specs.NumberedCase.{NumberedCase, AreTypedVariables, IsNumberedInstance, value_in}
use Rattle.lf_numbered.specs.NumberedInstance.{IsNumberedInstanceOf}
use Rattle.lf_numbered.specs.OwnTerms.{blocks_of}
use Rattle.lf_numbered.specs.Reading.{entry_reading}
use Rattle.lf_numbered.specs.TypedNumbered.{IsTypedNumberedCase}

-- What J holds by the ground instance of θ and ρ, C holds by one that puts this into the values σ: the tuple, and the
-- given terms. Block variable k of C stands for what π k of J stands for. So cp b.x c.x holds x, x, which cp b.x b.x
-- holds in {x:exp} {u:cp x x}: b and c are both its instance. cp b.x c.x holds x, y of two instances too; but not so,
-- since cp b.x b.x doesn't.
pub record HoldsAsInstance {Σ : Signature} {W : List Block} {S : ℕ → Bool} {G : List LfType} (w : World Σ W S G) (first : ℕ) (J : NumberedCase) (θ : ℕ → ℕ → Image) (ρ : ℕ → Image) (C : NumberedCase) (π : ℕ → ℕ) (σ : ℕ → Image) : Type 0 where
  pub values : ℕ → Image
  pub is_ground : IsNumberedInstance w first C (λ k. θ (π k)) values
  pub put : (i : ℕ) (A : LfType) → TypeAt C.variables i A → as_term (skeleton A) (values i) ≡ value_in first J θ ρ (as_term (skeleton A) (σ i))
  pub arguments : (T : Spine) → HasNumberedArguments first J θ ρ T → HasNumberedArguments first C (λ k. θ (π k)) values T
  pub given : (τ : ℕ → Image) → HasGiven ρ (read_all (entry_reading first (blocks_of J.blocks) θ (length J.variables)) J.given) τ → HasGiven values (read_all (entry_reading first (blocks_of C.blocks) (λ k. θ (π k)) (length C.variables)) C.given) τ

-- So it is in each legal extension and each context of whatever worlds, where J is an instance of a typed case and its
-- own variables are typed.
abbrev pub InstanceHoldsBack : Type 0
InstanceHoldsBack = (Σ Σ' : Signature) → IsSignature Σ → (W X : List Block) (first : ℕ) → IsFreeFrom Σ first → (C : NumberedCase) → IsTypedNumberedCase Σ first W C → (J : NumberedCase) → AreTypedVariables Σ first X J → (π : ℕ → ℕ) (σ : ℕ → Image) → IsNumberedInstanceOf Σ first J C π σ → (V : List Block) → AreTypedBlocks Σ V → (S : ℕ → Bool) → Extends S Σ Σ' → (G : List LfType) (w : World Σ' V S G) (θ : ℕ → ℕ → Image) (ρ : ℕ → Image) → IsNumberedInstance w first J θ ρ → HoldsAsInstance w first J θ ρ C π σ
