-- The tuples that a case with block variables by number holds.
use Rattle.std.specs.Prelude.{ℕ, List, [], ◌∷◌, length, Bool, Option, Some, None}
use Rattle.lf.specs.Syntax.{Term, Spine, LfType}
use Rattle.lf.specs.Substitution.{Image}
use Rattle.lf.specs.Skeletons.{constant_skeletons, context_skeletons}
use Rattle.lf.specs.Typing.{Signature, IsSignature}
use Rattle.lf.specs.Variables.{onto}
use Rattle.lf.specs.Subordination.{Block, AreTypedBlocks}
use Rattle.lf.specs.Worlds.{World, lift_over}
use Rattle.lf.specs.Extension.{Extends}
use Rattle.lf_cases.specs.Case.{Case, items_context, IsGroundInstance, HasArguments}
use Rattle.lf_cases.specs.Missing.{AreTypedItems}
use Rattle.lf_coverage.specs.Heads.{HaveSkeletons}
use Rattle.lf_numbered.specs.EntryConstants.{IsFreeFrom}
use Rattle.lf_numbered.specs.OwnTerms.{blocks_of}
use Rattle.lf_numbered.specs.Reading.{weaken_read, read, entry_reading}
use Rattle.lf_numbered.specs.NumberedCase.{NumberedCase, IsNumberedInstance}
use Rattle.lf_numbered.specs.Numbering.{numbered, HasSameValues}

-- what a constant is read as under a local context
abbrev pub read_over : List LfType → (ℕ → Option (ℕ × ℕ)) → ℕ → Option (ℕ × ℕ)
read_over [] f = f
read_over (A ∷ D) f = λ c. weaken_read (read_over D f c)

-- the terms of a list, read
abbrev pub read_all : (ℕ → Option (ℕ × ℕ)) → List (Option Term) → List (Option Term)
read_all f [] = []
read_all f (Some M ∷ Ms) = Some (read f M) ∷ read_all f Ms
read_all f (None ∷ Ms) = None ∷ read_all f Ms

-- A tuple has the arguments of the case under the ground instance of θ and ρ.
abbrev pub HasNumberedArguments : ℕ → NumberedCase → (ℕ → ℕ → Image) → (ℕ → Image) → Spine → Type 0
HasNumberedArguments first C θ ρ T = HasArguments (lift_over C.local ρ) (read_all (read_over C.local (entry_reading first (blocks_of C.blocks) θ (length C.variables))) C.arguments) T

-- A case and its numbered form, under ground instances with the same values, hold the same tuples.
abbrev pub NumberedHoldsSameTuples : Type 0
NumberedHoldsSameTuples = (Σ Σ' : Signature) → IsSignature Σ → (S : ℕ → Bool) → Extends S Σ Σ' → (W : List Block) → AreTypedBlocks Σ W → (first : ℕ) → IsFreeFrom Σ first → (C : Case) → AreTypedItems Σ W C.items → HaveSkeletons (constant_skeletons Σ) (context_skeletons (onto C.local (items_context C.items))) C.arguments → (G : List LfType) (w : World Σ' W S G) (σ : ℕ → Image) → IsGroundInstance w C.items σ → (θ : ℕ → ℕ → Image) (ρ : ℕ → Image) → IsNumberedInstance w first (numbered first C) θ ρ → HasSameValues first C σ θ ρ → (T : Spine) → (HasArguments (lift_over C.local σ) C.arguments T → HasNumberedArguments first (numbered first C) θ ρ T) × (HasNumberedArguments first (numbered first C) θ ρ T → HasArguments (lift_over C.local σ) C.arguments T)
