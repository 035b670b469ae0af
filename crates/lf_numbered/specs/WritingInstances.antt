-- Values over the written context, read back, are a ground instance: so a case that is read off has the instance that was written.
use Rattle.std.specs.Prelude.{◌≡◌, ℕ, ◌+◌, List, length, Bool}
use Rattle.lf.specs.Syntax.{Term, LfType, skeleton}
use Rattle.lf.specs.Substitution.{Image, keep, put, substitute, substitute_type, reduce, after}
use Rattle.lf.specs.Typing.{Signature, TypeAt, IsContext, IsTypedSubstitution}
use Rattle.lf.specs.Subordination.{Block}
use Rattle.lf.specs.Worlds.{World}
use Rattle.lf_numbered.specs.EntryConstants.{with_entries}
use Rattle.lf_numbered.specs.NumberedCase.{NumberedCase, IsNumberedInstance, value_in}
use Rattle.lf_numbered.specs.OwnTerms.{blocks_of, own_terms, TypeOnOwnTerms, ImageOnOwnTerms, put_in_blocks}
use Rattle.lf_numbered.specs.Writing.{IsWriting, back_over, read_back}
use Rattle.lf_numbered.specs.WritingLaws.{IsInstanceWithRoom}

-- what stands for a variable, read back in G
abbrev pub image_back : ℕ → List Block → (ℕ → ℕ → Image) → List LfType → (ℕ → ℕ) → Image → Image
image_back first Bs θ F back (keep i) = keep (back_over (length F) back i)
image_back first Bs θ F back (put a N) = put a (read_back first Bs θ F back N)

-- Typed values over F of the free variables of a case D, on the own terms of the instance, that make the block variables of D those of the instance. Of the
-- types of D's variables it is asked that they are on own terms under the values, not that they are by themselves. What stands behind D's variables is taken to
-- what stands behind F.
pub record AreValuesOver {Σ' : Signature} {W : List Block} {S : ℕ → Bool} {G : List LfType} (Σ : Signature) (w : World Σ' W S G) (first : ℕ) (C : NumberedCase) (σ : ℕ → Image) (F : List LfType) (ρ : ℕ → Image) (D : NumberedCase) (τ : ℕ → Image) : Type 0 where
  pub variables : IsContext (with_entries Σ first (blocks_of D.blocks)) D.variables
  pub typed : IsTypedSubstitution (with_entries Σ' first (blocks_of C.blocks)) D.variables F τ
  pub terms : (i : ℕ) (A : LfType) → TypeAt D.variables i A → (N : Term) × (τ i ≡ put (skeleton A) N)
  pub behind : (i : ℕ) → τ (i + length D.variables) ≡ keep (i + length F)
  pub on_own_terms : (i : ℕ) → ImageOnOwnTerms (own_terms first (put_in_blocks (after ρ σ) C.blocks)) (τ i)
  pub types_on_own_terms : (i : ℕ) (A : LfType) → TypeAt D.variables i A → TypeOnOwnTerms (own_terms first (put_in_blocks (after ρ σ) C.blocks)) (substitute_type reduce τ A)
  pub blocks : put_in_blocks τ D.blocks ≡ put_in_blocks (after ρ σ) C.blocks

-- Read back, they are a ground instance of D, with the same instances of block variables; and each term of D is there what it is under the values, read back.
abbrev pub ReadBackIsInstance : Type 0
ReadBackIsInstance = (Σ Σ' : Signature) (W : List Block) (S : ℕ → Bool) (G : List LfType) (w : World Σ' W S G) (first : ℕ) (C : NumberedCase) (θ : ℕ → ℕ → Image) (σ : ℕ → Image) → IsInstanceWithRoom Σ w first C θ σ → (F : List LfType) (ρ : ℕ → Image) (back : ℕ → ℕ) → IsWriting Σ' first (blocks_of C.blocks) θ G F ρ back → (D : NumberedCase) (τ : ℕ → Image) → AreValuesOver Σ w first C σ F ρ D τ → IsNumberedInstance w first D θ (λ i. image_back first (blocks_of C.blocks) θ F back (τ i)) × ((M : Term) → value_in first D θ (λ i. image_back first (blocks_of C.blocks) θ F back (τ i)) M ≡ read_back first (blocks_of C.blocks) θ F back (substitute reduce τ M))
