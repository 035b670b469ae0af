-- The laws of writing.
use Rattle.std.specs.Prelude.{◌≡◌, ℕ, List, length, Bool}
use Rattle.lf.specs.Syntax.{Term, LfType}
use Rattle.lf.specs.Substitution.{Image, substitute, substitute_type, reduce, after}
use Rattle.lf.specs.Typing.{Signature, TypeAt, IsSignature, HasType, IsType, IsTypedSubstitution}
use Rattle.lf.specs.Variables.{nothing}
use Rattle.lf.specs.Subordination.{Block, AreTypedBlocks}
use Rattle.lf.specs.Worlds.{World}
use Rattle.lf.specs.Extension.{Extends}
use Rattle.lf_numbered.specs.EntryConstants.{with_entries, IsFreeFrom}
use Rattle.lf_numbered.specs.OwnTerms.{blocks_of, own_terms, OnOwnTerms, TypeOnOwnTerms, ImageOnOwnTerms, put_in_blocks}
use Rattle.lf_numbered.specs.NumberedCase.{NumberedCase, AreTypedVariables, IsNumberedInstance, value_in, type_in}
use Rattle.lf_numbered.specs.NewInstance.{AreApart}
use Rattle.lf_numbered.specs.Numbering.{entries_of}
use Rattle.lf_numbered.specs.OwnValuesReading.{ReadsBack}
use Rattle.lf_numbered.specs.Reading.{entry_reading}
use Rattle.lf_numbered.specs.Writing.{IsFreeBetween, IsWriting, back_over, read_back, read_type_back}

-- A ground instance of a typed case, in a context of worlds, over an extension that leaves the numbers of the entry constants free.
pub record IsInstanceWithRoom {Σ' : Signature} {W : List Block} {S : ℕ → Bool} {G : List LfType} (Σ : Signature) (w : World Σ' W S G) (first : ℕ) (C : NumberedCase) (θ : ℕ → ℕ → Image) (σ : ℕ → Image) : Type 0 where
  pub signature : IsSignature Σ
  pub extends : Extends S Σ Σ'
  pub blocks : AreTypedBlocks Σ W
  pub free : IsFreeFrom Σ first
  pub room : IsFreeBetween Σ' first (entries_of (blocks_of C.blocks))
  pub variables : AreTypedVariables Σ first W C
  pub is_instance : IsNumberedInstance w first C θ σ

-- The signature with entries over such an extension extends the one of the case, so that what unification finds over this holds over that too.
abbrev pub EntriesExtend : Type 0
EntriesExtend = (Σ Σ' : Signature) (W : List Block) (S : ℕ → Bool) (G : List LfType) (w : World Σ' W S G) (first : ℕ) (C : NumberedCase) (θ : ℕ → ℕ → Image) (σ : ℕ → Image) → IsInstanceWithRoom Σ w first C θ σ → Extends nothing (with_entries Σ first (blocks_of C.blocks)) (with_entries Σ' first (blocks_of C.blocks))

-- It can be written where block variables are apart.
abbrev pub InstanceIsWritten : Type 0
InstanceIsWritten = (Σ Σ' : Signature) (W : List Block) (S : ℕ → Bool) (G : List LfType) (w : World Σ' W S G) (first : ℕ) (C : NumberedCase) (θ : ℕ → ℕ → Image) (σ : ℕ → Image) → IsInstanceWithRoom Σ w first C θ σ → AreApart C θ → (F : List LfType) × (ρ : ℕ → Image) × (back : ℕ → ℕ) × IsWriting Σ' first (blocks_of C.blocks) θ G F ρ back

-- A term of the case that is typed and on own terms, under the instance and then written, is itself with the written values put in.
abbrev pub ValuesAreWritten : Type 0
ValuesAreWritten = (Σ Σ' : Signature) (W : List Block) (S : ℕ → Bool) (G : List LfType) (w : World Σ' W S G) (first : ℕ) (C : NumberedCase) (θ : ℕ → ℕ → Image) (σ : ℕ → Image) → IsInstanceWithRoom Σ w first C θ σ → (F : List LfType) (ρ : ℕ → Image) (back : ℕ → ℕ) → IsWriting Σ' first (blocks_of C.blocks) θ G F ρ back → ((M : Term) (A : LfType) → HasType (with_entries Σ first (blocks_of C.blocks)) C.variables M A → OnOwnTerms (own_terms first C.blocks) M → substitute reduce ρ (value_in first C θ σ M) ≡ substitute reduce (after ρ σ) M) × ((A : LfType) → IsType (with_entries Σ first (blocks_of C.blocks)) C.variables A → TypeOnOwnTerms (own_terms first C.blocks) A → substitute_type reduce ρ (type_in first C θ σ A) ≡ substitute_type reduce (after ρ σ) A)

-- What is written is read back as it was.
abbrev pub WrittenIsReadBack : Type 0
WrittenIsReadBack = (Σ Σ' : Signature) (W : List Block) (S : ℕ → Bool) (G : List LfType) (w : World Σ' W S G) (first : ℕ) (C : NumberedCase) (θ : ℕ → ℕ → Image) (σ : ℕ → Image) → IsInstanceWithRoom Σ w first C θ σ → (F : List LfType) (ρ : ℕ → Image) (back : ℕ → ℕ) → IsWriting Σ' first (blocks_of C.blocks) θ G F ρ back → ((N : Term) (A : LfType) → HasType Σ' G N A → read_back first (blocks_of C.blocks) θ F back (substitute reduce ρ N) ≡ N) × ((A : LfType) → IsType Σ' G A → read_type_back first (blocks_of C.blocks) θ F back (substitute_type reduce ρ A) ≡ A)

-- The written values are typed values of the free variables, with the types of the case, and stand on own terms: those of the block variables with these
-- values put in. So does what is written of any typed term of the context.
abbrev pub WrittenValuesAreTyped : Type 0
WrittenValuesAreTyped = (Σ Σ' : Signature) (W : List Block) (S : ℕ → Bool) (G : List LfType) (w : World Σ' W S G) (first : ℕ) (C : NumberedCase) (θ : ℕ → ℕ → Image) (σ : ℕ → Image) → IsInstanceWithRoom Σ w first C θ σ → (F : List LfType) (ρ : ℕ → Image) (back : ℕ → ℕ) → IsWriting Σ' first (blocks_of C.blocks) θ G F ρ back → IsTypedSubstitution (with_entries Σ' first (blocks_of C.blocks)) C.variables F (after ρ σ) × ((i : ℕ) (A : LfType) → TypeAt C.variables i A → ImageOnOwnTerms (own_terms first (put_in_blocks (after ρ σ) C.blocks)) (after ρ σ i)) × ((N : Term) (A : LfType) → HasType Σ' G N A → OnOwnTerms (own_terms first (put_in_blocks (after ρ σ) C.blocks)) (substitute reduce ρ N))

-- Terms over entry constants in the context of what is written are read back: so (ReadBackIsTyped) what is typed there, on own terms, is typed when it is.
abbrev pub WrittenReadsBack : Type 0
WrittenReadsBack = (Σ Σ' : Signature) (W : List Block) (S : ℕ → Bool) (G : List LfType) (w : World Σ' W S G) (first : ℕ) (C : NumberedCase) (θ : ℕ → ℕ → Image) (σ : ℕ → Image) → IsInstanceWithRoom Σ w first C θ σ → (F : List LfType) (ρ : ℕ → Image) (back : ℕ → ℕ) → IsWriting Σ' first (blocks_of C.blocks) θ G F ρ back → ReadsBack Σ' Σ' first (blocks_of C.blocks) F G (entry_reading first (blocks_of C.blocks) θ (length F)) (own_terms first (put_in_blocks (after ρ σ) C.blocks)) (back_over (length F) back)
