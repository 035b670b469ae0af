-- The laws of block variables as constants.
use Rattle.std.specs.Prelude.{◌≡◌, ℕ, zero, List, ◌++◌, Bool}
use Rattle.lf.specs.Syntax.{Term, LfType}
use Rattle.lf.specs.Substitution.{Image, substitute, substitute_type, reduce}
use Rattle.lf.specs.Typing.{Signature, IsSignature, HasType, IsType}
use Rattle.lf.specs.Subordination.{Block, AreTypedBlocks}
use Rattle.lf.specs.Worlds.{World}
use Rattle.lf.specs.Extension.{Extends}
use Rattle.lf_cases.specs.Case.{Case, IsGroundInstance}
use Rattle.lf_cases.specs.Missing.{AreTypedItems}
use Rattle.lf_cases.specs.Pattern.{FirstInstance}
use Rattle.lf_numbered.specs.EntryConstants.{with_entries, IsFreeFrom}
use Rattle.lf_numbered.specs.OwnTerms.{BlockVariable, blocks_of, own_terms, OnOwnTerms, TypeOnOwnTerms, ImageOnOwnTerms, put_in_blocks}
use Rattle.lf_numbered.specs.NumberedCase.{NumberedCase, AreTypedVariables, IsNumberedInstance, value_in, type_in}
use Rattle.lf_numbered.specs.Numbering.{numbered, HasSameValues}

-- A signature with a constant for each entry of typed blocks is a signature.
abbrev pub WithEntriesIsSignature : Type 0
WithEntriesIsSignature = (Σ : Signature) → IsSignature Σ → (first : ℕ) → IsFreeFrom Σ first → (Bs : List Block) → AreTypedBlocks Σ Bs → IsSignature (with_entries Σ first Bs)

-- What is typed without these constants stays typed.
abbrev pub OldTypingsStay : Type 0
OldTypingsStay = (Σ : Signature) (first : ℕ) (Bs : List Block) (G : List LfType) → ((M : Term) (A : LfType) → HasType Σ G M A → HasType (with_entries Σ first Bs) G M A) × ((A : LfType) → IsType Σ G A → IsType (with_entries Σ first Bs) G A)

-- What is typed over the entries of some block variables stays typed where further ones come behind them: no constant has moved.
abbrev pub EarlierEntriesStay : Type 0
EarlierEntriesStay = (Σ : Signature) (first : ℕ) (Bs Cs : List Block) (G : List LfType) → ((M : Term) (A : LfType) → HasType (with_entries Σ first Bs) G M A → HasType (with_entries Σ first (Bs ++ Cs)) G M A) × ((A : LfType) → IsType (with_entries Σ first Bs) G A → IsType (with_entries Σ first (Bs ++ Cs)) G A)

-- Values on own terms, put into a term on own terms, give one: the own terms of the block variables are then those with the values put in.
abbrev pub OwnTermsAreKept : Type 0
OwnTermsAreKept = (first : ℕ) (bs : List BlockVariable) (σ : ℕ → Image) → ((i : ℕ) → ImageOnOwnTerms (own_terms first (put_in_blocks σ bs)) (σ i)) → ((M : Term) → OnOwnTerms (own_terms first bs) M → OnOwnTerms (own_terms first (put_in_blocks σ bs)) (substitute reduce σ M)) × ((A : LfType) → TypeOnOwnTerms (own_terms first bs) A → TypeOnOwnTerms (own_terms first (put_in_blocks σ bs)) (substitute_type reduce σ A))

-- What is typed over the entries of some block variables and stands on their own terms does so where further block variables come behind them.
abbrev pub OwnTermsStay : Type 0
OwnTermsStay = (Σ : Signature) (first : ℕ) → IsFreeFrom Σ first → (bs cs : List BlockVariable) (G : List LfType) → ((M : Term) (A : LfType) → HasType (with_entries Σ first (blocks_of bs)) G M A → OnOwnTerms (own_terms first bs) M → OnOwnTerms (own_terms first (bs ++ cs)) M) × ((A : LfType) → IsType (with_entries Σ first (blocks_of bs)) G A → TypeOnOwnTerms (own_terms first bs) A → TypeOnOwnTerms (own_terms first (bs ++ cs)) A)

-- A term of a case with block variables by number that is typed and on own terms, read under a ground instance, has there its type, read so: in each
-- extension of the signature and each context of worlds in it. The entry constants are read away first; then the values are put in.
abbrev pub ReadingKeepsTyping : Type 0
ReadingKeepsTyping = (Σ Σ' : Signature) → IsSignature Σ → (S : ℕ → Bool) → Extends S Σ Σ' → (W : List Block) → AreTypedBlocks Σ W → (first : ℕ) → IsFreeFrom Σ first → (C : NumberedCase) → AreTypedVariables Σ first W C → (G : List LfType) (w : World Σ' W S G) (θ : ℕ → ℕ → Image) (σ : ℕ → Image) → IsNumberedInstance w first C θ σ → (M : Term) (A : LfType) → IsType (with_entries Σ first (blocks_of C.blocks)) C.variables A → TypeOnOwnTerms (own_terms first C.blocks) A → HasType (with_entries Σ first (blocks_of C.blocks)) C.variables M A → OnOwnTerms (own_terms first C.blocks) M → HasType Σ' G (value_in first C θ σ M) (type_in first C θ σ A)

-- Each ground instance of a case with typed items is one of the numbered case, with the same values, in which the first block variable's instance is that
-- of number 0; and back: in each extension of the signature and each context of worlds.
abbrev pub NumberedHasSameInstances : Type 0
NumberedHasSameInstances = (Σ Σ' : Signature) → IsSignature Σ → (S : ℕ → Bool) → Extends S Σ Σ' → (W : List Block) → AreTypedBlocks Σ W → (first : ℕ) → IsFreeFrom Σ first → (C : Case) → AreTypedItems Σ W C.items → (G : List LfType) (w : World Σ' W S G) → ((σ : ℕ → Image) (g : IsGroundInstance w C.items σ) → (θ : ℕ → ℕ → Image) × (ρ : ℕ → Image) × IsNumberedInstance w first (numbered first C) θ ρ × HasSameValues first C σ θ ρ × ((B : Block) (φ : ℕ → Image) → FirstInstance w C.items σ g B φ → φ ≡ θ zero)) × ((θ : ℕ → ℕ → Image) (ρ : ℕ → Image) → IsNumberedInstance w first (numbered first C) θ ρ → (σ : ℕ → Image) × (g : IsGroundInstance w C.items σ) × HasSameValues first C σ θ ρ × ((B : Block) (φ : ℕ → Image) → FirstInstance w C.items σ g B φ → φ ≡ θ zero))

-- And where the items of a case are typed, so are the variables of the numbered case, and they stand on own terms.
abbrev pub NumberedIsTyped : Type 0
NumberedIsTyped = (Σ : Signature) → IsSignature Σ → (W : List Block) → AreTypedBlocks Σ W → (first : ℕ) → IsFreeFrom Σ first → (C : Case) → AreTypedItems Σ W C.items → AreTypedVariables Σ first W (numbered first C)
