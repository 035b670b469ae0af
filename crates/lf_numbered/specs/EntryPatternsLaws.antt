-- The laws of cases with block variables by number that are instances of patterns, and of runs of such cases.
use Rattle.std.specs.Prelude.{◌≡◌, ℕ, List, [], ◌∷◌, Bool, false, Some}
use Rattle.lf.specs.Syntax.{Spine}
use Rattle.lf.specs.Variables.{onto}
use Rattle.lf.specs.Typing.{Signature, IsTypedSubstitution, IsSignature}
use Rattle.lf.specs.Subordination.{Block, AreTypedBlocks, Member, SelfContained}
use Rattle.lf_checks.specs.Below.{IsSubordination}
use Rattle.lf_cases.specs.Case.{Case}
use Rattle.lf_cases.specs.Pattern.{Pattern, IsCoveredCase}
use Rattle.lf_cases.specs.Split.{HasOneBlockVariable, Ends, IsSplit}
use Rattle.lf_coverage.specs.Heads.{IsTypedCase, SplitsByHeads}
use Rattle.lf_coverage.specs.Leaf.{IsInstanceLeaf}
use Rattle.lf_coverage.specs.TypedLocal.{HasTypedLocal}
use Rattle.lf_numbered.specs.EntryConstants.{with_entries, IsFreeFrom}
use Rattle.lf_numbered.specs.EntryPatterns.{variable_images}
use Rattle.lf_numbered.specs.EntryPatternsRuns.{IsCoveredByNumber, IsNumberedLeaf, IsNumberedSplit, HasOneBlock}
use Rattle.lf_numbered.specs.NumberedCase.{NumberedCase, AreTypedVariables}
use Rattle.lf_numbered.specs.NumberedInstance.{block_at}
use Rattle.lf_numbered.specs.OwnTerms.{blocks_of, own_terms, ImageOnOwnTerms}
use Rattle.lf_numbered.specs.Numbering.{numbered}

-- Each ground instance of a typed case that is an instance of a typed pattern makes the pattern's arguments those of the clause in its own instance: what the
-- case holds, the pattern covers, also where two block variables are one instance.
abbrev pub NumberedLeafIsCovered : Type 0
NumberedLeafIsCovered = (Σ : Signature) → IsSignature Σ → (W : List Block) → AreTypedBlocks Σ W → (S : ℕ → Bool) (first : ℕ) → IsFreeFrom Σ first → (ps : List Pattern) (C : NumberedCase) → IsNumberedLeaf Σ first W ps C → IsCoveredByNumber Σ first W S ps C

-- A run that ends at such instances, each split of which holds what its case holds, covers its goal, where this has one block variable at most.
abbrev pub NumberedRunCovers : Type 0
NumberedRunCovers = (Σ : Signature) → IsSignature Σ → (W : List Block) → AreTypedBlocks Σ W → (S : ℕ → Bool) (first : ℕ) → IsFreeFrom Σ first → (ps : List Pattern) (C : NumberedCase) → HasOneBlock C → Ends (IsNumberedLeaf Σ first W ps) (IsNumberedSplit Σ first W S) C → IsCoveredByNumber Σ first W S ps C

-- A typed case is covered where its numbered form is.
abbrev pub NumberedCoversCase : Type 0
NumberedCoversCase = (Σ : Signature) → IsSignature Σ → (W : List Block) → AreTypedBlocks Σ W → (S : ℕ → Bool) (first : ℕ) → IsFreeFrom Σ first → (ps : List Pattern) (C : Case) → IsTypedCase Σ W C → IsCoveredByNumber Σ first W S ps (numbered first C) → IsCoveredCase Σ W S ps C

-- So a run of its numbered form covers it.
abbrev pub NumberedRunCoversCase : Type 0
NumberedRunCoversCase = (Σ : Signature) → IsSignature Σ → (W : List Block) → AreTypedBlocks Σ W → (S : ℕ → Bool) (first : ℕ) → IsFreeFrom Σ first → (ps : List Pattern) (C : Case) → HasOneBlockVariable C.items → IsTypedCase Σ W C → Ends (IsNumberedLeaf Σ first W ps) (IsNumberedSplit Σ first W S) (numbered first C) → IsCoveredCase Σ W S ps C

-- the numbered forms of cases
abbrev pub numbered_all : ℕ → List Case → List NumberedCase
numbered_all first [] = []
numbered_all first (C ∷ Cs) = numbered first C ∷ numbered_all first Cs

-- A split of a typed case into typed cases is one of the numbered forms.
abbrev pub SplitIsNumberedSplit : Type 0
SplitIsNumberedSplit = (Σ : Signature) → IsSignature Σ → (W : List Block) → AreTypedBlocks Σ W → (S : ℕ → Bool) (first : ℕ) → IsFreeFrom Σ first → (C : Case) (Cs : List Case) → IsTypedCase Σ W C → ((D : Case) → Member D Cs → IsTypedCase Σ W D) → IsSplit Σ W S C Cs → IsNumberedSplit Σ first W S (numbered first C) (numbered_all first Cs)

-- So a run by heads from a typed case, whose leaves are by number instances of patterns, is one by number.
abbrev pub HeadRunIsByNumber : Type 0
HeadRunIsByNumber = (Σ : Signature) → IsSignature Σ → (W : List Block) → AreTypedBlocks Σ W → (below : ℕ → ℕ → Bool) → IsSubordination Σ W below → (S : ℕ → Bool) → SelfContained Σ W S → (first : ℕ) → IsFreeFrom Σ first → (ps : List Pattern) (C : Case) → IsTypedCase Σ W C → (Ls : List Case) → ((D : Case) → Member D Ls → IsNumberedLeaf Σ first W ps (numbered first D)) → Ends (λ D. Member D Ls) (SplitsByHeads Σ W S below) C → Ends (IsNumberedLeaf Σ first W ps) (IsNumberedSplit Σ first W S) (numbered first C)

-- What a block variable of a typed case gives the variables of its block is typed, and on own terms.
abbrev pub VariableIsTyped : Type 0
VariableIsTyped = (Σ : Signature) → IsSignature Σ → (W : List Block) → AreTypedBlocks Σ W → (first : ℕ) → IsFreeFrom Σ first → (C : NumberedCase) → AreTypedVariables Σ first W C → (k : ℕ) (B : Block) (U : Spine) → block_at C.blocks k ≡ Some (record { block = B; terms = U }) → IsTypedSubstitution (with_entries Σ first (blocks_of C.blocks)) (onto B.entries B.some) C.variables (variable_images first C.blocks k B U) × ((i : ℕ) → ImageOnOwnTerms (own_terms first C.blocks) (variable_images first C.blocks k B U i))

-- A leaf by items, of the head of a clause, is one by number: a typed case that is an instance of a head, of a constant or of an entry, is so by number.
abbrev pub LeafIsNumberedLeaf : Type 0
LeafIsNumberedLeaf = (Σ : Signature) → IsSignature Σ → (W : List Block) → AreTypedBlocks Σ W → (first : ℕ) → IsFreeFrom Σ first → (ps : List Pattern) (C : Case) (l : IsInstanceLeaf Σ W ps C) → HasTypedLocal Σ C → l.pattern.at_first ≡ false → IsNumberedLeaf Σ first W ps (numbered first C)
