-- The head of what a ground instance gives a free variable of a case with block variables by number. It is one of the heads that a split over the
-- signature with entries offers, or an entry of an instance for which there is no block variable yet.
use Rattle.std.specs.Prelude.{◌≡◌, ℕ, ◌+◌, ◌<◌, ◌⊎◌, List, ◌∷◌, length, Bool, true, Some}
use Rattle.lf.specs.Syntax.{Head, constant, variable, Term, Spine, root, LfType, skeleton}
use Rattle.lf.specs.Substitution.{Image, keep, put}
use Rattle.lf.specs.Eta.{append, lambdas}
use Rattle.lf.specs.Typing.{Signature, TypeAt, IsSignature}
use Rattle.lf.specs.Variables.{target, onto}
use Rattle.lf.specs.Subordination.{Block, Member, AreTypedBlocks}
use Rattle.lf.specs.Worlds.{World}
use Rattle.lf.specs.Extension.{Extends}
use Rattle.lf_cases.specs.Cover.{InstanceIn, place_of}
use Rattle.lf_cases.specs.Reached.{taken}
use Rattle.lf_numbered.specs.EntryConstants.{IsFreeFrom, with_entries}
use Rattle.lf_numbered.specs.NumberedCase.{NumberedCase, AreTypedVariables, IsNumberedInstance}
use Rattle.lf_numbered.specs.NumberedInstance.{block_at}
use Rattle.lf_numbered.specs.OwnTerms.{BlockVariable, blocks_of, own_terms}
use Rattle.lf_numbered.specs.Reading.{entry_reading, read, read_spine}

-- no block variable stands for the instance φ of B
abbrev pub StandsForNone : NumberedCase → (ℕ → ℕ → Image) → Block → (ℕ → Image) → Type 0
StandsForNone C θ B φ = (k : ℕ) (b : BlockVariable) → block_at C.blocks k ≡ Some b → b.block ≡ B → θ k ≡ φ → ⊥

-- A head of the family a under n variables that are taken: a constant of Σ; a variable that is taken, of whatever
-- family; or what the constant of an entry is read as.
pub data IsNumberedHead (Σ : Signature) (first : ℕ) (C : NumberedCase) (θ : ℕ → ℕ → Image) (n a : ℕ) : Head → Type 0 where
  of_signature : (k : ℕ) (U : LfType) → Σ.types k ≡ Some U → target U ≡ a → IsNumberedHead Σ first C θ n a (constant k)
  of_taken : (j : ℕ) → j < n → IsNumberedHead Σ first C θ n a (variable j)
  of_entry : (c m v : ℕ) (A : LfType) → (with_entries Σ first (blocks_of C.blocks)).types c ≡ Some A → target A ≡ a → entry_reading first (blocks_of C.blocks) θ n c ≡ Some (m, v) → IsNumberedHead Σ first C θ n a (variable v)

-- The head is an entry of an instance for which no block variable stands.
pub record IsNewEntry {Σ' : Signature} {W : List Block} {S : ℕ → Bool} {G : List LfType} (w : World Σ' W S G) (C : NumberedCase) (θ : ℕ → ℕ → Image) (n a : ℕ) (h : Head) : Type 0 where
  pub block : Block
  pub of_worlds : Member block W
  pub later : List LfType
  pub entry : LfType
  pub before : List LfType
  pub entries : onto later (entry ∷ before) ≡ block.entries
  pub family : target entry ≡ a
  pub instance : ℕ → Image
  pub in_context : InstanceIn w block instance
  pub number : ℕ
  pub at : instance (place_of later) ≡ keep number
  pub is_new : StandsForNone C θ block instance
  pub is_head : h ≡ variable (number + n)

-- In each ground instance a free variable whose family is in S is a term with such a head, under the variables that it takes.
abbrev pub NumberedHeadsAreAll : Type 0
NumberedHeadsAreAll = (Σ Σ' : Signature) → IsSignature Σ → (S : ℕ → Bool) → Extends S Σ Σ' → (W : List Block) → AreTypedBlocks Σ W → (first : ℕ) → IsFreeFrom Σ first → (C : NumberedCase) (G : List LfType) (w : World Σ' W S G) (θ : ℕ → ℕ → Image) (σ : ℕ → Image) → IsNumberedInstance w first C θ σ → (x : ℕ) (A : LfType) → TypeAt C.variables x A → S (target A) ≡ true → (N : Term) × (h : Head) × (T : Spine) × (σ x ≡ put (skeleton A) N) × (N ≡ lambdas (length (taken A)) (root h T)) × (IsNumberedHead Σ first C θ (length (taken A)) (target A) h ⊎ IsNewEntry w C θ (length (taken A)) (target A) h)

-- The constant of an entry that is read as a head stands on its block variable's terms: on these, before other arguments, it is read as the head on those.
abbrev pub EntryOnOwnTermsIsRead : Type 0
EntryOnOwnTermsIsRead = (Σ : Signature) (first : ℕ) (W : List Block) (C : NumberedCase) → AreTypedVariables Σ first W C → (θ : ℕ → ℕ → Image) (n c m v : ℕ) → entry_reading first (blocks_of C.blocks) θ n c ≡ Some (m, v) → (U : Spine) × (own_terms first C.blocks c ≡ Some U) × ((S : Spine) → read (entry_reading first (blocks_of C.blocks) θ n) (root (constant c) (append U S)) ≡ root (variable v) (read_spine (entry_reading first (blocks_of C.blocks) θ n) S))
