-- Cases whose block variables have numbers: a case of the empty world, over the signature with a constant for each entry of its block variables.
-- Typing and unification alone speak of that signature. Worlds, subordination and sets of families are those of the signature without entries: the
-- type of an entry constant quantifies over the families of `some` variables, which needn't be below its own.
use Rattle.std.specs.Prelude.{◌≡◌, ℕ, zero, suc, List, [], ◌∷◌, length, Bool, Option}
use Rattle.lf.specs.Syntax.{Term, Spine, nil, LfType, skeleton}
use Rattle.lf.specs.Substitution.{Image, keep, put, substitute, substitute_spine, substitute_type, reduce}
use Rattle.lf.specs.AtOnce.{in_front}
use Rattle.lf.specs.Eta.{add_last}
use Rattle.lf.specs.Typing.{Signature, TypeAt, HasType, IsContext, IsTypedSubstitution}
use Rattle.lf.specs.Subordination.{Block, Member}
use Rattle.lf.specs.Worlds.{World}
use Rattle.lf_cases.specs.Cover.{InstanceIn}
use Rattle.lf_cases.specs.Case.{as_term, behind_entries}
use Rattle.lf_numbered.specs.EntryConstants.{with_entries}
use Rattle.lf_numbered.specs.OwnTerms.{BlockVariable, blocks_of, own_terms, SpineOnOwnTerms, TypeOnOwnTerms}
use Rattle.lf_numbered.specs.Reading.{read, read_spine, read_type, entry_reading}

-- Its block variables by number, the oldest first; its free variables, a telescope of types, the newest in front; over these the given terms and the
-- local context; and under this the arguments. The terms of block variables are over all free variables.
pub record NumberedCase : Type 0 where
  pub blocks : List BlockVariable
  pub variables : List LfType
  pub given : List (Option Term)
  pub local : List LfType
  pub family : ℕ
  pub arguments : List (Option Term)

-- what stands for `some` variables, as terms, the oldest first
abbrev pub some_spine : List LfType → (ℕ → Image) → Spine
some_spine [] υ = nil
some_spine (A ∷ O) υ = add_last (some_spine O (λ i. υ (suc i))) (as_term (skeleton A) (υ zero))

-- The terms are typed values over X of the `some` variables O.
abbrev pub AreSomeTerms : Signature → List LfType → List LfType → Spine → Type 0
AreSomeTerms Σ X O U = (υ : ℕ → Image) × IsTypedSubstitution Σ O X υ × (U ≡ some_spine O υ)

-- Each block is one of W, and its terms are those of its `some` variables, and stand on own terms.
abbrev pub AreTypedBlockVariables : Signature → List Block → List LfType → (ℕ → Option Spine) → List BlockVariable → Type 0
AreTypedBlockVariables Σ W X o [] = Unit {0}
AreTypedBlockVariables Σ W X o (b ∷ bs) = Member b.block W × AreSomeTerms Σ X b.block.some b.terms × SpineOnOwnTerms o b.terms × AreTypedBlockVariables Σ W X o bs

-- The free variables and block variables of a case are typed over the signature with its entries, where `first` is the first of them: its free
-- variables have an order in which types mention only what is behind, also in the terms of block variables, and stand on own terms.
pub record AreTypedVariables (Σ : Signature) (first : ℕ) (W : List Block) (C : NumberedCase) : Type 0 where
  pub variables : IsContext (with_entries Σ first (blocks_of C.blocks)) C.variables
  pub on_own_terms : (i : ℕ) (A : LfType) → TypeAt C.variables i A → TypeOnOwnTerms (own_terms first C.blocks) A
  pub blocks : AreTypedBlockVariables (with_entries Σ first (blocks_of C.blocks)) W C.variables (own_terms first C.blocks) C.blocks

-- Typed values in the context G of the free variables X, where f n reads terms over n variables. The context stands behind X.
abbrev pub AreGroundValues : Signature → List LfType → (ℕ → ℕ → Option (ℕ × ℕ)) → List LfType → (ℕ → Image) → Type 0
AreGroundValues Σ G f [] σ = σ ≡ keep
AreGroundValues Σ G f (A ∷ X) σ = (N : Term) × (τ : ℕ → Image) × AreGroundValues Σ G f X τ × HasType Σ G N (substitute_type reduce τ (read_type (f (length X)) A)) × (σ ≡ in_front (put (skeleton A) N) τ)

-- An instance of the context for each block variable, from the number k on: its `some` terms are those of the block variable, read by f under σ.
abbrev pub AreInstances : {Σ : Signature} {W : List Block} {S : ℕ → Bool} {G : List LfType} → World Σ W S G → (ℕ → Option (ℕ × ℕ)) → (ℕ → Image) → (ℕ → ℕ → Image) → ℕ → List BlockVariable → Type 0
AreInstances w f σ θ k [] = Unit {0}
AreInstances w f σ θ k (b ∷ bs) = InstanceIn w b.block (θ k) × (some_spine b.block.some (behind_entries b.block.entries (θ k)) ≡ substitute_spine reduce σ (read_spine f b.terms)) × AreInstances w f σ θ (suc k) bs

-- A ground instance of a case in a context of worlds: θ gives an instance for each block variable, and σ a typed term for each free variable. Two
-- block variables may be the same instance, at any place of the context.
pub record IsNumberedInstance {Σ : Signature} {W : List Block} {S : ℕ → Bool} {G : List LfType} (w : World Σ W S G) (first : ℕ) (C : NumberedCase) (θ : ℕ → ℕ → Image) (σ : ℕ → Image) : Type 0 where
  pub values : AreGroundValues Σ G (entry_reading first (blocks_of C.blocks) θ) C.variables σ
  pub instances : AreInstances w (entry_reading first (blocks_of C.blocks) θ (length C.variables)) σ θ zero C.blocks

-- A term of the case, and a type, in the context under this instance.
abbrev pub value_in : ℕ → NumberedCase → (ℕ → ℕ → Image) → (ℕ → Image) → Term → Term
value_in first C θ σ M = substitute reduce σ (read (entry_reading first (blocks_of C.blocks) θ (length C.variables)) M)

abbrev pub type_in : ℕ → NumberedCase → (ℕ → ℕ → Image) → (ℕ → Image) → LfType → LfType
type_in first C θ σ A = substitute_type reduce σ (read_type (entry_reading first (blocks_of C.blocks) θ (length C.variables)) A)
