-- Typed instances of cases whose block variables have numbers. Each block variable of the one case is one of the other; two of them may be the same
-- there, which then has one constant for each entry of both. Its `some` terms are those of both under the values.
use Rattle.std.specs.Prelude.{◌≡◌, ℕ, zero, suc, ◌+◌, ◌<◌, List, [], ◌∷◌, length, Option, Some, None}
use Rattle.lf.specs.Syntax.{constant, variable, metavariable, Term, Spine, lambda, root, nil, app, LfType, pi, atom, skeleton}
use Rattle.lf.specs.Substitution.{Image, keep, put, substitute_spine, substitute_type, reduce}
use Rattle.lf.specs.AtOnce.{in_front}
use Rattle.lf.specs.Typing.{Signature, HasType}
use Rattle.lf.specs.Subordination.{Block}
use Rattle.lf.specs.Worlds.{lift_over, instance}
use Rattle.lf_cases.specs.Missing.{put_in}
use Rattle.lf_numbered.specs.EntryConstants.{EntryConstant, entry_constant, with_entries}
use Rattle.lf_numbered.specs.OwnTerms.{BlockVariable, blocks_of, own_terms, OnOwnTerms}
use Rattle.lf_numbered.specs.NumberedCase.{NumberedCase}

-- the block variable of a number
abbrev pub block_at : List BlockVariable → ℕ → Option BlockVariable
block_at [] k = None
block_at (b ∷ bs) zero = Some b
block_at (b ∷ bs) (suc k) = block_at bs k

-- the first constant of the block variable of a number, where n is that of the first one
abbrev pub first_constant : ℕ → List Block → ℕ → ℕ
first_constant n [] k = n
first_constant n (B ∷ Bs) zero = n
first_constant n (B ∷ Bs) (suc k) = first_constant (n + length B.entries) Bs k

-- Where block variable k becomes block variable π k of others, whose blocks are Cs, the constant of an entry becomes that of the same entry there.
abbrev pub moved_entry : ℕ → List Block → (ℕ → ℕ) → ℕ → Option EntryConstant → ℕ
moved_entry first Cs π c None = c
moved_entry first Cs π c (Some e) = first_constant first Cs (π e.number) + length e.before

abbrev pub moved_constant : ℕ → List Block → List Block → (ℕ → ℕ) → ℕ → ℕ
moved_constant first Bs Cs π c = moved_entry first Cs π c (entry_constant zero first Bs c)

-- a term with other constants
abbrev mutual
  pub move : (ℕ → ℕ) → Term → Term
  move γ (lambda M) = lambda (move γ M)
  move γ (root (constant c) S) = root (constant (γ c)) (move_spine γ S)
  move γ (root (variable i) S) = root (variable i) (move_spine γ S)
  move γ (root (metavariable m) S) = root (metavariable m) (move_spine γ S)

  pub move_spine : (ℕ → ℕ) → Spine → Spine
  move_spine γ nil = nil
  move_spine γ (app M S) = app (move γ M) (move_spine γ S)

abbrev pub move_type : (ℕ → ℕ) → LfType → LfType
move_type γ (pi A B) = pi (move_type γ A) (move_type γ B)
move_type γ (atom a S) = atom a (move_spine γ S)

abbrev pub move_types : (ℕ → ℕ) → List LfType → List LfType
move_types γ [] = []
move_types γ (A ∷ D) = move_type γ A ∷ move_types γ D

abbrev pub move_all : (ℕ → ℕ) → List (Option Term) → List (Option Term)
move_all γ [] = []
move_all γ (Some M ∷ Ms) = Some (move γ M) ∷ move_all γ Ms
move_all γ (None ∷ Ms) = None ∷ move_all γ Ms

-- Typed terms over Y, on own terms, for the free variables X, whose types have the constants γ. What stands behind X stands behind Y.
abbrev pub AreTypedValues : Signature → List LfType → (ℕ → Option Spine) → (ℕ → ℕ) → List LfType → (ℕ → Image) → Type 0
AreTypedValues Σ Y o γ [] σ = σ ≡ (λ i. keep (i + length Y))
AreTypedValues Σ Y o γ (A ∷ X) σ = (N : Term) × (τ : ℕ → Image) × AreTypedValues Σ Y o γ X τ × HasType Σ Y N (substitute_type reduce τ (move_type γ A)) × OnOwnTerms o N × (σ ≡ in_front (put (skeleton A) N) τ)

-- A typed instance over J of the variables of C: block variable k becomes the block variable π k of J, of the same block, with the same terms under
-- the values σ; and these are typed, on own terms.
pub record IsTypedInstanceOf (Σ : Signature) (first : ℕ) (J C : NumberedCase) (π : ℕ → ℕ) (σ : ℕ → Image) : Type 0 where
  pub blocks : (k : ℕ) (b : BlockVariable) → block_at C.blocks k ≡ Some b → block_at J.blocks (π k) ≡ Some (record { block = b.block; terms = substitute_spine reduce σ (move_spine (moved_constant first (blocks_of C.blocks) (blocks_of J.blocks) π) b.terms) })
  pub values : AreTypedValues (with_entries Σ first (blocks_of J.blocks)) J.variables (own_terms first J.blocks) (moved_constant first (blocks_of C.blocks) (blocks_of J.blocks) π) C.variables σ

-- Different block variables stay different, as in a split.
abbrev pub KeepsNumbersApart : NumberedCase → (ℕ → ℕ) → Type 0
KeepsNumbersApart C π = (j k : ℕ) → j < length C.blocks → k < length C.blocks → π j ≡ π k → j ≡ k

-- J is an instance of the case C.
pub record IsNumberedInstanceOf (Σ : Signature) (first : ℕ) (J C : NumberedCase) (π : ℕ → ℕ) (σ : ℕ → Image) : Type 0 where
  pub is_instance : IsTypedInstanceOf Σ first J C π σ
  pub family : J.family ≡ C.family
  pub given : J.given ≡ put_in σ (move_all (moved_constant first (blocks_of C.blocks) (blocks_of J.blocks) π) C.given)
  pub local : J.local ≡ instance (move_types (moved_constant first (blocks_of C.blocks) (blocks_of J.blocks) π) C.local) σ
  pub arguments : J.arguments ≡ put_in (lift_over C.local σ) (move_all (moved_constant first (blocks_of C.blocks) (blocks_of J.blocks) π) C.arguments)
