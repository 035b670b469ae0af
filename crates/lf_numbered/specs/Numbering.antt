-- A case whose block variables stand among its items, as one whose block variables have numbers.
use Rattle.std.specs.Prelude.{◌≡◌, ℕ, zero, suc, ◌+◌, List, [], ◌∷◌, ◌++◌, length}
use Rattle.lf.specs.Syntax.{Spine, LfType, skeleton}
use Rattle.lf.specs.Substitution.{Image, keep, lift, substitute_type, reduce, after}
use Rattle.lf.specs.Typing.{TypeAt}
use Rattle.lf.specs.Subordination.{Block}
use Rattle.lf.specs.Worlds.{lift_over, instance}
use Rattle.lf_cases.specs.Case.{Item, free_variable, block_variable, Case, items_context, as_term}
use Rattle.lf_cases.specs.Missing.{put_in}
use Rattle.lf_numbered.specs.EntryConstants.{entry_images}
use Rattle.lf_numbered.specs.OwnTerms.{BlockVariable, blocks_of, rename_blocks}
use Rattle.lf_numbered.specs.NumberedCase.{NumberedCase, some_spine, value_in}

-- Block variables by number and free variables, and what stands over these for each variable of the items: a free variable for a free variable, and for
-- an entry its constant on its block variable's terms.
pub record Numbering : Type 0 where
  pub blocks : List BlockVariable
  pub variables : List LfType
  pub images : ℕ → Image

-- how many constants block variables of these blocks have
abbrev pub entries_of : List Block → ℕ
entries_of [] = zero
entries_of (B ∷ Bs) = length B.entries + entries_of Bs

-- one more free variable
abbrev pub add_variable : LfType → Numbering → Numbering
add_variable A n = record { blocks = rename_blocks suc n.blocks; variables = substitute_type reduce n.images A ∷ n.variables; images = lift n.images }

-- one more block variable, whose `some` variables have the values υ
abbrev pub own_spine : Block → (ℕ → Image) → Numbering → Spine
own_spine B υ n = some_spine B.some (after n.images υ)

abbrev pub add_block_variable : ℕ → Block → (ℕ → Image) → Numbering → Numbering
add_block_variable first B υ n = record { blocks = n.blocks ++ record { block = B; terms = own_spine B υ n } ∷ []; variables = n.variables; images = entry_images (first + entries_of (blocks_of n.blocks)) (own_spine B υ n) B.entries n.images }

-- the oldest item has the first number
abbrev pub numbering : ℕ → List Item → Numbering
numbering first [] = record { blocks = []; variables = []; images = keep }
numbering first (free_variable A ∷ I) = add_variable A (numbering first I)
numbering first (block_variable B υ ∷ I) = add_block_variable first B υ (numbering first I)

abbrev pub numbered : ℕ → Case → NumberedCase
numbered first C =
    let n : Numbering = numbering first C.items in
    record { blocks = n.blocks; variables = n.variables; given = put_in n.images C.given; local = instance C.local n.images; family = C.family; arguments = put_in (lift_over C.local n.images) C.arguments }

-- The values σ of the items are those of the numbered case under θ and ρ.
abbrev pub HasSameValues : ℕ → Case → (ℕ → Image) → (ℕ → ℕ → Image) → (ℕ → Image) → Type 0
HasSameValues first C σ θ ρ = (i : ℕ) (A : LfType) → TypeAt (items_context C.items) i A → as_term (skeleton A) (σ i) ≡ value_in first (numbered first C) θ ρ (as_term (skeleton A) ((numbering first C.items).images i))
