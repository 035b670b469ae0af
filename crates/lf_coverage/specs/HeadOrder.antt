-- Heads that are offered in a split, and their order: constants in order of declaration; the entries of the blocks in the order of the worlds, each as that of a new
-- block variable and then as that of each block variable of the case, the oldest first; then the variables that the split variable takes, the
-- outermost first.
use Rattle.std.specs.Prelude.{◌≡◌, ℕ, zero, suc, ◌+◌, ◌-◌, ◌<◌, ◌⊎◌, List, [], ◌∷◌, length}
use Rattle.lf.specs.Syntax.{Head, constant, variable, LfType}
use Rattle.lf.specs.Subordination.{Block}
use Rattle.lf_cases.specs.Case.{Item, free_variable, block_variable}
use Rattle.lf_cases.specs.ClauseOrder.{StandsAt, ComesBefore}
use Rattle.lf_cases.specs.Reached.{taken, with_block}

-- A head that is offered: with its items, by how much those of the case have moved, and its type.
pub record Offer : Type 0 where
  pub items : List Item
  pub moved : ℕ
  pub head : Head
  pub type : LfType

-- how many of the items are block variables
abbrev pub block_count : List Item → ℕ
block_count [] = zero
block_count (free_variable A ∷ I) = block_count I
block_count (block_variable B υ ∷ I) = suc (block_count I)

-- The variable j of the items is the entry k of the block variable with the number v, whose block is B. The oldest block variable has the number 0.
abbrev pub IsEntryOf : List Item → ℕ → Block → ℕ → ℕ → Type 0
IsEntryOf [] v B k j = ⊥
IsEntryOf (free_variable A ∷ I) v B k zero = ⊥
IsEntryOf (free_variable A ∷ I) v B k (suc j) = IsEntryOf I v B k j
IsEntryOf (block_variable C υ ∷ I) v B k j = ((C ≡ B) × (v ≡ block_count I) × (k ≡ j) × (j < length C.entries)) ⊎ ((i : ℕ) × (j ≡ i + length C.entries) × IsEntryOf I v B k i)

-- the place of an offer in the order, as a list of numbers
pub data HasRank (W : List Block) (I : List Item) (X : LfType) : Offer → List ℕ → Type 0 where
  constant_rank : (k : ℕ) (U : LfType) → HasRank W I X (record { items = I; moved = zero; head = constant k; type = U }) (0 ∷ k ∷ [])
  new_rank : (B : Block) (w j : ℕ) (A : LfType) → StandsAt w B W → j < length B.entries → HasRank W I X (record { items = with_block B I; moved = length B.some + length B.entries; head = variable (j + length (taken X)); type = A }) (1 ∷ w ∷ (length B.entries - suc j) ∷ 0 ∷ [])
  old_rank : (B : Block) (w v k j : ℕ) (A : LfType) → StandsAt w B W → IsEntryOf I v B k j → HasRank W I X (record { items = I; moved = zero; head = variable (j + length (taken X)); type = A }) (1 ∷ w ∷ (length B.entries - suc k) ∷ suc v ∷ [])
  bound_rank : (j : ℕ) (A : LfType) → j < length (taken X) → HasRank W I X (record { items = I; moved = zero; head = variable j; type = A }) (2 ∷ (length (taken X) - suc j) ∷ [])

-- Each stands before the next, by its rank.
pub data AreRanked {Offered : Type 0} (HasRankOf : Offered → List ℕ → Type 0) : List Offered → Type 0 where
  none_offered : AreRanked HasRankOf []
  one_offered : {h : Offered} (r : List ℕ) → HasRankOf h r → AreRanked HasRankOf (h ∷ [])
  next_offered : {h k : Offered} {hs : List Offered} (r s : List ℕ) → HasRankOf h r → HasRankOf k s → ComesBefore r s → AreRanked HasRankOf (k ∷ hs) → AreRanked HasRankOf (h ∷ k ∷ hs)

-- The offers are in order. For X of plus X Y _ it is z and then s; for exp in the worlds of a block it is lam, app and then the entry x.
abbrev pub AreInOrder : List Block → List Item → LfType → List Offer → Type 0
AreInOrder W I X = AreRanked (HasRank W I X)
