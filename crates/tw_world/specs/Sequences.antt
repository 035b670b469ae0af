-- A table of the parts of a local context that are sequences of instances.
use Rattle.std.specs.Prelude.{◌≡◌, ℕ, zero, suc, ◌++◌, ◌-◌, ◌<◌, ◌≤◌, List, [], ◌∷◌, length, drop, take, get_or, Bool, true, false, ◌⊎◌}
use Rattle.lf.specs.Subordination.{Block, Member}
use Rattle.lf.specs.Syntax.{LfType}
use Rattle.lf.specs.Typing.{Signature}
use Rattle.lf.specs.Variables.{onto}
use Rattle.lf_checks.specs.Worlded.{IsSequence, IsStrictBlock}
use Rattle.tw_world.specs.Instances.{InstanceGoesDeep, IsInstance}

-- the types of D from number k on, which are older than the k newest, are a sequence
abbrev pub says : List Bool → ℕ → Bool
says t k = get_or t k false

-- no part of so many is said to be one
abbrev pub none_said : ℕ → List Bool
none_said zero = []
none_said (suc n) = none_said n ++ false ∷ []

-- of a context with n types, the part without any alone is
abbrev pub first_said : ℕ → List Bool
first_said n = none_said n ++ true ∷ []

-- a strict block has an instance where the k newest types of D end, in what stands before it
pub record Stands (Σ : Signature) (G D : List LfType) (k : ℕ) (B : Block) : Type 0 where
  pub strict : IsStrictBlock B
  pub entries : 0 < length B.entries
  pub within : length B.entries ≤ k
  pub is_instance : IsInstance Σ B G (take (length B.entries) (drop (k - length B.entries) D))

-- A strict block is tried where the `left` newest types of D end, in what stands before it, and a value can't be put in for one of its variables.
pub record StandsDeep (Σ : Signature) (G D : List LfType) (left : ℕ) (B : Block) : Type 0 where
  pub strict : IsStrictBlock B
  pub entries : 0 < length B.entries
  pub within : length B.entries ≤ left
  pub deep : InstanceGoesDeep Σ B G (take (length B.entries) (drop (left - length B.entries) D))

-- Behind a sequence of instances a block of W is tried that would leave the p newest types of D, and it goes deep.
pub record OpenAt (Σ : Signature) (W : List Block) (C D : List LfType) (p : ℕ) : Type 0 where
  pub left : ℕ
  pub bounded : left ≤ length D
  pub ends : IsSequence Σ W C (drop left D)
  pub tried : Block
  pub is_one : Member tried W
  pub deep : StandsDeep Σ (onto (drop left D) C) D left tried
  pub place : p ≡ left - length tried.entries

-- It is left open whether a sequence of instances goes on: behind one a block of W is tried and goes deep, and so does each that has an instance behind one and would leave as many types.
-- With `some {n:nat} block {x:t n}` this comes of `{x:t (s z)} {y:t N}` where the typing of N goes too deep; of `{x:u} {y:t N}` it doesn't, since no sequence ends before y.
pub record SequenceGoesDeep (Σ : Signature) (W : List Block) (C D : List LfType) : Type 0 where
  pub place : ℕ
  pub is_open : OpenAt Σ W C D place
  pub alone : (k : ℕ) (B : Block) → k ≤ length D → IsSequence Σ W C (drop k D) → Member B W → Stands Σ (onto (drop k D) C) D k B → k - length B.entries ≡ place → StandsDeep Σ (onto (drop k D) C) D k B

-- The tables so far. The first says yes of sequences alone, and of what each block adds to those older than `left`, and each of V to that one, if it doesn't go deep; where it goes deep the
-- other says yes.
pub record TableAt (Σ : Signature) (W V : List Block) (C D : List LfType) (left : ℕ) (t o : List Bool) : Type 0 where
  pub size : length t ≡ suc (length D)
  pub deep_size : length o ≡ suc (length D)
  pub start : says t (length D) ≡ true
  pub sound : (k : ℕ) → says t k ≡ true → IsSequence Σ W C (drop k D)
  pub deep : (k : ℕ) → says o k ≡ true → OpenAt Σ W C D k
  pub settled : (k : ℕ) → left < k → says o k ≡ true → says t k ≡ true
  pub complete : (k : ℕ) (B : Block) → Member B W → (left < k) ⊎ ((k ≡ left) × Member B V) → k ≤ length D → says t k ≡ true → Stands Σ (onto (drop k D) C) D k B → (says t (k - length B.entries) ≡ true) ⊎ (StandsDeep Σ (onto (drop k D) C) D k B × (says o (k - length B.entries) ≡ true))

-- after one more block, which adds to what is older than `left`
abbrev pub Adds : Signature → Block → List LfType → List LfType → ℕ → List Bool → List Bool → List Bool → List Bool → Type 0
Adds Σ B G D left t o new more = (W V : List Block) (C : List LfType) → Member B W → G ≡ onto (drop left D) C → says t left ≡ true → TableAt Σ W V C D left t o → TableAt Σ W (B ∷ V) C D left new more

-- after all blocks
abbrev pub Extends : Signature → List Block → List LfType → List LfType → ℕ → List Bool → List Bool → List Bool → List Bool → Type 0
Extends Σ W G D left t o new more = (C : List LfType) → G ≡ onto (drop left D) C → TableAt Σ W [] C D left t o → TableAt Σ W [] C D (left - 1) new more
