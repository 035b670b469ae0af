-- The order of the clauses of a family: constants in order of declaration, then the entries of the blocks in the order of the worlds.
use Rattle.std.specs.Prelude.{◌≡◌, ℕ, zero, suc, ◌<◌, ◌⊎◌, List, [], ◌∷◌, length, Some}
use Rattle.lf.specs.Syntax.{LfType}
use Rattle.lf.specs.Typing.{Signature}
use Rattle.lf.specs.Variables.{target, onto}
use Rattle.lf.specs.Subordination.{Block, Member}
use Rattle.lf_checks.specs.Clause.{constant_clause, entry_clause}
use Rattle.lf_cases.specs.Pattern.{Pattern, of_constant, of_entry, head_pattern}

-- x stands in the list at the place n, counted from 0
abbrev pub StandsAt : {A : Type 0} → ℕ → A → List A → Type 0
StandsAt n x [] = ⊥
StandsAt zero x (y ∷ ys) = x ≡ y
StandsAt (suc n) x (y ∷ ys) = StandsAt n x ys

-- the first number in which they differ is less in the first
abbrev pub ComesBefore : List ℕ → List ℕ → Type 0
ComesBefore [] [] = ⊥
ComesBefore [] (y ∷ ys) = Unit {0}
ComesBefore (x ∷ xs) [] = ⊥
ComesBefore (x ∷ xs) (y ∷ ys) = (x < y) ⊎ ((x ≡ y) × ComesBefore xs ys)

-- the place of a head of the family a in the order, as a list of numbers; that of an entry of a block that stands twice in W is two
pub data HasPlace (Σ : Signature) (W : List Block) (a : ℕ) : Pattern → List ℕ → Type 0 where
  constant_place : (k : ℕ) (U : LfType) → Σ.types k ≡ Some U → target U ≡ a → HasPlace Σ W a (head_pattern (constant_clause U) (of_constant U)) (0 ∷ k ∷ [])
  entry_place : (B : Block) (w : ℕ) (later : List LfType) (E : LfType) (es : List LfType) (e : onto later (E ∷ es) ≡ B.entries) → StandsAt w B W → target E ≡ a → HasPlace Σ W a (head_pattern (entry_clause B es E) (of_entry B later E es e)) (1 ∷ w ∷ length es ∷ [])

-- The heads have these places, each before the next.
pub data HavePlaces (Σ : Signature) (W : List Block) (a : ℕ) : List Pattern → List (List ℕ) → Type 0 where
  no_head : HavePlaces Σ W a [] []
  one_head : {p : Pattern} {r : List ℕ} → HasPlace Σ W a p r → HavePlaces Σ W a (p ∷ []) (r ∷ [])
  next_head : {p q : Pattern} {r s : List ℕ} {ps : List Pattern} {rs : List (List ℕ)} → HasPlace Σ W a p r → ComesBefore r s → HavePlaces Σ W a (q ∷ ps) (s ∷ rs) → HavePlaces Σ W a (p ∷ q ∷ ps) (r ∷ s ∷ rs)

-- The list is that of the heads of the family, in order: each place is taken. For plus it is plus-z and then plus-s.
pub record AreHeadsInOrder (Σ : Signature) (W : List Block) (a : ℕ) (ps : List Pattern) : Type 0 where
  pub places : List (List ℕ)
  pub in_order : HavePlaces Σ W a ps places
  pub every : (p : Pattern) (r : List ℕ) → HasPlace Σ W a p r → Member r places
