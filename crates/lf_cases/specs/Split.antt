-- Coverage by splitting. A case is split into cases that hold every tuple that it holds, in all of which other block variables stand for
-- other instances. What two block variables have in common is then no concern of a split: a case in which they would be one instance is
-- held with one block variable, since a split that makes a new one lists the existing ones too.
use Rattle.std.specs.Prelude.{◌≡◌, ℕ, List, [], ◌∷◌, Bool, ◌⊎◌}
use Rattle.lf.specs.Syntax.{Spine, LfType}
use Rattle.lf.specs.Substitution.{Image}
use Rattle.lf.specs.Typing.{Signature}
use Rattle.lf.specs.Subordination.{Block, Member}
use Rattle.lf.specs.Worlds.{World}
use Rattle.lf.specs.Extension.{Extends}
use Rattle.lf_cases.specs.Case.{Item, free_variable, block_variable, Case, IsGroundInstance, covered_places}
use Rattle.lf_cases.specs.Pattern.{Known, Pattern, Holds, OneCovers}

-- in this ground instance a block variable stands for the instance θ of B
abbrev pub StandsFor : {Σ : Signature} {W : List Block} {S : ℕ → Bool} {G : List LfType} (w : World Σ W S G) (I : List Item) (σ : ℕ → Image) → IsGroundInstance w I σ → Block → (ℕ → Image) → Type 0
StandsFor w [] σ g B θ = ⊥
StandsFor w (free_variable A ∷ I) σ (N, τ, g, t, e) B θ = StandsFor w I τ g B θ
StandsFor w (block_variable C υ ∷ I) σ (φ, τ, g, i, s, e) B θ = ((C ≡ B) × (φ ≡ θ)) ⊎ StandsFor w I τ g B θ

-- different block variables stand for different instances
abbrev pub IsDistinct : {Σ : Signature} {W : List Block} {S : ℕ → Bool} {G : List LfType} (w : World Σ W S G) (I : List Item) (σ : ℕ → Image) → IsGroundInstance w I σ → Type 0
IsDistinct w [] σ g = Unit {0}
IsDistinct w (free_variable A ∷ I) σ (N, τ, g, t, e) = IsDistinct w I τ g
IsDistinct w (block_variable C υ ∷ I) σ (φ, τ, g, i, s, e) = (StandsFor w I τ g C φ → ⊥) × IsDistinct w I τ g

-- A case holds the tuple with different instances for different block variables.
pub record HoldsDistinctly {Σ : Signature} {W : List Block} {S : ℕ → Bool} {G : List LfType} (w : World Σ W S G) (C : Case) (F : Known) (σ : ℕ → Image) (T : Spine) : Type 0 where
  pub holds : Holds w C F σ T
  pub is_distinct : IsDistinct w C.items holds.values holds.is_ground

-- one of the cases holds it so
abbrev pub OneHolds : {Σ : Signature} {W : List Block} {S : ℕ → Bool} {G : List LfType} (w : World Σ W S G) → List Case → Known → (ℕ → Image) → Spine → Type 0
OneHolds w [] F σ T = ⊥
OneHolds w (C ∷ Cs) F σ T = HoldsDistinctly w C F σ T ⊎ OneHolds w Cs F σ T

-- a case of the same family, with arguments at the same places, and terms given for the same variables
pub record IsLike (C D : Case) : Type 0 where
  pub family : D.family ≡ C.family
  pub places : covered_places D.arguments ≡ covered_places C.arguments
  pub given : covered_places D.given ≡ covered_places C.given

-- A split of the case C beside S into cases like it: every tuple that C holds, in each legal extension over S and each context of W beside
-- S, one of the cases holds, with the same known of it.
pub record IsSplit (Σ : Signature) (W : List Block) (S : ℕ → Bool) (C : Case) (Cs : List Case) : Type 0 where
  pub like : (D : Case) → Member D Cs → IsLike C D
  pub holds : (Σ' : Signature) → Extends S Σ Σ' → (G : List LfType) (w : World Σ' W S G) (F : Known) (σ : ℕ → Image) (T : Spine) → HoldsDistinctly w C F σ T → OneHolds w Cs F σ T

-- one of the patterns covers every tuple that the case so holds
abbrev pub IsInstanceCase : Signature → List Block → (ℕ → Bool) → List Pattern → Case → Type 0
IsInstanceCase Σ W S ps C = (Σ' : Signature) → Extends S Σ Σ' → (G : List LfType) (w : World Σ' W S G) (F : Known) (σ : ℕ → Image) (T : Spine) → HoldsDistinctly w C F σ T → OneCovers w ps (covered_places C.arguments) F C.given σ T

-- A run of the strategy that ends well: each case that it reaches is a leaf, or it is split into cases, from each of which it ends well.
mutual
  pub data Ends {K : Type 0} (Leaf : K → Type 0) (Splits : K → List K → Type 0) : K → Type 0 where
    at_leaf : {C : K} → Leaf C → Ends Leaf Splits C
    by_split : {C : K} (Cs : List K) → Splits C Cs → AllEnd Leaf Splits Cs → Ends Leaf Splits C

  -- from all cases of a split
  pub data AllEnd {K : Type 0} (Leaf : K → Type 0) (Splits : K → List K → Type 0) : List K → Type 0 where
    no_case : AllEnd Leaf Splits []
    next_case : {C : K} {Cs : List K} → Ends Leaf Splits C → AllEnd Leaf Splits Cs → AllEnd Leaf Splits (C ∷ Cs)

-- no item is a block variable
abbrev pub HasNoBlockVariable : List Item → Type 0
HasNoBlockVariable [] = Unit {0}
HasNoBlockVariable (free_variable A ∷ I) = HasNoBlockVariable I
HasNoBlockVariable (block_variable B υ ∷ I) = ⊥

-- at most one item is a block variable: so it is with each goal
abbrev pub HasOneBlockVariable : List Item → Type 0
HasOneBlockVariable [] = Unit {0}
HasOneBlockVariable (free_variable A ∷ I) = HasOneBlockVariable I
HasOneBlockVariable (block_variable B υ ∷ I) = HasNoBlockVariable I
