-- The quantifiers of types and kinds, as pairs: the target of the domain, and the target of the range.
use Rattle.std.specs.Prelude.{ℕ, zero, suc, List, [], ◌∷◌, ◌++◌, map, Option, Some, None}
use Rattle.std.specs.List.{flat_map}
use Rattle.lf.specs.Syntax.{LfType, Kind, pi, atom, kind_pi, star}
use Rattle.lf.specs.Typing.{Signature}
use Rattle.lf.specs.Variables.{target}
use Rattle.tw_terms.specs.View.{type_of}
use Rattle.tw_subord.specs.declared.pairs.Pair.{Pair}
use Rattle.tw_subord.specs.declared.subord.BlockTypes.{BlockTypes}

abbrev pub pairs_of : List Pair → List (ℕ × ℕ)
pairs_of ps = map (λ p. (p.below, p.above)) ps

abbrev pub type_pairs : LfType → List (ℕ × ℕ)
type_pairs (pi A B) = (type_pairs A ++ type_pairs B) ++ (target A, target B) ∷ []
type_pairs (atom a S) = []

abbrev pub kind_pairs : ℕ → Kind → List (ℕ × ℕ)
kind_pairs f (kind_pi A K) = (type_pairs A ++ (target A, f) ∷ []) ++ kind_pairs f K
kind_pairs f star = []

-- those of a constant's type
abbrev pub constant_pairs : Option LfType → List (ℕ × ℕ)
constant_pairs (Some A) = type_pairs A
constant_pairs None = []

-- those of a family's kind
abbrev pub family_pairs : ℕ → Option Kind → List (ℕ × ℕ)
family_pairs f (Some K) = kind_pairs f K
family_pairs f None = []

-- those of what is declared at a number
abbrev pub number_pairs : Signature → ℕ → List (ℕ × ℕ)
number_pairs Σ n = constant_pairs (Σ.types n) ++ family_pairs n (Σ.kinds n)

-- those of all numbers below n
abbrev pub numbered_pairs : Signature → ℕ → List (ℕ × ℕ)
numbered_pairs Σ zero = []
numbered_pairs Σ (suc n) = numbered_pairs Σ n ++ number_pairs Σ n

abbrev pub types_pairs : List LfType → List (ℕ × ℕ)
types_pairs As = flat_map type_pairs As

abbrev pub block_pairs : BlockTypes → List (ℕ × ℕ)
block_pairs b = types_pairs (map type_of b.types.items)

abbrev pub blocks_pairs : List BlockTypes → List (ℕ × ℕ)
blocks_pairs bs = flat_map block_pairs bs
