-- The declared constants of each family, as a signature keeps them.
use Rattle.std.specs.Prelude.{◌≡◌, ◌<◌, ◌++◌, ℕ, zero, suc, List, [], ◌∷◌, length, map, slice_get, IfSome, Option, Some, None, Vec}
use Rattle.std.specs.Global.{Global}
use Rattle.std.specs.Vec.{vec_capacity, vec_len}
use Rattle.lf.specs.Constants.{constants_of}
use Rattle.lf.specs.Entries.{Entry}
use Rattle.tw_terms.specs.declared.canonical.ConstId.{ConstId}
use Rattle.tw_signature.specs.declared.constants.Constants.{Constants}

-- the numbers of these constants
abbrev pub numbers_in : Vec ConstId Global → List ℕ
numbers_in cs = map (λ c. c.0) cs.items

-- for each entry those of its list
abbrev pub numbers_of : Constants → List (List ℕ)
numbers_of c = map numbers_in c.lists.items

-- those for a family, and none for what is no entry
abbrev pub numbers_for : List (List ℕ) → ℕ → List ℕ
numbers_for [] a = []
numbers_for (cs ∷ lists) zero = cs
numbers_for (cs ∷ lists) (suc a) = numbers_for lists a

-- the lists with a constant more in that of a family
abbrev pub with_number : List (List ℕ) → ℕ → ℕ → List (List ℕ)
with_number [] a c = []
with_number (cs ∷ lists) zero c = (cs ++ c ∷ []) ∷ lists
with_number (cs ∷ lists) (suc a) c = cs ∷ with_number lists a c

abbrev pub with_constant : List (List ℕ) → Option ConstId → ℕ → List (List ℕ)
with_constant lists (Some a) c = with_number lists a.0 c
with_constant lists None c = lists

-- one more list, and one more constant in that of the family, takes no memory
abbrev pub HasRoom : Constants → Option ConstId → Type 0
HasRoom c a = (vec_len c.lists < vec_capacity c.lists) × IfSome a (λ f. (cs : Vec ConstId Global) × (slice_get c.lists.items f.0 ≡ Some cs) × (vec_len cs < vec_capacity cs))

-- for each entry the declared constants of this family
abbrev pub AreKept : Constants → List Entry → Type 0
AreKept c es = (length (numbers_of c) ≡ length es) × ((a : ℕ) → numbers_for (numbers_of c) a ≡ constants_of es a)
