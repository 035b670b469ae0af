-- A worked group whose block has a strict `some` variable.
use Rattle.std.specs.Prelude.{ℕ, zero, suc, List, [], ◌∷◌, Option, Some, None}
use Rattle.lf.specs.Syntax.{Term, LfType, Kind, pi, star}
use Rattle.lf.specs.Typing.{Signature, HasType}
use Rattle.lf.specs.Variables.{everything}
use Rattle.lf.specs.Subordination.{Block}
use Rattle.lf.specs.Worlds.{World}
use Rattle.lf_checks.specs.Clause.{Clause, constant_clause, entry_clause}
use Rattle.lf_checks.specs.Marks.{Mark, input}
use Rattle.lf_totality.specs.Group.{Checked, IsRight}
use Rattle.lf_totality.specs.Examples.{var, nat, z, successor}
use Rattle.lf_totality.specs.ExamplesGroups.{on_one, one_kind, first_three}

-- Families: nat = 0, t = 1 and a = 2; t and a are nat -> type. Constants: z = 0, s = 1, a-z = 2, a-s = 3.

-- {N:nat} ({x:t N} {u:a N} a N) -> a (s N)
abbrev pub a_s : Clause
a_s = constant_clause (pi nat (pi (pi (on_one 1 (var 0)) (pi (on_one 2 (var 1)) (on_one 2 (var 2)))) (on_one 2 (successor (var 1)))))

-- a z
abbrev pub a_z : Clause
a_z = constant_clause (on_one 2 z)

-- the types of the constants
abbrev pub numbered_types : ℕ → Option LfType
numbered_types zero = Some nat
numbered_types (suc zero) = Some (pi nat nat)
numbered_types (suc (suc zero)) = Some a_z.type
numbered_types (suc (suc (suc zero))) = Some a_s.type
numbered_types (suc (suc (suc (suc n)))) = None

-- the kinds of the families
abbrev pub numbered_kinds : ℕ → Option Kind
numbered_kinds zero = Some star
numbered_kinds (suc zero) = Some one_kind
numbered_kinds (suc (suc zero)) = Some one_kind
numbered_kinds (suc (suc (suc n))) = None

-- both
abbrev pub Numbered : Signature
Numbered = record { types = numbered_types; kinds = numbered_kinds }

-- some {n:nat} block {x:t n} {u:a n}: n is strict in the type of x, and u is a clause of a
abbrev pub numbered_block : Block
numbered_block = record { label = 108 ∷ []; some = nat ∷ []; entries = on_one 2 (var 1) ∷ on_one 1 (var 0) ∷ [] }

-- the entry u
abbrev pub numbered_entry : Clause
numbered_entry = entry_clause numbered_block (on_one 1 (var 0) ∷ []) (on_one 2 (var 1))

-- a +N
abbrev pub numbered_marks : ℕ → List Mark
numbered_marks zero = []
numbered_marks (suc n) = input ∷ []

-- the group of a, in the worlds of the block, by the order that names its place
abbrev pub numbered_record : Checked
numbered_record = record { families = 2 ∷ []; marks = numbered_marks; worlds = numbered_block ∷ []; below = λ f. first_three; frozen = first_three }

-- it lasts
abbrev pub StrictBlockLasts : Type 0
StrictBlockLasts = IsRight Numbered numbered_record

-- so in each context of the block there is a derivation of a M for each number M
abbrev pub NumbersHaveDerivations : Type 0
NumbersHaveDerivations = (G : List LfType) → World Numbered (numbered_block ∷ []) everything G → (M : Term) → HasType Numbered G M nat → (D : Term) × HasType Numbered G D (on_one 2 M)
