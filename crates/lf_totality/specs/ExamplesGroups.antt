-- Worked declarations: a mutual group with an equal call that is on no cycle, and a group that calls it under other worlds.
use Rattle.std.specs.Prelude.{ℕ, zero, suc, List, [], ◌∷◌, Bool, true, false, Option, Some, None}
use Rattle.lf.specs.Syntax.{Term, nil, app, LfType, Kind, pi, atom, kind_pi, star}
use Rattle.lf.specs.Typing.{Signature}
use Rattle.lf.specs.Subordination.{Block}
use Rattle.lf_checks.specs.Clause.{Clause, constant_clause}
use Rattle.lf_checks.specs.Worlded.{IsStrictBlock, WellWorlded, BlocksServe}
use Rattle.lf_checks.specs.Marks.{Mark, input}
use Rattle.lf_totality.specs.Group.{Checked, IsRight}
use Rattle.lf_totality.specs.Examples.{var, nat, z, successor}

-- Families: nat = 0, e = 1, o = 2, g = 3; e, o and g are nat -> type. Constants: z = 0, s = 1, e-o = 2, o-z = 3, o-s = 4, g-e = 5.

-- the family a at M
abbrev pub on_one : ℕ → Term → LfType
on_one a M = atom a (app M nil)

-- nat -> type
abbrev pub one_kind : Kind
one_kind = kind_pi nat star

-- {X:nat} b X -> a H, where H is X, or s X
abbrev pub call_type : ℕ → ℕ → Bool → LfType
call_type a b true = pi nat (pi (on_one b (var 0)) (on_one a (var 1)))
call_type a b false = pi nat (pi (on_one b (var 0)) (on_one a (successor (var 1))))

-- e-o : {X:nat} o X -> e X, o-z : o z, o-s : {X:nat} e X -> o (s X), g-e : {X:nat} e X -> g X
abbrev pub parity_types : ℕ → Option LfType
parity_types zero = Some nat
parity_types (suc zero) = Some (pi nat nat)
parity_types (suc (suc zero)) = Some (call_type 1 2 true)
parity_types (suc (suc (suc zero))) = Some (on_one 2 z)
parity_types (suc (suc (suc (suc zero)))) = Some (call_type 2 1 false)
parity_types (suc (suc (suc (suc (suc zero))))) = Some (call_type 3 1 true)
parity_types (suc (suc (suc (suc (suc (suc n)))))) = None

-- the kinds of the families
abbrev pub parity_kinds : ℕ → Option Kind
parity_kinds zero = Some star
parity_kinds (suc zero) = Some one_kind
parity_kinds (suc (suc zero)) = Some one_kind
parity_kinds (suc (suc (suc zero))) = Some one_kind
parity_kinds (suc (suc (suc (suc n)))) = None

-- both
abbrev pub Parity : Signature
Parity = record { types = parity_types; kinds = parity_kinds }

-- e +X, o +X, g +X
abbrev pub parity_marks : ℕ → List Mark
parity_marks zero = []
parity_marks (suc n) = input ∷ []

-- nat, e and o; and g besides
abbrev pub first_three : ℕ → Bool
first_three zero = true
first_three (suc zero) = true
first_three (suc (suc zero)) = true
first_three (suc (suc (suc n))) = false

abbrev pub first_four : ℕ → Bool
first_four zero = true
first_four (suc n) = first_three n

-- the group of e and o, in the empty world, by the order that names their place
abbrev pub parity_record : Checked
parity_record = record { families = 1 ∷ 2 ∷ []; marks = parity_marks; worlds = []; below = λ f. first_three; frozen = first_three }

-- block {u:g z}, whose entry is a clause of g
abbrev pub guard_block : Block
guard_block = record { label = 108 ∷ []; some = []; entries = on_one 3 z ∷ [] }

-- The group of g alone, in the worlds of this block. It calls e of the earlier record, whose worlds don't have the block: nothing of it
-- is below e.
abbrev pub guard_record : Checked
guard_record = record { families = 3 ∷ []; marks = parity_marks; worlds = guard_block ∷ []; below = λ f. first_four; frozen = first_four }

-- the mutual group lasts
abbrev pub MutualGroupLasts : Type 0
MutualGroupLasts = IsRight Parity parity_record

-- block {x:nat}: in its worlds e may not be called, since a number may be its variable
abbrev pub number_block : Block
number_block = record { label = 108 ∷ []; some = []; entries = nat ∷ [] }

-- the caller lasts too, under other worlds than those of what it calls; not any worlds will do
abbrev pub CallerOfRecordLasts : Type 0
CallerOfRecordLasts = IsRight Parity guard_record × (BlocksServe guard_record.worlds parity_record.worlds first_three) × (BlocksServe (number_block ∷ []) parity_record.worlds first_three → ⊥)

-- Blocks with `some` variables. Families: t : nat -> type = 4 and a : nat -> type = 5.

-- some {n:nat} block {x:t n}: n is strict in the type of x, so an instance tells its n
abbrev pub strict_block : Block
strict_block = record { label = 108 ∷ []; some = nat ∷ []; entries = on_one 4 (var 0) ∷ [] }

-- some {n:nat} block {x:nat}: n stands in no entry
abbrev pub weak_block : Block
weak_block = record { label = 108 ∷ []; some = nat ∷ []; entries = nat ∷ [] }

-- {m:nat} ({x:t m} a m) -> a m, where the local context of the subgoal is an instance of the first block, with m for n
abbrev pub strict_clause : Clause
strict_clause = constant_clause (pi nat (pi (pi (on_one 4 (var 0)) (on_one 5 (var 1))) (on_one 5 (var 1))))

-- the clause is well-worlded for the first block; the second serves no subgoal
abbrev pub StrictBlockServes : Type 0
StrictBlockServes = ((Σ : Signature) → WellWorlded Σ (strict_block ∷ []) strict_clause) × (IsStrictBlock weak_block → ⊥)
