-- A worked declaration whose call drops by a fact about sizes, and not by its order.
use Rattle.std.specs.Prelude.{ℕ, zero, suc, List, [], ◌∷◌, Bool, true, false, Option, Some, None}
use Rattle.lf.specs.Syntax.{Term, nil, app, LfType, Kind, pi, atom, kind_pi, star}
use Rattle.lf.specs.Typing.{Signature}
use Rattle.lf_checks.specs.Clause.{Clause, constant_clause}
use Rattle.lf_checks.specs.Marks.{Mark, input, output}
use Rattle.lf_totality.specs.Sizes.{SizesDrop}
use Rattle.lf_totality.specs.Group.{Checked}
use Rattle.lf_totality.specs.Facts.{Fact, Facts, FactsHold, CallsDropWith}
use Rattle.lf_totality.specs.Examples.{var, on_two, nat, z, successor, first_place}

-- Families: nat = 0, same = 1, down = 2. Constants: z = 0, s = 1, same-c = 2, down-z = 3, down-s = 4.

-- same-c : {X:nat} same X X
abbrev pub same_c : Clause
same_c = constant_clause (pi nat (on_two 1 (var 0) (var 0)))

-- down M
abbrev pub down : Term → LfType
down M = atom 2 (app M nil)

-- down-s : {X:nat} {Y:nat} down Y -> same X Y -> down (s X), which solves same X Y first
abbrev pub down_s : Clause
down_s = constant_clause (pi nat (pi nat (pi (down (var 0)) (pi (on_two 1 (var 2) (var 1)) (down (successor (var 3)))))))

-- its call, under the other quantifiers
abbrev pub down_call : LfType
down_call = down (var 2)

-- the types of the constants, by number
abbrev pub echo_types : ℕ → Option LfType
echo_types zero = Some nat
echo_types (suc zero) = Some (pi nat nat)
echo_types (suc (suc zero)) = Some same_c.type
echo_types (suc (suc (suc zero))) = Some (down z)
echo_types (suc (suc (suc (suc zero)))) = Some down_s.type
echo_types (suc (suc (suc (suc (suc n))))) = None

-- the kinds of the families
abbrev pub echo_kinds : ℕ → Option Kind
echo_kinds zero = Some star
echo_kinds (suc zero) = Some (kind_pi nat (kind_pi nat star))
echo_kinds (suc (suc zero)) = Some (kind_pi nat star)
echo_kinds (suc (suc (suc n))) = None

-- both
abbrev pub Echo : Signature
Echo = record { types = echo_types; kinds = echo_kinds }

-- same +X -Y, down +X
abbrev pub echo_marks : ℕ → List Mark
echo_marks zero = []
echo_marks (suc zero) = input ∷ output ∷ []
echo_marks (suc (suc n)) = input ∷ []

-- all three families
abbrev pub all_three : ℕ → Bool
all_three zero = true
all_three (suc zero) = true
all_three (suc (suc zero)) = true
all_three (suc (suc (suc n))) = false

-- the group of down alone, in the empty world
abbrev pub echo_record : Checked
echo_record = record { families = 2 ∷ []; marks = echo_marks; worlds = []; below = λ f. all_three; frozen = all_three }

-- where down-s calls down, Y is no greater than X, since same X Y is solved; nothing is known elsewhere
abbrev pub no_greater : Fact
no_greater = record { left = var 2; strict = false; right = var 3 }

abbrev pub echo_facts : Facts
echo_facts c zero = []
echo_facts c (suc i) = no_greater ∷ []

-- The facts hold, and so the calls drop; by the orders alone they don't.
abbrev pub FactMakesCallsDrop : Type 0
FactMakesCallsDrop = FactsHold echo_facts Echo echo_record × CallsDropWith echo_facts (λ a b. false) Echo echo_record first_place × (SizesDrop Echo [] first_place (2 ∷ []) down_s down_call → ⊥)
