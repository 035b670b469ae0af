-- Worked meetings of cases with two block variables b and c. If they are of one block, they may be one: then b.x = c.x is solved, or another equation is left.
-- If they are of two blocks with the same entries, they are never one.
use Rattle.std.specs.Prelude.{◌≡◌, ℕ, zero, suc, [], ◌∷◌, Bool, Option, Some, None}
use Rattle.lf.specs.Syntax.{constant, variable, root, nil, app, LfType, Kind, pi, kind_pi, star}
use Rattle.lf.specs.Substitution.{keep}
use Rattle.lf.specs.Subordination.{Block}
use Rattle.lf.specs.Typing.{Signature}
use Rattle.lf_unification.specs.Steps.{CanRefute, Run}
use Rattle.lf_unification.specs.Unifiers.{Store}
use Rattle.lf_cases.specs.Pattern.{Pattern}
use Rattle.lf_totality.specs.Examples.{exp, on_three, on_two, var}
use Rattle.lf_totality.specs.ExamplesReached.{head_of}
use Rattle.lf_coverage.specs.Calls.{apart, stuck}
use Rattle.lf_numbered.specs.EntryConstants.{with_entries}
use Rattle.lf_numbered.specs.NumberedCalls.{NumberedCoverIs, NumberedMatchedIs, one_missing, one_unsplit}
use Rattle.lf_numbered.specs.NumberedCallsStores.{IsOpenByNumber, identified, meet_store_by_number}
use Rattle.lf_numbered.specs.NumberedCase.{NumberedCase}

-- The families are exp : type (0), eq : exp -> exp -> type (1) and e : exp -> exp -> exp -> type (2). The constants are a : exp (0), eq-r : {X:exp} eq X X (1)
-- and e-r : {X:exp} e X X a (2).
abbrev pub twice_type : LfType
twice_type = pi exp (on_two 1 (var 0) (var 0))

abbrev pub thrice_type : LfType
thrice_type = pi exp (on_three 2 (var 0) (var 0) (root (constant 0) nil))

abbrev pub thrice_types : ℕ → Option LfType
thrice_types zero = Some exp
thrice_types (suc zero) = Some twice_type
thrice_types (suc (suc zero)) = Some thrice_type
thrice_types (suc (suc (suc c))) = None

abbrev pub eq_kind : Kind
eq_kind = kind_pi exp (kind_pi exp star)

abbrev pub e_kind : Kind
e_kind = kind_pi exp (kind_pi exp (kind_pi exp star))

abbrev pub thrice_kinds : ℕ → Option Kind
thrice_kinds zero = Some star
thrice_kinds (suc zero) = Some eq_kind
thrice_kinds (suc (suc zero)) = Some e_kind
thrice_kinds (suc (suc (suc a))) = None

abbrev pub Thrice : Signature
Thrice = record { types = thrice_types; kinds = thrice_kinds }

abbrev pub twice_head : Pattern
twice_head = head_of twice_type

abbrev pub thrice_head : Pattern
thrice_head = head_of thrice_type

-- There are two blocks with the same entries: l is block {x:exp}, and k is block {x:exp} too.
abbrev pub l_block : Block
l_block = record { label = 108 ∷ []; some = []; entries = exp ∷ [] }

abbrev pub k_block : Block
k_block = record { label = 107 ∷ []; some = []; entries = exp ∷ [] }

-- The case is eq b.x c.x for two block variables b and c of l. The constant of b.x is 3, and that of c.x is 4.
abbrev pub two_of_one : NumberedCase
two_of_one = record { blocks = record { block = l_block; terms = nil } ∷ record { block = l_block; terms = nil } ∷ []; variables = []; given = []; local = []; family = 1; arguments = Some (root (constant 3) nil) ∷ Some (root (constant 4) nil) ∷ [] }

-- The store of the meeting of a case with a pattern, where block variables with the same number under π are one; and the signature with the entries b.x and
-- c.x.
abbrev pub store_with : (ℕ → ℕ) → NumberedCase → Pattern → Kind → Store
store_with π C p K = meet_store_by_number π (identified 3 π C) p keep K

abbrev pub WithTwo : Signature
WithTwo = with_entries Thrice 3 (l_block ∷ l_block ∷ [])

-- If b and c are different, X = b.x and X = c.x clash. If they are one, X is b.x. So the case shares eq b.x b.x with eq X X, and is no instance of it: it is
-- stuck, it can't be split, and it isn't missing.
abbrev pub MadeOneIsSolved : Type 0
MadeOneIsSolved =
    CanRefute WithTwo (store_with (λ k. k) two_of_one twice_head eq_kind)
    × ((after : Store) × Run WithTwo (store_with (λ k. 0) two_of_one twice_head eq_kind) after × (after.equations ≡ []))
    × NumberedMatchedIs Thrice 3 (l_block ∷ []) two_of_one twice_head stuck
    × ((below : ℕ → ℕ → Bool) → NumberedCoverIs Thrice 3 (l_block ∷ []) below (twice_head ∷ []) two_of_one (one_unsplit two_of_one) × (NumberedCoverIs Thrice 3 (l_block ∷ []) below (twice_head ∷ []) two_of_one (one_missing two_of_one) → ⊥))

-- The second case is e b.x c.x (F a), for a free variable F : exp -> exp.
abbrev pub two_and_applied : NumberedCase
two_and_applied = record {
  blocks = record { block = l_block; terms = nil } ∷ record { block = l_block; terms = nil } ∷ [];
  variables = pi exp exp ∷ [];
  given = [];
  local = [];
  family = 2;
  arguments = Some (root (constant 3) nil) ∷ Some (root (constant 4) nil) ∷ Some (root (variable 0) (app (root (constant 0) nil) nil)) ∷ [];
}

-- With e X X a it clashes too if b and c are different. If they are one, F a = a is left: so it stays open whether the two meet, and the case is stuck.
abbrev pub MadeOneIsOpen : Type 0
MadeOneIsOpen = CanRefute WithTwo (store_with (λ k. k) two_and_applied thrice_head e_kind) × IsOpenByNumber Thrice 3 two_and_applied thrice_head × NumberedMatchedIs Thrice 3 (l_block ∷ []) two_and_applied thrice_head stuck

-- The third case is eq b.x c.x for a block variable b of l and a block variable c of k.
abbrev pub two_of_two : NumberedCase
two_of_two = record { blocks = record { block = l_block; terms = nil } ∷ record { block = k_block; terms = nil } ∷ []; variables = []; given = []; local = []; family = 1; arguments = Some (root (constant 3) nil) ∷ Some (root (constant 4) nil) ∷ [] }

-- An entry belongs to one instance, and an instance to one block. So b and c are never one, though their blocks have the same entries: the case is apart from
-- eq X X, and it is missing.
abbrev pub OtherBlocksStayApart : Type 0
OtherBlocksStayApart = NumberedMatchedIs Thrice 3 (l_block ∷ k_block ∷ []) two_of_two twice_head apart × ((below : ℕ → ℕ → Bool) → NumberedCoverIs Thrice 3 (l_block ∷ k_block ∷ []) below (twice_head ∷ []) two_of_two (one_missing two_of_two))
