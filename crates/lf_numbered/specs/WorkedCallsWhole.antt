-- A worked run by number with the clauses of three constants and of an entry. The strategy's own candidates make an older block variable e stand on the entry
-- c.x of a newer one, as in f c.x e.y.
use Rattle.std.specs.Prelude.{◌≡◌, ℕ, zero, suc, [], ◌∷◌, List, Bool, Option, Some, None, refl}
use Rattle.lf.specs.Syntax.{constant, Term, root, nil, app, LfType, pi}
use Rattle.lf.specs.Typing.{Signature}
use Rattle.lf_checks.specs.Below.{IsSubordination}
use Rattle.lf_checks.specs.Clause.{Clause, entry_clause}
use Rattle.lf_cases.specs.Pattern.{Pattern, of_entry, head_pattern}
use Rattle.lf_totality.specs.Examples.{exp, on_two, var}
use Rattle.lf_totality.specs.ExamplesGroups.{on_one}
use Rattle.lf_totality.specs.ExamplesReached.{head_of}
use Rattle.lf_coverage.specs.Calls.{instance}
use Rattle.lf_numbered.specs.ExamplesNumbered.{first_block, second_block, turning_kinds}
use Rattle.lf_numbered.specs.NumberedCalls.{NumberedCoverIs, NumberedMatchedIs, NumberedSplitIs, all_covered, numbered_cases}
use Rattle.lf_numbered.specs.NumberedCallsReached.{numbered_candidates}
use Rattle.lf_numbered.specs.NumberedCase.{NumberedCase}

-- The families are exp : type (0), t : exp -> type (1) and f : {N:exp} t N -> type (2). The constants are a : exp (0), d : {M:exp} t M (1), f-d : {M:exp} f M
-- (d M) (2), f-a : {Y:t a} f a Y (3), b : exp -> exp (4) and f-b : {M:exp} {Y:t (b M)} f (b M) Y (5).
abbrev pub a : Term
a = root (constant 0) nil

abbrev pub d_of : Term → Term
d_of M = root (constant 1) (app M nil)

abbrev pub b_of : Term → Term
b_of M = root (constant 4) (app M nil)

abbrev pub t_all : LfType
t_all = pi exp (on_one 1 (var 0))

abbrev pub at_d_type : LfType
at_d_type = pi exp (on_two 2 (var 0) (d_of (var 0)))

abbrev pub at_a_type : LfType
at_a_type = pi (on_one 1 a) (on_two 2 a (var 0))

abbrev pub at_b_type : LfType
at_b_type = pi exp (pi (on_one 1 (b_of (var 0))) (on_two 2 (b_of (var 1)) (var 0)))

abbrev pub whole_types : ℕ → Option LfType
whole_types zero = Some exp
whole_types (suc zero) = Some t_all
whole_types (suc (suc zero)) = Some at_d_type
whole_types (suc (suc (suc zero))) = Some at_a_type
whole_types (suc (suc (suc (suc zero)))) = Some (pi exp exp)
whole_types (suc (suc (suc (suc (suc zero))))) = Some at_b_type
whole_types (suc (suc (suc (suc (suc (suc c)))))) = None

abbrev pub Whole : Signature
Whole = record { types = whole_types; kinds = turning_kinds }

-- The patterns are the heads f M (d M) of f-d, f a Y of f-a and f (b M) Y of f-b, and the head f x Y of the entry u of block {x:exp} {u:{Y:t x} f x Y}.
abbrev pub at_d_head : Pattern
at_d_head = head_of at_d_type

abbrev pub at_a_head : Pattern
at_a_head = head_of at_a_type

abbrev pub at_b_head : Pattern
at_b_head = head_of at_b_type

abbrev pub turning_clause : Clause
turning_clause = entry_clause second_block (exp ∷ []) (pi (on_one 1 (var 0)) (on_two 2 (var 1) (var 0)))

abbrev pub turning_head : Pattern
turning_head = head_pattern turning_clause (of_entry second_block [] (pi (on_one 1 (var 0)) (on_two 2 (var 1) (var 0))) (exp ∷ []) refl)

abbrev pub whole_heads : List Pattern
whole_heads = at_d_head ∷ at_a_head ∷ at_b_head ∷ turning_head ∷ []

-- The goal f N Y, with Y : t N, is split into f M (d M) and f N e.y, for a block variable e of some {n:exp} block {y:t n} on N. The latter is split into f a
-- e.y, where e stands on a, f (b N') e.y, where e stands on b N', and f c.x e.y, where e stands on c.x. The constant of e.y is 6, and that of c.x is 7.
abbrev pub turning_goal : NumberedCase
turning_goal = record { blocks = []; variables = on_one 1 (var 0) ∷ exp ∷ []; given = []; local = []; family = 2; arguments = Some (var 1) ∷ Some (var 0) ∷ [] }

abbrev pub d_case : NumberedCase
d_case = record { blocks = []; variables = exp ∷ []; given = []; local = []; family = 2; arguments = Some (var 0) ∷ Some (d_of (var 0)) ∷ [] }

abbrev pub y_case : NumberedCase
y_case = record { blocks = record { block = first_block; terms = app (var 0) nil } ∷ []; variables = exp ∷ []; given = []; local = []; family = 2; arguments = Some (var 0) ∷ Some (root (constant 6) (app (var 0) nil)) ∷ [] }

abbrev pub a_case : NumberedCase
a_case = record { blocks = record { block = first_block; terms = app a nil } ∷ []; variables = []; given = []; local = []; family = 2; arguments = Some a ∷ Some (root (constant 6) (app a nil)) ∷ [] }

abbrev pub b_case : NumberedCase
b_case = record {
  blocks = record { block = first_block; terms = app (b_of (var 0)) nil } ∷ [];
  variables = exp ∷ [];
  given = [];
  local = [];
  family = 2;
  arguments = Some (b_of (var 0)) ∷ Some (root (constant 6) (app (b_of (var 0)) nil)) ∷ [];
}

abbrev pub x_case : NumberedCase
x_case = record {
  blocks = record { block = first_block; terms = app (root (constant 7) nil) nil } ∷ record { block = second_block; terms = nil } ∷ [];
  variables = [];
  given = [];
  local = [];
  family = 2;
  arguments = Some (root (constant 7) nil) ∷ Some (root (constant 6) (app (root (constant 7) nil) nil)) ∷ [];
}

-- Y is the first candidate of the goal, by f M (d M), and N is that of f N e.y, by f a Y. The law names the splits at these two, their four leaves, and the
-- answer: the goal is covered.
abbrev pub WholeRunIsAnswered : Type 0
WholeRunIsAnswered =
    (numbered_candidates 6 turning_goal at_d_head ≡ 0 ∷ [])
    × (numbered_candidates 6 y_case at_d_head ≡ [])
    × (numbered_candidates 6 y_case at_a_head ≡ 0 ∷ [])
    × ((below : ℕ → ℕ → Bool) → IsSubordination Whole (first_block ∷ second_block ∷ []) below →
    NumberedSplitIs Whole 6 (first_block ∷ second_block ∷ []) below turning_goal 0 (numbered_cases (d_case ∷ y_case ∷ []))
    × NumberedSplitIs Whole 6 (first_block ∷ second_block ∷ []) below y_case 0 (numbered_cases (a_case ∷ b_case ∷ x_case ∷ []))
    × NumberedMatchedIs Whole 6 (first_block ∷ second_block ∷ []) d_case at_d_head instance
    × NumberedMatchedIs Whole 6 (first_block ∷ second_block ∷ []) a_case at_a_head instance
    × NumberedMatchedIs Whole 6 (first_block ∷ second_block ∷ []) b_case at_b_head instance
    × NumberedMatchedIs Whole 6 (first_block ∷ second_block ∷ []) x_case turning_head instance
    × NumberedCoverIs Whole 6 (first_block ∷ second_block ∷ []) below whole_heads turning_goal all_covered)
