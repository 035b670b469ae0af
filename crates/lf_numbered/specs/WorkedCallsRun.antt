-- A whole run by number in the worlds of {x:exp} {u:w x} {v:q x}: the split, its leaves and the answer. Nothing asks for the family w of the entry u, and it
-- isn't in the set beside which the goal q E is covered.
use Rattle.std.specs.Prelude.{ℕ, zero, suc, [], ◌∷◌, List, Bool, true, false, Option, Some, None, refl}
use Rattle.lf.specs.Syntax.{constant, Term, root, nil, app, LfType, Kind, pi, kind_pi, star}
use Rattle.lf.specs.Subordination.{Block}
use Rattle.lf.specs.Typing.{Signature}
use Rattle.lf_checks.specs.Below.{IsSubordination}
use Rattle.lf_checks.specs.Clause.{Clause, constant_clause, entry_clause}
use Rattle.lf_cases.specs.Pattern.{Pattern, of_constant, of_entry, head_pattern}
use Rattle.lf_totality.specs.Examples.{exp, var}
use Rattle.lf_totality.specs.ExamplesGroups.{on_one}
use Rattle.lf_coverage.specs.Calls.{instance}
use Rattle.lf_numbered.specs.NumberedCalls.{IsBesideByNumber, NumberedCoverIs, NumberedMatchedIs, NumberedSplitIs, all_covered, numbered_cases}
use Rattle.lf_numbered.specs.NumberedCase.{NumberedCase}

-- The families are exp : type (0), w : exp -> type (1) and q : exp -> type (2). The constants are a : exp (0), b : exp -> exp (1), q-a : q a (2) and q-b :
-- {E:exp} q (b E) (3).
abbrev pub a : Term
a = root (constant 0) nil

abbrev pub b_of : Term → Term
b_of M = root (constant 1) (app M nil)

abbrev pub q_a : Clause
q_a = constant_clause (on_one 2 a)

abbrev pub q_b : Clause
q_b = constant_clause (pi exp (on_one 2 (b_of (var 0))))

abbrev pub unasked_types : ℕ → Option LfType
unasked_types zero = Some exp
unasked_types (suc zero) = Some (pi exp exp)
unasked_types (suc (suc zero)) = Some q_a.type
unasked_types (suc (suc (suc zero))) = Some q_b.type
unasked_types (suc (suc (suc (suc c)))) = None

abbrev pub unasked_kinds : ℕ → Option Kind
unasked_kinds zero = Some star
unasked_kinds (suc zero) = Some (kind_pi exp star)
unasked_kinds (suc (suc zero)) = Some (kind_pi exp star)
unasked_kinds (suc (suc (suc c))) = None

abbrev pub Unasked : Signature
Unasked = record { types = unasked_types; kinds = unasked_kinds }

-- block {x:exp} {u:w x} {v:q x}
abbrev pub unasked_block : Block
unasked_block = record { label = 108 ∷ []; some = []; entries = on_one 2 (var 1) ∷ on_one 1 (var 0) ∷ exp ∷ [] }

abbrev pub unasked_worlds : List Block
unasked_worlds = unasked_block ∷ []

abbrev pub v_clause : Clause
v_clause = entry_clause unasked_block (on_one 1 (var 0) ∷ exp ∷ []) (on_one 2 (var 1))

-- The patterns are the heads q a of q-a, q (b E) of q-b and q x of the entry v.
abbrev pub a_head : Pattern
a_head = head_pattern q_a (of_constant q_a.type)

abbrev pub b_head : Pattern
b_head = head_pattern q_b (of_constant q_b.type)

abbrev pub v_head : Pattern
v_head = head_pattern v_clause (of_entry unasked_block [] (on_one 2 (var 1)) (on_one 1 (var 0) ∷ exp ∷ []) refl)

abbrev pub unasked_heads : List Pattern
unasked_heads = a_head ∷ b_head ∷ v_head ∷ []

-- The goal is q E. Its split gives q a, q (b E), and q b.x for a new block variable b, whose constants are 4 for b.x, 5 for b.u and 6 for b.v.
abbrev pub q_goal : NumberedCase
q_goal = record { blocks = []; variables = exp ∷ []; given = []; local = []; family = 2; arguments = Some (var 0) ∷ [] }

abbrev pub q_a_case : NumberedCase
q_a_case = record { blocks = []; variables = []; given = []; local = []; family = 2; arguments = Some a ∷ [] }

abbrev pub q_b_case : NumberedCase
q_b_case = record { blocks = []; variables = exp ∷ []; given = []; local = []; family = 2; arguments = Some (b_of (var 0)) ∷ [] }

abbrev pub q_x_case : NumberedCase
q_x_case = record { blocks = record { block = unasked_block; terms = nil } ∷ []; variables = []; given = []; local = []; family = 2; arguments = Some (root (constant 4) nil) ∷ [] }

-- The set has exp and q, but not w.
abbrev pub exp_and_q : ℕ → Bool
exp_and_q zero = true
exp_and_q (suc zero) = false
exp_and_q (suc (suc zero)) = true
exp_and_q (suc (suc (suc c))) = false

-- The run is the split, its three leaves, and the answer: q E is covered beside each set that the contract names. The set of exp and q alone is one of them,
-- though the entry u, which comes with b.x, has the family w, which isn't in it.
abbrev pub UnaskedEntryIsNoHindrance : Type 0
UnaskedEntryIsNoHindrance = (below : ℕ → ℕ → Bool) → IsSubordination Unasked unasked_worlds below →
    NumberedSplitIs Unasked 4 unasked_worlds below q_goal 0 (numbered_cases (q_a_case ∷ q_b_case ∷ q_x_case ∷ []))
    × NumberedMatchedIs Unasked 4 unasked_worlds q_a_case a_head instance
    × NumberedMatchedIs Unasked 4 unasked_worlds q_b_case b_head instance
    × NumberedMatchedIs Unasked 4 unasked_worlds q_x_case v_head instance
    × NumberedCoverIs Unasked 4 unasked_worlds below unasked_heads q_goal all_covered
    × IsBesideByNumber Unasked unasked_worlds exp_and_q q_goal
