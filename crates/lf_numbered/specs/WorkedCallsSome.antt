-- A worked run by number in the worlds of some {t:tp} block {x:exp} {v:q x}, where tp has no constant, and isn't in the set beside which the goal q E is
-- covered.
use Rattle.std.specs.Prelude.{ℕ, zero, suc, [], ◌∷◌, List, Bool, true, false, Option, Some, None, refl}
use Rattle.lf.specs.Syntax.{constant, root, nil, app, LfType, Kind, atom, kind_pi, star}
use Rattle.lf.specs.Subordination.{Block}
use Rattle.lf.specs.Typing.{Signature}
use Rattle.lf_checks.specs.Below.{IsSubordination}
use Rattle.lf_checks.specs.Clause.{Clause, entry_clause}
use Rattle.lf_cases.specs.Pattern.{Pattern, of_entry, head_pattern}
use Rattle.lf_totality.specs.Examples.{exp, var}
use Rattle.lf_totality.specs.ExamplesGroups.{on_one}
use Rattle.lf_coverage.specs.Calls.{instance}
use Rattle.lf_numbered.specs.NumberedCalls.{IsBesideByNumber, NumberedCoverIs, NumberedMatchedIs, NumberedSplitIs, all_covered, numbered_cases}
use Rattle.lf_numbered.specs.NumberedCase.{NumberedCase}

-- The families are exp : type (0), tp : type (1) and q : exp -> type (2). There are no constants.
abbrev pub tp : LfType
tp = atom 1 nil

abbrev pub typed_kinds : ℕ → Option Kind
typed_kinds zero = Some star
typed_kinds (suc zero) = Some star
typed_kinds (suc (suc zero)) = Some (kind_pi exp star)
typed_kinds (suc (suc (suc c))) = None

abbrev pub Typed : Signature
Typed = record { types = λ c. None; kinds = typed_kinds }

-- some {t:tp} block {x:exp} {v:q x}
abbrev pub typed_block : Block
typed_block = record { label = 108 ∷ []; some = tp ∷ []; entries = on_one 2 (var 0) ∷ exp ∷ [] }

abbrev pub typed_worlds : List Block
typed_worlds = typed_block ∷ []

abbrev pub v_clause : Clause
v_clause = entry_clause typed_block (exp ∷ []) (on_one 2 (var 0))

abbrev pub v_head : Pattern
v_head = head_pattern v_clause (of_entry typed_block [] (on_one 2 (var 0)) (exp ∷ []) refl)

-- The goal is q E, and the other case is q b.x, for a block variable b on a free variable T : tp. The constant of b.x is 3.
abbrev pub q_goal : NumberedCase
q_goal = record { blocks = []; variables = exp ∷ []; given = []; local = []; family = 2; arguments = Some (var 0) ∷ [] }

abbrev pub q_entry : NumberedCase
q_entry = record { blocks = record { block = typed_block; terms = app (var 0) nil } ∷ []; variables = tp ∷ []; given = []; local = []; family = 2; arguments = Some (root (constant 3) (app (var 0) nil)) ∷ [] }

-- The set has exp and q, but not tp.
abbrev pub exp_and_q : ℕ → Bool
exp_and_q zero = true
exp_and_q (suc zero) = false
exp_and_q (suc (suc zero)) = true
exp_and_q (suc (suc (suc c))) = false

-- The goal q E is split into q b.x, which has a new free variable T : tp that occurs in the terms of b alone. In a context T is the term that stands for t
-- there, so the set of exp and q needs no term of tp. The case q b.x is an instance of v : q x; so v covers the goal.
abbrev pub SomeTermIsNoHindrance : Type 0
SomeTermIsNoHindrance = (below : ℕ → ℕ → Bool) → IsSubordination Typed typed_worlds below →
    NumberedSplitIs Typed 3 typed_worlds below q_goal 0 (numbered_cases (q_entry ∷ []))
    × NumberedMatchedIs Typed 3 typed_worlds q_entry v_head instance
    × NumberedCoverIs Typed 3 typed_worlds below (v_head ∷ []) q_goal all_covered
    × IsBesideByNumber Typed typed_worlds exp_and_q q_goal
