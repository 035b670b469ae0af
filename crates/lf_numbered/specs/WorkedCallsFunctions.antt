-- Worked splits and meetings at entries: b.h X, for an entry h that is a function, clashes with s N; and the equation F b.x = c.x of a free variable F is left
-- over, also where c is a new block variable.
use Rattle.std.specs.Prelude.{ℕ, zero, suc, [], ◌∷◌, Bool, Option, Some, None}
use Rattle.lf.specs.Syntax.{constant, variable, metavariable, Term, root, nil, app, LfType, Kind, pi, kind_pi, star}
use Rattle.lf.specs.Subordination.{Block}
use Rattle.lf.specs.Typing.{Signature}
use Rattle.lf_unification.specs.Unifiers.{Equation}
use Rattle.lf_checks.specs.Below.{IsSubordination}
use Rattle.lf_totality.specs.Examples.{nat, var}
use Rattle.lf_totality.specs.ExamplesGroups.{on_one}
use Rattle.lf_totality.specs.ExamplesReached.{head_of}
use Rattle.lf_coverage.specs.Calls.{apart}
use Rattle.lf_numbered.specs.NumberedCalls.{NumberedMatchedIs, NumberedSplitIs, numbered_cases, outside_over}
use Rattle.lf_numbered.specs.NumberedCase.{NumberedCase}
use Rattle.lf_numbered.specs.NumberedSplitsExamples.{Bare, exp, exp_block, has}

-- The families are nat : type (0), a : nat -> type (1) and q : {N:nat} a N -> type (2). The constants are s : nat -> nat (0) and a-s : {N:nat} a (s N) (1).
abbrev pub rising : LfType
rising = pi nat (on_one 1 (root (constant 0) (app (var 0) nil)))

abbrev pub rising_types : ℕ → Option LfType
rising_types zero = Some (pi nat nat)
rising_types (suc zero) = Some rising
rising_types (suc (suc c)) = None

abbrev pub rising_kinds : ℕ → Option Kind
rising_kinds zero = Some star
rising_kinds (suc zero) = Some (kind_pi nat star)
rising_kinds (suc (suc zero)) = Some (kind_pi nat (kind_pi (on_one 1 (var 0)) star))
rising_kinds (suc (suc (suc a))) = None

abbrev pub Rising : Signature
Rising = record { types = rising_types; kinds = rising_kinds }

-- block {h:nat -> nat}
abbrev pub rising_block : Block
rising_block = record { label = 98 ∷ []; some = []; entries = pi nat nat ∷ [] }

-- The term b.h M, for a block variable b. The constant of b.h is 3.
abbrev pub entry_of : Term → Term
entry_of M = root (constant 3) (app M nil)

-- The cases are q (b.h X) Y, with Y : a (b.h X), and a (b.h X).
abbrev pub applied_entry : NumberedCase
applied_entry = record { blocks = record { block = rising_block; terms = nil } ∷ []; variables = on_one 1 (entry_of (var 0)) ∷ nat ∷ []; given = []; local = []; family = 2; arguments = Some (entry_of (var 1)) ∷ Some (var 0) ∷ [] }

abbrev pub index_entry : NumberedCase
index_entry = record { blocks = record { block = rising_block; terms = nil } ∷ []; variables = nat ∷ []; given = []; local = []; family = 1; arguments = Some (entry_of (var 0)) ∷ [] }

-- The equation b.h X = s N is a clash of two rigid heads, as of two constants. So a-s gives no case of Y, and there is no other head: the split has no case.
-- And a (b.h X) is apart from the head a (s N) of a-s.
abbrev pub FunctionEntryClashes : Type 0
FunctionEntryClashes = ((below : ℕ → ℕ → Bool) → IsSubordination Rising (rising_block ∷ []) below → NumberedSplitIs Rising 3 (rising_block ∷ []) below applied_entry 0 (numbered_cases [])) × NumberedMatchedIs Rising 3 (rising_block ∷ []) index_entry (head_of rising) apart

-- The other split is over exp and p : exp -> type, in the worlds of {x:exp} {u:p x}. Its case is p (F b.x), with Y : p (F b.x), for a block variable b. The
-- constant of b.x is 2, and those of a new block variable c are 4 for c.x and 5 for c.u.
abbrev pub flexible_index : Term
flexible_index = root (variable 1) (app (root (constant 2) nil) nil)

abbrev pub flexible_case : NumberedCase
flexible_case = record { blocks = record { block = exp_block; terms = nil } ∷ []; variables = has (root (variable 0) (app (root (constant 2) nil) nil)) ∷ pi exp exp ∷ []; given = []; local = []; family = 1; arguments = Some flexible_index ∷ [] }

abbrev pub flexible_with_new : NumberedCase
flexible_with_new = record { blocks = record { block = exp_block; terms = nil } ∷ record { block = exp_block; terms = nil } ∷ []; variables = has (root (variable 0) (app (root (constant 2) nil) nil)) ∷ pi exp exp ∷ []; given = []; local = []; family = 1; arguments = Some flexible_index ∷ [] }

abbrev pub flexible_left : Equation
flexible_left = record { local = []; left = root (metavariable 1) (app (root (constant 2) nil) nil); right = root (constant 4) nil; of_type = exp }

-- At the head c.u : p c.x the equation F b.x = c.x is left. It is shown over the case with the new block variable c, since the case without it has no c.x.
abbrev pub NewEntryIsLeft : Type 0
NewEntryIsLeft = (below : ℕ → ℕ → Bool) → NumberedSplitIs Bare 2 (exp_block ∷ []) below flexible_case 0 (outside_over flexible_with_new flexible_left)
