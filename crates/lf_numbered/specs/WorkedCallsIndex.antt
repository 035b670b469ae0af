-- A worked run in which the index N of X : odd N is split before X: so f z X is answered to be missing, though no X has the type odd z.
use Rattle.std.specs.Prelude.{ℕ, zero, suc, [], ◌∷◌, Bool, Option, Some, None}
use Rattle.lf.specs.Syntax.{constant, root, nil, LfType, Kind, pi, kind_pi, star}
use Rattle.lf.specs.Typing.{Signature}
use Rattle.lf_checks.specs.Below.{IsSubordination}
use Rattle.lf_cases.specs.Pattern.{Pattern}
use Rattle.lf_totality.specs.Examples.{nat, on_two, successor, var, z}
use Rattle.lf_totality.specs.ExamplesGroups.{on_one}
use Rattle.lf_totality.specs.ExamplesReached.{head_of}
use Rattle.lf_coverage.specs.Calls.{apart, candidates}
use Rattle.lf_numbered.specs.NumberedCalls.{NumberedCoverIs, NumberedMatchedIs, NumberedSplitIs, numbered_cases, one_missing}
use Rattle.lf_numbered.specs.NumberedCase.{NumberedCase}

-- The families are nat : type (0), odd : nat -> type (1) and f : {N:nat} odd N -> type (2). The constants are z : nat (0), s : nat -> nat (1), o : odd (s z)
-- (2) and f-1 : f (s z) o (3).
abbrev pub odd_one : LfType
odd_one = on_one 1 (successor z)

abbrev pub f_type : LfType
f_type = on_two 2 (successor z) (root (constant 2) nil)

abbrev pub odd_types : ℕ → Option LfType
odd_types zero = Some nat
odd_types (suc zero) = Some (pi nat nat)
odd_types (suc (suc zero)) = Some odd_one
odd_types (suc (suc (suc zero))) = Some f_type
odd_types (suc (suc (suc (suc c)))) = None

abbrev pub f_kind : Kind
f_kind = kind_pi nat (kind_pi (on_one 1 (var 0)) star)

abbrev pub odd_kinds : ℕ → Option Kind
odd_kinds zero = Some star
odd_kinds (suc zero) = Some (kind_pi nat star)
odd_kinds (suc (suc zero)) = Some f_kind
odd_kinds (suc (suc (suc f))) = None

abbrev pub Odd : Signature
Odd = record { types = odd_types; kinds = odd_kinds }

abbrev pub f_head : Pattern
f_head = head_of f_type

-- The goal is f N X, with X : odd N, and the other case is f z X, with X : odd z.
abbrev pub f_goal : NumberedCase
f_goal = record { blocks = []; variables = on_one 1 (var 0) ∷ nat ∷ []; given = []; local = []; family = 2; arguments = Some (var 1) ∷ Some (var 0) ∷ [] }

abbrev pub f_zero : NumberedCase
f_zero = record { blocks = []; variables = on_one 1 z ∷ []; given = []; local = []; family = 2; arguments = Some z ∷ Some (var 0) ∷ [] }

-- Candidates come from the left: N, which is the variable 1, comes before X, which is 0. So N is split first and f z X is reached. It is apart from f (s z) o,
-- so it is missing; though a split at X has no case, since no head has the type odd z.
abbrev pub IndexIsSplitFirst : Type 0
IndexIsSplitFirst =
    NumberedMatchedIs Odd 4 [] f_goal f_head (candidates (1 ∷ 0 ∷ []))
    × NumberedMatchedIs Odd 4 [] f_zero f_head apart
    × ((below : ℕ → ℕ → Bool) → NumberedCoverIs Odd 4 [] below (f_head ∷ []) f_goal (one_missing f_zero))
    × ((below : ℕ → ℕ → Bool) → IsSubordination Odd [] below → NumberedSplitIs Odd 4 [] below f_zero 0 (numbered_cases []))
