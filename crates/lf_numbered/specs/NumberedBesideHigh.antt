-- Worked: why `some` variables must take only what quantifies over what is below. A variable of {v:d} {y:{u:d} a} c, where d isn't below a, isn't split by
-- k : a -> c, since its new variable is raised over y alone.
use Rattle.std.specs.Prelude.{◌≡◌, ℕ, zero, suc, [], ◌∷◌, Bool, true, Option, Some, None}
use Rattle.lf.specs.Syntax.{constant, variable, Term, lambda, root, nil, app, LfType, pi, atom, Kind, kind_pi, star}
use Rattle.lf.specs.Typing.{Signature}
use Rattle.lf.specs.Subordination.{Below}
use Rattle.lf.specs.Variables.{same_number}
use Rattle.lf_checks.specs.Tests.{either}
use Rattle.lf_cases.specs.Case.{free_variable}
use Rattle.lf_cases.specs.Reached.{split_items}
use Rattle.lf_numbered.specs.EntryPatternsRuns.{IsNumberedSplit}
use Rattle.lf_numbered.specs.NumberedBeside.{TakesBelow}
use Rattle.lf_numbered.specs.NumberedCase.{NumberedCase}
use Rattle.lf_numbered.specs.TypedNumbered.{IsTypedNumberedCase}

-- Families a = 0, c = 1, d = 2, and q = 3 : c -> c -> type; constants k = 0 : a -> c, m = 1 : a and n = 2 : a.
abbrev pub fam_a : LfType
fam_a = atom 0 nil

abbrev pub fam_c : LfType
fam_c = atom 1 nil

abbrev pub fam_d : LfType
fam_d = atom 2 nil

abbrev pub high_types : ℕ → Option LfType
high_types zero = Some (pi fam_a fam_c)
high_types (suc zero) = Some fam_a
high_types (suc (suc zero)) = Some fam_a
high_types (suc (suc (suc i))) = None

abbrev pub high_kinds : ℕ → Option Kind
high_kinds zero = Some star
high_kinds (suc zero) = Some star
high_kinds (suc (suc zero)) = Some star
high_kinds (suc (suc (suc zero))) = Some (kind_pi fam_c (kind_pi fam_c star))
high_kinds (suc (suc (suc (suc i)))) = None

abbrev pub High : Signature
High = record { types = high_types; kinds = high_kinds }

-- A test that holds of what is below: a is below c, all are below q, and d isn't below a.
abbrev pub high_below : ℕ → ℕ → Bool
high_below zero b = same_number 0 b
high_below (suc zero) b = either (same_number 0 b) (same_number 1 b)
high_below (suc (suc zero)) b = same_number 2 b
high_below (suc (suc (suc i))) b = true

abbrev pub high_type : LfType
high_type = pi fam_d (pi (pi fam_d fam_a) fam_c)

-- Under {z:d} the case q (f z ([u] m)) (f z ([u] n)), where z is 0 and f is 1
abbrev pub high_value : ℕ → Term
high_value c = root (variable 1) (app (root (variable 0) nil) (app (lambda (root (constant c) nil)) nil))

abbrev pub high_case : NumberedCase
high_case = record { blocks = []; variables = high_type ∷ []; given = []; local = fam_d ∷ []; family = 3; arguments = Some (high_value 1) ∷ Some (high_value 2) ∷ [] }

-- With [v] [y] k (X y) for f it is q (k (X ([u] m))) (k (X ([u] n))).
abbrev pub raised_type : LfType
raised_type = pi (pi fam_d fam_a) fam_a

abbrev pub raised_value : ℕ → Term
raised_value c = root (constant 0) (app (root (variable 1) (app (lambda (root (constant c) nil)) nil)) nil)

abbrev pub raised_case : NumberedCase
raised_case = record { blocks = []; variables = raised_type ∷ []; given = []; local = fam_d ∷ []; family = 3; arguments = Some (raised_value 1) ∷ Some (raised_value 2) ∷ [] }

-- By subordination d isn't below a. The split by k gives X this type. Where f is [v] [y] k (y v), the case is q (k m) (k n), which no X gives: X ([u] m) is m or n, whatever u's body.
abbrev pub HighIsLost : Type 0
HighIsLost = IsTypedNumberedCase High 3 [] high_case × (Below High [] 2 0 → ⊥) × (TakesBelow high_below high_type → ⊥) × (split_items high_below high_type (free_variable high_type ∷ []) 0 (pi fam_a fam_c) ≡ free_variable raised_type ∷ free_variable high_type ∷ []) × ((S : ℕ → Bool) → IsNumberedSplit High 3 [] S high_case (raised_case ∷ []) → ⊥)
