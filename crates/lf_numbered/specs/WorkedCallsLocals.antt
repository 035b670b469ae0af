-- A worked goal that shows why the local context of a goal has to quantify only over what is below: all else that
-- `cover` needs is so, the strategy's run ends at an instance, and the goal isn't covered.
use Rattle.std.specs.Prelude.{ℕ, zero, suc, List, [], ◌∷◌, Bool, true, Option, Some, None}
use Rattle.lf.specs.Syntax.{constant, variable, Term, lambda, root, nil, app, LfType, pi, atom, Kind, kind_pi, star}
use Rattle.lf.specs.Typing.{Signature}
use Rattle.lf.specs.Subordination.{IsBelowTest, Member}
use Rattle.lf.specs.Variables.{same_number}
use Rattle.lf_checks.specs.Clause.{constant_clause}
use Rattle.lf_cases.specs.Pattern.{Pattern, of_constant, subgoal_pattern}
use Rattle.lf_cases.specs.Split.{Ends}
use Rattle.lf_totality.specs.Examples.{var}
use Rattle.lf_coverage.specs.Calls.{instance}
use Rattle.lf_numbered.specs.EntryPatternsRuns.{HasOneBlock}
use Rattle.lf_numbered.specs.NumberedCalls.{IsFor, IsSetting, NumberedCoverIs, NumberedCoverNeeds, NumberedMatchedIs, all_covered}
use Rattle.lf_numbered.specs.NumberedCandidatesRuns.{AnswersFirst}
use Rattle.lf_numbered.specs.NumberedCase.{NumberedCase}
use Rattle.lf_numbered.specs.TypedNumbered.{IsTypedNumberedCase}

-- The families are a : type (0), c : type (1), q : c -> type (2), d : type (3) and p : type (4), and the one constant
-- is k : a -> c (0). So d isn't below a.
abbrev pub fam_a : LfType
fam_a = atom 0 nil

abbrev pub fam_c : LfType
fam_c = atom 1 nil

abbrev pub fam_d : LfType
fam_d = atom 3 nil

abbrev pub k_type : LfType
k_type = pi fam_a fam_c

abbrev pub local_types : ℕ → Option LfType
local_types zero = Some k_type
local_types (suc i) = None

abbrev pub q_kind : Kind
q_kind = kind_pi fam_c star

abbrev pub local_kinds : ℕ → Option Kind
local_kinds zero = Some star
local_kinds (suc zero) = Some star
local_kinds (suc (suc zero)) = Some q_kind
local_kinds (suc (suc (suc zero))) = Some star
local_kinds (suc (suc (suc (suc zero)))) = Some star
local_kinds (suc (suc (suc (suc (suc i))))) = None

abbrev pub Locals : Signature
Locals = record { types = local_types; kinds = local_kinds }

-- The test of subordination: a is below c, and both are below q.
abbrev pub local_below : ℕ → ℕ → Bool
local_below zero b = same_number zero b
local_below (suc zero) zero = true
local_below (suc zero) (suc b) = same_number zero b
local_below (suc (suc zero)) zero = true
local_below (suc (suc zero)) (suc zero) = true
local_below (suc (suc zero)) (suc (suc b)) = same_number zero b
local_below (suc (suc (suc f))) b = same_number (suc (suc (suc f))) b

-- y : {u:d} a is the newest variable under v : d, and [u] y u is y, eta-long.
abbrev pub y_type : LfType
y_type = pi fam_d fam_a

abbrev pub the_y : Term
the_y = lambda (root (variable 1) (app (var 0) nil))

-- k (X y), where X is the variable i
abbrev pub k_of : ℕ → Term
k_of i = root (constant 0) (app (root (variable i) (app the_y nil)) nil)

-- The pattern is the subgoal of {W:({y:{u:d} a} a)} ({v:d} {y:{u:d} a} q (k (W y))) -> p, which is the type of no
-- constant.
abbrev pub w_type : LfType
w_type = pi y_type fam_a

abbrev pub asks : ℕ → LfType
asks i = pi fam_d (pi y_type (atom 2 (app (k_of i) nil)))

abbrev pub local_clause : LfType
local_clause = pi w_type (pi (asks 2) (atom 4 nil))

abbrev pub local_pattern : Pattern
local_pattern = subgoal_pattern (constant_clause local_clause) (of_constant local_clause) (asks 3)

abbrev pub local_patterns : List Pattern
local_patterns = local_pattern ∷ []

-- The goal is {v:d} {y:{u:d} a} q (Y v y), with Y : {v:d} {y:{u:d} a} c.
abbrev pub local_goal : NumberedCase
local_goal = record { blocks = []; variables = pi fam_d (pi y_type fam_c) ∷ []; given = []; local = y_type ∷ fam_d ∷ []; family = 2; arguments = Some (root (variable 2) (app (var 1) (app the_y nil))) ∷ [] }

-- Its split at Y is {v:d} {y:{u:d} a} q (k (Z y)) alone, since what k takes is raised over y, and not over v, whose
-- family isn't below a.
abbrev pub raised_case : NumberedCase
raised_case = record { blocks = []; variables = w_type ∷ []; given = []; local = y_type ∷ fam_d ∷ []; family = 2; arguments = Some (k_of 2) ∷ [] }

-- What `cover` needs is so, but that the local context quantifies only over what is below: y quantifies d over a. The
-- strategy's run is one split, at whose end is an instance of the pattern. But q (k (y v)) isn't covered: there is no W
-- at all.
abbrev pub LostUnderLocals : Type 0
LostUnderLocals =
    IsSetting Locals 5 [] × ((f : ℕ) → IsBelowTest Locals [] (local_below f) f) × IsTypedNumberedCase Locals 5 [] local_goal × HasOneBlock local_goal × ((p : Pattern) → Member p local_patterns → IsFor Locals 5 [] local_goal p)
    × (NumberedCoverNeeds Locals 5 [] local_below local_patterns local_goal → ⊥)
    × Ends (λ D. (p : Pattern) × Member p local_patterns × NumberedMatchedIs Locals 5 [] D p instance) (AnswersFirst Locals 5 [] local_below local_patterns) local_goal
    × (NumberedCoverIs Locals 5 [] local_below local_patterns local_goal all_covered → ⊥)
