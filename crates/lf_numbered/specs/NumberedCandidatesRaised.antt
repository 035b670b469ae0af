-- Worked: a goal whose raised variable takes a family that isn't in a set beside which the goal is to be covered, though it is the goal's candidate.
use Rattle.std.specs.Prelude.{◌≡◌, ℕ, zero, suc, List, [], ◌∷◌, Bool, Option, Some, None}
use Rattle.lf.specs.Syntax.{constant, root, nil, app, LfType, pi, atom, Kind, kind_pi, star}
use Rattle.lf.specs.Typing.{Signature}
use Rattle.lf.specs.Variables.{FamiliesIn, everything, same_number}
use Rattle.lf.specs.Subordination.{IsBelowTest}
use Rattle.lf_checks.specs.Clause.{Clause, constant_clause, outside}
use Rattle.lf_checks.specs.Marks.{Mark, output}
use Rattle.lf_cases.specs.Pattern.{Pattern, of_constant, subgoal_pattern}
use Rattle.lf_coverage.specs.Calls.{LocalsIn}
use Rattle.lf_numbered.specs.EntryPatternsOutputs.{numbered_output_goal}
use Rattle.lf_numbered.specs.NumberedBeside.{IsUnifiedByNumber, TakesIn}
use Rattle.lf_numbered.specs.NumberedBesideGiven.{IsTypedBesideByNumber}
use Rattle.lf_numbered.specs.NumberedCalls.{IsBesideByNumber, NumberedCoverIs, all_covered}
use Rattle.lf_numbered.specs.NumberedCallsReached.{numbered_candidates}
use Rattle.lf_numbered.specs.NumberedCase.{NumberedCase}
use Rattle.lf_numbered.specs.NumberedSplitsExamples.{exp}
use Rattle.lf_numbered.specs.OwnStoresExamples.{each_below}

-- Families exp = 0, bx = 1, p : bx -> type = 2 and out = 3, and constants b1 : bx = 0, mk : (exp -> bx) -> out = 1 and c : ({x:exp} p b1) -> out = 2, whose
-- subgoal has an output.
abbrev pub bx : LfType
bx = atom 1 nil

abbrev pub raised_type : LfType
raised_type = pi exp (atom 2 (app (root (constant 0) nil) nil))

abbrev pub raising_types : ℕ → Option LfType
raising_types zero = Some bx
raising_types (suc zero) = Some (pi (pi exp bx) (atom 3 nil))
raising_types (suc (suc zero)) = Some (pi raised_type (atom 3 nil))
raising_types (suc (suc (suc c))) = None

abbrev pub raising_kinds : ℕ → Option Kind
raising_kinds zero = Some star
raising_kinds (suc zero) = Some star
raising_kinds (suc (suc zero)) = Some (kind_pi bx star)
raising_kinds (suc (suc (suc zero))) = Some star
raising_kinds (suc (suc (suc (suc a)))) = None

abbrev pub Raising : Signature
Raising = record { types = raising_types; kinds = raising_kinds }

abbrev pub raising_marks : ℕ → List Mark
raising_marks zero = []
raising_marks (suc zero) = []
raising_marks (suc (suc zero)) = output ∷ []
raising_marks (suc (suc (suc a))) = []

abbrev pub raising_clause : Clause
raising_clause = constant_clause (pi raised_type (atom 3 nil))

abbrev pub raised_pattern : Pattern
raised_pattern = subgoal_pattern raising_clause (of_constant (pi raised_type (atom 3 nil))) raised_type

abbrev pub raised_goal : NumberedCase
raised_goal = numbered_output_goal 4 each_below raising_marks (of_constant (pi raised_type (atom 3 nil))) (outside (pi raised_type (atom 3 nil)) everything) raised_type (kind_pi bx star)

-- The goal is p (Y x) under x:exp, where Y : {x:exp} bx, raised since mk takes {x:exp} bx, is the candidate. The set of bx alone is one beside which the goal is
-- to be covered; it has the family of Y and not that of x. To ask that a set has, with a variable's family, those that its type quantifies would leave it out.
abbrev pub RaisedIsCandidate : Type 0
RaisedIsCandidate = (raised_goal.variables ≡ pi exp bx ∷ []) × IsTypedBesideByNumber Raising 4 [] raised_goal raised_pattern × (numbered_candidates 4 raised_goal raised_pattern ≡ 0 ∷ []) × IsBesideByNumber Raising [] (same_number 1) raised_goal × TakesIn (same_number 1) (pi exp bx) × (FamiliesIn (same_number 1) (pi exp bx) → ⊥) × (LocalsIn (same_number 1) raised_goal.variables → ⊥)

-- Y is split by b1 alone, so that it is b1 whatever x is; and the goal is covered beside each set beside which it is to be.
abbrev pub constant_case : NumberedCase
constant_case = record { blocks = []; variables = []; given = None ∷ []; local = exp ∷ []; family = 2; arguments = Some (root (constant 0) nil) ∷ [] }

abbrev pub RaisedIsCovered : Type 0
RaisedIsCovered = (below : ℕ → ℕ → Bool) → IsUnifiedByNumber Raising 4 [] below raised_goal 0 (constant_case ∷ []) × (((f : ℕ) → IsBelowTest Raising [] (below f) f) → NumberedCoverIs Raising 4 [] below (raised_pattern ∷ []) raised_goal all_covered)
