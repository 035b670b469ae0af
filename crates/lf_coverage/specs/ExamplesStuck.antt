-- Worked cases of matching, and a case that a most general unifier gives though nothing can split it.
use Rattle.std.specs.Prelude.{◌≡◌, [], ◌∷◌, List, ℕ, zero, suc, Bool, true, Option, Some, None}
use Rattle.lf.specs.Syntax.{constant, variable, lambda, root, nil, app, LfType, Kind, pi, atom, kind_pi, star}
use Rattle.lf.specs.Typing.{Signature}
use Rattle.lf.specs.Variables.{everything, nothing, same_number, target_arguments}
use Rattle.lf.specs.Subordination.{IsBelowTest}
use Rattle.lf_checks.specs.Clause.{Clause, constant_clause}
use Rattle.lf_checks.specs.Marks.{Mark, input}
use Rattle.lf_checks.specs.Tests.{is_in}
use Rattle.lf_cases.specs.Case.{Case, free_variable}
use Rattle.lf_cases.specs.Candidates.{case_candidates}
use Rattle.lf_cases.specs.Full.{IsLinear, IsFull}
use Rattle.lf_cases.specs.Pattern.{Pattern}
use Rattle.lf_cases.specs.Reached.{Reached, IsUnsplit}
use Rattle.lf_totality.specs.Examples.{nat, z, var, applied_to, on_two}
use Rattle.lf_totality.specs.ExamplesReached.{equal_kinds, head_of, eq_goal, applied_clause}
use Rattle.lf_coverage.specs.TermMatching.{HasPatterns, TakesBound}
use Rattle.lf_coverage.specs.FullMatching.{AllHavePatterns, PlacesHavePatterns}

-- Patterns: X, and [x] F x; not F z, since z is no bound variable.
abbrev pub PatternsStand : Type 0
PatternsStand = HasPatterns nothing everything (var 0) × HasPatterns nothing everything (lambda (applied_to 1 0)) × (HasPatterns nothing everything (root (variable 0) (app z nil)) → ⊥)

-- Under [x], the clause's variable Y in Y x takes the bound variable of the case's term F x; in Y alone it doesn't. It is variable 2, and F is variable 1.
abbrev pub BoundIsTaken : Type 0
BoundIsTaken = TakesBound nothing everything (lambda (applied_to 1 0)) (lambda (applied_to 2 0)) × (TakesBound nothing everything (lambda (applied_to 1 0)) (lambda (var 2)) → ⊥)

-- nat, and eq with one clause: eq z z
abbrev pub zero_types : ℕ → Option LfType
zero_types zero = Some nat
zero_types (suc zero) = Some (pi nat nat)
zero_types (suc (suc zero)) = Some (on_two 2 z z)
zero_types (suc (suc (suc n))) = None

abbrev pub Zeros : Signature
Zeros = record { types = zero_types; kinds = equal_kinds }

-- nat is below eq, and nothing else is below another family
abbrev pub zeros_below : ℕ → ℕ → Bool
zeros_below zero b = same_number 0 b
zeros_below (suc zero) b = same_number 1 b
zeros_below (suc (suc zero)) b = is_in b (0 ∷ 2 ∷ [])
zeros_below (suc (suc (suc n))) b = same_number (suc (suc (suc n))) b

abbrev pub ZerosAreTested : Type 0
ZerosAreTested = (f : ℕ) → IsBelowTest Zeros [] (zeros_below f) f

abbrev pub zero_heads : List Pattern
zero_heads = head_of (on_two 2 z z) ∷ []

abbrev pub two_inputs : ℕ → List Mark
two_inputs a = input ∷ input ∷ []

-- all places are inputs of a family with one
abbrev pub one_input : ℕ → List Mark
one_input a = input ∷ []

-- eq z (F z), with F : nat -> nat
abbrev pub applied_case : Case
applied_case = record { items = free_variable (pi nat nat) ∷ []; given = []; local = []; family = 2; arguments = Some z ∷ Some (root (variable 0) (app z nil)) ∷ [] }

-- eq X Y is split at X by z. That X is z and Y is F z is a most general unifier too, since every term is an instance of F z. So eq z (F z) is
-- reached. It shares an instance with the clause, which is linear and full, and is none of it; but F z is no variable on distinct bound
-- variables. So the strategy is stuck there: that it never is can be said only of cases whose variables stand on distinct bound variables, as
-- solving gives them over families without indices. Here this is eq z Y.
abbrev pub AppliedIsReached : Type 0
AppliedIsReached = Reached Zeros [] (λ C p. ⊥) zeros_below zero_heads eq_goal applied_case × IsUnsplit Zeros [] (λ C p. ⊥) zero_heads applied_case × IsLinear two_inputs (constant_clause (on_two 2 z z)) × IsFull Zeros zeros_below two_inputs (constant_clause (on_two 2 z z))

-- eq z Y, which solving gives: Y is a candidate. Its arguments have patterns, and those of eq z (F z) don't; nor does the head k (F z), with k = 2, but eq z z does.
abbrev pub solved_case : Case
solved_case = record { items = free_variable nat ∷ []; given = []; local = []; family = 2; arguments = Some z ∷ Some (var 0) ∷ [] }

abbrev pub SolvedHasCandidate : Type 0
SolvedHasCandidate = (case_candidates solved_case (head_of (on_two 2 z z)) ≡ 0 ∷ []) × AllHavePatterns nothing everything solved_case.arguments × (AllHavePatterns nothing everything applied_case.arguments → ⊥) × PlacesHavePatterns nothing everything (true ∷ true ∷ []) (target_arguments (on_two 2 z z)) × (PlacesHavePatterns nothing everything (true ∷ []) (target_arguments applied_clause.type) → ⊥)

-- Families a = 0, b = 1, d = 2, e = 3 and p = 4, constants k : b -> d and l : ({x:a} d) -> e, and the clause {Y:b} p (l ([x] k Y)).
abbrev pub lower_type : LfType
lower_type = pi (atom 1 nil) (atom 4 (app (root (constant 1) (app (lambda (root (constant 0) (app (var 1) nil))) nil)) nil))

abbrev pub below_types : ℕ → Option LfType
below_types zero = Some (pi (atom 1 nil) (atom 2 nil))
below_types (suc zero) = Some (pi (pi (atom 0 nil) (atom 2 nil)) (atom 3 nil))
below_types (suc (suc zero)) = Some lower_type
below_types (suc (suc (suc n))) = None

abbrev pub below_kinds : ℕ → Option Kind
below_kinds zero = Some star
below_kinds (suc zero) = Some star
below_kinds (suc (suc zero)) = Some star
below_kinds (suc (suc (suc zero))) = Some star
below_kinds (suc (suc (suc (suc zero)))) = Some (kind_pi (atom 3 nil) star)
below_kinds (suc (suc (suc (suc (suc n))))) = None

abbrev pub Lower : Signature
Lower = record { types = below_types; kinds = below_kinds }

-- Only themselves are below a and b; a and b are below d, these below e, and all below p.
abbrev pub lower_below : ℕ → ℕ → Bool
lower_below zero b = same_number 0 b
lower_below (suc zero) b = same_number 1 b
lower_below (suc (suc zero)) b = is_in b (0 ∷ 1 ∷ 2 ∷ [])
lower_below (suc (suc (suc zero))) b = is_in b (0 ∷ 1 ∷ 2 ∷ 3 ∷ [])
lower_below (suc (suc (suc (suc zero)))) b = is_in b (0 ∷ 1 ∷ 2 ∷ 3 ∷ 4 ∷ [])
lower_below (suc (suc (suc (suc (suc n))))) b = same_number (suc (suc (suc (suc (suc n))))) b

abbrev pub LowerIsTested : Type 0
LowerIsTested = (f : ℕ) → IsBelowTest Lower [] (lower_below f) f

abbrev pub lower_clause : Clause
lower_clause = constant_clause lower_type

-- p (l ([x] k (F x))), with F : a -> b, where a isn't below b
abbrev pub lower_case : Case
lower_case = record { items = free_variable (pi (atom 0 nil) (atom 1 nil)) ∷ []; given = []; local = []; family = 4; arguments = Some (root (constant 1) (app (lambda (root (constant 0) (app (applied_to 1 0) nil))) nil)) ∷ [] }

-- The clause is linear and full, since a, the family of x, isn't below b, that of Y. It shares an instance with the case, which has no candidate and isn't one of it. So the
-- types of a case's variables have to quantify over what is below: no goal of inputs has such an F, but a block with a `some` variable could bring one.
abbrev pub LowerIsUnsplit : Type 0
LowerIsUnsplit = IsUnsplit Lower [] (λ C p. ⊥) (head_of lower_clause.type ∷ []) lower_case × IsLinear one_input lower_clause × IsFull Lower lower_below one_input lower_clause
