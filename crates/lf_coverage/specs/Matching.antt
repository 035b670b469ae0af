-- Matching of a case with a pattern of a constant's clause: the values of the clause's variables are read off the case where they stand strictly in
-- the pattern, and then it is tested that they make the pattern the case.
use Rattle.std.specs.Prelude.{◌≡◌, ℕ, zero, suc, List, [], ◌∷◌, Bool, true, false, not, cond, Option, Some, None}
use Rattle.lf.specs.Syntax.{constant, variable, metavariable, Term, Spine, lambda, root, nil, app, LfType, pi, atom, skeleton, rename}
use Rattle.lf.specs.Substitution.{Image, keep, put, substitute_type, reduce}
use Rattle.lf.specs.Eta.{lambdas}
use Rattle.lf.specs.Typing.{Signature, TypeAt}
use Rattle.lf.specs.Variables.{target_arguments, under, hide, nothing, same_number, UsesType, Values}
use Rattle.lf_checks.specs.Tests.{both, either, is_in}
use Rattle.lf_checks.specs.Clause.{scope, outside}
use Rattle.lf_checks.specs.Ground.{UsesGoal}
use Rattle.lf_checks.specs.ModeForms.{argument_count}
use Rattle.lf_checks.specs.Parts.{type_at}
use Rattle.lf_checks.specs.Strict.{head_variable, with_seen, pattern_arguments, strict}
use Rattle.lf_cases.specs.Cover.{AreTerms}
use Rattle.lf_cases.specs.Case.{Case, items_context, covered_places}
use Rattle.lf_cases.specs.Pattern.{Pattern, given_at, ground_in}
use Rattle.lf_coverage.specs.OrElse.{or_else}
use Rattle.lf_coverage.specs.TermMatching.{bound}

-- whether each variable of a term is one of U
abbrev mutual
  pub has_only : (ℕ → Bool) → Term → Bool
  has_only U (lambda M) = has_only (under U) M
  has_only U (root (constant c) S) = spine_has_only U S
  has_only U (root (metavariable m) S) = spine_has_only U S
  has_only U (root (variable i) S) = both (U i) (spine_has_only U S)

  -- of the arguments
  pub spine_has_only : (ℕ → Bool) → Spine → Bool
  spine_has_only U nil = true
  spine_has_only U (app M S) = both (has_only U M) (spine_has_only U S)

-- a variable that stands outside n binders, as it is outside them
abbrev pub without : ℕ → ℕ → ℕ
without zero i = i
without (suc n) zero = zero
without (suc n) (suc i) = without n i

-- the variables that stand in a spine as arguments, the last in front, before those of ys
abbrev pub argument_variables : List ℕ → Spine → List ℕ
argument_variables ys nil = ys
argument_variables ys (app M S) = argument_variables (with_seen (head_variable zero M) ys) S

-- where the variables under n binders go when lambdas bind ys in their place, the first of ys innermost
abbrev pub over_lambdas : List ℕ → ℕ → ℕ → ℕ
over_lambdas [] n i = without n i
over_lambdas (y ∷ ys) n i = cond (same_number i y) zero (suc (over_lambdas ys n i))

-- What x is where x y1 .. yk is M, all under n binders: [y1] .. [yk] M. None where M has another variable that they bind, since no value of x makes
-- x y1 .. yk such a term. F y x beside c x y under [x] [y] gives [y] [x] c x y; F x beside it gives none.
abbrev pub read_off : ℕ → Spine → Term → Option Term
read_off n S M = cond (has_only (λ i. either (is_in i (argument_variables [] S)) (not (bound n i))) M) (Some (lambdas (argument_count S) (rename (over_lambdas (argument_variables [] S) n) M))) None

-- the arguments of a root
abbrev pub arguments_of : Term → Spine
arguments_of (lambda M) = nil
arguments_of (root h S) = S

-- The value of the variable x, read off the second term at the first strict occurrence of x in the first. B has the bound variables, n is how many
-- there are, and F has the fixed variables. None where nothing stands beside the occurrence, or what stands there has another bound variable.
abbrev mutual
  pub found : (ℕ → Bool) → (ℕ → Bool) → ℕ → ℕ → Term → Term → Option Term
  found B F n x (lambda Q) (lambda M) = found (under B) (hide F) (suc n) (suc x) Q M
  found B F n x (lambda Q) (root h S) = None
  found B F n x (root (constant c) T) M = found_spine B F n x T (arguments_of M)
  found B F n x (root (metavariable m) T) M = None
  found B F n x (root (variable j) T) M = cond (both (same_number j x) (pattern_arguments B [] T)) (read_off n T M) (found_spine B F n x T (arguments_of M))

  -- in the first argument that has one
  pub found_spine : (ℕ → Bool) → (ℕ → Bool) → ℕ → ℕ → Spine → Spine → Option Term
  found_spine B F n x nil S = None
  found_spine B F n x (app Q T) nil = None
  found_spine B F n x (app Q T) (app M S) = cond (strict B F x Q) (found B F n x Q M) (found_spine B F n x T S)

-- at the places where the case has an argument
abbrev pub found_at : (ℕ → Bool) → (ℕ → Bool) → ℕ → ℕ → Spine → List (Option Term) → Option Term
found_at B F n x nil Ms = None
found_at B F n x (app Q T) [] = None
found_at B F n x (app Q T) (Some M ∷ Ms) = cond (strict B F x Q) (found B F n x Q M) (found_at B F n x T Ms)
found_at B F n x (app Q T) (None ∷ Ms) = found_at B F n x T Ms

-- of the target, where the quantifiers are bound variables
abbrev pub found_goal : (ℕ → Bool) → (ℕ → Bool) → ℕ → ℕ → LfType → List (Option Term) → Option Term
found_goal B F n x (pi A C) Ms = found_goal (under B) (hide F) (suc n) (suc x) C Ms
found_goal B F n x (atom a S) Ms = found_at B F n x S Ms

-- The term for a variable of the clause: the one that is given for it, or else the one that is read off.
abbrev pub found_term : Case → Pattern → ℕ → Option Term
found_term C p x = or_else (given_at C.given x) (found_goal nothing (outside p.clause.type p.clause.fixed) zero x p.type C.arguments)

-- a term for the variable i of this type; without one the variable stays
abbrev pub as_image : ℕ → Option LfType → Option Term → Image
as_image i None N = keep i
as_image i (Some A) None = keep i
as_image i (Some A) (Some N) = put (skeleton A) N

-- The values that matching finds. In plus (s X') Y _ beside plus-s these are X' and Y.
abbrev pub found_values : Case → Pattern → ℕ → Image
found_values C p i = as_image i (type_at (scope p.clause) i) (found_term C p i)

-- the arguments that there are, are those of the spine
abbrev pub ArePlaces : List (Option Term) → Spine → Type 0
ArePlaces [] nil = Unit {0}
ArePlaces [] (app N T) = ⊥
ArePlaces (M ∷ Ms) nil = ⊥
ArePlaces (Some M ∷ Ms) (app N T) = (M ≡ N) × ArePlaces Ms T
ArePlaces (None ∷ Ms) (app N T) = ArePlaces Ms T

-- The case matches the pattern: each variable of the clause in the covered places has a strict occurrence there or is given; for each that is so
-- matching finds a term, of its type; and with these terms put in, the arguments at the covered places are the case's. So plus (s X') Y _ matches
-- plus-s. plus X Y _ doesn't match plus-z, since X isn't z; nor k X {F:nat -> nat} k (F z), since F isn't strict.
pub record Matches (Σ : Signature) (C : Case) (p : Pattern) : Type 0 where
  pub strict : UsesGoal (ground_in p (covered_places C.arguments) C.given) (covered_places C.arguments) p.type
  pub found : AreTerms p.clause (ground_in p (covered_places C.arguments) C.given) (found_values C p)
  pub typed : Values Σ (ground_in p (covered_places C.arguments) C.given) (scope p.clause) (items_context C.items) (found_values C p)
  pub same : ArePlaces C.arguments (target_arguments (substitute_type reduce (found_values C p) p.type))

-- With each variable of U, U has those in its type.
abbrev pub HoldsTypes : (ℕ → Bool) → List LfType → Type 0
HoldsTypes U G = (i : ℕ) (A : LfType) → TypeAt G i A → U i ≡ true → UsesType U A

-- the places where the case has no argument
abbrev pub other_places : List (Option Term) → List Bool
other_places [] = []
other_places (Some M ∷ Ms) = false ∷ other_places Ms
other_places (None ∷ Ms) = true ∷ other_places Ms

-- The case matches the pattern as far as the terms go: what has to be computed where types need not be looked at.
abbrev pub MatchesByTerms : Case → Pattern → Type 0
MatchesByTerms C p = UsesGoal (ground_in p (covered_places C.arguments) C.given) (covered_places C.arguments) p.type × AreTerms p.clause (ground_in p (covered_places C.arguments) C.given) (found_values C p) × ArePlaces C.arguments (target_arguments (substitute_type reduce (found_values C p) p.type))
