-- Where a case may be split: the variables that stand where a clause has a rigid head.
use Rattle.std.specs.Prelude.{ℕ, zero, suc, ◌+◌, List, [], ◌∷◌, length, Bool, true, false, not, cond, Option, Some, None}
use Rattle.lf.specs.Syntax.{Head, constant, variable, metavariable, Term, Spine, lambda, root, nil, app, LfType, skeleton}
use Rattle.lf.specs.Substitution.{Image, keep, put, substitute_spine, reduce}
use Rattle.lf.specs.Variables.{target_arguments, binders, under, hide, nothing}
use Rattle.lf.specs.Worlds.{lift_over, under_all}
use Rattle.lf_checks.specs.Clause.{Clause, scope, outside}
use Rattle.lf_checks.specs.Tests.{is_in}
use Rattle.lf_checks.specs.Strict.{lower, pattern_arguments}
use Rattle.lf_cases.specs.Case.{Item, free_variable, block_variable, Case, items_context}
use Rattle.lf_cases.specs.Pattern.{Pattern}

-- a set of variables under a list of types, none of which is in it
abbrev pub hide_all : List LfType → (ℕ → Bool) → ℕ → Bool
hide_all [] U = U
hide_all (A ∷ D) U = hide (hide_all D U)

-- the free variables among the variables of items; the others are entries of block variables
abbrev pub free_among : List Item → ℕ → Bool
free_among [] i = false
free_among (free_variable A ∷ I) zero = true
free_among (free_variable A ∷ I) (suc i) = free_among I i
free_among (block_variable B υ ∷ I) i = hide_all B.entries (free_among I) i

-- in a text that has the variables of items in front of a clause's: those of U among the first n, then those of V
abbrev pub beside_set : ℕ → (ℕ → Bool) → (ℕ → Bool) → ℕ → Bool
beside_set zero U V i = V i
beside_set (suc n) U V zero = U zero
beside_set (suc n) U V (suc i) = beside_set n (λ j. U (suc j)) V i

-- The clause's variables beside the items of a case: where a term is given for one it stands for this term, and any other moves past the
-- n variables of the items.
abbrev pub given_images : List LfType → List (Option Term) → ℕ → ℕ → Image
given_images G [] n i = keep (i + n)
given_images [] (M ∷ Ms) n i = keep (i + n)
given_images (A ∷ G) (Some M ∷ Ms) n zero = put (skeleton A) M
given_images (A ∷ G) (None ∷ Ms) n zero = keep n
given_images (A ∷ G) (M ∷ Ms) n (suc i) = given_images G Ms (suc n) i

-- A head that no value changes: a constant, or a variable that isn't in P.
abbrev pub is_rigid : (ℕ → Bool) → Head → Bool
is_rigid P (constant c) = true
is_rigid P (metavariable m) = false
is_rigid P (variable i) = not (P i)

-- both lists, the first in front
abbrev pub then : List ℕ → List ℕ → List ℕ
then [] ys = ys
then (x ∷ xs) ys = x ∷ then xs ys

-- the variable alone, where it counts
abbrev pub counted : Bool → Option ℕ → List ℕ
counted true (Some x) = x ∷ []
counted true None = []
counted false x = []

-- The candidates of a text N of a clause in a text M of a case, from left to right: the variables of the case in F that stand, applied to
-- distinct bound variables, where N has a rigid head. Where both have a rigid head the arguments are looked at: in a clause that shares an
-- instance with the case the heads are then the same. B has the bound variables, of lambdas and of a local context; n is how many there
-- are; and P has the variables of N that values may change.
abbrev mutual
  pub candidates : (ℕ → Bool) → (ℕ → Bool) → (ℕ → Bool) → ℕ → Term → Term → List ℕ
  candidates B F P n (lambda M) (lambda N) = candidates (under B) (hide F) (hide P) (suc n) M N
  candidates B F P n (lambda M) (root h T) = []
  candidates B F P n (root h S) (lambda N) = []
  candidates B F P n (root (constant c) S) (root h T) = cond (is_rigid P h) (candidates_spine B F P n S T) []
  candidates B F P n (root (metavariable c) S) (root h T) = []
  candidates B F P n (root (variable i) S) (root h T) = cond (is_rigid P h) (cond (F i) (counted (pattern_arguments B [] S) (lower n i)) (candidates_spine B F P n S T)) []

  -- of the arguments, in order
  pub candidates_spine : (ℕ → Bool) → (ℕ → Bool) → (ℕ → Bool) → ℕ → Spine → Spine → List ℕ
  candidates_spine B F P n nil T = []
  candidates_spine B F P n (app M S) nil = []
  candidates_spine B F P n (app M S) (app N T) = then (candidates B F P n M N) (candidates_spine B F P n S T)

-- at the places that are covered
abbrev pub candidates_at : (ℕ → Bool) → (ℕ → Bool) → (ℕ → Bool) → ℕ → List (Option Term) → Spine → List ℕ
candidates_at B F P n [] T = []
candidates_at B F P n (M ∷ Ms) nil = []
candidates_at B F P n (Some M ∷ Ms) (app N T) = then (candidates B F P n M N) (candidates_at B F P n Ms T)
candidates_at B F P n (None ∷ Ms) (app N T) = candidates_at B F P n Ms T

-- the variables of a clause that values may change: its own and the `some` variables; entries and parameters stay
abbrev pub flexible : Clause → ℕ → Bool
flexible c i = not (outside c.type c.fixed i)

-- each number once, where it comes first; those seen are left out
abbrev pub each_once : List ℕ → List ℕ → List ℕ
each_once seen [] = []
each_once seen (x ∷ xs) = cond (is_in x seen) (each_once seen xs) (x ∷ each_once (x ∷ seen) xs)

-- the arguments of the pattern, under its local context D, with what the case gives put in
abbrev pub with_given : Case → Clause → List LfType → Spine → Spine
with_given C c D S = substitute_spine reduce (lift_over D (given_images (scope c) C.given (length (items_context C.items)))) S

-- The candidates of a pattern in a case, each once.
abbrev pub case_candidates : Case → Pattern → List ℕ
case_candidates C p =
    let D : List LfType = binders [] p.type in
    each_once [] (candidates_at (under_all D nothing) (hide_all D (free_among C.items)) (hide_all D (beside_set (length (items_context C.items)) (free_among C.items) (flexible p.clause))) (length D) C.arguments (with_given C p.clause D (target_arguments p.type)))
