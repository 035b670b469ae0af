-- Worked cases of types of constants over families with indices.
use Rattle.std.specs.Prelude.{not, cond, ◌≡◌, ℕ, zero, suc, [], ◌∷◌, Bool, true, false, Option, Some, None}
use Rattle.lf.specs.Syntax.{constant, variable, metavariable, Term, lambda, root, nil, app, LfType, Kind, pi, atom, kind_pi, star}
use Rattle.lf.specs.Typing.{Signature}
use Rattle.lf.specs.Variables.{everything, same_number}
use Rattle.lf_checks.specs.Tests.{is_in}
use Rattle.lf_totality.specs.Examples.{var}
use Rattle.lf_cases.specs.Case.{Case, free_variable}
use Rattle.lf_coverage.specs.IndicesLayers.{AreLayers}
use Rattle.lf_coverage.specs.PatternCases.{IsPatternCase}
use Rattle.lf_coverage.specs.IndicesLeft.{IsHeldByTypes}
use Rattle.lf_coverage.specs.Indices.{ConstantsHavePatterns, head_has_patterns, kind_has_patterns}

-- The families elt, nat and vec : nat -> type; tp and tm : tp -> type; exp, and of : exp -> tp -> type.
abbrev pub elt : LfType
elt = atom 0 nil

abbrev pub number : LfType
number = atom 1 nil

abbrev pub vec : Term → LfType
vec N = atom 2 (app N nil)

abbrev pub tp : LfType
tp = atom 3 nil

abbrev pub tm : Term → LfType
tm A = atom 4 (app A nil)

abbrev pub exp : LfType
exp = atom 5 nil

abbrev pub of : Term → Term → LfType
of E A = atom 6 (app E (app A nil))

abbrev pub indexed_kinds : ℕ → Option Kind
indexed_kinds zero = Some star
indexed_kinds (suc zero) = Some star
indexed_kinds (suc (suc zero)) = Some (kind_pi number star)
indexed_kinds (suc (suc (suc zero))) = Some star
indexed_kinds (suc (suc (suc (suc zero)))) = Some (kind_pi tp star)
indexed_kinds (suc (suc (suc (suc (suc zero))))) = Some star
indexed_kinds (suc (suc (suc (suc (suc (suc zero)))))) = Some (kind_pi exp (kind_pi tp star))
indexed_kinds (suc (suc (suc (suc (suc (suc (suc n))))))) = None

-- z and s
abbrev pub zero_number : Term
zero_number = root (constant 0) nil

abbrev pub next_number : Term → Term
next_number N = root (constant 1) (app N nil)

-- arrow, and lam and app of expressions
abbrev pub arrow_type : Term → Term → Term
arrow_type A B = root (constant 4) (app A (app B nil))

abbrev pub abstraction : Term → Term
abstraction E = root (constant 6) (app E nil)

abbrev pub application : Term → Term → Term
application E F = root (constant 7) (app E (app F nil))

-- a variable on the newest one
abbrev pub on_newest : ℕ → Term
on_newest x = root (variable x) (app (var 0) nil)

-- nil : vec z and cons : {N} elt -> vec N -> vec (s N)
abbrev pub cons_type : LfType
cons_type = pi number (pi elt (pi (vec (var 1)) (vec (next_number (var 2)))))

-- lam : {A} {B} (tm A -> tm B) -> tm (arrow A B)
abbrev pub typed_lam : LfType
typed_lam = pi tp (pi tp (pi (pi (tm (var 1)) (tm (var 1))) (tm (arrow_type (var 2) (var 1)))))

-- of/lam : {A} {B} {E : exp -> exp} ({x:exp} of x A -> of (E x) B) -> of (lam E) (arrow A B)
abbrev pub typing_lam : LfType
typing_lam = pi tp (pi tp (pi (pi exp exp) (pi (pi exp (pi (of (var 0) (var 3)) (of (root (variable 2) (app (var 1) nil)) (var 3)))) (of (abstraction (lambda (on_newest 2))) (arrow_type (var 3) (var 2))))))

-- of/app : {A} {B} {E} {F} of E (arrow A B) -> of F A -> of (app E F) B
abbrev pub typing_app : LfType
typing_app = pi tp (pi tp (pi exp (pi exp (pi (of (var 1) (arrow_type (var 3) (var 2))) (pi (of (var 1) (var 4)) (of (application (var 3) (var 2)) (var 4)))))))

abbrev pub indexed_types : ℕ → Option LfType
indexed_types zero = Some number
indexed_types (suc zero) = Some (pi number number)
indexed_types (suc (suc zero)) = Some (vec zero_number)
indexed_types (suc (suc (suc zero))) = Some cons_type
indexed_types (suc (suc (suc (suc zero)))) = Some (pi tp (pi tp tp))
indexed_types (suc (suc (suc (suc (suc zero))))) = Some typed_lam
indexed_types (suc (suc (suc (suc (suc (suc zero)))))) = Some (pi (pi exp exp) exp)
indexed_types (suc (suc (suc (suc (suc (suc (suc zero))))))) = Some (pi exp (pi exp exp))
indexed_types (suc (suc (suc (suc (suc (suc (suc (suc zero)))))))) = Some typing_lam
indexed_types (suc (suc (suc (suc (suc (suc (suc (suc (suc zero))))))))) = Some typing_app
indexed_types (suc (suc (suc (suc (suc (suc (suc (suc (suc (suc n)))))))))) = None

abbrev pub Indexed : Signature
Indexed = record { types = indexed_types; kinds = indexed_kinds }

-- The constants of vectors, of a typed language and of its derivations have patterns; so have the places of the families.
abbrev pub UsualFamiliesHavePatterns : Type 0
UsualFamiliesHavePatterns = ConstantsHavePatterns Indexed everything × (kind_has_patterns (true ∷ []) (kind_pi number star) ≡ true) × (kind_has_patterns (true ∷ true ∷ []) (kind_pi exp (kind_pi tp star)) ≡ true)

-- {G : nat -> nat} {N : nat} ({y : {z:nat} vec (G z)} vec N) -> t
abbrev pub taking_type : LfType
taking_type = pi (pi number number) (pi number (pi (pi (pi number (vec (on_newest 2))) (vec (var 1))) (atom 7 nil)))

-- {G : nat -> nat} {z : nat} vec (G z)
abbrev pub applied_type : LfType
applied_type = pi (pi number number) (pi number (vec (on_newest 1)))

-- {G : nat -> nat} ({z:nat} vec (G z)) -> t, where z is universal
abbrev pub over_type : LfType
over_type = pi (pi number number) (pi (pi number (vec (on_newest 1))) (atom 7 nil))

-- Not so the first two: in each z is existential, and G stands on it. So has the third.
abbrev pub NestedHasNone : Type 0
NestedHasNone = (head_has_patterns everything taking_type ≡ false) × (head_has_patterns everything applied_type ≡ false) × (head_has_patterns everything over_type ≡ true)

-- A number T, and a vector V of its length.
abbrev pub length_types : ℕ → Option LfType
length_types zero = Some number
length_types (suc zero) = Some (vec (root (metavariable 0) nil))
length_types (suc (suc m)) = None

-- Two numbers.
abbrev pub number_types : ℕ → Option LfType
number_types zero = Some number
number_types (suc zero) = Some number
number_types (suc (suc m)) = None

-- With a constant k : vec N -> nat for one N, T = k V is held: T isn't in k V, but in the type of V. X = s Y isn't.
abbrev pub TypeHoldsEquation : Type 0
TypeHoldsEquation = IsHeldByTypes length_types [] [] 0 [] (root (constant 9) (app (root (metavariable 1) nil) nil)) × (IsHeldByTypes number_types [] [] 0 [] (next_number (root (metavariable 1) nil)) → ⊥)

-- Of these families, vec is above elt and nat, tm above tp, and of above exp and tp.
abbrev pub indexed_below : ℕ → ℕ → Bool
indexed_below zero b = same_number 0 b
indexed_below (suc zero) b = same_number 1 b
indexed_below (suc (suc zero)) b = is_in b (0 ∷ 1 ∷ 2 ∷ [])
indexed_below (suc (suc (suc zero))) b = same_number 3 b
indexed_below (suc (suc (suc (suc zero)))) b = is_in b (3 ∷ 4 ∷ [])
indexed_below (suc (suc (suc (suc (suc zero))))) b = same_number 5 b
indexed_below (suc (suc (suc (suc (suc (suc zero)))))) b = is_in b (3 ∷ 5 ∷ 6 ∷ [])
indexed_below (suc (suc (suc (suc (suc (suc (suc n))))))) b = same_number (suc (suc (suc (suc (suc (suc (suc n))))))) b

-- elt, nat, tp and exp, which have no indices
abbrev pub without_indices : ℕ → Bool
without_indices zero = true
without_indices (suc zero) = true
without_indices (suc (suc zero)) = false
without_indices (suc (suc (suc zero))) = true
without_indices (suc (suc (suc (suc zero)))) = false
without_indices (suc (suc (suc (suc (suc zero))))) = true
without_indices (suc (suc (suc (suc (suc (suc n)))))) = false

-- vec, tm and of are indexed by these; with exp alone of isn't.
abbrev pub VectorsAreLayers : Type 0
VectorsAreLayers = AreLayers Indexed indexed_below without_indices everything × (AreLayers Indexed indexed_below (same_number 5) everything → ⊥)

-- With the first of these constants a run loses patterns, which is seen by hand: t is split by it, and then the variable of type {y:{z:nat} vec (G z)}
-- vec N by y. The case is c G (G Z) ([y] y Z), where G stands on Z.
abbrev pub taking_types : ℕ → Option LfType
taking_types c = cond (same_number c 10) (Some taking_type) (indexed_types c)

abbrev pub taking_kinds : ℕ → Option Kind
taking_kinds a = cond (same_number a 7) (Some star) (indexed_kinds a)

abbrev pub Taking : Signature
Taking = record { types = taking_types; kinds = taking_kinds }

abbrev pub nested_case : Case
nested_case = record { items = free_variable number ∷ free_variable (pi number number) ∷ []; given = []; local = []; family = 8; arguments = Some (root (constant 10) (app (lambda (on_newest 2)) (app (root (variable 1) (app (var 0) nil)) (app (lambda (root (variable 0) (app (var 1) nil))) nil)))) ∷ [] }

-- So the premise fails for a set with t, and that is no case of patterns; nothing is said against runs over the other families.
abbrev pub NestedIsNoPattern : Type 0
NestedIsNoPattern = (ConstantsHavePatterns Taking everything → ⊥) × (IsPatternCase Taking nested_case → ⊥) × ConstantsHavePatterns Taking (λ a. not (same_number a 7))
