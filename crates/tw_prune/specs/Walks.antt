-- What the walks over a term compute.
use Rattle.std.specs.Prelude.{ℕ, ◌+◌, ◌-◌, List, [], ◌∷◌, ◌++◌, length, slice_get, Option, Some, None, option_map, is_some, is_none, Bool, true, false, ◌&&◌, ◌||◌, not, nat_eq, nat_lt, nat_le, if◌then◌else◌}
use Rattle.lf.specs.Syntax.{Head, LfType, Spine, Term, app, atom, constant, lambda, metavariable, nil, pi, root, variable}

-- The inverse of a pattern as a table: what each variable of the local context is under the lambdas, where the pattern has it; and the
-- number of the lambdas, past which the outer variables stand.
pub record Table : Type 0 where
  pub places : List (Option ℕ)
  pub arity : ℕ

-- what the table says of a variable, or that it stands outside
abbrev pub place_or : Option (Option ℕ) → ℕ → Option ℕ
place_or (Some place) outside = place
place_or None outside = Some outside

-- what a variable is under the lambdas, if the pattern has it or it stands outside
abbrev pub place_of : Table → ℕ → Option ℕ
place_of T v = place_or (slice_get T.places v) (v - length T.places + T.arity)

-- the same under further binders, whose variables stay
abbrev pub behind : Table → ℕ → ℕ → Option ℕ
behind T binders v = if nat_lt v binders then Some v else option_map (λ place. place + binders) (place_of T (v - binders))

-- the same of a head
abbrev pub head_behind : Table → ℕ → Head → Option Head
head_behind T binders (constant c) = Some (constant c)
head_behind T binders (variable v) = option_map variable (behind T binders v)
head_behind T binders (metavariable m) = Some (metavariable m)

-- a value from two, where both are there
abbrev pub both : {A B C : Type 0} → (A → B → C) → Option A → Option B → Option C
both f None y = None
both f (Some x) None = None
both f (Some x) (Some y) = Some (f x y)

-- a term of which the table's renaming makes M
abbrev mutual
  pub unrenamed : Table → ℕ → Term → Option Term
  unrenamed T binders (lambda M) = option_map lambda (unrenamed T (binders + 1) M)
  unrenamed T binders (root h S) = both root (head_behind T binders h) (unrenamed_spine T binders S)

  pub unrenamed_spine : Table → ℕ → Spine → Option Spine
  unrenamed_spine T binders nil = Some nil
  unrenamed_spine T binders (app M S) = both app (unrenamed T binders M) (unrenamed_spine T binders S)

-- the same of a type
abbrev pub unrenamed_type : Table → ℕ → LfType → Option LfType
unrenamed_type T binders (pi A B) = both pi (unrenamed_type T binders A) (unrenamed_type T (binders + 1) B)
unrenamed_type T binders (atom a S) = option_map (atom a) (unrenamed_spine T binders S)

-- a variable that the table lacks stands in no argument of a metavariable
abbrev mutual
  pub escapes : Table → ℕ → Term → Bool
  escapes T binders (lambda M) = escapes T (binders + 1) M
  escapes T binders (root (constant c) S) = escapes_in_spine T binders S
  escapes T binders (root (variable v) S) = is_none (behind T binders v) || escapes_in_spine T binders S
  escapes T binders (root (metavariable m) S) = false

  pub escapes_in_spine : Table → ℕ → Spine → Bool
  escapes_in_spine T binders nil = false
  escapes_in_spine T binders (app M S) = escapes T binders M || escapes_in_spine T binders S

-- the variable is this one
abbrev pub is_variable : ℕ → Option ℕ → Bool
is_variable v None = false
is_variable v (Some w) = nat_eq w v

-- the variable of which the term is the eta-long form, after so many of its lambdas
abbrev mutual
  pub eta_variable_under : ℕ → Term → Option ℕ
  eta_variable_under count (lambda M) = eta_variable_under (count + 1) M
  eta_variable_under count (root (constant c) S) = None
  eta_variable_under count (root (variable v) S) = if nat_le count v && are_newest count S then Some (v - count) else None
  eta_variable_under count (root (metavariable m) S) = None

  -- the arguments are the eta-long forms of the `count` newest variables, the newest last
  pub are_newest : ℕ → Spine → Bool
  are_newest count nil = nat_eq count 0
  are_newest count (app M S) = nat_lt 0 count && is_variable (count - 1) (eta_variable_under 0 M) && are_newest (count - 1) S

-- the variables of which the arguments are the eta-long forms
abbrev pub variables_in : Spine → Option (List ℕ)
variables_in nil = Some []
variables_in (app M S) = both (λ x xs. x ∷ xs) (eta_variable_under 0 M) (variables_in S)

-- each variable is below the bound, and none of those that were seen or stand before it
abbrev pub are_new : (ℕ → Bool) → ℕ → List ℕ → Bool
are_new seen bound [] = true
are_new seen bound (x ∷ xs) = nat_lt x bound && not (seen x) && are_new (λ y. nat_eq y x || seen y) bound xs

-- the variables, if there are any and they pass the test
abbrev pub kept_if : (List ℕ → Bool) → Option (List ℕ) → Option (List ℕ)
kept_if test None = None
kept_if test (Some xs) = if test xs then Some xs else None

-- the variables, where they are distinct ones below the bound
abbrev pub distinct_variables : ℕ → Spine → Option (List ℕ)
distinct_variables bound S = kept_if (are_new (λ y. false) bound) (variables_in S)

-- the place of the last variable that the table lacks
abbrev pub last_lacking : Table → ℕ → ℕ → Option ℕ → List ℕ → Option ℕ
last_lacking T binders place found [] = found
last_lacking T binders place found (y ∷ ys) = last_lacking T binders (place + 1) (if is_none (behind T binders y) then Some place else found) ys

-- a loss at the place, if there is one
abbrev pub loss_at : ℕ → Option ℕ → List (ℕ × ℕ)
loss_at m None = []
loss_at m (Some place) = (m, place) ∷ []

-- what the metavariable must lose, if its arguments are these variables
abbrev pub loss_on : Table → ℕ → ℕ → Option (List ℕ) → List (ℕ × ℕ)
loss_on T binders m None = []
loss_on T binders m (Some ys) = loss_at m (last_lacking T binders 0 None ys)

-- what metavariables on patterns, in no argument of a metavariable, must lose
abbrev mutual
  pub losses_in : Table → ℕ → Term → List (ℕ × ℕ)
  losses_in T binders (lambda M) = losses_in T (binders + 1) M
  losses_in T binders (root (constant c) S) = losses_in_spine T binders S
  losses_in T binders (root (variable v) S) = losses_in_spine T binders S
  losses_in T binders (root (metavariable m) S) = loss_on T binders m (distinct_variables (binders + length T.places) S)

  pub losses_in_spine : Table → ℕ → Spine → List (ℕ × ℕ)
  losses_in_spine T binders nil = []
  losses_in_spine T binders (app M S) = losses_in T binders M ++ losses_in_spine T binders S

-- metavariable m stands on a pattern, in no argument of a metavariable
abbrev mutual
  pub stands_in : ℕ → ℕ → Term → Bool
  stands_in m bound (lambda M) = stands_in m (bound + 1) M
  stands_in m bound (root (constant c) S) = stands_in_spine m bound S
  stands_in m bound (root (variable v) S) = stands_in_spine m bound S
  stands_in m bound (root (metavariable n) S) = nat_eq n m && is_some (distinct_variables bound S)

  pub stands_in_spine : ℕ → ℕ → Spine → Bool
  stands_in_spine m bound nil = false
  stands_in_spine m bound (app M S) = stands_in m bound M || stands_in_spine m bound S

-- the same properly inside: a term that is a metavariable on arguments has nothing else in no argument of one
abbrev pub stands_inside : ℕ → ℕ → Term → Bool
stands_inside m bound (lambda M) = stands_in m (bound + 1) M
stands_inside m bound (root (constant c) S) = stands_in_spine m bound S
stands_inside m bound (root (variable v) S) = stands_in_spine m bound S
stands_inside m bound (root (metavariable n) S) = false

-- the type without its argument at the place, where nothing after it mentions it
abbrev pub without_argument : Table → ℕ → LfType → Option LfType
without_argument T place (atom a S) = None
without_argument T place (pi A B) = if nat_eq place 0 then unrenamed_type T 0 B else option_map (pi A) (without_argument T (place - 1) B)

-- the places at which the lists differ, counted from `place`
abbrev pub differences_from : ℕ → List ℕ → List ℕ → List ℕ
differences_from place [] ys = []
differences_from place (x ∷ xs) [] = []
differences_from place (x ∷ xs) (y ∷ ys) = (if nat_eq x y then [] else (place ∷ [])) ++ differences_from (place + 1) xs ys
