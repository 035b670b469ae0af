-- Strict occurrences: a variable applied to distinct bound variables, in no argument of another variable.
use Rattle.std.specs.Prelude.{ℕ, zero, suc, List, [], ◌∷◌, Bool, true, false, not, Option, Some, None}
use Rattle.lf.specs.Syntax.{constant, variable, metavariable, Term, Spine, lambda, root, nil, app, LfType, pi, atom}
use Rattle.lf.specs.Variables.{under, hide, same_number}
use Rattle.lf_checks.specs.Tests.{either, both, is_in}

-- A term that is the variable y up to eta: under n lambdas so far, y applied to the n new variables.
abbrev mutual
  pub eta_at : ℕ → ℕ → Term → Bool
  eta_at n y (lambda M) = eta_at (suc n) (suc y) M
  eta_at n y (root (constant c) S) = false
  eta_at n y (root (metavariable m) S) = false
  eta_at n y (root (variable j) S) = both (same_number j y) (new_arguments n S)

  -- the arguments are the n newest variables, the oldest first
  pub new_arguments : ℕ → Spine → Bool
  new_arguments zero nil = true
  new_arguments zero (app M S) = false
  new_arguments (suc n) nil = false
  new_arguments (suc n) (app M S) = both (eta_at zero n M) (new_arguments n S)

-- variable j of under n binders, outside them
abbrev pub lower : ℕ → ℕ → Option ℕ
lower zero j = Some j
lower (suc n) zero = None
lower (suc n) (suc j) = lower n j

-- the variable at the head of a term, under n lambdas so far
abbrev pub head_variable : ℕ → Term → Option ℕ
head_variable n (lambda M) = head_variable (suc n) M
head_variable n (root (constant c) S) = None
head_variable n (root (metavariable m) S) = None
head_variable n (root (variable j) S) = lower n j

-- M is its head variable up to eta, which is a bound one that wasn't seen
abbrev pub is_bound : (ℕ → Bool) → List ℕ → Term → Option ℕ → Bool
is_bound B seen M None = false
is_bound B seen M (Some y) = both (eta_at zero y M) (both (B y) (not (is_in y seen)))

-- the variables seen, and this one
abbrev pub with_seen : Option ℕ → List ℕ → List ℕ
with_seen None seen = seen
with_seen (Some y) seen = y ∷ seen

-- all arguments are bound variables, each another one
abbrev pub pattern_arguments : (ℕ → Bool) → List ℕ → Spine → Bool
pattern_arguments B seen nil = true
pattern_arguments B seen (app M S) = both (is_bound B seen M (head_variable zero M)) (pattern_arguments B (with_seen (head_variable zero M) seen) S)

-- Strict occurrence of the variable x, under constants, bound variables and fixed variables alone. B has the bound variables, and F
-- the fixed ones: entries and parameters. A `some` variable and a variable of an outer clause are neither: what stands in
-- their arguments may be lost when their value is put in.
abbrev mutual
  pub strict : (ℕ → Bool) → (ℕ → Bool) → ℕ → Term → Bool
  strict B F x (lambda M) = strict (under B) (hide F) (suc x) M
  strict B F x (root (constant c) S) = strict_spine B F x S
  strict B F x (root (metavariable m) S) = false
  strict B F x (root (variable j) S) = either (both (same_number j x) (pattern_arguments B [] S)) (both (either (B j) (F j)) (strict_spine B F x S))

  -- in an argument
  pub strict_spine : (ℕ → Bool) → (ℕ → Bool) → ℕ → Spine → Bool
  strict_spine B F x nil = false
  strict_spine B F x (app M S) = either (strict B F x M) (strict_spine B F x S)

-- in a chosen place
abbrev pub strict_at : List Bool → (ℕ → Bool) → (ℕ → Bool) → ℕ → Spine → Bool
strict_at [] B F x S = false
strict_at (b ∷ m) B F x nil = false
strict_at (true ∷ m) B F x (app M S) = either (strict B F x M) (strict_at m B F x S)
strict_at (false ∷ m) B F x (app M S) = strict_at m B F x S

-- in a chosen place of the target, where the quantifiers are bound variables
abbrev pub strict_goal : List Bool → (ℕ → Bool) → (ℕ → Bool) → ℕ → LfType → Bool
strict_goal m B F x (pi A C) = strict_goal m (under B) (hide F) (suc x) C
strict_goal m B F x (atom a S) = strict_at m B F x S

-- in a type
abbrev pub strict_type : (ℕ → Bool) → (ℕ → Bool) → ℕ → LfType → Bool
strict_type B F x (pi A C) = either (strict_type B F x A) (strict_type (under B) (hide F) (suc x) C)
strict_type B F x (atom a S) = strict_spine B F x S
