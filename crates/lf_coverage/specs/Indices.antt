-- Which types of constants keep the cases of a run on patterns, over families with indices: what a variable of such a type is applied to.
use Rattle.std.specs.Prelude.{◌≡◌, ℕ, zero, suc, List, [], ◌∷◌, Bool, true, false, not, cond, Some}
use Rattle.lf.specs.Syntax.{constant, variable, metavariable, Term, Spine, lambda, root, nil, app, LfType, Kind, pi, atom, kind_pi, star}
use Rattle.lf.specs.Typing.{Signature}
use Rattle.lf.specs.Variables.{under, hide, everything, target}
use Rattle.lf_checks.specs.Strict.{pattern_arguments}
use Rattle.lf_checks.specs.Tests.{both}

-- variable j is newer than variable i
abbrev pub newer : ℕ → ℕ → Bool
newer j zero = false
newer zero (suc i) = true
newer (suc j) (suc i) = newer j i

-- E has the existential variables, for which terms are sought; the others are universal. An existential variable takes universal ones that are newer.
abbrev pub takes : (ℕ → Bool) → ℕ → ℕ → Bool
takes E i j = both (not (E j)) (newer j i)

-- a metavariable takes universal ones
abbrev pub universal : (ℕ → Bool) → ℕ → Bool
universal E j = not (E j)

-- Each existential variable and each metavariable of the term is applied to distinct variables that it takes.
abbrev mutual
  pub term_has_patterns : (ℕ → Bool) → Term → Bool
  term_has_patterns E (lambda M) = term_has_patterns (hide E) M
  term_has_patterns E (root (constant c) S) = spine_has_patterns E S
  term_has_patterns E (root (metavariable m) S) = pattern_arguments (universal E) [] S
  term_has_patterns E (root (variable i) S) = cond (E i) (pattern_arguments (takes E i) [] S) (spine_has_patterns E S)

  -- in the arguments
  pub spine_has_patterns : (ℕ → Bool) → Spine → Bool
  spine_has_patterns E nil = true
  spine_has_patterns E (app M S) = both (term_has_patterns E M) (spine_has_patterns E S)

-- In the type of an item, for which a term is sought, what is quantified is universal; in the type of a head, as a constant's, it is existential, as for
-- each argument of the head a new item is made. Each changes into the other where the type of what is quantified is entered.
abbrev mutual
  pub item_has_patterns : (ℕ → Bool) → LfType → Bool
  item_has_patterns E (pi A B) = both (head_has_patterns E A) (item_has_patterns (hide E) B)
  item_has_patterns E (atom a S) = spine_has_patterns E S

  -- of a head
  pub head_has_patterns : (ℕ → Bool) → LfType → Bool
  head_has_patterns E (pi A B) = both (item_has_patterns E A) (head_has_patterns (under E) B)
  head_has_patterns E (atom a S) = spine_has_patterns E S

-- The type of each constant of a family of T has patterns, as of a head. So have those of cons, lam and of/lam; not {G:nat -> nat} {N:nat}
-- ({y:{z:nat} vec (G z)} vec N) -> t, where z is existential: a head y makes a new item Z of it, and G stands on Z. Nothing is asked of the constants
-- of other families, as of beta : {E} {V} step (app (lam E) V) (E V), where only expressions are split.
abbrev pub ConstantsHavePatterns : Signature → (ℕ → Bool) → Type 0
ConstantsHavePatterns Σ T = (c : ℕ) (U : LfType) → Σ.types c ≡ Some U → T (target U) ≡ true → head_has_patterns everything U ≡ true

-- The types of the chosen places have patterns, as of items.
abbrev pub kind_has_patterns : List Bool → Kind → Bool
kind_has_patterns [] K = true
kind_has_patterns (b ∷ m) star = true
kind_has_patterns (true ∷ m) (kind_pi A K) = both (item_has_patterns everything A) (kind_has_patterns m K)
kind_has_patterns (false ∷ m) (kind_pi A K) = kind_has_patterns m K
