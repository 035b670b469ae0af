-- The marks that the two forms of a mode declaration give.
use Rattle.std.specs.Prelude.{◌≡◌, ℕ, zero, suc, List, [], ◌∷◌, reverse, get_or, Bool, true, false, Option, Some, None, cond}
use Rattle.lf.specs.Syntax.{Spine, nil, app, LfType, Kind, kind_pi, star}
use Rattle.lf.specs.Entries.{quantifiers}
use Rattle.lf.specs.Variables.{target_arguments, everything}
use Rattle.lf_unification.specs.Search.{occurs_type}
use Rattle.lf_checks.specs.Marks.{Mark, input, output, free, input_places, free_places}
use Rattle.lf_checks.specs.Strict.{head_variable, pattern_arguments}
use Rattle.lf_checks.specs.Tests.{either}

-- the variable occurs in the type of a chosen place
abbrev pub occurs_in_types : List Bool → ℕ → Kind → Bool
occurs_in_types [] x K = false
occurs_in_types (b ∷ m) x star = false
occurs_in_types (true ∷ m) x (kind_pi A K) = either (occurs_type x A) (occurs_in_types m (suc x) K)
occurs_in_types (false ∷ m) x (kind_pi A K) = occurs_in_types m (suc x) K

-- the mark of an implicit place whose variable stands in the types of the places behind it, which have these marks
abbrev pub implicit_mark : List Mark → Kind → Mark
implicit_mark m K = cond (occurs_in_types (input_places m) zero K) input (cond (occurs_in_types (free_places m) zero K) free output)

-- The short form gives the marks of the explicit places. Before them come those of the n implicit ones, completed from the right: an input
-- where the place occurs in the type of an input, else free where it occurs in the type of a free place, else an output.
abbrev pub completed_marks : ℕ → List Mark → Kind → List Mark
completed_marks zero m K = m
completed_marks (suc n) m star = m
completed_marks (suc n) m (kind_pi A K) = implicit_mark (completed_marks n m K) K ∷ completed_marks n m K

-- how many arguments there are
abbrev pub argument_count : Spine → ℕ
argument_count nil = zero
argument_count (app M S) = suc (argument_count S)

-- the full form: the target's arguments are the quantified variables up to eta, each of them once
pub record IsFullForm (U : LfType) : Type 0 where
  pub distinct : pattern_arguments everything [] (target_arguments U) ≡ true
  pub all : argument_count (target_arguments U) ≡ quantifiers U

-- the mark of a variable, where the newest has the first mark
abbrev pub variable_mark : List Mark → Option ℕ → Mark
variable_mark m (Some y) = get_or m y free
variable_mark m None = free

-- of each argument the mark of its variable
abbrev pub argument_marks : List Mark → Spine → List Mark
argument_marks m nil = []
argument_marks m (app M S) = variable_mark m (head_variable zero M) ∷ argument_marks m S

-- The full form gives a mark for each quantifier, the first one first; a place has the mark of its variable.
abbrev pub full_marks : List Mark → LfType → List Mark
full_marks m U = argument_marks (reverse m) (target_arguments U)
