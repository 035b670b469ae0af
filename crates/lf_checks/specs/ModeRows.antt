-- Rows of modes, and the first called family without one.
use Rattle.std.specs.Prelude.{◌≡◌, ℕ, zero, List, [], ◌∷◌, ◌++◌, Bool, Option, Some, None, cond, is_some}
use Rattle.lf.specs.Syntax.{LfType, pi, atom}
use Rattle.lf.specs.Variables.{target, same_number}
use Rattle.lf_unification.specs.Search.{occurs_type}
use Rattle.lf_checks.specs.Clauses.{NamedClause}
use Rattle.lf_checks.specs.Marks.{Mark}

-- a family and the marks of its places
pub record ModeRow : Type 0 where
  pub family : ℕ
  pub marks : List Mark

-- the marks of a family; a family without a row has none
abbrev pub row_of : List ModeRow → ℕ → Option (List Mark)
row_of [] f = None
row_of (r ∷ rows) f = cond (same_number r.family f) (Some r.marks) (row_of rows f)

-- the family has a row
abbrev pub is_moded : List ModeRow → ℕ → Bool
is_moded rows f = is_some (row_of rows f)

-- its marks, or none
abbrev pub or_no_marks : Option (List Mark) → List Mark
or_no_marks (Some m) = m
or_no_marks None = []

abbrev pub marks_of : List ModeRow → ℕ → List Mark
marks_of rows f = or_no_marks (row_of rows f)

-- The families that a clause of this type calls, in the order in which the check of modes meets them: for each subgoal in solving order its
-- family, and then what its local hypotheses of moded families call, the oldest hypothesis first.
abbrev mutual
  pub called : (ℕ → Bool) → LfType → List ℕ
  called moded (pi A B) = called moded B ++ cond (occurs_type zero B) [] (target A ∷ called_by_hypotheses moded A)
  called moded (atom a S) = []

  pub called_by_hypotheses : (ℕ → Bool) → LfType → List ℕ
  called_by_hypotheses moded (pi A B) = cond (moded (target A)) (called moded A) [] ++ called_by_hypotheses moded B
  called_by_hypotheses moded (atom a S) = []

-- the families that the check meets in these clauses: a clause's own, and then those that it calls
abbrev pub families_met : (ℕ → Bool) → List NamedClause → List ℕ
families_met moded [] = []
families_met moded (n ∷ clauses) = target n.clause.type ∷ called moded n.clause.type ++ families_met moded clauses

-- the first of the list that isn't moded
abbrev pub first_unmoded : (ℕ → Bool) → List ℕ → Option ℕ
first_unmoded moded [] = None
first_unmoded moded (f ∷ fs) = cond (moded f) (first_unmoded moded fs) (Some f)

-- f is the first family without a row that the check meets
abbrev pub FirstUnmoded : List ModeRow → List NamedClause → ℕ → Type 0
FirstUnmoded rows clauses f = first_unmoded (is_moded rows) (families_met (is_moded rows) clauses) ≡ Some f

-- each family that it meets has a row
abbrev pub AllHaveRows : List ModeRow → List NamedClause → Type 0
AllHaveRows rows clauses = first_unmoded (is_moded rows) (families_met (is_moded rows) clauses) ≡ None
