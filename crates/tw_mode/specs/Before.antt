-- What is ground before a subgoal of a clause as data.
use Rattle.std.specs.Prelude.{◌≡◌, ◌-◌, ◌<◌, ℕ, List, Bool, true, false, length, option_map, Option, Some, None}
use Rattle.lf.specs.Entries.{quantifiers}
use Rattle.lf.specs.Subordination.{Block}
use Rattle.lf.specs.Syntax.{LfType}
use Rattle.lf.specs.Variables.{everything}
use Rattle.lf_checks.specs.Clause.{Clause as PlainClause, constant_clause, variables}
use Rattle.lf_checks.specs.GroundUntil.{ground_until}
use Rattle.lf_checks.specs.Marks.{Mark}
use Rattle.lf_checks.specs.Parts.{parts, subgoal_at, variable_number}
use Rattle.tw_clause.specs.Entries.{entry_clause_at}
use Rattle.tw_clause.specs.Patterns.{newest}
use Rattle.tw_clause.specs.View.{origin_of, parts_of}
use Rattle.tw_clause.specs.declared.block.Origin.{Origin}
use Rattle.tw_clause.specs.declared.clause.Clause.{Clause}
use Rattle.tw_mode.specs.Scopes.{in_marks}

-- how many entries of its block come before the entry that a clause was read off
abbrev pub older_entries : Option Origin → ℕ
older_entries None = 0
older_entries (Some o) = o.entry - 1

-- The clause c has these parts, and of what stands outside it the entries before it are what no value changes. That of entry 2 in `block {i:nat -> nat} {u:c (i z)}`
-- has i, the newest of what stands outside; a constant's has nothing outside.
pub record IsClauseOf (d : Clause) (c : PlainClause) : Type 0 where
  pub parts : parts c ≡ parts_of d
  pub fixed : c.fixed ≡ newest (older_entries d.origin)

-- What is read off a constant's type has the constant's clause, and what is read off entry k of a block has the entry's.
abbrev pub ClausesAreRead : Type 0
ClausesAreRead = (d : Clause) → ((U : LfType) → d.origin ≡ None → parts_of d ≡ parts (constant_clause U) → IsClauseOf d (constant_clause U)) × ((B : Block) (k : ℕ) (c : PlainClause) → option_map origin_of d.origin ≡ Some (B, k) → entry_clause_at B k B.entries ≡ Some c → parts_of d ≡ parts c → IsClauseOf d c)

-- of the variables of a clause, by their numbers among the variables, those in the set G are ground before subgoal k, if there is one
abbrev pub IsGroundBefore : (ℕ → List Mark) → PlainClause → ℕ → (ℕ → Bool) → Type 0
IsGroundBefore m c k G = (i x : ℕ) → subgoal_at c k ≡ Some i → x < quantifiers c.type → variables c x ≡ true → G (variable_number c x) ≡ ground_until everything m c i x

-- Each variable of the clause has one of these marks, the outermost the first. It says whether the variable is ground before subgoal k, where all that stands
-- outside is. In `plus (s X) Y (s Z) <- plus X Y Z` with the marks `++-` of plus they are true, true, false before subgoal 1.
pub record AreGroundBefore (m : ℕ → List Mark) (c : PlainClause) (k : ℕ) (ms : List Bool) : Type 0 where
  pub each : length ms ≡ variable_number c (quantifiers c.type)
  pub exact : IsGroundBefore m c k (in_marks false (length ms) ms)
