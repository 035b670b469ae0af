-- The laws that the functions of this crate carry.
use Rattle.std.specs.Prelude.{◌≡◌, ◌↔◌, ℕ, List, Some}
use Rattle.lf.specs.Syntax.{LfType, rename_type}
use Rattle.lf.specs.Subordination.{Block, Member}
use Rattle.lf.specs.Variables.{target}
use Rattle.lf_checks.specs.Clause.{Clause, IsSubgoal}
use Rattle.lf_checks.specs.Clauses.{of_entry, block_clauses}
use Rattle.lf_checks.specs.Parts.{numbered, parts, subgoal_at, variable_number}
use Rattle.tw_clause.specs.Entries.{entry_clause_at}
use Rattle.tw_clause.specs.View.{type_parts}

-- the parts of a clause are those of its type, whatever stands outside it
abbrev pub PartsAreOfType : Type 0
PartsAreOfType = (c : Clause) → parts c ≡ type_parts c.type

-- Subgoal k of the parts is a subgoal of the clause, the one with the number k in solving order, renamed to the clause's variables; and each
-- subgoal of the clause is there.
abbrev pub SubgoalsAreRead : Type 0
SubgoalsAreRead = (c : Clause) (k : ℕ) (B : LfType) → (numbered (parts c).subgoals k ≡ Some B) ↔ ((i : ℕ) × (A : LfType) × IsSubgoal c i A × (subgoal_at c k ≡ Some i) × (B ≡ rename_type (variable_number c) A))

-- the clause of entry k of a block of the worlds is listed among those of its family, under the block's label and the number k
abbrev pub EntriesAreListed : Type 0
EntriesAreListed = (B : Block) (W : List Block) (k : ℕ) (c : Clause) → Member B W → entry_clause_at B k B.entries ≡ Some c → Member (record { name = of_entry B.label k; clause = c }) (block_clauses W (target c.type))
