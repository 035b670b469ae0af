-- What the check of worlds of a group comes to.
use Rattle.std.specs.Prelude.{◌≡◌, ℕ, ◌<◌, List, Bool, Some, Result, Ok, Err}
use Rattle.lf.specs.Entries.{Entry, signature_of}
use Rattle.lf.specs.Subordination.{Block}
use Rattle.lf.specs.Syntax.{LfType}
use Rattle.lf.specs.Typing.{Signature}
use Rattle.lf_checks.specs.Clause.{Clause, IsSubgoal, scope}
use Rattle.lf_checks.specs.Clauses.{ClauseName, NamedClause, group_clauses}
use Rattle.lf_checks.specs.Faults.{AllPass, FirstFault}
use Rattle.lf_checks.specs.Parts.{subgoal_at}
use Rattle.lf_checks.specs.WorldFaults.{ClauseIsWorlded, GroupIsWorlded, GroupWorldFault, SubgoalIsWorlded, WorldFault as PlainFault, WorldRow}
use Rattle.tw_clause.specs.View.{name_of}
use Rattle.tw_world.specs.Serving.{IsOpenIn}
use Rattle.tw_world.specs.declared.fault.WorldFault.{WorldFault}
use Rattle.tw_world.specs.declared.fault.WorldFault.TheVariants.{Fault, NoMemory, TooDeep}

-- Subgoal k is left open: its family is served, and in its local context, where a sequence of instances ends, the typing of a `some` term of a strict block goes too deep. Each subgoal
-- that is solved before it passes.
pub record SubgoalGoesDeep (Σ : Signature) (rows : List WorldRow) (group : List ℕ) (below : ℕ → ℕ → Bool) (W : List Block) (c : Clause) (k : ℕ) : Type 0 where
  pub index : ℕ
  pub subgoal : LfType
  pub stands : subgoal_at c k ≡ Some index
  pub is_subgoal : IsSubgoal c index subgoal
  pub before : (i : ℕ) (A : LfType) → i < index → IsSubgoal c i A → SubgoalIsWorlded Σ rows group below W c A
  pub is_open : IsOpenIn Σ rows group below W (scope c) subgoal

-- The same of a list of clauses: those before the clause of this name pass.
abbrev pub FirstDeep : Signature → List WorldRow → List ℕ → (ℕ → ℕ → Bool) → List Block → List NamedClause → Type 0
FirstDeep Σ rows group below W cs = (name : ClauseName) × (k : ℕ) × FirstFault (ClauseIsWorlded Σ rows group below W) (SubgoalGoesDeep Σ rows group below W) cs name k

-- Each clause of the list passes, or it is the first that doesn't, by its first such subgoal, or the first that is left open.
abbrev pub ListOutcome : Signature → List WorldRow → List ℕ → (ℕ → ℕ → Bool) → List Block → List NamedClause → Result (Unit {0}) WorldFault → Type 0
ListOutcome Σ rows group below W cs (Ok u) = AllPass (ClauseIsWorlded Σ rows group below W) cs
ListOutcome Σ rows group below W cs (Err (Fault name k)) = FirstFault (ClauseIsWorlded Σ rows group below W) (PlainFault Σ rows group below W) cs (name_of name) k
ListOutcome Σ rows group below W cs (Err TooDeep) = FirstDeep Σ rows group below W cs
ListOutcome Σ rows group below W cs (Err NoMemory) = Unit {0}

-- The check of worlds of a group over a signature: yes, or the first clause and in it the first subgoal. Before a subgoal that is left open all pass.
abbrev pub WorldOutcome : List Entry → List WorldRow → List ℕ → (ℕ → ℕ → Bool) → List Block → Result (Unit {0}) WorldFault → Type 0
WorldOutcome es rows group below W (Ok u) = GroupIsWorlded es rows group below W
WorldOutcome es rows group below W (Err (Fault name k)) = GroupWorldFault es rows group below W (name_of name) k
WorldOutcome es rows group below W (Err TooDeep) = FirstDeep (signature_of es) rows group below W (group_clauses es W group)
WorldOutcome es rows group below W (Err NoMemory) = Unit {0}
