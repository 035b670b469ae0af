-- The first fault: of the clauses in their order, and of the subgoals of a clause in solving order.
use Rattle.std.specs.Prelude.{◌≡◌, ℕ, ◌<◌, List, [], ◌∷◌, Some}
use Rattle.lf.specs.Syntax.{LfType}
use Rattle.lf_checks.specs.Clause.{Clause, IsSubgoal}
use Rattle.lf_checks.specs.Clauses.{ClauseName, NamedClause}
use Rattle.lf_checks.specs.Parts.{subgoal_at}

-- every clause of the list passes
abbrev pub AllPass : (Clause → Type 0) → List NamedClause → Type 0
AllPass Passes [] = Unit {0}
AllPass Passes (n ∷ clauses) = Passes n.clause × AllPass Passes clauses

-- The first fault among clauses: the clause of this name fails, `Place` being where in it, and those before it pass.
pub data FirstFault {Place : Type 0} (Passes : Clause → Type 0) (Fails : Clause → Place → Type 0) : List NamedClause → ClauseName → Place → Type 0 where
  here : {n : NamedClause} {clauses : List NamedClause} {name : ClauseName} {at : Place} → n.name ≡ name → Fails n.clause at → FirstFault Passes Fails (n ∷ clauses) name at
  later : {n : NamedClause} {clauses : List NamedClause} {name : ClauseName} {at : Place} → Passes n.clause → FirstFault Passes Fails clauses name at → FirstFault Passes Fails (n ∷ clauses) name at

-- each subgoal of the clause passes
abbrev pub EachPasses : (LfType → Type 0) → Clause → Type 0
EachPasses Passes c = (i : ℕ) (A : LfType) → IsSubgoal c i A → Passes A

-- The first subgoal that doesn't pass is subgoal k: each that is solved before it passes.
pub record FirstSubgoal (Passes : LfType → Type 0) (c : Clause) (k : ℕ) : Type 0 where
  pub index : ℕ
  pub subgoal : LfType
  pub stands : subgoal_at c k ≡ Some index
  pub is_subgoal : IsSubgoal c index subgoal
  pub before : (i : ℕ) (A : LfType) → i < index → IsSubgoal c i A → Passes A
  pub fails : Passes subgoal → ⊥
