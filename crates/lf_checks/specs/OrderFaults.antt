-- The first call that doesn't descend, and the blocks of several families.
use Rattle.std.specs.Prelude.{ℕ, List, [], ◌∷◌, ◌++◌, Option, Some, None}
use Rattle.lf.specs.Syntax.{LfType}
use Rattle.lf.specs.Entries.{Entry, signature_of}
use Rattle.lf.specs.Variables.{target}
use Rattle.lf.specs.Subordination.{Block, Member}
use Rattle.lf_checks.specs.Clause.{Clause}
use Rattle.lf_checks.specs.Clauses.{ClauseName, NamedClause, group_clauses}
use Rattle.lf_checks.specs.Descent.{CallDescends}
use Rattle.lf_checks.specs.Faults.{AllPass, FirstFault, EachPasses, FirstSubgoal}
use Rattle.lf_checks.specs.Order.{Order}
use Rattle.lf_checks.specs.WorldFaults.{WorldRow, worlds_of}

-- what is asked of a call to the group, by a test of calls; nothing is asked of other calls
abbrev pub GroupCallPasses : (Clause → LfType → Type 0) → List ℕ → Clause → LfType → Type 0
GroupCallPasses Descends group c A = Member (target A) group → Descends c A

-- each call of the clause to the group passes
abbrev pub ClauseDescends : (Clause → LfType → Type 0) → List ℕ → Clause → Type 0
ClauseDescends Descends group c = EachPasses (GroupCallPasses Descends group c) c

-- the first call that doesn't
abbrev pub OrderFault : (Clause → LfType → Type 0) → List ℕ → Clause → ℕ → Type 0
OrderFault Descends group c k = FirstSubgoal (GroupCallPasses Descends group c) c k

-- The check of orders says yes: each clause of the group passes.
abbrev pub AllDescend : (Clause → LfType → Type 0) → List ℕ → List NamedClause → Type 0
AllDescend Descends group clauses = AllPass (ClauseDescends Descends group) clauses

-- It names the first clause that doesn't, and in it the first subgoal.
abbrev pub FirstOrderFault : (Clause → LfType → Type 0) → List ℕ → List NamedClause → ClauseName → ℕ → Type 0
FirstOrderFault Descends group clauses name k = FirstFault (ClauseDescends Descends group) (OrderFault Descends group) clauses name k

-- the same where a call descends by the orders of the families
abbrev pub GroupOrderFault : List Entry → List Block → (ℕ → Order) → List ℕ → ClauseName → ℕ → Type 0
GroupOrderFault entries W order group name k = FirstOrderFault (CallDescends (signature_of entries) W order group) group (group_clauses entries W group) name k

-- the blocks of the worlds of these families, one family after another; a family without worlds has none
abbrev pub or_no_blocks : Option (List Block) → List Block
or_no_blocks (Some W) = W
or_no_blocks None = []

abbrev pub blocks_of : List WorldRow → List ℕ → List Block
blocks_of rows [] = []
blocks_of rows (f ∷ families) = or_no_blocks (worlds_of rows f) ++ blocks_of rows families

-- W has the blocks of the list in its order, each at its first place only; those that were seen before aren't among them.
pub data EachOnce : List Block → List Block → List Block → Type 0 where
  no_more : {seen : List Block} → EachOnce seen [] []
  again : {seen rest W : List Block} {B : Block} → Member B seen → EachOnce seen rest W → EachOnce seen (B ∷ rest) W
  for_the_first_time : {seen rest W : List Block} {B : Block} → (Member B seen → ⊥) → EachOnce (B ∷ seen) rest W → EachOnce seen (B ∷ rest) (B ∷ W)

-- W has the blocks of all worlds of these families, each once
abbrev pub AreJoined : List WorldRow → List ℕ → List Block → Type 0
AreJoined rows families W = EachOnce [] (blocks_of rows families) W
