-- The clauses of a family and of a group, in order and with their names.
use Rattle.std.specs.Prelude.{◌≡◌, ℕ, suc, List, [], ◌∷◌, ◌++◌, length, Option, Some, None, cond}
use Rattle.lf.specs.Syntax.{LfType}
use Rattle.lf.specs.Entries.{Entry, signature_of}
use Rattle.lf.specs.Constants.{constants_of}
use Rattle.lf.specs.Variables.{target, same_number}
use Rattle.lf.specs.Subordination.{Block, Member}
use Rattle.lf_checks.specs.Clause.{Clause, constant_clause, entry_clause}

-- The name of a clause: the number of a constant, or the label of a block and the number of its entry, the first entry being 1.
pub data ClauseName : Type 0 where
  of_constant : ℕ → ClauseName
  of_entry : List ℕ → ℕ → ClauseName

-- a clause with its name
pub record NamedClause : Type 0 where
  pub name : ClauseName
  pub clause : Clause

-- the constant k of this type, before other clauses; a number without a type is no clause
abbrev pub with_constant : ℕ → Option LfType → List NamedClause → List NamedClause
with_constant k (Some U) cs = record { name = of_constant k; clause = constant_clause U } ∷ cs
with_constant k None cs = cs

-- the constants of the list, in its order
abbrev pub constant_clauses : (ℕ → Option LfType) → List ℕ → List NamedClause
constant_clauses types [] = []
constant_clauses types (k ∷ ks) = with_constant k (types k) (constant_clauses types ks)

-- the entry E of the block, after the entries es
abbrev pub named_entry : Block → List LfType → LfType → NamedClause
named_entry B es E = record { name = of_entry B.label (suc (length es)); clause = entry_clause B es E }

-- the entries of the block whose target is a, the first entry first
abbrev pub entry_clauses : Block → ℕ → List LfType → List NamedClause
entry_clauses B a [] = []
entry_clauses B a (E ∷ es) = cond (same_number (target E) a) (entry_clauses B a es ++ named_entry B es E ∷ []) (entry_clauses B a es)

-- the entries of all blocks, in the order of the blocks; those of a block that stands twice come twice
abbrev pub block_clauses : List Block → ℕ → List NamedClause
block_clauses [] a = []
block_clauses (B ∷ W) a = entry_clauses B a B.entries ++ block_clauses W a

-- the clauses of the family a: its constants, the oldest first, and then the entries of the blocks
abbrev pub clauses_of : List Entry → List Block → ℕ → List NamedClause
clauses_of entries W a = constant_clauses (signature_of entries).types (constants_of entries a) ++ block_clauses W a

-- the clauses of the families of a group, in the group's order
abbrev pub group_clauses : List Entry → List Block → List ℕ → List NamedClause
group_clauses entries W [] = []
group_clauses entries W (a ∷ group) = clauses_of entries W a ++ group_clauses entries W group

-- the clause is one of the list, under some name
abbrev pub IsListed : Clause → List NamedClause → Type 0
IsListed c clauses = (n : NamedClause) × Member n clauses × (n.clause ≡ c)
