-- The clauses that a list of places stands for.
use Rattle.std.specs.Prelude.{ℕ, suc, List, [], ◌∷◌, ◌++◌, drop, slice_get, Bool, false, cond, Option, Some, None}
use Rattle.lf.specs.Entries.{Entry as PlainEntry, signature_of}
use Rattle.lf.specs.Subordination.{Block}
use Rattle.lf.specs.Syntax.{LfType}
use Rattle.lf.specs.Variables.{same_number, target}
use Rattle.lf_checks.specs.Clauses.{NamedClause, named_entry, with_constant}
use Rattle.tw_mode.specs.declared.listed.Listed.{Listed}
use Rattle.tw_mode.specs.declared.listed.Listed.TheVariants.{Constant, Entry}

-- the entry of a block that has n newer ones, if there is one
abbrev pub with_entry : Block → ℕ → Option LfType → List NamedClause
with_entry B n (Some E) = named_entry B (drop (suc n) B.entries) E ∷ []
with_entry B n None = []

abbrev pub in_block : Option Block → ℕ → List NamedClause
in_block (Some B) n = with_entry B n (slice_get B.entries n)
in_block None n = []

-- the target of the type is a
abbrev pub is_of : Option LfType → ℕ → Bool
is_of (Some E) a = same_number (target E) a
is_of None a = false

-- the entry, if its target is a
abbrev pub entry_alone : Block → ℕ → ℕ → List NamedClause
entry_alone B a n = cond (is_of (slice_get B.entries n) a) (with_entry B n (slice_get B.entries n)) []

-- the clause at a place, if there is one
abbrev pub clause_at : List PlainEntry → List Block → Listed → List NamedClause
clause_at es W (Constant id) = with_constant id.0 ((signature_of es).types id.0) []
clause_at es W (Entry b n) = in_block (slice_get W b) n

abbrev pub listed_clauses : List PlainEntry → List Block → List Listed → List NamedClause
listed_clauses es W [] = []
listed_clauses es W (x ∷ xs) = clause_at es W x ++ listed_clauses es W xs

-- none or one
abbrev pub as_list : Option LfType → List LfType
as_list (Some A) = A ∷ []
as_list None = []
