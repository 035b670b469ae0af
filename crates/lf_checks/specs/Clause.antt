-- Clauses: a type seen as variables, head and subgoals.
--
-- The quantifiers of the type make the context `scope`, the last in front: subgoals are solved from the last quantifier back to
-- the first, and so in the order of this list. A quantifier whose variable occurs in the rest is a variable of the clause, any
-- other a subgoal. The subgoal at index i is the type at index i; its local context is that under its own quantifiers.
use Rattle.std.specs.Prelude.{◌≡◌, ℕ, zero, suc, List, [], ◌∷◌, Bool, true, false, Some}
use Rattle.lf.specs.Syntax.{LfType, pi, atom}
use Rattle.lf.specs.Typing.{Signature, TypeAt}
use Rattle.lf.specs.Variables.{binders, onto, everything, nothing, hide}
use Rattle.lf.specs.Subordination.{Block, Member}
use Rattle.lf_unification.specs.Search.{occurs_type}

-- the set V, with the newest variable in it where b says so
abbrev pub with_newest : Bool → (ℕ → Bool) → ℕ → Bool
with_newest b V zero = b
with_newest b V (suc i) = V i

-- For each quantifier, the last in front: whether it is a variable. V says it of what stands outside the type.
abbrev pub is_variable : (ℕ → Bool) → LfType → ℕ → Bool
is_variable V (pi A B) = is_variable (with_newest (occurs_type zero B) V) B
is_variable V (atom a S) = V

-- A clause with what stands outside it: nothing for a constant; the entries before it and the `some` variables for a block
-- entry; the variables of the outer clause and the parameters for a local hypothesis. `fixed` has the entries and the
-- parameters among them: heads that no value changes.
pub record Clause : Type 0 where
  pub outer : List LfType
  pub fixed : ℕ → Bool
  pub type : LfType

-- the context of the whole clause
abbrev pub scope : Clause → List LfType
scope c = binders c.outer c.type

-- the variables of the clause, and all that stands outside it
abbrev pub variables : Clause → ℕ → Bool
variables c = is_variable everything c.type

-- A is the subgoal at index i of the scope
abbrev pub IsSubgoal : Clause → ℕ → LfType → Type 0
IsSubgoal c i A = (variables c i ≡ false) × TypeAt (scope c) i A

-- a set of what stands outside a type, seen under its quantifiers
abbrev pub outside : LfType → (ℕ → Bool) → ℕ → Bool
outside (pi A B) V = outside B (hide V)
outside (atom a S) V = V

-- the entries, among what stands outside an entry
abbrev pub among : List LfType → ℕ → Bool
among [] i = false
among (E ∷ es) zero = true
among (E ∷ es) (suc i) = among es i

-- a constant of type U
abbrev pub constant_clause : LfType → Clause
constant_clause U = record { outer = []; fixed = nothing; type = U }

-- the entry E of the block, after the entries es
abbrev pub entry_clause : Block → List LfType → LfType → Clause
entry_clause B es E = record { outer = onto es B.some; fixed = among es; type = E }

-- The clauses of a signature and the blocks of worlds. An entry's clause is that of the entry itself, never of an instance.
pub data IsClause (Σ : Signature) (W : List Block) : Clause → Type 0 where
  from_constant : (k : ℕ) (U : LfType) → Σ.types k ≡ Some U → IsClause Σ W (constant_clause U)
  from_entry : (B : Block) (later : List LfType) (E : LfType) (es : List LfType) → Member B W → onto later (E ∷ es) ≡ B.entries → IsClause Σ W (entry_clause B es E)
