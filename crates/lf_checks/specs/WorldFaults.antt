-- Rows of worlds, callees that know the caller's blocks, and the first fault of worlds.
use Rattle.std.specs.Prelude.{◌≡◌, ℕ, List, [], ◌∷◌, Bool, ◌⊎◌, Option, Some, None, cond}
use Rattle.lf.specs.Syntax.{LfType}
use Rattle.lf.specs.Entries.{Entry, signature_of}
use Rattle.lf.specs.Typing.{Signature}
use Rattle.lf.specs.Variables.{target, binders, same_number}
use Rattle.lf.specs.Subordination.{Block, Member}
use Rattle.lf_checks.specs.Clause.{Clause, scope}
use Rattle.lf_checks.specs.Clauses.{ClauseName, group_clauses}
use Rattle.lf_checks.specs.Faults.{AllPass, FirstFault, EachPasses, FirstSubgoal}
use Rattle.lf_checks.specs.Worlded.{IsSequence, BlocksServe}

-- a family and the blocks of its worlds
pub record WorldRow : Type 0 where
  pub family : ℕ
  pub blocks : List Block

-- the worlds of a family; a family without a row has none
abbrev pub worlds_of : List WorldRow → ℕ → Option (List Block)
worlds_of [] f = None
worlds_of (r ∷ rows) f = cond (same_number r.family f) (Some r.blocks) (worlds_of rows f)

-- A called family knows the blocks W of its caller: it is one of the group, or it has no worlds, or its own blocks serve, where `below` has
-- the families below each.
abbrev pub CalleeIsServed : List WorldRow → List ℕ → (ℕ → ℕ → Bool) → List Block → ℕ → Type 0
CalleeIsServed rows group below W f = Member f group ⊎ (worlds_of rows f ≡ None) ⊎ ((V : List Block) × (worlds_of rows f ≡ Some V) × BlocksServe W V (below f))

-- A subgoal of the clause passes: its local context is a sequence of instances of blocks, and its family is served.
abbrev pub SubgoalIsWorlded : Signature → List WorldRow → List ℕ → (ℕ → ℕ → Bool) → List Block → Clause → LfType → Type 0
SubgoalIsWorlded Σ rows group below W c A = IsSequence Σ W (scope c) (binders [] A) × CalleeIsServed rows group below W (target A)

-- each subgoal of the clause passes
abbrev pub ClauseIsWorlded : Signature → List WorldRow → List ℕ → (ℕ → ℕ → Bool) → List Block → Clause → Type 0
ClauseIsWorlded Σ rows group below W c = EachPasses (SubgoalIsWorlded Σ rows group below W c) c

-- the first subgoal that doesn't
abbrev pub WorldFault : Signature → List WorldRow → List ℕ → (ℕ → ℕ → Bool) → List Block → Clause → ℕ → Type 0
WorldFault Σ rows group below W c k = FirstSubgoal (SubgoalIsWorlded Σ rows group below W c) c k

-- The check of worlds says yes: each clause of the group passes.
abbrev pub GroupIsWorlded : List Entry → List WorldRow → List ℕ → (ℕ → ℕ → Bool) → List Block → Type 0
GroupIsWorlded entries rows group below W = AllPass (ClauseIsWorlded (signature_of entries) rows group below W) (group_clauses entries W group)

-- It names the first clause that doesn't, and in it the first subgoal.
abbrev pub GroupWorldFault : List Entry → List WorldRow → List ℕ → (ℕ → ℕ → Bool) → List Block → ClauseName → ℕ → Type 0
GroupWorldFault entries rows group below W name k = FirstFault (ClauseIsWorlded (signature_of entries) rows group below W) (WorldFault (signature_of entries) rows group below W) (group_clauses entries W group) name k
