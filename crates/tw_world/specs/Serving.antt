-- Subordination as the program has it, and whether a callee knows a block of its caller.
use Rattle.std.specs.Prelude.{◌≡◌, ℕ, List, [], Bool, false, Option, Some, None, ◌⊎◌}
use Rattle.lf.specs.Subordination.{Block, Member}
use Rattle.lf.specs.Syntax.{LfType}
use Rattle.lf.specs.Typing.{Signature}
use Rattle.lf.specs.Variables.{binders, target}
use Rattle.lf_checks.specs.Worlded.{IsSequence}
use Rattle.lf_checks.specs.WorldFaults.{CalleeIsServed, WorldRow}
use Rattle.tw_world.specs.Sequences.{SequenceGoesDeep}
use Rattle.tw_subord.specs.Rows.{is_below}

-- the families below each one
abbrev pub below_in : List (List ℕ) → ℕ → ℕ → Bool
below_in rows f g = is_below rows g f

-- the block is one of V, or has no entry whose target is in T
abbrev pub BlockServes : Block → List Block → (ℕ → Bool) → Type 0
BlockServes B V T = Member B V ⊎ ((E : LfType) → Member E B.entries → T (target E) ≡ false)

-- there is a type, and its target is in T
abbrev pub is_below_target : (ℕ → Bool) → Option LfType → Bool
is_below_target T (Some E) = T (target E)
is_below_target T None = false

-- A subgoal passes in the context of its clause: `SubgoalIsWorlded` of each clause with this scope.
abbrev pub PassesIn : Signature → List WorldRow → List ℕ → (ℕ → ℕ → Bool) → List Block → List LfType → LfType → Type 0
PassesIn Σ rows group below W C A = IsSequence Σ W C (binders [] A) × CalleeIsServed rows group below W (target A)

-- It is left open there: its family is served, but whether its hypotheses are a sequence can't be told.
pub record IsOpenIn (Σ : Signature) (rows : List WorldRow) (group : List ℕ) (below : ℕ → ℕ → Bool) (W : List Block) (C : List LfType) (A : LfType) : Type 0 where
  pub served : CalleeIsServed rows group below W (target A)
  pub deep : SequenceGoesDeep Σ W C (binders [] A)
