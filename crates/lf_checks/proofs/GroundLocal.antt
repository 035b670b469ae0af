-- Local contexts whose `some` terms mention ground variables only: what totality uses of a local context.
use Rattle.std.specs.Prelude.{ℕ, List, [], Bool}
use Rattle.lf.specs.Syntax.{LfType}
use Rattle.lf.specs.Substitution.{Image}
use Rattle.lf.specs.Typing.{Signature, TypeAt}
use Rattle.lf.specs.Variables.{ImageUses, binders, onto, Values, everything}
use Rattle.lf.specs.Subordination.{Block, Member}
use Rattle.lf.specs.Worlds.{instance, under_all}
use Rattle.lf_checks.specs.Clause.{Clause, scope}

-- The local context D over C is a sequence of instances of blocks of W, whose `some` terms mention only variables of U
-- (those that are ground before the subgoal) and what the sequence has added; with D these are V.
pub data GroundSequence (Σ : Signature) (W : List Block) (C : List LfType) (U : ℕ → Bool) : List LfType → (ℕ → Bool) → Type 0 where
  no_block : GroundSequence Σ W C U [] U
  next_block : {D : List LfType} {V : ℕ → Bool} (B : Block) (θ : ℕ → Image) → GroundSequence Σ W C U D V → Member B W → Values Σ everything B.some (onto D C) θ → ((i : ℕ) (A : LfType) → TypeAt B.some i A → ImageUses V (θ i)) → GroundSequence Σ W C U (onto (instance B.entries θ) D) (under_all B.entries V)

abbrev pub IsGroundLocal : Signature → List Block → Clause → (ℕ → Bool) → LfType → Type 0
IsGroundLocal Σ W c U A = (V : ℕ → Bool) × GroundSequence Σ W (scope c) U (binders [] A) V
