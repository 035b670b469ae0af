-- What the check of worlds sees, a sequence of instances of strict blocks, is what totality asks of a subgoal.
use Rattle.lf_checks.specs.Ground.{UsesGoal}
use Rattle.lf_checks.specs.Worlded.{IsSequence}
use Rattle.lf_checks.specs.Clause.{Clause, scope}
use Rattle.std.proofs.Common.{ℕ, List, []}
use Rattle.std.specs.Prelude.{Bool}
use Rattle.lf.specs.Syntax.{LfType}
use Rattle.lf.specs.Typing.{Signature, IsContext, IsSignature}
use Rattle.lf.specs.Variables.{onto, binders}
use Rattle.lf.specs.Subordination.{Block, Member}
use Rattle.lf.specs.Worlds.{under_all}
use Rattle.lf_checks.proofs.GroundLocal.{IsGroundLocal}
use Rattle.lf_cases.proofs.Blocks.{goal_context, sequence_local}

pub worlded : (Σ : Signature) → IsSignature Σ → (W : List Block) → ((B : Block) → Member B W → IsContext Σ (onto B.entries B.some)) → (c : Clause) (m : List Bool) (U : ℕ → Bool) (A : LfType) → IsSequence Σ W (scope c) (binders [] A) → UsesGoal U m A → IsGroundLocal Σ W c U A
worlded Σ ok W typed c m U A l u = (under_all (binders [] A) U, sequence_local Σ ok W (scope c) typed U (binders [] A) l (goal_context U m [] A tt u))
