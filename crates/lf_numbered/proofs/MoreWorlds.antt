-- Block variables, and a case by number, are typed where there are more worlds, as those of a clause with its block.
use Rattle.std.proofs.Common.{ℕ, List, [], ◌∷◌, inr}
use Rattle.std.specs.Prelude.{Option}
use Rattle.lf.specs.Syntax.{Spine, LfType}
use Rattle.lf.specs.Typing.{Signature}
use Rattle.lf.specs.Subordination.{Block, Member}
use Rattle.lf_checks.specs.Clause.{Clause}
use Rattle.lf_cases.specs.Missing.{blocks_with}
use Rattle.lf_cases.specs.Pattern.{Origin, of_constant, of_entry}
use Rattle.lf_numbered.specs.EntryConstants.{with_entries}
use Rattle.lf_numbered.specs.NumberedCase.{NumberedCase, AreTypedBlockVariables}
use Rattle.lf_numbered.specs.OwnTerms.{BlockVariable, blocks_of}
use Rattle.lf_numbered.specs.TypedNumbered.{IsTypedNumberedCase}

pub more_worlds : (Σ : Signature) (W V : List Block) → ((B : Block) → Member B W → Member B V) → (X : List LfType) (o : ℕ → Option Spine) (bs : List BlockVariable) → AreTypedBlockVariables Σ W X o bs → AreTypedBlockVariables Σ V X o bs
more_worlds Σ W V f X o [] t = tt
more_worlds Σ W V f X o (b ∷ bs) (m, s, u, t) = (f b.block m, s, u, more_worlds Σ W V f X o bs t)

pub with_more : {c : Clause} (p : Origin c) (W : List Block) (B : Block) → Member B W → Member B (blocks_with p W)
with_more (of_constant U) W B m = m
with_more (of_entry D later E es e) W B m = inr m

pub case_with_more : (Σ : Signature) (first : ℕ) (W V : List Block) → ((B : Block) → Member B W → Member B V) → (C : NumberedCase) → IsTypedNumberedCase Σ first W C → IsTypedNumberedCase Σ first V C
case_with_more Σ first W V f C t = record {
  variables = record { variables = t.variables.variables; on_own_terms = t.variables.on_own_terms; blocks = more_worlds (with_entries Σ first (blocks_of C.blocks)) W V f C.variables _ C.blocks t.variables.blocks };
  local = t.local;
  local_on_own = t.local_on_own;
  given = t.given;
  given_on_own = t.given_on_own;
  arguments = t.arguments;
  arguments_on_own = t.arguments_on_own;
}
