-- Which variables a run by number may split beside a set of families: its candidates need nothing but the set, and what stands in the case's local context.
use Rattle.std.specs.Prelude.{◌≡◌, ℕ, List, [], length, Bool}
use Rattle.lf.specs.Syntax.{LfType}
use Rattle.lf.specs.Typing.{Signature, TypeAt}
use Rattle.lf.specs.Variables.{binders}
use Rattle.lf.specs.Subordination.{Block, IsBelowTest, Member}
use Rattle.lf_cases.specs.Pattern.{Pattern}
use Rattle.lf_coverage.specs.Subordinate.{AllQuantifiersAreBelow}
use Rattle.lf_numbered.specs.EntryConstants.{IsFreeFrom}
use Rattle.lf_numbered.specs.NumberedBeside.{TakesBelow, TakesIn}
use Rattle.lf_numbered.specs.NumberedBesideGiven.{IsTypedBesideByNumber}
use Rattle.lf_numbered.specs.NumberedCalls.{IsBesideByNumber}
use Rattle.lf_numbered.specs.NumberedCallsReached.{numbered_candidates}
use Rattle.lf_numbered.specs.NumberedCase.{NumberedCase}

-- Each candidate of a pattern with as many local variables as the case has such a type beside each set beside which the case is to be covered. The case is
-- typed beside some pattern, by which its arguments have the types of their places: it needn't be this one. Nothing is asked of the worlds, nor of the case's
-- other variables, since a candidate stands on bound variables alone, under heads of families in the set. Where it is Y x, of Y : {x:exp} nat on a local
-- x : exp, nat is in S, and exp needn't be.
abbrev pub NumberedCandidateIsInSet : Type 0
NumberedCandidateIsInSet = (Σ : Signature) (W : List Block) (first : ℕ) → IsFreeFrom Σ first → (S : ℕ → Bool) (C : NumberedCase) (q p : Pattern) → IsTypedBesideByNumber Σ first W C q → length C.local ≡ length (binders [] p.type) → IsBesideByNumber Σ W S C → (x : ℕ) → Member x (numbered_candidates first C p) → (X : LfType) → TypeAt C.variables x X → TakesIn S X

-- And what it takes quantifies only over what is below, where the types of the local context do. So a `some` variable f : {v:d} ({u:d} a) -> c, where d isn't
-- below a, is no candidate.
abbrev pub NumberedCandidateTakesBelow : Type 0
NumberedCandidateTakesBelow = (Σ : Signature) (W : List Block) (first : ℕ) → IsFreeFrom Σ first → (below : ℕ → ℕ → Bool) → ((f : ℕ) → IsBelowTest Σ W (below f) f) → (C : NumberedCase) (q p : Pattern) → IsTypedBesideByNumber Σ first W C q → length C.local ≡ length (binders [] p.type) → AllQuantifiersAreBelow below C.local → (x : ℕ) → Member x (numbered_candidates first C p) → (X : LfType) → TypeAt C.variables x X → TakesBelow below X
