-- Cases by number that are typed beside a pattern, as goals of outputs are beside their subgoals: matching by terms decides whether they are instances.
use Rattle.std.specs.Prelude.{◌≡◌, ℕ, List, true, false, ◌↔◌}
use Rattle.lf.specs.Substitution.{Image}
use Rattle.lf.specs.Typing.{Signature, IsSignature}
use Rattle.lf.specs.Subordination.{Block, AreTypedBlocks}
use Rattle.lf.specs.Variables.{everything}
use Rattle.lf_checks.specs.Clause.{outside}
use Rattle.lf_checks.specs.Ground.{UsesGoal}
use Rattle.lf_cases.specs.Pattern.{Pattern, is_given}
use Rattle.lf_coverage.specs.Leaf.{IsTypedPattern}
use Rattle.lf_coverage.specs.Matching.{other_places}
use Rattle.lf_numbered.specs.EntryConstants.{IsFreeFrom}
use Rattle.lf_numbered.specs.EntryPatterns.{IsInstanceOfPattern}
use Rattle.lf_numbered.specs.EntryTerms.{IsTried, MatchesByNumber, known_in, IsTypedBesideWith}
use Rattle.lf_numbered.specs.NumberedBesideGiven.{IsTypedBesideByNumber}
use Rattle.lf_numbered.specs.NumberedCase.{NumberedCase}

-- A case that is typed beside a subgoal's pattern is so with all that is tried: what the block variable of number 0 gives.
abbrev pub BesideWithAllTried : Type 0
BesideWithAllTried = (Σ : Signature) → IsSignature Σ → (W : List Block) → AreTypedBlocks Σ W → (first : ℕ) → IsFreeFrom Σ first → (C : NumberedCase) (p : Pattern) → IsTypedPattern Σ p → p.at_first ≡ true → IsTypedBesideByNumber Σ first W C p → ((i : ℕ) → is_given C.given i ≡ true → outside p.clause.type everything i ≡ false) → (φ : ℕ → Image) → IsTried first C p.origin p.at_first φ → IsTypedBesideWith Σ first C p φ

-- So matching by terms decides whether it is an instance of the pattern, where this has at the other places only what is known.
abbrev pub BesideIsDecided : Type 0
BesideIsDecided = (Σ : Signature) → IsSignature Σ → (W : List Block) → AreTypedBlocks Σ W → (first : ℕ) → IsFreeFrom Σ first → (C : NumberedCase) (p : Pattern) → IsTypedPattern Σ p → p.at_first ≡ true → IsTypedBesideByNumber Σ first W C p → ((i : ℕ) → is_given C.given i ≡ true → outside p.clause.type everything i ≡ false) → UsesGoal (known_in C p) (other_places C.arguments) p.type → (IsInstanceOfPattern Σ first C p ↔ MatchesByNumber first C p) × Dec (IsInstanceOfPattern Σ first C p)
