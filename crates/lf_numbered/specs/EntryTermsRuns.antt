-- Along runs by number matching by terms decides the leaves: whether a case of a run from a goal of inputs is an instance of a head, of an entry too, and
-- one of a run from what is typed beside a subgoal, as the goal of its outputs is, an instance of the subgoal.
use Rattle.std.specs.Prelude.{◌≡◌, ℕ, List, Bool, true, false, Some, ◌↔◌}
use Rattle.lf.specs.Syntax.{Kind}
use Rattle.lf.specs.Typing.{Signature, IsSignature}
use Rattle.lf.specs.Subordination.{Block, AreTypedBlocks}
use Rattle.lf.specs.Variables.{target, nothing, everything}
use Rattle.lf_checks.specs.Clause.{Clause, IsClause, outside}
use Rattle.lf_checks.specs.Ground.{UsesGoal}
use Rattle.lf_checks.specs.Marks.{MentionChosenOnly}
use Rattle.lf_cases.specs.Case.{input_goal}
use Rattle.lf_cases.specs.Pattern.{Pattern, head_pattern, is_given, origin}
use Rattle.lf_coverage.specs.Leaf.{IsTypedPattern}
use Rattle.lf_coverage.specs.Matching.{other_places}
use Rattle.lf_numbered.specs.EntryConstants.{IsFreeFrom}
use Rattle.lf_numbered.specs.EntryPatterns.{IsInstanceOfPattern}
use Rattle.lf_numbered.specs.EntryTerms.{MatchesByNumber, known_in}
use Rattle.lf_numbered.specs.NumberedBesideGiven.{IsTypedBesideByNumber}
use Rattle.lf_numbered.specs.NumberedCase.{NumberedCase}
use Rattle.lf_numbered.specs.Numbering.{numbered}
use Rattle.lf_numbered.specs.OwnStores.{ComesByNumbers}

-- Nothing is asked of the case but that it comes from the goal by new block variables and by splits that unification solves.
abbrev pub InputRunIsDecided : Type 0
InputRunIsDecided = (Σ : Signature) → IsSignature Σ → (W : List Block) → AreTypedBlocks Σ W → (first : ℕ) → IsFreeFrom Σ first → (below : ℕ → ℕ → Bool) (a : ℕ) (m : List Bool) (K : Kind) → Σ.kinds a ≡ Some K → MentionChosenOnly nothing m K → (C : NumberedCase) → ComesByNumbers Σ W first below (numbered first (input_goal a m K)) C → (c : Clause) (i : IsClause Σ W c) → target c.type ≡ a → (IsInstanceOfPattern Σ first C (head_pattern c (origin i)) ↔ MatchesByNumber first C (head_pattern c (origin i))) × Dec (IsInstanceOfPattern Σ first C (head_pattern c (origin i)))

-- Of a subgoal only that its other places have what is known, and that terms are given for the clause's own variables.
abbrev pub BesideRunIsDecided : Type 0
BesideRunIsDecided = (Σ : Signature) → IsSignature Σ → (W : List Block) → AreTypedBlocks Σ W → (first : ℕ) → IsFreeFrom Σ first → (below : ℕ → ℕ → Bool) (p : Pattern) → IsTypedPattern Σ p → p.at_first ≡ true → (goal : NumberedCase) → IsTypedBesideByNumber Σ first W goal p → (C : NumberedCase) → ComesByNumbers Σ W first below goal C → ((i : ℕ) → is_given C.given i ≡ true → outside p.clause.type everything i ≡ false) → UsesGoal (known_in C p) (other_places C.arguments) p.type → (IsInstanceOfPattern Σ first C p ↔ MatchesByNumber first C p) × Dec (IsInstanceOfPattern Σ first C p)
