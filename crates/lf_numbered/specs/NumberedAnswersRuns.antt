-- Along runs by number `instance_of` has an answer of each case where unification answers: of one that comes from a goal of inputs and the head of a clause,
-- and of one that comes from what is typed beside a subgoal, as the goal of its outputs is, and the subgoal.
use Rattle.std.specs.Prelude.{◌≡◌, ℕ, List, Bool, true, false, Some}
use Rattle.lf.specs.Syntax.{Kind}
use Rattle.lf.specs.Typing.{Signature}
use Rattle.lf.specs.Variables.{target, nothing, everything}
use Rattle.lf.specs.Subordination.{Block}
use Rattle.lf_checks.specs.Clause.{Clause, IsClause, outside}
use Rattle.lf_checks.specs.Ground.{UsesGoal}
use Rattle.lf_checks.specs.Marks.{MentionChosenOnly}
use Rattle.lf_cases.specs.Case.{input_goal}
use Rattle.lf_cases.specs.Pattern.{Pattern, head_pattern, is_given, origin}
use Rattle.lf_coverage.specs.Calls.{Matched}
use Rattle.lf_coverage.specs.Leaf.{IsTypedPattern}
use Rattle.lf_coverage.specs.Matching.{other_places}
use Rattle.lf_numbered.specs.EntryTerms.{known_in}
use Rattle.lf_numbered.specs.MeetsAnswers.{ArePlacesAnswered}
use Rattle.lf_numbered.specs.NumberedBesideGiven.{IsTypedBesideByNumber}
use Rattle.lf_numbered.specs.NumberedCalls.{IsSetting, NumberedMatchedIs, NumberedMatchedNeeds}
use Rattle.lf_numbered.specs.NumberedCase.{NumberedCase}
use Rattle.lf_numbered.specs.Numbering.{numbered}
use Rattle.lf_numbered.specs.OwnStores.{ComesByNumbers}

-- A case that comes from a goal of inputs, by new block variables and by splits that unification solves, has what `instance_of` needs for the head of each
-- clause of its family. So do cp b.x _ and cp-app.
abbrev pub InputRunHasNeeds : Type 0
InputRunHasNeeds = (Σ : Signature) (W : List Block) (first : ℕ) → IsSetting Σ first W → (below : ℕ → ℕ → Bool) (a : ℕ) (m : List Bool) (K : Kind) → Σ.kinds a ≡ Some K → MentionChosenOnly nothing m K → (C : NumberedCase) → ComesByNumbers Σ W first below (numbered first (input_goal a m K)) C → (c : Clause) (i : IsClause Σ W c) → target c.type ≡ a → NumberedMatchedNeeds Σ first W C (head_pattern c (origin i))

-- So has one that comes from what is typed beside a pattern of the first block variable alone, where terms are given for variables of the clause itself, and at
-- the other places the pattern has only these and what stands outside its clause.
abbrev pub BesideRunHasNeeds : Type 0
BesideRunHasNeeds = (Σ : Signature) (W : List Block) (first : ℕ) → IsSetting Σ first W → (below : ℕ → ℕ → Bool) (p : Pattern) → IsTypedPattern Σ p → p.at_first ≡ true → (goal : NumberedCase) → IsTypedBesideByNumber Σ first W goal p → (C : NumberedCase) → ComesByNumbers Σ W first below goal C → ((i : ℕ) → is_given C.given i ≡ true → outside p.clause.type everything i ≡ false) → UsesGoal (known_in C p) (other_places C.arguments) p.type → NumberedMatchedNeeds Σ first W C p

-- So there `instance_of` has an answer where unification answers at each place that is to be looked at.
abbrev pub InputRunIsAnswered : Type 0
InputRunIsAnswered = (Σ : Signature) (W : List Block) (first : ℕ) → IsSetting Σ first W → (below : ℕ → ℕ → Bool) (a : ℕ) (m : List Bool) (K : Kind) → Σ.kinds a ≡ Some K → MentionChosenOnly nothing m K → (C : NumberedCase) → ComesByNumbers Σ W first below (numbered first (input_goal a m K)) C → (c : Clause) (i : IsClause Σ W c) → target c.type ≡ a → ArePlacesAnswered Σ first C (head_pattern c (origin i)) K → (r : Matched) × NumberedMatchedIs Σ first W C (head_pattern c (origin i)) r

abbrev pub BesideRunIsAnswered : Type 0
BesideRunIsAnswered = (Σ : Signature) (W : List Block) (first : ℕ) → IsSetting Σ first W → (below : ℕ → ℕ → Bool) (p : Pattern) → IsTypedPattern Σ p → p.at_first ≡ true → (goal : NumberedCase) → IsTypedBesideByNumber Σ first W goal p → (C : NumberedCase) → ComesByNumbers Σ W first below goal C → ((i : ℕ) → is_given C.given i ≡ true → outside p.clause.type everything i ≡ false) → UsesGoal (known_in C p) (other_places C.arguments) p.type → (K : Kind) → Σ.kinds C.family ≡ Some K → ArePlacesAnswered Σ first C p K → (r : Matched) × NumberedMatchedIs Σ first W C p r
