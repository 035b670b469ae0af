-- The laws of matching.
use Rattle.std.specs.Prelude.{◌≡◌, ℕ, List, [], Bool, true, false, Option, Some, ◌↔◌}
use Rattle.lf.specs.Syntax.{Term, Spine, LfType, Kind}
use Rattle.lf.specs.Typing.{Signature, TypeAt, IsSignature}
use Rattle.lf.specs.Subordination.{Block, Member, AreTypedBlocks}
use Rattle.lf.specs.Variables.{target, UsesType, everything, nothing}
use Rattle.lf_checks.specs.Clause.{Clause, scope, outside, IsClause}
use Rattle.lf_checks.specs.Ground.{UsesGoal}
use Rattle.lf_checks.specs.Marks.{MentionChosenOnly, TypedPlaces}
use Rattle.lf_cases.specs.Case.{Case, items_context, covered_places}
use Rattle.lf_cases.specs.Pattern.{Pattern, ground_in, head_pattern, is_given, origin}
use Rattle.lf_cases.specs.Missing.{CommonInstance}
use Rattle.lf_cases.specs.Reached.{IsInstanceOf, LeavesAll}
use Rattle.lf_coverage.specs.Heads.{IsTypedCase}
use Rattle.lf_coverage.specs.Leaf.{IsTypedPattern, IsInstanceLeaf}
use Rattle.lf_coverage.specs.Matching.{ArePlaces, HoldsTypes, Matches, MatchesByTerms, found_values, other_places}
use Rattle.lf_coverage.specs.MeetStore.{IsConstants}
use Rattle.lf_coverage.specs.TypedCase.{IsTypedBeside}

-- Where a typed case shares itself with a typed pattern, of a constant's clause or of an entry's, each value of a variable of the clause itself that is
-- ground by the covered places is the one that matching finds.
abbrev pub InstanceIsFound : Type 0
InstanceIsFound = (Σ : Signature) → IsSignature Σ → (W : List Block) → AreTypedBlocks Σ W → (C : Case) → IsTypedCase Σ W C → (p : Pattern) → IsTypedPattern Σ p → (s : CommonInstance Σ W C p) → s.items ≡ C.items → LeavesAll C.items s.case_values → (i : ℕ) (A : LfType) → TypeAt (scope p.clause) i A → outside p.clause.type everything i ≡ false → s.used i ≡ true → ground_in p (covered_places C.arguments) C.given i ≡ true → s.clause_values i ≡ found_values C p i

-- So there is one value for each at most: two such instances agree on it.
abbrev pub ValuesAreDetermined : Type 0
ValuesAreDetermined = (Σ : Signature) → IsSignature Σ → (W : List Block) → AreTypedBlocks Σ W → (C : Case) → IsTypedCase Σ W C → (p : Pattern) → IsTypedPattern Σ p → (s t : CommonInstance Σ W C p) → s.items ≡ C.items → t.items ≡ C.items → LeavesAll C.items s.case_values → LeavesAll C.items t.case_values → (i : ℕ) (A : LfType) → TypeAt (scope p.clause) i A → outside p.clause.type everything i ≡ false → s.used i ≡ true → t.used i ≡ true → ground_in p (covered_places C.arguments) C.given i ≡ true → s.clause_values i ≡ t.clause_values i

-- Where the variables that are ground by the covered places hold their types, an instance of the pattern matches it: matching finds typed terms, and
-- with them put in, the pattern's arguments at the covered places are the case's.
abbrev pub InstanceMatches : Type 0
InstanceMatches = (Σ : Signature) → IsSignature Σ → (W : List Block) → AreTypedBlocks Σ W → (C : Case) (p : Pattern) → IsTypedPattern Σ p → IsConstants p.origin → IsTypedBeside Σ W C p → (UsesGoal (ground_in p (covered_places C.arguments) C.given) (covered_places C.arguments) p.type → HoldsTypes (ground_in p (covered_places C.arguments) C.given) (scope p.clause)) → IsInstanceOf Σ W C p → Matches Σ C p

-- And a typed case that matches it is an instance, where terms are given for variables of the clause itself.
abbrev pub MatchIsInstance : Type 0
MatchIsInstance = (Σ : Signature) → IsSignature Σ → (W : List Block) → AreTypedBlocks Σ W → (C : Case) → IsTypedCase Σ W C → (p : Pattern) → IsConstants p.origin → ((i : ℕ) → is_given C.given i ≡ true → outside p.clause.type everything i ≡ false) → Matches Σ C p → IsInstanceOf Σ W C p

-- So matching is a test of instances, and whether a case is one is decided.
abbrev pub InstanceIsDecided : Type 0
InstanceIsDecided = (Σ : Signature) → IsSignature Σ → (W : List Block) → AreTypedBlocks Σ W → (C : Case) (p : Pattern) → IsTypedPattern Σ p → IsConstants p.origin → IsTypedBeside Σ W C p → ((i : ℕ) → is_given C.given i ≡ true → outside p.clause.type everything i ≡ false) → (UsesGoal (ground_in p (covered_places C.arguments) C.given) (covered_places C.arguments) p.type → HoldsTypes (ground_in p (covered_places C.arguments) C.given) (scope p.clause)) → Dec (IsInstanceOf Σ W C p)

-- The head of a clause holds these types, where the types of the covered places mention covered places only.
abbrev pub HeadGroundHoldsTypes : Type 0
HeadGroundHoldsTypes = (Σ : Signature) → IsSignature Σ → (W : List Block) → AreTypedBlocks Σ W → (c : Clause) (i : IsClause Σ W c) (K : Kind) → Σ.kinds (target c.type) ≡ Some K → (m : List Bool) → MentionChosenOnly nothing m K → UsesGoal (ground_in (head_pattern c (origin i)) m []) m (head_pattern c (origin i)).type → HoldsTypes (ground_in (head_pattern c (origin i)) m []) (scope c)

-- So does a typed pattern all of whose variables are ground by the covered places and what is given, where this holds its types.
abbrev pub GoalGroundHoldsTypes : Type 0
GoalGroundHoldsTypes = (Σ : Signature) → IsSignature Σ → (p : Pattern) → IsTypedPattern Σ p → (m : List Bool) (Ms : List (Option Term)) → HoldsTypes (is_given Ms) (scope p.clause) → UsesType (ground_in p m Ms) p.type → HoldsTypes (ground_in p m Ms) (scope p.clause)

-- Of a head nothing has to be typed: where the case's arguments have the types of the covered places, which mention covered places only, the terms that
-- matching finds have theirs if they make the pattern's arguments there the case's.
abbrev pub HeadMatchIsTyped : Type 0
HeadMatchIsTyped = (Σ : Signature) → IsSignature Σ → (W : List Block) → AreTypedBlocks Σ W → (C : Case) (c : Clause) (i : IsClause Σ W c) → IsConstants (origin i) → C.given ≡ [] → (K : Kind) → Σ.kinds (target c.type) ≡ Some K → MentionChosenOnly nothing (covered_places C.arguments) K → (T : Spine) → ArePlaces C.arguments T → TypedPlaces Σ (covered_places C.arguments) (items_context C.items) T K → MatchesByTerms C (head_pattern c (origin i)) → Matches Σ C (head_pattern c (origin i))

-- A case that is typed beside a head has such arguments. So matching by terms alone decides whether a case of inputs is an instance of the head of a
-- constant's clause.
abbrev pub HeadMatchingDecides : Type 0
HeadMatchingDecides = (Σ : Signature) → IsSignature Σ → (W : List Block) → AreTypedBlocks Σ W → (C : Case) (c : Clause) (i : IsClause Σ W c) → IsConstants (origin i) → IsTypedBeside Σ W C (head_pattern c (origin i)) → C.given ≡ [] → (K : Kind) → Σ.kinds (target c.type) ≡ Some K → MentionChosenOnly nothing (covered_places C.arguments) K → (IsInstanceOf Σ W C (head_pattern c (origin i)) ↔ MatchesByTerms C (head_pattern c (origin i))) × Dec (IsInstanceOf Σ W C (head_pattern c (origin i)))

-- So a case that matches one of the patterns by terms is a leaf of a run.
abbrev pub HeadMatchIsLeaf : Type 0
HeadMatchIsLeaf = (Σ : Signature) → IsSignature Σ → (W : List Block) → AreTypedBlocks Σ W → (ps : List Pattern) (C : Case) (c : Clause) (i : IsClause Σ W c) → IsConstants (origin i) → Member (head_pattern c (origin i)) ps → IsTypedBeside Σ W C (head_pattern c (origin i)) → C.given ≡ [] → (K : Kind) → Σ.kinds (target c.type) ≡ Some K → MentionChosenOnly nothing (covered_places C.arguments) K → MatchesByTerms C (head_pattern c (origin i)) → IsInstanceLeaf Σ W ps C

-- Matching by terms alone decides it also for any pattern of a constant's clause that has, at the other places and in the types of its local variables,
-- only variables for which terms are given: for the subgoal of a goal of outputs, whose inputs are ground before.
abbrev pub GoalMatchingDecides : Type 0
GoalMatchingDecides = (Σ : Signature) → IsSignature Σ → (W : List Block) → AreTypedBlocks Σ W → (C : Case) (p : Pattern) → IsTypedPattern Σ p → IsConstants p.origin → IsTypedBeside Σ W C p → ((i : ℕ) → is_given C.given i ≡ true → outside p.clause.type everything i ≡ false) → UsesGoal (is_given C.given) (other_places C.arguments) p.type → (IsInstanceOf Σ W C p ↔ MatchesByTerms C p) × Dec (IsInstanceOf Σ W C p)
