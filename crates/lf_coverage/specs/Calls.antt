-- What the calls of coverage are to answer of cases whose block variables are items among the others. A case stands here for what the program keeps of
-- it. The own block variable of an entry is here the last of the items, so a split by an entry of a new block variable, which may put it before that one,
-- has no answer here. In `NumberedCalls` it has: block variables have numbers there, and an entry's own is that of number 0 along a whole run. The contracts
-- that the program's calls will carry are those.
use Rattle.std.specs.Prelude.{◌≡◌, ℕ, List, [], ◌∷◌, Bool, true, false, Option, Some, None}
use Rattle.lf.specs.Syntax.{LfType, Kind, kind_pi, star}
use Rattle.lf.specs.Typing.{Signature}
use Rattle.lf.specs.Variables.{target, FamiliesIn}
use Rattle.lf.specs.Subordination.{Block, SelfContained}
use Rattle.lf_unification.specs.Unifiers.{Equation}
use Rattle.lf_checks.specs.Clause.{Clause}
use Rattle.lf_checks.specs.Marks.{Mark}
use Rattle.lf_cases.specs.Case.{Case, covered_places, items_context, input_goal}
use Rattle.lf_cases.specs.Pattern.{Origin, Pattern, IsCoveredCase}
use Rattle.lf_cases.specs.Candidates.{case_candidates}
use Rattle.lf_cases.specs.Missing.{IsMissing}
use Rattle.lf_cases.specs.OutputGoal.{output_goal}
use Rattle.lf_cases.specs.Reached.{GivesNoCase, IsApart, IsInstanceOf, IsSplitBy, IsUnsplit, Meets, Reached}
use Rattle.lf_cases.specs.Split.{IsSplit}
use Rattle.lf_coverage.specs.HeadOrder.{Offer}
use Rattle.lf_coverage.specs.Heads.{IsSplitBelow}
use Rattle.lf_coverage.specs.MeetStore.{IsOpen}
use Rattle.lf_coverage.specs.Outside.{RunLeaves, SplitLeaves}
use Rattle.lf_coverage.specs.SplitStore.{AllFamiliesIn}
use Rattle.lf_coverage.specs.TooDeep.{RunIsTooDeep, SplitIsTooDeep}

-- What `instance_of` answers of a case and a pattern.
pub data Matched : Type 0 where
  instance : Matched
  apart : Matched
  candidates : List ℕ → Matched
  stuck : Matched

-- The case is an instance of the pattern; they share nothing; or it is no instance and the pattern meets it, with these candidates or with none. So
-- plus (s X') Y _ is an instance of plus-s and apart from plus-z, and X is the candidate of plus X Y _ for both.
abbrev pub MatchedIs : Signature → List Block → Case → Pattern → Matched → Type 0
MatchedIs Σ W C p instance = IsInstanceOf Σ W C p
MatchedIs Σ W C p apart = IsApart Σ W (IsOpen Σ) C p
MatchedIs Σ W C p (candidates xs) = (IsInstanceOf Σ W C p → ⊥) × Meets Σ W (IsOpen Σ) C p × (case_candidates C p ≡ xs) × (xs ≡ [] → ⊥)
MatchedIs Σ W C p stuck = (IsInstanceOf Σ W C p → ⊥) × Meets Σ W (IsOpen Σ) C p × (case_candidates C p ≡ [])

-- What `split` answers of a case and one of its variables.
pub data SplitAnswer : Type 0 where
  cases : List Case → SplitAnswer
  outside : Equation → SplitAnswer
  too_deep : SplitAnswer

-- the case that a head gives, or none
abbrev pub HeadGives : Signature → List Block → (ℕ → ℕ → Bool) → Case → ℕ → LfType → Offer → Option Case → Type 0
HeadGives Σ W below C x X h (Some D) = IsSplitBy Σ W below C x X h.items h.moved h.head h.type D
HeadGives Σ W below C x X h None = GivesNoCase Σ W below x X h.items h.moved h.head h.type

-- The listed cases are what the heads give, in their order; and beside each of these self-contained sets one of them holds each tuple that the case
-- holds with different instances for different block variables.
pub record AreCasesBeside (Σ : Signature) (W : List Block) (below : ℕ → ℕ → Bool) (C : Case) (x : ℕ) (Cs : List Case) (These : (ℕ → Bool) → LfType → Type 0) : Type 0 where
  pub listed : IsSplitBelow Σ W below (HeadGives Σ W below C x) C x Cs
  pub holds : (S : ℕ → Bool) → SelfContained Σ W S → These S listed.answered.type → IsSplit Σ W S C Cs

-- So it is beside those that hold the families of the variable's type.
abbrev pub AreCasesOf : Signature → List Block → (ℕ → ℕ → Bool) → Case → ℕ → List Case → Type 0
AreCasesOf Σ W below C x Cs = AreCasesBeside Σ W below C x Cs (λ S A. FamiliesIn S A)

-- So it is beside those that hold the families in the types of all items: this follows where unification never solves or is solved
-- (`AnsweredSplitIsAnswer`). Beside the others too it follows where steps refute what is never solved (`RefutedSplitIsAnswer`).
abbrev pub AreCasesBesideAll : Signature → List Block → (ℕ → ℕ → Bool) → Case → ℕ → List Case → Type 0
AreCasesBesideAll Σ W below C x Cs = AreCasesBeside Σ W below C x Cs (λ S A. AllFamiliesIn S (items_context C.items))

-- For a head an equation is left outside the pattern fragment, which is shown; or something is deeper than 4,096.
abbrev pub SplitIs : Signature → List Block → (ℕ → ℕ → Bool) → Case → ℕ → SplitAnswer → Type 0
SplitIs Σ W below C x (cases Cs) = AreCasesOf Σ W below C x Cs
SplitIs Σ W below C x (outside shown) = SplitLeaves Σ W below C x shown
SplitIs Σ W below C x too_deep = SplitIsTooDeep Σ W below C x

-- the families of the types of these places are in S
abbrev pub PlacesIn : (ℕ → Bool) → List Bool → Kind → Type 0
PlacesIn S [] K = Unit {0}
PlacesIn S (b ∷ bs) star = Unit {0}
PlacesIn S (true ∷ bs) (kind_pi A K) = FamiliesIn S A × PlacesIn S bs K
PlacesIn S (false ∷ bs) (kind_pi A K) = PlacesIn S bs K

-- and those of each local type whose own family is in S
abbrev pub LocalsIn : (ℕ → Bool) → List LfType → Type 0
LocalsIn S [] = Unit {0}
LocalsIn S (A ∷ D) = (S (target A) ≡ true → FamiliesIn S A) × LocalsIn S D

-- The sets of families beside which a goal is to be covered: self-contained ones that hold each family in the types of the covered places, and in
-- each local type whose own family they hold.
pub record IsBeside (Σ : Signature) (W : List Block) (S : ℕ → Bool) (C : Case) : Type 0 where
  pub self_contained : SelfContained Σ W S
  pub kind : Kind
  pub of_family : Σ.kinds C.family ≡ Some kind
  pub places : PlacesIn S (covered_places C.arguments) kind
  pub locals : LocalsIn S C.local

-- What `cover` answers of a goal and a list of patterns.
pub data CoverAnswer : Type 0 where
  covered : CoverAnswer
  missing : Case → CoverAnswer
  unsplit : Case → CoverAnswer
  outside_at : Case → Equation → CoverAnswer
  goes_too_deep : CoverAnswer

-- The patterns cover the goal beside each such set; or the strategy reaches a case that is missing, that it can't split, or whose split leaves an
-- equation outside the pattern fragment; or something that it reaches is too deep.
abbrev pub CoverIs : Signature → List Block → (ℕ → ℕ → Bool) → List Pattern → Case → CoverAnswer → Type 0
CoverIs Σ W below ps goal covered = (S : ℕ → Bool) → IsBeside Σ W S goal → IsCoveredCase Σ W S ps goal
CoverIs Σ W below ps goal (missing D) = Reached Σ W (IsOpen Σ) below ps goal D × IsMissing Σ W ps goal D
CoverIs Σ W below ps goal (unsplit D) = Reached Σ W (IsOpen Σ) below ps goal D × IsUnsplit Σ W (IsOpen Σ) ps D
CoverIs Σ W below ps goal (outside_at D shown) = RunLeaves Σ W (IsOpen Σ) below ps goal D shown
CoverIs Σ W below ps goal goes_too_deep = RunIsTooDeep Σ W (IsOpen Σ) below ps goal

-- `input_goal` of a family of this kind and the chosen places; `output_goal` of a subgoal of a clause, where U is ground before it.
abbrev pub InputGoalIs : ℕ → List Bool → Kind → Case → Type 0
InputGoalIs a b K C = C ≡ input_goal a b K

abbrev pub OutputGoalIs : (ℕ → ℕ → Bool) → (ℕ → List Mark) → {c : Clause} → Origin c → (ℕ → Bool) → LfType → Kind → Case → Type 0
OutputGoalIs below m o U A K C = C ≡ output_goal below m o U A K
