-- What the calls of coverage are to answer of cases whose block variables have numbers: the contracts that `instance_of`, `split`, `cover`, `input_goal` and
-- `output_goal` will carry. Σ is the signature that the case was made in, whose constants have numbers below `first`; from there on the entries of block
-- variables have theirs. Laws tie each answer to the tuples that a case holds.
-- Of `instance`, `apart`, a split's cases, `all_covered` and `one_missing` they stand in `NumberedCallsLaws` and `NumberedNeedsLaws`; of what meets, and so of
-- `one_unsplit`, in `SharedTuples`, `MetEquations` and `MetDeep`; of `outside_over` and `one_outside` in `LeftEquations` and `NeededLeft`; of what is too deep in
-- `DeepCases` and `NeededLeft`. That a split has one list is in `OnlyList`, and that runs give `all_covered` from the needs alone in `NeededRuns`.
-- The goals have what the calls need, splits keep it, and where it is so nothing else is asked: `NumberedNeeds`, `NumberedNeedsLaws`. Worked rows stand in
-- `NumberedCallsExamples` and `NumberedNeedsExamples`.
use Rattle.std.specs.Prelude.{◌≡◌, ℕ, zero, ◌⊎◌, List, [], length, Bool, true, false, Some}
use Rattle.lf.specs.Syntax.{Spine, LfType, Kind}
use Rattle.lf.specs.Typing.{Signature, TypeAt, IsSignature}
use Rattle.lf.specs.Variables.{target, binders, everything, nothing, Within}
use Rattle.lf.specs.Subordination.{Block, AreTypedBlocks, IsBelowTest, IsTypedBlock, Member, SelfContained}
use Rattle.lf_unification.specs.Unifiers.{Equation}
use Rattle.lf_checks.specs.Clause.{Clause, IsClause, IsSubgoal, outside, scope}
use Rattle.lf_checks.specs.Ground.{UsesGoal}
use Rattle.lf_checks.specs.Marks.{Mark, HasSoundMarks, MentionChosenOnly, NoneFree, TypedPlaces, input_places}
use Rattle.lf_cases.specs.Case.{covered_places, input_goal}
use Rattle.lf_cases.specs.Pattern.{Origin, of_constant, of_entry, Pattern, head_pattern, is_given, origin, subgoal_pattern}
use Rattle.lf_coverage.specs.Calls.{Matched, instance, apart, candidates, stuck, LocalsIn, PlacesIn}
use Rattle.lf_numbered.specs.EntryConstants.{IsFreeFrom, with_entries}
use Rattle.lf_numbered.specs.EntryPatterns.{IsInstanceOfPattern}
use Rattle.lf_numbered.specs.EntryPatternsOutputs.{numbered_output_goal}
use Rattle.lf_numbered.specs.EntryPatternsRuns.{HasOneBlock, IsCoveredByNumber, IsNumberedSplit}
use Rattle.lf_numbered.specs.EntryTerms.{known_in}
use Rattle.lf_coverage.specs.Heads.{ArgumentsAreBelow}
use Rattle.lf_coverage.specs.Leaf.{IsTypedPattern}
use Rattle.lf_coverage.specs.Matching.{ArePlaces, HoldsTypes, other_places}
use Rattle.lf_numbered.specs.NumberedBeside.{IsUnifiedByNumber, TakesIn}
use Rattle.lf_numbered.specs.NumberedBesideGiven.{IsTypedBesideByNumber}
use Rattle.lf_numbered.specs.NumberedCallsMeeting.{IsApartByNumber}
use Rattle.lf_numbered.specs.NumberedCallsOrder.{AreInNumberedOrder, HasNumberedRank}
use Rattle.lf_numbered.specs.NumberedCallsOutside.{SplitLeavesByNumber, SplitIsTooDeepByNumber}
use Rattle.lf_numbered.specs.NumberedCallsReached.{numbered_candidates, IsMissingByNumber, IsUnsplitByNumber, ReachedByNumber, RunLeavesByNumber, RunIsTooDeepByNumber}
use Rattle.lf_numbered.specs.NumberedCallsStores.{MeetsByNumber}
use Rattle.lf_numbered.specs.NumberedCase.{NumberedCase}
use Rattle.lf_numbered.specs.NumberedInstance.{block_at}
use Rattle.lf_numbered.specs.NumberedSplits.{IsOfferTo, NumberedOffer}
use Rattle.lf_numbered.specs.Numbering.{numbered}
use Rattle.lf_numbered.specs.OwnTerms.{BlockVariable, blocks_of}
use Rattle.lf_coverage.specs.Subordinate.{AllQuantifiersAreBelow}
use Rattle.lf_numbered.specs.TypedNumbered.{IsTypedNumberedCase}

-- For a pattern of the first block variable alone, an entry's, the block variable of number 0 is of the entry's block.
abbrev pub HasOwnBlock : {c : Clause} → Origin c → Bool → NumberedCase → Type 0
HasOwnBlock (of_constant U) b C = Unit {0}
HasOwnBlock (of_entry B later E es e) b C = b ≡ true → (v : BlockVariable) × (block_at C.blocks zero ≡ Some v) × (v.block ≡ B)

-- The block of a pattern's entry, if it is one, is typed, with the entries behind it too: {x:exp} {u:cp x x} is, and {x:exp} {u:cp x x} {v:cp x} isn't.
abbrev pub HasTypedBlock : Signature → {c : Clause} → Origin c → Type 0
HasTypedBlock Σ (of_constant U) = Unit {0}
HasTypedBlock Σ (of_entry B later E es e) = IsTypedBlock Σ B

-- The head of a clause for a case of inputs: nothing is given and there is no local context; the types of the covered places mention covered places only, and
-- the arguments there have these types. So it is with plus-s : plus (s X) Y (s Z) for the case plus X' Y' _. With a, b : type, c : b and hc : {X:a} h X it
-- isn't so with hc for h c, since c isn't of the type a.
pub record IsHeadFor (Σ : Signature) (first : ℕ) (C : NumberedCase) (p : Pattern) : Type 0 where
  pub is_head : p ≡ head_pattern p.clause p.origin
  pub none_given : C.given ≡ []
  pub no_local : C.local ≡ []
  pub kind : Kind
  pub of_family : Σ.kinds C.family ≡ Some kind
  pub covered_only : MentionChosenOnly nothing (covered_places C.arguments) kind
  pub tuple : Spine
  pub at_places : ArePlaces C.arguments tuple
  pub typed_places : TypedPlaces (with_entries Σ first (blocks_of C.blocks)) (covered_places C.arguments) C.variables tuple kind

-- A subgoal for a case of its outputs: the case is typed beside it, and at the other places the subgoal has only variables for which terms are given and what
-- stands outside its clause. So it is with plus X Y Z of plus-s for the case plus X Y Z'. Not so with p (F N) V for p _ V', where F and N aren't given.
pub record IsSubgoalFor (Σ : Signature) (first : ℕ) (W : List Block) (C : NumberedCase) (p : Pattern) : Type 0 where
  pub at_first : p.at_first ≡ true
  pub typed_beside : IsTypedBesideByNumber Σ first W C p
  pub known_places : UsesGoal (known_in C p) (other_places C.arguments) p.type

-- A pattern for a case, whatever worlds it comes from: it is typed by itself, and of the case's family; it has as many local variables as the case; terms are
-- given for variables of its clause itself; and it is a head or a subgoal for the case. The block of an entry is typed, with the entries behind it too, since
-- a block variable has all of them where the pattern and the case are unified. So plus-s is one for plus X Y _, and q-c : q X is none for p X; and the entry u
-- of {x:exp} {u:cp x x} is one for cp X _, and that of {x:exp} {u:cp x x} {v:cp x} is none, since cp x is no type.
pub record IsFor (Σ : Signature) (first : ℕ) (W : List Block) (C : NumberedCase) (p : Pattern) : Type 0 where
  pub typed : IsTypedPattern Σ p
  pub typed_block : HasTypedBlock Σ p.origin
  pub same_family : target p.type ≡ C.family
  pub same_length : length C.local ≡ length (binders [] p.type)
  pub given_own : (i : ℕ) → is_given C.given i ≡ true → outside p.clause.type everything i ≡ false
  pub own_block : HasOwnBlock p.origin p.at_first C
  pub beside : IsHeadFor Σ first C p ⊎ IsSubgoalFor Σ first W C p

-- What all calls need: the signature is one, the blocks of W are typed over it, and no constant has the number `first` or a greater one.
pub record IsSetting (Σ : Signature) (first : ℕ) (W : List Block) : Type 0 where
  pub signature : IsSignature Σ
  pub blocks : AreTypedBlocks Σ W
  pub free : IsFreeFrom Σ first

-- What `instance_of`, `split` and `cover` need: a typed case whose blocks are of W; a pattern for it, a free variable
-- of it, or patterns for it; and for the latter two the test of subordination of the signature and W. A goal has one
-- block variable at most: that of f b.x c.x X with X : bar b.x c.x may have no answer, since splits keep b and c apart.
-- And its local context quantifies only over what is below: from {v:d} {y:{u:d} a} q (Y v y), where d isn't below a,
-- the strategy's run may end at instances though the goal isn't covered, since a split by k : a -> c gives k (Z y),
-- over y alone, and k (y v) is lost (`LostUnderLocals`). So plus X Y _ may be handed in with plus-s and split at X, and
-- p X not with q-c : q X, nor split at a variable that it doesn't have.
pub record NumberedMatchedNeeds (Σ : Signature) (first : ℕ) (W : List Block) (C : NumberedCase) (p : Pattern) : Type 0 where
  pub setting : IsSetting Σ first W
  pub case : IsTypedNumberedCase Σ first W C
  pub pattern : IsFor Σ first W C p

pub record NumberedSplitNeeds (Σ : Signature) (first : ℕ) (W : List Block) (below : ℕ → ℕ → Bool) (C : NumberedCase) (x : ℕ) : Type 0 where
  pub setting : IsSetting Σ first W
  pub subordination : (f : ℕ) → IsBelowTest Σ W (below f) f
  pub case : IsTypedNumberedCase Σ first W C
  pub variable : (X : LfType) × TypeAt C.variables x X

pub record NumberedCoverNeeds (Σ : Signature) (first : ℕ) (W : List Block) (below : ℕ → ℕ → Bool) (ps : List Pattern) (goal : NumberedCase) : Type 0 where
  pub setting : IsSetting Σ first W
  pub subordination : (f : ℕ) → IsBelowTest Σ W (below f) f
  pub case : IsTypedNumberedCase Σ first W goal
  pub one_block : HasOneBlock goal
  pub locals_below : AllQuantifiersAreBelow below goal.local
  pub patterns : (p : Pattern) → Member p ps → IsFor Σ first W goal p

-- What `instance_of` answers of a case and a pattern. The case is an instance of the pattern; they share nothing; or it is no instance and the pattern meets
-- it, with these candidates or with none. So cp b.x b.x is an instance of the entry u : cp x x of {x:exp} {u:cp x x}, and apart from cp-app, whose first
-- argument is app E1 E2; X is the candidate of cp X _ for cp-app; and cp b.x c.x is stuck at u.
abbrev pub NumberedMatchedIs : Signature → ℕ → List Block → NumberedCase → Pattern → Matched → Type 0
NumberedMatchedIs Σ first W C p instance = IsInstanceOfPattern Σ first C p
NumberedMatchedIs Σ first W C p apart = IsApartByNumber Σ first W C p
NumberedMatchedIs Σ first W C p (candidates xs) = (IsInstanceOfPattern Σ first C p → ⊥) × MeetsByNumber Σ first W C p × (numbered_candidates first C p ≡ xs) × (xs ≡ [] → ⊥)
NumberedMatchedIs Σ first W C p stuck = (IsInstanceOfPattern Σ first C p → ⊥) × MeetsByNumber Σ first W C p × (numbered_candidates first C p ≡ [])

-- The listed cases are what unification over the signature with entries gives for the heads that are offered, in their order: each place in it is taken.
pub record ListsCases (Σ : Signature) (first : ℕ) (W : List Block) (below : ℕ → ℕ → Bool) (C : NumberedCase) (x : ℕ) (Cs : List NumberedCase) : Type 0 where
  pub unified : IsUnifiedByNumber Σ first W below C x Cs
  pub ranks : List (List ℕ)
  pub in_order : AreInNumberedOrder first W C unified.offers ranks
  pub every_rank : (o : NumberedOffer) (r : List ℕ) → IsOfferTo Σ first W C x unified.type o → HasNumberedRank first W C o r → Member r ranks

-- And where the families in the types of the variable's and the heads' arguments are below their own, one of them holds each tuple that the case holds, with
-- block variables apart, beside each self-contained set that has the variable's own family, and with the own family of an argument all those in its type. So
-- Y : {x:exp} bx may be split beside the set of bx alone.
pub record AreNumberedCasesOf (Σ : Signature) (first : ℕ) (W : List Block) (below : ℕ → ℕ → Bool) (C : NumberedCase) (x : ℕ) (Cs : List NumberedCase) : Type 0 where
  pub lists : ListsCases Σ first W below C x Cs
  pub holds : ArgumentsAreBelow below lists.unified.type → ((o : NumberedOffer) → IsOfferTo Σ first W C x lists.unified.type o → ArgumentsAreBelow below o.left) → (S : ℕ → Bool) → SelfContained Σ W S → TakesIn S lists.unified.type → IsNumberedSplit Σ first W S C Cs

-- What `split` answers of a case and one of its variables: cases; for a head an equation is left outside the pattern fragment, which is shown over the case
-- that the head is offered to, with the variables for the head's arguments; or something is deeper than 4,096. So p X in the worlds of {x:exp} {u:p x},
-- where exp has no constant, is split into p b.x. A metavariable of what is shown is the case's variable of this number,
-- where it has one, or else one that solving made. The side of the variable that is split stands on the left; the text
-- of a refusal shows it on the right, as the head's type is written first there.
pub data NumberedSplitAnswer : Type 0 where
  numbered_cases : List NumberedCase → NumberedSplitAnswer
  outside_over : NumberedCase → Equation → NumberedSplitAnswer
  split_too_deep : NumberedSplitAnswer

abbrev pub NumberedSplitIs : Signature → ℕ → List Block → (ℕ → ℕ → Bool) → NumberedCase → ℕ → NumberedSplitAnswer → Type 0
NumberedSplitIs Σ first W below C x (numbered_cases Cs) = AreNumberedCasesOf Σ first W below C x Cs
NumberedSplitIs Σ first W below C x (outside_over over shown) = SplitLeavesByNumber Σ first W below C x over shown
NumberedSplitIs Σ first W below C x split_too_deep = SplitIsTooDeepByNumber Σ first W below C x

-- The sets of families beside which a goal is to be covered: self-contained ones that hold each family in the types of the covered places, and in each local
-- type whose own family they hold.
pub record IsBesideByNumber (Σ : Signature) (W : List Block) (S : ℕ → Bool) (C : NumberedCase) : Type 0 where
  pub self_contained : SelfContained Σ W S
  pub kind : Kind
  pub of_family : Σ.kinds C.family ≡ Some kind
  pub places : PlacesIn S (covered_places C.arguments) kind
  pub locals : LocalsIn S C.local

-- What `cover` answers of a goal and a list of patterns: it is covered; the strategy reaches a case that is missing, that it can't split, or whose split
-- leaves an equation; or something that it reaches is too deep. Without the entry u, cp b.x _ is missing from cp X _.
pub data NumberedCoverAnswer : Type 0 where
  all_covered : NumberedCoverAnswer
  one_missing : NumberedCase → NumberedCoverAnswer
  one_unsplit : NumberedCase → NumberedCoverAnswer
  one_outside : NumberedCase → NumberedCase → Equation → NumberedCoverAnswer
  run_too_deep : NumberedCoverAnswer

abbrev pub NumberedCoverIs : Signature → ℕ → List Block → (ℕ → ℕ → Bool) → List Pattern → NumberedCase → NumberedCoverAnswer → Type 0
NumberedCoverIs Σ first W below ps goal all_covered = (S : ℕ → Bool) → IsBesideByNumber Σ W S goal → IsCoveredByNumber Σ first W S ps goal
NumberedCoverIs Σ first W below ps goal (one_missing D) = ReachedByNumber Σ first W below ps goal D × IsMissingByNumber Σ first W ps D
NumberedCoverIs Σ first W below ps goal (one_unsplit D) = ReachedByNumber Σ first W below ps goal D × IsUnsplitByNumber Σ first W ps D
NumberedCoverIs Σ first W below ps goal (one_outside D over shown) = RunLeavesByNumber Σ first W below ps goal D over shown
NumberedCoverIs Σ first W below ps goal run_too_deep = RunIsTooDeepByNumber Σ first W below ps goal

-- What `input_goal` needs: K is the kind of the family a, b tells of each place whether it is chosen, and the types of chosen places mention chosen places
-- only. So plus may be asked for at its first two places, and vec-copy : {N:nat} vec N -> type at both and not at its second alone.
pub record NumberedInputGoalNeeds (Σ : Signature) (first a : ℕ) (b : List Bool) (K : Kind) : Type 0 where
  pub signature : IsSignature Σ
  pub free : IsFreeFrom Σ first
  pub of_family : Σ.kinds a ≡ Some K
  pub chosen_only : MentionChosenOnly nothing b K

-- What `output_goal` needs of a subgoal A of a clause of the signature or of W, where U is ground before it: U holds what stands outside the clause, and the
-- variables in the types of its variables; the subgoal's inputs mention only what is in U; and its family has marks + and - alone, such that types of inputs
-- mention inputs only. So it is with plus X Y Z of plus-s, where X and Y are in U. With {N:nat} {F:nat -> nat} {V:vec (F N)} {Y:nat} r Y -> p (F N) V and V
-- alone in U there is no such goal of r Y: there are no typed values of what is ground, so its outputs need no covering (`OpenOutputsAreCovered`).
pub record NumberedOutputGoalNeeds (Σ : Signature) (first : ℕ) (W : List Block) (below : ℕ → ℕ → Bool) (m : ℕ → List Mark) {c : Clause} (o : Origin c) (U : ℕ → Bool) (A : LfType) (K : Kind) : Type 0 where
  pub setting : IsSetting Σ first W
  pub subordination : (f : ℕ) → IsBelowTest Σ W (below f) f
  pub clause : IsClause Σ W c
  pub is_origin : o ≡ origin clause
  pub outside_ground : Within (outside c.type everything) U
  pub ground_types : HoldsTypes U (scope c)
  pub index : ℕ
  pub subgoal : IsSubgoal c index A
  pub inputs_ground : UsesGoal U (input_places (m (target A))) A
  pub sound_marks : HasSoundMarks Σ (target A) (m (target A))
  pub two_marks : NoneFree (m (target A))
  pub of_family : Σ.kinds (target A) ≡ Some K

-- `input_goal` of a family of this kind and the chosen places; `output_goal` of a subgoal of a clause, where U is ground before it: for an entry its own
-- block variable has the number 0. The subgoal is the pattern that is to cover it.
abbrev pub NumberedInputGoalIs : ℕ → ℕ → List Bool → Kind → NumberedCase → Type 0
NumberedInputGoalIs first a b K C = C ≡ numbered first (input_goal a b K)

abbrev pub NumberedOutputGoalIs : ℕ → (ℕ → ℕ → Bool) → (ℕ → List Mark) → {c : Clause} → Origin c → (ℕ → Bool) → LfType → Kind → NumberedCase → Pattern → Type 0
NumberedOutputGoalIs first below m {c = c} o U A K C p = (C ≡ numbered_output_goal first below m o U A K) × (p ≡ subgoal_pattern c o A)
