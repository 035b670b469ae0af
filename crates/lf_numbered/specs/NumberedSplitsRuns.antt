-- Runs of splits at each head of which unification over the signature with entries answers.
use Rattle.std.specs.Prelude.{◌≡◌, ℕ, List, [], ◌∷◌, Bool, true, Some}
use Rattle.lf.specs.Syntax.{LfType, Kind}
use Rattle.lf.specs.Typing.{Signature, IsSignature}
use Rattle.lf.specs.Variables.{target, binders, everything, Within}
use Rattle.lf.specs.Subordination.{Block, AreTypedBlocks, IsDeclared, Member, SelfContained}
use Rattle.lf_checks.specs.Below.{IsSubordination}
use Rattle.lf_checks.specs.Clause.{Clause, IsClause, IsSubgoal, outside, scope}
use Rattle.lf_checks.specs.Ground.{UsesGoal}
use Rattle.lf_checks.specs.Marks.{Mark, HasSoundMarks, NoneFree, input_places}
use Rattle.lf_checks.specs.Worlded.{IsSequence}
use Rattle.lf_cases.specs.Case.{Case}
use Rattle.lf_cases.specs.Cover.{CoveredOutputs}
use Rattle.lf_cases.specs.Pattern.{Pattern, IsCoveredCase, origin, subgoal_pattern}
use Rattle.lf_cases.specs.Raised.{PlacesBelow}
use Rattle.lf_cases.specs.Split.{HasOneBlockVariable, Ends}
use Rattle.lf_coverage.specs.Calls.{CoverIs, IsBeside, covered}
use Rattle.lf_coverage.specs.Heads.{IsTypedCase}
use Rattle.lf_coverage.specs.TypedLocal.{HasTypedLocal}
use Rattle.lf_numbered.specs.EntryConstants.{IsFreeFrom}
use Rattle.lf_numbered.specs.EntryPatternsOutputs.{numbered_output_goal}
use Rattle.lf_numbered.specs.EntryPatternsRuns.{IsCoveredByNumber, IsNumberedLeaf, HasOneBlock}
use Rattle.lf_numbered.specs.NumberedBeside.{TakesIn}
use Rattle.lf_numbered.specs.NumberedCase.{NumberedCase}
use Rattle.lf_numbered.specs.NumberedSplits.{IsAnsweredByNumber}
use Rattle.lf_numbered.specs.Numbering.{numbered}
use Rattle.lf_numbered.specs.TypedNumbered.{IsTypedNumberedCase}

-- A case is split so at one of its variables, of which it is known what it takes: its own family is in S, and with the own family of an argument all those
-- in the argument's type.
abbrev pub AnswersByNumber : Signature → ℕ → List Block → (ℕ → ℕ → Bool) → (ℕ → Bool) → NumberedCase → List NumberedCase → Type 0
AnswersByNumber Σ first W below S C Cs = (x : ℕ) × (sp : IsAnsweredByNumber Σ first W below C x Cs) × TakesIn S sp.type

-- Each case of such a split of a typed case is typed.
abbrev pub AnsweredByNumberStaysTyped : Type 0
AnsweredByNumberStaysTyped = (Σ : Signature) → IsSignature Σ → (W : List Block) → AreTypedBlocks Σ W → (below : ℕ → ℕ → Bool) (first : ℕ) → IsFreeFrom Σ first → (C : NumberedCase) → IsTypedNumberedCase Σ first W C → (x : ℕ) (Cs : List NumberedCase) → IsAnsweredByNumber Σ first W below C x Cs → (D : NumberedCase) → Member D Cs → IsTypedNumberedCase Σ first W D

-- So a run of such splits that ends at instances of patterns covers its goal, which is typed and has one block variable at most.
abbrev pub AnsweredByNumberCovers : Type 0
AnsweredByNumberCovers = (Σ : Signature) → IsSignature Σ → (W : List Block) → AreTypedBlocks Σ W → (below : ℕ → ℕ → Bool) → IsSubordination Σ W below → (S : ℕ → Bool) → SelfContained Σ W S → (first : ℕ) → IsFreeFrom Σ first → (ps : List Pattern) (C : NumberedCase) → IsTypedNumberedCase Σ first W C → HasOneBlock C → Ends (IsNumberedLeaf Σ first W ps) (AnswersByNumber Σ first W below S) C → IsCoveredByNumber Σ first W S ps C

-- And where it is run on the numbered form of a typed case, it covers the case: splits of cases with block variables, also those that get new ones.
abbrev pub AnsweredByNumberCoversCase : Type 0
AnsweredByNumberCoversCase = (Σ : Signature) → IsSignature Σ → (W : List Block) → AreTypedBlocks Σ W → (below : ℕ → ℕ → Bool) → IsSubordination Σ W below → (S : ℕ → Bool) → SelfContained Σ W S → (first : ℕ) → IsFreeFrom Σ first → (ps : List Pattern) (C : Case) → HasOneBlockVariable C.items → IsTypedCase Σ W C → HasTypedLocal Σ C → Ends (IsNumberedLeaf Σ first W ps) (AnswersByNumber Σ first W below S) (numbered first C) → IsCoveredCase Σ W S ps C

-- And so with each set beside which the goal is to be covered.
abbrev pub AnswersByNumberFor : Signature → ℕ → List Block → (ℕ → ℕ → Bool) → Case → NumberedCase → List NumberedCase → Type 0
AnswersByNumberFor Σ first W below goal C Cs = (x : ℕ) × (sp : IsAnsweredByNumber Σ first W below C x Cs) × ((S : ℕ → Bool) → IsBeside Σ W S goal → TakesIn S sp.type)

-- A run of these from a typed goal answers that it is covered.
abbrev pub AnsweredByNumberIsAnswer : Type 0
AnsweredByNumberIsAnswer = (Σ : Signature) → IsSignature Σ → (W : List Block) → AreTypedBlocks Σ W → (below : ℕ → ℕ → Bool) → IsSubordination Σ W below → (first : ℕ) → IsFreeFrom Σ first → (ps : List Pattern) (goal : Case) → HasOneBlockVariable goal.items → IsTypedCase Σ W goal → HasTypedLocal Σ goal → Ends (IsNumberedLeaf Σ first W ps) (AnswersByNumberFor Σ first W below goal) (numbered first goal) → CoverIs Σ W below ps goal covered

-- And the outputs of a clause's subgoal are covered where there is such a run for each way in which the clause comes, as an entry too.
abbrev pub AnsweredByNumberGivesOutputs : Type 0
AnsweredByNumberGivesOutputs = (Σ : Signature) → IsSignature Σ → (W : List Block) → AreTypedBlocks Σ W → (first : ℕ) → IsFreeFrom Σ first → (below : ℕ → ℕ → Bool) → IsSubordination Σ W below → (m : ℕ → List Mark) (f : ℕ) → IsDeclared Σ f → (c : Clause) → IsClause Σ W c → below f (target c.type) ≡ true → (U : ℕ → Bool) → Within (outside c.type everything) U → (i : ℕ) (A : LfType) → IsSubgoal c i A → IsSequence Σ W (scope c) (binders [] A) → UsesGoal U (input_places (m (target A))) A → HasSoundMarks Σ (target A) (m (target A)) → NoneFree (m (target A)) → (K : Kind) → Σ.kinds (target A) ≡ Some K → PlacesBelow Σ below f K → ((d : IsClause Σ W c) → Ends (IsNumberedLeaf Σ first W (subgoal_pattern c (origin d) A ∷ [])) (AnswersByNumber Σ first W below (below f)) (numbered_output_goal first below m (origin d) U A K)) → CoveredOutputs Σ m W (below f) c U A
