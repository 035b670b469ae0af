-- The cases that the strategy of coverage reaches by number, and those at which it stops.
use Rattle.std.specs.Prelude.{◌≡◌, ℕ, zero, ◌+◌, ◌⊎◌, List, [], ◌∷◌, length, Bool, Option}
use Rattle.lf.specs.Substitution.{Image, keep}
use Rattle.lf.specs.Typing.{Signature}
use Rattle.lf.specs.Subordination.{Block, Member}
use Rattle.lf_unification.specs.Unifiers.{Equation}
use Rattle.lf_cases.specs.Candidates.{case_candidates}
use Rattle.lf_cases.specs.Case.{Case, Item, block_variable}
use Rattle.lf_cases.specs.OutputGoal.{free_variables}
use Rattle.lf_cases.specs.Pattern.{Pattern}
use Rattle.lf_cases.specs.Reached.{items_onto}
use Rattle.lf_numbered.specs.EntryPatterns.{IsInstanceOfPattern}
use Rattle.lf_numbered.specs.NumberedArguments.{read_over, read_all}
use Rattle.lf_numbered.specs.NumberedCallsMeeting.{IsApartByNumber}
use Rattle.lf_numbered.specs.NumberedCallsOutside.{IsDeepByNumber, IsSplitCaseByNumber, SplitLeavesByNumber, SplitIsTooDeepByNumber}
use Rattle.lf_numbered.specs.NumberedCallsStores.{MeetsByNumber}
use Rattle.lf_numbered.specs.NumberedCase.{NumberedCase}
use Rattle.lf_numbered.specs.NumberedInstance.{first_constant}
use Rattle.lf_numbered.specs.OwnTerms.{BlockVariable, blocks_of}
use Rattle.lf_numbered.specs.Reading.{entry_reading}
use Rattle.lf_numbered.specs.TypedNumbered.{IsTypedNumberedCase}

-- Block variables as items, that of the first number in front. Their terms don't count here.
abbrev pub block_items : List BlockVariable → List Item
block_items [] = []
block_items (b ∷ bs) = block_variable b.block keep ∷ block_items bs

-- what stands for the entries of block variables, where these are items
abbrev pub among_items : List Block → ℕ → ℕ → Image
among_items Bs k i = keep (first_constant zero Bs k + i)

-- The case with its entries as variables behind the free variables, on no terms. A pattern has entries and `some` variables as variables too, so the two
-- texts are compared place by place; the terms of a block variable aren't looked at.
abbrev pub with_entry_variables : ℕ → NumberedCase → Case
with_entry_variables first C =
    let f : ℕ → Option (ℕ × ℕ) = entry_reading first (blocks_of C.blocks) (among_items (blocks_of C.blocks)) (length C.variables) in
    record { items = items_onto (free_variables C.variables) (block_items C.blocks); given = read_all f C.given; local = C.local; family = C.family; arguments = read_all (read_over C.local f) C.arguments }

-- The candidates of a pattern in a case by number, each once: the free variables that stand where the pattern has a rigid head. So N is one of f (b.x N)
-- beside f (x (s Y)) for the entry x of b, also where b stands on N; and b.x isn't.
abbrev pub numbered_candidates : ℕ → NumberedCase → Pattern → List ℕ
numbered_candidates first C p = case_candidates (with_entry_variables first C) p

module _ (Σ : Signature) (first : ℕ) (W : List Block) where
  -- x is the first candidate of the case among the patterns of the list that meet it
  pub data FirstCandidateByNumber (C : NumberedCase) (x : ℕ) : List Pattern → Type 0 where
    numbered_first : {p : Pattern} {ps : List Pattern} (xs : List ℕ) → MeetsByNumber Σ first W C p → numbered_candidates first C p ≡ x ∷ xs → FirstCandidateByNumber C x (p ∷ ps)
    past_numbered_meeting : {p : Pattern} {ps : List Pattern} → MeetsByNumber Σ first W C p → numbered_candidates first C p ≡ [] → FirstCandidateByNumber C x ps → FirstCandidateByNumber C x (p ∷ ps)
    past_numbered_apart : {p : Pattern} {ps : List Pattern} → IsApartByNumber Σ first W C p → FirstCandidateByNumber C x ps → FirstCandidateByNumber C x (p ∷ ps)

  -- the case is an instance of no pattern of the list
  abbrev pub IsNoInstance : List Pattern → NumberedCase → Type 0
  IsNoInstance ps C = (p : Pattern) → Member p ps → IsInstanceOfPattern Σ first C p → ⊥

  -- The cases that the strategy reaches from the goal: the goal, and what the split of a case that is reached gives, at its first candidate, where that
  -- case is an instance of no pattern.
  pub data ReachedByNumber (below : ℕ → ℕ → Bool) (ps : List Pattern) (goal : NumberedCase) : NumberedCase → Type 0 where
    numbered_goal : ReachedByNumber below ps goal goal
    numbered_split : {C D : NumberedCase} (x : ℕ) → ReachedByNumber below ps goal C → IsNoInstance ps C → FirstCandidateByNumber C x ps → IsSplitCaseByNumber Σ first W below C x D → ReachedByNumber below ps goal D

  -- The strategy can't split the case: it is an instance of no pattern, a pattern meets it, and no pattern that meets it has a candidate.
  pub record IsUnsplitByNumber (ps : List Pattern) (C : NumberedCase) : Type 0 where
    pub no_instance : IsNoInstance ps C
    pub meeting : Pattern
    pub listed : Member meeting ps
    pub meets : MeetsByNumber Σ first W C meeting
    pub no_candidate : (p : Pattern) → Member p ps → (numbered_candidates first C p ≡ []) ⊎ IsApartByNumber Σ first W C p

  -- A missing case: a typed case that shares nothing with any pattern of the list.
  pub record IsMissingByNumber (ps : List Pattern) (C : NumberedCase) : Type 0 where
    pub typed : IsTypedNumberedCase Σ first W C
    pub apart : (p : Pattern) → Member p ps → IsApartByNumber Σ first W C p

  -- A run stops outside: it reaches the case C, an instance of no pattern, whose split at the first candidate leaves this equation over the case `over`.
  pub record RunLeavesByNumber (below : ℕ → ℕ → Bool) (ps : List Pattern) (goal C over : NumberedCase) (shown : Equation) : Type 0 where
    pub reached : ReachedByNumber below ps goal C
    pub no_instance : IsNoInstance ps C
    pub candidate : ℕ
    pub is_first : FirstCandidateByNumber C candidate ps
    pub leaves : SplitLeavesByNumber Σ first W below C candidate over shown

  -- A run is too deep: it reaches a deep case, or the split of a case that it reaches is too deep.
  pub data RunIsTooDeepByNumber (below : ℕ → ℕ → Bool) (ps : List Pattern) (goal : NumberedCase) : Type 0 where
    reaches_deep_case : (C : NumberedCase) → ReachedByNumber below ps goal C → IsDeepByNumber C → RunIsTooDeepByNumber below ps goal
    splits_deep_case : (C : NumberedCase) (x : ℕ) → ReachedByNumber below ps goal C → IsNoInstance ps C → FirstCandidateByNumber C x ps → SplitIsTooDeepByNumber Σ first W below C x → RunIsTooDeepByNumber below ps goal
