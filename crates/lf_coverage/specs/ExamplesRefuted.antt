-- A number beside a proof that a set of families doesn't hold: the split of the number is complete beside that set.
use Rattle.std.specs.Prelude.{◌≡◌, List, [], ◌∷◌, Some, None}
use Rattle.lf.specs.Syntax.{constant, star}
use Rattle.lf.specs.Variables.{same_number, FamiliesIn}
use Rattle.lf_unification.specs.Steps.{CanRefute}
use Rattle.lf_cases.specs.Candidates.{case_candidates}
use Rattle.lf_cases.specs.Case.{Item, free_variable, Case, items_context}
use Rattle.lf_cases.specs.Split.{Ends}
use Rattle.lf_totality.specs.Examples.{Addition, nat, z, successor, var, on_three, first_below_second, plus_heads, plus_input_goal}
use Rattle.lf_totality.specs.ExamplesBlocks.{Numbered, a_z}
use Rattle.lf_totality.specs.ExamplesGroups.{on_one, one_kind}
use Rattle.lf_totality.specs.ExamplesSplits.{successor_items}
use Rattle.lf_coverage.specs.Calls.{SplitIs, cases}
use Rattle.lf_coverage.specs.CandidateRuns.{within, RefutesCandidate}
use Rattle.lf_coverage.specs.ExamplesMatching.{plus_z_head}
use Rattle.lf_coverage.specs.ExamplesSubordinate.{of_sum}
use Rattle.lf_coverage.specs.ExamplesTyped.{plus_s_head}
use Rattle.lf_coverage.specs.Subordinate.{AllQuantifiersAreBelow}
use Rattle.lf_coverage.specs.Leaf.{IsInstanceLeaf}
use Rattle.lf_coverage.specs.RefutedSplits.{IsRefutedSplit}
use Rattle.lf_coverage.specs.SplitStore.{AllFamiliesIn, split_store}

-- V : plus z z z is given, and N : nat is an output
abbrev pub kept_items : List Item
kept_items = free_variable nat ∷ free_variable (on_three 1 z z z) ∷ []

abbrev pub kept_case : Case
kept_case = record { items = kept_items; given = Some (var 1) ∷ []; local = []; family = 1; arguments = None ∷ None ∷ Some (var 0) ∷ [] }

abbrev pub kept_zero_case : Case
kept_zero_case = record { items = free_variable (on_three 1 z z z) ∷ []; given = Some (var 0) ∷ []; local = []; family = 1; arguments = None ∷ None ∷ Some z ∷ [] }

abbrev pub kept_successor_case : Case
kept_successor_case = record { items = free_variable nat ∷ free_variable (on_three 1 z z z) ∷ []; given = Some (var 1) ∷ []; local = []; family = 1; arguments = None ∷ None ∷ Some (successor (var 0)) ∷ [] }

-- N is split by z and by s. The set {nat} holds the families of its type, and not those of V; so V may be a constant of an extension over it.
abbrev pub KeptIsSplit : Type 0
KeptIsSplit = IsRefutedSplit Addition [] first_below_second kept_case 0 (kept_zero_case ∷ kept_successor_case ∷ []) × SplitIs Addition [] first_below_second kept_case 0 (cases (kept_zero_case ∷ kept_successor_case ∷ [])) × FamiliesIn (same_number 0) nat × (AllFamiliesIn (same_number 0) (items_context kept_case.items) → ⊥)

-- s X = z stands second; one step takes it first, and its heads differ. The store of N = z is never refuted: it is solved.
abbrev pub SuccessorIsRefuted : Type 0
SuccessorIsRefuted = CanRefute Numbered (split_store first_below_second 0 (on_one 2 (successor (var 1))) successor_items 0 (constant 2) a_z.type one_kind) × (CanRefute Addition (split_store first_below_second 0 nat kept_items 0 (constant 0) nat star) → ⊥)

-- X is a candidate of plus X Y _ for plus-z, and Y isn't. The run that splits X ends at instances of plus-z and plus-s.
abbrev pub PlusRunIsAtCandidate : Type 0
PlusRunIsAtCandidate = (case_candidates plus_input_goal (plus_z_head) ≡ 1 ∷ []) × Ends (IsInstanceLeaf Addition [] plus_heads) (RefutesCandidate Addition [] first_below_second plus_heads) plus_input_goal

-- Beside plus-s, for whose last variable V is given, N is the one candidate; the case isn't typed beside it, since nothing is given for X, Y and Z. The set {nat} holds what is quantified over its families in the
-- types of N and V; not in {u:plus z z z} nat.
abbrev pub KeptIsWithin : Type 0
KeptIsWithin = (case_candidates kept_case (plus_s_head) ≡ 0 ∷ []) × AllQuantifiersAreBelow (within (same_number 0)) (items_context kept_case.items) × (AllQuantifiersAreBelow (within (same_number 0)) (of_sum ∷ []) → ⊥)
