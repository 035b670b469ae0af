-- A whole run with a block: the inputs of copying, in the worlds of its block {x:exp} {u:cp x x}.
use Rattle.std.specs.Prelude.{◌≡◌, ℕ, List, [], ◌∷◌, Bool, true, Some, None, refl}
use Rattle.lf.specs.Subordination.{Block, Member, SelfContained}
use Rattle.lf_checks.specs.Marks.{input_places}
use Rattle.lf_cases.specs.Case.{Case, free_variable, input_goal}
use Rattle.lf_cases.specs.Pattern.{Pattern, of_constant, of_entry, head_pattern}
use Rattle.lf_cases.specs.Reached.{Reached}
use Rattle.lf_cases.specs.Split.{Ends}
use Rattle.lf_totality.specs.Examples.{Copying, application, block_case, copy_block, copy_entry, copy_heads, copying_marks, cp, cp_app, cp_kind, cp_lam, exp, first_below_second, var}
use Rattle.lf_totality.specs.ExamplesReached.{cp_lam_case}
use Rattle.lf_coverage.specs.Calls.{CoverIs, MatchedIs, SplitIs, cases, covered, instance, missing}
use Rattle.lf_coverage.specs.Heads.{IsHeadSplit, SplitsByHeads}
use Rattle.lf_coverage.specs.Leaf.{IsInstanceLeaf}
use Rattle.lf_coverage.specs.MeetStore.{IsOpen}

-- the worlds
abbrev pub copy_worlds : List Block
copy_worlds = copy_block ∷ []

-- The goal cp X _; and what a split of X gives: cp (lam E) _, cp (app M N) _, and cp b.x _ for a new block variable b, which is `block_case`.
abbrev pub copy_goal : Case
copy_goal = input_goal 1 (input_places (copying_marks 1)) cp_kind

abbrev pub copy_app_case : Case
copy_app_case = record { items = free_variable exp ∷ free_variable exp ∷ []; given = []; local = []; family = 1; arguments = Some (application (var 1) (var 0)) ∷ None ∷ [] }

abbrev pub copy_cases : List Case
copy_cases = cp_lam_case ∷ copy_app_case ∷ block_case ∷ []

-- Beside each self-contained set that holds exp each head gives its case: each instance of the goal that makes X the head is one of that case. Without the
-- entry of the block it is no split.
abbrev pub CopyIsSplitByHeads : Type 0
CopyIsSplitByHeads = ((S : ℕ → Bool) → SelfContained Copying copy_worlds S → S 0 ≡ true → IsHeadSplit Copying copy_worlds S first_below_second copy_goal 0 copy_cases) × (IsHeadSplit Copying copy_worlds (first_below_second 1) first_below_second copy_goal 0 (cp_lam_case ∷ copy_app_case ∷ []) → ⊥)

-- So these are the cases that are to be answered: each by a most general typed instance, and together they hold what the goal holds.
abbrev pub CopyCasesAreAnswer : Type 0
CopyCasesAreAnswer = SplitIs Copying copy_worlds first_below_second copy_goal 0 (cases copy_cases)

-- The heads of cp-lam, cp-app and the entry u.
abbrev pub copy_lam_head : Pattern
copy_lam_head = head_pattern cp_lam (of_constant cp_lam.type)

abbrev pub copy_app_head : Pattern
copy_app_head = head_pattern cp_app (of_constant cp_app.type)

abbrev pub copy_entry_head : Pattern
copy_entry_head = head_pattern copy_entry (of_entry copy_block [] (cp (var 0) (var 0)) (exp ∷ []) refl)

-- Each case is an instance of a clause, the third of the entry u; and the goal of none.
abbrev pub CopyCasesAreInstances : Type 0
CopyCasesAreInstances = MatchedIs Copying copy_worlds cp_lam_case copy_lam_head instance × MatchedIs Copying copy_worlds copy_app_case copy_app_head instance × MatchedIs Copying copy_worlds block_case copy_entry_head instance × ((p : Pattern) → Member p copy_heads → MatchedIs Copying copy_worlds copy_goal p instance → ⊥)

-- The strategy reaches each of them: X is the first candidate, by cp-lam.
abbrev pub CopyCasesAreReached : Type 0
CopyCasesAreReached = (C : Case) → Member C copy_cases → Reached Copying copy_worlds (IsOpen Copying) first_below_second copy_heads copy_goal C

-- So the run ends well, and the clauses cover the goal in these worlds, beside each set that the contract names.
abbrev pub CopyRunCovers : Type 0
CopyRunCovers = ((S : ℕ → Bool) → SelfContained Copying copy_worlds S → S 0 ≡ true → Ends (IsInstanceLeaf Copying copy_worlds copy_heads) (SplitsByHeads Copying copy_worlds S first_below_second) copy_goal) × CoverIs Copying copy_worlds first_below_second copy_heads copy_goal covered

-- Without the entry's clause cp b.x _ is missing.
abbrev pub CopyEntryIsMissing : Type 0
CopyEntryIsMissing = CoverIs Copying copy_worlds first_below_second (copy_lam_head ∷ copy_app_head ∷ []) copy_goal (missing block_case)
