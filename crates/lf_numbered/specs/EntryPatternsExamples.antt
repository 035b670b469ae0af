-- Worked cases with block variables by number that are instances of entries: of copying; and a goal of outputs whose own block variable comes to stand
-- behind that of a split.
use Rattle.std.specs.Prelude.{◌≡◌, ℕ, zero, suc, List, [], ◌∷◌, Bool, true, false, Option, Some, None, refl}
use Rattle.lf.specs.Syntax.{constant, root, nil, app, LfType, Kind, pi, kind_pi, star, atom, base}
use Rattle.lf.specs.Substitution.{Image, keep, put}
use Rattle.lf.specs.AtOnce.{in_front}
use Rattle.lf.specs.Typing.{Signature}
use Rattle.lf.specs.Subordination.{Block, SelfContained}
use Rattle.lf_checks.specs.Clause.{Clause, entry_clause}
use Rattle.lf_checks.specs.Marks.{Mark, input, output}
use Rattle.lf_cases.specs.Cover.{before}
use Rattle.lf_cases.specs.OutputGoal.{output_goal}
use Rattle.lf_cases.specs.Pattern.{Origin, Pattern, of_entry, subgoal_pattern, IsCoveredCase}
use Rattle.lf_totality.specs.Examples.{Copying, application, copy_block, copy_heads, exp, first_below_second, on_two, var}
use Rattle.lf_totality.specs.ExamplesGroups.{on_one}
use Rattle.lf_cases.specs.Split.{Ends}
use Rattle.lf_coverage.specs.ExamplesCopying.{copy_app_head, copy_entry_head, copy_goal, copy_worlds}
use Rattle.lf_coverage.specs.ExamplesTwins.{Twins, alike, entry_alike, same_entry, twin_goal, twin_head, twin_worlds}
use Rattle.lf_coverage.specs.Matching.{MatchesByTerms, found_values}
use Rattle.lf_numbered.specs.EntryPatterns.{variable_images, IsInstanceOfPattern}
use Rattle.lf_numbered.specs.EntryPatternsMatching.{found_placed}
use Rattle.lf_numbered.specs.EntryPatternsSplits.{IsPutIn}
use Rattle.lf_numbered.specs.EntryPatternsRuns.{IsNumberedLeaf, IsNumberedSplit, IsCoveredByNumber}
use Rattle.lf_numbered.specs.ExamplesNumbered.{one_copy, two_copies}
use Rattle.lf_numbered.specs.NewBlock.{with_new_block}
use Rattle.lf_numbered.specs.NumberedCase.{NumberedCase}
use Rattle.lf_numbered.specs.Numbering.{numbered}
use Rattle.lf_numbered.specs.OwnStores.{as_case}

-- The case cp b.x b.x of a block variable b of {x:exp} {u:cp x x} is an instance of the entry u : cp x x, and a leaf; cp b.x c.x of two is none.
abbrev pub CopyIsInstance : Type 0
CopyIsInstance = IsNumberedLeaf Copying 4 copy_worlds copy_heads one_copy × IsInstanceOfPattern Copying 4 one_copy copy_entry_head × (IsInstanceOfPattern Copying 4 two_copies copy_entry_head → ⊥)

-- Families: exp = 0, t = 1, exp -> type, q = 2, {n:exp} t n -> type, and r = 3. No constants.
abbrev pub later_kinds : ℕ → Option Kind
later_kinds zero = Some star
later_kinds (suc zero) = Some (kind_pi exp star)
later_kinds (suc (suc zero)) = Some (kind_pi exp (kind_pi (on_one 1 (var 0)) star))
later_kinds (suc (suc (suc zero))) = Some star
later_kinds (suc (suc (suc (suc n)))) = None

abbrev pub Laters : Signature
Laters = record { types = λ c. None; kinds = later_kinds }

-- q +N -D
abbrev pub later_marks : ℕ → List Mark
later_marks (suc (suc zero)) = input ∷ output ∷ []
later_marks zero = []
later_marks (suc zero) = []
later_marks (suc (suc (suc n))) = []

-- some {n:exp} block {v:({D:t n} q n D -> r)}, and block {x:exp} {w:t x}
abbrev pub asking_entry : LfType
asking_entry = pi (on_one 1 (var 0)) (pi (on_two 2 (var 1) (var 0)) (atom 3 nil))

abbrev pub asking_block : Block
asking_block = record { label = 49 ∷ []; some = exp ∷ []; entries = asking_entry ∷ [] }

abbrev pub answering_block : Block
answering_block = record { label = 50 ∷ []; some = []; entries = on_one 1 (var 0) ∷ exp ∷ [] }

abbrev pub later_worlds : List Block
later_worlds = asking_block ∷ answering_block ∷ []

-- the subgoal q n D of v, of which n is ground
abbrev pub asking_clause : Clause
asking_clause = entry_clause asking_block [] asking_entry

abbrev pub asking_origin : Origin asking_clause
asking_origin = of_entry asking_block [] asking_entry [] refl

abbrev pub asked : Pattern
asked = subgoal_pattern asking_clause asking_origin (on_two 2 (var 2) (var 1))

abbrev pub ground_before : ℕ → Bool
ground_before zero = false
ground_before (suc zero) = false
ground_before (suc (suc n)) = true

-- The goal of its outputs, q N D for the block variable a on N, which has the number 0. From the number 4 on, a.v = 4.
abbrev pub asked_goal : NumberedCase
asked_goal = record { blocks = record { block = asking_block; terms = app (var 1) nil } ∷ []; variables = on_one 1 (var 0) ∷ exp ∷ []; given = None ∷ None ∷ []; local = []; family = 2; arguments = None ∷ Some (var 0) ∷ [] }

-- With the values of a split of D by the entry w of a new block variable b put in it is q b.x b.w, where a is on b.x. So a stands on the entry of the newer b, and among items it would come
-- behind it; it keeps the number 0. b.x = 5, b.w = 6.
abbrev pub answered_case : NumberedCase
answered_case = record { blocks = record { block = asking_block; terms = app (root (constant 5) nil) nil } ∷ record { block = answering_block; terms = nil } ∷ []; variables = []; given = None ∷ None ∷ []; local = []; family = 2; arguments = None ∷ Some (root (constant 6) nil) ∷ [] }

-- It is an instance of the subgoal for its own block variable, so a leaf.
abbrev pub LaterIsLeaf : Type 0
LaterIsLeaf = (numbered 4 (output_goal first_below_second later_marks asking_origin ground_before (on_two 2 (var 2) (var 1)) (kind_pi exp (kind_pi (on_one 1 (var 0)) star))) ≡ asked_goal) × IsNumberedLeaf Laters 4 later_worlds (asked ∷ []) answered_case

-- The run of two block variables that may be one instance, by number: its one leaf is check b.x b.x (alike b.x), and so u covers the goal.
abbrev pub TwinRunByNumber : Type 0
TwinRunByNumber = (S : ℕ → Bool) → SelfContained Twins twin_worlds S → S 0 ≡ true → S 1 ≡ true → Ends (IsNumberedLeaf Twins 3 twin_worlds (twin_head ∷ [])) (IsNumberedSplit Twins 3 twin_worlds S) (numbered 3 twin_goal) × IsCoveredCase Twins twin_worlds S (twin_head ∷ []) twin_goal

-- The run of copying, by number: each of its leaves by items is one by number.
abbrev pub CopyRunByNumber : Type 0
CopyRunByNumber = (S : ℕ → Bool) → SelfContained Copying copy_worlds S → S 0 ≡ true → Ends (IsNumberedLeaf Copying 4 copy_worlds copy_heads) (IsNumberedSplit Copying 4 copy_worlds S) (numbered 4 copy_goal)

-- Values put in: of check b.x b.x Z, Z by alike b.x; and of q N D with the new block variable b, N by b.x and D by b.w, which gives the case above.
abbrev pub alike_values : ℕ → Image
alike_values = in_front (put (base 1) (alike (root (constant 3) nil))) keep

abbrev pub answered_values : ℕ → Image
answered_values = in_front (put (base 1) (root (constant 6) nil)) (in_front (put (base 0) (root (constant 5) nil)) keep)

abbrev pub CasesArePutIn : Type 0
CasesArePutIn = IsPutIn (numbered 3 same_entry) (numbered 3 entry_alike) alike_values × IsPutIn (with_new_block answering_block asked_goal) answered_case answered_values

-- cp (app b.x b.x) _ matches the head of cp-app by terms: E1 is b.x. In q b.x b.w, beside the entry's subgoal q n D, matching finds b.w for D.
abbrev pub applied_copy : NumberedCase
applied_copy = record { blocks = record { block = copy_block; terms = nil } ∷ []; variables = []; given = []; local = []; family = 1; arguments = Some (application (root (constant 4) nil) (root (constant 4) nil)) ∷ None ∷ [] }

abbrev pub EntriesAreMatched : Type 0
EntriesAreMatched = MatchesByTerms (as_case applied_copy) copy_app_head × (found_values (as_case applied_copy) copy_app_head 5 ≡ put (base 0) (root (constant 4) nil)) × (found_placed answered_case asked (before [] (variable_images 4 answered_case.blocks 0 asking_block (app (root (constant 5) nil) nil))) 1 ≡ Some (root (constant 6) nil))

-- The goal q N D itself is an instance of the subgoal for its own block variable, though D's type mentions the block's n: so the subgoal covers it beside
-- each set.
abbrev pub LaterIsCovered : Type 0
LaterIsCovered = (S : ℕ → Bool) → IsCoveredByNumber Laters 4 later_worlds S (asked ∷ []) asked_goal
