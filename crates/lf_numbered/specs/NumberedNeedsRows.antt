-- Worked: what the calls by number accept with block variables, before and after a split, and for the outputs of an entry's subgoal.
use Rattle.std.specs.Prelude.{ℕ, [], ◌∷◌, Bool}
use Rattle.lf.specs.Subordination.{IsBelowTest}
use Rattle.lf_numbered.specs.EntryPatternsExamples.{Laters, asked, asked_goal, answered_case, later_worlds}
use Rattle.lf_numbered.specs.NumberedBesideLater.{second_goal}
use Rattle.lf_numbered.specs.NumberedCalls.{NumberedCoverNeeds, NumberedMatchedNeeds, NumberedSplitNeeds}
use Rattle.lf_numbered.specs.NumberedSplitsExamples.{Bare, entry_case, exp_block, has_head, open_case}

-- In the worlds of {x:exp} {u:p x} the goal p X may be handed in with u : p x, and split at X; so may p b.x, which the split gives, be handed to
-- `instance_of` with u, and be split at no variable.
abbrev pub OpenHasNeeds : Type 0
OpenHasNeeds = (below : ℕ → ℕ → Bool) → ((f : ℕ) → IsBelowTest Bare (exp_block ∷ []) (below f) f) → NumberedCoverNeeds Bare 2 (exp_block ∷ []) below (has_head ∷ []) open_case × NumberedSplitNeeds Bare 2 (exp_block ∷ []) below open_case 0 × NumberedMatchedNeeds Bare 2 (exp_block ∷ []) entry_case has_head × ((x : ℕ) → NumberedSplitNeeds Bare 2 (exp_block ∷ []) below entry_case x → ⊥)

-- The goal q N D of the outputs of v's subgoal q n D may be handed to `instance_of` with it, and so may q b.x b.w, where v's own block variable has come to
-- stand on b.x. With another block variable in front, so that v's own isn't that of number 0, it may not.
abbrev pub AskedHasNeeds : Type 0
AskedHasNeeds = NumberedMatchedNeeds Laters 4 later_worlds asked_goal asked × NumberedMatchedNeeds Laters 4 later_worlds answered_case asked × (NumberedMatchedNeeds Laters 4 later_worlds second_goal asked → ⊥)
