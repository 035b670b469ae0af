-- Worked needs of the calls by number, with block variables.
use Rattle.std.proofs.Common.{◌≡◌, ℕ, zero, suc, [], ◌∷◌, inl, inr, refl, ap}
use Rattle.std.specs.Prelude.{true, false, ◌⊎◌}
use Rattle.lf.specs.Syntax.{variable, root, nil, kind_pi, star}
use Rattle.lf.specs.Variables.{everything}
use Rattle.lf_checks.specs.Clause.{from_entry, outside}
use Rattle.lf_cases.specs.Pattern.{AreHeadsOf, Pattern, is_given}
use Rattle.lf_coverage.specs.Leaf.{IsTypedPattern}
use Rattle.lf_coverage.proofs.Leaves.{subgoal_is_typed}
use Rattle.lf_numbered.specs.EntryPatternsExamples.{Laters, answered_case, asked, asked_goal, asking_block, asking_clause, asking_entry, later_worlds}
use Rattle.lf_numbered.specs.NumberedBesideLater.{asked_type, second_goal}
use Rattle.lf_numbered.specs.NumberedCalls.{IsFor, IsHeadFor, IsSetting, IsSubgoalFor, NumberedCoverNeeds, NumberedSplitNeeds}
use Rattle.lf_numbered.specs.NumberedNeeds.{AreTypedHeads}
use Rattle.lf_numbered.specs.NumberedNeedsRows.{AskedHasNeeds, OpenHasNeeds}
use Rattle.lf_numbered.specs.NumberedSplitsExamples.{Bare, exp, exp_block, has, has_entry, has_head, open_case, entry_case}
use Rattle.lf_numbered.proofs.EntryPatternsGoals.{blocks as later_blocks, free as later_free, ok as laters_ok}
use Rattle.lf_numbered.proofs.NumberedBesideLaterRuns.{answered_is_beside, asked_is_beside}
use Rattle.lf_numbered.proofs.NumberedCallsOpen.{open_gives_entry}
use Rattle.lf_numbered.proofs.NumberedNeedsFor.{subgoal_is_for}
use Rattle.lf_numbered.proofs.NumberedNeedsGoals.{clause_heads_are_typed, input_goal_has_needs}
use Rattle.lf_numbered.proofs.NumberedNeedsSplits.{split_keeps_needs}
use Rattle.lf_numbered.proofs.NumberedSplitsExamples.{bare_ok, blocks_typed, free}

-- p X and p b.x
bare_setting : IsSetting Bare 2 (exp_block ∷ [])
bare_setting = record { signature = bare_ok; blocks = blocks_typed; free = free }

only_u : AreTypedHeads Bare 1 (has_head ∷ [])
only_u = clause_heads_are_typed Bare bare_ok (exp_block ∷ []) blocks_typed 1 (has_head ∷ []) heads
  where
    heads : AreHeadsOf Bare (exp_block ∷ []) 1 (has_head ∷ [])
    heads p (inl e) = (has_entry, from_entry exp_block [] (has (root (variable 0) nil)) (exp ∷ []) (inl refl) refl, refl, e)
    heads p (inr m) = absurd m

pub open_has_needs : OpenHasNeeds
open_has_needs below test =
    let n : NumberedCoverNeeds Bare 2 (exp_block ∷ []) below (has_head ∷ []) open_case = input_goal_has_needs Bare 2 (exp_block ∷ []) bare_setting below test 1 (true ∷ []) (kind_pi exp star) (record { signature = bare_ok; free = free; of_family = refl; chosen_only = (tt, tt) }) open_case refl (has_head ∷ []) only_u in
    let s : NumberedSplitNeeds Bare 2 (exp_block ∷ []) below open_case 0 = record { setting = bare_setting; subordination = test; case = n.case; variable = (exp, refl) } in
    (n, s, split_keeps_needs Bare 2 (exp_block ∷ []) below open_case 0 s entry_case (open_gives_entry below) has_head (n.patterns has_head (inl refl)), λ x m. m.variable.1)

-- q N D and q b.x b.w
later_setting : IsSetting Laters 4 later_worlds
later_setting = record { signature = laters_ok; blocks = later_blocks; free = later_free }

asked_typed : IsTypedPattern Laters asked
asked_typed = subgoal_is_typed Laters laters_ok later_worlds later_blocks asking_clause (from_entry asking_block [] asking_entry [] (inl refl) refl) 0 asked_type (refl, refl)

none_given : (i : ℕ) → is_given asked_goal.given i ≡ true → outside asking_clause.type everything i ≡ false
none_given zero e = absurd cc
none_given (suc zero) e = absurd cc
none_given (suc (suc i)) e = absurd cc

goal_for : IsFor Laters 4 later_worlds asked_goal asked
goal_for = subgoal_is_for Laters 4 later_worlds later_blocks asked_goal asked asked_typed none_given (record { at_first = refl; typed_beside = asked_is_beside.0; known_places = ((refl, tt), tt) })

answered_for : IsFor Laters 4 later_worlds answered_case asked
answered_for = subgoal_is_for Laters 4 later_worlds later_blocks answered_case asked asked_typed none_given (record { at_first = refl; typed_beside = answered_is_beside.1; known_places = ((refl, tt), tt) })

pub asked_has_needs : AskedHasNeeds
asked_has_needs = (record { setting = later_setting; case = asked_is_beside.0.typed; pattern = goal_for }, record { setting = later_setting; case = answered_is_beside.1.typed; pattern = answered_for }, λ n. refused n.pattern.beside)
  where
    turned : true ≡ false → ⊥
    turned e = cc

    refused : IsHeadFor Laters 4 second_goal asked ⊎ IsSubgoalFor Laters 4 later_worlds second_goal asked → ⊥
    refused (inl h) = turned (ap (λ (r : Pattern). r.at_first) h.is_head)
    refused (inr s) = asked_is_beside.2 s.typed_beside
