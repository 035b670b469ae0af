-- Worked answers of `cover`, and the inputs and outputs that they cover.
use Rattle.std.proofs.Common.{◌≡◌, ℕ, zero, suc, [], ◌∷◌, inl, inr, refl, sym, subst}
use Rattle.std.specs.Prelude.{Bool, true, false}
use Rattle.lf.specs.Substitution.{keep}
use Rattle.lf.specs.Variables.{onto}
use Rattle.lf.specs.Subordination.{IsBelowTest, Member}
use Rattle.lf.proofs.Decidability.{variable_type_unique}
use Rattle.lf_checks.specs.Clause.{IsClause, from_entry}
use Rattle.lf_checks.specs.Ground.{ground_first}
use Rattle.lf_checks.specs.Worlded.{no_instance}
use Rattle.lf_cases.specs.Cover.{AreTerms}
use Rattle.lf_cases.specs.Pattern.{Pattern, ground_in, head_pattern, of_constant, origin}
use Rattle.lf_cases.specs.Split.{at_leaf, by_split, next_case, no_case}
use Rattle.lf_totality.specs.Examples.{Addition, addition_marks, first_below_second, nat, plus_heads, plus_input_goal, plus_kind, plus_s, plus_z}
use Rattle.lf_coverage.specs.Calls.{PlacesIn, instance}
use Rattle.lf_numbered.specs.CoveredAnswerExamples.{EntryAnswerGivesOutputs, PlusAnswerGivesInputs}
use Rattle.lf_numbered.specs.CoveredAnswerGives.{OutputGoalIsCovered}
use Rattle.lf_numbered.specs.EntryPatternsExamples.{Laters, asked_goal, asking_block, asking_clause, asking_entry, asking_origin, ground_before, later_marks, later_worlds}
use Rattle.lf_numbered.specs.EntryTerms.{MatchesByNumber, own_values}
use Rattle.lf_numbered.specs.NumberedBeside.{TakesIn}
use Rattle.lf_numbered.specs.NumberedBesideLater.{asked_kind, asked_type}
use Rattle.lf_numbered.specs.NumberedCalls.{NumberedCoverIs, NumberedCoverNeeds, NumberedMatchedIs, NumberedOutputGoalNeeds, NumberedSplitNeeds, all_covered}
use Rattle.lf_numbered.specs.NumberedCallsLaws.{AnswersForGoal}
use Rattle.lf_numbered.specs.NumberedCase.{NumberedCase}
use Rattle.lf_numbered.specs.Numbering.{numbered}
use Rattle.lf_numbered.specs.OnlyExamples.{successor_case, zero_case}
use Rattle.lf_numbered.proofs.CoveredAnswerGives.{covered_answer_gives_inputs, covered_answer_gives_outputs}
use Rattle.lf_numbered.proofs.EntryPatternsGoals.{blocks, free, goal_leaf, ok}
use Rattle.lf_numbered.proofs.EntryPatternsLeaf.{numbered_leaf_is_covered}
use Rattle.lf_coverage.proofs.ExamplesSubordinate.{addition_is_tested}
use Rattle.lf_numbered.proofs.NeededRunsExamples.{matches as successor_matches}
use Rattle.lf_numbered.proofs.NumberedBeside.{unified_by_number_is_answered}
use Rattle.lf_numbered.proofs.NumberedBesideLaterRuns.{all_outside, comes_once, ground_closed, other_leaf, the_pattern}
use Rattle.lf_numbered.proofs.NumberedNeedsDecided.{needed_instance_is_decided}
use Rattle.lf_numbered.proofs.NumberedNeedsLaws.{needed_run_is_covered, needed_split_is_answer}
use Rattle.lf_numbered.proofs.NumberedNeedsPlus.{addition_setting, plus_clauses, plus_has_needs}
use Rattle.lf_numbered.proofs.NumberedNeedsSplits.{listed_keep_needs}
use Rattle.lf_numbered.proofs.OnlyExamples.{zero_comes_first}
use Rattle.lf_coverage.proofs.Parts.{some_same}

-- plus X Y _
abbrev goal : NumberedCase
goal = numbered 4 plus_input_goal

needs : NumberedCoverNeeds Addition 4 [] first_below_second plus_heads goal
needs = plus_has_needs.0

-- It is split at X, whose family is in each set beside which it is to be covered.
split : AnswersForGoal Addition 4 [] first_below_second goal goal (zero_case ∷ successor_case ∷ [])
split =
    let ((a, t), r) = unified_by_number_is_answered Addition needs.setting.signature [] needs.setting.blocks first_below_second addition_is_tested (λ B m. absurd m) 4 needs.setting.free goal needs.case (tt, (tt, tt)) 1 (zero_case ∷ successor_case ∷ []) zero_comes_first.0.unified in
    let same : nat ≡ a.type = variable_type_unique goal.variables 1 nat a.type (nat, refl, refl) a.at in
    (1, a, λ S b. subst (TakesIn S) same (subst (λ K. PlacesIn S (true ∷ true ∷ false ∷ []) K) (sym (some_same b.of_family)) b.places).0)

abbrev zero_head : Pattern
zero_head = head_pattern plus_z (of_constant plus_z.type)

abbrev successor_head : Pattern
successor_head = head_pattern plus_s (of_constant plus_s.type)

-- plus z Y _ is an instance of plus-z.
zero_matches : MatchesByNumber 4 zero_case zero_head
zero_matches = (keep, refl, ((tt, ((refl, tt), tt)), terms, (refl, (refl, tt))))
  where
    terms : AreTerms plus_z (ground_in zero_head (true ∷ true ∷ false ∷ []) []) (own_values zero_case zero_head keep)
    terms zero o u = tt
    terms (suc i) o u = absurd cc

is_instance : (D : NumberedCase) → Member D (zero_case ∷ successor_case ∷ []) → (p : Pattern) → Member p plus_heads → MatchesByNumber 4 D p → NumberedMatchedIs Addition 4 [] D p instance
is_instance D m p l f =
    let s : NumberedSplitNeeds Addition 4 [] first_below_second goal 1 = record { setting = needs.setting; subordination = needs.subordination; case = needs.case; variable = (_, zero_comes_first.0.unified.at) } in
    (needed_instance_is_decided Addition 4 [] D p (listed_keep_needs Addition 4 [] first_below_second goal 1 s (zero_case ∷ successor_case ∷ []) (needed_split_is_answer Addition 4 [] first_below_second goal 1 s (zero_case ∷ successor_case ∷ []) zero_comes_first.0) D m p (needs.patterns p l))).0.1 f

pub plus_answer : NumberedCoverIs Addition 4 [] first_below_second plus_heads goal all_covered
plus_answer =
    needed_run_is_covered Addition 4 [] first_below_second plus_heads goal needs (by_split (zero_case ∷ successor_case ∷ []) split
    (next_case (at_leaf (zero_head, inl refl, is_instance zero_case (inl refl) zero_head (inl refl) zero_matches))
    (next_case (at_leaf (successor_head, inr (inl refl), is_instance successor_case (inr (inl refl)) successor_head (inr (inl refl)) successor_matches)) no_case)))

pub plus_answer_gives_inputs : PlusAnswerGivesInputs
plus_answer_gives_inputs = (
  plus_answer,
  covered_answer_gives_inputs Addition 4 [] addition_setting first_below_second addition_is_tested addition_marks 1 plus_kind (record { signature = addition_setting.signature; free = addition_setting.free; of_family = refl; chosen_only = (tt, (tt, tt)) }) goal refl plus_heads plus_clauses plus_answer,
)

-- The goal of v, by its one way.
at_entry : (below : ℕ → ℕ → Bool) (e : onto [] (asking_entry ∷ []) ≡ asking_block.entries) → NumberedCoverIs Laters 4 later_worlds below (the_pattern e ∷ []) asked_goal all_covered
at_entry below e S b = numbered_leaf_is_covered Laters ok later_worlds blocks S 4 free (the_pattern e ∷ []) asked_goal (other_leaf e asked_goal goal_leaf)

entry_answer : (below : ℕ → ℕ → Bool) (d : IsClause Laters later_worlds asking_clause) → OutputGoalIsCovered Laters 4 later_worlds below later_marks (origin d) ground_before asked_type asked_kind
entry_answer below = comes_once (λ c d. OutputGoalIsCovered Laters 4 later_worlds below later_marks (origin d) ground_before asked_type asked_kind) (λ i e. (asked_goal, the_pattern e, (refl, refl), at_entry below e))

-- The same with what the inputs of the head make ground.
pub entry_answer_first : (below : ℕ → ℕ → Bool) (d : IsClause Laters later_worlds asking_clause) → OutputGoalIsCovered Laters 4 later_worlds below later_marks (origin d) (ground_first later_marks asking_clause) asked_type asked_kind
entry_answer_first below = comes_once (λ c d. OutputGoalIsCovered Laters 4 later_worlds below later_marks (origin d) (ground_first later_marks asking_clause) asked_type asked_kind) (λ i e. (asked_goal, the_pattern e, (refl, refl), at_entry below e))

entry_needs : (below : ℕ → ℕ → Bool) → ((f : ℕ) → IsBelowTest Laters later_worlds (below f) f) → NumberedOutputGoalNeeds Laters 4 later_worlds below later_marks asking_origin ground_before asked_type asked_kind
entry_needs below test = record {
  setting = record { signature = ok; blocks = blocks; free = free };
  subordination = test;
  clause = from_entry asking_block [] asking_entry [] (inl refl) refl;
  is_origin = refl;
  outside_ground = all_outside;
  ground_types = ground_closed;
  index = 0;
  subgoal = (refl, refl);
  inputs_ground = ((refl, tt), tt);
  sound_marks = (asked_kind, refl, (tt, tt));
  two_marks = tt;
  of_family = refl;
}

pub entry_answer_gives_outputs : EntryAnswerGivesOutputs
entry_answer_gives_outputs below test = (entry_answer below, covered_answer_gives_outputs Laters 4 later_worlds below later_marks asking_clause asking_origin ground_before asked_type asked_kind (entry_needs below test) no_instance (entry_answer below))
