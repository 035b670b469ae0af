-- Worked cases of runs by number that matching by terms decides.
use Rattle.std.proofs.Common.{◌≡◌, ℕ, zero, suc, [], ◌∷◌, inl, refl, subst}
use Rattle.std.specs.Prelude.{true, false, Some}
use Rattle.lf.specs.Syntax.{constant, root, nil, app, Spine, kind_pi, star}
use Rattle.lf.specs.Substitution.{Image}
use Rattle.lf_checks.specs.Clause.{from_entry, outside}
use Rattle.lf.specs.Variables.{everything}
use Rattle.lf_cases.specs.Case.{covered_places}
use Rattle.lf_cases.specs.Cover.{before, AreTerms}
use Rattle.lf_cases.specs.Pattern.{ground_in, is_given}
use Rattle.lf_totality.specs.Examples.{exp, first_below_second, var}
use Rattle.lf_numbered.specs.EntryPatterns.{variable_images}
use Rattle.lf_numbered.specs.EntryPatternsExamples.{Laters, answered_case, asked, asked_goal, asking_block, asking_clause, later_worlds}
use Rattle.lf_numbered.specs.EntryTerms.{MatchesByNumber, MatchesWith, own_values}
use Rattle.lf_numbered.specs.EntryTermsExamples.{Pairs, open_entry, open_head, pair_block, pair_entry, pair_worlds}
use Rattle.lf_numbered.specs.EntryTermsRunsExamples.{AnsweredIsDecided, PairGoalIsDecided, pair_goal}
use Rattle.lf_numbered.specs.NewBlock.{with_new_block}
use Rattle.lf_numbered.specs.NumberedInstance.{block_at}
use Rattle.lf_numbered.specs.OwnStores.{no_split, then_block}
use Rattle.lf_numbered.proofs.EntryPatternsGoals.{ok, blocks, free}
use Rattle.lf_numbered.proofs.EntryTermsExamples.{pairs_ok, pairs_typed, pairs_free}
use Rattle.lf_numbered.proofs.EntryTermsExamplesGoal.{asked_typed}
use Rattle.lf_numbered.proofs.EntryTermsRuns.{input_run_is_decided, beside_run_is_decided}
use Rattle.lf_numbered.proofs.NumberedBesideLater.{asked_comes}
use Rattle.lf_numbered.proofs.NumberedBesideLaterRuns.{asked_is_beside_goal}

abbrev on_five : ℕ → Image
on_five = before [] (variable_images 4 answered_case.blocks 0 asking_block (app (root (constant 5) nil) nil))

answered_match : MatchesByNumber 4 answered_case asked
answered_match = (on_five, (0, app (root (constant 5) nil) nil, refl, (λ e. refl), refl), (((refl, tt), tt), terms, (refl, tt)))
  where
    terms : AreTerms asking_clause (ground_in asked (covered_places answered_case.arguments) answered_case.given) (own_values answered_case asked on_five)
    terms zero o u = absurd cc
    terms (suc zero) o u = tt
    terms (suc (suc i)) o u = absurd cc

pub answered_is_decided : AnsweredIsDecided
answered_is_decided = (asked_comes, (beside_run_is_decided Laters ok later_worlds blocks 4 free first_below_second asked asked_typed refl asked_goal asked_is_beside_goal answered_case (asked_comes first_below_second) own ((refl, tt), tt)).0.1 answered_match)
  where
    own : (i : ℕ) → is_given answered_case.given i ≡ true → outside asking_clause.type everything i ≡ false
    own zero e = absurd cc
    own (suc zero) e = absurd cc
    own (suc (suc i)) e = absurd cc

none_match : MatchesByNumber 2 pair_goal open_head → ⊥
none_match (φ, (k, U, e, n, r), m) = absurd cc

new_match : MatchesByNumber 2 (with_new_block pair_block pair_goal) open_head → ⊥
new_match (φ, (k, U, e, n, r), m) = by k U e r m
  where
    apart : (T : Spine) → var 1 ≡ root (constant 2) T → ⊥
    apart T e = cc

    by : (k : ℕ) (U : Spine) → block_at (with_new_block pair_block pair_goal).blocks k ≡ Some (record { block = pair_block; terms = U }) → φ ≡ before [] (variable_images 2 (with_new_block pair_block pair_goal).blocks k pair_block U) → MatchesWith (with_new_block pair_block pair_goal) open_head φ → ⊥
    by zero U e r m = apart _ (subst (MatchesWith (with_new_block pair_block pair_goal) open_head) r m).2.1.0
    by (suc k) U e r m = absurd cc

pub pair_goal_is_decided : PairGoalIsDecided
pair_goal_is_decided = (
  λ h. none_match ((input_run_is_decided Pairs pairs_ok pair_worlds pairs_typed 2 pairs_free first_below_second 1 (true ∷ true ∷ []) (kind_pi exp (kind_pi exp star)) refl (tt, (tt, tt)) pair_goal no_split _ (from_entry pair_block [] open_entry (pair_entry ∷ exp ∷ []) (inl refl) refl) refl).0.0 h),
  λ h. new_match ((input_run_is_decided Pairs pairs_ok pair_worlds pairs_typed 2 pairs_free first_below_second 1 (true ∷ true ∷ []) (kind_pi exp (kind_pi exp star)) refl (tt, (tt, tt)) (with_new_block pair_block pair_goal) (then_block pair_block no_split (inl refl)) _ (from_entry pair_block [] open_entry (pair_entry ∷ exp ∷ []) (inl refl) refl) refl).0.0 h),
)
