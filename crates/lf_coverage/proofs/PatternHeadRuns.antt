-- Runs at each split of which the heads have patterns keep them.
use Rattle.std.proofs.Common.{ℕ, List, [], refl, sym, subst}
use Rattle.std.specs.Prelude.{Bool, Some}
use Rattle.lf.specs.Subordination.{Block, Member, AreTypedBlocks, IsBelowTest}
use Rattle.lf.specs.Typing.{Signature, IsSignature}
use Rattle.lf_checks.specs.Marks.{input_places}
use Rattle.lf_cases.specs.Case.{Case, input_goal, items_context}
use Rattle.lf_cases.specs.Reached.{SplitHead}
use Rattle.lf_cases.specs.Split.{HasNoBlockVariable}
use Rattle.lf_unification.specs.Dependency.{free_context}
use Rattle.lf_unification.specs.OpenTyping.{skeletons_of}
use Rattle.lf_coverage.specs.HeadOrder.{Offer}
use Rattle.lf_coverage.specs.Heads.{IsTypedCase}
use Rattle.lf_coverage.specs.PatternCases.{IsPatternCase}
use Rattle.lf_coverage.specs.PatternHeadRuns.{InputSplitsAreNeverStuck, InputSplitsHavePatterns, SplitsByPatterns, SplitsByPatternsKeepThem}
use Rattle.lf_coverage.specs.PatternSplits.{HeadHasPatterns}
use Rattle.lf_coverage.specs.Subordinate.{AllQuantifiersAreBelow}
use Rattle.lf_coverage.specs.SubordinateRuns.{ComesBy, comes_itself, comes_by_split}
use Rattle.lf_coverage.specs.UnifiedSplit.{HeadIsAnswered, AnswersEachHead}
use Rattle.lf_coverage.proofs.Listed.{offer_of_case}
use Rattle.lf_coverage.proofs.PatternCaseTests.{pattern_case_has_patterns}
use Rattle.lf_coverage.proofs.PatternRuns.{goal_patterns}
use Rattle.lf_coverage.proofs.PatternSplits.{split_case_is_pattern}
use Rattle.lf_coverage.proofs.SolvedCase.{free_without}
use Rattle.lf_coverage.proofs.StuckRuns.{input_run_is_never_stuck}
use Rattle.lf_coverage.proofs.Subordinate.{inputs_quantify_below}
use Rattle.lf_coverage.proofs.SubordinateRuns.{run_quantifies_below}
use Rattle.lf_coverage.proofs.TypedCases.{input_goal_is_typed_case}

-- unification answers in such a run
answered : (Σ : Signature) (W : List Block) (below : ℕ → ℕ → Bool) (goal D : Case) → ComesBy (SplitsByPatterns Σ W below) goal D → ComesBy (AnswersEachHead Σ W below) goal D
answered Σ W below goal D comes_itself = comes_itself
answered Σ W below goal D (comes_by_split {C = C} Cs r (x, s, p) m) = comes_by_split Cs (answered Σ W below goal C r) (x, s) m

module _ (Σ : Signature) (ok : IsSignature Σ) (W : List Block) (typed : AreTypedBlocks Σ W) (below : ℕ → ℕ → Bool) (test : (f : ℕ) → IsBelowTest Σ W (below f) f) where
  abbrev Kept : Case → Type 0
  Kept C = HasNoBlockVariable C.items × IsPatternCase Σ C

  split_kept : (C D : Case) (Cs : List Case) → IsTypedCase Σ W C → Kept C → SplitsByPatterns Σ W below C Cs → Member D Cs → Kept D
  split_kept C D Cs tc (nb, p) (x, sp, hp) m = let (h, k, a) = offer_of_case sp.listed D m in by h (sp.are_offers.each h k) (hp h k) a
    where
      by : (h : Offer) → SplitHead Σ W C.items sp.type h.items h.moved h.head h.type → HeadHasPatterns Σ below sp.type h.items h.moved h.type → HeadIsAnswered Σ below C x sp.type h (Some D) → Kept D
      by h sh hh a =
          let (after, s, e) = a.finds in
          subst Kept (sym e) (free_without (free_context (skeletons_of after.metavariables) s.well_formed.order), split_case_is_pattern Σ ok W below C tc p x sp.type sp.at h.items h.moved h.head h.type sh a.no_block a.kind a.of_family hh after s)

  module _ (goal : Case) (tg : IsTypedCase Σ W goal) (qg : AllQuantifiersAreBelow below (items_context goal.items)) where
    comes_kept : (D : Case) → Kept goal → ComesBy (SplitsByPatterns Σ W below) goal D → Kept D
    comes_kept D k comes_itself = k
    comes_kept D k (comes_by_split {C = C} Cs r s m) = split_kept C D Cs (run_quantifies_below Σ ok W typed below test goal tg qg C (answered Σ W below goal C r)).0 (comes_kept C k r) s m

pub splits_by_patterns_keep_them : SplitsByPatternsKeepThem
splits_by_patterns_keep_them Σ ok W typed below test goal tg qg nb p D r = (comes_kept Σ ok W typed below test goal tg qg D (nb, p) r).1

pub input_splits_have_patterns : InputSplitsHavePatterns
input_splits_have_patterns Σ ok W typed below test a m K e c t D r =
    let goal : Case = input_goal a m K in
    let (tg, hl, nb) = input_goal_is_typed_case Σ ok W typed a m K e c in
    let qg : AllQuantifiersAreBelow below (items_context goal.items) = inputs_quantify_below Σ W below test a m K e in
    let p : IsPatternCase Σ goal = record { no_local = refl; types = t; arguments = goal_patterns Σ ok W typed m K (λ i. i) [] } in
    let (nd, pd) = comes_kept Σ ok W typed below test goal tg qg D (nb, p) r in
    pattern_case_has_patterns Σ W D nd (run_quantifies_below Σ ok W typed below test goal tg qg D (answered Σ W below goal D r)).0 pd

pub input_splits_are_never_stuck : InputSplitsAreNeverStuck
input_splits_are_never_stuck Σ ok below test m a K e c ps hs t D r = input_run_is_never_stuck Σ ok below test m a K e c ps hs D (answered Σ [] below (input_goal a (input_places (m a)) K) D r) (input_splits_have_patterns Σ ok [] (λ B k. absurd k) below test a (input_places (m a)) K e c t D r)
