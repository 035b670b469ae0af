-- The run of copying, by number.
use Rattle.std.proofs.Common.{inl, inr, refl, sym, subst}
use Rattle.lf.specs.Subordination.{Member}
use Rattle.lf_cases.specs.Case.{Case}
use Rattle.lf_cases.specs.Split.{at_leaf, by_split, next_case, no_case}
use Rattle.lf_totality.specs.Examples.{Copying, block_case, copy_heads, first_below_second}
use Rattle.lf_totality.specs.ExamplesReached.{cp_lam_case}
use Rattle.lf_totality.proofs.Copying.{copying_ok}
use Rattle.lf_coverage.specs.ExamplesCopying.{copy_app_case, copy_cases, copy_goal, copy_worlds}
use Rattle.lf_coverage.proofs.ExamplesCopying.{copy_split}
use Rattle.lf_coverage.proofs.ExamplesCopyingRun.{app_leaf, entry_leaf, lam_leaf, leaves_are_of_heads}
use Rattle.lf_coverage.proofs.ExamplesCopyingSplit.{copy_subordination, copy_typed, goal_typed}
use Rattle.lf_coverage.proofs.ItemsContext.{items_are_context}
use Rattle.lf_numbered.specs.EntryPatternsExamples.{CopyRunByNumber}
use Rattle.lf_numbered.specs.EntryPatternsRuns.{IsNumberedLeaf}
use Rattle.lf_numbered.specs.Numbering.{numbered}
use Rattle.lf_numbered.proofs.CopyingByNumber.{copying_free}
use Rattle.lf_numbered.proofs.EntryPatternsForms.{head_run_is_by_number}
use Rattle.lf_numbered.proofs.EntryPatternsItems.{leaf_is_numbered_leaf}

leaves : (D : Case) → Member D copy_cases → IsNumberedLeaf Copying 4 copy_worlds copy_heads (numbered 4 D)
leaves D (inl q) = subst (λ E. IsNumberedLeaf Copying 4 copy_worlds copy_heads (numbered 4 E)) (sym q) (leaf_is_numbered_leaf Copying copying_ok copy_worlds copy_typed 4 copying_free copy_heads cp_lam_case lam_leaf (items_are_context Copying copying_ok copy_worlds copy_typed cp_lam_case.items lam_leaf.typed.items) leaves_are_of_heads.0)
leaves D (inr (inl q)) = subst (λ E. IsNumberedLeaf Copying 4 copy_worlds copy_heads (numbered 4 E)) (sym q) (leaf_is_numbered_leaf Copying copying_ok copy_worlds copy_typed 4 copying_free copy_heads copy_app_case app_leaf (items_are_context Copying copying_ok copy_worlds copy_typed copy_app_case.items app_leaf.typed.items) leaves_are_of_heads.1)
leaves D (inr (inr (inl q))) = subst (λ E. IsNumberedLeaf Copying 4 copy_worlds copy_heads (numbered 4 E)) (sym q) (leaf_is_numbered_leaf Copying copying_ok copy_worlds copy_typed 4 copying_free copy_heads block_case entry_leaf (items_are_context Copying copying_ok copy_worlds copy_typed block_case.items entry_leaf.typed.items) leaves_are_of_heads.2)
leaves D (inr (inr (inr m))) = absurd m

pub copy_run_by_number : CopyRunByNumber
copy_run_by_number S sc z = head_run_is_by_number Copying copying_ok copy_worlds copy_typed first_below_second copy_subordination S sc 4 copying_free copy_heads copy_goal goal_typed copy_cases leaves (by_split copy_cases (0, copy_split S z) (next_case (at_leaf (inl refl)) (next_case (at_leaf (inr (inl refl))) (next_case (at_leaf (inr (inr (inl refl)))) no_case))))
