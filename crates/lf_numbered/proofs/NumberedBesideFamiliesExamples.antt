-- The worked rows of worlds whose `some` variables are of families in a set.
use Rattle.std.proofs.Common.{◌≡◌, ℕ, [], ◌∷◌, inl, inr, refl, sym, subst}
use Rattle.std.specs.Prelude.{Bool, true}
use Rattle.lf.specs.Syntax.{kind_pi, star}
use Rattle.lf.specs.Subordination.{Block, Member}
use Rattle.lf.specs.Variables.{same_number}
use Rattle.lf_cases.specs.Case.{input_goal}
use Rattle.lf_numbered.specs.EntryPatternsExamples.{asking_block}
use Rattle.lf_numbered.specs.EntryPatternsRuns.{IsNumberedLeaf}
use Rattle.lf_cases.specs.Split.{Ends, at_leaf, by_split, no_case, next_case}
use Rattle.lf_coverage.specs.SplitStore.{AllFamiliesIn}
use Rattle.lf_numbered.specs.NumberedBesideFamilies.{UnifiesEachByNumber, WorldsAreIn}
use Rattle.lf_numbered.specs.NumberedBesideFamiliesExamples.{SomeIsOutside, ExpIsIn, OpenEachIsCovered}
use Rattle.lf_numbered.specs.Numbering.{numbered}
use Rattle.lf_numbered.specs.NumberedSplitsExamples.{Bare, exp, exp_block, has_head, entry_case}
use Rattle.lf_numbered.proofs.NumberedBesideExamples.{open_unified, bare_takes}
use Rattle.lf_numbered.proofs.NumberedBesideFamilies.{unified_each_covers_inputs, worlds_without_some}
use Rattle.lf_numbered.proofs.NumberedSplitsExamples.{bare_ok, free, blocks_typed}
use Rattle.lf_numbered.proofs.NumberedSplitsExamplesRun.{has_leaf}

no_some : (B : Block) → Member B (exp_block ∷ []) → B.some ≡ []
no_some B (inl e) = subst (λ (D : Block). D.some ≡ []) (sym e) refl
no_some B (inr m) = absurd m

bare_in : (S : ℕ → Bool) → WorldsAreIn S (exp_block ∷ [])
bare_in = (worlds_without_some (exp_block ∷ []) no_some).0

pub some_is_outside : SomeIsOutside
some_is_outside = (bare_in, all, λ h. outside (h asking_block (inl refl)))
  where
    all : WorldsAreIn (λ a. true) (asking_block ∷ [])
    all B (inl e) = subst (λ (D : Block). AllFamiliesIn (λ a. true) D.some) (sym e) (refl, tt)
    all B (inr m) = absurd m

    outside : AllFamiliesIn (same_number 3) asking_block.some → ⊥
    outside (e, t) = cc

pub exp_is_in : ExpIsIn
exp_is_in = ((refl, tt), λ h. absurd cc)

open_run : (below : ℕ → ℕ → Bool) → Ends (IsNumberedLeaf Bare 2 (exp_block ∷ []) (has_head ∷ [])) (UnifiesEachByNumber Bare 2 (exp_block ∷ []) below) (numbered 2 (input_goal 1 (true ∷ []) (kind_pi exp star)))
open_run below = by_split (entry_case ∷ []) (0, open_unified below) (next_case (at_leaf has_leaf) no_case)

pub open_each_is_covered : OpenEachIsCovered
open_each_is_covered below test = (open_run below, unified_each_covers_inputs Bare bare_ok (exp_block ∷ []) blocks_typed below test (bare_takes below) 2 free (has_head ∷ []) 1 (true ∷ []) (kind_pi exp star) refl (tt, tt) (λ S b. bare_in S) (open_run below))
