-- The worked rows of what is taken, and of a run from a goal of inputs.
use Rattle.std.proofs.Common.{◌≡◌, ℕ, [], ◌∷◌, inl, inr, refl, sym, subst}
use Rattle.std.specs.Prelude.{Bool, true}
use Rattle.lf.specs.Syntax.{kind_pi, star}
use Rattle.lf.specs.Variables.{FamiliesIn}
use Rattle.lf.specs.Subordination.{Block, IsBelowTest}
use Rattle.lf_cases.specs.Case.{input_goal}
use Rattle.lf_coverage.specs.Calls.{CoverIs, IsBeside, PlacesIn, covered}
use Rattle.lf_cases.specs.Split.{at_leaf, by_split, no_case, next_case}
use Rattle.lf_coverage.specs.ExamplesSubordinate.{all_below_second, over_function}
use Rattle.lf_coverage.specs.Heads.{ArgumentsAreBelow}
use Rattle.lf_coverage.proofs.Parts.{some_same}
use Rattle.lf_numbered.specs.NumberedBeside.{TakesBelow, AllTakeBelow, WorldsTakeBelow, IsUnifiedByNumber}
use Rattle.lf_numbered.specs.NumberedBesideExamples.{TakingIsLess, HighBlockTakesMore, low_block, high_block, OpenInputsAreCovered}
use Rattle.lf_numbered.specs.NumberedSplits.{IsAnsweredByNumber}
use Rattle.lf_numbered.specs.NumberedSplitsExamples.{Bare, exp, exp_block, has_head, open_case, entry_case}
use Rattle.lf_numbered.proofs.NumberedBesideRuns.{unified_by_number_covers_inputs}
use Rattle.lf_numbered.proofs.NumberedCandidatesTypes.{families_take}
use Rattle.lf_numbered.proofs.NumberedSplitsExamples.{bare_ok, free, blocks_typed, open_is_split_by_entry}
use Rattle.lf_numbered.proofs.NumberedSplitsExamplesRun.{has_leaf}

pub taking_is_less : TakingIsLess
taking_is_less = (tt, (λ h. h), (tt, tt), (λ h. absurd cc), (λ h. absurd cc))

pub high_block_takes_more : HighBlockTakesMore
high_block_takes_more = (low, high, λ Σ first C Cs sp. none (subst (ArgumentsAreBelow all_below_second) sp.at sp.takes_below))
  where
    none : ArgumentsAreBelow all_below_second over_function → ⊥
    none h = absurd cc

    low : WorldsTakeBelow all_below_second (low_block ∷ [])
    low B (inl e) = subst (λ (D : Block). AllTakeBelow all_below_second D.some) (sym e) ((tt, tt), tt)
    low B (inr m) = absurd m

    high : WorldsTakeBelow all_below_second (high_block ∷ []) → ⊥
    high h = taken (h high_block (inl refl)).0
      where
        taken : TakesBelow all_below_second over_function → ⊥
        taken q = absurd cc

module _ (below : ℕ → ℕ → Bool) where
  an : IsAnsweredByNumber Bare 2 (exp_block ∷ []) below open_case 0 (entry_case ∷ [])
  an = open_is_split_by_entry.0 below

  pub open_unified : IsUnifiedByNumber Bare 2 (exp_block ∷ []) below open_case 0 (entry_case ∷ [])
  open_unified = record { type = an.type; at = an.at; offers = an.offers; each = an.each; every = an.every; listed = an.listed }

  open_families : (S : ℕ → Bool) → S 0 ≡ true → FamiliesIn S open_unified.type
  unfolding open_unified
  open_families S e = subst (FamiliesIn S) (sym an.at) e

  pub bare_takes : WorldsTakeBelow below (exp_block ∷ [])
  bare_takes B (inl e) = subst (λ (D : Block). AllTakeBelow below D.some) (sym e) tt
  bare_takes B (inr m) = absurd m

  holds_exp : (S : ℕ → Bool) → IsBeside Bare (exp_block ∷ []) S (input_goal 1 (true ∷ []) (kind_pi exp star)) → S 0 ≡ true
  holds_exp S b = (subst (PlacesIn S (true ∷ [])) (some_same (sym b.of_family)) b.places).0

  open_covered : ((f : ℕ) → IsBelowTest Bare (exp_block ∷ []) (below f) f) → CoverIs Bare (exp_block ∷ []) below (has_head ∷ []) (input_goal 1 (true ∷ []) (kind_pi exp star)) covered
  open_covered test = unified_by_number_covers_inputs Bare bare_ok (exp_block ∷ []) blocks_typed below test bare_takes 2 free (has_head ∷ []) 1 (true ∷ []) (kind_pi exp star) refl (tt, tt) (by_split (entry_case ∷ []) (0, open_unified, λ S b. families_take S open_unified.type (open_families S (holds_exp S b))) (next_case (at_leaf has_leaf) no_case))

pub open_inputs_are_covered : OpenInputsAreCovered
open_inputs_are_covered = ((λ below. (open_unified below, (tt, tt), bare_takes below)), open_covered)
