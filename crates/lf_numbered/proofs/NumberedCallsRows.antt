-- Worked stores by number, and candidates.
use Rattle.std.proofs.Common.{zero, suc, [], ◌∷◌, refl, ap}
use Rattle.lf.specs.Syntax.{nil}
use Rattle.lf_totality.specs.Examples.{copy_block, cp, exp, var}
use Rattle.lf_coverage.proofs.Parts.{some_same}
use Rattle.lf_numbered.specs.ExamplesNumbered.{two_copies}
use Rattle.lf_numbered.specs.NumberedCallsRows.{CopiesAreEquated, OwnTermsAreNoCandidates}
use Rattle.lf_numbered.specs.NumberedCallsStores.{Identifies, entry_beside}
use Rattle.lf_numbered.specs.OwnTerms.{BlockVariable}

first_is_one : Identifies two_copies (λ k. 0)
first_is_one zero b e = (_, refl, ap (λ (c : BlockVariable). c.block) (some_same e), refl)
first_is_one (suc zero) b e = (_, refl, ap (λ (c : BlockVariable). c.block) (some_same e), refl)
first_is_one (suc (suc k)) b e = absurd cc

pub copies_are_equated : CopiesAreEquated
copies_are_equated = (first_is_one, entry_beside copy_block [] (cp (var 0) (var 0)) (exp ∷ []) refl 0 nil refl refl (λ e. refl), refl, refl)

pub own_terms_are_no_candidates : OwnTermsAreNoCandidates
own_terms_are_no_candidates = refl
