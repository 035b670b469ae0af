-- Worked values that are put into cases by number, and that matching finds in them.
use Rattle.std.proofs.Common.{zero, suc, refl}
use Rattle.lf_cases.specs.Case.{covered_places}
use Rattle.lf_cases.specs.Cover.{AreTerms}
use Rattle.lf_cases.specs.Pattern.{ground_in}
use Rattle.lf_totality.specs.Examples.{cp_app}
use Rattle.lf_coverage.specs.ExamplesCopying.{copy_app_head}
use Rattle.lf_coverage.specs.Matching.{found_values}
use Rattle.lf_numbered.specs.EntryPatternsExamples.{CasesArePutIn, EntriesAreMatched, applied_copy}
use Rattle.lf_numbered.specs.OwnStores.{as_case}

pub cases_are_put_in : CasesArePutIn
cases_are_put_in = (
  record { blocks = refl; given = refl; local = refl; family = refl; arguments = refl },
  record { blocks = refl; given = refl; local = refl; family = refl; arguments = refl },
)

pub entries_are_matched : EntriesAreMatched
entries_are_matched = ((((((refl, tt), ((refl, tt), tt)), tt)), terms, (refl, tt)), refl, refl)
  where
    terms : AreTerms cp_app (ground_in copy_app_head (covered_places applied_copy.arguments) applied_copy.given) (found_values (as_case applied_copy) copy_app_head)
    terms zero o u = absurd cc
    terms (suc zero) o u = absurd cc
    terms (suc (suc zero)) o u = absurd cc
    terms (suc (suc (suc zero))) o u = absurd cc
    terms (suc (suc (suc (suc zero)))) o u = tt
    terms (suc (suc (suc (suc (suc zero))))) o u = tt
    terms (suc (suc (suc (suc (suc (suc i)))))) o u = absurd cc
