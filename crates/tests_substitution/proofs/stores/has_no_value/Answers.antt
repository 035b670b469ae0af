use Rattle.std.proofs.Common.{sym, ap, ◌∙◌}
use Rattle.std.specs.Option.{option_map}
use Rattle.tw_terms.specs.OpenView.{open_term_of}
use Rattle.tests_substitution.proofs.stores.has_no_value.Goals as goal

pub returns-in-None : goal.returns-in-None
returns-in-None c = λ x. sym c.value.ensures ∙ ap (λ o. option_map (λ v. open_term_of v.now) o) c.in-None.is
