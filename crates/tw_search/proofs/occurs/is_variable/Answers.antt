use Rattle.std.proofs.Common.{ap, sym, ◌∙◌}
use Rattle.tw_terms.specs.OpenView.{open_head_of}
use Rattle.tw_terms.proofs.OpenViews.{open_head_of-Var}
use Rattle.tw_search.specs.Offers.{is_variable}
use Rattle.tw_search.proofs.Offering.{equal_is_same}
use Rattle.tw_search.proofs.occurs.is_variable.Goals as goal

pub returns-in-Var : goal.returns-in-Var
returns-in-Var c = equal_is_same c.args.variable c.in-Var.other ∙ sym (ap (is_variable c.args.variable) (ap open_head_of c.in-Var.is ∙ open_head_of-Var c.in-Var.other))
