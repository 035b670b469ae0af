use Rattle.std.proofs.Common.{◌∙◌, ap}
use Rattle.tw_terms.specs.OpenView.{open_head_of}
use Rattle.tw_terms.proofs.OpenViews.{open_head_of-Meta}
use Rattle.tw_unify.proofs.Ordering.{meta_numbered}
use Rattle.tw_unify.proofs.numbering.number_head.Goals as goal

pub returns-in_ok-number-in-Meta-clause-numbered : goal.returns-in_ok-number-in-Meta-clause-numbered
returns-in_ok-number-in-Meta-clause-numbered c =
    meta_numbered c.number.new.order.items (open_head_of c.args.head) _ c.in-Meta.meta.0 c.in_ok-number-in-Meta.field-0 (ap open_head_of c.in-Meta.is ∙ open_head_of-Meta c.in-Meta.meta) (open_head_of-Meta (record { 0 = c.in_ok-number-in-Meta.field-0 })) c.in_ok-number-in-Meta.ensures.place
