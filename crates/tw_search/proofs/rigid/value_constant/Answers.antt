use Rattle.std.proofs.Common.{ap, sym, ◌∙◌}
use Rattle.tw_terms.specs.OpenView.{open_head_of, open_term_of}
use Rattle.tw_terms.proofs.OpenViews.{open_head_of-Const, open_head_of-Meta}
use Rattle.tw_search.proofs.ClashingHeads.{comes_further, comes_nowhere, comes_to_constant}
use Rattle.tw_search.proofs.rigid.value_constant.Goals as goal

pub loop-init : goal.loop-init
loop-init c = comes_nowhere c.args.store.now.now c.args.meta.0

pub returns-in-Const : goal.returns-in-Const
returns-in-Const c = comes_to_constant c.args.store.now.now c.args.meta.0 c.loop.here.0 c.in-Const.constant.0 (open_term_of c.in-Some.value.now) c.requires c.in-Some.ensures (sym c.open_head.ensures ∙ ap open_head_of c.in-Const.is ∙ open_head_of-Const c.in-Const.constant) c.loop.invariant

pub loop-preserved : goal.loop-preserved
loop-preserved c = comes_further c.args.store.now.now c.args.meta.0 c.loop.here.0 c.in-Meta.next.0 (open_term_of c.in-Some.value.now) c.requires c.in-Some.ensures (sym c.open_head.ensures ∙ ap open_head_of c.in-Meta.is ∙ open_head_of-Meta c.in-Meta.next) c.loop.invariant
