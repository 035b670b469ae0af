use Rattle.std.proofs.Common.{ap, ◌∙◌}
use Rattle.tw_metas.specs.State.{Story}
use Rattle.tw_terms.specs.OpenView.{open_type_of}
use Rattle.tw_terms.specs.View.{type_of}
use Rattle.tw_search.proofs.Rooting.{declared_more, on_ok, over_context}
use Rattle.tw_search.proofs.root.declare.Goals as goal

pub returns-clause-declared : goal.returns-clause-declared
returns-clause-declared c =
    let A = type_of c.args.ty.now in
    on_ok c.fresh.result (λ e G l d. declared_more G A (open_type_of c.in_ok-over.over) c.new.result c.args.store.now.now c.fresh.new.self.now (c.in_ok-over.ensures ∙ over_context G c.args.count A l) (ap (λ (y : Story). y.now) e) d) c.fresh.ensures.ok
