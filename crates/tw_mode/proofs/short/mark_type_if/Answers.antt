use Rattle.tw_terms.specs.View.{type_of}
use Rattle.tw_mode.proofs.Completing.{type_left}
use Rattle.tw_mode.proofs.short.mark_type_if.Goals as goal

pub returns-else-chosen : goal.returns-else-chosen
returns-else-chosen c = type_left c.args.depth c.args.chosen (type_of c.args.ty.now) c.args.seen.now c.if-chosen.false
