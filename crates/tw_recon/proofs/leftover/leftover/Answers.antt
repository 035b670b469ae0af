use Rattle.std.proofs.Common.{Err, map, ap, ◌∙◌}
use Rattle.tw_approx.specs.Answer.{rows_of}
use Rattle.tw_elaborate.specs.View.{numbers_of}
use Rattle.tw_metas.specs.Named.{named_of}
use Rattle.tw_written.specs.View.{written_body_of}
use Rattle.tw_recon.specs.Names.{named_from}
use Rattle.tw_recon.specs.NamingView.{naming_of}
use Rattle.tw_recon.proofs.Outcomes.{free_deep, left_deep, left_settled, left_told, names_differ}
use Rattle.tw_recon.proofs.leftover.leftover.Goals as goal

pub names-requires : goal.names-requires
names-requires c = left_settled c.args.signature.now (rows_of c.args.rows.now) (written_body_of c.args.written.now) (numbers_of c.args.frees.now) c.args.store.now.now c.requires.left c.requires.canonical

pub returns-in-Err-TooDeep : goal.returns-in-Err-TooDeep
returns-in-Err-TooDeep c = free_deep c.args.signature.now (rows_of c.args.rows.now) (written_body_of c.args.written.now) (numbers_of c.args.frees.now) c.args.store.now.now c.requires.left (c.in-Err-TooDeep.ensures.too_deep (ap Err c.in-Err-TooDeep.field-0-is))

pub left_equation-requires-clause-names : goal.left_equation-requires-clause-names
left_equation-requires-clause-names c =
    names_differ c.args.signature.now (rows_of c.args.rows.now) (written_body_of c.args.written.now) (numbers_of c.args.frees.now) c.args.store.now.now c.requires.left c.args.order.now c.requires.in_order (naming_of c.in-Ok.naming) c.in-Ok.ensures.named (map named_of c.deref-2.result.now) (ap (map named_of) c.deref-2.ensures.value ∙ c.in-Ok-named.ensures ∙ ap (named_from 0) c.deref.ensures.value)

pub returns-in-Ok-left_equation : goal.returns-in-Ok-left_equation
returns-in-Ok-left_equation c =
    left_told c.args.signature.now (rows_of c.args.rows.now) (written_body_of c.args.written.now) (numbers_of c.args.frees.now) c.args.store.now.now c.requires.left c.args.order.now c.requires.in_order (naming_of c.in-Ok.naming) c.in-Ok.ensures.named (map named_of c.deref-2.result.now) (ap (map named_of) c.deref-2.ensures.value ∙ c.in-Ok-named.ensures ∙ ap (named_from 0) c.deref.ensures.value) c.in-Ok-left_equation.left c.in-Ok-left_equation.ensures

pub returns-in-Err-TooDeep-left_equation : goal.returns-in-Err-TooDeep-left_equation
returns-in-Err-TooDeep-left_equation c =
    left_deep c.args.signature.now (rows_of c.args.rows.now) (written_body_of c.args.written.now) (numbers_of c.args.frees.now) c.args.store.now.now c.requires.left c.args.order.now c.requires.in_order (naming_of c.in-Ok.naming) c.in-Ok.ensures.named (map named_of c.deref-2.result.now) (ap (map named_of) c.deref-2.ensures.value ∙ c.in-Ok-named.ensures ∙ ap (named_from 0) c.deref.ensures.value)
    c.in-Err-TooDeep-left_equation.field-0 c.in-Err-TooDeep-left_equation.field-0-is c.in-Err-TooDeep-left_equation.ensures
