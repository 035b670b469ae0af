use Rattle.std.proofs.Common.{sym, refl, false}
use Rattle.tw_terms.proofs.Views.{head_of-Const, head_of-Var}
use Rattle.tw_signature.proofs.Marking.{marked_nothing}
use Rattle.tw_signature.proofs.shape.mark_head.Goals as goal

pub returns-in-Const : goal.returns-in-Const
returns-in-Const c = rw (c.in-Const.is, head_of-Const) (sym (marked_nothing c.args.depth (λ i. false) c.args.marks.now (λ i. refl)))

pub returns-in-Var : goal.returns-in-Var
returns-in-Var c = rw (c.in-Var.is, head_of-Var) c.mark_variable.ensures
