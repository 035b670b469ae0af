use Rattle.lf.specs.Entries.{signature_of}
use Rattle.tw_terms.specs.View.{type_of}
use Rattle.tw_mode.proofs.Outer.{constant_outcome}
use Rattle.tw_clause.proofs.Patterns.{on_value}
use Rattle.tw_mode.proofs.check.constant_fault.Goals as goal

pub returns : goal.returns
returns c = on_value c.clause_fault.result _ _ (λ f h. constant_outcome (signature_of c.args.sig.now) c.args.table.now c.nothing_outside-outside.result (type_of c.args.ty.now) f c.nothing_outside-outside.ensures.depth h) c.clause_fault.ensures
