use Rattle.std.proofs.Common.{Some, sym, ◌∙◌, subst, map}
use Rattle.tw_order.specs.Rows.{families_of}
use Rattle.tw_parse_checks.specs.Checks.{call_of, order_of as written_of}
use Rattle.tw_terms.specs.declared.canonical.ConstId.{ConstId}
use Rattle.tw_decl.specs.Steps.{AreRowsOf}
use Rattle.tw_decl.specs.Termination.{NamesModed}
use Rattle.tw_decl.proofs.Rows.{same_lists}
use Rattle.tw_decl.proofs.terminating.orders.Goals as goal

pub returns-in-Ok-Some-clause-gives : goal.returns-in-Ok-Some-clause-gives
returns-in-Ok-Some-clause-gives c =
    let rows = c.in-Ok-Some.rows.items in
    let given : AreRowsOf c.args.session.now (written_of c.args.order.now) (map call_of c.args.patterns.now) (Some c.in-Ok-Some.rows) = subst (AreRowsOf c.args.session.now (written_of c.args.order.now) (map call_of c.args.patterns.now)) c.in-Ok-Some.field-0-is c.in-Ok-Some.ensures in
    let same = same_lists (map (λ (f : ConstId). f.0) c.in-Ok.field-0.items) (families_of rows) (sym c.in-Ok.ensures.named.applied.named ∙ given.0) in
    record {
      named = subst (NamesModed c.args.session.now (written_of c.args.order.now) (map call_of c.args.patterns.now)) same c.in-Ok.ensures.named;
      orders = given.1;
      at_inputs = given.2;
    }
