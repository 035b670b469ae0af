use Rattle.std.proofs.Common.{◌≡◌, ◌++◌, Some, true}
use Rattle.std.specs.Prelude.{drop, map}
use Rattle.tw_clause.specs.Orders.{order_of}
use Rattle.tw_clause.specs.declared.order.Order.{Order}
use Rattle.tw_parse_checks.specs.Checks.{call_of, order_of as written_of}
use Rattle.tw_order.specs.Rows.{families_of}
use Rattle.tw_signature.specs.Names.{number_of}
use Rattle.tw_terms.specs.declared.canonical.ConstId.{ConstId}
use Rattle.tw_decl.specs.Applications.{Application, all_take_just, application_of}
use Rattle.tw_decl.specs.Termination.{orders_given}
use Rattle.tw_decl.proofs.Rows.{AllAtInputs}
use Rattle.tw_decl.proofs.terminating.rows_of.Given as goal

abbrev pub invariant-loop-pattern : goal.invariant-loop-pattern
invariant-loop-pattern l = record {
  counted : l.number ≡ l.pattern-index;
  named : map Some (families_of l.rows.items) ++ map (λ (x : Application). number_of l.session.signature x.family.name) (map application_of (map call_of (drop l.pattern-index l.patterns))) ≡ map (λ (x : Application). number_of l.session.signature x.family.name) (map application_of (map call_of l.patterns));
  orders : map (λ (r : ConstId × Order). order_of r.1) l.rows.items ++ orders_given l.session.signature l.number (written_of l.order) (map call_of (drop l.pattern-index l.patterns)) ≡ orders_given l.session.signature 0 (written_of l.order) (map call_of l.patterns);
  at_inputs : AllAtInputs l.session l.number (written_of l.order) (map call_of (drop l.pattern-index l.patterns)) (map call_of l.patterns);
  takes : all_take_just l.session.signature (map application_of (map call_of (drop l.pattern-index l.patterns))) ≡ true;
}
