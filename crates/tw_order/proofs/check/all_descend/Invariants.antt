use Rattle.std.proofs.Common.{Result, drop, map}
use Rattle.lf.specs.Entries.{signature_of}
use Rattle.lf.specs.Subordination.{Block}
use Rattle.lf_checks.specs.Descent.{CallDescends}
use Rattle.std.specs.Prelude.{List}
use Rattle.tw_order.specs.Calls.{AreEqualCalls}
use Rattle.tw_order.specs.Listing.{named_of}
use Rattle.tw_order.specs.Outcomes.{ListOutcome}
use Rattle.tw_order.specs.Rows.{families_of, orders_by}
use Rattle.tw_order.specs.declared.fault.OrderFault.{OrderFault}
use Rattle.tw_order.proofs.check.all_descend.Given as goal

abbrev pub invariant-loop-clause : goal.invariant-loop-clause
invariant-loop-clause l = (W : List Block) → AreEqualCalls (signature_of l.sig) W l.group l.edges → (r : Result (Unit {0}) OrderFault) → ListOutcome (CallDescends (signature_of l.sig) W (orders_by l.group) (families_of l.group)) (families_of l.group) (map named_of (drop l.clause-index l.listed)) r → ListOutcome (CallDescends (signature_of l.sig) W (orders_by l.group) (families_of l.group)) (families_of l.group) (map named_of l.listed) r
