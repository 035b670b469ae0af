use Rattle.std.proofs.Common.{List, map, take}
use Rattle.lf.specs.Entries.{signature_of}
use Rattle.lf.specs.Subordination.{Block, Member}
use Rattle.lf.specs.Syntax.{LfType}
use Rattle.lf_checks.specs.Descent.{CallDescends}
use Rattle.lf_checks.specs.OrderFaults.{GroupCallPasses}
use Rattle.tw_terms.specs.View.{type_of}
use Rattle.tw_order.specs.Calls.{AreEqualCalls}
use Rattle.tw_order.specs.Listing.{clause_in}
use Rattle.tw_order.specs.Rows.{families_of, orders_by}
use Rattle.tw_order.proofs.calls.clause_fault.Given as goal

abbrev pub invariant-loop-place : goal.invariant-loop-place
invariant-loop-place l = (W : List Block) → AreEqualCalls (signature_of l.sig) W l.group l.edges → (A : LfType) → Member A (map type_of (take l.place l.goal-items)) → GroupCallPasses (CallDescends (signature_of l.sig) W (orders_by l.group) (families_of l.group)) (families_of l.group) (clause_in l.clause) A
