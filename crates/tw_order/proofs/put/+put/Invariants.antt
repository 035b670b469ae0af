use Rattle.std.proofs.Common.{◌≡◌, map, take}
use Rattle.lf.specs.AtOnce.{lift_renaming_by}
use Rattle.lf.specs.Syntax.{rename}
use Rattle.lf.specs.Variables.{at_variable}
use Rattle.tw_terms.specs.View.{term_of}
use Rattle.tw_order.proofs.put.+put.Given as goal

abbrev pub invariant-put_in_spine-loop-arg : goal.invariant-put_in_spine-loop-arg
invariant-put_in_spine-loop-arg l = map term_of l.args.items ≡ map (λ t. rename (lift_renaming_by l.under (at_variable l.variable)) (term_of t)) (take l.arg-index l.arg-items)
