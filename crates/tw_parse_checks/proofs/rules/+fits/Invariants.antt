use Rattle.std.proofs.Common.{◌≡◌, drop, map}
use Rattle.tw_parse_checks.specs.Checks.{call_of}
use Rattle.tw_parse_checks.specs.Meanings.{all_fit}
use Rattle.tw_parse_checks.specs.Parts.{orders_in}
use Rattle.tw_parse_checks.proofs.rules.+fits.Given as goal

abbrev pub invariant-loop-component : goal.invariant-loop-component
invariant-loop-component l = all_fit (map call_of l.patterns) (orders_in (drop l.component-index l.component-items)) ≡ all_fit (map call_of l.patterns) (orders_in l.component-items)

abbrev pub invariant-loop-component-2 : goal.invariant-loop-component-2
invariant-loop-component-2 l = all_fit (map call_of l.patterns) (orders_in (drop l.component-index l.component-items)) ≡ all_fit (map call_of l.patterns) (orders_in l.component-items)
