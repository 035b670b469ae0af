use Rattle.std.proofs.Common.{◌≡◌, take, map}
use Rattle.lf.specs.AtOnce.{lift_renaming_by}
use Rattle.lf.specs.Syntax.{rename}
use Rattle.tw_terms.specs.View.{term_of}
use Rattle.tw_clause.specs.Numbers.{numbering}
use Rattle.tw_clause.proofs.renumbering.+renumber.Given as goal

abbrev pub invariant-renumber_spine-loop-arg : goal.invariant-renumber_spine-loop-arg
invariant-renumber_spine-loop-arg l = map term_of l.args.items ≡ map (λ t. rename (lift_renaming_by l.under (numbering l.numbers)) (term_of t)) (take l.arg-index l.arg-items)
