use Rattle.std.proofs.Common.{◌≡◌, take, map}
use Rattle.lf.specs.AtOnce.{lift_renaming_by, shift_by}
use Rattle.lf.specs.Syntax.{rename}
use Rattle.tw_terms.specs.View.{term_of}
use Rattle.tw_terms.proofs.weakening.+weaken.Given as goal

abbrev pub invariant-weaken_spine-loop-arg : goal.invariant-weaken_spine-loop-arg
invariant-weaken_spine-loop-arg l =
    map term_of l.args.items ≡ map (λ t. rename (lift_renaming_by l.under (shift_by l.by)) (term_of t)) (take l.arg-index l.arg-items)
