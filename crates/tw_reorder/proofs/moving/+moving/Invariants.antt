use Rattle.std.proofs.Common.{◌≡◌, take, map}
use Rattle.lf.specs.AtOnce.{lift_renaming_by}
use Rattle.lf.specs.Syntax.{rename}
use Rattle.tw_terms.specs.View.{term_of}
use Rattle.tw_reorder.specs.Moving.{moved}
use Rattle.tw_reorder.proofs.moving.+moving.Given as goal

abbrev pub invariant-moved_spine-loop-arg : goal.invariant-moved_spine-loop-arg
invariant-moved_spine-loop-arg l =
    map term_of l.args.items ≡ map (λ t. rename (lift_renaming_by l.under (moved l.moves.order.now l.moves.shift l.moves.less)) (term_of t)) (take l.arg-index l.arg-items)
