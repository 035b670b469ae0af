use Rattle.std.proofs.Common.{◌≡◌, take, map}
use Rattle.lf.specs.AtOnce.{lift_renaming_by}
use Rattle.lf.specs.Syntax.{rename}
use Rattle.tw_terms.specs.View.{term_of}
use Rattle.tw_world.specs.Changes.{change_of}
use Rattle.tw_world.proofs.moving.+moving.Given as goal

abbrev pub invariant-move_spine-loop-arg : goal.invariant-move_spine-loop-arg
invariant-move_spine-loop-arg l =
    map term_of l.args.items ≡ map (λ t. rename (lift_renaming_by l.under (change_of l.change)) (term_of t)) (take l.arg-index l.arg-items)
