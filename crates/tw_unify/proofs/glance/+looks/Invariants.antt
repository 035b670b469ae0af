use Rattle.std.proofs.Common.{◌+◌, ◌*◌, ◌<◌, drop}
use Rattle.tw_putting.specs.Stores.{bindings_of, types_of}
use Rattle.tw_terms.specs.OpenView.{open_args_of}
use Rattle.tw_unify.proofs.Glancing.{ArgumentsAvoided}
use Rattle.tw_unify.proofs.glance.+looks.Given as goal

abbrev pub decreases-look : goal.decreases-look
decreases-look l = 2 * l.visits

abbrev pub decreases-look_at_head : goal.decreases-look_at_head
decreases-look_at_head l = 2 * l.visits + 1

-- where the metavariable is not reached from a head on the arguments that are left, it is not reached from the head on all of them
abbrev pub invariant-look-loop-arg : goal.invariant-look-loop-arg
invariant-look-loop-arg l = record {
  fewer : l.left < l.fn.visits;
  so_far : ArgumentsAvoided (types_of l.store.now) (bindings_of l.store.now) l.meta.0 (open_args_of (drop l.arg-index l.arg-items)) (open_args_of l.arg-items);
}
