use Rattle.std.proofs.Common.{◌+◌, ◌*◌, drop}
use Rattle.lf.specs.Depth.{depth, spine_depth}
use Rattle.lf.specs.Entries.{signature_of}
use Rattle.tw_putting.specs.Stores.{bindings_of}
use Rattle.tw_terms.specs.OpenView.{open_args_of, open_spine_of}
use Rattle.tw_terms.specs.View.{args_of, spine_of, term_of, type_of}
use Rattle.tw_search.proofs.BesideWalks.{RowGoneTo}
use Rattle.tw_search.proofs.beside.+beside.Given as goal

-- the clause's term alone gets smaller
abbrev pub decreases-beside : goal.decreases-beside
decreases-beside l = 2 * depth (term_of l.right.now)

abbrev pub decreases-arguments_beside : goal.decreases-arguments_beside
decreases-arguments_beside l = 2 * spine_depth (spine_of l.right.now) + 1

-- what is left of the rows, and the pairs so far
abbrev pub invariant-arguments_beside-loop-place : goal.invariant-arguments_beside-loop-place
invariant-arguments_beside-loop-place l =
    RowGoneTo (signature_of l.signature) (bindings_of l.store.now) (open_spine_of l.left) (spine_of l.right) (type_of l.ty) (open_args_of (drop l.place l.left.args.items)) (args_of (drop l.place l.right.args.items)) (type_of l.rest) l.fn.pairs.items l.pairs.items
