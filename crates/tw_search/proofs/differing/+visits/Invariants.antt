use Rattle.std.proofs.Common.{◌+◌, ◌*◌, ◌≤◌, drop}
use Rattle.lf.specs.Entries.{signature_of}
use Rattle.tw_putting.specs.Stores.{bindings_of}
use Rattle.tw_terms.specs.OpenView.{open_args_of, open_spine_of}
use Rattle.tw_terms.specs.View.{type_of}
use Rattle.tw_search.specs.Beside.{RowDiffers}
use Rattle.tw_search.proofs.differing.+visits.Given as goal

abbrev pub decreases-visited : goal.decreases-visited
decreases-visited l = 2 * l.visits

abbrev pub decreases-visited_row : goal.decreases-visited_row
decreases-visited_row l = 2 * l.visits + 1

-- where what is left of the rows differs, they do
abbrev pub invariant-visited_row-loop-place : goal.invariant-visited_row-loop-place
invariant-visited_row-loop-place l = record {
  fewer : l.fewer ≤ l.fn.visits;
  differ : RowDiffers (signature_of l.signature) (bindings_of l.store.now) (open_args_of (drop l.place l.left.args.items)) (open_args_of (drop l.place l.right.args.items)) (type_of l.rest) → RowDiffers (signature_of l.signature) (bindings_of l.store.now) (open_spine_of l.left) (open_spine_of l.right) (type_of l.ty);
}
