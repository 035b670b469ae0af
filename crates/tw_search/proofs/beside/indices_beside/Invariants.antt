use Rattle.std.proofs.Common.{drop}
use Rattle.lf.specs.Entries.{signature_of}
use Rattle.tw_putting.specs.Stores.{bindings_of}
use Rattle.tw_terms.specs.OpenView.{open_args_of, open_spine_of}
use Rattle.tw_terms.specs.View.{args_of, kind_of, spine_of}
use Rattle.tw_search.proofs.BesideWalks.{IndicesGoneTo}
use Rattle.tw_search.proofs.beside.indices_beside.Given as goal

-- what is left of the rows, and the pairs so far
abbrev pub invariant-loop-place : goal.invariant-loop-place
invariant-loop-place l =
    IndicesGoneTo (signature_of l.signature) (bindings_of l.store.now) (open_spine_of l.left) (spine_of l.right) (kind_of l.kind) (open_args_of (drop l.place l.left.args.items)) (args_of (drop l.place l.right.args.items)) (kind_of l.rest) l.fn.pairs.items l.pairs.items
