use Rattle.std.proofs.Common.{drop}
use Rattle.lf.specs.AtOnce.{lift_renaming_by, shift_by}
use Rattle.lf.specs.Syntax.{rename_spine}
use Rattle.tw_putting.specs.Stores.{bindings_of}
use Rattle.tw_terms.specs.OpenView.{open_args_of, open_spine_of}
use Rattle.tw_search.proofs.ClashingHeads.{WalksTo}
use Rattle.tw_search.proofs.clash.local_spines_clash.Given as goal

-- a clash of what is left is one of the whole
abbrev pub invariant-loop-place : goal.invariant-loop-place
invariant-loop-place l =
    let moved = rename_spine (lift_renaming_by l.binders (shift_by l.by)) in
    WalksTo (bindings_of l.store.now) l.binders (open_spine_of l.indices) (moved (open_spine_of l.spine)) (open_args_of (drop l.place l.indices.args.items)) (moved (open_args_of (drop l.place l.spine.args.items)))
