use Rattle.std.proofs.Common.{ℕ, drop}
use Rattle.tw_putting.specs.Stores.{bindings_of}
use Rattle.tw_terms.specs.OpenView.{open_args_of, open_spine_of}
use Rattle.tw_terms.specs.View.{args_of, spine_of}
use Rattle.tw_search.proofs.ClashingHeads.{WalksTo}
use Rattle.tw_search.proofs.clash.spines_clash.Given as goal

-- a clash of what is left is one of the whole
abbrev pub invariant-loop-place : goal.invariant-loop-place
invariant-loop-place l = (k : ℕ) → WalksTo (bindings_of l.store.now) k (open_spine_of l.indices) (spine_of l.spine) (open_args_of (drop l.place l.indices.args.items)) (args_of (drop l.place l.spine.args.items))
