use Rattle.std.proofs.Common.{◌≡◌, drop, map}
use Rattle.std.specs.Prelude.{option_map}
use Rattle.tw_clause.specs.View.{block_of}
use Rattle.tw_decl.specs.Labels.{newest_of, or_else}
use Rattle.tw_decl.proofs.labels.block_named.Given as goal

-- the newest of those that are left, or else of those that were seen
abbrev pub invariant-loop-block : goal.invariant-loop-block
invariant-loop-block l = or_else (newest_of (map block_of (drop l.block-index l.block-items)) l.label) (option_map (λ b. block_of b.now) l.found) ≡ newest_of (map block_of l.block-items) l.label
