use Rattle.std.proofs.Common.{◌≡◌, drop, map}
use Rattle.tw_clause.specs.View.{block_of}
use Rattle.tw_decl.specs.Labels.{is_label}
use Rattle.tw_decl.proofs.labels.is_label.Given as goal

abbrev pub invariant-loop-block : goal.invariant-loop-block
invariant-loop-block l = is_label (map block_of (drop l.block-index l.blocks)) l.label ≡ is_label (map block_of l.blocks) l.label
