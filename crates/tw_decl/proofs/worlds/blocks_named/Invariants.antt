use Rattle.std.proofs.Common.{◌≡◌, ◌++◌, Some, drop, map}
use Rattle.tw_clause.specs.View.{block_of}
use Rattle.tw_parse.specs.declared.decl.ExtName.{ExtName}
use Rattle.tw_decl.specs.Labels.{block_named}
use Rattle.tw_decl.specs.Worlds.{are_labels}
use Rattle.tw_decl.proofs.worlds.blocks_named.Given as goal

abbrev pub invariant-loop-label : goal.invariant-loop-label
invariant-loop-label l = record {
  named : map Some (map block_of l.blocks.items) ++ map (λ (x : ExtName). block_named l.session x.name) (drop l.label-index l.labels) ≡ map (λ (x : ExtName). block_named l.session x.name) l.labels;
  labels : are_labels l.session (drop l.label-index l.labels) ≡ are_labels l.session l.labels;
}
