use Rattle.std.proofs.Common.{◌≡◌, suc, List, [], length, drop, take, map, true}
use Rattle.lf.specs.Entries.{signature_of}
use Rattle.lf.specs.Syntax.{LfType}
use Rattle.lf.specs.Variables.{onto}
use Rattle.tw_clause.specs.View.{block_of, worlds_of}
use Rattle.tw_world.specs.Sequences.{TableAt, says}
use Rattle.tw_world.proofs.table.extend.Given as goal

abbrev pub invariant-loop-block : goal.invariant-loop-block
invariant-loop-block l = record {
  size : length l.table.items ≡ suc (length l.local);
  deep_size : length l.deep.items ≡ suc (length l.local);
  kept : says l.table.items l.left ≡ true;
  so_far : (C : List LfType) → l.whole ≡ onto (drop l.left l.local) C → TableAt (signature_of l.sig) (worlds_of l.worlds) [] C l.local l.left l.fn.table.items l.fn.deep.items → TableAt (signature_of l.sig) (worlds_of l.worlds) (map block_of (take l.block-index l.block-items)) C l.local l.left l.table.items l.deep.items;
}
