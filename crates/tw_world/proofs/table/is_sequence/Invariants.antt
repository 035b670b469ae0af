use Rattle.std.proofs.Common.{◌≡◌, ◌≤◌, [], length, drop}
use Rattle.lf.specs.Entries.{signature_of}
use Rattle.lf.specs.Variables.{onto}
use Rattle.tw_clause.specs.View.{worlds_of}
use Rattle.tw_world.specs.Sequences.{TableAt}
use Rattle.tw_world.proofs.table.is_sequence.Given as goal

abbrev pub invariant-loop-left : goal.invariant-loop-left
invariant-loop-left l = record {
  bounded : l.left ≤ length l.local;
  whole : l.whole ≡ onto (drop l.left l.local) l.outer;
  table : TableAt (signature_of l.sig) (worlds_of l.worlds) [] l.outer l.local l.left l.table.items l.deep.items;
}

abbrev pub decreases-loop-left : goal.decreases-loop-left
decreases-loop-left l = l.left
