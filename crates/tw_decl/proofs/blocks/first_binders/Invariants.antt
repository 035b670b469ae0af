use Rattle.std.proofs.Common.{◌≡◌, []}
use Rattle.tw_terms.specs.View.{kind_of}
use Rattle.tw_decl.specs.Blocks.{behind, first_binders}
use Rattle.tw_decl.proofs.blocks.first_binders.Given as goal

abbrev pub invariant-loop-left : goal.invariant-loop-left
invariant-loop-left l = record {
  binders : first_binders l.left l.binders (kind_of l.rest) ≡ first_binders l.fn.count [] (kind_of l.fn.kind);
  rest : behind l.left (kind_of l.rest) ≡ behind l.fn.count (kind_of l.fn.kind);
}

abbrev pub decreases-loop-left : goal.decreases-loop-left
decreases-loop-left l = l.left
