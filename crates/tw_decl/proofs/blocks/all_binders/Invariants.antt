use Rattle.std.proofs.Common.{◌≡◌, []}
use Rattle.tw_terms.specs.View.{kind_of}
use Rattle.tw_decl.specs.Blocks.{all_binders}
use Rattle.tw_decl.proofs.blocks.all_binders.Given as goal

abbrev pub invariant-loop-rest : goal.invariant-loop-rest
invariant-loop-rest l = all_binders l.binders (kind_of l.rest) ≡ all_binders [] (kind_of l.fn.kind)
