use Rattle.std.proofs.Common.{◌≡◌, ◌∙◌, ap, arith, get_or, rules, true}
use Rattle.lf.specs.Entries.{signature_of}
use Rattle.lf.specs.Subordination.{IsTypedBlock}
use Rattle.tw_clause.specs.View.{block_of}
use Rattle.tests_checks.proofs.Members.{all_taken, at_true, one_more}
use Rattle.tests_checks.proofs.blocks.are_typed.Goals as goal

pub loop-block-preserved : goal.loop-block-preserved
loop-block-preserved c = one_more block_of c.args.worlds.now.blocks.items c.loop-block.block-index c.block-item.result (IsTypedBlock (signature_of c.args.signature.now)) (omega arith) (c.block-item.is ∙ ap (λ xs. get_or xs c.loop-block.block-index c.block-item.result) c.deref-block-items.ensures.value) (at_true c.in_ok-is_typed.field-0 (IsTypedBlock (signature_of c.args.signature.now) (block_of c.block-item.result)) (search rules) c.in_ok-is_typed.ensures) c.loop-block.invariant

pub returns : goal.returns
returns c = all_taken block_of c.args.worlds.now.blocks.items c.loop-block.block-index (IsTypedBlock (signature_of c.args.signature.now)) (omega arith) c.loop-block.invariant
