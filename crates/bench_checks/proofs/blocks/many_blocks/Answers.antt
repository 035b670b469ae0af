use Rattle.lf.specs.Entries.{signature_of}
use Rattle.lf.specs.Subordination.{IsTypedBlock}
use Rattle.tw_clause.specs.View.{block_of}
use Rattle.bench_checks.proofs.Pushed.{one_pushed}
use Rattle.bench_checks.proofs.blocks.many_blocks.Goals as goal

pub loop-place-preserved : goal.loop-place-preserved
loop-place-preserved c = one_pushed block_of (IsTypedBlock (signature_of c.args.signature.now)) c.loop-place.blocks.items c.push.new.self.items c.in_ok-labelled.field-0 c.in_ok-push.ensures.items c.loop-place.invariant c.in_ok-labelled.ensures
