use Rattle.std.proofs.Common.{refl, ap, ◌∙◌, arith, length, true}
use Rattle.tw_ports.specs.Ports.{count_after}
use Rattle.tw_ports.proofs.Gained.{Gains-nil}
use Rattle.tw_server.specs.declared.write.Unwritten.{Unwritten}
use Rattle.tw_server.proofs.Showing.{lines_more, lines_cut, lines_lost, lines_end}
use Rattle.tw_server.proofs.Counted.{writes_on}
use Rattle.tw_server.proofs.show.show_signature.Goals as goal

pub loop-number-init : goal.loop-number-init
loop-number-init g c = record { gains = Gains-nil _; counts = refl }

pub returns-in-Err-write_all-clause-reply : goal.returns-in-Err-write_all-clause-reply
returns-in-Err-write_all-clause-reply g c = lines_cut {E = Unwritten} c.args.session.now c.loop-number.number c.deref.result.now _ _ _ c.in-Err-write_all.error (let e = c.len-count.ensures ∙ ap length c.signature.ensures in let h = c.loop-number-test.true in omega arith) c.loop-number.invariant.gains (c.deref.ensures.value ∙ c.in-Ok.ensures) c.in-Err-write_all.ensures.bytes

pub returns-in-Err-write_all-clause-counts : goal.returns-in-Err-write_all-clause-counts
returns-in-Err-write_all-clause-counts g c = c.in-Err-write_all.ensures.counts ∙ ap (count_after true) c.loop-number.invariant.counts

pub returns-in-Err-clause-reply : goal.returns-in-Err-clause-reply
returns-in-Err-clause-reply g c = lines_lost c.args.session.now c.loop-number.number _ _ _ _ (let e = c.len-count.ensures ∙ ap length c.signature.ensures in let h = c.loop-number-test.true in omega arith) c.loop-number.invariant.gains c.write_reply.ensures.bytes

pub returns-in-Err-clause-counts : goal.returns-in-Err-clause-counts
returns-in-Err-clause-counts g c = writes_on _ _ _ _ c.loop-number.invariant.counts c.write_reply.ensures.counts

pub loop-number-preserved : goal.loop-number-preserved
loop-number-preserved g c = record {
  gains = lines_more c.args.session.now c.loop-number.number c.deref.result.now _ _ _ c.loop-number.invariant.gains (c.deref.ensures.value ∙ c.in-Ok.ensures) (c.in_default.ensures {u = tt}).bytes;
  counts = (c.in_default.ensures {u = tt}).counts ∙ c.loop-number.invariant.counts;
}

pub returns-clause-reply : goal.returns-clause-reply
returns-clause-reply g c = lines_end c.args.session.now c.loop-number.number _ _ _ _ (let h = c.loop-number-test.false in let e = c.len-count.ensures ∙ ap length c.signature.ensures in omega arith) c.loop-number.invariant.gains c.write_all-2.ensures.bytes

pub returns-clause-counts : goal.returns-clause-counts
returns-clause-counts g c = writes_on _ _ _ _ c.loop-number.invariant.counts c.write_all-2.ensures.counts
