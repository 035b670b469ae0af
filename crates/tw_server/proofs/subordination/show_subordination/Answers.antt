use Rattle.std.proofs.Common.{◌≡◌, ◌≤◌, ◌<◌, refl, ap, ◌∙◌, arith, length}
use Rattle.tw_server.specs.declared.write.Unwritten.{Unwritten}
use Rattle.tw_server.proofs.ShowingBelow.{below_cut, below_end, below_first, below_lost, below_more}
use Rattle.tw_server.proofs.subordination.show_subordination.Goals as goal

pub returns-in_default-clause-reply : goal.returns-in_default-clause-reply
returns-in_default-clause-reply g c = below_lost c.args.session.now 0 _ _ _ _ (omega arith) (below_first _ _) c.write_reply.ensures.bytes

pub loop-number-init : goal.loop-number-init
loop-number-init g c = record { so_far = below_first _ _; counts = refl }

pub returns-in-Err-write_all-clause-reply : goal.returns-in-Err-write_all-clause-reply
returns-in-Err-write_all-clause-reply g c =
    let less : c.loop-number.number < length c.args.session.now.signature = (let e = c.len-count.ensures ∙ ap length c.signature.ensures in let h = c.loop-number-test.true in omega arith) in
    below_cut {E = Unwritten} c.args.session.now c.loop-number.number c.in-Ok-entry_line.line.items c.deref.result.now _ _ _ c.in-Err-write_all.error less c.loop-number.invariant.so_far c.in-Ok-entry_line.ensures c.deref.ensures.value c.in-Err-write_all.ensures.bytes

pub returns-in-Err-clause-reply : goal.returns-in-Err-clause-reply
returns-in-Err-clause-reply g c =
    let few : c.loop-number.number ≤ length c.args.session.now.signature = (let e = c.len-count.ensures ∙ ap length c.signature.ensures in let h = c.loop-number-test.true in omega arith) in
    below_lost c.args.session.now c.loop-number.number _ _ _ _ few c.loop-number.invariant.so_far c.write_reply-in-Err.ensures.bytes

pub loop-number-preserved : goal.loop-number-preserved
loop-number-preserved g c =
    let wrote = c.in_default-write_all.ensures {u = tt} in record {
      so_far = below_more c.args.session.now c.loop-number.number c.in-Ok-entry_line.line.items c.deref.result.now _ _ _ c.loop-number.invariant.so_far c.in-Ok-entry_line.ensures c.deref.ensures.value wrote.bytes;
      counts = wrote.counts ∙ c.loop-number.invariant.counts;
    }

pub returns-clause-reply : goal.returns-clause-reply
returns-clause-reply g c =
    let all : c.loop-number.number ≡ length c.args.session.now.signature = (let e = c.len-count.ensures ∙ ap length c.signature.ensures in let h = c.loop-number-test.false in omega arith) in
    below_end c.args.session.now c.loop-number.number _ _ _ _ all c.loop-number.invariant.so_far c.write_all-2.ensures.bytes
