use Rattle.std.proofs.Common.{◌≡◌, ◌∙◌, refl, arith}
use Rattle.tw_decl.proofs.Ahead.{accepted_ahead}
use Rattle.tw_decl.specs.declared.declaration.Next.TheVariants as nexts
use Rattle.tw_decl.specs.Reports.{reported}
use Rattle.tw_ports.proofs.Gained.{Gains-same}
use Rattle.tw_server.specs.declared.write.Unwritten.{Unwritten}
use Rattle.tw_server.proofs.Loads.{comes_done, comes_end, not_opened, opened_end, opened_first, opened_more, opened_part, opened_refused, opening_cut}
use Rattle.tw_server.proofs.load.load.Goals as goal

pub returns-in_default-clause-lines : goal.returns-in_default-clause-lines
returns-in_default-clause-lines g c = not_opened c.args.session.now c.args.name.now c.args.text.now _ _ c.close.result c.close.ensures.lines

pub returns-in_default-around-clause-lines : goal.returns-in_default-around-clause-lines
returns-in_default-around-clause-lines g c =
    let w = c.close-in_default-around in
    not_opened c.args.session.now c.args.name.now c.args.text.now _ _ w.result w.ensures.lines

pub returns-in-Err-clause-lines : goal.returns-in-Err-clause-lines
returns-in-Err-clause-lines g c = opening_cut {E = Unwritten} c.args.session.now c.args.name.now c.args.text.now c.deref.result.now _ _ c.in-Err.error (c.deref.ensures.value ∙ c.in-Ok.ensures) c.in-Err.ensures.bytes

pub loop-sink-init : goal.loop-sink-init
loop-sink-init g c = record {
  loaded = opened_first c.args.session.now c.args.name.now c.args.text.now c.deref.result.now _ _ _ (c.deref.ensures.value ∙ c.in-Ok.ensures) (c.in_default-write_all.ensures {u = tt}).bytes refl;
  counts = (c.in_default-write_all.ensures {u = tt}).counts;
}

pub returns-in-Ok-End-clause-lines : goal.returns-in-Ok-End-clause-lines
returns-in-Ok-End-clause-lines g c =
    let h = comes_end c.loop-sink.session c.declare.new.session c.args.text.now c.loop-sink.from c.in-Ok-End.field-0 c.in-Ok-End.field-0-is c.in-Ok-End.ensures.ok in
    opened_end c.args.session.now c.loop-sink.session c.declare.new.session c.args.name.now c.args.text.now c.deref-in-Ok-End.result.now _ _ _ c.loop-sink.from c.loop-sink.at c.close-in-Ok-End.result c.loop-sink.invariant.loaded h.0 h.1
    (c.deref-in-Ok-End.ensures.value ∙ c.in-Ok-around.ensures) c.close-in-Ok-End.ensures.lines

pub returns-in-Err-write_all-clause-lines : goal.returns-in-Err-write_all-clause-lines
returns-in-Err-write_all-clause-lines g c =
    let e : c.in-Ok-Done.field-0 ≡ nexts.Done c.in-Ok-Done.report c.in-Ok-Done.upto c.in-Ok-Done.behind = cc in
    let h = comes_done c.loop-sink.session c.declare.new.session c.args.text.now c.loop-sink.from c.in-Ok-Done.upto c.in-Ok-Done.field-0 c.in-Ok-Done.report c.in-Ok-Done.behind e c.in-Ok-Done.ensures.ok in
    opened_part {E = Unwritten} c.args.session.now c.loop-sink.session c.declare.new.session c.args.name.now c.args.text.now c.deref-in-Ok-Done.result.now (reported c.in-Ok-Done.report) _ _ _ c.loop-sink.from c.in-Ok-Done.upto c.loop-sink.at c.in-Err-write_all.error c.loop-sink.invariant.loaded h.0
    c.deref-in-Ok-Done.ensures.value c.in-Err-write_all.ensures.bytes

pub loop-sink-smaller : goal.loop-sink-smaller
loop-sink-smaller g c =
    let e : c.in-Ok-Done.field-0 ≡ nexts.Done c.in-Ok-Done.report c.in-Ok-Done.upto c.in-Ok-Done.behind = cc in
    let h = comes_done c.loop-sink.session c.declare.new.session c.args.text.now c.loop-sink.from c.in-Ok-Done.upto c.in-Ok-Done.field-0 c.in-Ok-Done.report c.in-Ok-Done.behind e c.in-Ok-Done.ensures.ok in
    let ahead = accepted_ahead c.loop-sink.session c.declare.new.session c.args.text.now (reported c.in-Ok-Done.report) c.loop-sink.from c.in-Ok-Done.upto c.loop-sink.invariant.loaded.within h.0 in
    omega (arith, ahead.0, ahead.1)

pub loop-sink-preserved : goal.loop-sink-preserved
loop-sink-preserved g c =
    let e : c.in-Ok-Done.field-0 ≡ nexts.Done c.in-Ok-Done.report c.in-Ok-Done.upto c.in-Ok-Done.behind = cc in
    let h = comes_done c.loop-sink.session c.declare.new.session c.args.text.now c.loop-sink.from c.in-Ok-Done.upto c.in-Ok-Done.field-0 c.in-Ok-Done.report c.in-Ok-Done.behind e c.in-Ok-Done.ensures.ok in
    let ahead = accepted_ahead c.loop-sink.session c.declare.new.session c.args.text.now (reported c.in-Ok-Done.report) c.loop-sink.from c.in-Ok-Done.upto c.loop-sink.invariant.loaded.within h.0 in
    record {
      loaded = opened_more c.args.session.now c.loop-sink.session c.declare.new.session c.args.name.now c.args.text.now (reported c.in-Ok-Done.report) _ _ _ c.loop-sink.from c.in-Ok-Done.upto c.loop-sink.at c.in-Ok-Done.behind c.loop-sink.invariant.loaded h.0
          (Gains-same _ _ _ _ c.deref-in-Ok-Done.ensures.value (c.in_default-write_all-2.ensures {u = tt}).bytes) ahead.1 h.1;
      counts = (c.in_default-write_all-2.ensures {u = tt}).counts ∙ c.loop-sink.invariant.counts;
    }

pub returns-in-Err-declare-clause-lines : goal.returns-in-Err-declare-clause-lines
returns-in-Err-declare-clause-lines g c =
    opened_refused c.args.session.now c.loop-sink.session c.declare.new.session c.args.name.now c.args.text.now c.deref-in-Err-declare.result.now c.in-Err-declare.refusal _ _ _ c.loop-sink.from c.loop-sink.at c.close_refused.result c.loop-sink.invariant.loaded
    c.in-Err-declare.ensures.cause c.in-Err-declare.ensures.err (c.deref-in-Err-declare.ensures.value ∙ c.in-Ok-around.ensures) c.close_refused.ensures.lines
