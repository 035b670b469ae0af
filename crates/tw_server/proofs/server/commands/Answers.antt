use Rattle.std.proofs.Common.{◌∙◌, refl, None, arith}
use Rattle.tw_server.proofs.Counted.{status_counts_on, holds_refl, holds_trans}
use Rattle.tw_server.proofs.Served.{commanded, so_far_more, so_far_nil}
use Rattle.tw_server.proofs.Turned.{turn_onward}
use Rattle.tw_server.proofs.server.commands.Goals as goal

pub loop-next-init : goal.loop-next-init
loop-next-init g c = record { run = λ held holds. so_far_nil held _ _ _ _ _ c.requires.fresh refl; reads = refl; writes = refl; files = holds_refl _ }

pub turn-requires : goal.turn-requires
turn-requires g c = let i = c.loop-next.invariant.run None tt in record { phase = (i.next, i.is_next) }

pub returns-in-Err-clause-commanded : goal.returns-in-Err-clause-commanded
returns-in-Err-clause-commanded g c held holds =
    let i = c.loop-next.invariant.run held holds in
    commanded _ i (c.in-Err.ensures.moves held i.next (holds_trans _ _ _ holds c.loop-next.invariant.files) i.is_next)

pub returns-in-Err-clause-counts : goal.returns-in-Err-clause-counts
returns-in-Err-clause-counts g c = status_counts_on _ _ _ _ _ _ _ c.loop-next.invariant.reads c.loop-next.invariant.writes c.in-Err.ensures.counts

pub returns-in-Err-clause-files : goal.returns-in-Err-clause-files
returns-in-Err-clause-files g c = holds_trans _ _ _ c.loop-next.invariant.files c.turn.ensures.files

pub loop-next-preserved : goal.loop-next-preserved
loop-next-preserved g c = record {
  run = λ held holds.
      let i = c.loop-next.invariant.run held holds in
      so_far_more c.in-Ok.next i (c.in-Ok.ensures.moves held i.next (holds_trans _ _ _ holds c.loop-next.invariant.files) i.is_next);
  reads = c.in-Ok.ensures.counts.0 ∙ c.loop-next.invariant.reads;
  writes = c.in-Ok.ensures.counts.1 ∙ c.loop-next.invariant.writes;
  files = holds_trans _ _ _ c.loop-next.invariant.files c.turn.ensures.files;
}

pub loop-next-smaller : goal.loop-next-smaller
loop-next-smaller g c =
    let i = c.loop-next.invariant.run None tt in
    let m = c.in-Ok.ensures.moves None i.next tt i.is_next in
    let few = m.within in
    let more = turn_onward None (g.S.Source.left c.turn.new.source) c.turn.new.feed i.next _ _ c.in-Ok.next m in
    omega arith
