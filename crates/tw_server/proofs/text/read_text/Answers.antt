use Rattle.std.proofs.Common.{◌∙◌, sym, inl, inr, arith}
use Rattle.tw_server.proofs.Seen.{text_more, text_open}
use Rattle.tw_server.proofs.text.read_text.Goals as goal
use Rattle.tw_server.proofs.text.read_text.Goals.{else-byte-eq10-via-then-byte-eq10+else-is_done, else-byte-eq10-via-else-byte-eq10}

pub loop-byte-preserved : goal.loop-byte-preserved
loop-byte-preserved g c = record {
  text = text_more c.in-Ok.byte c.loop-byte.invariant.text c.in-Ok.ensures.byte.0 c.push.ensures c.cut_piece-cut.ensures.state
      (elim c.else-byte-eq10.branch [
        | else-byte-eq10-via-then-byte-eq10+else-is_done w ↦ inl (w.if-byte-eq10.true, sym w.if-is_done.ensures)
        | else-byte-eq10-via-else-byte-eq10 w ↦ inr w.if-byte-eq10.false
      ]);
  counts = c.in-Ok.ensures.counts ∙ c.loop-byte.invariant.counts;
}

pub cut_piece-cut-requires : goal.cut_piece-cut-requires
cut_piece-cut-requires g c =
    let o = text_open c.loop-byte.invariant.text in
    let s = c.in-Ok.ensures.byte.0.counted in
    let w = c.in-Ok.ensures.byte.1 in
    omega arith
