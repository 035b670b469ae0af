use Rattle.std.proofs.Common.{◌≡◌, ◌+◌, ◌-◌, ◌^◌}
use Rattle.tw_server.specs.Gather.{TextSoFar}
use Rattle.tw_server.proofs.text.read_text.Given as goal

abbrev pub invariant-loop-byte : goal.invariant-loop-byte
invariant-loop-byte g l = record {
  text : TextSoFar l.fn.feed (g.S.Source.left l.fn.source) l.feed (g.S.Source.left l.source) l.text.lost l.text.bytes.items l.cut;
  counts : g.S.Source.faults l.source ≡ g.S.Source.faults l.fn.source;
}

abbrev pub decreases-loop-byte : goal.decreases-loop-byte
decreases-loop-byte g l = 2 ^ 40 + 1 - l.feed.seen
