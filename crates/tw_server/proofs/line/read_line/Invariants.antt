use Rattle.std.proofs.Common.{◌≡◌, ◌+◌, ◌-◌, ◌^◌}
use Rattle.tw_server.specs.Gather.{LineSoFar}
use Rattle.tw_server.proofs.line.read_line.Given as goal

abbrev pub invariant-loop-byte : goal.invariant-loop-byte
invariant-loop-byte g l = record {
  line : LineSoFar l.fn.feed (g.S.Source.left l.fn.source) l.feed (g.S.Source.left l.source) l.line;
  counts : g.S.Source.faults l.source ≡ g.S.Source.faults l.fn.source;
}

abbrev pub decreases-loop-byte : goal.decreases-loop-byte
decreases-loop-byte g l = 2 ^ 40 + 1 - l.feed.seen
