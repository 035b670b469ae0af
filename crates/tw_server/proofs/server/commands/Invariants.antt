use Rattle.std.proofs.Common.{◌≡◌, ◌+◌, ◌-◌, ◌^◌}
use Rattle.std.specs.declared.option.Option.{Option}
use Rattle.tw_ports.specs.Files.{Held, HoldsOn}
use Rattle.tw_server.specs.State.{state_at}
use Rattle.tw_server.specs.Turns.{RanSoFar}
use Rattle.tw_server.proofs.server.commands.Given as goal

abbrev pub invariant-loop-next : goal.invariant-loop-next
invariant-loop-next g l = record {
  run : (held : Option Held) → HoldsOn held (g.F.Files.held l.fn.files)
      → RanSoFar held (g.S.Source.left l.fn.source) (g.S.Source.left l.source) (g.K.Sink.written l.fn.sink) (g.K.Sink.written l.sink) (state_at l.fn.session (g.F.Files.faults l.fn.files)) l.feed l.phase (state_at l.session (g.F.Files.faults l.files));
  reads : g.S.Source.faults l.source ≡ g.S.Source.faults l.fn.source;
  writes : g.K.Sink.faults l.sink ≡ g.K.Sink.faults l.fn.sink;
  files : HoldsOn (g.F.Files.held l.fn.files) (g.F.Files.held l.files);
}

abbrev pub decreases-loop-next : goal.decreases-loop-next
decreases-loop-next g l = 2 ^ 40 + 1 - l.feed.seen
