use Rattle.std.proofs.Common.{◌≡◌}
use Rattle.tw_server.specs.Loaded.{BelowSoFar}
use Rattle.tw_server.proofs.subordination.show_subordination.Given as goal

abbrev pub invariant-loop-number : goal.invariant-loop-number
invariant-loop-number g l = record {
  so_far : BelowSoFar l.session l.number (g.K.Sink.written l.fn.sink) (g.K.Sink.written l.sink);
  counts : g.K.Sink.faults l.sink ≡ g.K.Sink.faults l.fn.sink;
}
