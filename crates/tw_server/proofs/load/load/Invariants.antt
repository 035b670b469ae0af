use Rattle.std.proofs.Common.{◌≡◌, ◌-◌, length}
use Rattle.tw_server.specs.Loaded.{LoadedSoFar}
use Rattle.tw_server.proofs.load.load.Given as goal

abbrev pub invariant-loop-sink : goal.invariant-loop-sink
invariant-loop-sink g l = record {
  loaded : LoadedSoFar l.fn.session l.fn.name l.fn.text (g.K.Sink.written l.fn.sink) (g.K.Sink.written l.sink) l.session l.from l.at;
  counts : g.K.Sink.faults l.sink ≡ g.K.Sink.faults l.fn.sink;
}

abbrev pub decreases-loop-sink : goal.decreases-loop-sink
decreases-loop-sink g l = length l.text - l.from
