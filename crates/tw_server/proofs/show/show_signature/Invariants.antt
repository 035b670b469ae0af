use Rattle.std.proofs.Common.{◌≡◌}
use Rattle.tw_ports.specs.Ports.{Gains}
use Rattle.tw_server.specs.Loading.{first_lines}
use Rattle.tw_server.proofs.show.show_signature.Given as goal

abbrev pub invariant-loop-number : goal.invariant-loop-number
invariant-loop-number g l = record {
  gains : Gains (g.K.Sink.written l.fn.sink) (g.K.Sink.written l.sink) (first_lines l.session l.number);
  counts : g.K.Sink.faults l.sink ≡ g.K.Sink.faults l.fn.sink;
}
