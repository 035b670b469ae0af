use Rattle.std.proofs.Common.{◌≡◌, take, map}
use Rattle.std.specs.Prelude.{string_bytes}
use Rattle.std.specs.declared.option.Option.{Option}
use Rattle.tw_ports.specs.Files.{Held, HoldsOn}
use Rattle.tw_server.specs.State.{state_at}
use Rattle.tw_server.specs.Turns.{OpenedSoFar}
use Rattle.tw_server.proofs.server.open_all.Given as goal

abbrev pub invariant-loop-name : goal.invariant-loop-name
invariant-loop-name g l = record {
  opened : (held : Option Held) → HoldsOn held (g.F.Files.held l.fn.files)
      → OpenedSoFar held (take l.name-index (map (λ f. string_bytes f) l.fn.names)) (state_at l.fn.session (g.F.Files.faults l.fn.files)) (g.K.Sink.written l.fn.sink) (g.K.Sink.written l.sink) (state_at l.session (g.F.Files.faults l.files));
  counts : g.K.Sink.faults l.sink ≡ g.K.Sink.faults l.fn.sink;
  files : HoldsOn (g.F.Files.held l.fn.files) (g.F.Files.held l.files);
}
