use Rattle.std.proofs.Common.{◌∙◌, ◌+◌, drop, map, take, Ok, Err}
use Rattle.std.specs.Prelude.{string_bytes}
use Rattle.tw_server.specs.State.{state_at}
use Rattle.tw_server.specs.declared.write.Unwritten.{Unwritten}
use Rattle.tw_server.proofs.Counted.{holds_trans}
use Rattle.tw_server.proofs.Served.{loaded_as, name_among, names_next, opened_next, opened_on, opened_short}
use Rattle.tw_server.proofs.server.open_all.Goals as goal

pub returns-in-Err-clause-opened : goal.returns-in-Err-clause-opened
returns-in-Err-clause-opened g c held holds =
    let i = c.loop-name.invariant in
    let u = state_at c.loop-name.session (g.F.Files.faults c.loop-name.files) in
    let w = state_at c.load_file.new.session (g.F.Files.faults c.load_file.new.files) in
    opened_short {E = Unwritten} held (map string_bytes c.args.names.now) (take c.loop-name.name-index (map string_bytes c.args.names.now)) (drop (c.loop-name.name-index + 1) (map string_bytes c.args.names.now)) (string_bytes c.name-item.result) _ u w _ _ _ c.in-Err.error
    (name_among string_bytes c.args.names.now c.loop-name.name-index c.name-item.result c.loop-name-test.true c.name-item.is) (i.opened held holds)
    (loaded_as Unwritten held c.deref.result.now (string_bytes c.name-item.result) u w (g.K.Sink.written c.loop-name.sink) (g.K.Sink.written c.load_file.new.sink) (Err c.in-Err.error) c.deref.ensures ((c.in-Err.ensures {u = tt}).reply held (holds_trans _ _ _ holds i.files)))

pub loop-name-preserved : goal.loop-name-preserved
loop-name-preserved g c =
    let i = c.loop-name.invariant in
    let u = state_at c.loop-name.session (g.F.Files.faults c.loop-name.files) in
    let w = state_at c.load_file.new.session (g.F.Files.faults c.load_file.new.files) in
    record {
      opened = λ held holds. opened_on (names_next string_bytes c.args.names.now c.loop-name.name-index c.name-item.result c.loop-name-test.true c.name-item.is)
          (
          opened_next Unwritten held (take c.loop-name.name-index (map string_bytes c.args.names.now)) (string_bytes c.name-item.result) _ u w _ _ _ c.in_default.field-0 (i.opened held holds)
          (loaded_as Unwritten held c.deref.result.now (string_bytes c.name-item.result) u w (g.K.Sink.written c.loop-name.sink) (g.K.Sink.written c.load_file.new.sink) (Ok c.in_default.field-0) c.deref.ensures ((c.in_default.ensures {u = tt}).reply held (holds_trans _ _ _ holds i.files)))
          );
      counts = (c.in_default.ensures {u = tt}).counts ∙ i.counts;
      files = holds_trans _ _ _ i.files c.load_file.ensures.files;
    }
