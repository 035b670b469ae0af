use Rattle.tw_server.specs.State.{state_at}
use Rattle.tw_server.specs.declared.write.Unwritten.{Unwritten}
use Rattle.tw_server.proofs.Loads.{lines_short, loaded_alone}
use Rattle.tw_server.proofs.load.load_file.Goals as goal

pub returns-in-Ok-clause-reply : goal.returns-in-Ok-clause-reply
returns-in-Ok-clause-reply g c held holds =
    loaded_alone {E = Unwritten} held c.args.name.now c.last_line.result.now (state_at c.args.session.now (g.F.Files.faults c.args.files.now)) (state_at c.load_lines.new.session (g.F.Files.faults c.load_lines.new.files)) _ _ _ c.in-Ok.well c.write_all.result
    (c.in-Ok.ensures.lines held holds) c.last_line.ensures c.write_all.ensures.bytes

pub returns-in-Err-clause-reply : goal.returns-in-Err-clause-reply
returns-in-Err-clause-reply g c held holds =
    lines_short {E = Unwritten} held c.args.name.now (state_at c.args.session.now (g.F.Files.faults c.args.files.now)) (state_at c.load_lines.new.session (g.F.Files.faults c.load_lines.new.files)) _ _ c.in-Err.error (c.in-Err.ensures.lines held holds)
