use Rattle.std.proofs.Common.{refl, false}
use Rattle.tw_ports.specs.declared.files.FileAnswer.TheVariants as answers
use Rattle.tw_server.specs.Replies.{file_fault, file_long, no_file, no_memory}
use Rattle.tw_server.specs.State.{state_at}
use Rattle.tw_server.proofs.Loads.{loaded, loaded_line}
use Rattle.tw_server.proofs.load.load_lines.Goals as goal

pub returns-in-Absent-clause-lines : goal.returns-in-Absent-clause-lines
returns-in-Absent-clause-lines g c held holds =
    loaded_line held (g.F.Files.held c.args.files.now) c.args.name.now c.as_bytes.result.now (state_at c.args.session.now (g.F.Files.faults c.args.files.now)) (state_at c.args.session.now (g.F.Files.faults c.read_file.new.self)) _ _ no_file answers.Absent c.not_opened.result
    holds c.in-Absent.ensures.tells c.in-Absent.ensures.within c.in-Absent.ensures.counts (record { says = refl; ill = refl; same = refl }) c.as_bytes.ensures.value c.not_opened.ensures.lines

pub returns-in-TooLong-clause-lines : goal.returns-in-TooLong-clause-lines
returns-in-TooLong-clause-lines g c held holds =
    loaded_line held (g.F.Files.held c.args.files.now) c.args.name.now c.as_bytes-in-TooLong.result.now (state_at c.args.session.now (g.F.Files.faults c.args.files.now)) (state_at c.args.session.now (g.F.Files.faults c.read_file.new.self)) _ _ file_long answers.TooLong c.not_opened-in-TooLong.result
    holds c.in-TooLong.ensures.tells c.in-TooLong.ensures.within c.in-TooLong.ensures.counts (record { says = refl; ill = refl; same = refl }) c.as_bytes-in-TooLong.ensures.value c.not_opened-in-TooLong.ensures.lines

pub returns-in-Failed-clause-lines : goal.returns-in-Failed-clause-lines
returns-in-Failed-clause-lines g c held holds =
    loaded_line held (g.F.Files.held c.args.files.now) c.args.name.now c.as_bytes-in-Failed.result.now (state_at c.args.session.now (g.F.Files.faults c.args.files.now)) (state_at c.args.session.now (g.F.Files.faults c.read_file.new.self)) _ _ file_fault answers.Failed c.not_opened-in-Failed.result
    holds c.in-Failed.ensures.tells c.in-Failed.ensures.within c.in-Failed.ensures.counts (record { says = refl; ill = refl; same = refl }) c.as_bytes-in-Failed.ensures.value c.not_opened-in-Failed.ensures.lines

pub returns-in-NoMemory-clause-lines : goal.returns-in-NoMemory-clause-lines
returns-in-NoMemory-clause-lines g c held holds =
    loaded held (g.F.Files.held c.args.files.now) c.args.name.now (state_at c.args.session.now (g.F.Files.faults c.args.files.now)) (state_at c.args.session.now (g.F.Files.faults c.read_file.new.self)) _ _ no_memory false answers.NoMemory c.close.result
    holds c.in-NoMemory.ensures.tells c.in-NoMemory.ensures.within c.in-NoMemory.ensures.counts (record { says = refl; ill = refl; same = refl }) c.close.ensures.lines
