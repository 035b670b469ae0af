use Rattle.std.proofs.Common.{ap, map}
use Rattle.std.specs.Prelude.{string_bytes}
use Rattle.tw_server.proofs.Counted.{holds_trans}
use Rattle.tw_server.proofs.Served.{banner_cut, cut_from, files_cut, opened_from, ran}
use Rattle.tw_server.proofs.server.run.Goals as goal

pub returns-in-Err-clause-serves : goal.returns-in-Err-clause-serves
returns-in-Err-clause-serves g c held said holds good = banner_cut held said _ _ _ _ (c.args.words.now.steps, map string_bytes c.args.words.now.files.items, good) c.requires.sound c.in-Err.ensures.bytes

pub returns-in-Err-open_all-clause-serves : goal.returns-in-Err-open_all-clause-serves
returns-in-Err-open_all-clause-serves g c held said holds good =
    let cut = cut_from (ap (map string_bytes) c.deref.ensures.value) (c.set_steps.ensures (g.F.Files.faults c.args.files.now)) (c.in-Err-open_all.ensures.opened held holds) in
    files_cut held said (map string_bytes c.args.words.now.files.items) c.args.words.now.steps _ _ good c.requires.sound (c.in_default.ensures {u = tt}).bytes cut

pub returns-clause-serves : goal.returns-clause-serves
returns-clause-serves g c held said holds good =
    let opened = opened_from (ap (map string_bytes) c.deref.ensures.value) (c.set_steps.ensures (g.F.Files.faults c.args.files.now)) ((c.in_default-open_all.ensures {u = tt}).opened held holds) in
    ran held said (map string_bytes c.args.words.now.files.items) c.args.words.now.steps _ _ _ c.commands.result good c.requires.sound (c.in_default.ensures {u = tt}).bytes opened (c.commands.ensures.commanded held (holds_trans _ _ _ holds c.open_all.ensures.files))
