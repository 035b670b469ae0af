use Rattle.std.proofs.Common.{rules}
use Rattle.lf.specs.Entries.{signature_of}
use Rattle.tw_terms.specs.View.{type_of}
use Rattle.tw_print.specs.Due.{stacked}
use Rattle.tw_print.specs.SceneView.{scene_in}
use Rattle.tw_print.specs.Shown as layout
use Rattle.tw_print.proofs.Dues.{all_written, type_alone}
use Rattle.tw_print.proofs.Printing.{on_ok}
use Rattle.tw_print.proofs.print.print_type.Goals as goal

pub write_due-requires-clause-fits : goal.write_due-requires-clause-fits
write_due-requires-clause-fits c =
    let G = c.args.page.now.context in
    let Σ = signature_of (scene_in c.args.scene.now).entries in
    (type_alone (scene_in c.args.scene.now) c.args.levels (type_of c.args.ty.now) (type_of c.in_ok-copy.field-0) c.new-due.result.items (stacked c.push_type.new.due.items) (search rules) c.in_ok-copy.ensures c.in_ok-push_type.ensures).fits Σ G c.requires.typed

pub returns : goal.returns
returns c =
    let s = scene_in c.args.scene.now in
    let G = c.args.page.now.context in
    let ns = c.args.page.now.scope in
    let e = type_alone s c.args.levels (type_of c.args.ty.now) (type_of c.in_ok-copy.field-0) c.new-due.result.items (stacked c.push_type.new.due.items) (search rules) c.in_ok-copy.ensures c.in_ok-push_type.ensures in
    on_ok c.write_due.result _ _
    (λ g. all_written s c.args.page.now c.write_due.new.page ((layout.parts s c.args.levels).type G ns (type_of c.args.ty.now)) (stacked c.push_type.new.due.items) g (e.pieces G ns) (e.context G) (e.scope ns))
    c.write_due.ensures
