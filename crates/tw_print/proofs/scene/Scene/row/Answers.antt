use Rattle.std.proofs.Common.{◌∙◌, sym, ap}
use Rattle.std.specs.Str.{bytes_eq}
use Rattle.tw_print.specs.SceneView.{scene_before}
use Rattle.tw_print.proofs.Scenes.{row_newest, row_other}
use Rattle.tw_print.proofs.scene.Scene.row.Goals as goal

pub returns-then-eq : goal.returns-then-eq
returns-then-eq c = sym (row_newest (scene_before c.args.self) c.args.self.newest c.in-Some.entry c.args.name.now c.in-Some.is (ap (bytes_eq c.args.name.now) (sym c.as_bytes.ensures) ∙ sym c.eq.ensures ∙ c.if-eq.true))

pub returns : goal.returns
returns c = c.get_bytes-2.ensures ∙ sym (row_other (scene_before c.args.self) c.args.self.newest c.in-Some.entry c.args.name.now c.in-Some.is (ap (bytes_eq c.args.name.now) (sym c.as_bytes.ensures) ∙ sym c.eq.ensures ∙ c.if-eq.false))
