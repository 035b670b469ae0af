use Rattle.std.proofs.Common.{◌∙◌, sym}
use Rattle.tw_print.specs.SceneView.{scene_before}
use Rattle.tw_print.proofs.Scenes.{entry_newest, entry_other}
use Rattle.tw_print.proofs.scene.Scene.entry.Goals as goal

pub returns-then-id-len : goal.returns-then-id-len
returns-then-id-len c = sym (entry_newest (scene_before c.args.self) c.args.self.newest c.in-Some.entry c.args.id.0 c.in-Some.is (c.if-id-len.true ∙ c.len.ensures))

pub returns : goal.returns
returns c = c.entry-2.ensures ∙ sym (entry_other (scene_before c.args.self) c.args.self.newest c.in-Some.entry c.args.id.0 c.in-Some.is (λ e. c.if-id-len.false (e ∙ sym c.len.ensures)))
