use Rattle.std.proofs.Common.{◌≡◌, ◌-◌, [], length, drop}
use Rattle.tw_print.specs.Shown.{context_names}
use Rattle.tw_print.specs.SceneView.{scene_in}
use Rattle.tw_print.proofs.context.page_in.Given as goal

abbrev pub invariant-loop-outside : goal.invariant-loop-outside
invariant-loop-outside l = record {
  out : l.page.out.items ≡ [];
  context : l.page.context ≡ drop (length l.context - l.outside) l.context;
  scope : l.page.scope ≡ context_names (scene_in l.scene) (drop (length l.context - l.outside) l.context);
}
