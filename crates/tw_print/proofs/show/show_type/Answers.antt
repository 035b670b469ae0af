use Rattle.tw_terms.specs.View.{type_of}
use Rattle.tw_print.specs.SceneView.{scene_in}
use Rattle.tw_print.specs.ShowEnv.{scene_of}
use Rattle.tw_print.proofs.Typed.{context_shown, type_shown}
use Rattle.tw_print.proofs.show.show_type.Goals as goal

pub print_type-requires-clause-context : goal.print_type-requires-clause-context
print_type-requires-clause-context c = context_shown (scene_in c.scene-scene.result) (scene_of c.args.env.now) c.args.context.now c.in_ok-page.page.context c.scene-scene.ensures c.in_ok-page.ensures.context c.requires.context

pub print_type-requires-clause-typed : goal.print_type-requires-clause-typed
print_type-requires-clause-typed c = type_shown (scene_in c.scene-scene.result) (scene_of c.args.env.now) c.args.context.now c.in_ok-page.page.context (type_of c.args.ty.now) c.scene-scene.ensures c.in_ok-page.ensures.context c.requires.ty
