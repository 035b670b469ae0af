use Rattle.std.proofs.Common.{refl}
use Rattle.tw_terms.specs.View.{term_of, type_of}
use Rattle.tw_print.specs.SceneView.{scene_in}
use Rattle.tw_print.specs.ShowEnv.{scene_of}
use Rattle.tw_print.proofs.Equal.{equal_context, equal_side}
use Rattle.tw_print.proofs.show.show_term_in_scope.Goals as goal

pub print_term-requires-clause-context : goal.print_term-requires-clause-context
print_term-requires-clause-context c = equal_context (scene_in c.scene-scene.result) (scene_of c.args.env.now) c.args.context c.args.context c.scene-scene.ensures refl c.requires.context

pub print_term-requires-clause-typed : goal.print_term-requires-clause-typed
print_term-requires-clause-typed c = equal_side (scene_in c.scene-scene.result) (scene_of c.args.env.now) c.args.context c.args.context (term_of c.args.term.now) (type_of c.args.ty.now) c.scene-scene.ensures refl c.requires.ty c.requires.term
