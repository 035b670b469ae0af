use Rattle.std.proofs.Common.{refl}
use Rattle.tw_terms.specs.View.{term_of, type_of}
use Rattle.tw_print.specs.SceneView.{scene_in}
use Rattle.tw_print.specs.ShowEnv.{scene_of}
use Rattle.tw_print.proofs.Equal.{equal_context, equal_side, equal_written}
use Rattle.tw_print.proofs.show.show_equal.Goals as goal

pub print_term-requires-clause-context : goal.print_term-requires-clause-context
print_term-requires-clause-context c = equal_context (scene_in c.scene-scene.result) (scene_of c.args.env.now) c.args.context c.args.context c.scene-scene.ensures refl c.requires.context

pub print_term-requires-clause-typed : goal.print_term-requires-clause-typed
print_term-requires-clause-typed c = equal_side (scene_in c.scene-scene.result) (scene_of c.args.env.now) c.args.context c.args.context (term_of c.args.left.now) (type_of c.args.ty.now) c.scene-scene.ensures refl c.requires.ty c.requires.left

pub returns : goal.returns
returns c =
    equal_written (scene_in c.scene-scene.result) (scene_of c.args.env.now) c.all_levels.result c.all_levels-2.result (term_of c.args.left.now) (term_of c.args.right.now) (type_of c.args.ty.now)
    (record { out = c.new.result; context = c.args.context; scope = c.args.names }) c.print_term.new.page c.space.new.self c.token.new.self c.space-2.new.self c.print_term-2.new.page
    c.scene-scene.ensures c.all_levels.ensures c.all_levels-2.ensures c.new.ensures.items c.in_ok-print_term.ensures c.in_ok-space.ensures c.in_ok-token.ensures c.in_ok-space-2.ensures c.in_ok-print_term-2.ensures
