use Rattle.tw_terms.specs.View.{term_of, type_of}
use Rattle.tw_print.specs.SceneView.{scene_in}
use Rattle.tw_print.specs.ShowEnv.{scene_of}
use Rattle.tw_print.proofs.Typed.{context_shown, term_shown}
use Rattle.tw_print.proofs.show.show_term.Goals as goal

pub print_term-requires-clause-context : goal.print_term-requires-clause-context
print_term-requires-clause-context c = context_shown (scene_in c.scene-scene.result) (scene_of c.args.env.now) c.args.context.now c.in_ok-page.page.context c.scene-scene.ensures c.in_ok-page.ensures.context c.requires.context

pub print_term-requires-clause-typed : goal.print_term-requires-clause-typed
print_term-requires-clause-typed c =
    term_shown (scene_in c.scene-scene.result) (scene_of c.args.env.now) c.args.context.now c.in_ok-page.page.context (term_of c.args.term.now) (type_of c.args.ty.now) c.scene-scene.ensures c.in_ok-page.ensures.context c.requires.ty c.requires.term
