use Rattle.std.proofs.Common.{◌≡◌, ◌∙◌, sym, arith, None, map}
use Rattle.lf.specs.Entries.{signature_of}
use Rattle.tw_terms.specs.View.{head_of, spine_of, args_of, type_of}
use Rattle.tw_terms.proofs.Args.{types}
use Rattle.tw_print.specs.ArgumentView.{argument_of, any_lambda}
use Rattle.tw_print.specs.Arguments as counts
use Rattle.tw_print.specs.SceneView.{scene_in}
use Rattle.tw_print.proofs.Typed.{if_ok, bare_by, takes_by, root_takes}
use Rattle.tw_print.proofs.heads.head_arguments.Goals as goal

pub returns-then-not-has_lambda : goal.returns-then-not-has_lambda
returns-then-not-has_lambda c =
    let e : args_of c.args.spine.args.items ≡ spine_of c.args.spine = grind (arith, types) in
    let n : any_lambda (args_of c.args.spine.args.items) ≡ any_lambda (args_of c.deref.result.now) = grind (arith, types) in
    if_ok c.bare_arguments.result _ _ (λ xs h. bare_by (map argument_of xs.items) (spine_of c.args.spine) (args_of c.args.spine.args.items) (counts.head_type (scene_in c.args.scene.now) c.args.context.now (head_of c.args.head)) h e (n ∙ sym c.if-not-has_lambda.ensures)) c.bare_arguments.ensures

pub typed_arguments-requires : goal.typed_arguments-requires
typed_arguments-requires c =
    let e : args_of c.args.spine.args.items ≡ spine_of c.args.spine = grind (arith, types) in
    takes_by (signature_of (scene_in c.args.scene.now).entries) c.args.context.now (spine_of c.args.spine) (args_of c.args.spine.args.items) (counts.head_type (scene_in c.args.scene.now) c.args.context.now (head_of c.args.head)) (type_of c.in_ok-ty.ty) (root_takes (scene_in c.args.scene.now) c.args.context.now c.requires.canonical c.requires.context (head_of c.args.head) (spine_of c.args.spine) None c.requires.typed) e c.in_ok-ty.ensures
