use Rattle.std.proofs.Common.{◌≡◌, ◌∙◌, sym, arith, map}
use Rattle.lf.specs.Entries.{signature_of}
use Rattle.tw_terms.specs.View.{spine_of, args_of, type_of}
use Rattle.tw_terms.proofs.Args.{types}
use Rattle.tw_print.specs.ArgumentView.{argument_of, any_lambda}
use Rattle.tw_print.specs.Arguments as counts
use Rattle.tw_print.specs.SceneView.{scene_in}
use Rattle.tw_print.proofs.Typed.{if_ok, bare_by, takes_by, family_takes}
use Rattle.tw_print.proofs.heads.family_arguments.Goals as goal

pub returns-then-not-has_lambda : goal.returns-then-not-has_lambda
returns-then-not-has_lambda c =
    let e : args_of c.args.spine.args.items ≡ spine_of c.args.spine = grind (arith, types) in
    let n : any_lambda (args_of c.args.spine.args.items) ≡ any_lambda (args_of c.deref.result.now) = grind (arith, types) in
    if_ok c.bare_arguments.result _ _ (λ xs h. bare_by (map argument_of xs.items) (spine_of c.args.spine) (args_of c.args.spine.args.items) (counts.family_type (scene_in c.args.scene.now) c.args.family.0) h e (n ∙ sym c.if-not-has_lambda.ensures)) c.bare_arguments.ensures

pub typed_arguments-requires : goal.typed_arguments-requires
typed_arguments-requires c =
    let e : args_of c.args.spine.args.items ≡ spine_of c.args.spine = grind (arith, types) in
    takes_by (signature_of (scene_in c.args.scene.now).entries) c.args.context.now (spine_of c.args.spine) (args_of c.args.spine.args.items) (counts.family_type (scene_in c.args.scene.now) c.args.family.0) (type_of c.in_ok-ty.ty) (family_takes (scene_in c.args.scene.now) c.args.context.now c.requires.canonical c.requires.context c.args.family.0 (spine_of c.args.spine) c.requires.typed) e c.in_ok-ty.ensures
