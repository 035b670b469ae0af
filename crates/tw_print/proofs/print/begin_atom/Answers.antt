use Rattle.std.proofs.Common.{◌≡◌, ◌∙◌, ap, arith, map, sym}
use Rattle.lf.specs.Entries.{signature_of}
use Rattle.tw_terms.specs.View.{args_of, spine_of}
use Rattle.tw_terms.proofs.Args.{types}
use Rattle.tw_print.specs.ArgumentView.{any_lambda, argument_of}
use Rattle.tw_print.specs.Arguments as counts
use Rattle.tw_print.specs.Due.{stacked}
use Rattle.tw_print.specs.SceneView.{scene_in}
use Rattle.tw_print.proofs.Untyped.{atom_begun, family_shown}
use Rattle.tw_print.proofs.Dues.{application_begun}
use Rattle.tw_print.proofs.Printing.{on_ok}
use Rattle.tw_print.proofs.Typed.{family_takes, showable_arguments, showable_drop}
use Rattle.tw_print.proofs.print.begin_atom.Goals as goal

pub returns : goal.returns
returns c =
    let s = scene_in c.args.scene.now in
    let Σ = signature_of s.entries in
    let G = c.args.page.now.context in
    let a = c.args.family.0 in
    let S = spine_of c.args.spine in
    let A = counts.family_type s a in
    on_ok c.push_application.result _ _
    (λ u. application_begun s c.args.inner c.args.page.now c.in_ok-word.word.items _ c.operator.result _ c.hidden.result _ (map argument_of c.in_ok-arguments.arguments.items) _ (stacked c.args.due.now.items) (stacked c.push_application.new.due.items)
    c.in_ok-word.ensures c.operator.ensures c.hidden.ensures c.in_ok-arguments.ensures u
    (showable_drop Σ G (counts.hidden s a) (counts.arguments A S) (showable_arguments Σ G S A (family_takes s G c.requires.canonical c.requires.context a S c.requires.typed)))
    c.requires.fits)
    c.push_application.ensures

pub begin_bare-requires-clause-shown : goal.begin_bare-requires-clause-shown
begin_bare-requires-clause-shown c =
    let e : args_of c.args.spine.args.items ≡ spine_of c.args.spine = grind (arith, types) in
    let n : any_lambda (args_of c.args.spine.args.items) ≡ any_lambda (args_of c.deref.result.now) = grind (arith, types) in
    family_shown (scene_in c.args.scene.now) c.args.page.now.context c.args.family.0 (spine_of c.args.spine) (args_of c.args.spine.args.items) c.requires.canonical c.requires.context (ap any_lambda (sym e) ∙ n ∙ sym c.if-not-has_lambda.ensures) e c.requires.typed

pub returns-then-not-has_lambda : goal.returns-then-not-has_lambda
returns-then-not-has_lambda c =
    let e : args_of c.args.spine.args.items ≡ spine_of c.args.spine = grind (arith, types) in
    let n : any_lambda (args_of c.args.spine.args.items) ≡ any_lambda (args_of c.deref.result.now) = grind (arith, types) in
    on_ok c.begin_bare.result _ _
    (atom_begun (scene_in c.args.scene.now) c.args.inner c.args.page.now c.begin_bare.new.page (stacked c.args.due.now.items) (stacked c.begin_bare.new.due.items) c.args.family.0 (spine_of c.args.spine) (args_of c.args.spine.args.items) (ap any_lambda (sym e) ∙ n ∙ sym c.if-not-has_lambda.ensures) e)
    c.begin_bare.ensures
