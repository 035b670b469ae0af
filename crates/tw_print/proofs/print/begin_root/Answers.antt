use Rattle.std.proofs.Common.{◌≡◌, None, arith, map}
use Rattle.lf.specs.Entries.{signature_of}
use Rattle.tw_terms.specs.View.{args_of, head_of, spine_of}
use Rattle.tw_terms.proofs.Args.{types}
use Rattle.tw_print.specs.ArgumentView.{argument_of}
use Rattle.tw_print.specs.Arguments as counts
use Rattle.tw_print.specs.Due.{stacked}
use Rattle.tw_print.specs.SceneView.{scene_in}
use Rattle.tw_print.proofs.Untyped.{root_begun, root_shown}
use Rattle.tw_print.proofs.Dues.{application_begun}
use Rattle.tw_print.proofs.Printing.{on_ok}
use Rattle.tw_print.proofs.Typed.{root_takes, showable_arguments, showable_drop}
use Rattle.tw_print.proofs.print.begin_root.Goals as goal

pub returns : goal.returns
returns c =
    let s = scene_in c.args.scene.now in
    let Σ = signature_of s.entries in
    let G = c.args.page.now.context in
    let h = head_of c.args.head in
    let S = spine_of c.args.spine in
    let A = counts.head_type s G h in
    on_ok c.push_application.result _ _
    (λ u. application_begun s c.args.inner c.args.page.now c.in_ok-word.word.items _ c.head_operator.result _ c.head_hidden.result _ (map argument_of c.in_ok-arguments.arguments.items) _ (stacked c.args.due.now.items) (stacked c.push_application.new.due.items)
    c.in_ok-word.ensures c.head_operator.ensures c.head_hidden.ensures c.in_ok-arguments.ensures u
    (showable_drop Σ G (counts.head_hidden s h) (counts.arguments A S) (showable_arguments Σ G S A (root_takes s G c.requires.canonical c.requires.context h S None c.requires.typed)))
    c.requires.fits)
    c.push_application.ensures

pub begin_bare-requires-clause-shown : goal.begin_bare-requires-clause-shown
begin_bare-requires-clause-shown c =
    let e : args_of c.args.spine.args.items ≡ spine_of c.args.spine = grind (arith, types) in
    let k = c.in-Some.ensures in
    root_shown (scene_in c.args.scene.now) c.args.page.now.context (head_of c.args.head) c.in-Some.id.0 (spine_of c.args.spine) (args_of c.args.spine.args.items) c.requires.canonical c.requires.context k.0 k.1 e c.requires.typed

pub returns-in-Some : goal.returns-in-Some
returns-in-Some c =
    let e : args_of c.args.spine.args.items ≡ spine_of c.args.spine = grind (arith, types) in
    let k = c.in-Some.ensures in
    on_ok c.begin_bare.result _ _
    (root_begun (scene_in c.args.scene.now) c.args.inner c.args.page.now c.begin_bare.new.page (stacked c.args.due.now.items) (stacked c.begin_bare.new.due.items) (head_of c.args.head) c.in-Some.id.0 (spine_of c.args.spine) (args_of c.args.spine.args.items) k.0 k.1 e)
    c.begin_bare.ensures
