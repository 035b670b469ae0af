use Rattle.std.proofs.Common.{◌≡◌, option_map, sym, subst, arith}
use Rattle.lf.specs.Entries.{signature_of}
use Rattle.lf.specs.Syntax.{root}
use Rattle.tw_terms.specs.View.{head_of, spine_of, term_of, type_of}
use Rattle.tw_terms.proofs.Args.{types}
use Rattle.tw_print.specs.Due.{Begins, stacked}
use Rattle.tw_print.specs.SceneView.{scene_in}
use Rattle.tw_print.specs.Shown as layout
use Rattle.tw_print.proofs.Dues.{term_begun, root_showable}
use Rattle.tw_print.proofs.Printing.{on_ok}
use Rattle.tw_print.proofs.print.begin_term.Goals as goal

pub begin_root-requires-clause-typed : goal.begin_root-requires-clause-typed
begin_root-requires-clause-typed c =
    let e : term_of c.args.term ≡ root (head_of c.in-Root.head) (spine_of c.in-Root.spine) = grind (arith, types) in
    root_showable (signature_of (scene_in c.args.scene.now).entries) c.args.page.now.context (term_of c.args.term) _ _ _ e c.requires.typed

pub returns-in-Root : goal.returns-in-Root
returns-in-Root c =
    let s = scene_in c.args.scene.now in
    let p = c.args.page.now in
    let t = option_map type_of c.args.ty in
    let e : term_of c.args.term ≡ root (head_of c.in-Root.head) (spine_of c.in-Root.spine) = grind (arith, types) in
    on_ok c.begin_root.result _ _
    (λ b. subst (λ M. Begins s p c.begin_root.new.page ((layout.parts s c.args.levels).term p.context p.scope M t) (stacked c.args.due.now.items) (stacked c.begin_root.new.due.items)) (sym e)
    (term_begun s c.in_ok-inner.inner c.args.levels p c.begin_root.new.page (root (head_of c.in-Root.head) (spine_of c.in-Root.spine)) t (stacked c.args.due.now.items) (stacked c.begin_root.new.due.items) c.in_ok-inner.ensures b))
    c.begin_root.ensures
