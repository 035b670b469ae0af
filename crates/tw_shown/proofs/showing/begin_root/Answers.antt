use Rattle.std.proofs.Common.{None, map}
use Rattle.lf.specs.Entries.{signature_of}
use Rattle.tw_print.specs.Arguments.{arguments, head_hidden, head_type}
use Rattle.tw_print.specs.ArgumentView.{argument_of}
use Rattle.tw_print.specs.ShowEnv.{scene_of}
use Rattle.tw_print.proofs.Typed.{root_takes, showable_arguments, showable_drop}
use Rattle.tw_shown.specs.Due.{stacked}
use Rattle.tw_shown.specs.Shown.{of_head}
use Rattle.tw_shown.proofs.Dues.{head_begun}
use Rattle.tw_shown.proofs.Walking.{on_ok}
use Rattle.tw_terms.specs.View.{head_of, spine_of}
use Rattle.tw_shown.proofs.showing.begin_root.Goals as goal

pub returns : goal.returns
returns c =
    let s = scene_of c.args.env.now in
    let Σ = signature_of s.entries in
    let G = c.args.walk.now.context in
    let h = head_of c.args.head in
    let S = spine_of c.args.spine in
    let A = head_type s G h in
    on_ok c.show_head.result _ _
    (head_begun s c.args.inner c.args.walk.now c.show_head.new.self (of_head h) c.head_hidden.result (head_hidden s h) (map argument_of c.in_ok-arguments.arguments.items) (arguments A S) (stacked c.args.due.now.items) (stacked c.push_arguments.new.due.items)
    (c.in_ok-push_arguments.ensures s) c.head_hidden.ensures c.in_ok-arguments.ensures (showable_drop Σ G (head_hidden s h) (arguments A S) (showable_arguments Σ G S A (root_takes s G c.requires.canonical c.requires.context h S None c.requires.typed))) c.requires.fits)
    c.show_head.ensures
