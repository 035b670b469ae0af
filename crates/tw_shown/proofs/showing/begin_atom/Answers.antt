use Rattle.std.proofs.Common.{map}
use Rattle.lf.specs.Entries.{signature_of}
use Rattle.tw_print.specs.Arguments.{arguments, family_type, hidden}
use Rattle.tw_print.specs.ArgumentView.{argument_of}
use Rattle.tw_print.specs.ShowEnv.{scene_of}
use Rattle.tw_print.proofs.Typed.{family_takes, showable_arguments, showable_drop}
use Rattle.tw_shown.specs.Due.{stacked}
use Rattle.tw_shown.proofs.Dues.{arguments_begun}
use Rattle.tw_shown.proofs.Walking.{on_ok}
use Rattle.tw_terms.specs.View.{spine_of}
use Rattle.tw_shown.proofs.showing.begin_atom.Goals as goal

pub returns : goal.returns
returns c =
    let s = scene_of c.args.env.now in
    let Σ = signature_of s.entries in
    let G = c.args.walk.now.context in
    let a = c.args.family.0 in
    let S = spine_of c.args.spine in
    let A = family_type s a in
    on_ok c.push_arguments.result _ _
    (λ u. arguments_begun s c.args.inner c.args.walk.now c.hidden.result (hidden s a) (map argument_of c.in_ok-arguments.arguments.items) (arguments A S) (stacked c.args.due.now.items) (stacked c.push_arguments.new.due.items)
    c.hidden.ensures c.in_ok-arguments.ensures (u s) (showable_drop Σ G (hidden s a) (arguments A S) (showable_arguments Σ G S A (family_takes s G c.requires.canonical c.requires.context a S c.requires.typed))) c.requires.fits)
    c.push_arguments.ensures
