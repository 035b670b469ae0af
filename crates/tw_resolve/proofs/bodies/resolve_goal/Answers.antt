use Rattle.std.proofs.Common.{[], false, ap, ◌∙◌}
use Rattle.tw_approx.specs.Answer.{rows_of}
use Rattle.tw_parse.specs.View.{term_of}
use Rattle.tw_resolve.specs.Resolved.{names_of, taken_whole, classifier_read}
use Rattle.tw_resolve.specs.Rest.{rest_of}
use Rattle.tw_resolve.proofs.Answering.{with_names}
use Rattle.tw_resolve.proofs.bodies.resolve_goal.Goals as goal

pub returns : goal.returns
returns c =
    let es = c.args.signature.now in
    let U = term_of c.args.goal.now in
    let r = c.in_ok-resolving.resolving in
    let free = names_of (rows_of c.args.rows.now) in
    let new = c.in_ok-resolving.ensures in
    let read = c.in_ok-body.ensures ∙ with_names (λ f n. classifier_read es f n false U (rest_of r)) r.free free r.scope [] new.free new.scope ∙ ap (classifier_read es free [] false U) new.rest in
    c.whole.ensures ∙ ap taken_whole read
