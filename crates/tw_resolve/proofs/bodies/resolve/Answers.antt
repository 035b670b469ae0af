use Rattle.std.proofs.Common.{[], ap, ◌∙◌}
use Rattle.tw_approx.specs.Answer.{rows_of}
use Rattle.tw_parse.specs.View.{declaration_of}
use Rattle.tw_resolve.specs.Resolved.{names_of, taken_whole, body_read}
use Rattle.tw_resolve.specs.Rest.{rest_of}
use Rattle.tw_resolve.proofs.Answering.{with_names}
use Rattle.tw_resolve.proofs.bodies.resolve.Goals as goal

pub returns : goal.returns
returns c =
    let es = c.args.signature.now in
    let d = declaration_of c.args.decl.now in
    let r = c.in_ok-resolving.resolving in
    let free = names_of (rows_of c.args.rows.now) in
    let new = c.in_ok-resolving.ensures in
    let read = c.in_ok-body.ensures ∙ with_names (λ f n. body_read es f n d (rest_of r)) r.free free r.scope [] new.free new.scope ∙ ap (body_read es free [] d) new.rest in
    c.whole.ensures ∙ ap taken_whole read
