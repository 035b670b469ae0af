use Rattle.std.proofs.Common.{map, ap, ◌∙◌}
use Rattle.tw_approx.specs.Answer.{rows_of}
use Rattle.tw_parse.specs.View.{declaration_of}
use Rattle.tw_resolve.proofs.WholeBodies.{bodies_are_resolved}
use Rattle.tw_resolve.specs.Resolved.{resolved_body}
use Rattle.tw_terms.specs.View.{skeleton_of}
use Rattle.tw_written.specs.View.{written_body_of}
use Rattle.tw_recon.proofs.Asking.{resolved_to_none}
use Rattle.tw_recon.proofs.begun.tell.Goals as goal

pub returns-in-Err-clause-refused : goal.returns-in-Err-clause-refused
returns-in-Err-clause-refused c = c.of_skeletons.ensures c.args.signature.now (declaration_of c.args.decl.now) c.in-Err.ensures.refused

pub unreachable-requires : goal.unreachable-requires
unreachable-requires c =
    let o = map skeleton_of c.in-Ok.approx.omitted.items in
    let d = declaration_of c.args.decl.now in
    let (w, r, s) = bodies_are_resolved c.args.signature.now c.is_canonical.ensures d (rows_of c.in-Ok.approx.free.items) o c.in-Ok.ensures.skeletons in
    resolved_to_none written_body_of c.in_ok-written.field-0 (resolved_body c.args.signature.now (rows_of c.deref.result.now) o d) w c.in_default.is c.in_ok-written.ensures
    (ap (λ xs. resolved_body c.args.signature.now (rows_of xs) o d) c.deref.ensures.value ∙ r)
