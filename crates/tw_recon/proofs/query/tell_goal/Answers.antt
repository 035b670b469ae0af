use Rattle.std.proofs.Common.{map, option_map, ap, ◌∙◌, sym}
use Rattle.tw_approx.specs.Answer.{rows_of}
use Rattle.tw_parse.specs.View.{term_of}
use Rattle.tw_resolve.specs.Resolved.{resolved_goal}
use Rattle.tw_terms.specs.View.{skeleton_of}
use Rattle.tw_written.specs.View.{written_body_of}
use Rattle.tw_recon.proofs.Asking.{goal_resolved, resolved_to_none}
use Rattle.tw_recon.proofs.query.tell_goal.Goals as goal

pub returns-in-Err-clause-refused : goal.returns-in-Err-clause-refused
returns-in-Err-clause-refused c = c.of_skeletons.ensures c.args.signature.now (term_of c.args.query.now.goal) c.in-Err.ensures.refused

pub returns-clause-written : goal.returns-clause-written
returns-clause-written c = record {
  objects = c.in-Ok.ensures.objects;
  omitted = map skeleton_of c.in-Ok.approx.omitted.items;
  skeletons = c.in-Ok.ensures.skeletons;
  resolved =
      ap (λ r. resolved_goal c.args.signature.now (rows_of r) (map skeleton_of c.in-Ok.approx.omitted.items) (term_of c.args.query.now.goal)) (sym c.deref.ensures.value)
      ∙ sym c.in_ok-written.ensures ∙ ap (option_map written_body_of) c.in-Some.is;
}

pub unreachable-requires : goal.unreachable-requires
unreachable-requires c =
    let o = map skeleton_of c.in-Ok.approx.omitted.items in
    let A = term_of c.args.query.now.goal in
    let (w, r) = goal_resolved c.args.signature.now c.is_canonical.ensures A (rows_of c.in-Ok.approx.free.items) o c.in-Ok.ensures.ty c.in-Ok.ensures.skeletons in
    resolved_to_none written_body_of c.in_ok-written.field-0 (resolved_goal c.args.signature.now (rows_of c.deref.result.now) o A) w c.in_default.is c.in_ok-written.ensures
    (ap (λ xs. resolved_goal c.args.signature.now (rows_of xs) o A) c.deref.ensures.value ∙ r)
