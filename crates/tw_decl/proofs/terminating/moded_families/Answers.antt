use Rattle.std.proofs.Common.{List, map, refl, sym, ap, ◌∙◌}
use Rattle.lf_checks.specs.ModeRows.{first_unmoded, is_moded}
use Rattle.tw_mode.specs.ModeTables.{mode_rows}
use Rattle.tw_parse_checks.specs.Checks.{call_of, order_of as written_of, terminates}
use Rattle.tw_terms.specs.declared.canonical.ConstId.{ConstId}
use Rattle.tw_decl.proofs.Unset.{modes_lacking, not_come}
use Rattle.tw_decl.proofs.terminating.moded_families.Goals as goal

pub returns-in-Err-clause-cause : goal.returns-in-Err-clause-cause
returns-in-Err-clause-cause c =
    let O = written_of c.args.order.now in
    let ps = map call_of c.args.patterns.now in
    not_come c.args.session.now O ps c.args.first c.in-Err.refusal (c.in-Err.ensures.cause (terminates O ps) refl (λ m e l. l) c.requires)

pub returns-in-Some-clause-cause : goal.returns-in-Some-clause-cause
returns-in-Some-clause-cause c =
    let O = written_of c.args.order.now in
    let ps = map call_of c.args.patterns.now in
    let moded = is_moded (mode_rows c.args.session.now.checked.modes) in
    modes_lacking c.args.session.now O ps c.args.first c.in-Some.family.0 c.no_mode.result
    (record {
      families = map (λ (f : ConstId). f.0) c.in-Ok.families.items;
      applied = c.in-Ok.ensures.applied (terminates O ps) refl c.requires;
      unmoded = sym (c.in-Some.ensures ∙ ap (λ (xs : List ConstId). first_unmoded moded (map (λ (f : ConstId). f.0) xs)) c.deref.ensures.value);
    }) c.no_mode.ensures

pub returns-in-None-clause-named : goal.returns-in-None-clause-named
returns-in-None-clause-named c =
    let O = written_of c.args.order.now in
    let ps = map call_of c.args.patterns.now in
    let moded = is_moded (mode_rows c.args.session.now.checked.modes) in
    record {
      applied = c.in-Ok.ensures.applied (terminates O ps) refl c.requires;
      moded = sym (c.in-None.ensures ∙ ap (λ (xs : List ConstId). first_unmoded moded (map (λ (f : ConstId). f.0) xs)) c.deref.ensures.value);
    }
