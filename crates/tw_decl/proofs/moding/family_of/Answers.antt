use Rattle.std.proofs.Common.{refl, sym, ◌∙◌, inl}
use Rattle.tw_parse_checks.specs.Checks.{check_of}
use Rattle.tw_decl.proofs.Naming.{label_misapplied}
use Rattle.tw_decl.proofs.moding.family_of.Goals as goal

pub returns-then-is_its_label-clause-cause : goal.returns-then-is_its_label-clause-cause
returns-then-is_its_label-clause-cause c =
    let h = c.is_its_label.ensures.yes c.if-is_its_label.true in
    inl (label_misapplied c.args.session.now (check_of c.args.check.now) h.0 (sym h.1 ∙ c.in-Ok.ensures) h.2, refl)
