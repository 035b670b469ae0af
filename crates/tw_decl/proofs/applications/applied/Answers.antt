use Rattle.std.proofs.Common.{List, None, Some, map, refl, sym, ◌∙◌, subst}
use Rattle.lf.specs.Entries.{Entry}
use Rattle.tw_terms.specs.declared.canonical.ConstId.{ConstId}
use Rattle.tw_decl.specs.Steps.{AreTaken, application_of}
use Rattle.tw_decl.proofs.Naming.{applied_by, first_unknown_by, misapplied_by}
use Rattle.tw_decl.proofs.applications.applied.Goals as goal

pub returns-in-Ok-Some-clause-cause : goal.returns-in-Ok-Some-clause-cause
returns-in-Ok-Some-clause-cause c k p n q =
    let xs = map application_of c.args.applications.now in
    first_unknown_by c.args.session.now k xs c.args.before p n q c.in-Ok-Some.mention (sym c.in-Ok-Some.field-0-is ∙ c.in-Ok-Some.ensures)

pub returns-in-Ok-Some-all_taken-clause-applied : goal.returns-in-Ok-Some-all_taken-clause-applied
returns-in-Ok-Some-all_taken-clause-applied c k p q =
    let xs = map application_of c.args.applications.now in
    let families = c.in-Ok-Some-all_taken.families in
    let taken : AreTaken c.signature.result.now xs (Some families) = subst (AreTaken c.signature.result.now xs) c.in-Ok-Some-all_taken.field-0-is c.in-Ok-Some-all_taken.ensures in
    let there : AreTaken c.args.session.now.signature xs (Some families) = subst (λ (es : List Entry). AreTaken es xs (Some families)) c.signature.ensures taken in
    applied_by c.args.session.now k xs c.args.before p q (map (λ (id : ConstId). id.0) families.items) (sym c.in-Ok-None.field-0-is ∙ c.in-Ok-None.ensures) there.0 there.1

pub returns-in-Ok-None-all_taken-clause-cause : goal.returns-in-Ok-None-all_taken-clause-cause
returns-in-Ok-None-all_taken-clause-cause c k p n q =
    let xs = map application_of c.args.applications.now in
    let taken : AreTaken c.signature.result.now xs None = subst (AreTaken c.signature.result.now xs) c.in-Ok-None-all_taken.field-0-is c.in-Ok-None-all_taken.ensures in
    let there : AreTaken c.args.session.now.signature xs None = subst (λ (es : List Entry). AreTaken es xs None) c.signature.ensures taken in
    (misapplied_by c.args.session.now k xs c.args.before p q (sym c.in-Ok-None.field-0-is ∙ c.in-Ok-None.ensures) there, refl)
