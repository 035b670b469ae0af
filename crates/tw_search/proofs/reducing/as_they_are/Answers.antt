use Rattle.std.proofs.Common.{map, rules}
use Rattle.lf.specs.Entries.{signature_of}
use Rattle.lf.proofs.Entries.{canonical_is_signature}
use Rattle.tw_hered.specs.declared.fault.HeredFault.TheVariants.{TooDeep}
use Rattle.tw_metas.specs.View.{equation_of}
use Rattle.tw_open.proofs.Faults.{fault_of_call}
use Rattle.tw_search.specs.HeadTypes.{head_type_of}
use Rattle.tw_search.proofs.GoalEquations.{fit_offered}
use Rattle.tw_search.proofs.Offered.{equations_fit}
use Rattle.tw_search.proofs.Reductions.{deep_types, stay_as_they_are}
use Rattle.tw_search.proofs.reducing.as_they_are.Goals as goal

pub equations-requires-clause-fits : goal.equations-requires-clause-fits
equations-requires-clause-fits c =
    let was = c.requires.was in
    let Σ = signature_of c.args.signature.now in
    let ok = canonical_is_signature c.args.signature.now c.is_canonical.ensures in
    let g = c.args.goal.now in
    fit_offered Σ ok g (head_type_of c.args.ty) c.args.offered.now.metas.items c.args.store.now.now was (equations_fit Σ ok g was.head was.before was.at)

pub returns-clause-ok : goal.returns-clause-ok
returns-clause-ok c es q = stay_as_they_are (signature_of c.args.signature.now) (canonical_is_signature c.args.signature.now c.is_canonical.ensures) c.args.goal.now (head_type_of c.args.ty) c.args.offered.now.metas.items c.args.store.now.now c.requires.was es (map equation_of c.in_ok-equations.field-0.items) q c.in_ok-equations.ensures.ok

pub returns-in_err-equations-clause-too_deep : goal.returns-in_err-equations-clause-too_deep
returns-in_err-equations-clause-too_deep c is es q = deep_types (signature_of c.args.signature.now) es c.args.store.now.now (c.in_err-equations.ensures.too_deep (fault_of_call c.from_residual.result c.in_err-equations.field-0.0 TooDeep (search rules) is) es q)
