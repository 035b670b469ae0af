use Rattle.std.proofs.Common.{◌≡◌, arith, rules}
use Rattle.lf.specs.Syntax.{kind_pi}
use Rattle.tw_terms.specs.OpenView.{open_term_of, open_type_of}
use Rattle.tw_hered.specs.declared.fault.HeredFault.TheVariants.{TooDeep}
use Rattle.tw_open.specs.View.{open_kind_of}
use Rattle.tw_open.proofs.Arguments.{range_takes}
use Rattle.tw_open.proofs.DeepKinds.{fault_of_call, takes_first_deep}
use Rattle.tw_open.proofs.Steps.{steps}
use Rattle.tw_open.proofs.indices.take_argument.Goals as goal

pub instantiate_kind-requires : goal.instantiate_kind-requires
instantiate_kind-requires c =
    let A = open_type_of c.deref-in-Pi.result.now in
    let L = open_kind_of c.deref.result.now in
    let e : open_kind_of c.args.kind ≡ kind_pi A L = grind (arith, steps) in
    range_takes c.args.locals.now (open_kind_of c.args.kind) L A (open_term_of c.args.left.now) e c.requires

pub returns-in_err-rest-in-Pi-clause-too_deep : goal.returns-in_err-rest-in-Pi-clause-too_deep
returns-in_err-rest-in-Pi-clause-too_deep c = λ is S.
    let A = open_type_of c.deref-in-Pi.result.now in
    let L = open_kind_of c.deref.result.now in
    let e : open_kind_of c.args.kind ≡ kind_pi A L = grind (arith, steps) in
    takes_first_deep (open_kind_of c.args.kind) L A (open_term_of c.args.left.now) S e (c.in_err-rest-in-Pi.ensures.deep_domain (fault_of_call c.from_residual.result c.in_err-rest-in-Pi.field-0.0 TooDeep (search rules) is))
