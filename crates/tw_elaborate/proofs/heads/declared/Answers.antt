use Rattle.std.proofs.Common.{sym, ap, subst, rules}
use Rattle.lf.specs.Eta.{eta_expand}
use Rattle.lf.specs.Syntax.{Head, skeleton}
use Rattle.lf_elaboration.specs.Elaboration.{TakesNew}
use Rattle.tw_signature.specs.View.{body_of, entry_of}
use Rattle.tw_terms.specs.OpenView.{open_head_of, open_spine_of, open_term_of, open_type_of}
use Rattle.tw_terms.specs.View.{term_of, type_of}
use Rattle.tw_terms.proofs.OpenViews.{open_head_of-Const}
use Rattle.tw_terms.specs.declared.open_terms.OpenHead.TheVariants.{Const}
use Rattle.tw_elaborate.specs.View.{made}
use Rattle.tw_hered.specs.declared.fault.HeredFault.TheVariants.{TooDeep}
use Rattle.tw_open.proofs.DeepKinds.{fault_of_call}
use Rattle.tw_elaborate.proofs.Declaring.{constant_inferred, declared_type_stands, defined_deep, defined_gives, defined_inferred, defined_type_stands}
use Rattle.tw_elaborate.proofs.Taking.{keeps_same}
use Rattle.tw_elaborate.specs.Deep.{deep_defined_implicit, deep_implicit}
use Rattle.tw_elaborate.specs.NewDeep.{TakesNewDeep}
use Rattle.tw_elaborate.proofs.heads.declared.Goals as goal

pub returns-in_default-clause-keeps : goal.returns-in_default-clause-keeps
returns-in_default-clause-keeps c = keeps_same c.args.state.now

pub returns-in_err-ty-in-Constant-clause-keeps : goal.returns-in_err-ty-in-Constant-clause-keeps
returns-in_err-ty-in-Constant-clause-keeps c = keeps_same c.args.state.now

pub returns-in_err-whole-in-Defined-clause-keeps : goal.returns-in_err-whole-in-Defined-clause-keeps
returns-in_err-whole-in-Defined-clause-keeps c = keeps_same c.args.state.now

pub returns-in_err-open_type-in-Defined-clause-keeps : goal.returns-in_err-open_type-in-Defined-clause-keeps
returns-in_err-open_type-in-Defined-clause-keeps c = keeps_same c.args.state.now

pub returns-in-Family-clause-keeps : goal.returns-in-Family-clause-keeps
returns-in-Family-clause-keeps c = keeps_same c.args.state.now

pub take_new-requires : goal.take_new-requires
take_new-requires c = declared_type_stands c.args.signature.now c.requires.canonical (made c.args.state.now) c.args.state.now.locals c.requires.stands c.args.id.0 (entry_of c.in-Some.entry.now) (sym c.in-Some.ensures) (type_of c.in-Constant.ty) (open_type_of c.in_ok-ty-in-Constant.ty) c.in_ok-ty-in-Constant.ensures (ap body_of c.in-Constant.is)

pub take_new-requires-in-Defined : goal.take_new-requires-in-Defined
take_new-requires-in-Defined c = defined_type_stands c.args.signature.now c.requires.canonical (made c.args.state.now) c.args.state.now.locals c.requires.stands c.args.id.0 (entry_of c.in-Some.entry.now) (sym c.in-Some.ensures) (term_of c.in-Defined.term) (type_of c.in-Defined.ty) (open_type_of c.in_ok-open_type-in-Defined.field-0) c.in-Defined.abbrev c.in_ok-open_type-in-Defined.ensures (ap body_of c.in-Defined.is)

pub on_arguments-requires : goal.on_arguments-requires
on_arguments-requires c = defined_gives c.args.signature.now c.requires.canonical (made c.args.state.now) c.args.state.now.locals c.requires.stands c.args.id.0 (entry_of c.in-Some.entry.now) (sym c.in-Some.ensures) (term_of c.in-Defined.term) (open_term_of c.in_ok-open_term-in-Defined.field-0) (type_of c.in-Defined.ty) (open_type_of c.in_ok-whole-in-Defined.whole) (open_type_of c.in_ok-spine-in-Defined.rest) c.in-Defined.abbrev c.in-Some.entry.now.implicit (made c.take_new-in-Defined.new.state) (open_spine_of c.in_ok-spine-in-Defined.spine) c.in_ok-open_term-in-Defined.ensures c.in_ok-whole-in-Defined.ensures (ap body_of c.in-Defined.is) (subst (λ Y. TakesNew c.in-Some.entry.now.implicit c.args.state.now.locals Y (made c.args.state.now) (made c.take_new-in-Defined.new.state) (open_spine_of c.in_ok-spine-in-Defined.spine) (open_type_of c.in_ok-spine-in-Defined.rest)) c.in_ok-open_type-in-Defined.ensures c.in_ok-spine-in-Defined.ensures.ok)

pub returns-in_err-term-in-Defined-clause-too_deep : goal.returns-in_err-term-in-Defined-clause-too_deep
returns-in_err-term-in-Defined-clause-too_deep c = λ is ns at. defined_deep c.args.signature.now ns at c.args.state.now.locals (made c.args.state.now) (made c.take_new-in-Defined.new.state) c.args.id.0 (entry_of c.in-Some.entry.now) (sym c.in-Some.ensures) (term_of c.in-Defined.term) (open_term_of c.in_ok-open_term-in-Defined.field-0) (type_of c.in-Defined.ty) (open_type_of c.in_ok-open_type-in-Defined.field-0) (open_type_of c.in_ok-whole-in-Defined.whole) (open_type_of c.in_ok-spine-in-Defined.rest) c.in-Defined.abbrev (open_spine_of c.in_ok-spine-in-Defined.spine) c.in_ok-open_term-in-Defined.ensures c.in_ok-open_type-in-Defined.ensures c.in_ok-whole-in-Defined.ensures (ap body_of c.in-Defined.is) c.in_ok-spine-in-Defined.ensures.ok (c.in_err-term-in-Defined.ensures.too_deep (fault_of_call c.from_residual-in_err-term-in-Defined.result c.in_err-term-in-Defined.field-0.0 TooDeep (search rules) is))

pub returns-in_ok-term-in-Defined-clause-ok : goal.returns-in_ok-term-in-Defined-clause-ok
returns-in_ok-term-in-Defined-clause-ok c = λ ns at. defined_inferred c.args.signature.now ns at c.args.state.now.locals (made c.args.state.now) (made c.take_new-in-Defined.new.state) c.args.id.0 (entry_of c.in-Some.entry.now) (sym c.in-Some.ensures) (term_of c.in-Defined.term) (open_term_of c.in_ok-open_term-in-Defined.field-0) (type_of c.in-Defined.ty) (open_type_of c.in_ok-open_type-in-Defined.field-0) (open_type_of c.in_ok-whole-in-Defined.whole) (open_type_of c.in_ok-spine-in-Defined.rest) c.in-Defined.abbrev (open_spine_of c.in_ok-spine-in-Defined.spine) (open_term_of c.in_ok-term-in-Defined.term) c.in_ok-open_term-in-Defined.ensures c.in_ok-open_type-in-Defined.ensures c.in_ok-whole-in-Defined.ensures (ap body_of c.in-Defined.is) c.in_ok-spine-in-Defined.ensures.ok c.in_ok-term-in-Defined.ensures.ok

pub returns-in_ok-spine-in-Constant-clause-ok : goal.returns-in_ok-spine-in-Constant-clause-ok
returns-in_ok-spine-in-Constant-clause-ok c = λ ns at. constant_inferred c.args.signature.now ns at c.args.state.now.locals (made c.args.state.now) (made c.take_new.new.state) c.args.id.0 (entry_of c.in-Some.entry.now) (sym c.in-Some.ensures) (type_of c.in-Constant.ty) (open_type_of c.in_ok-ty-in-Constant.ty) (open_type_of c.in_ok-spine-in-Constant.rest) (open_spine_of c.in_ok-spine-in-Constant.spine) (eta_expand (skeleton (open_type_of c.in_ok-spine-in-Constant.rest)) (open_head_of (Const c.args.id)) (open_spine_of c.in_ok-spine-in-Constant.spine)) c.in_ok-ty-in-Constant.ensures (ap body_of c.in-Constant.is) c.in_ok-spine-in-Constant.ensures.ok (ap (λ (h : Head). eta_expand (skeleton (open_type_of c.in_ok-spine-in-Constant.rest)) h (open_spine_of c.in_ok-spine-in-Constant.spine)) (open_head_of-Const c.args.id))

pub returns-in_err-spine-in-Constant-clause-too_deep : goal.returns-in_err-spine-in-Constant-clause-too_deep
returns-in_err-spine-in-Constant-clause-too_deep c = λ is ns at.
    let h = c.in_err-spine-in-Constant.ensures.too_deep (fault_of_call c.from_residual-in_err-spine-in-Constant.result c.in_err-spine-in-Constant.field-0.0 TooDeep (search rules) is) in
    deep_implicit (sym c.in-Some.ensures) (ap body_of c.in-Constant.is) (subst (λ Y. TakesNewDeep c.in-Some.entry.now.implicit c.args.state.now.locals Y (made c.args.state.now)) c.in_ok-ty-in-Constant.ensures h)

pub returns-in_err-spine-in-Defined-clause-too_deep : goal.returns-in_err-spine-in-Defined-clause-too_deep
returns-in_err-spine-in-Defined-clause-too_deep c = λ is ns at.
    let h = c.in_err-spine-in-Defined.ensures.too_deep (fault_of_call c.from_residual-in_err-spine-in-Defined.result c.in_err-spine-in-Defined.field-0.0 TooDeep (search rules) is) in
    deep_defined_implicit (sym c.in-Some.ensures) (ap body_of c.in-Defined.is) (subst (λ Y. TakesNewDeep c.in-Some.entry.now.implicit c.args.state.now.locals Y (made c.args.state.now)) c.in_ok-open_type-in-Defined.ensures h)
