use Rattle.std.proofs.Common.{◌≡◌, ◌∷◌, sym, ap, ◌∙◌, arith, rules}
use Rattle.lf.specs.Entries.{signature_of}
use Rattle.lf.specs.Syntax.{kind_pi}
use Rattle.tw_terms.specs.OpenView.{open_type_of}
use Rattle.tw_open.specs.View.{open_kind_of}
use Rattle.tw_elaborate.proofs.ComparedKinds.{comparing_kinds, kind_domain_deep, kinds_on}
use Rattle.tw_open.proofs.Steps.{steps}
use Rattle.tw_elaborate.proofs.Taking.{keeps_same, keeps_then}
use Rattle.tw_hered.specs.declared.fault.HeredFault.TheVariants.{TooDeep}
use Rattle.tw_open.proofs.DeepKinds.{fault_of_call}
use Rattle.tw_elaborate.proofs.equations.compare_kinds.Goals as goal

pub returns-in_err-context-clause-keeps : goal.returns-in_err-context-clause-keeps
returns-in_err-context-clause-keeps c = keeps_same c.args.state.now

pub loop-found-init : goal.loop-found-init
loop-found-init c = comparing_kinds (signature_of c.args.signature.now) c.args.state.now.locals c.in_ok-context.context (open_kind_of c.args.found.now) (open_kind_of c.args.expected.now) c.args.state.now c.in_ok-context.ensures c.requires.found

pub returns-in_err-compare_in-clause-keeps : goal.returns-in_err-compare_in-clause-keeps
returns-in_err-compare_in-clause-keeps c = keeps_then c.args.state.now c.loop-found.state c.compare_in.new.state c.loop-found.invariant.keeps c.in_err-compare_in.ensures.keeps

pub returns-in_err-copy-clause-keeps : goal.returns-in_err-copy-clause-keeps
returns-in_err-copy-clause-keeps c = keeps_then c.args.state.now c.loop-found.state c.compare_in.new.state c.loop-found.invariant.keeps c.in_ok-compare_in.ensures.keeps

pub returns-in_err-push-clause-keeps : goal.returns-in_err-push-clause-keeps
returns-in_err-push-clause-keeps c = keeps_then c.args.state.now c.loop-found.state c.compare_in.new.state c.loop-found.invariant.keeps c.in_ok-compare_in.ensures.keeps

pub loop-found-preserved : goal.loop-found-preserved
loop-found-preserved c =
    let A = open_type_of c.deref.result.now in
    let X = open_type_of c.deref-in-Pi.result.now in
    let M = open_kind_of c.deref-found.result.now in
    let N = open_kind_of c.deref-expected.result.now in
    let e : open_kind_of c.loop-found.found.now ≡ kind_pi A M = grind (arith, steps) in
    let f : open_kind_of c.loop-found.expected.now ≡ kind_pi X N = grind (arith, steps) in
    let z : open_type_of c.in_ok-copy.field-0 ≡ A = c.in_ok-copy.ensures ∙ ap open_type_of (c.deref-in-Pi-2.ensures ∙ sym c.deref.ensures) in
    let g : c.push.new.self ≡ A ∷ c.loop-found.context = c.in_ok-push.ensures.ok ∙ ap (λ Y. Y ∷ c.loop-found.context) z in
    kinds_on (signature_of c.args.signature.now) c.loop-found.invariant c.in_ok-outside.outside c.push.new.self A X M N c.compare_in.new.state e f c.in_ok-outside.ensures g c.in_ok-compare_in.ensures.ok c.in_ok-compare_in.ensures.keeps

pub returns-in_err-compare_in-clause-too_deep : goal.returns-in_err-compare_in-clause-too_deep
returns-in_err-compare_in-clause-too_deep c = λ is.
    let A = open_type_of c.deref.result.now in
    let M = open_kind_of c.in-Pi.range.value in
    let e : open_kind_of c.loop-found.found.now ≡ kind_pi A M = grind (arith, steps) in
    kind_domain_deep (signature_of c.args.signature.now) c.loop-found.invariant A M e (c.in_err-compare_in.ensures.too_deep (fault_of_call c.from_residual-in_err-compare_in.result c.in_err-compare_in.field-0.0 TooDeep (search rules) is)).deep
