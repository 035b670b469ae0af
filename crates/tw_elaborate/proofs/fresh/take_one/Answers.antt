use Rattle.std.proofs.Common.{◌≡◌, ◌<◌, ap, arith, sym, subst, ◌∙◌, rules}
use Rattle.lf.specs.Substitution.{single}
use Rattle.lf.specs.Syntax.{pi, skeleton}
use Rattle.lf_unification.specs.Offering.{raised}
use Rattle.tw_hered.specs.Fits.{TypeFits}
use Rattle.tw_terms.specs.OpenView.{open_term_of, open_type_of}
use Rattle.tw_open.specs.Fits.{TypeStands}
use Rattle.tw_elaborate.specs.View.{made}
use Rattle.tw_open.proofs.Standing.{range_fits}
use Rattle.tw_open.proofs.Steps.{steps}
use Rattle.tw_elaborate.proofs.Taking.{keeps_same}
use Rattle.lf.specs.Depth.{depth_limit, type_depth}
use Rattle.lf.specs.Typing.{instantiate_type}
use Rattle.tw_hered.specs.declared.fault.HeredFault.TheVariants.{TooDeep}
use Rattle.tw_open.proofs.DeepKinds.{fault_of_call}
use Rattle.tw_elaborate.proofs.fresh.take_one.Goals as goal

pub instantiated-requires : goal.instantiated-requires
instantiated-requires c =
    let D = c.args.state.now.locals in
    let s = made c.args.state.now in
    let A = open_type_of c.deref-in-Pi-2.result.now in
    let B = open_type_of c.deref-in-Pi.result.now in
    let x : open_type_of c.args.ty ≡ pi A B = grind (arith, steps) in
    let n : open_term_of c.in_ok-arg-in-Pi.arg ≡ raised D A s.next = c.in_ok-arg-in-Pi.ensures.ok.term ∙ ap (λ Z. raised D (open_type_of Z) s.next) (c.deref.ensures ∙ sym c.deref-in-Pi-2.ensures) in
    subst (λ N. TypeFits (single (skeleton A) N) B) (sym n) (range_fits s D A B (subst (TypeStands s D) x c.requires))

pub returns-clause-keeps : goal.returns-clause-keeps
returns-clause-keeps c = keeps_same c.args.state.now

pub returns-in_err-rest-in-Pi-clause-too_deep : goal.returns-in_err-rest-in-Pi-clause-too_deep
returns-in_err-rest-in-Pi-clause-too_deep c = λ is.
    let D = c.args.state.now.locals in
    let s = made c.args.state.now in
    let A = open_type_of c.deref-in-Pi-2.result.now in
    let B = open_type_of c.deref-in-Pi.result.now in
    let x : open_type_of c.args.ty ≡ pi A B = grind (arith, steps) in
    let n : open_term_of c.in_ok-arg-in-Pi.arg ≡ raised D A s.next = c.in_ok-arg-in-Pi.ensures.ok.term ∙ ap (λ Z. raised D (open_type_of Z) s.next) (c.deref.ensures ∙ sym c.deref-in-Pi-2.ensures) in
    let h = c.in_err-rest-in-Pi.ensures.too_deep (fault_of_call c.from_residual-in_err-rest-in-Pi.result c.in_err-rest-in-Pi.field-0.0 TooDeep (search rules) is) in
    record { domain = A; range = B; is = x; deep = subst (λ N. depth_limit < type_depth (instantiate_type A N B)) n h }
