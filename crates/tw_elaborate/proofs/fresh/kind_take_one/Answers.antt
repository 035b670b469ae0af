use Rattle.std.proofs.Common.{◌≡◌, ◌<◌, ap, arith, sym, subst, ◌∙◌, rules}
use Rattle.lf.specs.Syntax.{kind_pi, skeleton}
use Rattle.lf_unification.specs.Offering.{raised}
use Rattle.tw_hered.specs.Fits.{put_at}
use Rattle.tw_terms.specs.OpenView.{open_term_of, open_type_of}
use Rattle.tw_hered.specs.Fits.{KindFits}
use Rattle.tw_open.specs.Fits.{KindStands}
use Rattle.tw_open.specs.View.{open_kind_of}
use Rattle.tw_elaborate.specs.View.{made}
use Rattle.tw_open.proofs.Standing.{kind_range_fits}
use Rattle.tw_open.proofs.Steps.{steps}
use Rattle.tw_elaborate.proofs.Taking.{keeps_same}
use Rattle.lf.specs.Depth.{depth_limit, kind_depth}
use Rattle.lf.specs.Typing.{instantiate_kind}
use Rattle.tw_hered.specs.declared.fault.HeredFault.TheVariants.{TooDeep}
use Rattle.tw_open.proofs.DeepKinds.{fault_of_call}
use Rattle.tw_elaborate.proofs.fresh.kind_take_one.Goals as goal

pub instantiate_kind-requires : goal.instantiate_kind-requires
instantiate_kind-requires c =
    let D = c.args.state.now.locals in
    let s = made c.args.state.now in
    let A = open_type_of c.deref-in-Pi-2.result.now in
    let B = open_kind_of c.deref-in-Pi.result.now in
    let x : open_kind_of c.args.kind ≡ kind_pi A B = grind (arith, steps) in
    let n : open_term_of c.in_ok-arg-in-Pi.arg ≡ raised D A s.next = c.in_ok-arg-in-Pi.ensures.ok.term ∙ ap (λ Z. raised D (open_type_of Z) s.next) (c.deref.ensures ∙ sym c.deref-in-Pi-2.ensures) in
    subst (λ N. KindFits (put_at 0 (skeleton A) N) B) (sym n) (kind_range_fits s D A B (subst (KindStands s D) x c.requires))

pub returns-in-Star-clause-keeps : goal.returns-in-Star-clause-keeps
returns-in-Star-clause-keeps c = keeps_same c.args.state.now

pub returns-in_err-rest-in-Pi-clause-too_deep : goal.returns-in_err-rest-in-Pi-clause-too_deep
returns-in_err-rest-in-Pi-clause-too_deep c = λ is.
    let D = c.args.state.now.locals in
    let s = made c.args.state.now in
    let A = open_type_of c.deref-in-Pi-2.result.now in
    let B = open_kind_of c.deref-in-Pi.result.now in
    let x : open_kind_of c.args.kind ≡ kind_pi A B = grind (arith, steps) in
    let n : open_term_of c.in_ok-arg-in-Pi.arg ≡ raised D A s.next = c.in_ok-arg-in-Pi.ensures.ok.term ∙ ap (λ Z. raised D (open_type_of Z) s.next) (c.deref.ensures ∙ sym c.deref-in-Pi-2.ensures) in
    let h = c.in_err-rest-in-Pi.ensures.too_deep (fault_of_call c.from_residual-in_err-rest-in-Pi.result c.in_err-rest-in-Pi.field-0.0 TooDeep (search rules) is) in
    record { domain = A; range = B; is = x; deep = subst (λ N. depth_limit < kind_depth (instantiate_kind A N B)) n h }
